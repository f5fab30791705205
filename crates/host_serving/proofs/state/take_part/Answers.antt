use Rattle.std.proofs.Common.{◌≡◌, ◌∙◌, ap, length, length-take, arith, subst, sym}
use Rattle.host_serving.specs.Frames.{Takes}
use Rattle.host_serving.proofs.state.take_part.Goals as goal

pub returns-in-Ok-extend_from_slice-clause-came : goal.returns-in-Ok-extend_from_slice-clause-came
returns-in-Ok-extend_from_slice-clause-came g c =
    let cut = ap length c.prefix_of.ensures ∙ length-take c.in-Ok.count c.fill.new.into in
    record {
      part = c.prefix_of.result.now;
      takes = subst (Takes (g.I.Source.view c.args.input.now) (g.I.Source.view c.fill.new.input)) (sym c.prefix_of.ensures) c.in-Ok.ensures.takes;
      joined = c.in-Ok-extend_from_slice.ensures.items;
      size = omega (arith, cut, c.in-Ok.ensures.bound);
      within = omega (arith, c.in-Ok.ensures.bound);
      at_end = λ less. c.in-Ok.ensures.end (omega (arith, less));
    }
