use Rattle.std.proofs.Common.{◌≡◌, ◌+◌, ℕ, ap, arith, length, length-take, refl, rules, subst, sym}
use Rattle.sim_base.specs.Causes.{Rose}
use Rattle.host_serving.specs.Frames.{Takes}
use Rattle.host_serving.proofs.FrameLemmas.{gained, gained_size, takes_none}
use Rattle.host_serving.proofs.state.next_state.Goals as goal

pub parts-init : goal.parts-init
parts-init g c =
    let view = g.I.Source.view c.args.input.now in
    let size = ap length c.new-state.ensures.items in
    (subst (Takes view view) (sym c.new-state.ensures.items) (takes_none view), omega (arith, size))

pub parts-preserved : goal.parts-preserved
parts-preserved g c =
    let gains = c.in-Ok.ensures.came in
    let size : length c.take_part.new.state.items ≡ length c.parts.state.items + c.in-Ok.count = gained_size _ _ _ _ _ _ gains in
    let cut = length-take c.min-room.result c.parts.part in
    let many = c.len-in-parts.ensures in
    (gained _ _ _ _ _ _ _ c.parts.invariant.0 gains, omega (arith, size, cut, many, c.parts.state.ok.0, gains.within, c.min-room.ensures, c.parts.invariant.1))

pub returns-then-count-room : goal.returns-then-count-room
returns-then-count-room g c =
    let gains = c.in-Ok.ensures.came in
    let size : length c.take_part.new.state.items ≡ length c.parts.state.items + c.in-Ok.count = gained_size _ _ _ _ _ _ gains in
    let long : length c.parts.part ≡ 4096 = search rules in
    let cut = length-take c.min-room.result c.parts.part in
    let many = c.len-in-parts.ensures in
    let told = c.len-then-count-room.ensures in
    record {
      state = c.take_part.new.state.items;
      takes = gained _ _ _ _ _ _ _ c.parts.invariant.0 gains;
      at_end = gains.at_end (omega (arith, c.if-count-room.true, long, cut, c.min-room.ensures));
      short = omega (arith, size, many, c.parts.state.ok.0, c.if-count-room.true, c.min-room.ensures);
      count_is = omega (arith, told, c.take_part.new.state.ok.0);
    }

pub returns-in-Err-Failed : goal.returns-in-Err-Failed
returns-in-Err-Failed g c = subst (λ (n : ℕ). Rose n (g.I.Source.view c.take_part.new.input).faults) c.parts.invariant.0.quiet (c.in-Err-Failed.ensures.failed c.in-Err-Failed.field-0-is)
