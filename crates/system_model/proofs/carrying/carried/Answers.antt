use Rattle.std.proofs.Common.{ℤ, ◌+◌, drop, sym, ap, ◌∙◌, subst, arith, to_z}
use Rattle.std.specs.Int.{w128}
use Rattle.std.specs.Prelude.{option_and_then}
use Rattle.parameter_values.specs.declared.change.Change.{Change}
use Rattle.system_model.specs.Carried.{IsWide, changed, fitting, through}
use Rattle.system_model.proofs.CarriedLemmas.{carried_next, wide_kept}
use Rattle.system_model.proofs.carrying.carried.Goals as goal

pub loop-i-preserved : goal.loop-i-preserved
loop-i-preserved c =
    let cs = c.args.changes.now in
    let i = c.loop-i.i in
    let kind = c.args.kind in
    let x = to_z w128 c.loop-i.number-bits in
    let kept = sym (wide_kept c.in_ok-number-2.number c.in_ok-number-2.ensures.wide) in
    record {
      up_to = omega arith;
      wide = subst IsWide kept c.in_ok-number-2.ensures.wide;
      rest = c.loop-i.invariant.rest
          ∙ carried_next cs i c.index-changes-i.result kind x c.in_ok-number-2.number c.loop-i-test.true (ap (λ (d : Change). changed d x) (sym c.index-changes-i.is) ∙ sym c.in_ok-number-2.ensures.changed)
          ∙ ap (λ (z : ℤ). option_and_then (fitting kind) (through (drop (i + 1) cs) z)) kept;
    }
