use Rattle.std.proofs.Common.{◌≡◌, ◌+◌, Bool, true, false, take, sym, subst, refl, arith}
use mathlib.Core.Bool.{beq}
use Rattle.std.proofs.lemmas.List.{take_all}
use Rattle.parameter_values.specs.declared.change.BooleanPair.{BooleanPair}
use Rattle.parameter_values.specs.Ready.{FindsBoolean}
use Rattle.parameter_values.proofs.LastLemmas.{boolean_more, boolean_other}
use Rattle.parameter_values.proofs.ready.boolean_target.Goals as goal
use Rattle.parameter_values.proofs.ready.boolean_target.Goals.{then-pair-source, else-pair-source}

same_if : (a b : Bool) → beq a b ≡ true → a ≡ b
same_if true true e = refl
same_if false false e = refl
same_if true false e = cc
same_if false true e = cc

other_if : (a b : Bool) → beq a b ≡ false → a ≡ b → ⊥
other_if true true e s = cc
other_if false false e s = cc
other_if true false e s = cc
other_if false true e s = cc

pub loop-pair-preserved : goal.loop-pair-preserved
loop-pair-preserved c =
    let d : BooleanPair = record { source = false; target = false } in
    elim c.if-pair-source.branch [
      | then-pair-source w ↦ subst (FindsBoolean (take (c.loop-pair.pair-index + 1) c.args.pairs.now) c.args.source) (sym w.target-is) (boolean_more c.args.pairs.now c.loop-pair.pair-index d c.args.source c.loop-pair.target c.loop-pair-test.true (same_if _ _ w.if-pair-source.true))
      | else-pair-source w ↦ subst (FindsBoolean (take (c.loop-pair.pair-index + 1) c.args.pairs.now) c.args.source) (sym w.target-is) (boolean_other c.args.pairs.now c.loop-pair.pair-index d c.args.source c.loop-pair.target c.loop-pair-test.true (other_if _ _ w.if-pair-source.false) c.loop-pair.invariant)
    ]

pub returns : goal.returns
returns c = subst (λ z. FindsBoolean z c.args.source c.loop-pair.target) (take_all c.loop-pair.pair-index c.args.pairs.now (omega arith)) c.loop-pair.invariant
