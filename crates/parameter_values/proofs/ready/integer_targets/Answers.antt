use Rattle.std.proofs.Common.{pos, Some, get_or, subst, arith, rules, SFits}
use Rattle.std.specs.Int.{w128}
use Rattle.std.proofs.lemmas.Int.{to_z-of_z}
use Rattle.parameter_values.specs.declared.change.IntegerPair.{IntegerPair}
use Rattle.std.specs.BTreeMap.{get}
use Rattle.std.specs.Ordering.{int_cmp}
use Rattle.std.proofs.lemmas.Cmp.{int_cmp_total}
use Rattle.std.proofs.lemmas.List.{take_all}
use Rattle.std.proofs.lemmas.Map.Lookups.{exact_signed}
use Rattle.parameter_values.specs.Ready.{FindsInteger}
use Rattle.parameter_values.proofs.LastLemmas.{integer_more}
use Rattle.parameter_values.proofs.MapLemmas.{updated_each}
use Rattle.parameter_values.proofs.ready.integer_targets.Goals as goal

pub loop-pair-preserved : goal.loop-pair-preserved
loop-pair-preserved c =
    let d : IntegerPair = record { source = pos 0; target = pos 0 } in
    let p : IntegerPair = get_or c.args.pairs.now c.loop-pair.pair-index d in
    let source_fits : SFits w128 p.source = search rules in
    let target_fits : SFits w128 p.target = search rules in
    let u = simp (to_z-of_z w128 p.source source_fits, to_z-of_z w128 p.target target_fits) at c.in_ok-insert.ensures.updates in
    integer_more c.args.pairs.now c.loop-pair.pair-index d (get int_cmp c.loop-pair.targets) (get int_cmp c.insert.new.self) c.loop-pair-test.true
    (updated_each int_cmp int_cmp_total exact_signed c.loop-pair.targets c.insert.new.self p.source (Some p.target) u) c.loop-pair.invariant

pub returns : goal.returns
returns c = λ x. subst (λ z. FindsInteger z x (get int_cmp c.loop-pair.targets x)) (take_all c.loop-pair.pair-index c.args.pairs.now (omega arith)) (c.loop-pair.invariant x)
