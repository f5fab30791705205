use Rattle.std.proofs.Common.{take, get_or, sym, ap, ◌∙◌, arith, List, to_z, of_z}
use Rattle.std.specs.Int.{w128}
use Rattle.std.proofs.lemmas.List.{take_more}
use Rattle.parameter_values.specs.declared.change.IntegerPair.{IntegerPair}
use Rattle.system_model.specs.Carried.{or_else, target_of}
use Rattle.system_model.proofs.CarriedLemmas.{target_push}
use Rattle.system_model.proofs.carrying.target_of.Goals as goal

pub loop-pair-preserved : goal.loop-pair-preserved
loop-pair-preserved c =
    let ps = c.args.pairs.now in
    let i = c.loop-pair.pair-index in
    let x = to_z w128 (of_z w128 c.args.number) in
    c.later_target-target.ensures ∙ ap (or_else _) c.loop-pair.invariant ∙ sym (target_push (take i ps) (get_or ps i _) x) ∙ sym (ap (λ (qs : List IntegerPair). target_of qs x) (take_more ps i _ (omega arith)))
