use Rattle.std.proofs.Common.{take, get_or, sym, ap, ◌∙◌, arith, List, to_z, of_z}
use Rattle.std.specs.Int.{w128}
use Rattle.std.proofs.lemmas.List.{take_more}
use Rattle.parameter_values.specs.declared.change.BooleanPair.{BooleanPair}
use Rattle.system_model.specs.Carried.{or_else, truth_of}
use Rattle.system_model.proofs.CarriedLemmas.{truth_push}
use Rattle.system_model.proofs.carrying.truth_of.Goals as goal

pub loop-pair-preserved : goal.loop-pair-preserved
loop-pair-preserved c =
    let ps = c.args.pairs.now in
    let i = c.loop-pair.pair-index in
    let x = to_z w128 (of_z w128 c.args.number) in
    record {
      found = c.later_truth-target.ensures.truth ∙ ap (or_else _) c.loop-pair.invariant.found ∙ sym (truth_push (take i ps) (get_or ps i _) x) ∙ sym (ap (λ (qs : List BooleanPair). truth_of qs x) (take_more ps i _ (omega arith)));
      wide = c.later_truth-target.ensures.wide;
    }
