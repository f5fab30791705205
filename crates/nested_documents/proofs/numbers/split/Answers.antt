use Rattle.std.proofs.Common.{◌≡◌, ℕ, ◌+◌, ◌++◌, drop, subst, sym, take}
use Rattle.nested_documents.specs.Numbers.{elements_in}
use Rattle.nested_documents.proofs.RunLemmas.{back_more, prefix_more}
use Rattle.nested_documents.proofs.numbers.split.Goals as goal

pub loop-run-preserved : goal.loop-run-preserved
loop-run-preserved c =
    let runs = c.args.runs.now in
    let rest = elements_in (drop (c.loop-run.run-index + 1) runs) in
    let less = c.loop-run-test.true in
    let is = c.run-item.is in record {
      first = subst (λ (k : ℕ). elements_in c.push_first.new.runs.items ++ take k rest ≡ take c.args.at (elements_in runs)) (sym c.saturating_sub-left.ensures)
          (prefix_more runs c.loop-run.prefix.items c.push_first.new.runs.items c.loop-run.run-index c.run-item.result c.loop-run.left (take c.args.at (elements_in runs)) less is c.loop-run.invariant.first c.in_ok-push_first.ensures);
      others = subst (λ (k : ℕ). elements_in c.push_after.new.runs.items ++ drop k rest ≡ drop c.args.at (elements_in runs)) (sym c.saturating_sub-left.ensures)
          (back_more runs c.loop-run.back.items c.push_after.new.runs.items c.loop-run.run-index c.run-item.result c.loop-run.left (drop c.args.at (elements_in runs)) less is c.loop-run.invariant.others c.in_ok-push_after.ensures);
    }
