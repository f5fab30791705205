use Rattle.std.proofs.Common.{◌≡◌, ◌+◌, ◌++◌, [], ◌∷◌, sym, ap, ◌∙◌, take, append_assoc}
use Rattle.std.proofs.lemmas.List.{take_more}
use Rattle.sim_base.specs.Parted.{whole}
use Rattle.sim_base.proofs.PartedLemmas.{whole_push}
use Rattle.sim_base.proofs.parted_text.PartedText.append.Goals as goal

pub loop-part-preserved : goal.loop-part-preserved
loop-part-preserved c =
    let parts = c.deref-part-items.result.now in
    let i = c.loop-part.part-index in
    let item = c.part-item.result in
    let shared = c.in_ok-try_clone.field-0 in
    let first = c.args.self.now in
    let next : take (i + 1) parts ≡ take i parts ++ item ∷ [] = take_more parts i item c.loop-part-test.true ∙ ap (λ z. take i parts ++ z ∷ []) (sym c.part-item.is) in
    let same : shared.value ≡ item.value = c.in_ok-try_clone.ensures in
    let told : whole (take (i + 1) parts) ≡ whole (take i parts) ++ item.value = ap whole next ∙ whole_push (take i parts) item in
    c.in_ok-push_shared.ensures ∙ ap (λ z. z ++ shared.value) c.loop-part.invariant ∙ ap (λ z. (first ++ whole (take i parts)) ++ z) same
    ∙ append_assoc first (whole (take i parts)) item.value ∙ ap (λ z. first ++ z) (sym told)
