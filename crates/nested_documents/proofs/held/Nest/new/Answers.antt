use Rattle.std.proofs.Common.{◌≡◌, ◌∙◌, ℕ, List, ap, subst, sym, vec_len}
use Rattle.nested_documents.specs.declared.components.Waiting.{Waiting}
use Rattle.ssd_tree.specs.Lists.{AreBetween, places_of}
use Rattle.nested_documents.specs.Between.{waiting_places}
use Rattle.nested_documents.proofs.BetweenLemmas.{places_top}
use Rattle.nested_documents.proofs.held.Nest.new.Goals as goal

pub invariant_of-result : goal.invariant_of-result
invariant_of-result c =
    let top = c.args.top in
    let same : waiting_places c.in_ok-waiting.waiting.items ≡ places_of top.nested.items = ap (λ (ws : List Waiting). waiting_places ws) c.in_ok-waiting.ensures ∙ places_top top.nested.items in record {
      placed = subst (λ (places : List ℕ). AreBetween 0 (vec_len top.parts.components) places) (sym same) top.placed;
    }
