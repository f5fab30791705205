-- The pieces that a run puts are the text of its trace.
use Rattle.std.proofs.Common.{◌≡◌, ℕ, List, [], ◌∷◌, ◌++◌, map, sym, ap, ◌∙◌, append_assoc}
use Rattle.std.specs.List.{concat}
use Rattle.std.proofs.lemmas.List.{append-nil}
use Rattle.system_model.specs.Text.{Instant, end_text, header_text, instant_text, instants_text}
use Rattle.trace_laws.specs.Laws.{IsTextInPieces}

instants_together : (is : List Instant) (last : List ℕ) → concat (map (λ (i : Instant). instant_text i.t i.n i.values) is ++ last ∷ []) ≡ instants_text is ++ last
instants_together [] last = append-nil last
instants_together (i ∷ is) last =
    ap (λ (bytes : List ℕ). instant_text i.t i.n i.values ++ bytes) (instants_together is last) ∙ sym (append_assoc (instant_text i.t i.n i.values) (instants_text is) last)

pub in_pieces : IsTextInPieces
in_pieces system plan is kind end =
    ap (λ (bytes : List ℕ). header_text system plan.resolution plan.start plan.stop ++ bytes) (instants_together is (end_text kind end))
