use Rattle.std.proofs.Common.{◌≡◌, List, map, cond, None, Bor, ℕ, sym, ap, ◌∙◌, false}
use Rattle.std.proofs.lemmas.Result.{IfOk-weaker}
use Rattle.fmu_description.specs.Texts.{all_of, has_outer_space, parts_of, reference, references}
use Rattle.fmu_description.proofs.TextLemmas.{among, among_is}
use Rattle.fmu_description.proofs.texts.references.Goals as goal

pub returns : goal.returns
returns c =
    let text = c.args.text.now in
    let inside : has_outer_space text ≡ false = sym c.has_outer_space.ensures ∙ c.if-has_outer_space.false in
    let same : map (λ (part : Bor (List ℕ)). part.now) c.as_slice.result.now ≡ parts_of text = ap (map (λ (part : Bor (List ℕ)). part.now)) c.as_slice.ensures.value ∙ c.in_ok-parts.ensures in
    let is : among c.as_slice.result.now ≡ references text =
    among_is c.as_slice.result.now ∙ ap (λ z. all_of (map reference z)) same ∙ sym (ap (λ b. cond b None (all_of (map reference (parts_of text)))) inside) in
    IfOk-weaker c.references_among.result _ _ (λ found h. h ∙ is) c.references_among.ensures
