-- Fields added one after another.
use Rattle.std.proofs.Common.{ℕ, ◌+◌, ◌<◌, ℤ, List, [], ◌∷◌, ◌++◌, length, take, get_or, Option, refl, sym, ◌∙◌, ap, subst, append_assoc, append-nil, add-one}
use Rattle.std.proofs.Math.Seq.{take-suc}
use Rattle.trace_export.specs.declared.cells.Form.{Form}
use Rattle.trace_export.specs.Fields.{AddsField, AddsFields, AreFields, IsField}

-- one more field after fields
pub AreFields-more : (forms : List Form) (values : List (Option ℤ)) (form : Form) (value : Option ℤ) (fields field : List ℕ) → AreFields forms values fields →
    IsField form value field → AreFields (forms ++ (form ∷ [])) (values ++ (value ∷ [])) (fields ++ (44 ∷ field))
AreFields-more [] [] form value fields field none it =
    (field, [], it, refl, ap (λ l. l ++ (44 ∷ field)) none ∙ ap (λ l. 44 ∷ l) (sym (append-nil field)))
AreFields-more [] (v ∷ values) form value fields field none it = absurd none
AreFields-more (f ∷ forms) [] form value fields field none it = absurd none
AreFields-more (f ∷ forms) (v ∷ values) form value fields field (head, rest, one, others, text) it = (
  head,
  rest ++ (44 ∷ field),
  one,
  AreFields-more forms values form value rest field others it,
  ap (λ l. l ++ (44 ∷ field)) text ∙ ap (λ l. 44 ∷ l) (append_assoc head rest (44 ∷ field)),
)

-- the same after a text
pub AddsFields-more : (forms : List Form) (values : List (Option ℤ)) (form : Form) (value : Option ℤ) (old mid new : List ℕ) → AddsFields forms values old mid →
    AddsField form value mid new → AddsFields (forms ++ (form ∷ [])) (values ++ (value ∷ [])) old new
AddsFields-more forms values form value old mid new (fields, each, text) (field, it, after) = (
  fields ++ (44 ∷ field),
  AreFields-more forms values form value fields field each it,
  after ∙ ap (λ l. l ++ (44 ∷ field)) text ∙ append_assoc old fields (44 ∷ field),
)

-- the field of the next port
pub AddsFields-next : (forms : List Form) (values : List (Option ℤ)) (i : ℕ) (f : Form) (v : Option ℤ) (old mid new : List ℕ) → i < length forms → i < length values → AddsFields (take i forms) (take i values) old mid →
    AddsField (get_or forms i f) (get_or values i v) mid new → AddsFields (take (i + 1) forms) (take (i + 1) values) old new
AddsFields-next forms values i f v old mid new within there before it =
    let P : List Form → Type 0 = λ fs. AddsFields fs (take (i + 1) values) old new in
    let Q : List (Option ℤ) → Type 0 = λ vs. AddsFields (take i forms ++ (get_or forms i f ∷ [])) vs old new in
    subst P (sym (ap (λ k. take k forms) (add-one i) ∙ take-suc forms i f within))
    (subst Q (sym (ap (λ k. take k values) (add-one i) ∙ take-suc values i v there))
    (AddsFields-more (take i forms) (take i values) (get_or forms i f) (get_or values i v) old mid new before it))
