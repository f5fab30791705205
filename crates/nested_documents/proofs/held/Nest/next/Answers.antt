use Rattle.std.proofs.Common.{◌≡◌, ◌∙◌, ◌∷◌, ◌<◌, Some, false, drop, length, slice_get, refl, sym, ap, subst, ℕ}
use Rattle.std.proofs.lemmas.Option.{slice_get_read}
use Rattle.nested_documents.specs.Folders.{document_path}
use Rattle.nested_documents.specs.Nest.{is_refused}
use Rattle.nested_documents.proofs.NestLemmas.{first_of, first_within}
use Rattle.nested_documents.proofs.held.Nest.next.Goals as goal

pub returns : goal.returns
returns c =
    let nest = c.args.self.now in
    let w = c.in-Some.waiting.now in
    let rest = drop 1 nest.waiting.items in
    let component = c.index-component.result.now in
    let waits : nest.waiting.items ≡ w ∷ rest = first_of nest.waiting.items w (c.in-Some.ensures.value ∙ ap (λ xs. slice_get xs 0) c.deref.ensures.value) in
    let within : w.component < length nest.parts.components.items = subst (λ (n : ℕ). w.component < n) nest.parts.components.ok.0 (first_within nest.parts.components.len nest.waiting.items w rest waits nest.placed) in
    let at : slice_get nest.parts.components.items w.component ≡ Some component = slice_get_read nest.parts.components.items (length nest.parts.components.items) w.component component refl within c.index-component.ensures in
    let read : is_refused w nest.documents ≡ false = sym c.is_refused.ensures ∙ c.if-is_refused.false in
    let path : c.in_ok-document_path.field-0 ≡ document_path w.kind component.source = rw c.as_str.ensures at c.in_ok-document_path.ensures in
    (w, rest, component, record { waits = waits; at = at }, read, path, c.in_ok-setting.ensures)
