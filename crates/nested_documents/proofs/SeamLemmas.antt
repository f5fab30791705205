-- What stands before a Component is within the lists of its document.
use Rattle.std.proofs.Common.{◌≡◌, ℕ, zero, suc, ◌<◌, ◌≤◌, nat_lt, List, [], ◌∷◌, length, Some, slice_get, refl, sym, ap, subst, arith}
use Rattle.std.proofs.lemmas.List.Sums.{count_by-le-length}
use Rattle.ssd_tree.specs.declared.tree.ComponentPart.{ComponentPart}
use Rattle.ssd_tree.specs.declared.tree.Connector.{Connector}
use Rattle.ssd_tree.specs.declared.tree.SystemPart.{SystemPart}
use Rattle.ssd_tree.specs.declared.tree.SystemTree.{SystemTree}
use Rattle.nested_documents.specs.declared.seam.Seam.{Seam}
use Rattle.nested_documents.specs.Inlining.{seam_of}

-- the Component at a place
pub component_at : (cs : List ComponentPart) (place : ℕ) → place < length cs → (c : ComponentPart) × (slice_get cs place ≡ Some c)
component_at [] place less = absurd (omega (arith, less))
component_at (c ∷ cs) zero less = (c, refl)
component_at (c ∷ cs) (suc place) less = component_at cs place (omega (arith, less))

-- a seam is that before the Component at a place
abbrev pub IsSeamOf : SystemTree → ℕ → SystemTree → ℕ → Seam → Type 0
IsSeamOf outer place inner elements s =
    (c : ComponentPart) → slice_get outer.components place ≡ Some c → s ≡ seam_of outer place c inner elements

pub systems_within : (outer : SystemTree) (place : ℕ) (inner : SystemTree) (elements : ℕ) (s : Seam) → place < length outer.components → IsSeamOf outer place inner elements s → s.systems_before ≤ length outer.systems
systems_within outer place inner elements s less is =
    let at = component_at outer.components place less in
    subst (λ (n : ℕ). n ≤ length outer.systems) (sym (ap (λ (s : Seam). s.systems_before) (is at.0 at.1)))
    (count_by-le-length (λ (x : SystemPart). nat_lt x.node at.0.node) outer.systems)

pub connectors_within : (outer : SystemTree) (place : ℕ) (inner : SystemTree) (elements : ℕ) (s : Seam) → place < length outer.components → IsSeamOf outer place inner elements s → s.connectors_before ≤ length outer.connectors
connectors_within outer place inner elements s less is =
    let at = component_at outer.components place less in
    subst (λ (n : ℕ). n ≤ length outer.connectors) (sym (ap (λ (s : Seam). s.connectors_before) (is at.0 at.1)))
    (count_by-le-length (λ (x : Connector). nat_lt x.node at.0.node) outer.connectors)

pub component_is : (outer : SystemTree) (place : ℕ) (inner : SystemTree) (elements : ℕ) (s : Seam) → place < length outer.components → IsSeamOf outer place inner elements s → s.component ≡ place
component_is outer place inner elements s less is =
    let at = component_at outer.components place less in
    ap (λ (s : Seam). s.component) (is at.0 at.1)
