-- What stands before the names of the elements of Systems.
use Rattle.std.proofs.Common.{◌≡◌, ℕ, zero, suc, ◌<◌, List, [], ◌∷◌, ◌++◌, length, slice_get, Some, codes, sym, ap, ◌∙◌, subst, inl, arith, append_assoc}
use Rattle.std.proofs.lemmas.Option.{none-some, same_Some, slice_get_within}
use Rattle.std.proofs.lemmas.Slice.Zip.{AllZip-long}
use Rattle.doc_grammar.specs.Nodes.{Node}
use Rattle.doc_tables.specs.Elements.{attribute, parent, text_of}
use Rattle.ssd_tree.specs.Elements.{holder, IsSystem}
use Rattle.ssd_tree.specs.Names.{AreDotted, IsDotted, IsNameScope, Outermost, Inner}
use Rattle.ssd_tree.specs.Parts.{IsFullName, InOutermost, InInner}
use Rattle.ssd_tree.specs.Paths.{Climbs, LeadsOut}
use Rattle.ssd_tree.specs.Rules.{IsSoundStructure}
use Rattle.ssd_tree.proofs.PartLemmas.{climbs_last, climbs_system, part_has_name}

-- ---- names of Systems

pub dotted_at : (t : List Node) (nodes : List ℕ) (names : List (List ℕ)) (i k : ℕ) (name : List ℕ) → AreDotted t nodes names → slice_get nodes i ≡ Some k → slice_get names i ≡ Some name → IsDotted t k name
dotted_at t [] names i k name all at is = absurd (none-some k at)
dotted_at t (x ∷ xs) [] i k name all at is = absurd (none-some name is)
dotted_at t (x ∷ xs) (s ∷ ss) zero k name all at is = subst (λ z. IsDotted t z name) (same_Some x k at) (subst (IsDotted t x) (same_Some s name is) all.0)
dotted_at t (x ∷ xs) (s ∷ ss) (suc i) k name all at is = dotted_at t xs ss i k name all.1 at is

pub dotted_within : (t : List Node) (nodes : List ℕ) (names : List (List ℕ)) (i k : ℕ) → AreDotted t nodes names → slice_get nodes i ≡ Some k → i < length names
dotted_within t nodes names i k all at = omega (arith, AllZip-long (IsDotted t) nodes names all, slice_get_within nodes i k at)

-- ---- scopes

-- an element's own name after the scope that it stands in is its full name
pub full_inside : (t : List Node) (k system : ℕ) (above own : List ℕ) → holder t k (codes "Elements") ≡ Some system → IsNameScope t system above → attribute t k (codes "name") ≡ Some own → IsFullName t k (above ++ own)
full_inside t k system above own held (Outermost top none) named =
    subst (λ (z : List ℕ). IsFullName t k (z ++ own)) (sym none) (InOutermost k system own held top named)
full_inside t k system above own held (Inner outer name up full is) named =
    let same : above ++ own ≡ name ++ 46 ∷ own = ap (λ z. z ++ own) is ∙ append_assoc name (46 ∷ []) own in
    subst (IsFullName t k) (sym same) (InInner k system outer name own held up full named)

scope_inside : (t : List Node) (k system : ℕ) (above own scope : List ℕ) → holder t k (codes "Elements") ≡ Some system → IsNameScope t system above → attribute t k (codes "name") ≡ Some own → scope ≡ above ++ (own ++ 46 ∷ []) → IsNameScope t k scope
scope_inside t k system above own scope held is named same =
    Inner system (above ++ own) held (full_inside t k system above own held is named) (same ∙ sym (append_assoc above own (46 ∷ [])))

-- the names down to some System are joined, and those on the path are left
abbrev pub IsWayIn : List Node → ℕ → List ℕ → List ℕ → Type 0
IsWayIn t system path scope = (last : ℕ) × Climbs t system path last × IsNameScope t last scope

pub way_begins : (t : List Node) (system : ℕ) (path scope : List ℕ) → LeadsOut t system path → scope ≡ [] → IsWayIn t system path scope
way_begins t system path scope way none = (way.0, way.1, Outermost way.2 none)

pub way_system : (t : List Node) (system : ℕ) (path left : List ℕ) (x : ℕ) (scope : List ℕ) → IsSoundStructure t → IsSystem t system → path ≡ left ++ x ∷ [] → IsWayIn t system path scope → IsSystem t x
way_system t system path left x scope sound is split way = climbs_system t system left x way.0 sound is (subst (λ (zs : List ℕ). Climbs t system zs way.0) split way.1)

pub way_more : (t : List Node) (system : ℕ) (path left : List ℕ) (x : ℕ) (old new name : List ℕ) → IsSoundStructure t → IsSystem t system → path ≡ left ++ x ∷ [] → IsWayIn t system path old → IsDotted t x name → new ≡ old ++ name → IsWayIn t system left new
way_more t system path left x old new name sound is split way named grown =
    let climbs : Climbs t system (left ++ x ∷ []) way.0 = subst (λ (zs : List ℕ). Climbs t system zs way.0) split way.1 in
    let parts = climbs_last t system left x way.0 climbs in
    let own : attribute t x (codes "name") ≡ Some (text_of t x (codes "name")) = part_has_name t x sound (inl (climbs_system t system left x way.0 sound is climbs)) in
    (x, parts.0, scope_inside t x way.0 old (text_of t x (codes "name")) new parts.1 way.2 own (grown ∙ ap (λ z. old ++ z) named))

pub way_ends : (t : List Node) (system : ℕ) (path scope : List ℕ) → path ≡ [] → IsWayIn t system path scope → IsNameScope t system scope
way_ends t system path scope none way =
    let here : system ≡ way.0 = subst (λ (zs : List ℕ). Climbs t system zs way.0) none way.1 in
    subst (λ (z : ℕ). IsNameScope t z scope) (sym here) way.2
