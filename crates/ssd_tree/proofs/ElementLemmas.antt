-- What stands in what: elements past the end have no sort, and a System is no Component.
use Rattle.std.proofs.Common.{◌≡◌, ◌⊎◌, ◌↔◌, ℕ, ◌<◌, Bool, true, false, IsTrue, ◌||◌, List, length, Option, Some, None, option_and_then, codes, bytes_eq, refl, sym, ap, ◌∙◌, subst, inl, inr}
use Rattle.std.specs.List.{slice_get}
use Rattle.std.specs.Option.{option_map_or}
use Rattle.std.proofs.lemmas.Bool.{both_ways, eqb-true, cases_order}
use Rattle.std.proofs.lemmas.Option.{slice_get_within, same_Some, none-some}
use Rattle.std.proofs.lemmas.Slice.Eq.{bytes_eq-Decides}
use Rattle.doc_grammar.specs.Nodes.{Node}
use Rattle.doc_tables.specs.Elements.{name_of, is_named, attribute, parent, is_in, is_root, key_if, unless_empty}
use Rattle.doc_tables.specs.Tables.{IsFirstWith}
use Rattle.doc_tables.proofs.CallerLemmas.{IsWithin}
use Rattle.ssd_tree.specs.Elements.{holder, both, element_key, connector_key, mapping_key, IsSystem, Outermost, Inner, IsComponent, IsPart, IsOfPart, IsOfSystem}

-- ---- elements past the end

pub parent_within : (t : List Node) (k p : ℕ) → parent t k ≡ Some p → k < length t
parent_within t k p h = at (slice_get t k) refl h
  where
    at : (o : Option Node) → slice_get t k ≡ o → option_and_then (λ (n : Node). n.parent) o ≡ Some p → k < length t
    at None e f = absurd (none-some p f)
    at (Some n) e f = slice_get_within t k n e

-- the list that the element stands in, and the element that this one stands in
pub holder_cases : (t : List Node) (k p : ℕ) (list : List ℕ) → holder t k list ≡ Some p → (l : ℕ) × (parent t k ≡ Some l) × (is_named t l list ≡ true) × (parent t l ≡ Some p)
holder_cases t k p list h = at (parent t k) refl h
  where
    inner : (l : ℕ) (b : Bool) → is_named t l list ≡ b → key_if b (parent t l) ≡ Some p → (is_named t l list ≡ true) × (parent t l ≡ Some p)
    inner l true e f = (e, f)
    inner l false e f = absurd (none-some p f)

    at : (o : Option ℕ) → parent t k ≡ o → option_and_then (λ l. key_if (is_named t l list) (parent t l)) o ≡ Some p
        → (l : ℕ) × (parent t k ≡ Some l) × (is_named t l list ≡ true) × (parent t l ≡ Some p)
    at None e f = absurd (none-some p f)
    at (Some l) e f = let parts = inner l (is_named t l list) refl f in (l, e, parts.0, parts.1)

pub holder_within : (t : List Node) (k p : ℕ) (list : List ℕ) → holder t k list ≡ Some p → k < length t
holder_within t k p list h = let parts = holder_cases t k p list h in parent_within t k parts.0 parts.1

pub system_within : (t : List Node) (k : ℕ) → IsSystem t k → k < length t
system_within t k (Outermost _ named up) = parent_within t k 0 up
system_within t k (Inner _ outer named up is) = holder_within t k outer (codes "Elements") up

pub component_within : (t : List Node) (k : ℕ) → IsComponent t k → k < length t
component_within t k is = holder_within t k is.1.0 (codes "Elements") is.1.1

pub of_part_within : (t : List Node) (k : ℕ) (list : List ℕ) → IsOfPart t k list → k < length t
of_part_within t k list is = holder_within t k is.0 list is.1

pub of_system_within : (t : List Node) (k : ℕ) (list : List ℕ) → IsOfSystem t k list → k < length t
of_system_within t k list is = holder_within t k is.0 list is.1

-- ---- keys past the end

pub key_if_is : {A : Type 0} (b : Bool) (o : Option A) (x : A) → key_if b o ≡ Some x → o ≡ Some x
key_if_is true o x h = h
key_if_is false o x h = absurd (none-some x h)

pub both_scope : (scope : Option ℕ) (name : Option (List ℕ)) (x : ℕ × List ℕ) → both scope name ≡ Some x → (s : ℕ) × (scope ≡ Some s)
both_scope None name x h = absurd (none-some x h)
both_scope (Some s) None x h = absurd (none-some x h)
both_scope (Some s) (Some name) x h = (s, refl)

pub element_key_within : (t : List Node) → IsWithin (element_key t) (length t)
element_key_within t k x h =
    let scope = both_scope (holder t k (codes "Elements")) (unless_empty (attribute t k (codes "name"))) x (key_if_is (is_named t k (codes "System") || is_named t k (codes "Component")) _ x h) in
    holder_within t k scope.0 (codes "Elements") scope.1

pub connector_key_within : (t : List Node) → IsWithin (connector_key t) (length t)
connector_key_within t k x h =
    let scope = both_scope (holder t k (codes "Connectors")) (unless_empty (attribute t k (codes "name"))) x (key_if_is (is_named t k (codes "Connector")) _ x h) in
    holder_within t k scope.0 (codes "Connectors") scope.1

pub mapping_key_within : (t : List Node) → IsWithin (mapping_key t) (length t)
mapping_key_within t k x h =
    let scope = both_scope (parent t k) (Some (codes "ParameterMapping")) x (key_if_is (is_named t k (codes "ParameterMapping")) _ x h) in
    parent_within t k scope.0 scope.1

-- ---- Systems

pub in_root_is : (t : List Node) (k : ℕ) → is_in is_root t k ≡ true → parent t k ≡ Some 0
in_root_is t k h = at (parent t k) refl h
  where
    at : (o : Option ℕ) → parent t k ≡ o → option_map_or (is_root t) o false ≡ true → parent t k ≡ Some 0
    at None e f = absurd (both_ways _ refl f)
    at (Some p) e f = e ∙ ap (λ (z : ℕ). Some z) (eqb-true p 0 f)

pub is_in_root_from : (t : List Node) (k : ℕ) → parent t k ≡ Some 0 → is_in is_root t k ≡ true
is_in_root_from t k h = ap (λ (o : Option ℕ). option_map_or (is_root t) o false) h

pub outside_root : (t : List Node) (k : ℕ) → is_in is_root t k ≡ false → parent t k ≡ Some 0 → ⊥
outside_root t k out root = both_ways _ out (is_in_root_from t k root)

-- what makes a System, both ways
pub system_by : (t : List Node) (k : ℕ) → IsSystem t k → (is_named t k (codes "System") ≡ true) × ((is_in is_root t k ≡ true) ⊎ IsOfSystem t k (codes "Elements"))
system_by t k (Outermost _ named up) = (named, inl (is_in_root_from t k up))
system_by t k (Inner _ outer named up is) = (named, inr (outer, up, is))

pub system_from : (t : List Node) (k : ℕ) → is_named t k (codes "System") ≡ true → (is_in is_root t k ≡ true) ⊎ IsOfSystem t k (codes "Elements") → IsSystem t k
system_from t k named (inl root) = Outermost k named (in_root_is t k root)
system_from t k named (inr inside) = Inner k inside.0 named inside.1 inside.2

-- a System that doesn't stand in the root
pub inside_from : (t : List Node) (k : ℕ) → is_in is_root t k ≡ false → IsSystem t k → IsOfSystem t k (codes "Elements")
inside_from t k out is = at (system_by t k is).1
  where
    at : (is_in is_root t k ≡ true) ⊎ IsOfSystem t k (codes "Elements") → IsOfSystem t k (codes "Elements")
    at (inl root) = absurd (both_ways _ out root)
    at (inr inside) = inside

-- a part that is no System
pub part_else : (t : List Node) (k part : ℕ) (list : List ℕ) (first second : Bool) → holder t k list ≡ Some part → first ≡ false → (IsTrue first ↔ IsSystem t part) → (IsTrue second ↔ IsComponent t part)
    → IsTrue second ↔ IsOfPart t k list
part_else t k part list first second up nothing system component = (λ e. (part, up, inr (component.0 e)), back)
  where
    at : (p : ℕ) → part ≡ p → IsPart t p → IsTrue second
    at p same (inl is) = absurd (both_ways first nothing (system.1 (subst (IsSystem t) (sym same) is)))
    at p same (inr is) = component.1 (subst (IsComponent t) (sym same) is)

    back : IsOfPart t k list → IsTrue second
    back of = at of.0 (same_Some part of.0 (sym up ∙ of.1)) of.2

-- ---- a System is no Component

named_is : (t : List Node) (k : ℕ) (name : List ℕ) → is_named t k name ≡ true → name_of t k ≡ name
named_is t k name h = (bytes_eq-Decides (name_of t k) name).0 h

pub named_once : (t : List Node) (k : ℕ) (one other : List ℕ) → bytes_eq one other ≡ false → is_named t k one ≡ true → is_named t k other ≡ true → ⊥
named_once t k one other apart p q =
    both_ways (bytes_eq one other) apart (subst (λ (z : List ℕ). bytes_eq z other ≡ true) (named_is t k one p) q)

pub system_no_component : (t : List Node) (k : ℕ) → IsSystem t k → IsComponent t k → ⊥
system_no_component t k system component = named_once t k (codes "System") (codes "Component") refl (system_by t k system).0 component.0

-- ---- the least element

pub one_first : {A : Type 0} (key : ℕ → Option A) (x : A) (j k : ℕ) → IsFirstWith key x j → IsFirstWith key x k → j ≡ k
one_first key x j k p q =
    elim (cases_order j k) [ inl e ↦ e | inr (inl lower) ↦ absurd (q.1 j lower p.0) | inr (inr lower) ↦ absurd (p.1 k lower q.0) ]
