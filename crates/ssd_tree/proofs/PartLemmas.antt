-- What soundness gives the parts: names, kinds and ends that are there.
use Rattle.std.proofs.Common.{◌≡◌, ◌⊎◌, ℕ, ◌<◌, Bool, true, false, ◌||◌, if◌then◌else◌, ◌+◌, take, get_or, List, [], ◌∷◌, ◌++◌, length, Option, Some, None, IsSome, MatchOption, unwrap_or, codes, refl, sym, ap, ◌∙◌, subst, inl, inr}
use Rattle.std.specs.List.{AllZip, Contains, find, list_any}
use Rattle.std.proofs.lemmas.Bool.{both_ways}
use Rattle.std.proofs.lemmas.List.{take_more}
use Rattle.std.proofs.lemmas.List.Elements.{Contains-get_or}
use Rattle.std.proofs.lemmas.Slice.Zip.{all_zipped_more}
use Rattle.std.proofs.lemmas.Option.{same_Some, none-some}
use Rattle.doc_grammar.specs.Nodes.{Node}
use Rattle.doc_tree.specs.declared.rule.SystemRule.TheVariants as r
use Rattle.doc_tables.specs.Elements.{attribute, children, parent, is_named, text_of, unless_empty, Lacks}
use Rattle.doc_tables.specs.Tables.{Finds, IsFirstWith}
use Rattle.doc_tables.proofs.CallerLemmas.{or_cases, key_if_true}
use Rattle.ssd_tree.specs.Elements.{first_child, has_child, holder, both, element_key, mapping_key, kind_of, IsSystem, Outermost, Inner, IsComponent, IsPart, IsOfPart, IsConnector, IsConnection, IsBinding, IsMappingOf}
use Rattle.ssd_tree.specs.Listings.{IsListing}
use Rattle.ssd_tree.specs.Ends.{IsPartNamed, IsEnd}
use Rattle.ssd_tree.specs.Paths.{Climbs}
use Rattle.ssd_tree.specs.Rules.{IsSoundStructure}
use Rattle.ssd_tree.proofs.ElementLemmas.{key_if_is}
use Rattle.ssd_tree.proofs.OneLemmas.{alone_in_root, mapping_keyed}

-- ---- what is there

some_not_empty : (o : Option (List ℕ)) → (unless_empty o ≡ None → ⊥) → IsSome o
some_not_empty None h = absurd (h refl)
some_not_empty (Some x) h = refl

some_from : {A : Type 0} (o : Option A) → (o ≡ None → ⊥) → IsSome o
some_from None h = absurd (h refl)
some_from (Some x) h = refl

is_text : (o : Option (List ℕ)) → IsSome o → o ≡ Some (unwrap_or o [])
is_text None h = absurd (none_some h)
  where
    none_some : IsSome {T = List ℕ} None → ⊥
    none_some e = both_ways _ refl e
is_text (Some x) h = refl

pub system_named : (t : List Node) (k : ℕ) → IsSoundStructure t → IsSystem t k → IsSome (attribute t k (codes "name"))
system_named t k sound is = some_not_empty (attribute t k (codes "name")) (λ e. sound.1 r.Incomplete k (inl (inr (inl (is, e)))))

pub component_named : (t : List Node) (k : ℕ) → IsSoundStructure t → IsComponent t k → IsSome (attribute t k (codes "name"))
component_named t k sound is = some_not_empty (attribute t k (codes "name")) (λ e. sound.1 r.Incomplete k (inl (inr (inr (is, inl e)))))

pub component_sourced : (t : List Node) (k : ℕ) → IsSoundStructure t → IsComponent t k → IsSome (attribute t k (codes "source"))
component_sourced t k sound is = some_from (attribute t k (codes "source")) (λ e. sound.1 r.Incomplete k (inl (inr (inr (is, inr e)))))

pub connector_named : (t : List Node) (k : ℕ) → IsSoundStructure t → IsConnector t k → IsSome (attribute t k (codes "name"))
connector_named t k sound is = some_not_empty (attribute t k (codes "name")) (λ e. sound.1 r.Incomplete k (inr (inl (is, inl e))))

pub connector_kinded : (t : List Node) (k : ℕ) → IsSoundStructure t → IsConnector t k → IsSome (kind_of t k)
connector_kinded t k sound is = some_from (kind_of t k) (λ e. sound.1 r.Incomplete k (inr (inl (is, inr (inl e)))))

pub some_end : (P : ℕ → Type 0) (o : Option ℕ) → (((k : ℕ) → P k → ⊥) → ⊥) → MatchOption o ((k : ℕ) → P k → ⊥) P → IsSome o
some_end P None h none = absurd (h none)
some_end P (Some k) h is = refl

pub end_at : (P : ℕ → Type 0) (o : Option ℕ) (k : ℕ) → o ≡ Some k → MatchOption o ((k : ℕ) → P k → ⊥) P → P k
end_at P None k e none = absurd (none-some k e)
end_at P (Some j) k e is = subst P (same_Some j k e) is

-- ---- what stands in a System

pub part_inside : (t : List Node) (k s : ℕ) → IsSoundStructure t → IsPart t k → holder t k (codes "Elements") ≡ Some s → IsSystem t s
part_inside t k s sound (inl (Outermost _ named up)) h = absurd (alone_in_root t k s sound up h)
part_inside t k s sound (inl (Inner _ outer named up is)) h = subst (IsSystem t) (same_Some outer s (sym up ∙ h)) is
part_inside t k s sound (inr is) h = subst (IsSystem t) (same_Some is.1.0 s (sym is.1.1 ∙ h)) is.1.2

pub system_inside : (t : List Node) (k s : ℕ) → IsComponent t k → holder t k (codes "Elements") ≡ Some s → IsSystem t s
system_inside t k s is h = subst (IsSystem t) (same_Some is.1.0 s (sym is.1.1 ∙ h)) is.1.2

pub held : (t : List Node) (k : ℕ) (list : List ℕ) → IsOfPart t k list → IsSome (holder t k list)
held t k list is = ap (λ (o : Option ℕ). some o) is.1
  where
    some : Option ℕ → Bool
    some None = false
    some (Some x) = true

pub component_else : (t : List Node) (k part : ℕ) (list : List ℕ) → IsOfPart t k list → holder t k list ≡ Some part → (IsSystem t part → ⊥) → IsComponent t part
component_else t k part list is h none = at is.2
  where
    same : is.0 ≡ part
    same = same_Some is.0 part (sym is.1 ∙ h)

    at : IsPart t is.0 → IsComponent t part
    at (inl system) = absurd (none (subst (IsSystem t) same system))
    at (inr component) = subst (IsComponent t) same component

-- ---- where parameters are given

both_scoped : (scope : Option ℕ) (name : Option (List ℕ)) (s : ℕ) (n : List ℕ) → both scope name ≡ Some (s, n) → scope ≡ Some s
both_scoped None name s n h = absurd (none-some (s, n) h)
both_scoped (Some a) None s n h = absurd (none-some (s, n) h)
both_scoped (Some a) (Some name) s n h = ap (λ (z : ℕ). Some z) (ap (λ (p : ℕ × List ℕ). p.0) (same_Some (a, name) (s, n) h))

found_some : {A : Type 0} (p : A → Bool) (xs : List A) → list_any p xs ≡ true → IsSome (find p xs)
found_some p [] h = absurd (both_ways false refl h)
found_some p (x ∷ xs) h = at (p x) (found_some p xs) h
  where
    at : (b : Bool) → (list_any p xs ≡ true → IsSome (find p xs)) → (b || list_any p xs) ≡ true → IsSome (if b then Some x else find p xs)
    at true rest e = refl
    at false rest e = rest e

-- a binding without a file has values of its own
pub values_there : (t : List Node) (k : ℕ) → IsSoundStructure t → IsBinding t k → Lacks t k (codes "source") → IsSome (first_child t k (codes "ParameterValues"))
values_there t k sound is none =
    elim (has_child t k (codes "ParameterValues")) as (λ b. has_child t k (codes "ParameterValues") ≡ b → IsSome (first_child t k (codes "ParameterValues"))) [
      | true ↦ λ e. found_some (λ c. is_named t c (codes "ParameterValues")) (children t k) e
      | false ↦ λ e. absurd (sound.1 r.Incomplete k (inr (inr (inr (is, none, e)))))
    ] refl

pub mapping_none : (t : List Node) (k : ℕ) (o : Option ℕ) → o ≡ None → Finds (mapping_key t) (k, codes "ParameterMapping") o → (m : ℕ) → IsMappingOf t m k → ⊥
mapping_none t k None e none m is = none (m, mapping_keyed t m k is)
mapping_none t k (Some x) e found m is = absurd (none-some x (sym e))

pub mapping_some : (t : List Node) (k m : ℕ) (o : Option ℕ) → IsBinding t k → o ≡ Some m → Finds (mapping_key t) (k, codes "ParameterMapping") o → IsMappingOf t m k
mapping_some t k m None binding e none = absurd (none-some m e)
mapping_some t k m (Some x) binding e found = of m (subst (IsFirstWith (mapping_key t) (k, codes "ParameterMapping")) (same_Some x m e) found)
  where
    of : (m : ℕ) → IsFirstWith (mapping_key t) (k, codes "ParameterMapping") m → IsMappingOf t m k
    of m first =
        let inside = key_if_is (is_named t m (codes "ParameterMapping")) (both (parent t m) (Some (codes "ParameterMapping"))) (k, codes "ParameterMapping") first.0 in (
          key_if_true (is_named t m (codes "ParameterMapping")) _ (k, codes "ParameterMapping") first.0,
          both_scoped (parent t m) (Some (codes "ParameterMapping")) k (codes "ParameterMapping") inside,
          binding,
          λ again. first.1 again.2.0 again.2.1 (again.2.2 ∙ sym again.1 ∙ first.0),
        )

-- ---- ends are connectors

element_part : (t : List Node) (k s : ℕ) (n : List ℕ) → IsSystem t s → element_key t k ≡ Some (s, n) → IsPart t k
element_part t k s n system h =
    at (or_cases (is_named t k (codes "System")) (is_named t k (codes "Component")) (key_if_true _ _ (s, n) h))
  where
    up : holder t k (codes "Elements") ≡ Some s
    up =
        both_scoped (holder t k (codes "Elements")) (unless_empty (attribute t k (codes "name"))) s n
        (key_if_is (is_named t k (codes "System") || is_named t k (codes "Component")) (both (holder t k (codes "Elements")) (unless_empty (attribute t k (codes "name")))) (s, n) h)

    at : (is_named t k (codes "System") ≡ true) ⊎ (is_named t k (codes "Component") ≡ true) → IsPart t k
    at (inl named) = inl (Inner k s named up system)
    at (inr named) = inr (named, (s, up, system))

part_named : (t : List Node) (s p : ℕ) (name : Option (List ℕ)) → IsSystem t s → IsPartNamed t s name p → IsPart t p
part_named t s p None system is = inl (subst (IsSystem t) (sym is) system)
part_named t s p (Some name) system is = element_part t p s name system is.0

pub end_connector : (t : List Node) (k j : ℕ) (element connector : List ℕ) → IsConnection t k → IsEnd t k element connector j → IsConnector t j
end_connector t k j element connector is e =
    let system : IsSystem t e.system = subst (IsSystem t) (same_Some is.1.0 e.system (sym is.1.1 ∙ e.of)) is.1.2 in (
      key_if_true _ _ (e.part, e.name) e.is.0,
      (
        e.part,
        both_scoped (holder t j (codes "Connectors")) (unless_empty (attribute t j (codes "name"))) e.part e.name (key_if_is _ _ (e.part, e.name) e.is.0),
        part_named t e.system e.part (attribute t k element) system e.is_part,
      ),
    )

-- ---- the way out

pub climbs_more : (t : List Node) (k : ℕ) (xs : List ℕ) (x outer : ℕ) → Climbs t k xs x → holder t x (codes "Elements") ≡ Some outer → Climbs t k (xs ++ x ∷ []) outer
climbs_more t k [] x outer same up = (sym same, (outer, subst (λ (z : ℕ). holder t z (codes "Elements") ≡ Some outer) (sym same) up, refl))
climbs_more t k (y ∷ ys) x outer way up = (way.0, (way.1.0, way.1.1, climbs_more t way.1.0 ys x outer way.1.2 up))

pub climbs_last : (t : List Node) (k : ℕ) (xs : List ℕ) (x end : ℕ) → Climbs t k (xs ++ x ∷ []) end → Climbs t k xs x × (holder t x (codes "Elements") ≡ Some end)
climbs_last t k [] x end way =
    (sym way.0, subst (λ (z : ℕ). holder t z (codes "Elements") ≡ Some end) (sym way.0) (way.1.1 ∙ ap (λ (z : ℕ). Some z) way.1.2))
climbs_last t k (y ∷ ys) x end way =
    let rest = climbs_last t way.1.0 ys x end way.1.2 in
    ((way.0, (way.1.0, way.1.1, rest.0)), rest.1)

-- all on the way out of a System are Systems
pub climbs_system : (t : List Node) (k : ℕ) (xs : List ℕ) (x end : ℕ) → IsSoundStructure t → IsSystem t k → Climbs t k (xs ++ x ∷ []) end → IsSystem t x
climbs_system t k [] x end sound is way = subst (IsSystem t) (sym way.0) is
climbs_system t k (y ∷ ys) x end sound is way = climbs_system t way.1.0 ys x end sound (part_inside t k way.1.0 sound (inl is) way.1.1) way.1.2

-- the outermost System stands in no list
pub outermost_alone : (t : List Node) (k : ℕ) → IsPart t k → holder t k (codes "Elements") ≡ None → parent t k ≡ Some 0
outermost_alone t k (inl (Outermost _ named up)) h = up
outermost_alone t k (inl (Inner _ outer named up is)) h = absurd (none-some outer (sym h ∙ up))
outermost_alone t k (inr is) h = absurd (none-some is.1.0 (sym h ∙ is.1.1))

pub part_has_name : (t : List Node) (k : ℕ) → IsSoundStructure t → IsPart t k → attribute t k (codes "name") ≡ Some (text_of t k (codes "name"))
part_has_name t k sound (inl is) = is_text (attribute t k (codes "name")) (system_named t k sound is)
part_has_name t k sound (inr is) = is_text (attribute t k (codes "name")) (component_named t k sound is)

-- ---- one part more

pub listed_one : (Sort : ℕ → Type 0) (xs ys : List ℕ) → IsListing Sort xs → ys ≡ xs → (i : ℕ) → i < length ys → Sort (get_or ys i 0)
listed_one Sort xs ys all same i within =
    (all.each (get_or ys i 0)).0 (subst (λ (zs : List ℕ). Contains zs (get_or ys i 0)) same (Contains-get_or ys i 0 within))

pub part_more : {B : Type 0} (R : ℕ → B → Type 0) (xs ys : List ℕ) (ps qs : List B) (i : ℕ) (p : B) → ys ≡ xs → i < length ys → AllZip R (take i xs) ps → R (get_or ys i 0) p → qs ≡ ps ++ p ∷ [] → AllZip R (take (i + 1) xs) qs
part_more {B} R xs ys ps qs i p same within all one grown =
    let inside : i < length xs = subst (λ (zs : List ℕ). i < length zs) same within in
    let here : R (get_or xs i 0) p = subst (λ (zs : List ℕ). R (get_or zs i 0) p) same one in
    let step : AllZip R (take i xs ++ get_or xs i 0 ∷ []) (ps ++ p ∷ []) = all_zipped_more R (take i xs) ps (get_or xs i 0) p all here in
    subst (λ (zs : List B). AllZip R (take (i + 1) xs) zs) (sym grown)
    (subst (λ (zs : List ℕ). AllZip R zs (ps ++ p ∷ [])) (sym (take_more xs i 0 inside)) step)
