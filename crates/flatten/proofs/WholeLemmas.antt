-- What a document without violations says is whole.
use Rattle.std.proofs.Common.{◌≡◌, ℕ, zero, suc, ◌+◌, ◌-◌, ◌^◌, ◌<◌, ◌≤◌, Bool, true, false, cond, not, is_some, filter, Contains, Option, List, [], ◌∷◌, length, refl, sym, ◌∙◌, ap, subst, inl, inr, arith}
use Rattle.std.specs.Prelude.{Some, None, slice_get}
use Rattle.std.specs.List.{AllZip}
use Rattle.std.proofs.lemmas.Bool.{cases_lt}
use Rattle.std.proofs.lemmas.Option.{none-some as none_some, same_Some, slice_get_within}
use Rattle.std.specs.List.Sorted.{IsStrictlyIncreasing}
use Rattle.std.proofs.lemmas.List.{length-append}
use Rattle.std.proofs.lemmas.List.Elements.{All-contains, All-contains_itself, All-filter, Contains-append_cases, Contains-append_left, Contains-append_right, Contains-push_cases, filter_passes}
use Rattle.std.proofs.lemmas.List.Filters.{length-filter_both}
use Rattle.std.proofs.lemmas.List.Kept.{AllPairs-filter, AllPairs-from_increasing}
use Rattle.std.proofs.lemmas.Slice.Zip.{AllZip-long}
use Rattle.doc_grammar.specs.Nodes.{Node}
use Rattle.doc_tree.specs.declared.rule.SystemRule.TheVariants as r
use Rattle.doc_tables.specs.Elements.{unless_empty}
use Rattle.ssd_tree.specs.declared.tree.Owner.{Owner}
use Rattle.ssd_tree.specs.declared.tree.Owner.TheVariants.{System, Component}
use Rattle.ssd_tree.specs.declared.tree.Connector.{Connector}
use Rattle.ssd_tree.specs.declared.tree.Connection.{Connection}
use Rattle.ssd_tree.specs.declared.tree.ComponentPart.{ComponentPart}
use Rattle.ssd_tree.specs.declared.tree.NestedComponent.{NestedComponent}
use Rattle.ssd_tree.specs.declared.tree.Setting.{Setting}
use Rattle.ssd_tree.specs.declared.tree.SystemTree.{SystemTree}
use Rattle.ssd_tree.specs.Elements.{IsComponent}
use Rattle.ssd_tree.specs.Listings.{IsListing, IsRising}
use Rattle.ssd_tree.specs.Parts.{Describes, InInner, InOutermost, IsComponentPart, IsConnectionPart, IsConnectorPart, IsFullName, PartNodes, owner_node}
use Rattle.ssd_tree.specs.Nested.{DescribesNested, IsNestedPart, nested_nodes}
use Rattle.ssd_tree.specs.Rules.{IsFmu, IsSoundIn, kind_in}
use Rattle.ssd_tree.proofs.CallerLemmas.{one_listing, outermost_system}
use Rattle.system_model.proofs.CallerLemmas.{all_by_place, at_contains, contains_at}
use Rattle.flatten.specs.Given.{IsWholeDocument}
use Rattle.ssd_tree.specs.Named.{IsOwner}
use Rattle.flatten.proofs.LabelLemmas.{element_there}

-- ---- parts side by side

zip_partner : {X Y : Type 0} (R : X → Y → Type 0) (xs : List X) (ys : List Y) (k : ℕ) (y : Y) → AllZip R xs ys → slice_get ys k ≡ Some y → (x : X) × (slice_get xs k ≡ Some x) × R x y
zip_partner R [] [] k y zip at = absurd (none_some _ at)
zip_partner R [] (z ∷ ys) k y zip at = absurd zip
zip_partner R (x ∷ xs) [] k y zip at = absurd zip
zip_partner R (x ∷ xs) (z ∷ ys) zero y zip at = (x, refl, subst (R x) (same_Some _ _ at) zip.0)
zip_partner R (x ∷ xs) (z ∷ ys) (suc k) y zip at = zip_partner R xs ys k y zip.1 at

-- ---- names

not_empty_long : (text : List ℕ) → (unless_empty (Some text) ≡ None → ⊥) → 0 < length text
not_empty_long [] some = absurd (some refl)
not_empty_long (x ∷ xs) some = omega arith

full_name : (s : Setting) (t : List Node) → IsSoundIn s t → (k : ℕ) (name : List ℕ) → IsComponent t k → IsFullName t k name → 0 < length name
full_name s t sound k name is (InOutermost _ outer _ holder root told) =
    not_empty_long name (λ empty. sound r.Incomplete k (inl (inr (inr (is, inl (ap unless_empty told ∙ empty))))))
full_name s t sound k name is (InInner _ system outer above own holder inner whole told) = omega (arith, length-append above (46 ∷ own))

-- ---- the whole

owner_there : (nodes : PartNodes) (tree : SystemTree) (owner : Owner) (part : ℕ) → length tree.systems ≡ length nodes.systems → length tree.components ≡ length nodes.components
    → owner_node nodes owner ≡ Some part → IsOwner tree owner
owner_there nodes tree (System place) part systems components is = omega (arith, systems, slice_get_within nodes.systems place part is)
owner_there nodes tree (Component place) part systems components is = omega (arith, components, slice_get_within nodes.components place part is)

-- ---- those of a list that pass

true_no : true ≡ false → ⊥
true_no e = cc

-- what passes is kept
kept : (p : ℕ → Bool) (xs : List ℕ) (k : ℕ) → p k ≡ true → Contains xs k → Contains (filter p xs) k
kept p [] k pass c = let less = c.1 in absurd (omega (arith, less))
kept p (x ∷ xs) k pass c =
    (elim (p x) as (λ b. p x ≡ b → Contains (cond b (x ∷ filter p xs) (filter p xs)) k) [
      | true ↦ λ e. elim (Contains-append_cases (x ∷ []) xs k c) [
        | inl here ↦ Contains-append_left (x ∷ []) (filter p xs) k here
        | inr later ↦ Contains-append_right (x ∷ []) (filter p xs) k (kept p xs k pass later)
      ]
      | false ↦ λ e. elim (Contains-append_cases (x ∷ []) xs k c) [
        | inl here ↦ absurd (true_no (sym (subst (λ (z : ℕ). p z ≡ true) (sym (same_one here)) pass) ∙ e))
        | inr later ↦ kept p xs k pass later
      ]
    ]) refl
  where
    same_one : Contains (x ∷ []) k → x ≡ k
    same_one here = elim (Contains-push_cases [] x k here) [ inl none ↦ (let less = none.1 in absurd (omega (arith, less))) | inr same ↦ same ]

rising_filter : (p : ℕ → Bool) (xs : List ℕ) → IsRising xs → IsRising (filter p xs)
rising_filter p xs rising =
    let increasing : IsStrictlyIncreasing xs = λ k within. rising k (k + 1) (omega arith) within in
    λ i j lower within. AllPairs-filter (λ (x y : ℕ). x < y) p xs (AllPairs-from_increasing xs increasing) i j 0 lower within

-- all of a sort that pass, of all of the sort
listing_filter : (Sort : ℕ → Type 0) (p : ℕ → Bool) (xs : List ℕ) → IsListing Sort xs → IsListing (λ k. Sort k × (p k ≡ true)) (filter p xs)
listing_filter Sort p xs all = record {
  rising = rising_filter p xs all.rising;
  each = λ k. (
    λ there. ((all.each k).0 (All-contains (Contains xs) (filter p xs) k (All-filter p (Contains xs) xs (All-contains_itself xs)) there), All-contains (λ z. p z ≡ true) (filter p xs) k (filter_passes p xs) there),
    λ is. kept p xs k is.1 ((all.each k).1 is.0),
  );
}

-- ---- FMUs, and Components that are systems of their own

nothing : {X : Type 0} (o : Option X) → not (is_some o) ≡ true → o ≡ None
nothing None e = refl
nothing (Some x) e = absurd (cc)

not_some : {X : Type 0} (o : Option X) → o ≡ None → not (is_some o) ≡ true
not_some None e = refl
not_some (Some x) e = absurd (cc)

fmus : (s : Setting) (t : List Node) (components : List ℕ) → IsListing (IsComponent t) components → IsListing (IsFmu s t) (filter (λ k. not (is_some (kind_in s t k))) components)
fmus s t components all =
    let list = listing_filter (IsComponent t) (λ k. not (is_some (kind_in s t k))) components all in record {
      rising = list.rising;
      each = λ k. (
        λ there. (let h = (list.each k).0 there in (h.0, nothing (kind_in s t k) h.1)),
        λ is. (list.each k).1 (is.0, not_some (kind_in s t k) is.1),
      );
    }

pub whole_document : (s : Setting) (t : List Node) (tree : SystemTree) (nested : List NestedComponent) → IsSoundIn s t → Describes t tree → DescribesNested s t nested → IsWholeDocument s tree nested
whole_document s t tree nested sound is says =
    let nodes = is.nodes in
    let systems : length tree.systems ≡ length nodes.systems = AllZip-long _ nodes.systems tree.systems is.systems in
    let components : length tree.components ≡ length nodes.components = AllZip-long _ nodes.components tree.components is.components in
    let connectors : length tree.connectors ≡ length nodes.connectors = AllZip-long _ nodes.connectors tree.connectors is.connectors in
    let outer = outermost_system t (s, sound) in
    let held = contains_at nodes.systems outer.0 ((is.lists.systems.each outer.0).1 outer.1) in
    let own = filter (λ k. not (is_some (kind_in s t k))) nodes.components in
    let same : says.components ≡ nodes.components = one_listing (IsComponent t) says.components nodes.components says.list is.lists.components in
    let many : length nested ≡ length (nested_nodes s t nodes.components) =
    AllZip-long (IsNestedPart s t says.components) (nested_nodes s t says.components) nested says.each ∙ ap (λ (cs : List ℕ). length (nested_nodes s t cs)) same in
    let both : length (nested_nodes s t nodes.components) + length own ≡ length nodes.components =
    length-filter_both (λ k. is_some (kind_in s t k)) (λ k. not (is_some (kind_in s t k))) (λ k. refl) nodes.components in
    record {
      root = omega (arith, systems, slice_get_within nodes.systems held.0 outer.0 held.1);
      few = elim (cases_lt (256 - s.fmus) (length own)) [
        | inl more ↦ let extra = element_there own (256 - s.fmus) more in absurd (sound r.TooManyComponents extra.0 (inl (own, fmus s t nodes.components is.lists.components, extra.1)))
        | inr less ↦ omega (arith, components, many, both, less)
      ];
      named = all_by_place (λ (c : ComponentPart). 0 < length c.name) tree.components (λ i c at.
          let part = zip_partner (IsComponentPart t nodes) nodes.components tree.components i c is.components at in
          full_name s t sound part.0 c.name ((is.lists.components.each part.0).0 (at_contains nodes.components i part.0 part.1)) part.2.name);
      short = all_by_place (λ (c : ComponentPart). s.name_above + length c.name ≤ 2 ^ 24) tree.components (λ i c at.
          let part = zip_partner (IsComponentPart t nodes) nodes.components tree.components i c is.components at in
          let one = (is.lists.components.each part.0).0 (at_contains nodes.components i part.0 part.1) in
          elim (cases_lt (2 ^ 24) (s.name_above + length c.name)) [
            | inl long ↦ absurd (sound r.TooManyComponents part.0 (inr (one, (c.name, part.2.name, long))))
            | inr less ↦ less
          ]);
      owners = all_by_place (λ (k : Connector). IsOwner tree k.owner) tree.connectors (λ i k at.
          let part = zip_partner (IsConnectorPart t nodes) nodes.connectors tree.connectors i k is.connectors at in
          owner_there nodes tree k.owner part.2.part systems components part.2.owner);
      ends = all_by_place (λ (k : Connection). (k.start < length tree.connectors) × (k.end < length tree.connectors)) tree.connections (λ i k at.
          let part = zip_partner (IsConnectionPart t nodes) nodes.connections tree.connections i k is.connections at in
          (omega (arith, connectors, slice_get_within nodes.connectors k.start part.2.from part.2.start), omega (arith, connectors, slice_get_within nodes.connectors k.end part.2.to part.2.end)));
    }
