-- The Components of a document that are systems of their own, among all of its Components.
use Rattle.std.proofs.Common.{◌≡◌, ◌∙◌, ℕ, suc, ◌+◌, ◌<◌, ◌≤◌, Bool, true, false, List, [], ◌∷◌, length, Some, All, sym, ap, subst, arith, slice_get, if◌then◌else◌}
use Rattle.std.specs.Prelude.{filter, is_some}
use Rattle.std.specs.List.{AllZip}
use Rattle.std.proofs.lemmas.List.Elements.{All-cons, All-nil}
use Rattle.std.proofs.lemmas.Option.{slice_get_within}
use Rattle.doc_grammar.specs.Nodes.{Node}
use Rattle.doc_tree.specs.Elements.{IsInOrder}
use Rattle.ssd_tree.specs.declared.tree.NestedComponent.{NestedComponent}
use Rattle.ssd_tree.specs.declared.tree.Setting.{Setting}
use Rattle.ssd_tree.specs.declared.tree.SystemTree.{SystemTree}
use Rattle.ssd_tree.specs.Elements.{IsComponent}
use Rattle.ssd_tree.specs.Listings.{IsRising}
use Rattle.ssd_tree.specs.Lists.{AreBetween, places_of}
use Rattle.ssd_tree.specs.Nested.{DescribesNested, IsNestedPart, nested_nodes}
use Rattle.ssd_tree.specs.Parts.{Describes}
use Rattle.ssd_tree.specs.Rules.{IsSoundStructure, kind_in}
use Rattle.ssd_tree.proofs.CallerLemmas.{one_listing, one_place}
use Rattle.structure_laws.specs.OwnNames.{HasOwnName}
use Rattle.structure_laws.proofs.NamedLemmas.{component_count, own_named}

-- ---- places

lower : (low high : ℕ) (ks : List ℕ) → AreBetween (suc low) high ks → AreBetween low high ks
lower low high [] b = tt
lower low high (k ∷ ks) b = let h = b.0 in (omega (arith, h), b.1)

module _ (p : ℕ → Bool) (all : List ℕ) (rising : IsRising all) (R : ℕ → NestedComponent → Type 0) (is : (k : ℕ) (x : NestedComponent) → R k x → slice_get all x.component ≡ Some k) where
  -- those that pass of what stands from a place on
  between : (n : ℕ) (rest : List ℕ) (nested : List NestedComponent) → ((i : ℕ) → slice_get rest i ≡ slice_get all (n + i)) → AllZip R (filter p rest) nested → AreBetween n (length all) (places_of nested)
  between n [] [] same zip = tt
  between n [] (x ∷ xs) same zip = absurd zip
  between n (k ∷ ks) nested same zip =
      let here : slice_get all n ≡ Some k = (let e : n + 0 ≡ n = omega arith in subst (λ (m : ℕ). slice_get all m ≡ Some k) e (sym (same 0))) in
      step (p k) nested (λ xs. between (suc n) ks xs later) here zip
    where
      later : (i : ℕ) → slice_get ks i ≡ slice_get all (suc n + i)
      later i = let e : n + suc i ≡ suc n + i = omega arith in subst (λ (m : ℕ). slice_get ks i ≡ slice_get all m) e (same (suc i))

      step : (b : Bool) (nested : List NestedComponent) → ((xs : List NestedComponent) → AllZip R (filter p ks) xs → AreBetween (suc n) (length all) (places_of xs)) → slice_get all n ≡ Some k → AllZip R (if b then k ∷ filter p ks else filter p ks) nested → AreBetween n (length all) (places_of nested)
      step true [] more here zip = absurd zip
      step true (x ∷ xs) more here zip =
          let at : x.component ≡ n = one_place all x.component n k rising (is k x zip.0) here in
          let within = slice_get_within all n k here in (
            omega (arith, at),
            (omega (arith, at, within), subst (λ (m : ℕ). AreBetween (suc m) (length all) (places_of xs)) (sym at) (more xs zip.1)),
          )
      step false nested more here zip = lower n (length all) (places_of nested) (more nested zip)

-- ---- names

named_all : {A : Type 0} (P : NestedComponent → Type 0) (R : A → NestedComponent → Type 0) → ((k : A) (x : NestedComponent) → R k x → P x) → (ks : List A) (xs : List NestedComponent) → AllZip R ks xs → All P xs
named_all P R one [] [] zip = All-nil P
named_all P R one [] (x ∷ xs) zip = absurd zip
named_all P R one (k ∷ ks) [] zip = absurd zip
named_all P R one (k ∷ ks) (x ∷ xs) zip = All-cons P x xs (one k x zip.0) (named_all P R one ks xs zip.1)

module _ (t : List Node) (in_order : IsInOrder t) (tree : SystemTree) (sound : IsSoundStructure t) (describes : Describes t tree) (s : Setting) (nested : List NestedComponent) (says : DescribesNested s t nested) where
  same_list : says.components ≡ describes.nodes.components
  same_list = one_listing (IsComponent t) says.components describes.nodes.components says.list describes.lists.components

  each : AllZip (IsNestedPart s t describes.nodes.components) (nested_nodes s t describes.nodes.components) nested
  each = subst (λ (cs : List ℕ). AllZip (IsNestedPart s t cs) (nested_nodes s t cs) nested) same_list says.each

  pub own_names : All (λ (x : NestedComponent). HasOwnName tree x.component x.own_name) nested
  own_names =
      named_all (λ (x : NestedComponent). HasOwnName tree x.component x.own_name) (IsNestedPart s t describes.nodes.components)
      (λ k x part. own_named t in_order tree sound describes x.component k x.own_name part.place part.own_name) (nested_nodes s t describes.nodes.components) nested each

  pub placed_among : AreBetween 0 (length tree.components) (places_of nested)
  placed_among =
      let inside : AreBetween 0 (length describes.nodes.components) (places_of nested) =
      between (λ k. is_some (kind_in s t k)) describes.nodes.components describes.lists.components.rising (IsNestedPart s t describes.nodes.components) (λ k x part. part.place)
      0 describes.nodes.components nested (λ i. let e : i ≡ 0 + i = omega arith in ap (slice_get describes.nodes.components) e) each in
      subst (λ (n : ℕ). AreBetween 0 n (places_of nested)) (sym (component_count t in_order tree sound describes)) inside
