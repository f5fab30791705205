-- Paths in the order of their bytes.
use Rattle.std.proofs.Common.{◌≡◌, inl, inr, ℕ, ◌+◌, ◌<◌, ◌≤◌, ◌==◌, Bool, true, false, List, [], ◌∷◌, ◌++◌, length, Contains, Some, slice_get, slice_index_or, refl, sym, ap, ◌∙◌, subst, arith, nat_lt}
use Rattle.std.specs.Borrow.{Bor}
use Rattle.std.specs.List.{IsDistinct}
use Rattle.std.specs.List.Sorted.{IsPermutation, IsSorted}
use Rattle.std.specs.declared.cmp.Ordering.{Ordering}
use Rattle.std.specs.Ordering.{is_lt, nat_cmp, ordering_then}
use Rattle.std.specs.Cmp.{IsTotalOrder}
use Rattle.std.specs.Cmp.Lexicographic.{slice_cmp}
use Rattle.std.specs.Option.{option_map}
use Rattle.std.proofs.lemmas.Bool.Decides.{nat_tests}
use Rattle.std.proofs.lemmas.Grind.{common_steps}
use Rattle.std.proofs.lemmas.Cmp.{nat_cmp_total, nat_list_cmp_total, then_total}
use Rattle.std.proofs.lemmas.List.Sorted.{sorted_far, ranks_by, Contains-permutation, IsPermutation-sym}
use Rattle.std.proofs.lemmas.Map.Keys.{IsDistinct-IsPermutation, IsDistinct-from_apart, apart_from_distinct}
use Rattle.std.proofs.lemmas.List.{length-append, length-map}
use Rattle.std.proofs.lemmas.Option.{get_or_from_slice_get, slice_get_within, slice_get-get_or, slice_get-map, same_Some}
use Rattle.name_prefixes.specs.Prefixes.{ArePrefixes, ArePrefixesAmong, Entry, HasOnce, IsPrefix, IsPrefixAmong, IsRising, IsSortedOf, texts}
use Rattle.name_prefixes.proofs.PushLemmas.{pushed}

-- by the path, and then by the place
abbrev pub entry_cmp : Entry → Entry → Ordering
entry_cmp a b = ordering_then (slice_cmp nat_cmp a.0.now b.0.now) (nat_cmp a.1 b.1)

first_total : IsTotalOrder (λ (a b : Entry). slice_cmp nat_cmp a.0.now b.0.now)
first_total = record {
  antisymm = λ x y. nat_list_cmp_total.antisymm x.0.now y.0.now;
  trans = λ x y z. nat_list_cmp_total.trans x.0.now y.0.now z.0.now;
  congr = λ x y z. nat_list_cmp_total.congr x.0.now y.0.now z.0.now;
}

second_total : IsTotalOrder (λ (a b : Entry). nat_cmp a.1 b.1)
second_total = record {
  antisymm = λ x y. nat_cmp_total.antisymm x.1 y.1;
  trans = λ x y z. nat_cmp_total.trans x.1 y.1 z.1;
  congr = λ x y z. nat_cmp_total.congr x.1 y.1 z.1;
}

entry_total : IsTotalOrder entry_cmp
entry_total = then_total first_total second_total

not_lower : (o p : Ordering) → is_lt (ordering_then o p) ≡ false → is_lt o ≡ false
not_lower o p e = grind (arith, common_steps)

pub rising : (sorted : List Entry) → IsSorted entry_cmp sorted → IsRising sorted
rising sorted is = λ i j a b le here there.
    let low : is_lt (entry_cmp b a) ≡ false =
    subst (λ (x : Entry). is_lt (entry_cmp x a) ≡ false) (get_or_from_slice_get sorted j b a there)
    (subst (λ (x : Entry). is_lt (entry_cmp (slice_index_or sorted j a) x) ≡ false) (get_or_from_slice_get sorted i a a here)
    (sorted_far _ (ranks_by entry_total (λ (x : Entry). x)) sorted is i j a le (slice_get_within sorted j b there))) in
    not_lower _ _ low

-- ---- the entries, made

-- each path with its place, in the order of the places
pub record AreEntries (paths : List (Bor (List ℕ))) (n : ℕ) (entries : List Entry) : Type 0 where
  pub len : length entries ≡ n
  pub each : (k : ℕ) (e : Entry) → slice_get entries k ≡ Some e → (e.1 ≡ k) × (slice_get paths k ≡ Some e.0)

pub entries_push : (paths : List (Bor (List ℕ))) (n : ℕ) (entries : List Entry) (p : Bor (List ℕ)) → slice_get paths n ≡ Some p → AreEntries paths n entries → AreEntries paths (n + 1) (entries ++ (p, n) ∷ [])
entries_push paths n entries p there is = record {
  len = length-append entries _ ∙ ap (λ k. k + 1) is.len;
  each = λ k e here. elim (pushed entries (p, n) k e here) [
    | inl a ↦ is.each k e a.1
    | inr b ↦
        let at : k ≡ n = b.0 ∙ is.len in
        subst (λ (x : Entry). (x.1 ≡ k) × (slice_get paths k ≡ Some x.0)) b.1 (sym at, ap (slice_get paths) at ∙ there)
  ];
}

abbrev same_place : Entry → Entry → Bool
same_place a b = a.1 == b.1

contains_at : (xs : List Entry) (i : ℕ) (x : Entry) → slice_get xs i ≡ Some x → Contains xs x
contains_at xs i x there = (i, slice_get_within xs i x there, get_or_from_slice_get xs i x x there)

at_held : (xs : List Entry) (x : Entry) → Contains xs x → (i : ℕ) × (slice_get xs i ≡ Some x)
at_held xs x held = (held.0, slice_get-get_or xs held.0 x held.1 ∙ ap Some held.2)

same_text : (paths : List (Bor (List ℕ))) (k : ℕ) (p : Bor (List ℕ)) → slice_get paths k ≡ Some p → slice_get (texts paths) k ≡ Some p.now
same_text paths k p there = slice_get-map (λ (x : Bor (List ℕ)). x.now) paths k ∙ ap (option_map (λ (x : Bor (List ℕ)). x.now)) there

same_place_is : (a b : ℕ) → a ≡ b → (a == b) ≡ true
same_place_is a b e = grind (arith, nat_tests)

other_place_is : (a b : ℕ) → a < b → (a == b) ≡ false
other_place_is a b less = grind (arith, nat_tests)

flips : (a b : ℕ) → (a == b) ≡ (b == a)
flips a b = elim (a == b) as (λ r. (a == b) ≡ r → r ≡ (b == a)) [
  | true ↦ λ e. let same : a ≡ b = grind (arith, nat_tests) in sym (same_place_is b a (sym same))
  | false ↦ λ e. elim (b == a) as (λ r. (b == a) ≡ r → ◌≡◌ {A = Bool} false r) [
    | true ↦ λ f. let same : b ≡ a = grind (arith, nat_tests) in let as_well : (a == b) ≡ true = same_place_is a b (sym same) in cc
    | false ↦ λ f. refl
  ] refl
] refl

apart : (paths : List (Bor (List ℕ))) (n : ℕ) (entries : List Entry) → AreEntries paths n entries → IsDistinct same_place entries
apart paths n entries are = IsDistinct-from_apart same_place entries (λ i j d less within.
    let low : (slice_index_or entries i d).1 ≡ i = (are.each i _ (slice_get-get_or entries i d (omega arith))).0 in
    let high : (slice_index_or entries j d).1 ≡ j = (are.each j _ (slice_get-get_or entries j d within)).0 in
    other_place_is (slice_index_or entries i d).1 (slice_index_or entries j d).1 (omega (arith, low, high)))

-- two entries with one place stand at one
once : (sorted : List Entry) → IsDistinct same_place sorted → HasOnce sorted
once sorted distinct = λ i j a b here there same.
    let at_i : slice_index_or sorted i a ≡ a = get_or_from_slice_get sorted i a a here in
    let at_j : slice_index_or sorted j a ≡ b = get_or_from_slice_get sorted j b a there in
    let low : i < length sorted = slice_get_within sorted i a here in
    let high : j < length sorted = slice_get_within sorted j b there in
    elim (nat_lt i j) as (λ r. nat_lt i j ≡ r → i ≡ j) [
      | true ↦ λ less.
          let other : same_place (slice_index_or sorted i a) (slice_index_or sorted j a) ≡ false = apart_from_distinct same_place sorted i j a distinct (grind (arith, nat_tests)) high in
          let is : same_place a b ≡ false = ap (λ x. same_place x b) (sym at_i) ∙ ap (same_place (slice_index_or sorted i a)) (sym at_j) ∙ other in
          let both : same_place a b ≡ true = same_place_is a.1 b.1 same in
          cc
      | false ↦ λ more. elim (nat_lt j i) as (λ r. nat_lt j i ≡ r → i ≡ j) [
        | true ↦ λ less.
            let other : same_place (slice_index_or sorted j a) (slice_index_or sorted i a) ≡ false = apart_from_distinct same_place sorted j i a distinct (grind (arith, nat_tests)) low in
            let is : same_place b a ≡ false = ap (λ x. same_place x a) (sym at_j) ∙ ap (same_place (slice_index_or sorted j a)) (sym at_i) ∙ other in
            let both : same_place b a ≡ true = same_place_is b.1 a.1 (sym same) in
            cc
        | false ↦ λ not_less. grind (arith, nat_tests)
      ] refl
    ] refl

pub sorted_of : (paths : List (Bor (List ℕ))) (n : ℕ) (entries sorted : List Entry) → length paths ≤ n → AreEntries paths n entries → IsPermutation entries sorted → IsSorted entry_cmp sorted → IsSortedOf (texts paths) sorted
sorted_of paths n entries sorted all are moved in_order = record {
  rising = rising sorted in_order;
  told = λ i e there.
      let is : Contains entries e = Contains-permutation sorted entries e (IsPermutation-sym entries sorted moved) (contains_at sorted i e there) in
      let at : (k : ℕ) × (slice_get entries k ≡ Some e) = at_held entries e is in
      let has : (e.1 ≡ at.0) × (slice_get paths at.0 ≡ Some e.0) = are.each at.0 e at.1 in
      same_text paths e.1 e.0 (ap (slice_get paths) has.0 ∙ has.1);
  whole = λ place path there.
      let within : place < length entries = omega (arith, slice_get_within (texts paths) place path there, length-map paths (λ (x : Bor (List ℕ)). x.now), are.len) in
      let here : slice_get entries place ≡ Some (slice_index_or entries place none) = slice_get-get_or entries place none within in
      let is : Contains sorted (slice_index_or entries place none) = Contains-permutation entries sorted _ moved (contains_at entries place _ here) in
      let at : (k : ℕ) × (slice_get sorted k ≡ Some (slice_index_or entries place none)) = at_held sorted _ is in
      (at.0, (slice_index_or entries place none, at.1, (are.each place _ here).0));
  once = once sorted (IsDistinct-IsPermutation same_place (λ x y. flips x.1 y.1) entries sorted moved (apart paths n entries are));
}
  where
    none : Entry
    none = (record { ref_ptr = (0, 0); now = [] }, 0)

-- ---- what entries say of the paths

pub prefixes_from : (paths : List (List ℕ)) (sorted : List Entry) (name places : List ℕ) → IsSortedOf paths sorted → ArePrefixesAmong sorted name places → ArePrefixes paths name places
prefixes_from paths sorted name places is among = record {
  each = λ place begins.
      let has : (i : ℕ) × ((e : Entry) × (slice_get sorted i ≡ Some e) × (e.1 ≡ place)) = is.whole place begins.path begins.at in
      let told : slice_get paths has.1.0.1 ≡ Some has.1.0.0.now = is.told has.0 has.1.0 has.1.1 in
      let same : has.1.0.0.now ≡ begins.path = same_Some _ begins.path (sym told ∙ ap (slice_get paths) has.1.2 ∙ begins.at) in
      among.each place (record { i = has.0; entry = has.1.0; at = has.1.1; place_is = has.1.2; prefix = subst (λ p. IsPrefix p name) (sym same) begins.prefix });
  only = λ place held.
      let t : IsPrefixAmong sorted name place = among.only place held in
      record { path = t.entry.0.now; at = ap (slice_get paths) (sym t.place_is) ∙ is.told t.i t.entry t.at; prefix = t.prefix };
  once = among.once;
}
