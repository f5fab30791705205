-- Elements in the order of their references: the first with each is found.
use Rattle.std.proofs.Common.{◌≡◌, ℕ, ◌<◌, ◌≤◌, ◌==◌, Bool, true, false, List, length, Option, Some, None, get_or, refl, sym, ap, ◌∙◌, subst, inl, inr, arith, nat_lt}
use Rattle.std.specs.List.{slice_get, position_or_len, AllWithin}
use Rattle.std.specs.List.Sorted.{IsSorted, IsPermutation}
use Rattle.std.specs.Option.{option_map}
use Rattle.std.specs.Ordering.{is_lt}
use Rattle.std.proofs.lemmas.Bool.{cases_lt}
use Rattle.std.proofs.lemmas.Bool.Decides.{nat_tests}
use Rattle.std.proofs.lemmas.List.Folds.{find_at}
use Rattle.std.proofs.lemmas.List.Sums.{position_or_len_is, fails_before_first, passes_at_first}
use Rattle.std.proofs.lemmas.List.Sorted.{All-permutation, Contains-permutation}
use Rattle.std.proofs.lemmas.Option.{slice_get_within, slice_get-get_or, slice_get_past, get_or_from_slice_get}
use Rattle.value_types.specs.Index.{pair_cmp}
use Rattle.value_types.proofs.CallerLemmas.{lower_second, not_before, rising}
use Rattle.doc_tables.specs.Tables.{Finds, IsTable}
use Rattle.doc_tables.proofs.CallerLemmas.{IsWithin}
use Rattle.fmu_description.specs.Places.{AreListed, AreListedBelow, found}

-- ---- the list

pub all_listed : (key : ℕ → Option ℕ) (n : ℕ) (entries : List (ℕ × ℕ)) → IsWithin key n → AreListedBelow key n entries → AreListed key entries
all_listed key n entries within below = record { told = below.told; whole = λ k r some. below.whole k r (within k r some) some }

-- ---- the order

has_reference : (r x : ℕ) → (x == r) ≡ true → x ≡ r
has_reference r x is = grind (arith, nat_tests)

has_other : (r x : ℕ) → (x ≡ r → ⊥) → (x == r) ≡ false
has_other r x apart = grind (arith, nat_tests)

same_test : (r : ℕ) → (r == r) ≡ true
same_test r = grind (arith, nat_tests)

-- ---- what is found

module _ (entries : List (ℕ × ℕ)) (r : ℕ) where
  abbrev has : ℕ × ℕ → Bool
  has e = e.0 == r

  found_at : found entries r ≡ option_map (λ (e : ℕ × ℕ). e.1) (slice_get entries (position_or_len has entries))
  unfolding found
  found_at = ap (option_map (λ (e : ℕ × ℕ). e.1)) (find_at has entries)

  module _ (key : ℕ → Option ℕ) (are : AreListed key entries) (sorted : IsSorted pair_cmp entries) where
    first : (o : Option (ℕ × ℕ)) → slice_get entries (position_or_len has entries) ≡ o → Finds key r (option_map (λ (e : ℕ × ℕ). e.1) o)
    first None past = λ held.
        let listed = are.whole held.0 r held.1 in
        elim (cases_lt listed.0 (position_or_len has entries)) [
          | inl lower ↦
              let fails : has (get_or entries listed.0 (r, held.0)) ≡ false = fails_before_first has entries listed.0 (r, held.0) lower in
              let passes : has (get_or entries listed.0 (r, held.0)) ≡ true = ap has listed.2 ∙ same_test r in
              cc
          | inr after ↦
              let within : position_or_len has entries < length entries = let l = listed.1 in omega (arith, l, after) in
              let there : slice_get entries (position_or_len has entries) ≡ Some (get_or entries (position_or_len has entries) (r, held.0)) = slice_get-get_or entries (position_or_len has entries) (r, held.0) within in
              cc
        ]
    first (Some e) at = (told, earlier)
      where
        within : position_or_len has entries < length entries
        within = slice_get_within entries (position_or_len has entries) e at

        here : get_or entries (position_or_len has entries) e ≡ e
        here = get_or_from_slice_get entries (position_or_len has entries) e e at

        is : e.0 ≡ r
        is = has_reference r e.0 (ap has (sym here) ∙ passes_at_first has entries e within)

        told : key e.1 ≡ Some r
        told = subst (λ (f : ℕ × ℕ). key f.1 ≡ Some f.0) here (are.told (position_or_len has entries) e within) ∙ ap Some is

        earlier : (j : ℕ) → j < e.1 → key j ≡ Some r → ⊥
        earlier j less some =
            let listed = are.whole j r some in
            let at_j : slice_get entries listed.0 ≡ Some (r, j) = slice_get-get_or entries listed.0 (r, j) listed.1 ∙ ap Some listed.2 in
            elim (cases_lt listed.0 (position_or_len has entries)) [
              | inl lower ↦
                  let fails : has (get_or entries listed.0 (r, j)) ≡ false = fails_before_first has entries listed.0 (r, j) lower in
                  let passes : has (get_or entries listed.0 (r, j)) ≡ true = ap has listed.2 ∙ same_test r in
                  cc
              | inr after ↦
                  let high : is_lt (pair_cmp (r, j) e) ≡ false = not_before entries (position_or_len has entries) listed.0 e (r, j) sorted at at_j after in
                  let low : is_lt (pair_cmp (r, j) e) ≡ true = subst (λ z. is_lt (pair_cmp (r, j) (z, e.1)) ≡ true) (sym is) (lower_second r j e.1 less) in
                  cc
            ]

    pub finds : Finds key r (found entries r)
    finds = subst (Finds key r) (sym found_at) (first (slice_get entries (position_or_len has entries)) refl)

  -- the place where the entries of the reference begin, or would
  module _ (sorted : IsSorted pair_cmp entries) (at : ℕ) (below : AllWithin (λ (e : ℕ × ℕ). nat_lt e.0 r ≡ true) entries 0 at) (above : AllWithin (λ (e : ℕ × ℕ). nat_lt e.0 r ≡ false) entries at (length entries)) where
    other_below : (k : ℕ) (d : ℕ × ℕ) → k < at → has (get_or entries k d) ≡ false
    other_below k d less = has_other r (get_or entries k d).0 (λ same. let low : nat_lt (get_or entries k d).0 r ≡ true = below k d (omega arith) less in grind (arith, nat_tests))

    pub found_here : (e : ℕ × ℕ) → slice_get entries at ≡ Some e → e.0 ≡ r → Some e.1 ≡ found entries r
    found_here e there same =
        let within = slice_get_within entries at e there in
        let passes : has (get_or entries at e) ≡ true = ap has (get_or_from_slice_get entries at e e there) ∙ ap (λ x. x == r) same ∙ same_test r in
        let place : position_or_len has entries ≡ at = position_or_len_is has entries at e (omega arith) (λ k less. other_below k e less) (λ _. passes) in
        sym (found_at ∙ ap (λ k. option_map (λ (x : ℕ × ℕ). x.1) (slice_get entries k)) place ∙ ap (option_map (λ (x : ℕ × ℕ). x.1)) there)

    missing : (d : ℕ × ℕ) → ((k : ℕ) → k < length entries → has (get_or entries k d) ≡ false) → None ≡ found entries r
    missing d none =
        let place : position_or_len has entries ≡ length entries = position_or_len_is has entries (length entries) d (omega arith) none (λ less. absurd (omega arith)) in
        sym (found_at ∙ ap (λ k. option_map (λ (x : ℕ × ℕ). x.1) (slice_get entries k)) place ∙ ap (option_map (λ (x : ℕ × ℕ). x.1)) (slice_get_past entries (length entries) (omega arith)))

    pub found_other : (e : ℕ × ℕ) → slice_get entries at ≡ Some e → (e.0 ≡ r → ⊥) → None ≡ found entries r
    found_other e there other = missing e (λ k within. elim (cases_lt k at) [
      | inl lower ↦ other_below k e lower
      | inr after ↦
          let here : get_or entries at e ≡ e = get_or_from_slice_get entries at e e there in
          let first : e.0 ≤ (get_or entries k e).0 = subst (λ (f : ℕ × ℕ). f.0 ≤ (get_or entries k e).0) here (rising entries sorted at k e after within) in
          let least : nat_lt e.0 r ≡ false = subst (λ (f : ℕ × ℕ). nat_lt f.0 r ≡ false) here (above at e (omega arith) (slice_get_within entries at e there)) in
          has_other r (get_or entries k e).0 (λ same. other (grind (arith, nat_tests)))
    ])

    pub found_past : slice_get entries at ≡ None → None ≡ found entries r
    found_past past = missing (0, 0) (λ k within. elim (cases_lt k at) [
      | inl lower ↦ other_below k (0, 0) lower
      | inr after ↦ let there : slice_get entries at ≡ Some (get_or entries at (0, 0)) = slice_get-get_or entries at (0, 0) (omega arith) in cc
    ])

-- the elements that are listed are found once they are in order
pub finds_sorted : (key : ℕ → Option ℕ) (entries ordered : List (ℕ × ℕ)) → AreListed key entries → IsPermutation entries ordered → IsSorted pair_cmp ordered → IsTable key (found ordered)
finds_sorted key entries ordered are moved sorted = λ r. finds ordered r key (record {
  told = All-permutation (λ (e : ℕ × ℕ). key e.1 ≡ Some e.0) entries ordered moved are.told;
  whole = λ k reference some. Contains-permutation entries ordered (reference, k) moved (are.whole k reference some);
}) sorted
