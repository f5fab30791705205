-- Lists of elements in document order, one element after another, and that there is one for each sort.
use Rattle.std.proofs.Common.{◌≡◌, ◌⊎◌, ◌↔◌, ℕ, zero, suc, ◌+◌, ◌<◌, ◌≤◌, Bool, IsTrue, List, [], ◌∷◌, ◌++◌, length, get_or, slice_get, Option, Some, None, IsSome, Result, Ok, Err, MatchOption, MatchResult, refl, sym, ap, ◌∙◌, subst, inl, inr, arith, length-append}
use Rattle.std.specs.List.{Contains}
use Rattle.std.specs.Result.{result_ok}
use Rattle.std.specs.List.Sorted.{IsBinarySearchResult}
use Rattle.std.specs.Ordering.{nat_cmp}
use Rattle.std.proofs.Math.Seq.{get_or-append_seam}
use Rattle.std.proofs.lemmas.Bool.{cases_lt, cases_order}
use Rattle.std.proofs.lemmas.List.{get_or_append_left, get_or_default}
use Rattle.std.proofs.lemmas.List.Elements.{Contains-append_left, Contains-push, Contains-push_cases, Contains-get_or}
use Rattle.std.proofs.lemmas.List.Sorted.{searched}
use Rattle.std.proofs.lemmas.Option.{slice_get-get_or, get_or_from_slice_get, slice_get_within}
use Rattle.ssd_tree.specs.Listings.{IsRising, IsListing, IsListingBelow}

-- ---- one element more

contains_none : (k : ℕ) → Contains [] k → ⊥
contains_none k h = let lower = h.1 in omega (arith, lower)

pub rising_push : (xs : List ℕ) (n : ℕ) → IsRising xs → ((k : ℕ) → Contains xs k → k < n) → IsRising (xs ++ n ∷ [])
rising_push xs n rising below i j lower within = at (cases_lt j (length xs))
  where
    size : length (xs ++ n ∷ []) ≡ length xs + 1
    size = length-append xs (n ∷ [])

    first : i < length xs → get_or (xs ++ n ∷ []) i 0 ≡ get_or xs i 0
    first h = get_or_append_left xs (n ∷ []) 0 i h

    at : (j < length xs) ⊎ (length xs ≤ j) → get_or (xs ++ n ∷ []) i 0 < get_or (xs ++ n ∷ []) j 0
    at (inl h) =
        let old : get_or xs i 0 < get_or xs j 0 = rising i j lower h in
        let second : get_or (xs ++ n ∷ []) j 0 ≡ get_or xs j 0 = get_or_append_left xs (n ∷ []) 0 j h in
        let e : get_or (xs ++ n ∷ []) i 0 ≡ get_or xs i 0 = first (omega arith) in
        omega arith
    at (inr h) =
        let same : length xs ≡ j = omega (arith, size) in
        let last : get_or (xs ++ n ∷ []) j 0 ≡ n = subst (λ (z : ℕ). get_or (xs ++ n ∷ []) z 0 ≡ n) same (get_or-append_seam xs n [] 0) in
        let inside : i < length xs = omega arith in
        let e : get_or (xs ++ n ∷ []) i 0 ≡ get_or xs i 0 = first inside in
        let under : get_or xs i 0 < n = below (get_or xs i 0) (Contains-get_or xs i 0 inside) in
        omega arith

module _ (Sort : ℕ → Type 0) where
  pub listing_none : IsListingBelow Sort 0 []
  listing_none = record {
    rising = λ i j lower within. absurd (omega (arith, within));
    each = λ k. (λ h. absurd (contains_none k h), λ h. let lower = h.0 in absurd (omega (arith, lower)));
  }

  next_cases : (k n : ℕ) → k < n + 1 → (k < n) ⊎ (n ≡ k)
  next_cases k n h = elim (cases_order k n) as (λ v. (k < n) ⊎ (n ≡ k)) [ inl e ↦ inr (sym e) | inr (inl lower) ↦ inl lower | inr (inr higher) ↦ absurd (omega arith) ]

  pub listing_yes : (n : ℕ) (xs : List ℕ) → IsListingBelow Sort n xs → Sort n → IsListingBelow Sort (n + 1) (xs ++ n ∷ [])
  listing_yes n xs all here = record {
    rising = rising_push xs n all.rising (λ k h. ((all.each k).0 h).0);
    each = λ k. (λ h. to k (Contains-push_cases xs n k h), λ h. from k h.1 (next_cases k n h.0));
  }
    where
      to : (k : ℕ) → Contains xs k ⊎ (n ≡ k) → (k < n + 1) × Sort k
      to k (inl h) = let p : (k < n) × Sort k = (all.each k).0 h in let lower = p.0 in (omega (arith, lower), p.1)
      to k (inr e) = (omega (arith, e), subst Sort e here)

      from : (k : ℕ) → Sort k → (k < n) ⊎ (n ≡ k) → Contains (xs ++ n ∷ []) k
      from k p (inl h) = Contains-append_left xs (n ∷ []) k ((all.each k).1 (h, p))
      from k p (inr e) = subst (λ (z : ℕ). Contains (xs ++ n ∷ []) z) e (Contains-push xs n)

  pub listing_no : (n : ℕ) (xs : List ℕ) → IsListingBelow Sort n xs → (Sort n → ⊥) → IsListingBelow Sort (n + 1) xs
  listing_no n xs all none = record {
    rising = all.rising;
    each = λ k. (λ h. to k ((all.each k).0 h), λ h. from k h.1 (next_cases k n h.0));
  }
    where
      to : (k : ℕ) → (k < n) × Sort k → (k < n + 1) × Sort k
      to k p = let lower = p.0 in (omega (arith, lower), p.1)

      from : (k : ℕ) → Sort k → (k < n) ⊎ (n ≡ k) → Contains xs k
      from k p (inl h) = (all.each k).1 (h, p)
      from k p (inr e) = absurd (none (subst Sort (sym e) p))

  pub listing_whole : (n : ℕ) (xs : List ℕ) → ((k : ℕ) → Sort k → k < n) → IsListingBelow Sort n xs → IsListing Sort xs
  listing_whole n xs within all = record {
    rising = all.rising;
    each = λ k. (λ h. ((all.each k).0 h).1, λ p. (all.each k).1 (within k p, p));
  }

-- ---- the place of an element

place_found : (xs : List ℕ) (k : ℕ) (r : Result ℕ ℕ) → MatchResult r (λ i. (i < length xs) × (get_or xs i 0 ≡ k)) (λ i. (i ≤ length xs) × ((j : ℕ) → j < i → get_or xs j 0 < k) × ((j : ℕ) → i ≤ j → j < length xs → k < get_or xs j 0))
    → MatchOption (result_ok r) (Contains xs k → ⊥) (λ i. slice_get xs i ≡ Some k)
place_found xs k (Ok i) h = slice_get-get_or xs i 0 h.0 ∙ ap (λ (z : ℕ). Some z) h.1
place_found xs k (Err i) h = λ c. at c (cases_lt c.0 i)
  where
    at : (c : Contains xs k) → (c.0 < i) ⊎ (i ≤ c.0) → ⊥
    at c (inl lower) =
        let is : get_or xs c.0 0 ≡ k = get_or_default xs c.0 0 k c.1 ∙ c.2 in
        let less : get_or xs c.0 0 < k = h.1 c.0 lower in
        omega (arith, is, less)
    at c (inr higher) =
        let is : get_or xs c.0 0 ≡ k = get_or_default xs c.0 0 k c.1 ∙ c.2 in
        let more : k < get_or xs c.0 0 = h.2 c.0 higher c.1 in
        omega (arith, is, more)

pub place : (xs : List ℕ) (k : ℕ) (r : Result ℕ ℕ) → IsRising xs → IsBinarySearchResult (λ y. nat_cmp y k) xs r → MatchOption (result_ok r) (Contains xs k → ⊥) (λ i. slice_get xs i ≡ Some k)
place xs k r rising found = place_found xs k r (searched xs k r found (λ i j lower within. at i j within (cases_order i j) lower))
  where
    at : (i j : ℕ) → j < length xs → (i ≡ j) ⊎ ((i < j) ⊎ (j < i)) → i ≤ j → get_or xs i 0 ≤ get_or xs j 0
    at i j within (inl e) lower = let same : get_or xs i 0 ≡ get_or xs j 0 = ap (λ (z : ℕ). get_or xs z 0) e in omega arith
    at i j within (inr (inl less)) lower = let rises : get_or xs i 0 < get_or xs j 0 = rising i j less within in omega arith
    at i j within (inr (inr more)) lower = absurd (omega arith)

pub some_place : (xs : List ℕ) (k : ℕ) (o : Option ℕ) → Contains xs k → MatchOption o (Contains xs k → ⊥) (λ i. slice_get xs i ≡ Some k) → IsSome o
some_place xs k None c none = absurd (none c)
some_place xs k (Some i) c is = refl

pub contains_at : (xs : List ℕ) (i k : ℕ) → slice_get xs i ≡ Some k → Contains xs k
contains_at xs i k h = (i, slice_get_within xs i k h, get_or_from_slice_get xs i k k h)

-- an element has one place
pub one_place : (xs : List ℕ) (i j k : ℕ) → IsRising xs → slice_get xs i ≡ Some k → slice_get xs j ≡ Some k → i ≡ j
one_place xs i j k rising p q = at (cases_order i j)
  where
    first : get_or xs i 0 ≡ k
    first = get_or_from_slice_get xs i k 0 p

    second : get_or xs j 0 ≡ k
    second = get_or_from_slice_get xs j k 0 q

    at : (i ≡ j) ⊎ ((i < j) ⊎ (j < i)) → i ≡ j
    at (inl e) = e
    at (inr (inl lower)) = let rises : get_or xs i 0 < get_or xs j 0 = rising i j lower (slice_get_within xs j k q) in absurd (omega (arith, first, second))
    at (inr (inr lower)) = let rises : get_or xs j 0 < get_or xs i 0 = rising j i lower (slice_get_within xs i k p) in absurd (omega (arith, first, second))

-- a test whether an element is on the list
pub listed : (Sort : ℕ → Type 0) (xs ys : List ℕ) (k : ℕ) (b : Bool) → ys ≡ xs → IsListing Sort xs → (IsTrue b ↔ Contains ys k) → IsTrue b ↔ Sort k
listed Sort xs ys k b same all is =
    (λ e. (all.each k).0 (subst (λ (zs : List ℕ). Contains zs k) same (is.0 e)), λ p. is.1 (subst (λ (zs : List ℕ). Contains zs k) (sym same) ((all.each k).1 p)))

-- ---- one list

rising_tail : (x : ℕ) (xs : List ℕ) → IsRising (x ∷ xs) → IsRising xs
rising_tail x xs rising i j lower within = rising (suc i) (suc j) (omega arith) (omega arith)

rising_head : (x k : ℕ) (xs : List ℕ) → IsRising (x ∷ xs) → Contains xs k → x < k
rising_head x k xs rising c =
    let is : get_or xs c.0 0 ≡ k = get_or_default xs c.0 0 k c.1 ∙ c.2 in
    let within = c.1 in
    let rises : x < get_or xs c.0 0 = rising 0 (suc c.0) (omega arith) (omega (arith, within)) in
    omega (arith, is, rises)

contains_cons : (x k : ℕ) (xs : List ℕ) → Contains (x ∷ xs) k → (x ≡ k) ⊎ Contains xs k
contains_cons x k xs (zero, within, is) = inl is
contains_cons x k xs (suc i, within, is) = inr (i, omega (arith, within), is)

pub contains_later : (x k : ℕ) (xs : List ℕ) → Contains xs k → Contains (x ∷ xs) k
contains_later x k xs c = let within = c.1 in (suc c.0, omega (arith, within), c.2)

contains_first : (x : ℕ) (xs : List ℕ) → Contains (x ∷ xs) x
contains_first x xs = (0, omega arith, refl)

-- what is in the one is in the other
Within : List ℕ → List ℕ → Type 0
Within xs ys = (k : ℕ) → Contains xs k → Contains ys k

least_first : (x y : ℕ) (xs ys : List ℕ) → IsRising (x ∷ xs) → IsRising (y ∷ ys) → Contains (x ∷ xs) y → Contains (y ∷ ys) x → x ≡ y
least_first x y xs ys p q c d = at (contains_cons x y xs c) (contains_cons y x ys d)
  where
    at : (x ≡ y) ⊎ Contains xs y → (y ≡ x) ⊎ Contains ys x → x ≡ y
    at (inl e) d = e
    at (inr c) (inl e) = sym e
    at (inr c) (inr d) =
        let one : x < y = rising_head x y xs p c in
        let other : y < x = rising_head y x ys q d in
        absurd (omega arith)

within_tail : (x y : ℕ) (xs ys : List ℕ) → IsRising (x ∷ xs) → x ≡ y → Within (x ∷ xs) (y ∷ ys) → Within xs ys
unfolding Within
within_tail x y xs ys rising same within k c = at (contains_cons y k ys (within k (contains_later x k xs c)))
  where
    at : (y ≡ k) ⊎ Contains ys k → Contains ys k
    at (inl e) = let above : x < k = rising_head x k xs rising c in absurd (omega (arith, e, same))
    at (inr d) = d

same_rising : (xs ys : List ℕ) → IsRising xs → IsRising ys → Within xs ys → Within ys xs → xs ≡ ys
unfolding Within
same_rising [] [] p q c d = refl
same_rising [] (y ∷ ys) p q c d = absurd (contains_none y (d y (contains_first y ys)))
same_rising (x ∷ xs) [] p q c d = absurd (contains_none x (c x (contains_first x xs)))
same_rising (x ∷ xs) (y ∷ ys) p q c d =
    let e : x ≡ y = least_first x y xs ys p q (d y (contains_first y ys)) (c x (contains_first x xs)) in
    ap (λ (z : ℕ). z ∷ xs) e
    ∙ ap (λ (zs : List ℕ). y ∷ zs)
    (same_rising xs ys (rising_tail x xs p) (rising_tail y ys q) (within_tail x y xs ys p e c) (within_tail y x ys xs q (sym e) d))

-- a sort has one list
pub one_listing : (Sort : ℕ → Type 0) (xs ys : List ℕ) → IsListing Sort xs → IsListing Sort ys → xs ≡ ys
unfolding Within
one_listing Sort xs ys p q =
    same_rising xs ys p.rising q.rising (λ k c. (q.each k).1 ((p.each k).0 c)) (λ k c. (p.each k).1 ((q.each k).0 c))
