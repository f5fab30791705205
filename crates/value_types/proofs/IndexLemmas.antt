-- First places by an index.
use Rattle.std.proofs.Common.{◌≡◌, ℕ, zero, suc, ◌+◌, ◌<◌, ◌≤◌, ◌==◌, Bool, true, false, not, cond, List, [], ◌∷◌, ◌++◌, length, map, Option, Some, None, get_or, refl, sym, ap, ◌∙◌, subst, arith, nat_lt, find, position, All, Contains}
use Rattle.std.specs.List.{position_or_len, slice_get, AllWithin}
use Rattle.std.specs.List.Sorted.{IsSorted, IsPermutation, IsNonDecreasingBy}
use Rattle.std.specs.Ordering.{is_lt, nat_cmp}
use Rattle.std.specs.Cmp.{IsTotalOrder}
use Rattle.std.proofs.lemmas.Cmp.{nat_cmp_total, on_total, then_total}
use Rattle.std.proofs.lemmas.Bool.Decides.{nat_tests}
use Rattle.std.proofs.lemmas.List.{length-map}
use Rattle.std.proofs.lemmas.List.Elements.{All-push, Contains-push, Contains-append_left}
use Rattle.std.proofs.lemmas.List.Folds.{find_at}
use Rattle.std.proofs.lemmas.List.Sorted.{sorted_far, ranks_by, All-permutation, Contains-permutation}
use Rattle.std.proofs.lemmas.Option.{slice_get_within, slice_get-get_or, get_or_from_slice_get, slice_get_past, same_Some}
use Rattle.std.proofs.lemmas.Grind.{common_steps}
use Rattle.value_types.specs.Index.{pair_cmp, IsIndex}

-- ---- places

-- none before the place passes, and the one there does
first_len : {X : Type 0} (p : X → Bool) (xs : List X) (i : ℕ) (x : X) → slice_get xs i ≡ Some x → p x ≡ true
    → ((k : ℕ) (y : X) → k < i → slice_get xs k ≡ Some y → p y ≡ false) → position_or_len p xs ≡ i
first_len p [] i x at passes before = cc
first_len p (y ∷ ys) zero x at passes before =
    let same : y ≡ x = same_Some y x at in
    let here : p y ≡ true = ap p same ∙ passes in
    ap (λ b. cond (not b) (1 + position_or_len p ys) 0) here
first_len p (y ∷ ys) (suc i) x at passes before =
    let here : p y ≡ false = before 0 y (omega arith) refl in
    let rest : position_or_len p ys ≡ i = first_len p ys i x at passes (λ k z below there. before (suc k) z (omega arith) there) in
    ap (λ b. cond (not b) (1 + position_or_len p ys) 0) here ∙ omega arith

pub position_first : {X : Type 0} (p : X → Bool) (xs : List X) (i : ℕ) (x : X) → slice_get xs i ≡ Some x → p x ≡ true
    → ((k : ℕ) (y : X) → k < i → slice_get xs k ≡ Some y → p y ≡ false) → position p xs ≡ Some i
position_first p xs i x at passes before =
    let len : position_or_len p xs ≡ i = first_len p xs i x at passes before in
    let within : i < length xs = slice_get_within xs i x at in
    let below : nat_lt i (length xs) ≡ true = grind (arith, nat_tests) in
    ap (λ n. cond (nat_lt n (length xs)) (Some n) None) len ∙ ap (λ b. cond b (Some i) None) below

none_len : {X : Type 0} (p : X → Bool) (xs : List X) → ((k : ℕ) (y : X) → slice_get xs k ≡ Some y → p y ≡ false) → position_or_len p xs ≡ length xs
none_len p [] none = refl
none_len p (y ∷ ys) none =
    let rest : position_or_len p ys ≡ length ys = none_len p ys (λ k z there. none (suc k) z there) in
    ap (λ b. cond (not b) (1 + position_or_len p ys) 0) (none 0 y refl) ∙ omega arith

pub position_none : {X : Type 0} (p : X → Bool) (xs : List X) → ((k : ℕ) (y : X) → slice_get xs k ≡ Some y → p y ≡ false) → position p xs ≡ None
position_none p xs none =
    let len : position_or_len p xs ≡ length xs = none_len p xs none in
    let past : nat_lt (length xs) (length xs) ≡ false = grind (arith, nat_tests) in
    ap (λ n. cond (nat_lt n (length xs)) (Some n) None) len ∙ ap (λ b. cond b (Some (length xs)) None) past

map_len : {X Y : Type 0} (f : X → Y) (p : Y → Bool) (xs : List X) → position_or_len p (map f xs) ≡ position_or_len (λ x. p (f x)) xs
map_len f p [] = refl
map_len f p (x ∷ xs) = ap (λ n. cond (not (p (f x))) (1 + n) 0) (map_len f p xs)

pub position-map : {X Y : Type 0} (f : X → Y) (p : Y → Bool) (xs : List X) → position p (map f xs) ≡ position (λ x. p (f x)) xs
position-map f p xs = rw (map_len f p xs, length-map xs f)

split : (b : Bool) (n k : ℕ) → cond b (Some n) None ≡ Some k → (b ≡ true) × (n ≡ k)
split true n k e = (refl, same_Some n k e)
split false n k e = cc

missing : (b : Bool) (n : ℕ) → ◌≡◌ {A = Option ℕ} (cond b (Some n) None) None → b ≡ false
missing true n e = cc
missing false n e = refl

pub find_placed : {X : Type 0} (p : X → Bool) (xs : List X) (k : ℕ) → position p xs ≡ Some k → find p xs ≡ slice_get xs k
find_placed p xs k placed = find_at p xs ∙ ap (slice_get xs) (split _ _ k placed).1

pub find_missing : {X : Type 0} (p : X → Bool) (xs : List X) → position p xs ≡ None → find p xs ≡ None
find_missing {X} p xs none =
    let past : nat_lt (position_or_len p xs) (length xs) ≡ false = missing _ _ none in
    find_at p xs ∙ slice_get_past xs (position_or_len p xs) (grind (arith, nat_tests))

pub placed_within : {X : Type 0} (p : X → Bool) (xs : List X) (k : ℕ) → position p xs ≡ Some k → k < length xs
placed_within p xs k placed =
    let is : (nat_lt (position_or_len p xs) (length xs) ≡ true) × (position_or_len p xs ≡ k) = split _ _ k placed in
    grind (arith, nat_tests)

-- ---- the order of the entries

pub pair_total : IsTotalOrder pair_cmp
pair_total = then_total (on_total (λ (x : ℕ × ℕ). x.0) nat_cmp_total) (on_total (λ (x : ℕ × ℕ). x.1) nat_cmp_total)

-- an entry that comes after another isn't before it
pub not_before : (index : List (ℕ × ℕ)) (i j : ℕ) (e f : ℕ × ℕ) → IsSorted pair_cmp index → slice_get index i ≡ Some e → slice_get index j ≡ Some f → i ≤ j
    → is_lt (pair_cmp f e) ≡ false
not_before index i j e f sorted at_i at_j le =
    rw (← get_or_from_slice_get index i e e at_i, ← get_or_from_slice_get index j f e at_j)
    (sorted_far _ (ranks_by pair_total (λ (x : ℕ × ℕ). x)) index sorted i j e le (slice_get_within index j f at_j))

lower_first : (r s p q : ℕ) → r < s → is_lt (pair_cmp (r, p) (s, q)) ≡ true
lower_first r s p q less = grind (arith, nat_tests, common_steps)

pub lower_second : (r p q : ℕ) → p < q → is_lt (pair_cmp (r, p) (r, q)) ≡ true
lower_second r p q less = grind (arith, nat_tests, common_steps)

not_lower : (e f : ℕ × ℕ) → is_lt (pair_cmp f e) ≡ false → e.0 ≤ f.0
not_lower (r, p) (s, q) e = grind (arith, nat_tests, common_steps)

pub rising : (index : List (ℕ × ℕ)) → IsSorted pair_cmp index → IsNonDecreasingBy (λ (e : ℕ × ℕ). e.0) index
rising index sorted i j d le within =
    not_lower (get_or index i d) (get_or index j d) (sorted_far _ (ranks_by pair_total (λ (x : ℕ × ℕ). x)) index sorted i j d le within)

-- ---- the first place of a reference

not_itself : (r : ℕ) → nat_lt r r ≡ true → ⊥
not_itself r less = grind (arith, nat_tests)

same_test : (x r : ℕ) → x ≡ r → (x == r) ≡ true
same_test x r e = grind (arith, nat_tests)

other_test : (x r : ℕ) → (x ≡ r → ⊥) → (x == r) ≡ false
other_test x r apart = grind (arith, nat_tests)

module _ (references : List ℕ) (index : List (ℕ × ℕ)) (is : IsIndex references index) (at r : ℕ)
    (below : AllWithin (λ (e : ℕ × ℕ). nat_lt e.0 r ≡ true) index 0 at) (above : AllWithin (λ (e : ℕ × ℕ). nat_lt e.0 r ≡ false) index at (length index))
  where
    -- an entry with the reference stands at the place or after it
    stands : (q : ℕ) → slice_get references q ≡ Some r → (j : ℕ) × (at ≤ j) × (slice_get index j ≡ Some (r, q))
    stands q there = split_at (is.whole q r there)
      where
        split_at : Contains index (r, q) → (j : ℕ) × (at ≤ j) × (slice_get index j ≡ Some (r, q))
        split_at held = elim (nat_lt held.0 at) as (λ b. nat_lt held.0 at ≡ b → (j : ℕ) × (at ≤ j) × (slice_get index j ≡ Some (r, q))) [
          | true ↦ λ less. absurd (not_itself r (ap (λ (e : ℕ × ℕ). nat_lt e.0 r) (sym held.2) ∙ below held.0 (r, q) (omega arith) (grind (arith, nat_tests))))
          | false ↦ λ more. (held.0, grind (arith, nat_tests), slice_get-get_or index held.0 (r, q) held.1 ∙ ap Some held.2)
        ] refl

    -- no place but those of entries after the place has the reference
    pub none_other : (e : ℕ × ℕ) → slice_get index at ≡ Some e → (e.0 ≡ r → ⊥) → None ≡ position (λ x. x == r) references
    none_other e here other = sym (position_none (λ x. x == r) references (λ q x there. other_test x r (λ same.
        let found : (j : ℕ) × (at ≤ j) × (slice_get index j ≡ Some (r, q)) = stands q (there ∙ ap Some same) in
        let low : is_lt (pair_cmp (r, q) e) ≡ false = not_before index at found.0 e (r, q) is.sorted here found.2 found.1 in
        let least : nat_lt e.0 r ≡ false = subst (λ (f : ℕ × ℕ). nat_lt f.0 r ≡ false) (get_or_from_slice_get index at e e here) (above at e (omega arith) (slice_get_within index at e here)) in
        let less : r < e.0 = grind (arith, nat_tests) in
        let above : is_lt (pair_cmp (r, q) e) ≡ true = lower_first r e.0 q e.1 less in
        cc)))

    pub none_past : slice_get index at ≡ None → None ≡ position (λ x. x == r) references
    none_past past = sym (position_none (λ x. x == r) references (λ q x there. other_test x r (λ same.
        let found : (j : ℕ) × (at ≤ j) × (slice_get index j ≡ Some (r, q)) = stands q (there ∙ ap Some same) in
        let within : found.0 < length index = slice_get_within index found.0 (r, q) found.2 in
        let here : slice_get index at ≡ Some (get_or index at (r, q)) = slice_get-get_or index at (r, q) (omega (arith, found.1)) in
        cc)))

    pub first_is : (e : ℕ × ℕ) → slice_get index at ≡ Some e → e.0 ≡ r → Some e.1 ≡ position (λ x. x == r) references
    first_is e here same = sym (position_first (λ x. x == r) references e.1 e.0 told (same_test e.0 r same) earlier)
      where
        told : slice_get references e.1 ≡ Some e.0
        told = subst (λ (f : ℕ × ℕ). slice_get references f.1 ≡ Some f.0) (get_or_from_slice_get index at e e here) (is.told at e (slice_get_within index at e here))

        earlier : (q x : ℕ) → q < e.1 → slice_get references q ≡ Some x → (x == r) ≡ false
        earlier q x less there = other_test x r (λ is_r.
            let found : (j : ℕ) × (at ≤ j) × (slice_get index j ≡ Some (r, q)) = stands q (there ∙ ap Some is_r) in
            let low : is_lt (pair_cmp (r, q) e) ≡ false = not_before index at found.0 e (r, q) is.sorted here found.2 found.1 in
            let above : is_lt (pair_cmp (e.0, q) e) ≡ true = lower_second e.0 q e.1 less in
            cc)

-- ---- made

pub told_push : (references : List ℕ) (index : List (ℕ × ℕ)) (r p : ℕ) → slice_get references p ≡ Some r
    → All (λ (e : ℕ × ℕ). slice_get references e.1 ≡ Some e.0) index → All (λ (e : ℕ × ℕ). slice_get references e.1 ≡ Some e.0) (index ++ (r, p) ∷ [])
told_push references index r p there told = All-push (λ (e : ℕ × ℕ). slice_get references e.1 ≡ Some e.0) index (r, p) told there

-- the entries of the places below n are there
abbrev pub HasBelow : List ℕ → List (ℕ × ℕ) → ℕ → Type 0
HasBelow references index n = (place reference : ℕ) → place < n → slice_get references place ≡ Some reference → Contains index (reference, place)

pub has_push : (references : List ℕ) (index : List (ℕ × ℕ)) (r p : ℕ) → slice_get references p ≡ Some r
    → HasBelow references index p → HasBelow references (index ++ (r, p) ∷ []) (p + 1)
has_push references index r p there has = λ place reference below is.
    elim (nat_lt place p) as (λ b. nat_lt place p ≡ b → Contains (index ++ (r, p) ∷ []) (reference, place)) [
      | true ↦ λ less. Contains-append_left index ((r, p) ∷ []) (reference, place) (has place reference (grind (arith, nat_tests)) is)
      | false ↦ λ more.
          let here : place ≡ p = grind (arith, nat_tests) in
          let same : reference ≡ r = same_Some reference r (sym is ∙ ap (slice_get references) here ∙ there) in
          subst (Contains (index ++ (r, p) ∷ [])) (ap (λ x. (x, p)) (sym same) ∙ ap (λ y. (reference, y)) (sym here)) (Contains-push index (r, p))
    ] refl

pub index_made : (references : List ℕ) (entries index : List (ℕ × ℕ)) (n : ℕ) → length references ≤ n → IsPermutation entries index → IsSorted pair_cmp index
    → All (λ (e : ℕ × ℕ). slice_get references e.1 ≡ Some e.0) entries → HasBelow references entries n → IsIndex references index
index_made references entries index n all moved sorted told has = record {
  sorted = sorted;
  told = All-permutation (λ (e : ℕ × ℕ). slice_get references e.1 ≡ Some e.0) entries index moved told;
  whole = λ place reference there.
      let within : place < length references = slice_get_within references place reference there in
      Contains-permutation entries index (reference, place) moved (has place reference (omega arith) there);
}
