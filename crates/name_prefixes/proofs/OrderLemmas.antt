-- Prefixes of texts and the order of their bytes.
use Rattle.std.proofs.Common.{◌≡◌, ℕ, ◌≤◌, true, false, List, [], ◌∷◌, ◌++◌, refl, sym, ap, ◌∙◌, arith, nat_lt}
use Rattle.std.specs.Ordering.{is_lt, nat_cmp}
use Rattle.std.specs.Cmp.Lexicographic.{slice_cmp}
use Rattle.std.proofs.lemmas.Bool.Decides.{nat_tests}
use Rattle.std.proofs.lemmas.Grind.{common_steps}
use Rattle.name_prefixes.specs.Prefixes.{IsPrefix}

-- after equal first bytes the rest decides
rest_decides : (x y : ℕ) (xs ys : List ℕ) → y ≡ x → is_lt (slice_cmp nat_cmp (y ∷ ys) (x ∷ xs)) ≡ false → is_lt (slice_cmp nat_cmp ys xs) ≡ false
rest_decides x y xs ys same above = grind (arith, nat_tests, common_steps)

-- a text that stands between a prefix of another and that one begins with the prefix
pub between : (prefix middle text : List ℕ) → is_lt (slice_cmp nat_cmp middle prefix) ≡ false → is_lt (slice_cmp nat_cmp text middle) ≡ false
    → IsPrefix prefix text → IsPrefix prefix middle
between [] middle text above below is = (middle, refl)
between (x ∷ xs) [] text above below is = cc
between (x ∷ xs) (y ∷ ys) [] above below is = cc
between (x ∷ xs) (y ∷ ys) (z ∷ zs) above below (rest, e) =
    let same : z ≡ x = cc in
    let more : zs ≡ xs ++ rest = cc in
    let heads : y ≡ x = grind (arith, nat_tests, common_steps) in
    let over : is_lt (slice_cmp nat_cmp ys xs) ≡ false = rest_decides x y xs ys heads above in
    let under : is_lt (slice_cmp nat_cmp zs ys) ≡ false = rest_decides y z ys zs (same ∙ sym heads) below in
    let tail : IsPrefix xs ys = between xs ys zs over under (rest, more) in
    let e2 : ys ≡ xs ++ tail.0 = tail.1 in
    (tail.0, ap (λ a. a ∷ ys) heads ∙ ap (λ b. x ∷ b) e2)

-- what isn't above a text that isn't above another isn't above that one
pub not_above : (lower middle text : List ℕ) → is_lt (slice_cmp nat_cmp middle lower) ≡ false → is_lt (slice_cmp nat_cmp text middle) ≡ false
    → is_lt (slice_cmp nat_cmp text lower) ≡ false
not_above [] middle [] above below = refl
not_above [] middle (z ∷ zs) above below = refl
not_above (x ∷ xs) [] text above below = cc
not_above (x ∷ xs) (y ∷ ys) [] above below = cc
not_above (x ∷ xs) (y ∷ ys) (z ∷ zs) above below =
    let first : x ≤ y = grind (arith, nat_tests, common_steps) in
    let second : y ≤ z = grind (arith, nat_tests, common_steps) in
    elim (nat_lt x z) as (λ b. nat_lt x z ≡ b → is_lt (slice_cmp nat_cmp (z ∷ zs) (x ∷ xs)) ≡ false) [
      | true ↦ λ less. grind (arith, nat_tests, common_steps)
      | false ↦ λ more.
          let same : y ≡ x = grind (arith, nat_tests) in
          let same2 : z ≡ y = grind (arith, nat_tests) in
          let rest : is_lt (slice_cmp nat_cmp zs xs) ≡ false = not_above xs ys zs (rest_decides x y xs ys same above) (rest_decides y z ys zs same2 below) in
          grind (arith, nat_tests, common_steps)
    ] refl

-- a prefix of a text isn't above it
pub prefix_below : (prefix text : List ℕ) → IsPrefix prefix text → is_lt (slice_cmp nat_cmp text prefix) ≡ false
prefix_below [] [] is = refl
prefix_below [] (y ∷ ys) is = refl
prefix_below (x ∷ xs) [] (rest, e) = cc
prefix_below (x ∷ xs) (y ∷ ys) (rest, e) =
    let same : y ≡ x = cc in
    let more : ys ≡ xs ++ rest = cc in
    let tail : is_lt (slice_cmp nat_cmp ys xs) ≡ false = prefix_below xs ys (rest, more) in
    grind (arith, nat_tests, common_steps)
