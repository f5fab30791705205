-- How many marks are set.
use Rattle.std.proofs.Common.{◌≡◌, ◌+◌, ℕ, Bool, true, false, cond, List, [], ◌∷◌, length, replicate, nat_lt, count_by, refl, ap, arith}
use Rattle.std.specs.List.{list_any}
use Rattle.std.proofs.lemmas.Bool.Decides.{nat_tests}
use Rattle.std.proofs.lemmas.List.Sums.{sum_by-cons}

one_more : (flags : List Bool) → count_by (λ flag. flag) (true ∷ flags) ≡ 1 + count_by (λ flag. flag) flags
one_more flags = sum_by-cons (λ flag. cond flag 1 0) true flags

above : (n m : ℕ) → n ≡ 1 + m → nat_lt 0 n ≡ true
above n m is = grind (arith, nat_tests)

-- one is set where they count above 0
pub any-count : (flags : List Bool) → nat_lt 0 (count_by (λ flag. flag) flags) ≡ list_any (λ flag. flag) flags
any-count [] = refl
any-count (true ∷ flags) = above _ _ (one_more flags)
any-count (false ∷ flags) = any-count flags

-- where they count 0, none is
pub none-count : (flags : List Bool) → count_by (λ flag. flag) flags ≡ 0 → flags ≡ replicate (length flags) false
none-count [] none = refl
none-count (true ∷ flags) none = absurd (omega (arith, one_more flags))
none-count (false ∷ flags) none = ap (λ rest. false ∷ rest) (none-count flags none)
