-- The place at which a text is split.
use Rattle.std.proofs.Common.{◌≡◌, ℕ, Bool, not, List, length, unwrap_or, arith}
use Rattle.std.proofs.lemmas.Bool.Decides.{nat_tests}
use Rattle.std.proofs.lemmas.List.Sums.{prefix_len-le-length}
use Rattle.std.specs.List.{position, position_or_len}

-- the place of the first that passes is the length where none does
pub unwrap_or-position : (p : ℕ → Bool) (xs : List ℕ) → unwrap_or (position p xs) (length xs) ≡ position_or_len p xs
unwrap_or-position p xs =
    let within = prefix_len-le-length (λ x. not (p x)) xs in
    grind (arith, nat_tests)
