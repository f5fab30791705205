-- A number of 64 bits has at most twenty digits, one of 128 bits at most 39.
use Rattle.std.proofs.Common.{ℕ, suc, ℤ, pos, negsuc, ◌<◌, ◌≤◌, ◌^◌, length, decimal, arith}
use Rattle.std.specs.Fmt.{signed_decimal}
use Rattle.std.specs.Int.{w128}
use Rattle.std.specs.Prelude.{FitsSigned}
use Rattle.std.proofs.lemmas.Fmt.{length-decimal-le, length-decimal-le_wide}

pub decimal_short : (n : ℕ) → n < 2 ^ 64 → length (decimal n) ≤ 20
decimal_short n small = length-decimal-le 20 n (omega arith) (omega arith) small

pub decimal_wide : (n : ℕ) → n < 2 ^ 128 → length (decimal n) ≤ 39
decimal_wide n small = length-decimal-le_wide 39 n (omega arith) (omega arith) (omega arith)

pub signed_short : (value : ℤ) → FitsSigned w128 value → length (signed_decimal value) ≤ 40
signed_short (pos n) small = let fits = small.sfits in omega (arith, length-decimal-le_wide 39 n (omega arith) (omega arith) (omega arith))
signed_short (negsuc n) small = let fits = small.sfits in omega (arith, length-decimal-le_wide 39 (suc n) (omega arith) (omega arith) (omega arith))
