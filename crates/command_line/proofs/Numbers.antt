use Rattle.std.proofs.Common.{◌≡◌, ℕ, ◌<◌, ◌^◌, List, Some, Result, ap, decimal}
use Rattle.std.proofs.lemmas.Fmt.{parse-decimal}
use Rattle.std.specs.Result.{result_ok}
use Rattle.std.specs.Str.Parse.{ParsesUnsigned}

-- an argument that a number is printed as is read as this number
pub parsed_word : {E : Type 0} (n : ℕ) (word : List ℕ) (read : Result ℕ E) → word ≡ decimal n → n < 2 ^ 64 → ParsesUnsigned 64 10 word read → result_ok read ≡ Some n
parsed_word n word read spelled small parses = ap result_ok (parse-decimal 64 n word read small small spelled parses)
