-- Decimals of a description (FMI 3.0, Clocks: intervalDecimal and shiftDecimal): of the texts of XML Schema's double
-- (XML Schema 1.0, part 2, 3.2.5) those that have no `-` in front and name no infinity and no NaN.
use Rattle.std.specs.Prelude.{◌≡◌, ℕ, ◌+◌, ◌*◌, ◌^◌, ◌<◌, ◌≤◌, Bool, ◌==◌, ◌||◌, List, ◌++◌, length, if◌then◌else◌}
use Rattle.std.specs.List.{before_first, after_first}
use Rattle.std.specs.Str.Parse.{IsNumeral, digits_value, without_leading_plus, without_leading_sign, starts_with_minus}
use Rattle.clock_fraction.specs.declared.fraction.Fraction.{Fraction}

-- ---- the parts of a text

-- `e` or `E`
abbrev pub is_mark : ℕ → Bool
is_mark b = b == 101 || b == 69

-- `.`
abbrev pub is_point : ℕ → Bool
is_point b = b == 46

-- the text after an optional `+`
abbrev pub body : List ℕ → List ℕ
body text = without_leading_plus text

-- what stands before the first `e` or `E`, and what comes after it
abbrev pub mantissa : List ℕ → List ℕ
mantissa text = before_first is_mark (body text)

abbrev pub exponent : List ℕ → List ℕ
exponent text = after_first is_mark (body text)

-- what stands before the first point of the mantissa, and what comes after it
abbrev pub whole : List ℕ → List ℕ
whole text = before_first is_point (mantissa text)

abbrev pub places : List ℕ → List ℕ
places text = after_first is_point (mantissa text)

-- one digit or more, and where a mark is there a number after it, with an optional sign
pub record IsDecimal (text : List ℕ) : Type 0 where
  pub digits : IsNumeral 10 (whole text ++ places text)
  pub power : length (mantissa text) < length (body text) → IsNumeral 10 (without_leading_sign (exponent text))

-- ---- the number that a text writes: `number text * 10 ^ raised text / 10 ^ lowered text`

-- all digits of the mantissa, without their point
abbrev pub number : List ℕ → ℕ
number text = digits_value 10 (whole text ++ places text)

-- the number after the mark and its sign, 0 where there is none
abbrev pub power : List ℕ → ℕ
power text = digits_value 10 (without_leading_sign (exponent text))

-- the tens of a positive exponent
abbrev pub raised : List ℕ → ℕ
raised text = if starts_with_minus (exponent text) then 0 else power text

-- the tens of the digits after the point, and of a negative exponent
abbrev pub lowered : List ℕ → ℕ
lowered text = length (places text) + (if starts_with_minus (exponent text) then power text else 0)

-- the fraction is `number * 10 ^ up / 10 ^ down`, over the least power of ten that does, and within the limits
pub record IsShortest (number up down k : ℕ) (fraction : Fraction) : Type 0 where
  pub value : fraction.counter * 10 ^ down ≡ number * 10 ^ (up + k)
  pub least : (n j : ℕ) → n * 10 ^ down ≡ number * 10 ^ (up + j) → k ≤ j
  pub resolution : fraction.resolution ≡ 10 ^ k
  pub few_places : k ≤ 18
  pub small : fraction.counter ≤ 10 ^ 18

-- the text is a decimal, and the fraction is its number
abbrev pub Denotes : List ℕ → Fraction → Type 0
Denotes text fraction = IsDecimal text × ((k : ℕ) × IsShortest (number text) (raised text) (lowered text) k fraction)
