-- A number and a power that are cut off far above the limits of a fraction: nothing is lost.
use Rattle.std.proofs.Common.{◌≡◌, ◌≢◌, ℕ, ◌+◌, ◌-◌, ◌*◌, ◌%◌, ◌^◌, ◌<◌, ◌≤◌, ◌⊎◌, min, inl, inr, Option, Some, None, IfSome, sym, ap, ◌∙◌, subst, arith}
use Rattle.std.proofs.lemmas.Nat.{pow-add}
use Rattle.std.proofs.lemmas.Bool.{cases_lt}
use Rattle.clock_fraction.specs.declared.fraction.Fraction.{Fraction}
use Rattle.clock_fraction.specs.Decimal.{IsShortest}
use Rattle.clock_fraction.proofs.ShortestLemmas.{bounded, zero_only}

-- ---- zeros at the end of a number

zeros_raise : (number prefix tail up j : ℕ) → number ≡ prefix * 10 ^ tail → number * 10 ^ (up + j) ≡ prefix * 10 ^ (tail + up + j)
zeros_raise number prefix tail up j is_number =
    let sum : tail + up + j ≡ tail + (up + j) = omega arith in
    let tens : 10 ^ (tail + up + j) ≡ 10 ^ tail * 10 ^ (up + j) = ap (λ i. 10 ^ i) sum ∙ pow-add 10 tail (up + j) in
    ap (λ x. x * 10 ^ (up + j)) is_number ∙ sym (ap (λ x. prefix * x) tens ∙ omega arith)

shortest_to_prefix : (number prefix tail up down k : ℕ) (fraction : Fraction) → number ≡ prefix * 10 ^ tail → IsShortest number up down k fraction → IsShortest prefix (tail + up) down k fraction
shortest_to_prefix number prefix tail up down k fraction is_number is = record {
  value = is.value ∙ zeros_raise number prefix tail up k is_number;
  least = λ n j same. is.least n j (same ∙ sym (zeros_raise number prefix tail up j is_number));
  resolution = is.resolution;
  few_places = is.few_places;
  small = is.small;
}

shortest_from_prefix : (number prefix tail up down k : ℕ) (fraction : Fraction) → number ≡ prefix * 10 ^ tail → IsShortest prefix (tail + up) down k fraction → IsShortest number up down k fraction
shortest_from_prefix number prefix tail up down k fraction is_number is = record {
  value = is.value ∙ sym (zeros_raise number prefix tail up k is_number);
  least = λ n j same. is.least n j (same ∙ zeros_raise number prefix tail up j is_number);
  resolution = is.resolution;
  few_places = is.few_places;
  small = is.small;
}

-- ---- numbers past the limits

-- the number is 0, or its last digit is not `0`
abbrev pub HasNoZeros : ℕ → Type 0
HasNoZeros number = number ≢ 0 → number % 10 ≢ 0

abbrev IsPast : ℕ → ℕ → ℕ → Type 0
IsPast number up down = (10 ^ 18 < number) ⊎ (18 < up - down) ⊎ (18 < down - up)

past_none : (number up down k : ℕ) (fraction : Fraction) → number % 10 ≢ 0 → IsPast number up down → IsShortest number up down k fraction → ⊥
past_none number up down k fraction lasts past is =
    let within = bounded number up down k fraction lasts is in
    let digits = within.digits in
    let raise = within.raise in
    let places = within.places in
    elim past [ inl p ↦ omega arith | inr p ↦ elim p [ inl q ↦ omega arith | inr q ↦ omega arith ] ]

-- the powers of nothing don't matter
zero_anywhere : (up down up' down' k : ℕ) (fraction : Fraction) → IsShortest 0 up down k fraction → IsShortest 0 up' down' k fraction
zero_anywhere up down up' down' k fraction is =
    let no_places : k ≤ 0 = is.least 0 0 (omega arith) in
    let nothing : 0 ≡ fraction.counter = ap (λ (f : Fraction). f.counter) (zero_only up down k fraction is) in
    record {
      value = ap (λ x. x * 10 ^ down') (sym nothing) ∙ omega arith;
      least = λ n j _. omega arith;
      resolution = is.resolution;
      few_places = is.few_places;
      small = is.small;
    }

-- two numbers with powers are one, or both are past the limits
abbrev Agree : ℕ → ℕ → ℕ → ℕ → ℕ → ℕ → Type 0
Agree number up down number' up' down' =
    ((number ≡ number') × (up ≡ up') × (down ≡ down')) ⊎ (IsPast number up down × IsPast number' up' down')

turned : (number up down number' up' down' : ℕ) → Agree number up down number' up' down' → Agree number' up' down' number up down
turned number up down number' up' down' agree =
    elim agree [ inl same ↦ inl (sym same.0, sym same.1, sym same.2) | inr past ↦ inr (past.1, past.0) ]

same_shortest : (number up down number' up' down' k : ℕ) (fraction : Fraction) → HasNoZeros number → (number ≡ 0 → number' ≡ 0) → Agree number up down number' up' down' → IsShortest number up down k fraction → IsShortest number' up' down' k fraction
same_shortest number up down number' up' down' k fraction lasts nothing_too agree is =
    elim (cases_lt 0 number) [
      | inl some ↦ elim agree [
        | inl same ↦
            let P : ℕ → Type 0 = λ x. IsShortest x up down k fraction in
            let Q : ℕ → Type 0 = λ x. IsShortest number' x down k fraction in
            let R : ℕ → Type 0 = λ x. IsShortest number' up' x k fraction in
            subst R same.2 (subst Q same.1 (subst P same.0 is))
        | inr past ↦ absurd (past_none number up down k fraction (lasts (omega arith)) past.0 is)
      ]
      | inr none ↦
          let nothing : number ≡ 0 = omega arith in
          let P : ℕ → Type 0 = λ x. IsShortest x up down k fraction in
          let Q : ℕ → Type 0 = λ x. IsShortest x up' down' k fraction in
          subst Q (sym (nothing_too nothing)) (zero_anywhere up down up' down' k fraction (subst P nothing is))
    ]

-- ---- the number of a text as it is read

-- a number with zeros at its end, its places and its power, and the prefix and the power as they are read
pub record IsRead (number prefix tail places power prefix' power' : ℕ) : Type 0 where
  pub number_is : number ≡ prefix * 10 ^ tail
  pub lasts : HasNoZeros prefix
  pub few_zeros : tail < 2 ^ 65
  pub few_places : places < 2 ^ 64
  pub prefix_is : prefix' ≡ min prefix (2 ^ 100)
  pub power_is : power' ≡ min power (2 ^ 100)

-- a prefix that is cut off doesn't end in a zero either
pub cut_lasts : (prefix prefix' : ℕ) → HasNoZeros prefix → prefix' ≡ min prefix (2 ^ 100) → HasNoZeros prefix'
cut_lasts prefix prefix' lasts is some =
    elim (cases_lt (2 ^ 100) prefix) [
      | inl above ↦ λ none. absurd (omega (arith, (let cut : prefix' ≡ 2 ^ 100 = omega arith in ap (λ x. x % 10) cut)))
      | inr within ↦
          let same : prefix' ≡ prefix = omega arith in
          λ none. lasts (omega arith) (ap (λ x. x % 10) (sym same) ∙ none)
    ]

agree_minus : (number prefix tail places power prefix' power' : ℕ) → IsRead number prefix tail places power prefix' power' → Agree prefix (tail + 0) (places + power) prefix' tail (places + power')
agree_minus number prefix tail places power prefix' power' read =
    let prefix_is = read.prefix_is in
    let power_is = read.power_is in
    let few_zeros = read.few_zeros in
    elim (cases_lt (2 ^ 100) prefix) [
      | inl above ↦ inr (inl (omega arith), inl (omega arith))
      | inr within ↦ elim (cases_lt (2 ^ 100) power) [
        | inl far ↦ inr (inr (inr (omega arith)), inr (inr (omega arith)))
        | inr near ↦ inl (omega arith, omega arith, omega arith)
      ]
    ]

agree_plus : (number prefix tail places power prefix' power' : ℕ) → IsRead number prefix tail places power prefix' power' → Agree prefix (tail + power) (places + 0) prefix' (tail + power') places
agree_plus number prefix tail places power prefix' power' read =
    let prefix_is = read.prefix_is in
    let power_is = read.power_is in
    let few_places = read.few_places in
    elim (cases_lt (2 ^ 100) prefix) [
      | inl above ↦ inr (inl (omega arith), inl (omega arith))
      | inr within ↦ elim (cases_lt (2 ^ 100) power) [
        | inl far ↦ inr (inr (inl (omega arith)), inr (inl (omega arith)))
        | inr near ↦ inl (omega arith, omega arith, omega arith)
      ]
    ]

cut_zero : (prefix prefix' : ℕ) → prefix' ≡ min prefix (2 ^ 100) → prefix ≡ 0 → prefix' ≡ 0
cut_zero prefix prefix' is nothing = omega arith

zero_cut : (prefix prefix' : ℕ) → prefix' ≡ min prefix (2 ^ 100) → prefix' ≡ 0 → prefix ≡ 0
zero_cut prefix prefix' is nothing = omega arith

-- with a negative exponent
minus_from_read : (number prefix tail places power prefix' power' k : ℕ) (fraction : Fraction) → IsRead number prefix tail places power prefix' power' → IsShortest prefix' tail (places + power') k fraction → IsShortest number 0 (places + power) k fraction
minus_from_read number prefix tail places power prefix' power' k fraction read is =
    shortest_from_prefix number prefix tail 0 (places + power) k fraction read.number_is (same_shortest prefix' tail (places + power') prefix (tail + 0) (places + power) k fraction (cut_lasts prefix prefix' read.lasts read.prefix_is) (zero_cut prefix prefix' read.prefix_is) (turned _ _ _ _ _ _ (agree_minus number prefix tail places power prefix' power' read)) is)

pub minus_to_read : (number prefix tail places power prefix' power' k : ℕ) (fraction : Fraction) → IsRead number prefix tail places power prefix' power' → IsShortest number 0 (places + power) k fraction → IsShortest prefix' tail (places + power') k fraction
minus_to_read number prefix tail places power prefix' power' k fraction read is =
    same_shortest prefix (tail + 0) (places + power) prefix' tail (places + power') k fraction read.lasts (cut_zero prefix prefix' read.prefix_is) (agree_minus number prefix tail places power prefix' power' read) (shortest_to_prefix number prefix tail 0 (places + power) k fraction read.number_is is)

-- with a positive one
plus_from_read : (number prefix tail places power prefix' power' k : ℕ) (fraction : Fraction) → IsRead number prefix tail places power prefix' power' → IsShortest prefix' (tail + power') places k fraction → IsShortest number power (places + 0) k fraction
plus_from_read number prefix tail places power prefix' power' k fraction read is =
    shortest_from_prefix number prefix tail power (places + 0) k fraction read.number_is (same_shortest prefix' (tail + power') places prefix (tail + power) (places + 0) k fraction (cut_lasts prefix prefix' read.lasts read.prefix_is) (zero_cut prefix prefix' read.prefix_is) (turned _ _ _ _ _ _ (agree_plus number prefix tail places power prefix' power' read)) is)

pub plus_to_read : (number prefix tail places power prefix' power' k : ℕ) (fraction : Fraction) → IsRead number prefix tail places power prefix' power' → IsShortest number power (places + 0) k fraction → IsShortest prefix' (tail + power') places k fraction
plus_to_read number prefix tail places power prefix' power' k fraction read is =
    same_shortest prefix (tail + power) (places + 0) prefix' (tail + power') places k fraction read.lasts (cut_zero prefix prefix' read.prefix_is) (agree_plus number prefix tail places power prefix' power' read) (shortest_to_prefix number prefix tail power (places + 0) k fraction read.number_is is)

-- what is found of them is the fraction of the text
pub minus_found : (number prefix tail places power prefix' power' : ℕ) → IsRead number prefix tail places power prefix' power' → (found : Option Fraction) → IfSome found (λ fraction. (k : ℕ) × IsShortest prefix' tail (places + power') k fraction) → IfSome found (λ fraction. (k : ℕ) × IsShortest number 0 (places + power) k fraction)
minus_found number prefix tail places power prefix' power' read None is = tt
minus_found number prefix tail places power prefix' power' read (Some fraction) (k, is) =
    (k, minus_from_read number prefix tail places power prefix' power' k fraction read is)

pub plus_found : (number prefix tail places power prefix' power' : ℕ) → IsRead number prefix tail places power prefix' power' → (found : Option Fraction) → IfSome found (λ fraction. (k : ℕ) × IsShortest prefix' (tail + power') places k fraction) → IfSome found (λ fraction. (k : ℕ) × IsShortest number power (places + 0) k fraction)
plus_found number prefix tail places power prefix' power' read None is = tt
plus_found number prefix tail places power prefix' power' read (Some fraction) (k, is) =
    (k, plus_from_read number prefix tail places power prefix' power' k fraction read is)
