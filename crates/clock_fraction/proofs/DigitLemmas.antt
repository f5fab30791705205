-- Numbers that digits write, digit by digit.
use Rattle.std.proofs.Common.{◌≡◌, ◌≢◌, ℕ, zero, suc, ◌+◌, ◌-◌, ◌*◌, ◌%◌, ◌^◌, ◌<◌, ◌≤◌, min, List, [], ◌∷◌, ◌++◌, length, take, get_or, inl, inr, refl, sym, ap, ◌∙◌, arith}
use Rattle.std.proofs.lemmas.List.{take_more, take_all}
use Rattle.std.proofs.lemmas.Bool.{cases_lt}
use Rattle.std.proofs.lemmas.Bool.Decides.{nat_tests}
use Rattle.std.proofs.lemmas.Str.Parse.{digit_at}
use Rattle.std.proofs.lemmas.Nat.{pow-add}
use Rattle.std.specs.Char.{digit_value}
use Rattle.std.specs.Str.Parse.{AllDigits, digits_value_after}

-- one more digit at the end
pub digits_value_after-push : (n : ℕ) (ds : List ℕ) (c : ℕ) → digits_value_after 10 n (ds ++ c ∷ []) ≡ digits_value_after 10 n ds * 10 + digit_value c
digits_value_after-push n [] c = refl
digits_value_after-push n (d ∷ ds) c = digits_value_after-push (n * 10 + digit_value d) ds c

-- one more digit of a list
pub digits_value_after-more : (n : ℕ) (ds : List ℕ) (i : ℕ) → i < length ds → digits_value_after 10 n (take (i + 1) ds) ≡ digits_value_after 10 n (take i ds) * 10 + digit_value (get_or ds i 0)
digits_value_after-more n ds i within =
    ap (digits_value_after 10 n) (take_more ds i 0 within) ∙ digits_value_after-push n (take i ds) (get_or ds i 0)

-- a byte among digits, and the number that it stands for
pub digit_above : (ds : List ℕ) (i : ℕ) → AllDigits 10 ds → i < length ds → 48 ≤ get_or ds i 0
digit_above ds i digits within = (digit_at ds i digits within).0

pub digit_value-at : (ds : List ℕ) (i : ℕ) → AllDigits 10 ds → i < length ds → digit_value (get_or ds i 0) ≡ get_or ds i 0 - 48
digit_value-at ds i digits within = let range = digit_at ds i digits within in grind (arith, nat_tests)

-- a `0` at the end of a prefix is a factor of ten
pub zeros_more : (n : ℕ) (ds : List ℕ) (len : ℕ) → 0 < len → len ≤ length ds → get_or ds (len - 1) 0 ≡ 48 → digits_value_after 10 n (take len ds) * 10 ^ (length ds - len) ≡ digits_value_after 10 n (take (len - 1) ds) * 10 ^ (length ds - (len - 1))
zeros_more n ds len some within is_zero =
    let rest = digits_value_after 10 n (take (len - 1) ds) in
    let prefix : len - 1 + 1 ≡ len = omega arith in
    let zero : digit_value (get_or ds (len - 1) 0) ≡ 0 = ap digit_value is_zero in
    let last : digits_value_after 10 n (take len ds) ≡ rest * 10 =
    ap (λ k. digits_value_after 10 n (take k ds)) (sym prefix) ∙ digits_value_after-more n ds (len - 1) (omega arith) ∙ ap (λ x. rest * 10 + x) zero ∙ omega arith in
    let tens : 10 ^ (length ds - (len - 1)) ≡ 10 * 10 ^ (length ds - len) =
    ap (λ k. 10 ^ k) (let more : length ds - (len - 1) ≡ 1 + (length ds - len) = omega arith in more) ∙ pow-add 10 1 (length ds - len) in
    ap (λ x. x * 10 ^ (length ds - len)) last ∙ sym (ap (λ x. rest * x) tens ∙ omega arith)

-- digits only make a number greater
pub digits_value_after-ge : (n : ℕ) (ds : List ℕ) → n ≤ digits_value_after 10 n ds
digits_value_after-ge n [] = omega arith
digits_value_after-ge n (d ∷ ds) = omega (arith, digits_value_after-ge (n * 10 + digit_value d) ds)

-- a number that is cut off before more digits is cut off after them
pub min-digits_value_after : (n m : ℕ) (ds : List ℕ) → min (digits_value_after 10 (min n m) ds) m ≡ min (digits_value_after 10 n ds) m
min-digits_value_after n m ds =
    elim (cases_lt m n) [
      | inl above ↦
          let cut : min n m ≡ m = omega arith in
          let least : m ≤ digits_value_after 10 (min n m) ds = omega (arith, digits_value_after-ge (min n m) ds) in
          omega (arith, digits_value_after-ge n ds)
      | inr within ↦
          let whole : min n m ≡ n = omega arith in
          ap (λ x. min (digits_value_after 10 x ds) m) whole
    ]

-- digits after digits
pub digits_value_after-append : (n : ℕ) (xs ys : List ℕ) → digits_value_after 10 n (xs ++ ys) ≡ digits_value_after 10 (digits_value_after 10 n xs) ys
digits_value_after-append n [] ys = refl
digits_value_after-append n (x ∷ xs) ys = digits_value_after-append (n * 10 + digit_value x) xs ys

pub AllDigits-append : (xs ys : List ℕ) → AllDigits 10 xs → AllDigits 10 ys → AllDigits 10 (xs ++ ys)
AllDigits-append [] ys prefix back = back
AllDigits-append (x ∷ xs) ys prefix back = (prefix.0, AllDigits-append xs ys prefix.1 back)

pub AllDigits-prefix : (xs ys : List ℕ) → AllDigits 10 (xs ++ ys) → AllDigits 10 xs
AllDigits-prefix [] ys both = tt
AllDigits-prefix (x ∷ xs) ys both = (both.0, AllDigits-prefix xs ys both.1)

pub AllDigits-back : (xs ys : List ℕ) → AllDigits 10 (xs ++ ys) → AllDigits 10 ys
AllDigits-back [] ys both = both
AllDigits-back (x ∷ xs) ys both = AllDigits-back xs ys both.1

pub AllDigits-take : (n : ℕ) (ds : List ℕ) → AllDigits 10 ds → AllDigits 10 (take n ds)
AllDigits-take zero ds digits = tt
AllDigits-take (suc n) [] digits = tt
AllDigits-take (suc n) (d ∷ ds) digits = (digits.0, AllDigits-take n ds digits.1)

-- a number whose last digit isn't `0` is no multiple of ten
pub last-nonzero : (n : ℕ) (ds : List ℕ) (len : ℕ) → AllDigits 10 ds → 0 < len → len ≤ length ds → get_or ds (len - 1) 0 ≢ 48 → digits_value_after 10 n (take len ds) % 10 ≢ 0
last-nonzero n ds len digits some within other = λ none.
    let prefix : len - 1 + 1 ≡ len = omega arith in
    let value = digit_value-at ds (len - 1) digits (omega arith) in
    let range = digit_at ds (len - 1) digits (omega arith) in
    let last : digits_value_after 10 n (take len ds) ≡ digits_value_after 10 n (take (len - 1) ds) * 10 + digit_value (get_or ds (len - 1) 0) =
    ap (λ k. digits_value_after 10 n (take k ds)) (sym prefix) ∙ digits_value_after-more n ds (len - 1) (omega arith) in
    omega arith

-- the digits of two lists in one
pub ruleset appends = (AllDigits-append, AllDigits-prefix, AllDigits-back)

-- where no place is kept, the zeros of the places come after those of the whole part
pub zeros_of_both : (whole places : List ℕ) (prefix : ℕ) → ((n : ℕ) → digits_value_after 10 n places ≡ digits_value_after 10 n (take 0 places) * 10 ^ (length places - 0)) → ((n : ℕ) → digits_value_after 10 n whole ≡ digits_value_after 10 n (take prefix whole) * 10 ^ (length whole - prefix)) → digits_value_after 10 0 (whole ++ places) ≡ digits_value_after 10 0 (take prefix whole) * 10 ^ (length places - 0 + (length whole - prefix))
zeros_of_both whole places prefix no_places zeros =
    let number = digits_value_after 10 0 (take prefix whole) in
    let tens : 10 ^ (length places - 0 + (length whole - prefix)) ≡ 10 ^ (length places - 0) * 10 ^ (length whole - prefix) = pow-add 10 (length places - 0) (length whole - prefix) in
    digits_value_after-append 0 whole places ∙ no_places (digits_value_after 10 0 whole) ∙ ap (λ x. x * 10 ^ (length places - 0)) (zeros 0) ∙ sym (ap (λ x. number * x) tens ∙ omega arith)

-- otherwise the whole part is kept
pub zeros_of_places : (whole places : List ℕ) (kept : ℕ) → ((n : ℕ) → digits_value_after 10 n places ≡ digits_value_after 10 n (take kept places) * 10 ^ (length places - kept)) → digits_value_after 10 0 (whole ++ places) ≡ digits_value_after 10 (digits_value_after 10 0 (take (length whole) whole)) (take kept places) * 10 ^ (length places - kept + (length whole - length whole))
zeros_of_places whole places kept zeros =
    let all : take (length whole) whole ≡ whole = take_all (length whole) whole (omega arith) in
    let no_more : length places - kept + (length whole - length whole) ≡ length places - kept = omega arith in
    digits_value_after-append 0 whole places ∙ zeros (digits_value_after 10 0 whole)
    ∙ sym (ap (λ xs. digits_value_after 10 (digits_value_after 10 0 xs) (take kept places) * 10 ^ (length places - kept + (length whole - length whole))) all
    ∙ ap (λ k. digits_value_after 10 (digits_value_after 10 0 whole) (take kept places) * 10 ^ k) no_more)

-- no digit writes 0, and any digits end in one that isn't `0`
pub last-of_prefix : (ds : List ℕ) (len : ℕ) → AllDigits 10 ds → len ≤ length ds → (0 < len → get_or ds (len - 1) 0 ≢ 48) → digits_value_after 10 0 (take len ds) ≢ 0 → digits_value_after 10 0 (take len ds) % 10 ≢ 0
last-of_prefix ds len digits within other some =
    elim (cases_lt 0 len) [
      | inl above ↦ last-nonzero 0 ds len digits above within (other above)
      | inr none ↦ absurd (some (ap (λ k. digits_value_after 10 0 (take k ds)) (let nothing : len ≡ 0 = omega arith in nothing)))
    ]
