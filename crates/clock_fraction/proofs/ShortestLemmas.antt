-- A number with powers of ten as a fraction over the least power of ten.
use Rattle.std.proofs.Common.{◌≡◌, ◌≢◌, ℕ, ◌+◌, ◌-◌, ◌*◌, ◌/◌, ◌%◌, ◌^◌, ◌<◌, ◌≤◌, inl, inr, refl, sym, ap, ◌∙◌, arith}
use Rattle.std.proofs.Math.Nat.{mul-div_cancel, mul-mod_left, one-le-pow, pow-le-pow_right, mul-le-mul_left, mul-le-mul_right}
use Rattle.std.proofs.lemmas.Nat.{pow-add}
use Rattle.std.proofs.lemmas.Bool.{cases_lt}
use Rattle.clock_fraction.specs.declared.fraction.Fraction.{Fraction}
use Rattle.clock_fraction.specs.Decimal.{IsShortest}

-- two numbers with equal multiples are equal
mul-cancel_right : (a b n : ℕ) → 0 < n → a * n ≡ b * n → a ≡ b
mul-cancel_right a b n some same = sym (mul-div_cancel a some) ∙ ap (λ x. x / n) same ∙ mul-div_cancel b some

-- a power of ten is above 0
pub ten_above : (i : ℕ) → 0 < 10 ^ i
ten_above i = omega (arith, one-le-pow i 10 (omega arith))

abbrev made : ℕ → ℕ → Fraction
made counter resolution = record { counter = counter; resolution = resolution }

-- nothing is 0 / 1
pub zero_is : (up down : ℕ) → IsShortest 0 up down 0 (record { counter = 0; resolution = 1 })
zero_is up down = record {
  value = omega arith;
  least = λ n j _. omega arith;
  resolution = refl;
  few_places = omega arith;
  small = omega arith;
}

pub zero_only : (up down k : ℕ) (fraction : Fraction) → IsShortest 0 up down k fraction → record { counter = 0; resolution = 1 } ≡ fraction
zero_only up down k fraction is =
    let no_places : k ≡ 0 = omega (arith, is.least 0 0 (omega arith)) in
    let nothing : fraction.counter ≡ 0 = mul-cancel_right fraction.counter 0 (10 ^ down) (ten_above down) (is.value ∙ omega arith) in
    let over_one : fraction.resolution ≡ 1 = is.resolution ∙ ap (λ i. 10 ^ i) no_places in
    sym (ap (λ n. made n fraction.resolution) nothing ∙ ap (made 0) over_one)

-- any other number stands over the tens that it lacks, times those that it has left
value_at : (number up down : ℕ) → number * 10 ^ (up - down) * 10 ^ down ≡ number * 10 ^ (up + (down - up))
value_at number up down =
    let same : up - down + down ≡ up + (down - up) = omega arith in
    let tens : 10 ^ (up - down) * 10 ^ down ≡ 10 ^ (up + (down - up)) = sym (pow-add 10 (up - down) down) ∙ ap (λ i. 10 ^ i) same in
    let product : number * (10 ^ (up - down) * 10 ^ down) ≡ number * 10 ^ (up + (down - up)) = ap (λ x. number * x) tens in
    omega arith

least_at : (number up down n j : ℕ) → number % 10 ≢ 0 → n * 10 ^ down ≡ number * 10 ^ (up + j) → down - up ≤ j
least_at number up down n j lasts same =
    elim (cases_lt j (down - up)) [
      | inl lacks ↦
          let i = down - up - j - 1 in
          let parts : 10 ^ down ≡ 10 ^ i * 10 * 10 ^ (up + j) =
          ap (λ x. 10 ^ x) (let sum : down ≡ i + 1 + (up + j) = omega arith in sum) ∙ pow-add 10 (i + 1) (up + j) ∙ ap (λ x. x * 10 ^ (up + j)) (pow-add 10 i 1) in
          let product : n * 10 ^ down ≡ n * (10 ^ i * 10 * 10 ^ (up + j)) = ap (λ x. n * x) parts in
          let tenfold : n * 10 ^ i * 10 ≡ number = mul-cancel_right (n * 10 ^ i * 10) number (10 ^ (up + j)) (ten_above (up + j)) (omega arith) in
          absurd (lasts (ap (λ x. x % 10) (sym tenfold) ∙ mul-mod_left (n * 10 ^ i) 10))
      | inr enough ↦ enough
    ]

-- what the parts of such a fraction are
pub record AreParts (number up down k counter : ℕ) : Type 0 where
  pub places : k ≡ down - up
  pub counts : counter ≡ number * 10 ^ (up - down)

pub shortest_parts : (number up down k : ℕ) (fraction : Fraction) → number % 10 ≢ 0 → IsShortest number up down k fraction → AreParts number up down k fraction.counter
shortest_parts number up down k fraction lasts is =
    let above = is.least (number * 10 ^ (up - down)) (down - up) (value_at number up down) in
    let below = least_at number up down fraction.counter k lasts is.value in
    let places : k ≡ down - up = omega arith in
    let product : fraction.counter * 10 ^ down ≡ number * 10 ^ (up - down) * 10 ^ down =
    is.value ∙ ap (λ i. number * 10 ^ (up + i)) places ∙ sym (value_at number up down) in
    record {
      places = places;
      counts = mul-cancel_right fraction.counter (number * 10 ^ (up - down)) (10 ^ down) (ten_above down) product;
    }

-- and that they are such a fraction
pub shortest_is : (number up down : ℕ) (fraction : Fraction) → number % 10 ≢ 0 → fraction.counter ≡ number * 10 ^ (up - down) → fraction.resolution ≡ 10 ^ (down - up) → down - up ≤ 18 → fraction.counter ≤ 10 ^ 18 → IsShortest number up down (down - up) fraction
shortest_is number up down fraction lasts counts resolution few_places small = record {
  value = ap (λ x. x * 10 ^ down) counts ∙ value_at number up down;
  least = λ n j same. least_at number up down n j lasts same;
  resolution = resolution;
  few_places = few_places;
  small = small;
}

-- within the limits a number has few digits, and few tens are left over or lack
pub record IsBounded (number up down : ℕ) : Type 0 where
  pub digits : number ≤ 10 ^ 18
  pub raise : up - down ≤ 18
  pub places : down - up ≤ 18

pub bounded : (number up down k : ℕ) (fraction : Fraction) → number % 10 ≢ 0 → IsShortest number up down k fraction → IsBounded number up down
bounded number up down k fraction lasts is =
    let parts = shortest_parts number up down k fraction lasts is in
    let some : 0 < number = elim (cases_lt 0 number) [ inl above ↦ above | inr none ↦ absurd (lasts (ap (λ x. x % 10) (let nothing : number ≡ 0 = omega arith in nothing))) ] in
    let tens = ten_above (up - down) in
    let counts = parts.counts in
    let small = is.small in
    record {
      digits = omega (arith, mul-le-mul_left number (ten_above (up - down)));
      raise = elim (cases_lt 18 (up - down)) [
        | inl much ↦
            let power : 10 ^ 19 ≤ 10 ^ (up - down) = pow-le-pow_right {n = 10} (omega arith) {i = 19} {j = up - down} (omega arith) in
            absurd (omega (arith, mul-le-mul_right (10 ^ (up - down)) some))
        | inr little ↦ little
      ];
      places = let places = parts.places in let few = is.few_places in omega arith;
    }

-- there is no other
pub shortest_only : (number up down k : ℕ) (one fraction : Fraction) → number % 10 ≢ 0 → one.counter ≡ number * 10 ^ (up - down) → one.resolution ≡ 10 ^ (down - up) → IsShortest number up down k fraction → one ≡ fraction
shortest_only number up down k one fraction lasts counts resolution is =
    let parts = shortest_parts number up down k fraction lasts is in
    let same_counter : one.counter ≡ fraction.counter = counts ∙ sym parts.counts in
    let same_resolution : one.resolution ≡ fraction.resolution = resolution ∙ ap (λ i. 10 ^ i) (sym parts.places) ∙ sym is.resolution in
    ap (λ n. made n one.resolution) same_counter ∙ ap (made fraction.counter) same_resolution

-- the least power of ten is one, and so is the fraction over it
pub one_shortest : (number up down j k : ℕ) (one other : Fraction) → IsShortest number up down j one → IsShortest number up down k other → one ≡ other
one_shortest number up down j k one other p q =
    let above : k ≤ j = q.least one.counter j p.value in
    let below : j ≤ k = p.least other.counter k q.value in
    let same : j ≡ k = omega arith in
    let counter : one.counter ≡ other.counter = mul-cancel_right one.counter other.counter (10 ^ down) (ten_above down) (p.value ∙ ap (λ i. number * 10 ^ (up + i)) same ∙ sym q.value) in
    let resolution : one.resolution ≡ other.resolution = p.resolution ∙ ap (λ i. 10 ^ i) same ∙ sym q.resolution in
    ap (λ n. made n one.resolution) counter ∙ ap (made other.counter) resolution
