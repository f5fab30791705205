-- Wrapping twice is wrapping once.
use Rattle.std.proofs.Common.{◌≡◌, ℕ, suc, ◌+◌, ◌-◌, ◌*◌, ◌/◌, ◌%◌, ◌<◌, ◌≤◌, ℤ, pos, negsuc, ◌+ℤ◌, ◌-ℤ◌, ◌*ℤ◌, ◌≤ℤ◌, refl, sym, ap, ap₂, ◌∙◌, ◌^◌, arith}
use Rattle.std.proofs.lemmas.Int.{ints, int_rem_euclid_is}
use Rattle.std.proofs.Math.Nat.{add-mul, mul-le-mul_left, div-add-mod', mod-lt}
use Rattle.std.proofs.lemmas.Nat.{mod-mul-add}
use Rattle.std.specs.Int.{int_rem_euclid}
use Rattle.value_types.specs.Values.{least_of, greatest_of}
use Rattle.value_types.specs.declared.values.PortType.{PortType}
use Rattle.value_types.specs.declared.values.PortType.TheVariants.{Int8, UInt8, Int16, UInt16, Int32, UInt32, Int64, UInt64, Boolean, Enumeration, Clock}
use Rattle.bench_fmus.specs.Wrapping.{wrapped_between, wrapped_int64}
use Rattle.std.proofs.Math.IntN.{*ℤ_comm}
use borrow.Author.Differences.{up, down, same_in, same_out, sum_is_lem, product_is}

-- the numbers differ by a multiple of n
pub record Congruent (n : ℕ) (a b : ℤ) : Type 0 where
  pub above : ℕ
  pub below : ℕ
  pub meets : a +ℤ pos (above * n) ≡ b +ℤ pos (below * n)

-- a remainder differs from its number by a multiple
pub rem_congruent : (a : ℤ) (n : ℕ) → 0 < n → Congruent n a (int_rem_euclid a (pos n))
rem_congruent (pos a) n h = record { above = 0; below = a / n; meets = let e = div-add-mod' a n in omega (arith, ints) }
rem_congruent (negsuc a) n h = record {
  above = suc (a / n);
  below = 0;
  meets = let e = div-add-mod' a n in let l : a % n < n = mod-lt a h in let d = add-mul (a / n) 1 n in omega (arith, ints);
}

-- numbers that differ by a multiple have one remainder
pub congruent_rem : (a b : ℤ) (n : ℕ) → 0 < n → Congruent n a b → int_rem_euclid a (pos n) ≡ int_rem_euclid b (pos n)
congruent_rem a b n h same =
    let t = down a + down b in
    let far : t * 1 ≤ t * n = mul-le-mul_left t h in
    let m = up a + (same.above + t) * n - down a in
    let da = add-mul same.above t n in
    let db = add-mul same.below t n in
    let e = same.meets in
    let fa : a +ℤ pos ((same.above + t) * n) ≡ pos m = omega (arith, ints) in
    let fb : b +ℤ pos ((same.below + t) * n) ≡ pos m = omega (arith, ints) in
    int_rem_euclid_is a (pos n) n (same.above + t) m h refl fa ∙ sym (int_rem_euclid_is b (pos n) n (same.below + t) m h refl fb)

-- the range has n numbers
abbrev pub HasSize : ℤ → ℤ → ℕ → Type 0
HasSize least greatest n = (0 < n) × (greatest -ℤ least +ℤ pos 1 ≡ pos n)

wrapped_is : (least greatest z : ℤ) (n : ℕ) → HasSize least greatest n → wrapped_between least greatest z ≡ least +ℤ int_rem_euclid (z -ℤ least) (pos n)
wrapped_is least greatest z n size = ap (λ (d : ℤ). least +ℤ int_rem_euclid (z -ℤ least) d) size.1

-- a number may be reduced first
pub wrapped_rem : (least greatest z : ℤ) (n : ℕ) → HasSize least greatest n →
    least +ℤ int_rem_euclid (int_rem_euclid z (pos n) -ℤ least) (pos n) ≡ wrapped_between least greatest z
wrapped_rem least greatest z n size =
    let r = int_rem_euclid z (pos n) in
    let same = rem_congruent z n size.0 in
    let e = same.meets in
    let shifted : Congruent n (r -ℤ least) (z -ℤ least) = record { above = same.below; below = same.above; meets = omega (arith, ints) } in
    ap (λ (x : ℤ). least +ℤ x) (congruent_rem (r -ℤ least) (z -ℤ least) n size.0 shifted) ∙ sym (wrapped_is least greatest z n size)

-- so may a part of a sum be wrapped first
pub wrapped_sum : (least greatest a b : ℤ) (n : ℕ) → HasSize least greatest n →
    wrapped_between least greatest (a +ℤ wrapped_between least greatest b) ≡ wrapped_between least greatest (a +ℤ b)
wrapped_sum least greatest a b n size =
    let r = int_rem_euclid (b -ℤ least) (pos n) in
    let w = wrapped_between least greatest b in
    let is : w ≡ least +ℤ r = wrapped_is least greatest b n size in
    let same = rem_congruent (b -ℤ least) n size.0 in
    let e = same.meets in
    let shifted : Congruent n ((a +ℤ w) -ℤ least) ((a +ℤ b) -ℤ least) = record { above = same.below; below = same.above; meets = omega (arith, ints) } in
    wrapped_is least greatest (a +ℤ w) n size
    ∙ ap (λ (x : ℤ). least +ℤ x) (congruent_rem ((a +ℤ w) -ℤ least) ((a +ℤ b) -ℤ least) n size.0 shifted)
    ∙ sym (wrapped_is least greatest (a +ℤ b) n size)

-- ---- products

-- a factor may be another that differs by a multiple
times_congruent : (n : ℕ) (a b c : ℤ) → Congruent n a b → Congruent n (a *ℤ c) (b *ℤ c)
times_congruent n a b c same =
    let e = same.meets in
    let sum : up a + same.above * n + down b ≡ up b + same.below * n + down a = omega (arith, same_out, sum_is_lem) in
    let above = ap (λ x. x * up c) sum in
    let below = ap (λ x. x * down c) sum in
    record {
      above = same.above * up c + same.below * down c;
      below = same.below * up c + same.above * down c;
      meets = omega (arith, same_in, sum_is_lem, product_is);
    }

-- what a number is wrapped to differs by a multiple
wrapped_congruent : (least greatest z : ℤ) (n : ℕ) → HasSize least greatest n → Congruent n (wrapped_between least greatest z) z
wrapped_congruent least greatest z n size =
    let is : wrapped_between least greatest z ≡ least +ℤ int_rem_euclid (z -ℤ least) (pos n) = wrapped_is least greatest z n size in
    let same = rem_congruent (z -ℤ least) n size.0 in
    let e = same.meets in
    record { above = same.below; below = same.above; meets = omega (arith, ints) }

-- numbers that differ by a multiple are wrapped to one
wrapped_same : (least greatest y z : ℤ) (n : ℕ) → HasSize least greatest n → Congruent n y z → wrapped_between least greatest y ≡ wrapped_between least greatest z
wrapped_same least greatest y z n size same =
    let e = same.meets in
    let shifted : Congruent n (y -ℤ least) (z -ℤ least) = record { above = same.above; below = same.below; meets = omega (arith, ints) } in
    wrapped_is least greatest y n size ∙ ap (λ (x : ℤ). least +ℤ x) (congruent_rem (y -ℤ least) (z -ℤ least) n size.0 shifted) ∙ sym (wrapped_is least greatest z n size)

-- both factors may be wrapped first
pub wrapped_product : (a b : ℤ) → wrapped_int64 (wrapped_int64 a *ℤ wrapped_int64 b) ≡ wrapped_int64 (a *ℤ b)
wrapped_product a b =
    first a (wrapped_int64 b)
    ∙ ap (λ (x : ℤ). wrapped_int64 x) (*ℤ_comm a (wrapped_int64 b))
    ∙ first b a
    ∙ ap (λ (x : ℤ). wrapped_int64 x) (*ℤ_comm b a)
  where
    size : HasSize (negsuc (2 ^ 63 - 1)) (pos (2 ^ 63 - 1)) (2 ^ 64)
    size = (omega arith, refl)

    first : (x y : ℤ) → wrapped_int64 (wrapped_int64 x *ℤ y) ≡ wrapped_int64 (x *ℤ y)
    first x y =
        wrapped_same (negsuc (2 ^ 63 - 1)) (pos (2 ^ 63 - 1)) (wrapped_int64 x *ℤ y) (x *ℤ y) (2 ^ 64) size
        (times_congruent (2 ^ 64) (wrapped_int64 x) x y (wrapped_congruent (negsuc (2 ^ 63 - 1)) (pos (2 ^ 63 - 1)) x (2 ^ 64) size))

-- the same of numbers that are written in other ways
pub wrapped_product_by : (a b first second product product_again : ℤ) →
    first ≡ wrapped_int64 a → second ≡ wrapped_int64 b → product_again ≡ first *ℤ second → product ≡ wrapped_int64 product_again → product ≡ wrapped_int64 (a *ℤ b)
wrapped_product_by a b first second product product_again first_is second_is again is =
    is ∙ ap (λ (x : ℤ). wrapped_int64 x) (again ∙ ap₂ (λ (x y : ℤ). x *ℤ y) first_is second_is) ∙ wrapped_product a b

-- a number of the range stays as it is
pub wrapped_within : (least greatest z : ℤ) → least ≤ℤ z → z ≤ℤ greatest → z ≡ wrapped_between least greatest z
wrapped_within least greatest z low high =
    let n = up greatest + down least + 1 - down greatest - up least in
    let size : HasSize least greatest n = (omega (arith, ints), omega (arith, ints)) in
    let m = up z + down least - down z - up least in
    let small : m < n = omega (arith, ints) in
    let rest : (z -ℤ least) +ℤ pos (0 * n) ≡ pos (0 * n + m) = omega (arith, ints) in
    let last : int_rem_euclid (z -ℤ least) (pos n) ≡ pos ((0 * n + m) % n) = int_rem_euclid_is (z -ℤ least) (pos n) n 0 (0 * n + m) size.0 refl rest in
    let back : z ≡ least +ℤ pos m = omega (arith, ints) in
    back ∙ ap (λ (k : ℕ). least +ℤ pos k) (sym (mod-mul-add 0 n m small)) ∙ ap (λ (x : ℤ). least +ℤ x) (sym last) ∙ sym (wrapped_is least greatest z n size)

-- what a remainder of a remainder gives; its numbers may be written in other ways
pub wrapped_by : (least greatest z value count rest less last sum : ℤ) → least ≤ℤ greatest →
    rest ≡ int_rem_euclid value count → last ≡ int_rem_euclid less count →
    value ≡ z → count ≡ greatest -ℤ least +ℤ pos 1 → less ≡ rest -ℤ least → sum ≡ least +ℤ last →
    sum ≡ wrapped_between least greatest z
wrapped_by least greatest z value count rest less last sum order first second value_is count_is less_is sum_is =
    let n = up greatest + down least + 1 - down greatest - up least in
    let size : HasSize least greatest n = (omega (arith, ints), omega (arith, ints)) in
    let count_n : count ≡ pos n = count_is ∙ size.1 in
    let r : rest ≡ int_rem_euclid z (pos n) = first ∙ ap₂ int_rem_euclid value_is count_n in
    let l : last ≡ int_rem_euclid (int_rem_euclid z (pos n) -ℤ least) (pos n) =
    second ∙ ap₂ int_rem_euclid (less_is ∙ ap (λ (x : ℤ). x -ℤ least) r) count_n in
    sum_is ∙ ap (λ (x : ℤ). least +ℤ x) l ∙ wrapped_rem least greatest z n size

-- a sum whose second part is wrapped first
pub wrapped_int64_by : (a b part b_again sum sum_again : ℤ) →
    part ≡ wrapped_int64 b_again → sum ≡ wrapped_int64 sum_again → b_again ≡ b → sum_again ≡ a +ℤ part → sum ≡ wrapped_int64 (a +ℤ b)
wrapped_int64_by a b part b_again sum sum_again first second b_is sum_is =
    let size : HasSize (negsuc (2 ^ 63 - 1)) (pos (2 ^ 63 - 1)) (2 ^ 64) = (omega arith, refl) in
    let p : part ≡ wrapped_int64 b = first ∙ ap (λ (x : ℤ). wrapped_int64 x) b_is in
    second ∙ ap (λ (x : ℤ). wrapped_int64 x) (sum_is ∙ ap (λ (x : ℤ). a +ℤ x) p)
    ∙ wrapped_sum (negsuc (2 ^ 63 - 1)) (pos (2 ^ 63 - 1)) a b (2 ^ 64) size

-- the range of a type lies in that of 64 bits
pub within_words : (kind : PortType) → (negsuc (2 ^ 63 - 1) ≤ℤ least_of kind) × (least_of kind ≤ℤ greatest_of kind) × (greatest_of kind ≤ℤ pos (2 ^ 64 - 1))
within_words Int8 = (omega (arith, ints), omega (arith, ints), omega (arith, ints))
within_words UInt8 = (omega (arith, ints), omega (arith, ints), omega (arith, ints))
within_words Int16 = (omega (arith, ints), omega (arith, ints), omega (arith, ints))
within_words UInt16 = (omega (arith, ints), omega (arith, ints), omega (arith, ints))
within_words Int32 = (omega (arith, ints), omega (arith, ints), omega (arith, ints))
within_words UInt32 = (omega (arith, ints), omega (arith, ints), omega (arith, ints))
within_words Int64 = (omega (arith, ints), omega (arith, ints), omega (arith, ints))
within_words UInt64 = (omega (arith, ints), omega (arith, ints), omega (arith, ints))
within_words Boolean = (omega (arith, ints), omega (arith, ints), omega (arith, ints))
within_words Enumeration = (omega (arith, ints), omega (arith, ints), omega (arith, ints))
within_words Clock = (omega (arith, ints), omega (arith, ints), omega (arith, ints))
