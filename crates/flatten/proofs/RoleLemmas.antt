-- Clocks of a sound shape: what their timings say, in counts.
use Rattle.std.proofs.Common.{◌≡◌, ℕ, zero, suc, ◌*◌, ◌<◌, ◌≤◌, ◌^◌, Bool, true, false, cond, List, [], ◌∷◌, map, filter, refl, sym, ◌∙◌, ap, subst, arith, nat_eq}
use Rattle.std.specs.Prelude.{◌≢◌, Option, Some, None, IsSomeAnd, IfSome, IsSome, slice_get, ◌==◌, if◌then◌else◌, Contains}
use Rattle.std.specs.List.{AllZip, IsDistinct}
use Rattle.std.proofs.lemmas.Bool.{eqb-true, eq-eqb}
use Rattle.std.proofs.lemmas.Option.{none-some as none_some, same_Some}
use Rattle.std.proofs.lemmas.Map.Keys.{IsDistinct-head, IsDistinct-tail}
use Rattle.std.proofs.Math.Nat.{mul-le-mul_left}
use Rattle.clock_fraction.specs.Counts.{IsCounts, IsInCounts}
use Rattle.clock_fraction.specs.declared.fraction.Fraction.{Fraction}
use Rattle.value_types.specs.Shape.{is_clock, timing_at}
use Rattle.value_types.specs.declared.shape.ClockTiming.{ClockTiming}
use Rattle.value_types.specs.declared.shape.IntervalVariability.TheVariants.{Changing}
use Rattle.value_types.specs.declared.shape.Variable.{Variable}
use Rattle.value_types.specs.declared.shape.Shape.{Shape}
use Rattle.system_model.specs.Shapes.{IsSoundShape, IsSoundClock, is_described}
use Rattle.system_model.specs.Sound.{IsPeriodic}
use Rattle.system_model.proofs.CallerLemmas.{absent_from, contains_at, true_false}

pub some_at : {X : Type 0} (o : Option X) (P : X → Type 0) (x : X) → o ≡ Some x → P x → IsSomeAnd o P
some_at o P x e h = subst (λ z. IsSomeAnd z P) (sym e) h

pub some_of : {X : Type 0} (o : Option X) (P : X → Type 0) → IsSomeAnd o P → (x : X) × (o ≡ Some x) × P x
some_of None P h = absurd h
some_of (Some x) P h = (x, refl, h)

-- ---- the timing of a Clock

timed_among : (shape : Shape) (vs : List Variable) (cs : List ClockTiming) (k : ℕ) (x : Variable) → IsDistinct nat_eq (map (λ (y : Variable). y.reference) vs) → AllZip (IsSoundClock shape) (filter is_clock vs) cs
    → slice_get vs k ≡ Some x → is_clock x ≡ true → IsSomeAnd (timing_at cs x.reference) (IsSoundClock shape x)
timed_among shape [] cs k x distinct zip is clock = absurd (none_some _ is)
timed_among shape (z ∷ zs) cs zero x distinct zip is clock =
    (elim (is_clock z) as (λ b. is_clock z ≡ b → AllZip (IsSoundClock shape) (cond b (z ∷ filter is_clock zs) (filter is_clock zs)) cs → IsSomeAnd (timing_at cs x.reference) (IsSoundClock shape x)) [
      | true ↦ λ t. first cs
      | false ↦ λ t zipped. absurd (true_false (sym clock ∙ ap is_clock (sym (same_Some _ _ is)) ∙ t))
    ]) refl zip
  where
    first : (us : List ClockTiming) → AllZip (IsSoundClock shape) (z ∷ filter is_clock zs) us → IsSomeAnd (timing_at us x.reference) (IsSoundClock shape x)
    first [] zipped = absurd zipped
    first (u ∷ us) zipped =
        let sound : IsSoundClock shape x u = subst (λ w. IsSoundClock shape w u) (same_Some _ _ is) zipped.0 in
        subst (λ b. IsSomeAnd (if b then Some u else timing_at us x.reference) (IsSoundClock shape x)) (sym (eq-eqb u.reference x.reference sound.reference)) sound
timed_among shape (z ∷ zs) cs (suc k) x distinct zip is clock =
    (elim (is_clock z) as (λ b. is_clock z ≡ b → AllZip (IsSoundClock shape) (cond b (z ∷ filter is_clock zs) (filter is_clock zs)) cs → IsSomeAnd (timing_at cs x.reference) (IsSoundClock shape x)) [
      | true ↦ λ t. after (λ us zipped. timed_among shape zs us k x (IsDistinct-tail nat_eq z.reference (map (λ (y : Variable). y.reference) zs) distinct) zipped is clock) cs
      | false ↦ λ t zipped. timed_among shape zs cs k x (IsDistinct-tail nat_eq z.reference (map (λ (y : Variable). y.reference) zs) distinct) zipped is clock
    ]) refl zip
  where
    other : (u : ClockTiming) → IsSoundClock shape z u → (us : List ClockTiming) → IsSomeAnd (timing_at us x.reference) (IsSoundClock shape x) → (b : Bool) → (u.reference == x.reference) ≡ b
        → IsSomeAnd (if b then Some u else timing_at us x.reference) (IsSoundClock shape x)
    other u sound us more true e =
        absurd (absent_from (λ (y : Variable). y.reference) z.reference zs (IsDistinct-head nat_eq z.reference (map (λ (y : Variable). y.reference) zs) distinct) k x is (sym sound.reference ∙ eqb-true u.reference x.reference e))
    other u sound us more false e = more

    after : ((us : List ClockTiming) → AllZip (IsSoundClock shape) (filter is_clock zs) us → IsSomeAnd (timing_at us x.reference) (IsSoundClock shape x)) → (us : List ClockTiming)
        → AllZip (IsSoundClock shape) (z ∷ filter is_clock zs) us → IsSomeAnd (timing_at us x.reference) (IsSoundClock shape x)
    after more [] zipped = absurd zipped
    after more (u ∷ us) zipped = other u zipped.0 us (more us zipped.1) (u.reference == x.reference) refl

-- a Clock of a sound shape has its timing under its reference
pub timed : (shape : Shape) (x : Variable) → IsSoundShape shape → Contains shape.variables x → is_clock x ≡ true → IsSomeAnd (timing_at shape.clocks x.reference) (IsSoundClock shape x)
timed shape x sound held clock =
    let there = contains_at shape.variables x held in
    timed_among shape shape.variables shape.clocks there.0 x sound.variables.distinct sound.clocks there.1 clock

-- ---- counts

-- so many counts of a fraction of 64 bits are few
pub counts_within : (n r p c : ℕ) → 0 < r → n * r ≡ p * c → p ≤ 2 ^ 62 → c ≤ 2 ^ 64 → n ≤ 2 ^ 126
counts_within n r p c known whole per few =
    let a : n * 1 ≤ n * r = mul-le-mul_left n (omega (arith, known)) in
    let b : p * c ≤ p * 2 ^ 64 = mul-le-mul_left p few in
    omega (arith, a, b, whole, per)

-- counts of something above 0
pub counts_above : (n r p c : ℕ) → n * r ≡ p * c → 0 < p → 0 < c → 0 < n
counts_above zero r p c whole per some =
    let a : p * 1 ≤ p * c = mul-le-mul_left p (omega (arith, some)) in
    absurd (omega (arith, a, whole, per))
counts_above (suc n) r p c whole per some = omega arith

-- the counts that a function gives of a fraction that is told and whole
pub counted : (told : Option Fraction) (per_second : ℕ) (f : Fraction → Type 0) → IsSome told → IfSome told (λ x. f x × IsInCounts per_second x) → (n : ℕ) → ((m : ℕ) → IsSomeAnd told (λ x. IsCounts x per_second m) → n ≡ m)
    → IsSomeAnd told (λ x. f x × IsCounts x per_second n)
counted None per_second f some whole n exact = absurd (true_false (sym some))
counted (Some x) per_second f some whole n exact =
    (whole.0, subst (λ m. IsCounts x per_second m) (sym (exact whole.1.0 whole.1.1)) whole.1.1)

second : (told : Option Fraction) (f g : Fraction → Type 0) → IsSomeAnd told (λ x. f x × g x) → IsSomeAnd told g
second None f g h = h
second (Some x) f g h = h.1

plain : (told : Option Fraction) (g : Fraction → Type 0) → IfSome told g → IfSome told (λ x. Unit {0} × g x)
plain None g h = h
plain (Some x) g h = (tt, h)

above : (told : Option Fraction) (per_second n : ℕ) → 0 < per_second → IsSomeAnd told (λ x. (0 < x.counter) × IsCounts x per_second n) → 0 < n
above None per_second n per h = absurd h
above (Some x) per_second n per h = counts_above n x.resolution per_second x.counter h.1.whole per h.0

pub periodic : (shape : Shape) (x : Variable) (clock : ClockTiming) (per_second interval shift : ℕ) → IsSoundClock shape x clock → shape.resolution ≡ per_second → 0 < per_second
    → is_described clock.variability clock.supports_fraction ≡ true
    → ((n : ℕ) → IsSomeAnd clock.interval (λ (f : Fraction). IsCounts f per_second n) → interval ≡ n)
    → ((n : ℕ) → IsSomeAnd clock.shift (λ (f : Fraction). IsCounts f per_second n) → shift ≡ n)
    → interval ≤ 2 ^ 126 → shift ≤ 2 ^ 126 → IsPeriodic per_second clock interval shift
periodic shape x clock per_second interval shift sound same per described i s few_i few_s =
    let told = sound.described described in
    let used : clock.variability ≢ Changing = λ changing. true_false (sym described ∙ ap (λ k. is_described k clock.supports_fraction) changing) in
    let of_interval = counted clock.interval per_second (λ (f : Fraction). 0 < f.counter) told.0 (subst (λ r. IfSome clock.interval (λ (f : Fraction). (0 < f.counter) × IsInCounts r f)) same (sound.interval used)) interval i in
    let of_shift = counted clock.shift per_second (λ (f : Fraction). Unit {0}) told.1 (plain clock.shift (IsInCounts per_second) (subst (λ r. IfSome clock.shift (IsInCounts r)) same (sound.shift used))) shift s in
    record {
      described = described;
      interval_counts = second clock.interval (λ (f : Fraction). 0 < f.counter) (λ (f : Fraction). IsCounts f per_second interval) of_interval;
      shift_counts = second clock.shift (λ (f : Fraction). Unit {0}) (λ (f : Fraction). IsCounts f per_second shift) of_shift;
      interval_above = above clock.interval per_second interval per of_interval;
      interval_within = few_i;
      shift_within = few_s;
    }

-- the timing that is found for a Clock is a sound one of it
pub found_timing : (shape : Shape) (x : Variable) (clock : ClockTiming) → IsSoundShape shape → Contains shape.variables x → is_clock x ≡ true → timing_at shape.clocks x.reference ≡ Some clock → IsSoundClock shape x clock
found_timing shape x clock sound held is e = subst (λ o. IsSomeAnd o (IsSoundClock shape x)) e (timed shape x sound held is)

pub no_timing : (shape : Shape) (x : Variable) → IsSoundShape shape → Contains shape.variables x → is_clock x ≡ true → timing_at shape.clocks x.reference ≡ None → ⊥
no_timing shape x sound held is e = subst (λ o. IsSomeAnd o (IsSoundClock shape x)) e (timed shape x sound held is)
