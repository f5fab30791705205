-- A built-in machine's state passes tests that last along a run, and is then read back from its bytes.
use Rattle.std.proofs.Common.{◌≡◌, ℕ, zero, suc, ◌+◌, ◌<◌, ◌^◌, ◌==◌, ℤ, pos, ◌+ℤ◌, Bool, true, false, ◌&&◌, List, [], ◌∷◌, length, map, Option, Some, None, unwrap_or, if◌then◌else◌, refl, sym, ap, ap₂, ◌∙◌, subst, arith}
use Rattle.std.specs.List.{slice_get}
use Rattle.std.specs.Ordering.{int_eq}
use Rattle.std.specs.Prelude.{IfSome}
use Rattle.std.proofs.lemmas.Bool.{eqb-true}
use Rattle.std.proofs.lemmas.Int.{ints}
use Rattle.value_types.specs.declared.shape.Variable.{Variable}
use Rattle.value_types.specs.declared.shape.Shape.{Shape}
use Rattle.value_types.specs.declared.values.PortType.{PortType}
use Rattle.value_types.specs.declared.values.PortType.TheVariants.{Int8, UInt8, Int16, UInt16, Int32, UInt32, Int64, UInt64, Boolean, Enumeration, Clock}
use Rattle.value_types.specs.Values.{Fits, is_fitting}
use Rattle.value_types.proofs.CallerLemmas.{fits_of, fitting}
use Rattle.fmi_calls.specs.declared.call.Call.{Call}
use Rattle.fmi_calls.specs.declared.call.Call.TheVariants as C
use Rattle.fmu_peer.specs.Machine.{all_written, written}
use Rattle.bench_fmus.specs.declared.model.Model.{Model}
use Rattle.bench_fmus.specs.declared.model.Model.TheVariants.{Counter, Gain, Sampler, Alarm, Timer, Relay, Settle, Pulse, Waker}
use Rattle.bench_fmus.specs.BuiltIn.{Numbers, is_ticking, listed, numbers_after, numbers_in, one_more, start_of, value_of}
use Rattle.bench_fmus.specs.Alarm.{rings}
use Rattle.bench_fmus.specs.Models.{behaviour_of}
use Rattle.bench_fmus.specs.Timer.{is_due, ticked}
use Rattle.bench_fmus.specs.Wrapping.{wrapped_int64}
use Rattle.bench_fmus.proofs.CallerLemmas.{wrapped_fits}
use Rattle.system_model.proofs.CallerLemmas.{true_false}
use Rattle.built_in_laws.proofs.WellLemmas.{ends_right}

pub both : (a b : Bool) → (a && b) ≡ true → (a ≡ true) × (b ≡ true)
both true b e = (refl, e)
both false b e = absurd (true_false (sym e))

pub join : (a b : Bool) → a ≡ true → b ≡ true → (a && b) ≡ true
join true b x y = y
join false b x y = absurd (cc)

pub zero_fits : (kind : PortType) → Fits kind (pos 0)
zero_fits Int8 = (omega (arith, ints), omega (arith, ints))
zero_fits UInt8 = (omega (arith, ints), omega (arith, ints))
zero_fits Int16 = (omega (arith, ints), omega (arith, ints))
zero_fits UInt16 = (omega (arith, ints), omega (arith, ints))
zero_fits Int32 = (omega (arith, ints), omega (arith, ints))
zero_fits UInt32 = (omega (arith, ints), omega (arith, ints))
zero_fits Int64 = (omega (arith, ints), omega (arith, ints))
zero_fits UInt64 = (omega (arith, ints), omega (arith, ints))
zero_fits Boolean = (omega (arith, ints), omega (arith, ints))
zero_fits Enumeration = (omega (arith, ints), omega (arith, ints))
zero_fits Clock = (omega (arith, ints), omega (arith, ints))

-- ---- numbers

pub record InRanges (n : Numbers) : Type 0 where
  pub held : Fits Int64 n.held
  pub count : Fits Int64 n.count
  pub point : Fits UInt64 n.point
  pub fired : Fits Boolean n.fired

abbrev pub ranges : List ℤ → Bool
ranges (mark ∷ held ∷ count ∷ point ∷ fired ∷ []) = is_fitting Int64 held && (is_fitting Int64 count && (is_fitting UInt64 point && is_fitting Boolean fired))
ranges _ = false

abbrev pub is_out : List ℤ → Bool
is_out (mark ∷ more) = int_eq mark (pos 0)
is_out [] = false

pub record AreRanged (numbers : List ℤ) : Type 0 where
  pub is : numbers ≡ listed (numbers_in numbers)
  pub in_ranges : InRanges (numbers_in numbers)

pub ranged : (numbers : List ℤ) → ranges numbers ≡ true → AreRanged numbers
ranged [] e = absurd (cc)
ranged (a ∷ []) e = absurd (cc)
ranged (a ∷ b ∷ []) e = absurd (cc)
ranged (a ∷ b ∷ c ∷ []) e = absurd (cc)
ranged (a ∷ b ∷ c ∷ d ∷ []) e = absurd (cc)
ranged (mark ∷ held ∷ count ∷ point ∷ fired ∷ []) e =
    let one = both (is_fitting Int64 held) _ e in
    let two = both (is_fitting Int64 count) _ one.1 in
    let three = both (is_fitting UInt64 point) _ two.1 in
    record {
      is = refl;
      in_ranges = record {
        held = fits_of Int64 held one.0;
        count = fits_of Int64 count two.0;
        point = fits_of UInt64 point three.0;
        fired = fits_of Boolean fired three.1;
      };
    }
ranged (a ∷ b ∷ c ∷ d ∷ e ∷ f ∷ more) h = absurd (cc)

pub ranges_of : (n : Numbers) → InRanges n → ranges (listed n) ≡ true
ranges_of n in_ranges =
    join _ _ (fitting Int64 n.held in_ranges.held)
    (join _ _ (fitting Int64 n.count in_ranges.count)
    (join _ _ (fitting UInt64 n.point in_ranges.point) (fitting Boolean n.fired in_ranges.fired)))

with_held : (n : Numbers) (z : ℤ) → InRanges n → InRanges (record n { held = wrapped_int64 z })
with_held n z is = record { held = wrapped_fits Int64 z; count = is.count; point = is.point; fired = is.fired }

with_count : (n : Numbers) (z : ℤ) → InRanges n → InRanges (record n { count = wrapped_int64 z })
with_count n z is = record { held = is.held; count = wrapped_fits Int64 z; point = is.point; fired = is.fired }

with_zero : (n : Numbers) → InRanges n → InRanges (record n { count = pos 0 })
with_zero n is = record { held = is.held; count = zero_fits Int64; point = is.point; fired = is.fired }

with_fired : (n : Numbers) → InRanges n → InRanges (record n { fired = pos 1 })
with_fired n is = record { held = is.held; count = is.count; point = is.point; fired = (omega (arith, ints), omega (arith, ints)) }

counted_in : (n : Numbers) → InRanges n → InRanges (one_more n)
counted_in n is = with_count n (n.count +ℤ pos 1) is

either : (b : Bool) (m n : Numbers) → InRanges m → InRanges n → InRanges (if b then m else n)
either true m n x y = x
either false m n x y = y

changed_in : (model : Model) (shape : Shape) (n : Numbers) (values : List ℤ) (call : Call) → InRanges n → InRanges ((behaviour_of model).changed shape n values call)
changed_in Counter shape n values (C.DoStep at size) is = with_count n (n.count +ℤ value_of shape.variables values 1) is
changed_in Counter shape n values call is = is
changed_in Gain shape n values C.ExitInitialization is = with_held n (value_of shape.variables values 2) is
changed_in Gain shape n values C.Update is = with_held n (value_of shape.variables values 2) is
changed_in Gain shape n values (C.DoStep at size) is = with_held n (value_of shape.variables values 2) is
changed_in Gain shape n values call is = is
changed_in Sampler shape n values C.Update is =
    let z = value_of shape.variables values 2 in
    either (is_ticking shape.variables values 1) (record n { held = wrapped_int64 z }) n (with_held n z is) is
changed_in Sampler shape n values call is = is
changed_in Alarm shape n values (C.DoStep at size) is = either (rings shape values at size) (one_more n) n (counted_in n is) is
changed_in Alarm shape n values call is = is
changed_in Timer shape n values C.Update is =
    let counted : InRanges (ticked shape n values) = either (is_ticking shape.variables values 2) (one_more n) n (counted_in n is) is in
    either (is_due shape n values) (record (ticked shape n values) { fired = pos 1 }) (ticked shape n values) (with_fired (ticked shape n values) counted) counted
changed_in Timer shape n values call is = is
changed_in Relay shape n values C.Update is = with_held n (value_of shape.variables values 1) is
changed_in Relay shape n values call is = is
changed_in Settle shape n values C.Update is = counted_in n is
changed_in Settle shape n values C.EnterEvent is = with_zero n is
changed_in Settle shape n values call is = is
changed_in Pulse shape n values C.Update is = either (is_ticking shape.variables values 1) (one_more n) n (counted_in n is) is
changed_in Pulse shape n values call is = is
changed_in Waker shape n values C.Update is = either (int_eq n.point (value_of shape.variables values 1)) (one_more n) n (counted_in n is) is
changed_in Waker shape n values call is = is

-- the point that a call leads to has 64 bits
abbrev pub IsInTime : Call → Type 0
IsInTime (C.EnterInitialization start stop) = start < 2 ^ 64
IsInTime (C.DoStep at size) = at + size < 2 ^ 64
IsInTime call = Unit {0}

count_fits : (n : ℕ) → n < 2 ^ 64 → Fits UInt64 (pos n)
count_fits n less = (omega (arith, ints), omega (arith, ints))

early_fits : (model : Model) (shape : Shape) (values : List ℤ) (at size : ℕ) (o : Option ℕ) → (behaviour_of model).early_end shape values at size ≡ o → at + size < 2 ^ 64 → Fits UInt64 (pos (unwrap_or o (at + size)))
early_fits model shape values at size None is less = count_fits (at + size) less
early_fits model shape values at size (Some end) is less =
    let early = subst (λ (o : Option ℕ). IfSome o (λ e. (shape.might_return_early ≡ true) × (at < e) × (e < at + size))) is (ends_right model shape values at size) in
    count_fits end (omega (arith, early.2))

after_in : (model : Model) (shape : Shape) (n : Numbers) (values : List ℤ) (call : Call) → IsInTime call → InRanges n → InRanges (numbers_after (behaviour_of model) shape n values call)
after_in model shape n values (C.EnterInitialization start stop) time is =
    let changed = changed_in model shape n values (C.EnterInitialization start stop) is in
    record { held = changed.held; count = changed.count; point = count_fits start time; fired = changed.fired }
after_in model shape n values (C.DoStep at size) time is =
    let changed = changed_in model shape n values (C.DoStep at size) is in
    record { held = changed.held; count = changed.count; point = early_fits model shape values at size _ refl time; fired = changed.fired }
after_in model shape n values call time is =
    let changed = changed_in model shape n values call is in
    record { held = changed.held; count = changed.count; point = is.point; fired = changed.fired }

-- so numbers in their ranges stay there
pub ranges_after : (model : Model) (shape : Shape) (numbers values : List ℤ) (call : Call) → IsInTime call → ranges numbers ≡ true →
    ranges (listed (numbers_after (behaviour_of model) shape (numbers_in numbers) values call)) ≡ true
ranges_after model shape numbers values call time is =
    ranges_of (numbers_after (behaviour_of model) shape (numbers_in numbers) values call) (after_in model shape (numbers_in numbers) values call time (ranged numbers is).in_ranges)

-- ---- values

abbrev pub is_kept : Option PortType → ℤ → ℤ → Bool
is_kept None start value = int_eq value start
is_kept (Some kind) start value = is_fitting kind value

abbrev pub all_kept : List Variable → List ℤ → Bool
all_kept [] [] = true
all_kept (v ∷ vs) (x ∷ xs) = is_kept v.kind (start_of v) x && all_kept vs xs
all_kept (v ∷ vs) [] = false
all_kept [] (x ∷ xs) = false

abbrev pub references_of : List Variable → List ℕ
references_of vs = map (λ (v : Variable). v.reference) vs

one_of : (o : Option ℤ) (kind : Option PortType) (start x : ℤ) → ((y : ℤ) → o ≡ Some y → is_kept kind start y ≡ true) → is_kept kind start x ≡ true → is_kept kind start (unwrap_or o x) ≡ true
one_of None kind start x new old = old
one_of (Some y) kind start x new old = new y refl

-- what is written keeps them, where each is of its variable's type
pub kept_all_written : (vs : List Variable) (new : ℕ → Option ℤ) (xs : List ℤ) → ((k : ℕ) (v : Variable) (y : ℤ) → slice_get vs k ≡ Some v → new v.reference ≡ Some y → is_kept v.kind (start_of v) y ≡ true) →
    all_kept vs xs ≡ true → all_kept vs (all_written (references_of vs) new xs) ≡ true
kept_all_written [] new [] each is = refl
kept_all_written [] new (x ∷ xs) each is = absurd (cc)
kept_all_written (v ∷ vs) new [] each is = absurd (cc)
kept_all_written (v ∷ vs) new (x ∷ xs) each is =
    let parts = both (is_kept v.kind (start_of v) x) (all_kept vs xs) is in
    join _ _ (one_of (new v.reference) v.kind (start_of v) x (λ y e. each 0 v y refl e) parts.0)
    (kept_all_written vs new xs (λ k. each (suc k)) parts.1)

by_test : (b : Bool) (kind : Option PortType) (start x y : ℤ) → (b ≡ true → is_kept kind start y ≡ true) → is_kept kind start x ≡ true → is_kept kind start (if b then y else x) ≡ true
by_test true kind start x y new old = new refl
by_test false kind start x y new old = old

pub kept_written : (vs : List Variable) (reference : ℕ) (value : ℤ) (xs : List ℤ) → ((k : ℕ) (v : Variable) → slice_get vs k ≡ Some v → v.reference ≡ reference → is_kept v.kind (start_of v) value ≡ true) →
    all_kept vs xs ≡ true → all_kept vs (written (references_of vs) xs reference value) ≡ true
kept_written [] reference value [] each is = refl
kept_written [] reference value (x ∷ xs) each is = absurd (cc)
kept_written (v ∷ vs) reference value [] each is = absurd (cc)
kept_written (v ∷ vs) reference value (x ∷ xs) each is =
    let parts = both (is_kept v.kind (start_of v) x) (all_kept vs xs) is in
    join _ _ (by_test (v.reference == reference) v.kind (start_of v) x value (λ e. each 0 v refl (eqb-true v.reference reference e)) parts.0)
    (kept_written vs reference value xs (λ k. each (suc k)) parts.1)

pub all_kept_length : (vs : List Variable) (xs : List ℤ) → all_kept vs xs ≡ true → length xs ≡ length vs
all_kept_length [] [] is = refl
all_kept_length [] (x ∷ xs) is = absurd (cc)
all_kept_length (v ∷ vs) [] is = absurd (cc)
all_kept_length (v ∷ vs) (x ∷ xs) is = ap suc (all_kept_length vs xs (both (is_kept v.kind (start_of v) x) (all_kept vs xs) is).1)

pub kept_at : (vs : List Variable) (xs : List ℤ) (k : ℕ) (v : Variable) (x : ℤ) → all_kept vs xs ≡ true → slice_get vs k ≡ Some v → slice_get xs k ≡ Some x → is_kept v.kind (start_of v) x ≡ true
kept_at [] xs k v x is at there = absurd (cc)
kept_at (w ∷ ws) [] k v x is at there = absurd (cc)
kept_at (w ∷ ws) (y ∷ ys) zero v x is at there =
    let same : w ≡ v = some_same w v at in
    let value : y ≡ x = some_same y x there in
    ap₂ (λ (u : Variable) (z : ℤ). is_kept u.kind (start_of u) z) (sym same) (sym value) ∙ (both (is_kept w.kind (start_of w) y) (all_kept ws ys) is).0
  where
    some_same : {X : Type 0} (a b : X) → ◌≡◌ {A = Option X} (Some a) (Some b) → a ≡ b
    some_same a b e = cc
kept_at (w ∷ ws) (y ∷ ys) (suc k) v x is at there = kept_at ws ys k v x (both (is_kept w.kind (start_of w) y) (all_kept ws ys) is).1 at there
