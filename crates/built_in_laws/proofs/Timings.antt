-- What the built-in machines tell of intervals and shifts is right, where they can tell it.
use Rattle.std.proofs.Common.{◌≡◌, inl, inr, ℕ, ◌+◌, ◌-◌, ◌*◌, ◌/◌, ◌%◌, ◌^◌, ◌<◌, ◌≤◌, ℤ, pos, negsuc, ◌≤ℤ◌, Bool, true, false, Option, Some, None, IsSomeAnd, List, [], ◌==◌, if◌then◌else◌, nat_le, refl, sym, ap, ap₂, ◌∙◌, subst, arith}
use Rattle.std.specs.Prelude.{◌&&◌, min, not}
use Rattle.std.specs.Option.{option_map, option_map_or}
use Rattle.std.proofs.Math.Nat.{mul-div_cancel, mul-mod_left}
use Rattle.std.proofs.lemmas.Bool.Decides.{nat_tests}
use Rattle.std.proofs.lemmas.Int.{ints}
use Rattle.clock_fraction.specs.declared.fraction.Fraction.{Fraction}
use Rattle.value_types.specs.Shape.{timing_at}
use Rattle.value_types.specs.declared.shape.IntervalVariability.{IntervalVariability}
use Rattle.value_types.specs.declared.shape.IntervalVariability.TheVariants as T
use Rattle.value_types.specs.declared.shape.ClockTiming.{ClockTiming}
use Rattle.value_types.specs.declared.shape.Shape.{Shape}
use Rattle.fmi_calls.specs.declared.call.Interval.{Interval}
use Rattle.fmi_calls.specs.declared.call.Interval.TheVariants.{NotYetKnown, Unchanged, Changed}
use Rattle.fmi_calls.specs.Worth.{has_counts, is_interval, is_known_interval, variability_at}
use Rattle.bench_fmus.specs.declared.model.Model.{Model}
use Rattle.bench_fmus.specs.declared.model.Model.TheVariants.{Counter, Gain, Sampler, Alarm, Timer, Relay, Settle, Pulse, Waker}
use Rattle.bench_fmus.specs.BuiltIn.{Numbers, fraction_at, has_fired, no_fraction, value_of}
use Rattle.bench_fmus.specs.Models.{behaviour_of}
use Rattle.bench_fmus.specs.Timer.{countdown, is_due}
use Rattle.bench_fmus.specs.Wrapping.{count_of}
use Rattle.run_model.specs.AlwaysWell.{IsAskedForShift}
use Rattle.system_model.specs.declared.bound.BoundValue.{BoundValue}
use Rattle.built_in_laws.specs.Clocks.{HasCounts, IsCountdown, IsAsked, IsNoInput, TellsInterval, TellsOfNoClocks, TellsTimings, fraction_set, value_set}

-- ---- counts

right : (known whole : Bool) (n k : ℕ) → known ≡ true → whole ≡ true → n ≡ k → ◌≡◌ {A = Option ℕ} (if (known && whole) then Some n else None) (Some k)
right true true n k a b is = ap (λ m. Some m) is
right true false n k a b is = absurd (cc)
right false whole n k a b is = absurd (cc)

pub counts_right : (least : ℕ) (f : Fraction) (per_second : ℕ) → HasCounts least f per_second → has_counts least f per_second ≡ true
counts_right least f n has =
    let some : 0 < f.resolution = has.whole.known in
    let known : not (f.resolution == 0) ≡ true = grind (arith, nat_tests) in
    let product : n * f.counter ≡ has.counts * f.resolution = sym has.whole.whole in
    let rest : n * f.counter % f.resolution ≡ 0 = ap (λ x. x % f.resolution) product ∙ mul-mod_left has.counts f.resolution in
    let whole : (n * f.counter % f.resolution == 0) ≡ true = grind (arith, nat_tests) in
    let is : n * f.counter / f.resolution ≡ has.counts = ap (λ x. x / f.resolution) product ∙ mul-div_cancel has.counts some in
    let enough : least ≤ has.counts = has.enough in
    let tested : nat_le least has.counts ≡ true = grind (arith, nat_tests) in
    ap (λ (o : Option ℕ). option_map_or (λ k. nat_le least k) o false) (right (not (f.resolution == 0)) (n * f.counter % f.resolution == 0) (n * f.counter / f.resolution) has.counts known whole is) ∙ tested

-- ---- how a Clock varies

countdown_at : (o : Option ClockTiming) → IsSomeAnd o (λ (t : ClockTiming). t.variability ≡ T.Countdown) → option_map (λ (t : ClockTiming). t.variability) o ≡ Some T.Countdown
countdown_at None is = absurd is
countdown_at (Some t) is = ap (λ (v : IntervalVariability). Some v) is

-- of a fixed or changing Clock the interval has to be known
known_at : (o : Option ClockTiming) (interval : Interval) (per_second : ℕ) → IsSomeAnd o IsAskedForShift → is_interval (option_map (λ (t : ClockTiming). t.variability) o) interval per_second ≡ is_known_interval interval per_second
known_at None interval per_second is = absurd is
known_at (Some t) interval per_second (inl changing) = ap (λ (v : IntervalVariability). is_interval (Some v) interval per_second) changing
known_at (Some t) interval per_second (inr fixed) = ap (λ (v : IntervalVariability). is_interval (Some v) interval per_second) fixed.0

-- the interval may be that of a countdown Clock
abbrev MayCountDown : Interval → ℕ → Type 0
MayCountDown interval per_second = is_interval (Some T.Countdown) interval per_second ≡ true

-- ---- each machine

-- in the values each variable that is no input has what was set
abbrev pub AreSet : Shape → List BoundValue → List ℤ → Type 0
AreSet shape bound values = (reference : ℕ) → IsNoInput shape reference → value_of shape.variables values reference ≡ value_set shape bound reference

fraction_is : (shape : Shape) (bound : List BoundValue) (values : List ℤ) → AreSet shape bound values → (counter resolution : ℕ) → IsNoInput shape counter → IsNoInput shape resolution →
    fraction_at shape.variables values counter resolution ≡ fraction_set shape bound counter resolution
fraction_is shape bound values set counter resolution first second =
    ap₂ (λ (x y : ℤ). record { counter = count_of x; resolution = count_of y }) (set counter first) (set resolution second)

sampling : (least : ℕ) (shape : Shape) (bound : List BoundValue) (values : List ℤ) → AreSet shape bound values → TellsInterval least shape bound → has_counts least (fraction_at shape.variables values 4 5) shape.resolution ≡ true
sampling least shape bound values set tells =
    ap (λ (f : Fraction). has_counts least f shape.resolution) (fraction_is shape bound values set 4 5 tells.counter tells.resolution) ∙ counts_right least (fraction_set shape bound 4 5) shape.resolution tells.counts

-- a timer tells its own counts
timing_whole : (counter per_second : ℕ) → 0 < per_second → has_counts 0 (record { counter = counter; resolution = per_second }) per_second ≡ true
timing_whole counter per_second some =
    counts_right 0 (record { counter = counter; resolution = per_second }) per_second
    (record { counts = counter; whole = record { known = some; whole = omega arith }; enough = omega arith })

timer_right : (shape : Shape) (n : Numbers) (values : List ℤ) → 0 < shape.resolution → MayCountDown (countdown shape n values) shape.resolution
timer_right shape n values some = by (has_fired n) (is_due shape n values)
  where
    by : (fired due : Bool) → MayCountDown (if fired then Unchanged no_fraction else (if due then Changed (record { counter = count_of (value_of shape.variables values 4); resolution = shape.resolution }) else NotYetKnown)) shape.resolution
    by true due = refl
    by false true = timing_whole (count_of (value_of shape.variables values 4)) shape.resolution some
    by false false = refl

-- a pulse tells its first interval and a count for each tick
abbrev pulse_counts : Shape → List ℤ → Numbers → ℕ
pulse_counts shape values n = min (count_of n.count + count_of (value_of shape.variables values 2)) (2 ^ 64 - 1)

count_some : (z : ℤ) → pos 1 ≤ℤ z → 1 ≤ count_of z
count_some (pos n) h = omega (arith, ints)
count_some (negsuc n) h = absurd (omega (arith, ints))

pulse_whole : (shape : Shape) (values : List ℤ) (n : Numbers) → 0 < shape.resolution → pos 1 ≤ℤ value_of shape.variables values 2 → has_counts 1 (record { counter = pulse_counts shape values n; resolution = shape.resolution }) shape.resolution ≡ true
pulse_whole shape values n known first =
    let least : 1 ≤ count_of (value_of shape.variables values 2) = count_some (value_of shape.variables values 2) first in
    let enough : 1 ≤ pulse_counts shape values n = omega (arith, least) in
    counts_right 1 (record { counter = pulse_counts shape values n; resolution = shape.resolution }) shape.resolution
    (record { counts = pulse_counts shape values n; whole = record { known = known; whole = omega arith }; enough = enough })

-- what a machine tells of a countdown Clock
module _ (shape : Shape) (bound : List BoundValue) (values : List ℤ) (set : AreSet shape bound values) (some : 0 < shape.resolution) (n : Numbers) (reference : ℕ) where
  counting : (model : Model) → TellsTimings model shape bound → IsCountdown shape reference → MayCountDown ((behaviour_of model).interval shape n values reference) shape.resolution
  counting Sampler tells is = by (reference == 1) refl
    where
      by : (b : Bool) → (reference == 1) ≡ b → MayCountDown (if b then Changed (fraction_at shape.variables values 4 5) else NotYetKnown) shape.resolution
      by true e =
          let one : reference ≡ 1 = grind (arith, nat_tests) in
          sampling 0 shape bound values set (tells.countdown (subst (IsCountdown shape) one is))
      by false e = refl
  counting Timer tells is = by (reference == 2)
    where
      by : (b : Bool) → MayCountDown (if b then countdown shape n values else NotYetKnown) shape.resolution
      by true = timer_right shape n values some
      by false = refl
  counting Counter tells is = refl
  counting Gain tells is = refl
  counting Alarm tells is = refl
  counting Relay tells is = refl
  counting Settle tells is = refl
  counting Waker tells is = refl
  counting Pulse tells is = by (reference == 1)
    where
      by : (b : Bool) → MayCountDown (if b then Changed (record { counter = pulse_counts shape values n; resolution = shape.resolution }) else NotYetKnown) shape.resolution
      by true = timing_whole (pulse_counts shape values n) shape.resolution some
      by false = refl

  pub countdown_right : (model : Model) → TellsTimings model shape bound → IsCountdown shape reference →
      is_interval (variability_at shape reference) ((behaviour_of model).interval shape n values reference) shape.resolution ≡ true
  countdown_right model tells is =
      ap (λ (v : Option IntervalVariability). is_interval v ((behaviour_of model).interval shape n values reference) shape.resolution) (countdown_at (timing_at shape.clocks reference) is) ∙ counting model tells is

  -- only a sampler and a pulse have a Clock whose shift is asked, and that is its own
  fixing : (model : Model) → TellsTimings model shape bound → IsAsked shape reference →
      is_known_interval ((behaviour_of model).interval shape n values reference) shape.resolution ≡ true
  fixing Sampler tells is =
      let one : reference ≡ 1 = tells.alone reference is in
      let tested : (reference == 1) ≡ true = grind (arith, nat_tests) in
      ap (λ (b : Bool). is_known_interval (if b then Changed (fraction_at shape.variables values 4 5) else NotYetKnown) shape.resolution) tested
      ∙ sampling 1 shape bound values set (tells.interval (subst (IsAsked shape) one is))
  fixing Timer tells is = absurd (tells reference is)
  fixing Counter tells is = absurd (tells reference is)
  fixing Gain tells is = absurd (tells reference is)
  fixing Alarm tells is = absurd (tells reference is)
  fixing Relay tells is = absurd (tells reference is)
  fixing Settle tells is = absurd (tells reference is)
  fixing Pulse tells is =
      let one : reference ≡ 1 = tells.alone reference is in
      let at_one : IsAsked shape 1 = subst (IsAsked shape) one is in
      let tested : (reference == 1) ≡ true = grind (arith, nat_tests) in
      ap (λ (b : Bool). is_known_interval (if b then Changed (record { counter = pulse_counts shape values n; resolution = shape.resolution }) else NotYetKnown) shape.resolution) tested
      ∙ pulse_whole shape values n some (subst (λ (x : ℤ). pos 1 ≤ℤ x) (sym (set 2 (tells.first at_one))) (tells.some at_one))
  fixing Waker tells is = absurd (tells reference is)

  pub interval_right : (model : Model) → TellsTimings model shape bound → IsAsked shape reference →
      is_interval (variability_at shape reference) ((behaviour_of model).interval shape n values reference) shape.resolution ≡ true
  interval_right model tells is =
      known_at (timing_at shape.clocks reference) ((behaviour_of model).interval shape n values reference) shape.resolution is ∙ fixing model tells is

  pub shift_right : (model : Model) → TellsTimings model shape bound → IsAsked shape reference → has_counts 0 ((behaviour_of model).shift shape values reference) shape.resolution ≡ true
  shift_right Sampler tells is =
      let one : reference ≡ 1 = tells.alone reference is in
      let at_one : IsAsked shape 1 = subst (IsAsked shape) one is in
      let tested : (reference == 1) ≡ true = grind (arith, nat_tests) in
      let told = tells.shift at_one in
      ap (λ (b : Bool). has_counts 0 (if b then fraction_at shape.variables values 6 5 else no_fraction) shape.resolution) tested
      ∙ ap (λ (f : Fraction). has_counts 0 f shape.resolution) (fraction_is shape bound values set 6 5 told.counter (tells.interval at_one).resolution) ∙ counts_right 0 (fraction_set shape bound 6 5) shape.resolution told.counts
  shift_right Timer tells is = absurd (tells reference is)
  shift_right Counter tells is = absurd (tells reference is)
  shift_right Gain tells is = absurd (tells reference is)
  shift_right Alarm tells is = absurd (tells reference is)
  shift_right Relay tells is = absurd (tells reference is)
  shift_right Settle tells is = absurd (tells reference is)
  shift_right Pulse tells is =
      let one : reference ≡ 1 = tells.alone reference is in
      let tested : (reference == 1) ≡ true = grind (arith, nat_tests) in
      ap (λ (b : Bool). has_counts 0 (if b then record { counter = count_of (value_of shape.variables values 3); resolution = shape.resolution } else no_fraction) shape.resolution) tested
      ∙ timing_whole (count_of (value_of shape.variables values 3)) shape.resolution some
  shift_right Waker tells is = absurd (tells reference is)

-- ---- no Clocks

none_there : (shape : Shape) → shape.clocks ≡ [] → (reference : ℕ) (Is : ClockTiming → Type 0) → IsSomeAnd (timing_at shape.clocks reference) Is → ⊥
none_there shape none reference Is is = subst (λ (clocks : List ClockTiming). IsSomeAnd (timing_at clocks reference) Is) none is

pub tells_of_none : TellsOfNoClocks
tells_of_none Sampler shape bound none = record {
  alone = λ reference is. absurd (none_there shape none reference IsAskedForShift is);
  countdown = λ is. absurd (none_there shape none 1 (λ (t : ClockTiming). t.variability ≡ T.Countdown) is);
  interval = λ is. absurd (none_there shape none 1 IsAskedForShift is);
  shift = λ is. absurd (none_there shape none 1 IsAskedForShift is);
}
tells_of_none Counter shape bound none = λ reference is. none_there shape none reference IsAskedForShift is
tells_of_none Gain shape bound none = λ reference is. none_there shape none reference IsAskedForShift is
tells_of_none Alarm shape bound none = λ reference is. none_there shape none reference IsAskedForShift is
tells_of_none Timer shape bound none = λ reference is. none_there shape none reference IsAskedForShift is
tells_of_none Relay shape bound none = λ reference is. none_there shape none reference IsAskedForShift is
tells_of_none Settle shape bound none = λ reference is. none_there shape none reference IsAskedForShift is
tells_of_none Pulse shape bound none = record {
  alone = λ reference is. absurd (none_there shape none reference IsAskedForShift is);
  first = λ is. absurd (none_there shape none 1 IsAskedForShift is);
  some = λ is. absurd (none_there shape none 1 IsAskedForShift is);
}
tells_of_none Waker shape bound none = λ reference is. none_there shape none reference IsAskedForShift is
