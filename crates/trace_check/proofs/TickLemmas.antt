-- Constant Clocks, as a system's description tells them, and the values that are off their ticks.
use Rattle.std.proofs.Common.{arith, ◌≡◌, ◌↔◌, refl, sym, ap, ◌∙◌, subst, ℕ, ◌+◌, ◌<◌, ◌≤◌, suc, zero, ℤ, pos, Bool, true, false, IsTrue, List, [], ◌∷◌, ◌++◌, Option, Some, None, inl, inr, length, get_or, All, Contains}
use Rattle.std.specs.Prelude.{slice_get, nat_lt}
use Rattle.std.proofs.lemmas.Bool.{cases_lt, ltb-true, lt-ltb}
use Rattle.std.proofs.lemmas.Bool.Decides.{Decides-int_eq}
use Rattle.std.proofs.lemmas.List.Elements.{All-append, Contains-append_left, Contains-append_right}
use Rattle.std.proofs.lemmas.Option.{none-some as none_some, slice_get-get_or, slice_get_within}
use Rattle.clock_fraction.specs.Ticks.{IsTick}
use Rattle.value_types.specs.Shape.{timing_at}
use Rattle.value_types.specs.declared.shape.ClockTiming.{ClockTiming}
use Rattle.value_types.specs.declared.shape.IntervalVariability.TheVariants.{Constant}
use Rattle.system_model.specs.declared.system.Component.{Component}
use Rattle.system_model.specs.declared.system.Port.{Port}
use Rattle.system_model.specs.declared.system.Role.TheVariants.{TimeClock}
use Rattle.system_model.specs.declared.system.Timing.TheVariants.{Periodic}
use Rattle.system_model.specs.declared.system.System.{System}
use Rattle.system_model.proofs.CallerLemmas.{all_at, all_by_place, at_contains, true_false}
use Rattle.trace_reading.proofs.CallerLemmas.{unsome}
use Rattle.trace_check.specs.declared.ticks.ConstantClock.{ConstantClock}
use Rattle.system_model.specs.Values.{value, is_active}
use Rattle.trace_check.specs.Ticks.{HasLimits, HasLimitedClocks, IsConstant, IsConstantClock, IsDue, IsOffTick, PassesTick}
use Rattle.trace_check.specs.Ticks.IsOffTick.{Wrong, Passed}
use Rattle.trace_check.specs.Steps.{IsAnyOff, IsWithinLimits}

-- ---- what a description calls constant

pub constant_from : (system : System) (port : Port) (component : Component) (timing : ClockTiming) (b : Bool) → slice_get system.components port.component.0 ≡ Some component →
    timing_at component.shape.clocks port.reference ≡ Some timing → IsTrue b ↔ (timing.variability ≡ Constant) → IsTrue b ↔ IsConstant system port
constant_from system port component timing b of described test = (
  (λ is. record { component = component; timing = timing; of = of; described = described; constant = test.0 is }),
  (λ constant.
      let same : constant.component ≡ component = unsome constant.component component (sym constant.of ∙ of) in
      let told : timing_at constant.component.shape.clocks port.reference ≡ Some timing = ap (λ (c : Component). timing_at c.shape.clocks port.reference) same ∙ described in
      let own : constant.timing ≡ timing = unsome constant.timing timing (sym constant.described ∙ told) in
      test.1 (sym (ap (λ (c : ClockTiming). c.variability) own) ∙ constant.constant)),
)

pub no_component : (system : System) (port : Port) → slice_get system.components port.component.0 ≡ None → IsConstant system port → ⊥
no_component system port none constant = none_some constant.component (sym none ∙ constant.of)

pub no_timing : (system : System) (port : Port) (component : Component) → slice_get system.components port.component.0 ≡ Some component →
    timing_at component.shape.clocks port.reference ≡ None → IsConstant system port → ⊥
no_timing system port component of none constant =
    let same : constant.component ≡ component = unsome constant.component component (sym constant.of ∙ of) in
    none_some constant.timing (sym none ∙ (sym (ap (λ (c : Component). timing_at c.shape.clocks port.reference) same) ∙ constant.described))

-- the limits of a constant Clock are those of its port
pub limits_of : (system : System) (clock : ConstantClock) → HasLimitedClocks system → IsConstantClock system clock.port clock.interval clock.shift → IsWithinLimits clock
limits_of system clock limited is =
    let own : HasLimits is.port.role = all_at (λ (port : Port). HasLimits port.role) system.ports clock.port is.port limited is.at in
    let limits : HasLimits (TimeClock (Periodic clock.interval clock.shift)) = subst HasLimits is.role own in
    record { moves = limits.0; interval = limits.1; shift = limits.2 }

-- ---- values that are off

pub active_is : (v : Option ℤ) → IsTrue (is_active v) → v ≡ Some (pos 1)
active_is None is = absurd (true_false (sym is))
active_is (Some x) is = ap Some ((Decides-int_eq x (pos 1)).0 is)

pub active_of : (v : Option ℤ) → v ≡ Some (pos 1) → IsTrue (is_active v)
active_of v e = ap is_active e

-- a value that isn't active exactly where it is due is wrong
pub wrong_of : (start interval shift : ℕ) (last : Option (ℕ × ℕ)) (t n : ℕ) (v : Option ℤ) (due : Bool) → IsTrue due ↔ IsDue start interval shift t n → (is_active v ≡ due → ⊥) →
    IsOffTick start interval shift last t n v
wrong_of start interval shift last t n v due is_due differs = Wrong (λ same. differs (equal (is_active v) due (λ a. is_due.1 (same.0 (active_is v a))) (λ d. active_of v (same.1 (is_due.0 d)))))
  where
    equal : (a b : Bool) → (IsTrue a → IsTrue b) → (IsTrue b → IsTrue a) → a ≡ b
    equal true true there back = refl
    equal true false there back = absurd (true_false (sym (there refl)))
    equal false true there back = absurd (true_false (sym (back refl)))
    equal false false there back = refl

pub right_of : (start interval shift : ℕ) (last : Option (ℕ × ℕ)) (t n : ℕ) (v : Option ℤ) (due : Bool) → IsTrue due ↔ IsDue start interval shift t n → is_active v ≡ due →
    (PassesTick start interval shift last t → ⊥) → IsOffTick start interval shift last t n v → ⊥
right_of start interval shift last t n v due is_due same none (Wrong wrong) =
    wrong ((λ one. is_due.0 (sym same ∙ active_of v one)), (λ ticks. active_is v (same ∙ is_due.1 ticks)))
right_of start interval shift last t n v due is_due same none (Passed passed) = none passed

-- a tick was passed over exactly where the first one after the point before stands before this one
pub passes_of : (start interval shift before m t next : ℕ) → IsTick start shift interval next → before < next → ((tick : ℕ) → IsTick start shift interval tick → before < tick → next ≤ tick) →
    IsTrue (nat_lt next t) ↔ PassesTick start interval shift (Some (before, m)) t
passes_of start interval shift before m t next ticks after least = (
  (λ low. record { tick = next; ticks = ticks; after = after; before = ltb-true next t low }),
  (λ passed. let near = least passed.tick passed.ticks passed.after in lt-ltb next t (omega (arith, near, passed.before))),
)

-- ---- the constant Clocks of the ports up to one more

abbrev clock_with : ℕ → ℕ → ℕ → ConstantClock
clock_with p interval shift = record { port = p; interval = interval; shift = shift }

same_clock : (system : System) (p interval shift : ℕ) (clock : ConstantClock) → IsConstantClock system clock.port clock.interval clock.shift → clock.port ≡ p → IsConstantClock system p interval shift →
    clock ≡ record { port = p; interval = interval; shift = shift }
same_clock system p interval shift clock found place is =
    let at : slice_get system.ports p ≡ Some found.port = ap (λ (k : ℕ). slice_get system.ports k) (sym place) ∙ found.at in
    let port : found.port ≡ is.port = unsome found.port is.port (sym at ∙ is.at) in
    let roles : TimeClock (Periodic clock.interval clock.shift) ≡ TimeClock (Periodic interval shift) = sym found.role ∙ (ap (λ (x : Port). x.role) port ∙ is.role) in
    let intervals : clock.interval ≡ interval = cc roles in
    let shifts : clock.shift ≡ shift = cc roles in
    ap (λ (k : ℕ). clock_with k clock.interval clock.shift) place ∙ (ap (λ (k : ℕ). clock_with p k clock.shift) intervals ∙ ap (λ (k : ℕ). clock_with p interval k) shifts)

all_single : {X : Type 0} (P : X → Type 0) (x : X) → P x → All P (x ∷ [])
all_single {X} P x holds = all_by_place P (x ∷ []) at
  where
    at : (k : ℕ) (y : X) → slice_get (x ∷ []) k ≡ Some y → P y
    at zero y e = subst P (unsome x y e) holds
    at (suc k) y e = absurd (none_some y e)

module _ (system : System) (clocks now : List ConstantClock) (p : ℕ) (clock : ConstantClock) (found : IsConstantClock system clock.port clock.interval clock.shift) (place : clock.port ≡ p)
    (pushed : now ≡ clocks ++ (clock ∷ [])) where
  pub each_more : All (λ (c : ConstantClock). IsConstantClock system c.port c.interval c.shift) clocks → All (λ (c : ConstantClock). IsConstantClock system c.port c.interval c.shift) now
  each_more each =
      let P : ConstantClock → Type 0 = λ c. IsConstantClock system c.port c.interval c.shift in
      subst (λ (cs : List ConstantClock). All P cs) (sym pushed) (All-append P clocks (clock ∷ []) each (all_single P clock found))

  pub limits_more : HasLimitedClocks system → All IsWithinLimits clocks → All IsWithinLimits now
  limits_more limited limits =
      subst (λ (cs : List ConstantClock). All IsWithinLimits cs) (sym pushed)
      (All-append IsWithinLimits clocks (clock ∷ []) limits (all_single IsWithinLimits clock (limits_of system clock limited found)))

  pub all_more : ((q interval shift : ℕ) → q < p → IsConstantClock system q interval shift → Contains clocks (record { port = q; interval = interval; shift = shift })) →
      (q interval shift : ℕ) → q < p + 1 → IsConstantClock system q interval shift → Contains now (record { port = q; interval = interval; shift = shift })
  all_more before q interval shift low is =
      let P : ConstantClock → Type 0 = λ c. Contains (clocks ++ (clock ∷ [])) c in
      let whole : Contains (clocks ++ (clock ∷ [])) (record { port = q; interval = interval; shift = shift }) =
      elim (cases_lt q p) [
        | inl earlier ↦ Contains-append_left clocks (clock ∷ []) (record { port = q; interval = interval; shift = shift }) (before q interval shift earlier is)
        | inr later ↦
            let here : p ≡ q = omega (arith, low, later) in
            subst P (same_clock system q interval shift clock found (place ∙ here) is) (Contains-append_right clocks (clock ∷ []) clock (at_contains (clock ∷ []) 0 clock refl))
      ] in
      subst (λ (cs : List ConstantClock). Contains cs (record { port = q; interval = interval; shift = shift })) (sym pushed) whole

-- the port isn't one
pub all_same : (system : System) (clocks : List ConstantClock) (p : ℕ) → ((interval shift : ℕ) → IsConstantClock system p interval shift → ⊥) →
    ((q interval shift : ℕ) → q < p → IsConstantClock system q interval shift → Contains clocks (record { port = q; interval = interval; shift = shift })) →
    (q interval shift : ℕ) → q < p + 1 → IsConstantClock system q interval shift → Contains clocks (record { port = q; interval = interval; shift = shift })
all_same system clocks p none before q interval shift low is =
    elim (cases_lt q p) [
      | inl earlier ↦ before q interval shift earlier is
      | inr later ↦
          let here : q ≡ p = omega (arith, low, later) in
          absurd (none interval shift (subst (λ (k : ℕ). IsConstantClock system k interval shift) here is))
    ]

-- no port is left
pub all_found : (system : System) (clocks : List ConstantClock) (p : ℕ) → length system.ports ≤ p →
    ((q interval shift : ℕ) → q < p → IsConstantClock system q interval shift → Contains clocks (record { port = q; interval = interval; shift = shift })) →
    (q interval shift : ℕ) → IsConstantClock system q interval shift → Contains clocks (record { port = q; interval = interval; shift = shift })
all_found system clocks p past before q interval shift is =
    let within = slice_get_within system.ports q is.port is.at in
    before q interval shift (omega (arith, within, past)) is

-- ---- no Clock among the first is off

-- what stands past the end of a list of Clocks
abbrev pub no_clock : ConstantClock
no_clock = record { port = 0; interval = 0; shift = 0 }

pub none_off_more : (clocks : List ConstantClock) (start : ℕ) (last : Option (ℕ × ℕ)) (t n : ℕ) (values : List (Option ℤ)) (k : ℕ) (v : Option ℤ) (off : Bool) → k < length clocks →
    ((j : ℕ) (c : ConstantClock) → j < k → slice_get clocks j ≡ Some c → IsOffTick start c.interval c.shift last t n (value values c.port) → ⊥) →
    v ≡ value values (get_or clocks k no_clock).port → IsTrue off ↔ IsOffTick start (get_or clocks k no_clock).interval (get_or clocks k no_clock).shift last t n v → off ≡ false →
    (j : ℕ) (c : ConstantClock) → j < k + 1 → slice_get clocks j ≡ Some c → IsOffTick start c.interval c.shift last t n (value values c.port) → ⊥
none_off_more clocks start last t n values k v off within before v_is off_is on j c low at_j is =
    let clock : ConstantClock = get_or clocks k no_clock in
    elim (cases_lt j k) [
      | inl earlier ↦ before j c earlier at_j is
      | inr later ↦
          let here : j ≡ k = omega (arith, low, later) in
          let at : slice_get clocks k ≡ Some clock = slice_get-get_or clocks k no_clock within in
          let same : c ≡ clock = unsome c clock (sym at_j ∙ (ap (λ (i : ℕ). slice_get clocks i) here ∙ at)) in
          let own : IsOffTick start clock.interval clock.shift last t n (value values clock.port) = subst (λ (x : ConstantClock). IsOffTick start x.interval x.shift last t n (value values x.port)) same is in
          let told : IsOffTick start clock.interval clock.shift last t n v = subst (λ (x : Option ℤ). IsOffTick start clock.interval clock.shift last t n x) (sym v_is) own in
          true_false (sym (off_is.1 told) ∙ on)
    ]

pub none_off : (clocks : List ConstantClock) (start : ℕ) (last : Option (ℕ × ℕ)) (t n : ℕ) (values : List (Option ℤ)) (k : ℕ) → length clocks ≤ k →
    ((j : ℕ) (c : ConstantClock) → j < k → slice_get clocks j ≡ Some c → IsOffTick start c.interval c.shift last t n (value values c.port) → ⊥) →
    IsAnyOff clocks start last t n values → ⊥
none_off clocks start last t n values k past none any =
    let within = slice_get_within clocks any.place any.clock any.at in
    none any.place any.clock (omega (arith, within, past)) any.at any.off
