-- The Clocks of a sound system are within the limits, and the first line that breaks a rule is one.
use Rattle.std.proofs.Common.{arith, ◌≡◌, ℕ, Option, Some, None, inl, inr}
use Rattle.std.specs.Prelude.{IsSomeAnd}
use Rattle.value_types.specs.Shape.{timing_at}
use Rattle.value_types.specs.declared.shape.ClockTiming.{ClockTiming}
use Rattle.value_types.specs.declared.shape.Shape.{Shape}
use Rattle.value_types.specs.declared.shape.Variable.{Variable}
use Rattle.system_model.specs.declared.system.Port.{Port}
use Rattle.system_model.specs.declared.system.Role.{Role}
use Rattle.system_model.specs.declared.system.Role.TheVariants.{Input, Output, ClockInput, ClockOutput, TimeClock}
use Rattle.system_model.specs.declared.system.System.{System}
use Rattle.system_model.specs.declared.system.Timing.TheVariants.{Periodic, Answered, Countdown, Changing}
use Rattle.system_model.specs.Sound.{IsRole, IsSound, IsTiming}
use Rattle.system_model.proofs.CallerLemmas.{all_by_place, place_of}
use Rattle.trace_reading.specs.declared.trace.Trace.{Trace}
use Rattle.trace_check.specs.Rules.{IsFirst}
use Rattle.trace_check.specs.Ticks.{HasLimits, HasLimitedClocks}

described_limits : (per_second interval shift : ℕ) (timing : Option ClockTiming) → IsSomeAnd timing (λ (t : ClockTiming). IsTiming per_second t (Periodic interval shift)) →
    HasLimits (TimeClock (Periodic interval shift))
described_limits per_second interval shift None is = absurd is
described_limits per_second interval shift (Some timing) is = (is.interval_above, is.interval_within, is.shift_within)

role_limits : (shape : Shape) (x : Variable) (role : Role) → IsRole shape x role → HasLimits role
role_limits shape x (Input feed) is = tt
role_limits shape x Output is = tt
role_limits shape x (ClockInput feed) is = tt
role_limits shape x ClockOutput is = tt
role_limits shape x (TimeClock (Periodic interval shift)) is = described_limits shape.resolution interval shift (timing_at shape.clocks x.reference) is.2
role_limits shape x (TimeClock Answered) is = tt
role_limits shape x (TimeClock Countdown) is = tt
role_limits shape x (TimeClock Changing) is = tt

pub limits_of_sound : (system : System) → IsSound system → HasLimitedClocks system
limits_of_sound system sound = all_by_place (λ (port : Port). HasLimits port.role) system.ports (λ p port at.
    let placed = place_of system sound p port at in
    role_limits placed.component.shape placed.variable port.role placed.role)

pub one_first : (system : System) (t : Trace) (line rule l r : ℕ) → IsFirst system t line rule → IsFirst system t l r → (line ≡ l) × (rule ≡ r)
one_first system t line rule l r first other =
    elim (first.least l r other.breaks) [
      | inl before ↦ elim (other.least line rule first.breaks) [ inl after ↦ absurd (omega (arith, before, after)) | inr back ↦ let here = back.0 in absurd (omega (arith, before, here)) ]
      | inr same ↦
          let here = same.0 in
          let low = same.1 in
          elim (other.least line rule first.breaks) [ inl after ↦ absurd (omega (arith, here, after)) | inr back ↦ let high = back.1 in (here, omega (arith, low, high)) ]
    ]
