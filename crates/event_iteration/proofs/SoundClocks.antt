-- What a port is to the schedule before a run is within bounds (FMI 3.0, 2.2.8 and 2.2.9: Clocks and their intervals).
use Rattle.std.proofs.Common.{◌≡◌, ℕ, List, [], ◌∷◌, refl, ap₂, map}
use Rattle.std.specs.Prelude.{All, Option, Some, None, IsSomeAnd}
use Rattle.std.proofs.lemmas.List.Elements.{All-map}
use Rattle.value_types.specs.Shape.{timing_at}
use Rattle.value_types.specs.declared.shape.ClockTiming.{ClockTiming}
use Rattle.value_types.specs.declared.shape.Shape.{Shape}
use Rattle.value_types.specs.declared.shape.Variable.{Variable}
use Rattle.system_model.specs.declared.system.Port.{Port}
use Rattle.system_model.specs.declared.system.Role.{Role}
use Rattle.system_model.specs.declared.system.Role.TheVariants.{Input, Output, ClockInput, ClockOutput, TimeClock}
use Rattle.system_model.specs.declared.system.System.{System}
use Rattle.system_model.specs.declared.system.Timing.TheVariants.{Periodic, Answered, Countdown, Changing}
use Rattle.system_model.specs.Sound.{IsPeriodic, IsRole, IsSound}
use Rattle.system_model.proofs.CallerLemmas.{all_by_place, place_of}
use Rattle.tick_schedule.specs.declared.clock.ClockState.{ClockState}
use Rattle.tick_schedule.specs.Timetable.{IsSoundClock, first_state}
use Rattle.event_iteration.specs.Clocks.{first_clock, first_place}

pub place_of_clock : (role : Role) → first_state (first_clock role) ≡ first_place role
place_of_clock (TimeClock (Periodic interval shift)) = refl
place_of_clock (TimeClock Answered) = refl
place_of_clock (TimeClock Countdown) = refl
place_of_clock (TimeClock Changing) = refl
place_of_clock (Input feed) = refl
place_of_clock Output = refl
place_of_clock (ClockInput feed) = refl
place_of_clock ClockOutput = refl

pub places_of_clocks : (ports : List Port) → map first_state (map (λ (port : Port). first_clock port.role) ports) ≡ map (λ (port : Port). first_place port.role) ports
places_of_clocks [] = refl
places_of_clocks (port ∷ ports) = ap₂ (λ (x : ClockState) (xs : List ClockState). x ∷ xs) (place_of_clock port.role) (places_of_clocks ports)

-- the bounds of a description hold of its Clock
within_bounds : (per_second interval shift : ℕ) (o : Option ClockTiming) → IsSomeAnd o (λ (t : ClockTiming). IsPeriodic per_second t interval shift) → IsSoundClock (first_clock (TimeClock (Periodic interval shift)))
within_bounds per_second interval shift None h = absurd h
within_bounds per_second interval shift (Some t) h = record { interval = (h.interval_above, h.interval_within); shift = h.shift_within }

sound_by : (shape : Shape) (variable : Variable) (role : Role) → IsRole shape variable role → IsSoundClock (first_clock role)
sound_by shape variable (TimeClock (Periodic interval shift)) is = within_bounds shape.resolution interval shift (timing_at shape.clocks variable.reference) is.2
sound_by shape variable role is = record { interval = tt; shift = tt }

pub sound_clocks : (system : System) → IsSound system → All IsSoundClock (map (λ (port : Port). first_clock port.role) system.ports)
sound_clocks system sound =
    All-map IsSoundClock (λ (port : Port). first_clock port.role) system.ports
    (all_by_place (λ (port : Port). IsSoundClock (first_clock port.role)) system.ports (λ p port is.
    let placed = place_of system sound p port is in
    sound_by placed.component.shape placed.variable port.role placed.role))
