-- The turns of an instant (FMI 3.0, 4.2.1: Event Mode, Step Mode; 2.2.8: Clocks; SSP 1.0: connections). With event mode inputs are set to what their paths make of their sources' values and outputs are read, and so are Clocks; without event mode outputs are read in the first instant of a point, and inputs take what comes to them without a call.
use Rattle.std.specs.Prelude.{◌≡◌, ℕ, ◌<◌, ℤ, pos, ◌==◌, ◌&&◌, Bool, true, false, not, if◌then◌else◌, All, List, length, Option, Some, None}
use Rattle.std.specs.Option.{option_map}
use Rattle.sim_base.specs.declared.numbers.PortId.{PortId}
use Rattle.fmi_calls.specs.declared.call.Call.{Call}
use Rattle.fmi_calls.specs.declared.call.Call.TheVariants as C
use Rattle.fmi_calls.specs.declared.call.Reply.{Reply}
use Rattle.fmi_calls.specs.Next.{running_state}
use Rattle.fmi_calls.specs.Permission.{none_marked}
use Rattle.fmu_peer.specs.CloseAll.{Instance}
use Rattle.fmu_peer.specs.View.{View}
use Rattle.system_model.specs.declared.system.Role.{Role}
use Rattle.system_model.specs.declared.system.Role.TheVariants.{Input, Output, ClockInput, ClockOutput, TimeClock}
use Rattle.system_model.specs.declared.system.Port.{Port}
use Rattle.system_model.specs.declared.system.System.{System}
use Rattle.run_model.specs.AfterInstant.{written}
use Rattle.run_model.specs.Equations.{Solves, fed, source_value, value_in}
use Rattle.system_model.specs.Values.{is_active, is_present}
use Rattle.run_model.specs.Machines.{AreMachines, IsSituation}
use Rattle.run_model.specs.Run.{Run, Situation}
use Rattle.tick_schedule.specs.Timetable.{Timetable}
use Rattle.event_iteration.specs.Clocks.{timers_in}
use Rattle.event_iteration.specs.Machines.{AreAt}
use Rattle.event_iteration.specs.Turns.{Rules}

-- an output is read where it is present, and without event mode in the first instant at a point
abbrev pub is_read_in_instant : Port → Bool → Bool → List (Option ℤ) → Bool
is_read_in_instant port has_event_mode is_first values =
    if has_event_mode then is_present port values else is_first

-- a connected input that is present is set to what its path makes of its source's value, where that is something, and an output is read; an input Clock is set where its source is active or it ticks, and an output Clock is asked
abbrev pub asks_in_instant : Role → Port → Bool → Bool → Bool → List (Option ℤ) → Option Call
asks_in_instant (Input None) port has_event_mode is_first ticks values = None
asks_in_instant (Input (Some feed)) port has_event_mode is_first ticks values =
    if has_event_mode && is_present port values
    then option_map (λ x. C.Set port.kind port.reference x) (fed port.kind feed values) else None
asks_in_instant Output port has_event_mode is_first ticks values =
    if is_read_in_instant port has_event_mode is_first values
    then Some (C.Get port.kind port.reference) else None
asks_in_instant (ClockInput None) port has_event_mode is_first ticks values = None
asks_in_instant (ClockInput (Some feed)) port has_event_mode is_first ticks values =
    if is_active (source_value feed values) then Some (C.SetClock port.reference) else None
asks_in_instant ClockOutput port has_event_mode is_first ticks values =
    Some (C.GetClock port.reference)
asks_in_instant (TimeClock timing) port has_event_mode is_first ticks values =
    if ticks then Some (C.SetClock port.reference) else None

-- an input sends nothing, whatever its source's value is, where it is absent, and without event mode
abbrev pub is_silent_in_instant : Role → Port → Bool → List (Option ℤ) → Bool
is_silent_in_instant (Input feed) port has_event_mode values =
    not (has_event_mode && is_present port values)
is_silent_in_instant Output port has_event_mode values = false
is_silent_in_instant (ClockInput feed) port has_event_mode values = false
is_silent_in_instant ClockOutput port has_event_mode values = false
is_silent_in_instant (TimeClock timing) port has_event_mode values = false

-- the value that a reply carries, or the last where there is no reply
abbrev pub seen_or : Port → Option ℤ → Option Reply → Option ℤ
seen_or port last None = last
seen_or port last (Some reply) = value_in port.kind reply

-- the value of a Clock: 1 where it ticks
abbrev pub tick_value : Bool → ℤ
tick_value ticks = if ticks then pos 1 else pos 0

abbrev pub takes_in_instant : Role → Port → Bool → List (Option ℤ) → Option ℤ →
    Option Reply → Option ℤ
takes_in_instant (Input None) port ticks values last reply = None
takes_in_instant (Input (Some feed)) port ticks values last reply =
    if is_present port values then fed port.kind feed values else last
takes_in_instant Output port ticks values last reply = seen_or port last reply
takes_in_instant (ClockInput None) port ticks values last reply = Some (pos 0)
takes_in_instant (ClockInput (Some feed)) port ticks values last reply = source_value feed values
takes_in_instant ClockOutput port ticks values last reply = seen_or port last reply
takes_in_instant (TimeClock timing) port ticks values last reply = Some (tick_value ticks)

-- of an instant with these ticks, the first at a point or a later one
abbrev pub in_instant : (ℕ → Bool) → Bool → Rules
in_instant ticks is_first = record {
  asks =
      λ p port c values. asks_in_instant port.role port c.shape.has_event_mode
      is_first (ticks p) values;
  takes = λ p port values last reply. takes_in_instant port.role port (ticks p) values last reply;
}

-- in Event Mode, or without event mode in Step Mode
abbrev pub IsRunning : View → Type 0
IsRunning v = v.phase.state ≡ running_state v.fixed.shape

-- at the beginning of an instant: no input is set in it, or since the last step; and for each variable it is kept whether it is an active Clock
pub record BeginsInstant (v : View) : Type 0 where
  pub running : IsRunning v
  pub unset : none_marked v.phase.marks ≡ true
  pub room : length v.phase.active ≡ length v.fixed.shape.variables

-- where the instances are machines in the states before an instant at the point, whose timers are those of the schedule, the values solve its equations, and they have those written
abbrev pub SolvesInInstant : System → Timetable → ℕ → Bool → List (Option ℤ) → List (Option ℤ) →
    List Instance → List Instance → Type 0
SolvesInInstant system table t is_first before values olds news =
    (r : Run) (s : Situation) → r.system ≡ system → r.plan.start ≡ table.start →
    AreMachines r → IsSituation r s →
    s.t ≡ t → (s.n == 0) ≡ is_first → s.timers ≡ timers_in table → s.before ≡ before →
    AreAt r s.states olds →
    Solves r s values × AreAt r (written r s values) news

-- the Clocks of a port are among n ports
abbrev pub HasPlacedClocks : ℕ → Port → Type 0
HasPlacedClocks n port = All (λ (c : PortId). c.0 < n) port.clocks
