-- What the log of a part tells of told machines, for proofs of callers.
use Rattle.std.proofs.Common.{◌≡◌, ℕ, ℤ, Bool, List, [], ◌++◌, Contains, Option, sym, ap, ◌∙◌, append-nil}
use Rattle.std.specs.Prelude.{◌==◌, if◌then◌else◌}
use Rattle.fmu_peer.specs.Machine.{Machine, MachineState}
use Rattle.system_model.specs.declared.system.Component.{Component}
use Rattle.system_model.specs.Ports.{port_numbers}
use Rattle.system_model.specs.Sound.{IsSound}
use Rattle.run_model.specs.AfterInstant.{asks_again, asks_for_end, written}
use Rattle.run_model.specs.Initial as I
use Rattle.run_model.specs.Equations.{Solves}
use Rattle.run_model.specs.Inputs.{state_with, state_written, written_at_port}
use Rattle.run_model.specs.Walk.{only_at}
use Rattle.run_model.specs.Machines.{AreMachines, IsSituation}
use Rattle.run_model.specs.Run.{IsFmu, Run, Situation}
use Rattle.system_model.specs.Values.{value}
use Rattle.run_model.proofs.CallerLemmas.{solvable_initially}
use Rattle.slot_calls.specs.Log.{Sent, part}
use Rattle.slot_calls.specs.Replies.{AreReplies, state_by}
use Rattle.event_iteration.specs.ByLog.{FixedByLog, InitialByLog, InstantByLog, IntervalsByLog, SetsByLog, UpdatesByLog}
use Rattle.event_iteration.specs.Clocks.{AreTicks}
use Rattle.event_iteration.specs.Explains.{Explains}
use Rattle.event_iteration.specs.Initialization.{initially, no_values}
use Rattle.event_iteration.specs.Instants.{in_instant}
use Rattle.event_iteration.specs.Settings.{port_order}
pub use Rattle.event_iteration.proofs.Answering.{changing_interval}
pub use Rattle.event_iteration.proofs.Clockless.{unclocked_parts}
pub use Rattle.event_iteration.proofs.ClockTicks.{are_ticks}
use Rattle.event_iteration.proofs.Departing.{departs_by}
use Rattle.event_iteration.proofs.Finding as N
use Rattle.event_iteration.proofs.Finding.{state_is, values_are}
use Rattle.event_iteration.proofs.FindingInInstant as T
use Rattle.event_iteration.proofs.FindingInInstant.{solves, states_are}
pub use Rattle.event_iteration.proofs.Fmus.{each_many, each_same, fmu_on, got, part_all}
pub use Rattle.event_iteration.proofs.Permits.{clock_fed_fits, shape_of_component, value_type}
pub use Rattle.event_iteration.proofs.Setting.{asked_before_step, in_order, port_number}
pub use Rattle.event_iteration.proofs.Stages.{AreAll, IsRead, all_on, configured_all, each_each, fmu_of, initialized_all, initializing_all, made_all, reads_part, reads_stay, replies_first, replies_then, stage_any, stage_states, stage_well, states_all, states_on, updated_all, written_all}
pub use Rattle.event_iteration.proofs.Timing.{IsAsked, IsQuestionOf, IsTimingOf, asked_interval, first_timers_are, fixed_read, intervals_read, next_timers_are, timings_are, timings_read}
use Rattle.event_iteration.proofs.Updating.{any_is, events_are, states_updated}
pub use Rattle.event_iteration.proofs.WalkAnswers.{last_alone_is_bad}
pub use Rattle.event_iteration.proofs.WalkOnce.{Differ, each_call_once, own_append, seen_after_all, twice_on, use_kept, use_stays}
use Rattle.event_iteration.proofs.WalksBack.{finding_back, instant_back, setting_back, walked_to}
pub use Rattle.event_iteration.proofs.Walking.{all_prefix}

-- ---- walks that have come as far as these ports, by what is told of a solution

-- the values so far are the solution's, and the machines have those written
pub record InitialSoFar (r : Run) (W : List (Option ℤ)) (taken : List ℕ) (values : List (Option ℤ)) (log : List Sent) : Type 0 where
  pub same : (q : ℕ) → Contains taken q → value values q ≡ value W q
  pub states : (i : ℕ) (c : Component) (m : Machine) (z : MachineState) → IsFmu r (I.initializing r) i c m z → state_by m z (part i log) ≡ state_written r.system.ports (only_at taken (written_at_port r.system.ports W)) i m z

pub initial_so_far : (r : Run) → IsSound r.system → AreMachines r → (W : List (Option ℤ)) → I.SolvesInitially r W → (taken rest : List ℕ) → port_numbers r.system.initial_order ≡ taken ++ rest → (values : List (Option ℤ)) (log : List Sent) →
    Explains r.system (initially r.system) (no_values r.system) taken values log → AreReplies r (I.initializing r) log → InitialSoFar r W taken values log
initial_so_far r sound machines W solved taken rest is values log told replies =
    let back = finding_back r.system sound taken rest is values log told in
    let all = (N.midst_along r sound machines W solved taken rest back.next log is back.walked replies).1 in
    record { same = λ q m. sym (back.same q) ∙ all.taken_values q m; states = all.states }

pub record InstantSoFar (r : Run) (s : Situation) (W : List (Option ℤ)) (taken : List ℕ) (values : List (Option ℤ)) (log : List Sent) : Type 0 where
  pub same : (q : ℕ) → Contains taken q → value values q ≡ value W q
  pub states : (i : ℕ) (c : Component) (m : Machine) (z : MachineState) → IsFmu r s.states i c m z →
      state_by m z (part i log) ≡ (if c.shape.has_event_mode then state_written r.system.ports (only_at taken (written_at_port r.system.ports W)) i m z else z)

pub instant_so_far : (r : Run) → IsSound r.system → AreMachines r → (s : Situation) → IsSituation r s → (ticks : ℕ → Bool) → AreTicks r.system r.plan.start s.timers s.t s.n ticks → (W : List (Option ℤ)) → Solves r s W → (taken rest : List ℕ) → port_numbers r.system.instant_order ≡ taken ++ rest →
    (values : List (Option ℤ)) (log : List Sent) → Explains r.system (in_instant ticks (s.n == 0)) s.before taken values log → AreReplies r s.states log → InstantSoFar r s W taken values log
instant_so_far r sound machines s situation ticks are_ticks W solved taken rest is values log told replies =
    let back = instant_back r.system sound ticks (s.n == 0) s.before situation.before taken rest is values log told in
    let all = (T.midst_along r sound machines s situation ticks are_ticks W solved taken rest back.next log is back.walked replies).1 in
    record { same = λ q m. sym (back.same q) ∙ all.taken_values q m; states = all.states }

-- ---- the parts

pub initial_by_log : InitialByLog
initial_by_log r values log sound machines told replies =
    let order = port_numbers r.system.initial_order in
    let back = finding_back r.system sound order [] (sym (append-nil order)) values log told in
    let W = solvable_initially r sound machines in
    record {
      initial = W.0;
      solves = W.1;
      same = λ p. sym (back.same p) ∙ ap (λ (vs : List (Option ℤ)). value vs p) (values_are r sound machines W.0 W.1 back.next log back.walked replies);
      states = each_same r (I.initializing r) (λ i c m s. state_by m s (part i log)) (λ i c m s. state_with r.system.ports W.0 i m s)
          (λ i c m s fmu. state_is r sound machines W.0 W.1 back.next log back.walked replies i c m s fmu);
    }

pub fixed_by_log : FixedByLog
fixed_by_log r values log sound machines answered replies =
    let there : List MachineState = I.initialized r values in
    let all = initialized_all r machines values in
    (reads_stay r there all log (fixed_read r there all log answered), first_timers_are r there all log answered sound replies)

pub instant_by_log : InstantByLog
instant_by_log r s ticks values log sound machines situation are_ticks places told replies =
    let order = port_numbers r.system.instant_order in
    let rules = in_instant ticks (s.n == 0) in
    let back = walked_to r.system rules s.before order values log places (instant_back r.system sound ticks (s.n == 0) s.before situation.before order [] (sym (append-nil order)) values log told) in
    (solves r sound machines s situation ticks are_ticks values log back replies, states_are r sound machines s situation ticks are_ticks values log back replies)

pub intervals_by_log : IntervalsByLog
intervals_by_log r s values next log sound machines situation rearms replies =
    let all = written_all r machines s situation values in
    (reads_stay r (written r s values) all log (intervals_read r.system values values values (port_order r.system) log rearms.explains), next_timers_are r sound s values all next log rearms replies)

pub updates_by_log : UpdatesByLog
updates_by_log r s values log machines situation answered replies =
    let all = written_all r machines s situation values in
    (states_updated r s values log answered, any_is r s values log answered all replies asks_again, any_is r s values log answered all replies asks_for_end, events_are r s values log answered all replies)

pub sets_by_log : SetsByLog
sets_by_log r s values log sound len told =
    let back = setting_back r.system sound s.before len (port_order r.system) [] (sym (append-nil (port_order r.system))) values log told in
    departs_by r sound s len back.next log back.walked
