-- What holds of a run's slots and buffers.
use Rattle.std.specs.Prelude.{◌≡◌, ◌≤◌, ◌<◌, ◌+◌, ◌*◌, ◌^◌, ℕ, Bool, true, false, List, [], All, Option, None, length, vec_capacity}
use Rattle.value_types.specs.declared.shape.Shape.{Shape}
use Rattle.fmu_peer.specs.declared.slot.Slot.{Slot}
use Rattle.fmu_peer.specs.View.{View}
use Rattle.system_model.specs.Bounds.{BindsParameters}
use Rattle.system_model.specs.Sound.{IsSound}
use Rattle.trace_text.specs.Room.{HoldsEach}
use Rattle.run_model.specs.Machines.{AreFitting}
use Rattle.event_iteration.specs.Clocks.{StandsAt, first_table, timers_in}
use Rattle.event_iteration.specs.Initialization.{AreReads}
use Rattle.event_iteration.specs.Intervals.{is_some_armed}
use Rattle.event_iteration.specs.Participants.{AreParticipants, AreUnfedAwaited}
use Rattle.event_iteration.specs.Updates.{AreLater}
use Rattle.system_checkpoint.specs.declared.snapshot.Snapshot.{Snapshot}
use Rattle.system_checkpoint.specs.Spelling.{AllBy, greatest_len}
use Rattle.slot_calls.specs.Slots.{LiveSlot, Stands, instances}
use Rattle.slot_calls.specs.Stage.{shapes, shapes_of}
use Rattle.calling_sequence.specs.declared.experiment.Experiment.{Experiment}
use Rattle.calling_sequence.specs.declared.buffers.Buffers.{Buffers}
use Rattle.calling_sequence.specs.declared.holding.Keeping.{Keeping}
use Rattle.calling_sequence.specs.Ends.{header_of}
use Rattle.calling_sequence.specs.StageOutcomes.{spot}
use Rattle.calling_sequence.specs.Holding.{spot_in}
use Rattle.calling_sequence.specs.Place.{IsMade}
use Rattle.calling_sequence.specs.Plans.{CountsBy}
use Rattle.system_model.specs.declared.plan.Plan.{Plan}
use Rattle.system_model.specs.declared.system.Component.{Component}
use Rattle.system_model.specs.declared.system.System.{System}
use Rattle.system_model.specs.Plans.{IsPlan}

-- what may be run: a sound system, values of its parameters, each at most once, and a plan by whose resolution its FMUs count
pub record MayBeRun (e : Experiment) : Type 0 where
  pub sound : IsSound e.system
  pub binds : BindsParameters e.system e.bound
  pub plan : IsPlan e.plan
  pub counts : CountsBy e.system e.plan

-- and there is a slot for each component, in their order and of its shape, where it is held in the state of its phase; each instance stands so, by the stop and the step of the plan
pub record Ready {L : Type 0} {g : _} (view : L → View) (e : Experiment)
    (P : (stop step : ℕ) → View → Type 0) (slots : List (Slot L g)) : Type 0 where
  pub may : MayBeRun e
  pub few : length slots ≤ 2 ^ 32
  pub shapes_are : shapes (instances view slots) ≡ shapes_of e.system
  pub live : All (LiveSlot view) slots
  pub stand : All (Stands (P e.plan.stop e.plan.step) view) slots

-- the buffers know what takes part in an instant, and have a mark for each place of its order
pub record KnowParticipants (system : System) (buffers : Buffers) : Type 0 where
  pub participants : AreParticipants system buffers.participants
  pub room : length buffers.pending ≡ length system.instant_order

-- the buffers are as they were made for it: no Clock has ticked, and no instant was put; whatever stands in the places of the values and the text
pub record AreFresh (e : Experiment) (buffers : Buffers) : Type 0 where
  pub reads_are : AreReads e.system buffers.reads
  pub know : KnowParticipants e.system buffers
  pub clocks : buffers.schedule ≡ first_table e.system e.plan.start e.plan.stop
  pub places : length buffers.values ≡ length e.system.ports
  pub holds : HoldsEach e.system (length buffers.text.items)
  pub none : buffers.instants ≡ 0

-- the Clocks were asked in Initialization Mode: the schedule stands at the start, whatever the values are
pub record AreFixed (e : Experiment) (buffers : Buffers) : Type 0 where
  pub know : KnowParticipants e.system buffers
  pub starts : buffers.schedule.start ≡ e.plan.start
  pub stops : buffers.schedule.stop ≡ e.plan.stop
  pub stands : StandsAt e.system e.plan.start true buffers.schedule
  pub places : length buffers.values ≡ length e.system.ports
  pub holds : HoldsEach e.system (length buffers.text.items)
  pub none : buffers.instants ≡ 0

-- before a run: each instance was made
pub record MayBegin {L : Type 0} {g : _} (view : L → View) (e : Experiment)
    (slots : List (Slot L g)) (buffers : Buffers) : Type 0 where
  pub ready : Ready view e (λ stop step. IsMade) slots
  pub fresh : AreFresh e buffers

-- at a point, after so many instants there: the schedule stands there, the values fit their ports, an input that nothing feeds has none or is still to be taken, and no more instants were put than 10000 of each earlier point and those
pub record AreTimed (e : Experiment) (t n : ℕ) (is_first : Bool) (buffers : Buffers) : Type 0 where
  pub know : KnowParticipants e.system buffers
  pub awaited : AreUnfedAwaited e.system buffers.values buffers.pending
  pub starts : buffers.schedule.start ≡ e.plan.start
  pub stops : buffers.schedule.stop ≡ e.plan.stop
  pub stands : StandsAt e.system t is_first buffers.schedule
  pub places : length buffers.values ≡ length e.system.ports
  pub fitting : AreFitting e.system buffers.values
  pub holds : HoldsEach e.system (length buffers.text.items)
  pub limited : n ≤ e.plan.limit
  pub few : buffers.instants ≤ t * 10000 + n

-- a component without event mode has no event time
abbrev pub HaveModes : List Shape → List (Option ℕ) → Type 0
HaveModes shapes events =
    AllBy (λ (shape : Shape) (event : Option ℕ). shape.has_event_mode ≡ false → event ≡ None)
    shapes events

-- the same where the point is done: no Clock is armed for it, and the event times are later
pub record IsDone (e : Experiment) (t n : ℕ) (buffers : Buffers) : Type 0 where
  pub timed : AreTimed e t n false buffers
  pub modes : HaveModes (shapes_of e.system) buffers.schedule.events
  pub unarmed : is_some_armed t (timers_in buffers.schedule) ≡ false
  pub later : AreLater t buffers.schedule.events

-- ---- a run that is held

-- each FMU can save its state and put it as bytes, and the trace's header and port lines are within 2^27 bytes
pub record CanKeep (system : System) (plan : Plan) : Type 0 where
  pub saves : All (λ (c : Component). c.shape.can_save_state ≡ true) system.components
  pub serializes : All (λ (c : Component). c.shape.can_serialize_state ≡ true) system.components
  pub header : length (header_of system plan) ≤ 2 ^ 27

-- there is room for the longest state and the longest checkpoint, and nothing is in it
pub record IsRoomy (system : System) (plan : Plan) (keeping : Keeping) : Type 0 where
  pub state : 2 ^ 20 ≤ vec_capacity keeping.state
  pub none : keeping.state.items ≡ []
  pub bytes : greatest_len (length system.components) (length system.ports)
      (length (header_of system plan)) ≤ vec_capacity keeping.bytes
  pub empty : keeping.bytes.items ≡ []

-- before a run that is held from a point on
pub record MayHold {L : Type 0} {g : _} (view : L → View) (e : Experiment) (at : ℕ)
    (slots : List (Slot L g)) (buffers : Buffers) (keeping : Keeping) : Type 0 where
  pub begins : MayBegin view e slots buffers
  pub can : CanKeep e.system e.plan
  pub resolution : (1 ≤ e.plan.resolution) × (e.plan.resolution ≤ 2 ^ 62)
  pub roomy : IsRoomy e.system e.plan keeping
  pub from : e.plan.start ≤ at
  pub to : at < e.plan.stop

-- ---- a run that is resumed

-- the plan is that of the checkpoint, but for the workers and the link
pub record IsPlanOf (plan : Plan) (held : Snapshot) : Type 0 where
  pub resolution : plan.resolution ≡ held.plan.resolution
  pub start : plan.start ≡ held.plan.start
  pub step : plan.step ≡ held.plan.step
  pub stop : plan.stop ≡ held.plan.stop
  pub limit : plan.limit ≡ held.plan.limit

-- the buffers stand where it does, and no instant was put
pub record AreResumed (e : Experiment) (held : Snapshot) (buffers : Buffers) : Type 0 where
  pub spot_is : spot held.point 0 buffers ≡ spot_in e.system held
  pub done : IsDone e held.point 0 buffers
  pub none : buffers.instants ≡ 0

-- before it: each instance was made, and there is a state for each
pub record MayResume {L : Type 0} {g : _} (view : L → View) (e : Experiment) (point : ℕ)
    (states : List (List ℕ)) (slots : List (Slot L g)) (buffers : Buffers) : Type 0 where
  pub ready : Ready view e (λ stop step. IsMade) slots
  pub can : CanKeep e.system e.plan
  pub each : length states ≡ length e.system.components
  pub few : All (λ (state : List ℕ). length state ≤ 2 ^ 20) states
  pub begun : e.plan.start ≤ point
  pub early : point < e.plan.stop
  pub done : IsDone e point 0 buffers
  pub none : buffers.instants ≡ 0
