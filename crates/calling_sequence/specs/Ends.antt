-- How a run ends, and the text that is put of it.
use Rattle.std.specs.Prelude.{◌≡◌, ℕ, suc, ℤ, ◌==◌, ◌-◌, Bool, true, false, List, [], ◌∷◌, ◌++◌, map, Option, Some, length}
use Rattle.sim_base.specs.Sink.{SinkView}
use Rattle.sim_base.specs.declared.numbers.CompId.{CompId}
use Rattle.fmu_peer.specs.CloseAll.{Instance}
use Rattle.system_model.specs.declared.bound.Bound.{Bound}
use Rattle.system_model.specs.declared.plan.Plan.{Plan}
use Rattle.system_model.specs.declared.plan.EndKind.{EndKind}
use Rattle.system_model.specs.declared.plan.EndKind.TheVariants as K
use Rattle.system_model.specs.declared.system.System.{System}
use Rattle.system_model.specs.Text.{Instant, end_text, header_text, instant_text}
use Rattle.run_model.specs.Run.{Timer}
use Rattle.calling_sequence.specs.declared.ending.Ending.{Ending}
use Rattle.calling_sequence.specs.declared.run_end.RunEnd.{RunEnd}
use Rattle.calling_sequence.specs.declared.run_end.RunEnd.TheVariants as E
use Rattle.run_model.specs.Equations.{is_bad}
use Rattle.run_model.specs.Initial.{is_bad_initially}
use Rattle.event_iteration.specs.declared.lost.LostValue.{LostValue}
use Rattle.event_iteration.specs.Lost.{IsFirstLost}
use Rattle.slot_calls.specs.declared.bad_answer.BadAnswer.{BadAnswer}
use Rattle.rollback.specs.declared.step_end.StepEnd.{StepEnd}
use Rattle.rollback.specs.declared.step_end.StepEnd.TheVariants.{Bad, FixedStep}
use Rattle.slot_calls.specs.Log.{Sent, Told}
use Rattle.calling_sequence.specs.Calls.{IsBoundOf, first_unfit}
use Rattle.calling_sequence.specs.Course.{Agreed, Before, Configured, CourseIn, Departing, Entered, Extent, Found, FromHeld, Left, Leaving, Made, MayLeave, Place, Read, Rearmed, Restored, Saved, InstantDone, Short, Spot, Stepped, Timed, UpToHeld, Way, Whole, part_at, shown}
use Rattle.calling_sequence.specs.Parts.{Falls}
use Rattle.calling_sequence.specs.Puts.{PutsPrefixOf, with_pieces}

-- ---- where it ends

-- the point of a place, which the end line of a run that ends there names
abbrev pub point_of : Plan → Place → ℕ
point_of plan Made = plan.start
point_of plan Configured = plan.start
point_of plan Entered = plan.start
point_of plan (Found values) = plan.start
point_of plan (Timed timers) = plan.start
point_of plan (Before s ticks) = s.t
point_of plan (Read s) = s.t
point_of plan (Rearmed s) = s.t
point_of plan (InstantDone s again asked) = s.t
point_of plan (Leaving w) = w.s.t
point_of plan (Left w) = w.s.t
point_of plan (Departing w) = w.s.t
point_of plan (Saved w) = w.s.t
point_of plan (Short w component end) = w.s.t
point_of plan (Agreed w point asked) = w.s.t
point_of plan (Stepped s asked) = s.t
point_of plan (Restored s) = s.t

-- at this place a run ends so, but for a bad answer
pub data EndsAt (system : System) (plan : Plan) : RunEnd → Place → Type 0 where
  -- the point of the stop is done
  AtStop : (s : Spot) → s.t ≡ plan.stop → EndsAt system plan E.Stop (InstantDone s false false)
  -- an Update asked for the end, or an answer to a step did
  ByUpdate : (s : Spot) (again : Bool) → EndsAt system plan (E.Asked s.t) (InstantDone s again true)
  ByStep : (s : Spot) → EndsAt system plan (E.Asked s.t) (Stepped s true)
  -- another instant is asked for, and the instants at this point have reached their limit
  AtLimit : (s : Spot) → (suc s.n == plan.limit) ≡ true →
      EndsAt system plan (E.EventLimit s.t) (InstantDone s true false)
  -- the point is done, and the size of the step from there is one that the component doesn't take, the least of those
  Unfit : (s : Spot) (component : CompId) (end : ℕ) → IsBoundOf plan s.timers s.events s.t end →
      first_unfit system plan (end - s.t) ≡ Some component.0 →
      EndsAt system plan (E.FixedStep component s.t end) (InstantDone s false false)
  -- the same where the run was resumed there
  UnfitAtFirst : (s : Spot) (component : CompId) (end : ℕ) →
      IsBoundOf plan s.timers s.events s.t end →
      first_unfit system plan (end - s.t) ≡ Some component.0 →
      EndsAt system plan (E.FixedStep component s.t end) (Restored s)
  -- and so is that of the one which it would be asked for next, on the way to an agreement
  AtShort : (w : Way) (component : CompId) (end : ℕ) →
      EndsAt system plan (E.FixedStep component w.s.t end) (Short w component.0 end)
  -- the value of a source is lost on its way to an input, in Initialization Mode or in an instant, which is not put
  LostAtFirst : (values : List (Option ℤ)) (lost : LostValue) →
      IsFirstLost (is_bad_initially system values) system.ports values lost →
      EndsAt system plan (E.Range lost plan.start) (Found values)
  LostThere : (s : Spot) (lost : LostValue) →
      IsFirstLost (is_bad s.values) system.ports s.values lost →
      EndsAt system plan (E.Range lost s.t) (Read s)

-- a step from a point isn't made, and so the run ends there
pub record LacksStep (system : System) (plan : Plan) (timers : List Timer)
    (events : List (Option ℕ)) (t : ℕ) (ending : Ending) : Type 0 where
  pub component : CompId
  pub to : ℕ
  pub bound : IsBoundOf plan timers events t to
  pub unfit : first_unfit system plan (to - t) ≡ Some component.0
  pub ending_is : ending ≡ record { end = E.FixedStep component t to; point = t }

-- a run that is held doesn't end for the size of a step from where it is
abbrev pub MayEnd : Extent → RunEnd → Type 0
MayEnd extent (E.FixedStep component t end) = MayLeave extent t
MayEnd extent end = Unit {0}

-- with this log and after these instants a run ends so, and its end line names the point: at a place, or by the first bad answer of the part that is sent from one
pub data FinishesIn (system : System) (bound : Bound) (plan : Plan) (extent : Extent) : RunEnd →
    ℕ → List Sent → List Instant → Type 0 where
  Well : (p : Place) (end : RunEnd) (log : List Sent) (is : List Instant) →
      CourseIn system bound plan extent p log is → EndsAt system plan end p → MayEnd extent end →
      FinishesIn system bound plan extent end (point_of plan p) log is
  Badly : (p : Place) (bad : BadAnswer) (prefix more : List Sent) (is : List Instant) →
      CourseIn system bound plan extent p prefix is →
      Falls system (part_at system bound plan p) bad more →
      FinishesIn system bound plan extent (E.Bad bad) (point_of plan p) (prefix ++ more) is

-- a whole run
abbrev pub Finishes : System → Bound → Plan → RunEnd → ℕ → List Sent → List Instant → Type 0
Finishes system bound plan end point log is =
    FinishesIn system bound plan Whole end point log is

-- but for a bad answer or a put that failed
abbrev pub ends_well : RunEnd → Bool
ends_well E.Stop = true
ends_well (E.Asked at) = true
ends_well (E.EventLimit at) = true
ends_well (E.FixedStep component at end) = true
ends_well (E.Range lost at) = true
ends_well (E.Held at) = true
ends_well (E.Bad bad) = false
ends_well E.WriteFault = false

-- how a run ends whose step isn't made
abbrev pub end_of_step : StepEnd → RunEnd
end_of_step (FixedStep component at end) = E.FixedStep component at end
end_of_step (Bad bad) = E.Bad bad

-- ---- what is put

-- nothing is put of the instants of a run that is held
abbrev pub puts_instants : Extent → Bool
puts_instants Whole = true
puts_instants (UpToHeld at) = false
puts_instants (FromHeld s) = true

abbrev pub counted_in : Extent → List Instant → ℕ
counted_in Whole is = length is
counted_in (UpToHeld at) is = 0
counted_in (FromHeld s) is = length is

-- the kind of the end line; none is put where a run is held
abbrev pub kind_of_end : RunEnd → EndKind
kind_of_end E.Stop = K.Stop
kind_of_end (E.Asked at) = K.Asked
kind_of_end (E.EventLimit at) = K.Limit
kind_of_end (E.FixedStep component at end) = K.Fixed
kind_of_end (E.Range lost at) = K.Range
kind_of_end (E.Held at) = K.Stop
kind_of_end (E.Bad bad) = K.Fault
kind_of_end E.WriteFault = K.Fault

abbrev pub header_of : System → Plan → List ℕ
header_of system plan = header_text system plan.resolution plan.start plan.stop

abbrev pub text_of : Instant → List ℕ
text_of i = instant_text i.t i.n i.values

-- one piece for the header, and one for each instant
abbrev pub pieces_of : System → Plan → List Instant → List (List ℕ)
pieces_of system plan is = header_of system plan ∷ map text_of is

-- the header is that of a whole run alone
abbrev pub pieces_in : System → Plan → Extent → List Instant → List (List ℕ)
pieces_in system plan Whole is = pieces_of system plan is
pieces_in system plan (UpToHeld at) is = []
pieces_in system plan (FromHeld s) is = map text_of is

-- and one for the end line
abbrev pub text_pieces : System → Plan → Extent → List Instant → EndKind → ℕ → List (List ℕ)
text_pieces system plan extent is kind point =
    pieces_in system plan extent is ++ end_text kind point ∷ []

abbrev pub trace_pieces : System → Plan → List Instant → EndKind → ℕ → List (List ℕ)
trace_pieces system plan is kind point = pieces_of system plan is ++ end_text kind point ∷ []

-- the piece that is put next, and those before it
pub data AwaitsIn (system : System) (bound : Bound) (plan : Plan) : Extent → List Sent →
    List Instant → List (List ℕ) → List ℕ → Type 0 where
  -- the header, before any call
  Header : AwaitsIn system bound plan Whole [] [] [] (header_of system plan)
  -- an instant, whose Updates are the last calls
  Shown : (extent : Extent) (p : Place) (log : List Sent) (is : List Instant) (i : Instant) →
      puts_instants extent ≡ true → shown p ≡ i ∷ [] →
      CourseIn system bound plan extent p log (is ++ i ∷ []) →
      AwaitsIn system bound plan extent log is (pieces_in system plan extent is) (text_of i)
  -- the end line, where the run came to its end
  EndLine : (extent : Extent) (end : RunEnd) (point : ℕ) (log : List Sent) (is : List Instant) →
      FinishesIn system bound plan extent end point log is →
      AwaitsIn system bound plan extent log is (pieces_in system plan extent is)
      (end_text (kind_of_end end) point)

-- a put failed, and nothing was put after it
pub record PutFailsIn (system : System) (bound : Bound) (plan : Plan) (extent : Extent)
    (log : List Sent) (is : List Instant) (before after : SinkView) : Type 0 where
  pub pieces : List (List ℕ)
  pub piece : List ℕ
  pub awaits : AwaitsIn system bound plan extent log is pieces piece
  pub cuts : PutsPrefixOf (with_pieces before pieces) piece after

-- the run came to this end, and its whole text was put
abbrev pub PutsAll : System → Bound → Plan → Extent → List Sent → List Instant → RunEnd →
    SinkView → SinkView → Type 0
PutsAll system bound plan extent log is end before after =
    (point : ℕ) × FinishesIn system bound plan extent end point log is ×
    (after ≡ with_pieces before (text_pieces system plan extent is (kind_of_end end) point))

-- with this log and after these instants a run ended so, with all that was put; one that isn't held
abbrev pub EndsIn : System → Bound → Plan → Extent → List Sent → List Instant → RunEnd →
    SinkView → SinkView → Type 0
EndsIn system bound plan extent log is E.Stop before after =
    PutsAll system bound plan extent log is E.Stop before after
EndsIn system bound plan extent log is (E.Asked point) before after =
    PutsAll system bound plan extent log is (E.Asked point) before after
EndsIn system bound plan extent log is (E.EventLimit point) before after =
    PutsAll system bound plan extent log is (E.EventLimit point) before after
EndsIn system bound plan extent log is (E.FixedStep component at end) before after =
    PutsAll system bound plan extent log is (E.FixedStep component at end) before after
EndsIn system bound plan extent log is (E.Range lost point) before after =
    PutsAll system bound plan extent log is (E.Range lost point) before after
EndsIn system bound plan extent log is (E.Held point) before after = ⊥
EndsIn system bound plan extent log is (E.Bad bad) before after =
    PutsAll system bound plan extent log is (E.Bad bad) before after
EndsIn system bound plan extent log is E.WriteFault before after =
    PutFailsIn system bound plan extent log is before after

-- over slots
pub record RunsIn (system : System) (bound : Bound) (plan : Plan) (extent : Extent)
    (olds news : List Instance) (before after : SinkView) (counted : ℕ)
    (end : RunEnd) : Type 0 where
  pub log : List Sent
  pub is : List Instant
  pub told : Told log olds news
  pub ends : EndsIn system bound plan extent log is end before after
  pub counted_is : counted ≡ counted_in extent is

-- ---- a whole run

abbrev pub Awaits : System → Bound → Plan → List Sent → List Instant → List (List ℕ) → List ℕ →
    Type 0
Awaits system bound plan log is pieces piece =
    AwaitsIn system bound plan Whole log is pieces piece

abbrev pub PutFails : System → Bound → Plan → List Sent → List Instant → SinkView → SinkView →
    Type 0
PutFails system bound plan log is before after =
    PutFailsIn system bound plan Whole log is before after

abbrev pub PutsWhole : System → Bound → Plan → List Sent → List Instant → RunEnd →
    SinkView → SinkView → Type 0
PutsWhole system bound plan log is end before after =
    PutsAll system bound plan Whole log is end before after

abbrev pub EndsBy : System → Bound → Plan → List Sent → List Instant → RunEnd →
    SinkView → SinkView → Type 0
EndsBy system bound plan log is end before after =
    EndsIn system bound plan Whole log is end before after

abbrev pub RunsSlots : System → Bound → Plan → List Instance → List Instance → SinkView →
    SinkView → ℕ → RunEnd → Type 0
RunsSlots system bound plan olds news before after counted end =
    RunsIn system bound plan Whole olds news before after counted end
