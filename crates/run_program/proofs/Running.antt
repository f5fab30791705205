-- From peers that were started to what holds of their run.
use Rattle.std.proofs.Common.{◌≡◌, ℕ, ℤ, zero, suc, ◌-◌, ◌<◌, ◌==◌, Bool, true, false, not, List, [], ◌∷◌, ◌++◌, Option, Some, None, inl, inr, refl, sym, ap, ◌∙◌, subst, arith, length}
use Rattle.std.specs.Option.{option_map}
use Rattle.std.specs.Prelude.{All, IsSomeAnd, ◌&&◌, if◌then◌else◌, map, position, slice_get}
use Rattle.std.proofs.lemmas.List.{length-map}
use Rattle.std.proofs.lemmas.List.Elements.{All-head, All-tail}
use Rattle.std.proofs.lemmas.List.Quantifiers.{position-Some}
use Rattle.std.proofs.lemmas.Option.{none-some as none_some, same_Some, slice_get-map, slice_get_within}
use Rattle.sim_base.specs.Sink.{SinkView}
use Rattle.sim_base.specs.declared.numbers.CompId.{CompId}
use Rattle.fmi_calls.specs.Next.{fresh}
use Rattle.fmu_peer.specs.Machine.{Machine}
use Rattle.fmu_peer.specs.View.{Fixed, View, without_machine}
use Rattle.value_types.specs.declared.shape.Shape.{Shape}
use Rattle.system_model.specs.declared.bound.Bound.{Bound}
use Rattle.system_model.specs.declared.plan.Plan.{Plan}
use Rattle.system_model.specs.EarlyReturn.{early_count}
use Rattle.system_model.specs.Text.{Instant, end_text}
use Rattle.system_model.specs.declared.system.Component.{Component}
use Rattle.system_model.specs.declared.system.Port.{Port}
use Rattle.system_model.specs.declared.system.System.{System}
use Rattle.run_model.specs.Machines.{AreMachines}
use Rattle.run_model.specs.Run.{Run}
use Rattle.run_model.specs.Stepping.{asked_first}
use Rattle.run_model.proofs.TraceOnce.{trace_once}
use Rattle.trace_text.specs.Holding.{IsHoldable}
use Rattle.machine_courses.specs.Kept.{TakesState}
use Rattle.slot_calls.specs.Stage.{shapes_of}
use Rattle.slot_calls.specs.declared.bad_answer.BadAnswer.{BadAnswer}
use Rattle.step_agreement.specs.Agreement as A
use Rattle.step_agreement.specs.Agreement.{Agrees, Outcome, Stand, Stops, comes_first, ends_elsewhere, is_elsewhere, stands_by}
use Rattle.step_agreement.proofs.CallerLemmas.{same_shapes}
use Rattle.rollback.specs.StepsBy.{all_at}
use Rattle.calling_sequence.specs.declared.run_end.RunEnd.{RunEnd}
use Rattle.calling_sequence.specs.declared.run_end.RunEnd.TheVariants as E
use Rattle.calling_sequence.specs.Course.{AtFirst, CourseIn, Extent, FromHeld, LeadsTo, On, Place, Short, Spot, Stopping, UpToHeld, Way, Whole, first_of}
use Rattle.calling_sequence.specs.Ends.{AtShort, EndsAt, EndsIn, FinishesIn, Unfit, UnfitAtFirst, Well}
use Rattle.calling_sequence.specs.Holding.{Back, BadlyHeld, Early, HoldsWith, NotBack, PutsPiece, ResumesSlots, WellHeld, spot_in}
use Rattle.calling_sequence.specs.Ready.{IsPlanOf}
use Rattle.calling_sequence.specs.declared.experiment.Experiment.{Experiment}
use Rattle.fmu_peer.specs.CloseAll.{Instance}
use Rattle.system_checkpoint.specs.declared.snapshot.Snapshot.{Snapshot}
use Rattle.system_model.specs.declared.plan.EndKind.TheVariants as K
use Rattle.step_master.specs.declared.prepare_end.PrepareFault.{PrepareFault}
use Rattle.step_master.specs.declared.prepare_end.PrepareFault.TheVariants as F
use Rattle.step_master.specs.Sessions.{Account, FailedStart, FailedStartIsClosed, HeldSession, HistoriesAreOver, ResumedSession, Session, experiment_in}
use Rattle.step_master.specs.Master.{FailsToPrepare, Standing}
use Rattle.session_laws.specs.Traced.{IsRunOf, ToldFailedStart, ToldHeld, ToldHeldWell, ToldNone, ToldRest, ToldRestWell, ToldRun, ToldTrace, TracesWell}
use Rattle.system_model.specs.Bounds.{BindsParameters}
use Rattle.system_model.specs.Sound.{IsSound}
use Rattle.step_master.specs.Histories.{ArePeerHistories, EndsHistories, IsPeerHistory, PeerHistory}
use Rattle.slot_calls.specs.Log.{Sent}
use Rattle.system_model.specs.Plans.{IsPlan}
use Rattle.step_master.specs.System.{ArePeersOf, MachinesMatchShapes}
use Rattle.run_program.specs.Peers.{AreStarted}
use Rattle.run_program.specs.Happened.{Scene}
use Rattle.run_program.specs.Held.{GoesOn, Holds}
use Rattle.run_program.specs.Runs.{CanRun, Fails, HasOneTrace, Names, NamesOne, NamesPort, RunCompletes, RunsPeers, Task, TracesOnce, names_of, port_name}
use Rattle.run_program.specs.declared.naming.PortName.{PortName}
use Rattle.event_iteration.specs.declared.lost.LostValue.{LostValue}
use Rattle.calling_sequence.specs.Ends.{LostAtFirst, LostThere}
use Rattle.system_model.proofs.CallerLemmas.{place_of}
use Rattle.run_program.proofs.PeerLemmas.{started_at}

-- ---- before the run

pub new_peers : (host : List ℕ) (folders : List (List ℕ)) (system : System) (vs : List View) → AreStarted host folders system.components vs → length vs ≡ length system.components → ArePeersOf system vs
new_peers host folders system vs are each = record {
  len = each;
  each = λ i c v at_c at_v.
      let s = started_at host folders system.components vs i v are at_v in
      let same : s.0 ≡ c = same_Some s.0 c (sym s.1 ∙ at_c) in
      record {
        shape_is = s.2.1.shape_is ∙ ap (λ (x : Component). x.shape) same;
        phase = s.2.1.phase ∙ ap (λ (x : Component). fresh x.shape) same;
        talk = s.2.1.talk;
      };
}

-- ---- the component that an end names

-- what is at a place found by a test is within the list
found_within : {X : Type 0} (p : X → Bool) (xs : List X) (none : Bool) (k : ℕ) → (if none then None else position p xs) ≡ Some k → k < length xs
found_within p xs true k h = absurd (none_some k h)
found_within p [] false k h = absurd (none_some k h)
found_within p (x ∷ xs) false k h = (position-Some p (x ∷ xs) k x h).0

-- an agreement stops before the size of one of those that stand
stops_within : (t step : ℕ) (sized test : Stand → Bool) (e : ℕ) (stands : List Stand) (log : List Sent) (o : Outcome) (k end : ℕ) → o ≡ A.Unfit k end → Stops t step sized test e stands log o → k < length stands
stops_within t step sized test e stands log o k end at (A.IsUnfit i unfit none is) =
    subst (λ (n : ℕ). n < length stands) (same i k e end (sym is ∙ at)) (found_within (λ (s : Stand). sized s && not s.shape.has_variable_steps) stands ((e - t) == step) i unfit)
  where
    same : (i j a b : ℕ) → A.Unfit i a ≡ A.Unfit j b → i ≡ j
    same i j a b eq = cc
stops_within t step sized test e stands log o k end at (A.InBack bad fits fails is) = absurd (let wrong = sym at ∙ is in cc)
stops_within t step sized test e stands log o k end at (A.InStep bad backs steps fits back fails log_is is) = absurd (let wrong = sym at ∙ is in cc)

stands_count : (t step : ℕ) (stands : List Stand) (log : List Sent) (mids : List Stand) → mids ≡ stands_by t stands log → length mids ≡ length stands
stands_count t step stands log mids is =
    ap (λ (ss : List Stand). length ss) is ∙ sym (length-map (stands_by t stands log) (λ (s : Stand). s.shape)) ∙ ap (λ (ss : List Shape). length ss) (same_shapes t step stands log) ∙ length-map stands (λ (s : Stand). s.shape)

agrees_within : (t step : ℕ) (first : Shape → Bool) (b : ℕ) (stands : List Stand) (log : List Sent) (o : Outcome) (k end : ℕ) → o ≡ A.Unfit k end → Agrees t step first b stands log o → k < length stands
agrees_within t step first _ _ _ _ k end at (A.FirstStops b stands log o stops) = stops_within t step A.everyone (comes_first first) b stands log o k end at stops
agrees_within t step first _ _ _ _ k end at (A.FirstMeet b stands log o m asks m_is there is) = absurd (let wrong = sym at ∙ is in cc)
agrees_within t step first _ _ _ _ k end at (A.NextStops b stands log o m prefix back mids asks mids_is m_is apart stops log_is) =
    subst (λ (n : ℕ). k < n) (stands_count t step stands prefix mids mids_is) (stops_within t step (ends_elsewhere t b m) (is_elsewhere m) m mids back o k end at stops)
agrees_within t step first _ _ _ _ k end at (A.NextMeet b stands log o m prefix back mids asks mids_is m_is apart others there is log_is) = absurd (let wrong = sym at ∙ is in cc)
agrees_within t step first _ _ _ _ k end at (A.GoesAnew b stands log o m c prefix back rest mids ends asks mids_is m_is apart others ends_is later c_is more log_is) =
    subst (λ (n : ℕ). k < n) (stands_count t step mids back ends ends_is ∙ stands_count t step stands prefix mids mids_is) (agrees_within t step first c ends rest o k end at more)

-- so does the run of a system: before that of one of its components
short_leads : (system : System) (plan : Plan) (p : Place) (values : List (Option ℤ)) (log : List Sent) (w : Way) (k end : ℕ) → LeadsTo system plan p values log (Short w k end) → k < length system.components
short_leads system plan _ _ _ _ _ _ (Stopping w values log k end agrees) =
    subst (λ (n : ℕ). k < n) (length-map (shapes_of system) (λ (s : Shape). record { shape = s; point = w.s.t; ask = w.s.t }) ∙ length-map system.components (λ (c : Component). c.shape))
    (agrees_within w.s.t plan.step (asked_first (early_count (shapes_of system))) w.to (all_at w.s.t (shapes_of system)) log (A.Unfit k end) k end refl agrees)

-- no run begins on the way to an agreement
begins_elsewhere : (extent : Extent) (w : Way) (k end : ℕ) → first_of extent ≡ Short w k end → ⊥
begins_elsewhere Whole w k end at = cc
begins_elsewhere (UpToHeld point) w k end at = cc
begins_elsewhere (FromHeld s) w k end at = cc

short_comes : (system : System) (bound : Bound) (plan : Plan) (extent : Extent) (p : Place) (w : Way) (k end : ℕ) (log : List Sent) (is : List Instant) → p ≡ Short w k end → CourseIn system bound plan extent p log is → k < length system.components
short_comes system bound plan extent _ w k end _ _ at AtFirst = absurd (begins_elsewhere extent w k end at)
short_comes system bound plan extent _ w k end _ _ at (On p q values prefix more is course does leads within) =
    short_leads system plan p values more w k end (subst (λ (r : Place). LeadsTo system plan p values more r) at leads)

ends_within : (system : System) (bound : Bound) (plan : Plan) (extent : Extent) (component : CompId) (at end : ℕ) (p : Place) (log : List Sent) (is : List Instant) → EndsAt system plan (E.FixedStep component at end) p →
    CourseIn system bound plan extent p log is → component.0 < length system.components
ends_within system bound plan extent _ _ _ _ log is (Unfit s component end b unfit) course = found_within (λ (c : Component). not c.shape.has_variable_steps) system.components ((end - s.t) == plan.step) component.0 unfit
ends_within system bound plan extent _ _ _ _ log is (UnfitAtFirst s component end b unfit) course = found_within (λ (c : Component). not c.shape.has_variable_steps) system.components ((end - s.t) == plan.step) component.0 unfit
ends_within system bound plan extent _ _ _ _ log is (AtShort w component end) course = short_comes system bound plan extent (Short w component.0 end) w component.0 end log is refl course

finished_within : (system : System) (bound : Bound) (plan : Plan) (extent : Extent) (point : ℕ) (component : CompId) (at end : ℕ) (log : List Sent) (is : List Instant) → FinishesIn system bound plan extent (E.FixedStep component at end) point log is →
    component.0 < length system.components
finished_within system bound plan extent _ component at end _ _ (Well p _ log is course ends may) = ends_within system bound plan extent component at end p log is ends course

histories_count : (system : System) (olds news : List View) (log : List Sent) (histories : List PeerHistory) → ArePeerHistories system olds news log histories → length histories ≡ length system.components
histories_count system olds news log histories are =
    sym (length-map histories (λ (l : PeerHistory). l.source)) ∙ ap (λ (xs : List ℕ). length xs) are.sources_are ∙ length-map system.components (λ (c : Component). c.source.0)

-- the names of a system's components are as many
names_count : (system : System) → length (names_of system).components ≡ length system.components
names_count system = length-map system.components (λ (c : Component). c.name)

-- a port that loses its value has a name, and so has its component
range_at : (system : System) (plan : Plan) → IsSound system → (lost : LostValue) (at : ℕ) (p : Place) → EndsAt system plan (E.Range lost at) p → (target : Port) × (slice_get system.ports lost.port.0 ≡ Some target)
range_at system plan sound _ _ _ (LostAtFirst values lost first) = (first.target, first.at)
range_at system plan sound _ _ _ (LostThere s lost first) = (first.target, first.at)

range_finished : (system : System) (bound : Bound) (plan : Plan) (extent : Extent) (point : ℕ) → IsSound system → (lost : LostValue) (at : ℕ) (log : List Sent) (is : List Instant) → FinishesIn system bound plan extent (E.Range lost at) point log is →
    (target : Port) × (slice_get system.ports lost.port.0 ≡ Some target)
range_finished system bound plan extent _ sound lost at _ _ (Well p _ log is course ends may) = range_at system plan sound lost at p ends

range_named : (system : System) → IsSound system → (q : ℕ) (target : Port) → slice_get system.ports q ≡ Some target → NamesPort (names_of system) q
range_named system sound q target is =
    subst (λ (o : Option PortName). IsSomeAnd o (λ (port : PortName). port.component.0 < length (names_of system).components)) (sym (slice_get-map port_name system.ports q ∙ ap (option_map port_name) is))
    (subst (λ (n : ℕ). target.component.0 < n) (sym (names_count system)) (slice_get_within system.components target.component.0 _ (place_of system sound q target is).is.of))

-- the end of a run names a component or a port of the system, if any; that of a bad answer by the lives
finishes_named : (system : System) (bound : Bound) (plan : Plan) (extent : Extent) (point : ℕ) → IsSound system → (end : RunEnd) (log : List Sent) (is : List Instant) → FinishesIn system bound plan extent end point log is →
    ((bad : BadAnswer) → end ≡ E.Bad bad → bad.component.0 < length (names_of system).components) → NamesOne (names_of system) end
finishes_named system bound plan extent point sound E.Stop log is by bad = tt
finishes_named system bound plan extent point sound (E.Asked at) log is by bad = tt
finishes_named system bound plan extent point sound (E.EventLimit at) log is by bad = tt
finishes_named system bound plan extent point sound (E.FixedStep component at end) log is by bad =
    subst (λ (n : ℕ). component.0 < n) (sym (names_count system)) (finished_within system bound plan extent point component at end log is by)
finishes_named system bound plan extent point sound (E.Range lost at) log is by bad =
    let there = range_finished system bound plan extent point sound lost at log is by in
    range_named system sound lost.port.0 there.0 there.1
finishes_named system bound plan extent point sound (E.Held at) log is by bad = tt
finishes_named system bound plan extent point sound (E.Bad answer) log is by bad = bad answer refl
finishes_named system bound plan extent point sound E.WriteFault log is by bad = tt

-- the first bad answer is one of a component's
bad_named : (system : System) (olds news : List View) (log : List Sent) (histories : List PeerHistory) (end : RunEnd) → ArePeerHistories system olds news log histories → EndsHistories end histories → (bad : BadAnswer) → end ≡ E.Bad bad → bad.component.0 < length (names_of system).components
bad_named system olds news log histories end are ends bad is =
    let least = subst (λ (e : RunEnd). EndsHistories e histories) is ends in
    subst (λ (n : ℕ). bad.component.0 < n) (histories_count system olds news log histories are ∙ sym (names_count system)) (slice_get_within histories bad.component.0 least.history least.here)

pub ends_named : (system : System) (bound : Bound) (plan : Plan) (extent : Extent) (log : List Sent) (is : List Instant) (end : RunEnd) (before after : SinkView) → IsSound system → EndsIn system bound plan extent log is end before after →
    ((bad : BadAnswer) → end ≡ E.Bad bad → bad.component.0 < length (names_of system).components) → NamesOne (names_of system) end
ends_named system bound plan extent log is E.Stop before after sound by bad = tt
ends_named system bound plan extent log is (E.Asked point) before after sound by bad = tt
ends_named system bound plan extent log is (E.EventLimit point) before after sound by bad = tt
ends_named system bound plan extent log is (E.FixedStep component at end) before after sound by bad = finishes_named system bound plan extent by.0 sound (E.FixedStep component at end) log is by.1 bad
ends_named system bound plan extent log is (E.Range lost at) before after sound by bad = finishes_named system bound plan extent by.0 sound (E.Range lost at) log is by.1 bad
ends_named system bound plan extent log is (E.Held point) before after sound by bad = tt
ends_named system bound plan extent log is (E.Bad answer) before after sound by bad = bad answer refl
ends_named system bound plan extent log is E.WriteFault before after sound by bad = tt

pub session_names : (a : Account) → IsSound a.system → Session a → NamesOne (names_of a.system) a.end
session_names a sound l = ends_named a.system a.bound a.plan Whole l.log l.is a.end a.before a.after sound l.text (bad_named a.system a.olds a.news (l.made ++ l.log) l.histories a.end l.are l.ends)

-- a piece was put with this end, or its put failed
piece_named : (names : Names) (outcome end : RunEnd) (piece : List ℕ) (before after : SinkView) → PutsPiece outcome piece before after end → (end ≡ outcome → NamesOne names outcome) → NamesOne names end
piece_named names outcome end piece before after (inl puts) named = subst (NamesOne names) (sym puts.0) (named puts.0)
piece_named names outcome end piece before after (inr puts) named = subst (NamesOne names) (sym puts.0) tt

held_outcome : (e : Experiment) (at : ℕ) (starts : List Instance) (outcome : RunEnd) (log : List Sent) (piece : List ℕ) → IsSound e.system → HoldsWith e at starts outcome log piece →
    ((bad : BadAnswer) → outcome ≡ E.Bad bad → bad.component.0 < length (names_of e.system).components) → NamesOne (names_of e.system) outcome
held_outcome e at starts _ _ _ sound (Early end point log is by) bad = finishes_named e.system e.bound e.plan (UpToHeld at) point sound end log is by bad
held_outcome e at starts _ _ _ sound (BadlyHeld s answer prefix more is comes stops) bad = bad answer refl
held_outcome e at starts _ _ _ sound (WellHeld s prefix entered kept is mids states comes entering told packed keeping can) bad = tt

pub held_names : (a : Account) (at : ℕ) → IsSound a.system → HeldSession a at → NamesOne (names_of a.system) a.end
held_names a at sound l =
    piece_named (names_of a.system) l.outcome a.end l.piece a.before a.after l.puts
    (λ same. held_outcome (experiment_in a) at l.starts l.outcome l.log l.piece sound l.holds
    (λ bad is. bad_named a.system a.olds a.news (l.made ++ l.log) l.histories a.end l.are l.ends bad (same ∙ is)))

rest_outcome : (e : Experiment) (s : Spot) (states : List (List ℕ)) (olds news : List Instance) (before after : SinkView) (counted : ℕ) (end : RunEnd) → IsSound e.system → ResumesSlots e s states olds news before after counted end →
    ((bad : BadAnswer) → end ≡ E.Bad bad → bad.component.0 < length (names_of e.system).components) → NamesOne (names_of e.system) end
rest_outcome e s states olds news before after counted end sound (Back mids log told answered restored runs) bad =
    ends_named e.system e.bound e.plan (FromHeld s) runs.log runs.is end before after sound runs.ends bad
rest_outcome e s states olds news before after counted end sound (NotBack answer log told stops restored none puts) bad =
    piece_named (names_of e.system) (E.Bad answer) end (end_text K.Fault s.t) before after puts (λ same. bad answer same)

pub rest_names : (a : Account) (held : Snapshot) → IsSound a.system → ResumedSession a held → NamesOne (names_of a.system) a.end
rest_names a held sound l =
    rest_outcome (experiment_in a) (spot_in a.system held) held.states l.starts l.lasts a.before a.after a.instants a.end sound l.resumes
    (bad_named a.system (map without_machine a.olds) (map without_machine a.news) (l.made ++ l.log) l.histories a.end l.are l.ends)

pub unmade_names : (system : System) (link : ℕ) (olds news : List View) (bad : BadAnswer) → FailedStart system link olds bad news → bad.component.0 < length system.components
unmade_names system link olds news bad u =
    subst (λ (n : ℕ). bad.component.0 < n) (histories_count system olds news u.log u.histories u.are) (slice_get_within u.histories bad.component.0 u.least.history u.least.here)

-- ---- from what the master says

-- the account of a run, by what its master is after it
abbrev pub account_of : System → Bound → Plan → List View → List View → SinkView → SinkView → Standing → RunEnd → Account
account_of system bound plan olds news before after done end =
    record { system = system; bound = bound; plan = plan; olds = olds; news = news; before = before; after = after; instants = done.instants; end = end }

histories_news : (system : System) (olds news : List View) (log : List Sent) (histories : List PeerHistory) → ArePeerHistories system olds news log histories → length news ≡ length system.components
histories_news system olds news log histories are =
    sym (ap (λ (vs : List View). length vs) are.news_are) ∙ length-map histories (λ (l : PeerHistory). l.new) ∙ histories_count system olds news log histories are

pub session_news : (a : Account) → Session a → length a.news ≡ length a.system.components
session_news a l = histories_news a.system a.olds a.news (l.made ++ l.log) l.histories l.are

pub held_news : (a : Account) (at : ℕ) → HeldSession a at → length a.news ≡ length a.system.components
held_news a at l = histories_news a.system a.olds a.news (l.made ++ l.log) l.histories l.are

pub rest_news : (a : Account) (held : Snapshot) → ResumedSession a held → length a.news ≡ length a.system.components
rest_news a held l = sym (length-map a.news without_machine) ∙ histories_news a.system (map without_machine a.olds) (map without_machine a.news) (l.made ++ l.log) l.histories l.are

-- a peer for each machine
peer_there : (machines : List Machine) (views : List View) (i : ℕ) (m : Machine) → length machines ≡ length views → slice_get machines i ≡ Some m → (v : View) × (slice_get views i ≡ Some v)
peer_there [] views i m len at = absurd (cc)
peer_there (x ∷ ms) [] i m len at = absurd (omega (arith, len))
peer_there (x ∷ ms) (v ∷ vs) zero m len at = (v, refl)
peer_there (x ∷ ms) (v ∷ vs) (suc i) m len at = peer_there ms vs i m (omega (arith, len)) at

-- what the peers tell are machines of their components' shapes
lawful : (r : Run) (system : System) (bound : Bound) (olds : List View) → IsRunOf system bound olds r → MachinesMatchShapes system olds → length olds ≡ length system.components → AreMachines r
lawful r system bound olds of theirs len = record {
  count = of.tell.count ∙ len ∙ ap (λ (s : System). length s.components) (sym of.system_is);
  each = λ i c m at_c at_m.
      let v = peer_there r.machines olds i m of.tell.count at_m in
      let its = theirs i c v.0 m (subst (λ (s : System). slice_get s.components i ≡ Some c) of.system_is at_c) v.1 (of.tell.each i v.0 m v.1 at_m).0 in
      (its.0, its.1);
}

-- and the run of them has one trace at most
pub one_trace : (r : Run) (system : System) (bound : Bound) (olds : List View) → IsSound system → IsRunOf system bound olds r → MachinesMatchShapes system olds → length olds ≡ length system.components → HasOneTrace r
one_trace r system bound olds sound of theirs len =
    let machines = lawful r system bound olds of theirs len in
    record {
      machines = machines;
      one = λ is js k l p q one other. trace_once r (subst IsSound (sym of.system_is) sound) machines is js k l p q one other;
    }

-- a peer keeps what stays through its life
pub histories_same : (system : System) (olds news : List View) (log : List Sent) (histories : List PeerHistory) → ArePeerHistories system olds news log histories → map (λ (v : View). v.fixed) news ≡ map (λ (v : View). v.fixed) olds
histories_same system olds news log histories are =
    ap (map (λ (v : View). v.fixed)) (sym are.news_are) ∙ same histories are.each ∙ ap (map (λ (v : View). v.fixed)) are.olds_are
  where
    same : (ls : List PeerHistory) → All IsPeerHistory ls → map (λ (v : View). v.fixed) (map (λ (l : PeerHistory). l.new) ls) ≡ map (λ (v : View). v.fixed) (map (λ (l : PeerHistory). l.old) ls)
    same [] each = refl
    same (l ∷ ls) each =
        ap (λ (f : Fixed). f ∷ map (λ (v : View). v.fixed) (map (λ (x : PeerHistory). x.new) ls)) (All-head IsPeerHistory l ls each).fixed
        ∙ ap (λ (fs : List Fixed). l.old.fixed ∷ fs) (same ls (All-tail IsPeerHistory l ls each))

pub once : (a : Account) (r : Run) (end : RunEnd) → HasOneTrace r → TracesWell a r end → TracesOnce a r end
once a r E.Stop one t = (one, t)
once a r (E.Asked point) one t = (one, t)
once a r (E.EventLimit point) one t = (one, t)
once a r (E.FixedStep component at end) one t = (one, t)
once a r (E.Range lost at) one t = (one, t)
once a r (E.Bad bad) one t = t
once a r (E.Held point) one t = (one, t)
once a r E.WriteFault one t = (one, t)

abbrev pub goes : (a : Account) (task : Task) (old new : Scene) → CanRun a.system → BindsParameters a.system a.bound → IsPlan a.plan → a.bound ≡ task.bound → a.plan ≡ task.plan → a.before ≡ old.out → a.after ≡ new.out →
    RunsPeers task a.system a.olds a.news old.spawner new.spawner → Session a → HistoriesAreOver → ToldRun → ToldTrace → RunCompletes task a.system a.end old new
goes a task old new can binds planned bound plan before after peers session over run trace = record {
  traces = record {
    account = a;
    system_is = refl;
    bound_is = bound;
    plan_is = plan;
    end_is = refl;
    before_is = before;
    after_is = after;
    peers = peers;
    same = histories_same a.system a.olds a.news (session.made ++ session.log) session.histories session.are;
    sound = can.sound;
    well = λ r of is well. once a r a.end (one_trace r a.system task.bound a.olds can.sound of session.machines peers.each)
        (trace a r can.sound binds planned (subst (λ (b : Bound). IsRunOf a.system b a.olds r) (sym bound) of) (is ∙ sym plan) well session);
  };
  session = session;
  over = over a.system a.olds a.news (session.made ++ session.log) session.histories session.are;
  so_far = λ r of is. run a r can.sound planned (subst (λ (b : Bound). IsRunOf a.system b a.olds r) (sym bound) of) (is ∙ sym plan) session;
}

-- the account of a run that was to be held
pub holds_so : (a : Account) (at : ℕ) (task : Task) (old new : Scene) → CanRun a.system → BindsParameters a.system a.bound → IsPlan a.plan → IsHoldable a.system a.plan → a.bound ≡ task.bound → a.plan ≡ task.plan → a.before ≡ old.out → a.after ≡ new.out →
    RunsPeers task a.system a.olds a.news old.spawner new.spawner → (l : HeldSession a at) → HistoriesAreOver → ToldHeld → ToldNone → ToldHeldWell → Holds task a.system at a.end old new
holds_so a at task old new can binds planned holdable bound plan before after peers l over told none well = record {
  account = a;
  is = record { system_is = refl; plan_is = plan; end_is = refl; before_is = before; after_is = after; peers = peers; sound = can.sound };
  bound_is = bound;
  same = histories_same a.system a.olds a.news (l.made ++ l.log) l.histories l.are;
  session = l;
  over = over a.system a.olds a.news (l.made ++ l.log) l.histories l.are;
  run = λ r of is. told a at r can.sound planned (its r of) (is ∙ sym plan) l;
  none = λ r of is steps before_it instants z held. none a at r can.sound planned (its r of) (is ∙ sym plan) steps l before_it instants z held;
  well = λ r of is behaved puts. well a at r can.sound binds planned holdable (its r of) (is ∙ sym plan) behaved puts l;
}
  where
    its : (r : Run) → IsRunOf a.system task.bound a.olds r → IsRunOf a.system a.bound a.olds r
    its r of = subst (λ (b : Bound). IsRunOf a.system b a.olds r) (sym bound) of

-- and of one that went on from what was held
pub goes_on_so : (a : Account) (held : Snapshot) (task : Task) (old new : Scene) → CanRun a.system → BindsParameters a.system task.bound → IsPlan a.plan → IsHoldable a.system a.plan → IsPlanOf a.plan held → a.plan ≡ task.plan → a.before ≡ old.out → a.after ≡ new.out →
    RunsPeers task a.system a.olds a.news old.spawner new.spawner → (l : ResumedSession a held) → HistoriesAreOver → ToldRest → ToldRestWell → GoesOn task a.system held a.end old new
goes_on_so a held task old new can binds planned holdable plan_of plan before after peers l over told well = record {
  account = a;
  is = record { system_is = refl; plan_is = plan; end_is = refl; before_is = before; after_is = after; peers = peers; sound = can.sound };
  session = l;
  over = over a.system (map without_machine a.olds) (map without_machine a.news) (l.made ++ l.log) l.histories l.are;
  run = λ r prefix z system machines reads held_there begun kept. told a r prefix z held can.sound planned system plan_of machines reads held_there begun kept l;
  well = λ r prefix z system bound machines behaved reads takes held_there begun kept. well a r prefix z held can.sound (subst (BindsParameters a.system) (sym bound) binds) planned holdable system plan_of machines behaved reads
      (λ i. subst (λ (p : Plan). TakesState r p i) (sym plan) (takes i)) held_there begun kept l;
}

pub fails : (task : Task) (system : System) (bad : BadAnswer) (olds news : List View) (old new : Scene) → CanRun system → RunsPeers task system olds news old.spawner new.spawner →
    FailedStart system task.plan.link olds bad news → new.out ≡ old.out → HistoriesAreOver → ToldFailedStart → Fails task system bad old new
fails task system bad olds news old new can peers unmade out over told = record {
  traces = record {
    account = record { system = system; bound = task.bound; plan = task.plan; olds = olds; news = news; before = old.out; after = new.out; instants = 0; end = E.Bad bad };
    system_is = refl;
    bound_is = refl;
    plan_is = refl;
    end_is = refl;
    before_is = refl;
    after_is = refl;
    peers = peers;
    same = histories_same system olds news unmade.log unmade.histories unmade.are;
    sound = can.sound;
    well = λ r of is well. told system task.bound olds news bad r can.sound of well
        (subst (λ (p : Plan). FailedStart system p.link olds bad news) (sym is) unmade);
  };
  unmade = unmade;
  over = over system olds news unmade.log unmade.histories unmade.are;
  out = out;
}

-- a system that can't be prepared gives back each of its peers
pub given_back : (system : System) (link : ℕ) (olds news : List View) (fault : PrepareFault) → IsSound system → ArePeersOf system olds → FailedStartIsClosed → FailsToPrepare system link olds fault news → length news ≡ length olds
given_back system link olds news F.Memory sound peers closed f = ap (λ (vs : List View). length vs) f
given_back system link olds news (F.Bad bad) sound peers closed f =
    let u = closed system link olds news bad sound peers f in
    histories_news system olds news u.log u.histories u.are ∙ sym peers.len
