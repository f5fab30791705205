-- The calls of machines that behave well are answered well in an instant.
use Rattle.std.proofs.Common.{inl, inr, ◌≡◌, ℕ, ◌==◌, ℤ, Bool, true, false, List, [], ◌∷◌, Option, Some, None, Contains, refl, sym, ap, ◌∙◌, subst, length}
use Rattle.std.specs.Prelude.{IfSome, ◌&&◌, if◌then◌else◌}
use Rattle.std.proofs.lemmas.Bool.{eqb-true}
use Rattle.std.proofs.lemmas.Option.{same_Some}
use Rattle.value_types.specs.Values.{Fits}
use Rattle.value_types.specs.declared.shape.Shape.{Shape}
use Rattle.fmi_calls.specs.declared.call.Call.{Call}
use Rattle.fmi_calls.specs.declared.call.Call.TheVariants as C
use Rattle.fmi_calls.specs.Worth.{grade_of}
use Rattle.fmu_peer.specs.Machine.{Machine, MachineState, output_of}
use Rattle.system_model.specs.declared.system.Component.{Component}
use Rattle.system_model.specs.declared.system.Feed.{Feed}
use Rattle.system_model.specs.declared.system.Port.{Port}
use Rattle.system_model.specs.declared.system.Role.{Role}
use Rattle.system_model.specs.declared.system.Role.TheVariants.{Input, Output, ClockInput, ClockOutput, TimeClock}
use Rattle.system_model.specs.Needs.{ByFeed, Needs}
use Rattle.system_model.specs.Ports.{is_clock_role, is_output_role, port_numbers, source_of}
use Rattle.system_model.specs.Sound.{IsSound}
use Rattle.system_model.proofs.CallerLemmas.{events_of, place_of}
use Rattle.run_model.specs.AfterInstant as F
use Rattle.run_model.specs.Behaved.{AnswersAt, AnswersWell, BehavesInInstant, IsAnsweredWell, Reached, WellBehaved}
use Rattle.run_model.specs.Equations.{Solves, fed, source_value}
use Rattle.run_model.specs.Inputs.{state_with, state_written, written_at_port}
use Rattle.run_model.specs.Machines.{AreMachines, IsSituation}
use Rattle.run_model.specs.Run.{IsFmu, Run, Situation}
use Rattle.system_model.specs.Values.{value, is_active, is_present}
use Rattle.run_model.specs.Walk.{only_at}
use Rattle.run_model.proofs.CallerLemmas.{both, fed_fits, fed_same, present_alike, situation_reached, decided, looks_in_midst, solvable}
use Rattle.slot_calls.specs.declared.bad_answer.BadAnswer.{BadAnswer}
use Rattle.slot_calls.specs.Log.{Sent, part}
use Rattle.slot_calls.specs.Replies.{AreReplies, state_by}
use Rattle.slot_calls.specs.Stage.{StopsAt, has_events, shapes_of}
use Rattle.event_iteration.specs.Clocks.{AreTicks}
use Rattle.event_iteration.specs.Explains.{ExplainsUntil}
use Rattle.event_iteration.specs.Instants.{asks_in_instant, in_instant, is_read_in_instant}
use Rattle.event_iteration.specs.Intervals.{intervals}
use Rattle.event_iteration.specs.Settings.{port_order}
use Rattle.event_iteration.specs.Updates.{updating}
use Rattle.event_iteration.specs.WalkCalls.{Prefix, has_events_at, instant_span}
use Rattle.event_iteration.proofs.ByLog.{InstantSoFar, IsAsked, asked_interval, each_call_once, fmu_on, instant_so_far, intervals_read, reads_part, replies_first, states_all, written_all}
use Rattle.machine_courses.specs.Outcomes.{IsLost}
use Rattle.machine_courses.proofs.Lost.{lost_stops, lost_walk}
use Rattle.machine_courses.proofs.Settings.{IsLike, if_is, like_walk, set_of, sets_clock, sets_eventing}

-- an instant has values
pub solution : (r : Run) → IsSound r.system → AreMachines r → (s : Situation) → Reached r s → (V : List (Option ℤ)) × Solves r s V
solution r sound machines s reached = solvable r sound machines s (situation_reached sound machines reached).shapes (decided r s)

module _ (r : Run) (sound : IsSound r.system) (machines : AreMachines r) (well : WellBehaved r) (s : Situation) (reached : Reached r s) (bad : BadAnswer) (log : List Sent) where
  abbrev count : ℕ
  count = length r.system.components

  situation : IsSituation r s
  situation = situation_reached sound machines reached

  -- ---- a call that finds a value

  module _ (ticks : ℕ → Bool) (are_ticks : AreTicks r.system r.plan.start s.timers s.t s.n ticks) (values : List (Option ℤ)) (u : ExplainsUntil r.system (in_instant ticks (s.n == 0)) s.before (port_numbers r.system.instant_order) bad values log) (replies : AreReplies r s.states log) where
    abbrev port : Port
    port = u.stops.port

    abbrev c : Component
    c = u.stops.component

    abbrev events : Bool
    events = c.shape.has_event_mode

    abbrev W : List (Option ℤ)
    W = (solution r sound machines s reached).0

    abbrev solved : Solves r s W
    solved = (solution r sound machines s reached).1

    so_far : InstantSoFar r s W u.taken values u.prefix
    so_far = instant_so_far r sound machines s situation ticks are_ticks W solved u.taken (u.p ∷ u.rest) u.order_is values u.prefix u.told (replies_first r s.states u.prefix (u.last ∷ []) (subst (AreReplies r s.states) u.log_is replies))

    -- what the port needs was taken
    needed : (q : ℕ) → Needs r.system u.p q → Contains u.taken q
    needed q n = sound.instant_order.after u.taken u.rest u.p q u.order_is n

    same_at : (q : ℕ) → Needs r.system u.p q → value values q ≡ value W q
    same_at q n = so_far.same q (needed q n)

    module _ (m : Machine) (z : MachineState) (fmu : IsFmu r s.states port.component.0 c m z) where
      abbrev there : MachineState
      there = state_by m z (part port.component.0 u.prefix)

      own : BehavesInInstant r s W port.component.0
      own = (well port.component.0).in_instants s W reached solved

      like : IsLike z there
      like = like_walk (instant_span (s.n == 0) (has_events_at r.system port.component.0)) port.component.0 log u.prefix u.last u.log_is ((each_call_once r.system sound).instant ticks (s.n == 0) s.before log (Prefix bad values log u) port.component.0) m z

      set_well : (feed : Feed) → port.role ≡ Input (Some feed) → events ≡ true → (x : ℤ) → fed port.kind feed values ≡ Some x → IsAnsweredWell c.shape m there (C.Set port.kind port.reference x)
      set_well feed same with_events x from =
          let fit : IfSome (fed port.kind feed W) (Fits port.kind) = fed_fits port.kind feed W in
          let is : fed port.kind feed W ≡ Some x = sym (fed_same port.kind feed values W (same_at feed.from.0 (ByFeed port u.stops.is (ap source_of same)))) ∙ from in
          own.sets c m z there (C.Set port.kind port.reference x) fmu like.numbers like.values
          (sets_eventing r sound u.p port u.stops.is (ap is_output_role same) (ap is_clock_role same) c fmu.component x (subst (λ o. IfSome o (Fits port.kind)) is fit) with_events)

      set_clock_well : is_output_role port.role ≡ false → is_clock_role port.role ≡ true → IsAnsweredWell c.shape m there (C.SetClock port.reference)
      set_clock_well input clock = own.sets c m z there (C.SetClock port.reference) fmu like.numbers like.values (sets_clock r sound u.p port u.stops.is input c fmu.component clock)

      abbrev get : Call
      get = C.Get port.kind port.reference

      abbrev with_all : MachineState
      with_all = state_with r.system.ports W port.component.0 m z

      abbrev mid : MachineState
      mid = state_written r.system.ports (only_at u.taken (written_at_port r.system.ports W)) port.component.0 m z

      there_is : (b : Bool) → events ≡ b → there ≡ (if b then mid else z)
      there_is b e = so_far.states port.component.0 c m z fmu ∙ ap (λ (x : Bool). if x then mid else z) e

      answers : (role : Role) → port.role ≡ role → AnswersAt role r s W u.p port
      answers role same = subst (λ (x : Role). AnswersAt x r s W u.p port) same (own.ports u.p port u.stops.is refl)

      written_fmu : IsFmu r (F.written r s W) port.component.0 c m (if events then with_all else z)
      written_fmu = fmu_on r s.states (λ i d n y. if d.shape.has_event_mode then state_with r.system.ports W i n y else y) port.component.0 c m z fmu

      -- what an output shows with all values written it shows here
      shown_well : (call : Call) → output_of call ≡ Some port.reference → is_output_role port.role ≡ true → events ≡ true → IsAnsweredWell c.shape m (if events then with_all else z) call → IsAnsweredWell c.shape m there call
      shown_well call of output e all =
          let looks = looks_in_midst r sound machines s.states situation.shapes u.p port u.stops.is output W u.taken needed c m z fmu e call of in
          subst (λ (x : MachineState). IsAnsweredWell c.shape m x call) (sym (there_is true e)) (ap (grade_of c.shape call) looks ∙ subst (λ (b : Bool). IsAnsweredWell c.shape m (if b then with_all else z) call) e all)

      get_well : port.role ≡ Output → (b : Bool) → events ≡ b → is_read_in_instant port b (s.n == 0) values ≡ true → IsAnsweredWell c.shape m there get
      get_well same true e test =
          shown_well get refl (ap is_output_role same) e ((answers Output same).0 (sym (present_alike r.system u.p port values W u.stops.is same_at) ∙ test) c m (if events then with_all else z) written_fmu e)
      get_well same false e test = subst (λ (x : MachineState). IsAnsweredWell c.shape m x get) (sym (there_is false e)) ((answers Output same).1 (eqb-true s.n 0 test) c m z fmu e)

      get_clock_well : port.role ≡ ClockOutput → IsAnsweredWell c.shape m there (C.GetClock port.reference)
      get_clock_well same =
          let placed = place_of r.system sound u.p port u.stops.is in
          let e : events ≡ true = ap (λ (d : Component). d.shape.has_event_mode) (same_Some _ _ (sym fmu.component ∙ placed.is.of)) ∙ events_of r.system u.p port placed (ap is_clock_role same) in
          shown_well (C.GetClock port.reference) refl (ap is_output_role same) e (answers ClockOutput same c m (if events then with_all else z) written_fmu)

      ticks_well : (role : Role) → port.role ≡ role → is_output_role role ≡ false → is_clock_role role ≡ true → (b : Bool) (call : Call) → (if b then Some (C.SetClock port.reference) else None) ≡ Some call → IsAnsweredWell c.shape m there call
      ticks_well role same input clock b call h =
          let s = if_is b (Some (C.SetClock port.reference)) call h in subst (IsAnsweredWell c.shape m there) (same_Some _ _ s.1) (set_clock_well (ap is_output_role same ∙ input) (ap is_clock_role same ∙ clock))

      call_well : (role : Role) → port.role ≡ role → (call : Call) → asks_in_instant role port events (s.n == 0) (ticks u.p) values ≡ Some call → IsAnsweredWell c.shape m there call
      call_well (Input None) same call h = absurd (cc)
      call_well (Input (Some feed)) same call h =
          let test = if_is (events && is_present port values) _ call h in
          let set = set_of port (fed port.kind feed values) call test.1 in
          subst (IsAnsweredWell c.shape m there) (sym set.2) (set_well feed same (both events _ test.0).0 set.0 set.1)
      call_well Output same call h =
          let test = if_is (is_read_in_instant port events (s.n == 0) values) (Some get) call h in
          subst (IsAnsweredWell c.shape m there) (same_Some _ _ test.1) (get_well same events refl test.0)
      call_well (ClockInput None) same call h = absurd (cc)
      call_well (ClockInput (Some feed)) same call h = ticks_well (ClockInput (Some feed)) same refl refl (is_active (source_value feed values)) call h
      call_well ClockOutput same call h = subst (IsAnsweredWell c.shape m there) (same_Some _ _ h) (get_clock_well same)
      call_well (TimeClock timing) same call h = ticks_well (TimeClock timing) same refl refl (ticks u.p) call h

    pub lost_found : IsLost count log bad.why
    lost_found =
        lost_walk r s.states (states_all r machines s situation) bad log replies (in_instant ticks (s.n == 0)) s.before (port_numbers r.system.instant_order) values u (λ m z fmu. call_well m z fmu port.role refl u.last.exchange.call u.stops.asks)

  module _ (V : List (Option ℤ)) (solves : Solves r s V) (replies : AreReplies r (F.written r s V) log) where
    -- a question for an interval
    pub lost_rearming : (values : List (Option ℤ)) → ExplainsUntil r.system (intervals V) V (port_order r.system) bad values log → IsLost count log bad.why
    lost_rearming values u =
        let there : List MachineState = F.written r s V in
        let port = u.stops.port in
        let asks = asked_interval port.role port (value V u.p) u.last.exchange.call u.stops.asks in
        let answers : AnswersWell r there port.component.0 (λ shape. C.GetInterval port.reference) =
        by port asks.0 (((well port.component.0).in_instants s V reached solves).ports u.p port u.stops.is refl) in
        lost_walk r there (written_all r machines s situation V) bad log replies (intervals V) V (port_order r.system) values u
        (λ m z fmu. subst (λ (y : MachineState). IsAnsweredWell u.stops.component.shape m y u.last.exchange.call) (sym (reads_part port.component.0 m z u.prefix (intervals_read r.system V V values u.taken u.prefix u.told)))
        (subst (IsAnsweredWell u.stops.component.shape m z) (sym asks.1) (answers u.stops.component m z fmu))) where
          by : (port : Port) → IsAsked port.role (value V u.p) → AnswersAt port.role r s V u.p port → AnswersWell r (F.written r s V) port.component.0 (λ shape. C.GetInterval port.reference)
          by port (inl down) answers = subst (λ (x : Role). AnswersAt x r s V u.p port) down answers
          by port (inr (changing, active)) answers = (subst (λ (x : Role). AnswersAt x r s V u.p port) changing answers) active

    -- an Update
    pub lost_updating : StopsAt (shapes_of r.system) (updating (shapes_of r.system)) bad log → IsLost count log bad.why
    lost_updating stops =
        lost_stops r (F.written r s V) (written_all r machines s situation V) bad log replies has_events (λ (shape : Shape). C.Update) stops (λ i c m z fmu asked. ((well i).in_instants s V reached solves).update c m z fmu asked)
