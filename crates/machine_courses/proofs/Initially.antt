-- The calls of machines that behave well are answered well up to the first instant.
use Rattle.std.proofs.Common.{◌≡◌, ℕ, ℤ, true, List, [], ◌∷◌, ◌++◌, Option, Some, None, inl, inr, refl, sym, ap, ◌∙◌, subst, arith, length}
use Rattle.std.specs.Prelude.{All, IfSome}
use Rattle.std.specs.List.{slice_get}
use Rattle.std.proofs.lemmas.Option.{same_Some, slice_get_within}
use Rattle.value_types.specs.Values.{Fits}
use Rattle.fmi_calls.specs.declared.call.Call.{Call}
use Rattle.fmi_calls.specs.declared.call.Call.TheVariants as C
use Rattle.fmi_calls.specs.Worth.{grade_of}
use Rattle.fmu_peer.specs.Machine.{Machine, MachineState}
use Rattle.system_model.specs.declared.system.Component.{Component}
use Rattle.system_model.specs.declared.system.Feed.{Feed}
use Rattle.system_model.specs.declared.system.Port.{Port}
use Rattle.system_model.specs.declared.system.Role.{Role}
use Rattle.system_model.specs.declared.system.Role.TheVariants.{Input, Output, ClockInput, ClockOutput, TimeClock}
use Rattle.system_model.specs.Bounds.{BindsParameters, IsParameterValue}
use Rattle.system_model.specs.Needs.{InitiallyByFeed, is_unclocked, is_unclocked_at}
use Rattle.system_model.specs.Ports.{is_clock_role, is_output_role, port_numbers, source_of}
use Rattle.system_model.specs.Sound.{IsSound}
use Rattle.system_model.proofs.CallerLemmas.{place_of}
use Rattle.run_model.specs.Behaved.{AnswersInitially, AnswersWell, IsAnsweredWell, WellBehaved}
use Rattle.run_model.specs.Equations.{fed}
use Rattle.run_model.specs.Initial as I
use Rattle.run_model.specs.Initial.{SolvesInitially, is_read}
use Rattle.run_model.specs.Inputs.{state_with}
use Rattle.run_model.specs.Machines.{AreMachines}
use Rattle.run_model.specs.Run.{IsFmu, Run}
use Rattle.system_model.specs.Values.{value}
use Rattle.run_model.proofs.CallerLemmas.{both, fed_fits, fed_same, unclocked_at-is, solvable_initially, looks_initially}
use Rattle.slot_calls.specs.declared.bad_answer.BadAnswer.{BadAnswer}
use Rattle.slot_calls.specs.Log.{ComponentCall, Sent, component_call, component_calls, part}
use Rattle.slot_calls.specs.Replies.{AreReplies, state_by}
use Rattle.slot_calls.specs.Slots.{reads_or_sets}
use Rattle.slot_calls.specs.Stage.{StopsAt, shapes_of}
use Rattle.event_iteration.specs.Explains.{ExplainsUntil}
use Rattle.event_iteration.specs.Initialization.{asks_initially, initially, is_set_from_feed, no_values}
use Rattle.event_iteration.specs.Intervals.{timing_calls}
use Rattle.event_iteration.specs.WalkCalls.{Prefix, has_events_at, initial_span}
use Rattle.event_iteration.proofs.ByLog.{InitialSoFar, IsQuestionOf, IsTimingOf, each_call_once, fmu_on, initial_so_far, initialized_all, initializing_all, made_all, part_all, reads_part, replies_first, timings_are, timings_read, unclocked_parts}
use Rattle.calling_sequence.specs.Calls.{binding}
use Rattle.machine_courses.specs.Outcomes.{IsLost}
use Rattle.machine_courses.proofs.Lost.{lost_at, lost_walk}
use Rattle.machine_courses.proofs.Parameters.{IsParameterSet, amid_all, binding_all}
use Rattle.machine_courses.proofs.Settings.{IsQuiet, if_is, like_by, like_walk, set_of, sets_configuring, sets_initially}

module _ (r : Run) (sound : IsSound r.system) (machines : AreMachines r) (well : WellBehaved r) (bad : BadAnswer) (log : List Sent) where
  abbrev count : ℕ
  count = length r.system.components

  -- the Set of a parameter
  pub lost_binding : BindsParameters r.system r.bound → AreReplies r (I.instantiated r) log → StopsAt (shapes_of r.system) (binding r.bound) bad log → IsLost count log bad.why
  lost_binding binds replies s =
      let P : ComponentCall → Type 0 = IsParameterSet 0 r.system.components in
      let parts = amid_all P s.prefix s.last [] s.left (subst (All P) (s.calls_are ∙ ap (λ (l : List Sent). component_calls l ++ s.left) s.log_is) (binding_all r.system r.bound binds)) in
      let own : IsParameterSet 0 r.system.components (component_call s.last) = parts.0 in
      let k = s.last.component in
      let place : own.place ≡ k = (let e = own.at in omega (arith, e)) in
      let prefix : All IsQuiet (part k s.prefix) = part_all IsQuiet k s.prefix (λ i d w here. let set = parts.1 i d w in ap reads_or_sets set.call_is) in
      subst (λ (l : List Sent). IsLost count l bad.why) (sym s.log_is)
      (lost_at r (I.instantiated r) (made_all r machines) s.prefix s.last [] bad.why (subst (AreReplies r (I.instantiated r)) s.log_is replies) s.first.good s.first.why
      (let inside = slice_get_within r.system.components own.place own.component own.of in omega (arith, inside, place))
      (λ c m z fmu.
      let like = like_by m z (part k s.prefix) prefix in
      let same : own.component ≡ c = same_Some _ _ (sym own.of ∙ ap (slice_get r.system.components) place ∙ fmu.component) in
      subst (IsAnsweredWell c.shape m (state_by m z (part k s.prefix))) (sym own.call_is)
      ((well k).before.parameters c m z (state_by m z (part k s.prefix)) (I.set_call own.value) fmu like.numbers like.values (sets_configuring c.shape own.value (subst (λ (d : Component). IsParameterValue d.shape own.value) same own.is)))))

  -- a call that finds a value of Initialization Mode
  module _ (values : List (Option ℤ)) (u : ExplainsUntil r.system (initially r.system) (no_values r.system) (port_numbers r.system.initial_order) bad values log) (replies : AreReplies r (I.initializing r) log) where
    abbrev port : Port
    port = u.stops.port

    abbrev c : Component
    c = u.stops.component

    abbrev W : List (Option ℤ)
    W = (solvable_initially r sound machines).0

    solves : SolvesInitially r W
    solves = (solvable_initially r sound machines).1

    so_far : InitialSoFar r W u.taken values u.prefix
    so_far = initial_so_far r sound machines W solves u.taken (u.p ∷ u.rest) u.order_is values u.prefix u.told (replies_first r (I.initializing r) u.prefix (u.last ∷ []) (subst (AreReplies r (I.initializing r)) u.log_is replies))

    module _ (m : Machine) (z : MachineState) (fmu : IsFmu r (I.initializing r) port.component.0 c m z) where
      abbrev there : MachineState
      there = state_by m z (part port.component.0 u.prefix)

      get_well : port.role ≡ Output → is_read r.system.ports u.p ≡ true → IsAnsweredWell c.shape m there (C.Get port.kind port.reference)
      get_well same read =
          let get : Call = C.Get port.kind port.reference in
          let looks = looks_initially r sound machines u.p port u.stops.is (ap is_output_role same) read W solves u.taken (λ q n. sound.initial_order.after u.taken u.rest u.p q u.order_is n) c m z fmu get refl in
          let shown = ((well port.component.0).initially W solves).gets u.p port u.stops.is refl same read c m (state_with r.system.ports W port.component.0 m z)
          (fmu_on r (I.initializing r) (λ i d n y. state_with r.system.ports W i n y) port.component.0 c m z fmu) in
          ap (grade_of c.shape get) (ap (λ (y : MachineState). m.look y get) (so_far.states port.component.0 c m z fmu) ∙ looks) ∙ shown

      set_well : (feed : Feed) → port.role ≡ Input (Some feed) → is_set_from_feed r.system.ports port feed ≡ true → (x : ℤ) → fed port.kind feed values ≡ Some x → IsAnsweredWell c.shape m there (C.Set port.kind port.reference x)
      set_well feed same set x from =
          let parts = both (is_unclocked port) (is_unclocked_at r.system.ports feed.from.0) set in
          let needs = InitiallyByFeed (unclocked_at-is r.system.ports u.p port u.stops.is ∙ parts.0) parts.1 port u.stops.is (ap source_of same) in
          let is : fed port.kind feed W ≡ Some x = sym (fed_same port.kind feed values W (so_far.same feed.from.0 (sound.initial_order.after u.taken u.rest u.p feed.from.0 u.order_is needs))) ∙ from in
          let fit : IfSome (fed port.kind feed W) (Fits port.kind) = fed_fits port.kind feed W in
          let like = like_walk (initial_span (has_events_at r.system port.component.0)) port.component.0 log u.prefix u.last u.log_is
          ((each_call_once r.system sound).initial (no_values r.system) log (Prefix bad values log u) port.component.0) m z in
          ((well port.component.0).initially W solves).sets c m z there (C.Set port.kind port.reference x) fmu like.numbers like.values
          (sets_initially r sound u.p port u.stops.is (ap is_output_role same) (ap is_clock_role same) c fmu.component x (subst (λ o. IfSome o (Fits port.kind)) is fit) (unclocked_parts port parts.0).1)

      call_well : (role : Role) → port.role ≡ role → (call : Call) → asks_initially role r.system.ports (is_read r.system.ports u.p) port values ≡ Some call → IsAnsweredWell c.shape m there call
      call_well (Input None) same call h = absurd (cc)
      call_well (Input (Some feed)) same call h =
          let test = if_is (is_set_from_feed r.system.ports port feed) _ call h in
          let s = set_of port (fed port.kind feed values) call test.1 in
          subst (IsAnsweredWell c.shape m there) (sym s.2) (set_well feed same test.0 s.0 s.1)
      call_well Output same call h =
          let s = if_is (is_read r.system.ports u.p) (Some (C.Get port.kind port.reference)) call h in
          subst (IsAnsweredWell c.shape m there) (same_Some _ _ s.1) (get_well same s.0)
      call_well (ClockInput feed) same call h = absurd (cc)
      call_well ClockOutput same call h = absurd (cc)
      call_well (TimeClock timing) same call h = absurd (cc)

    pub lost_finding : IsLost count log bad.why
    lost_finding =
        lost_walk r (I.initializing r) (initializing_all r machines) bad log replies (initially r.system) (no_values r.system) (port_numbers r.system.initial_order) values u (λ m z fmu. call_well m z fmu port.role refl u.last.exchange.call u.stops.asks)

  -- a question for the timing of a fixed Clock, or for the shift of a changing one
  pub lost_timing : (W : List (Option ℤ)) → SolvesInitially r W → AreReplies r (I.initialized r W) log → StopsAt (shapes_of r.system) (timing_calls r.system) bad log → IsLost count log bad.why
  lost_timing W solves replies s =
      let there : List MachineState = I.initialized r W in
      let parts = amid_all (IsTimingOf r.system) s.prefix s.last [] s.left (subst (All (IsTimingOf r.system)) (s.calls_are ∙ ap (λ (l : List Sent). component_calls l ++ s.left) s.log_is) (timings_are r.system)) in
      let own : IsTimingOf r.system (component_call s.last) = parts.0 in
      let placed = place_of r.system sound own.p own.port own.is in
      let k = s.last.component in
      let at : k ≡ own.port.component.0 = own.at in
      let answers : AnswersInitially own.port.role r there own.port = ((well own.port.component.0).initially W solves).timings own.p own.port own.is refl in
      let asks : (i : ℕ) → i ≡ own.port.component.0 → (call : Call) → IsQuestionOf own.port call → AnswersWell r there i (λ shape. call) =
      λ i same call is. subst (λ (j : ℕ). AnswersWell r there j (λ shape. call)) (sym same) (by own.port answers call is) in
      subst (λ (l : List Sent). IsLost count l bad.why) (sym s.log_is)
      (lost_at r there (initialized_all r machines W) s.prefix s.last [] bad.why (subst (AreReplies r there) s.log_is replies) s.first.good s.first.why
      (let inside = slice_get_within r.system.components own.port.component.0 placed.component placed.is.of in omega (arith, inside, at))
      (λ c m z fmu. subst (λ (y : MachineState). IsAnsweredWell c.shape m y s.last.exchange.call) (sym (reads_part k m z s.prefix (timings_read r.system s.prefix parts.1))) (asks k at s.last.exchange.call own.asks c m z fmu)))
    where
      by : (port : Port) → AnswersInitially port.role r (I.initialized r W) port → (call : Call) → IsQuestionOf port call → AnswersWell r (I.initialized r W) port.component.0 (λ shape. call)
      by port answers call (inl (role, inl is)) =
          let both = subst (λ (x : Role). AnswersInitially x r (I.initialized r W) port) role answers in subst (λ (k : Call). AnswersWell r (I.initialized r W) port.component.0 (λ shape. k)) (sym is) both.0
      by port answers call (inl (role, inr is)) =
          let both = subst (λ (x : Role). AnswersInitially x r (I.initialized r W) port) role answers in subst (λ (k : Call). AnswersWell r (I.initialized r W) port.component.0 (λ shape. k)) (sym is) both.1
      by port answers call (inr (role, is)) =
          let shift = subst (λ (x : Role). AnswersInitially x r (I.initialized r W) port) role answers in subst (λ (k : Call). AnswersWell r (I.initialized r W) port.component.0 (λ shape. k)) (sym is) shift
