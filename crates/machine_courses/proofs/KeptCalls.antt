-- Where the run of machines that behave well is held, each call is answered well: those into Step Mode, and those that keep a state.
use Rattle.std.proofs.Common.{◌≡◌, ℕ, ◌==◌, Bool, true, false, List, [], ◌∷◌, ◌++◌, refl, sym, ap, ap₂, ◌∙◌, subst, append_assoc, arith, length, Some, ◌<◌}
use Rattle.std.specs.Prelude.{All, if◌then◌else◌}
use Rattle.std.specs.List.{slice_get}
use Rattle.std.proofs.lemmas.List.{length-map}
use Rattle.std.proofs.lemmas.List.Elements.{All-append}
use Rattle.std.proofs.lemmas.Option.{slice_get_within}
use Rattle.value_types.specs.declared.shape.Shape.{Shape}
use Rattle.fmi_calls.specs.declared.call.Call.{Call}
use Rattle.fmi_calls.specs.declared.call.Call.TheVariants as C
use Rattle.fmu_peer.specs.declared.peer.Exchange.{Exchange}
use Rattle.fmu_peer.specs.Machine.{Machine, MachineState, after}
use Rattle.fmu_peer.specs.Talk.{calls_in}
use Rattle.system_model.specs.declared.system.Component.{Component}
use Rattle.system_model.proofs.CallerLemmas.{all_at}
use Rattle.run_model.specs.Behaved.{BehavesInStep, Departed, IsAnsweredWell, IsSetting, Stepping, WellBehaved}
use Rattle.run_model.specs.Inputs.{state_with}
use Rattle.run_model.specs.Run.{IsFmu, Run, Situation}
use Rattle.run_rest.specs.Parted.{entering_step}
use Rattle.slot_calls.specs.declared.bad_answer.BadAnswer.{BadAnswer}
use Rattle.slot_calls.specs.Log.{ComponentCall, Sent, component_calls, part}
use Rattle.slot_calls.specs.Replies.{AreReplies, state_by}
use Rattle.slot_calls.specs.Stage.{StopsAt, has_events, shapes_of}
use Rattle.slot_calls.proofs.CallerLemmas.{first_same, rest_same, same}
use Rattle.event_iteration.specs.WalkCalls.{own}
use Rattle.event_iteration.proofs.ByLog.{AreAll, fmu_on, own_append}
use Rattle.calling_sequence.specs.Calls as Calls
use Rattle.calling_sequence.specs.Holding.{holding}
use Rattle.course_laws.proofs.Goods.{IsToOne, amid, to_ones}
use Rattle.course_laws.proofs.OwnCalls.{own_calls, own_log, own_there}
use Rattle.course_laws.proofs.Triples.{keeping_to, own_keeping}
use Rattle.machine_courses.specs.Kept.{PutsState}
use Rattle.machine_courses.specs.Outcomes.{IsLost}
use Rattle.machine_courses.proofs.Lost.{lost_at}

abbrev pub enter : ℕ → Component → Machine → MachineState → MachineState
enter i c m s = if c.shape.has_event_mode then after m s C.EnterStep else s

abbrev kept_calls : List Call
kept_calls = C.Save ∷ C.Serialize ∷ C.Free ∷ []

-- those to an FMU
abbrev calls_to : Bool → List Call
calls_to b = (if b then C.EnterStep ∷ [] else []) ++ kept_calls

module _ (r : Run) (well : WellBehaved r) (z : Situation) (departed : Departed r z) (saves : All (λ (c : Component). c.shape.can_save_state ≡ true) r.system.components) where
  own_step : (i : ℕ) → BehavesInStep r z i
  own_step i = (well i).in_steps z departed

  abbrev depart : ℕ → Component → Machine → MachineState → MachineState
  depart i c m s = if c.shape.has_event_mode then after m s C.EnterStep else state_with r.system.ports z.before i m s

  module _ (i : ℕ) (c : Component) (m : Machine) (s : MachineState) (fmu : IsFmu r z.states i c m s) where
    abbrev there : MachineState
    there = enter i c m s

    pub there_fmu : IsFmu r (entering_step r z) i c m there
    there_fmu = fmu_on r z.states enter i c m s fmu

    -- in Step Mode it answers well what saves its state, goes back to it or frees it
    pub keeps_well : (call : Call) (v : MachineState) → v.numbers ≡ there.numbers → length v.values ≡ length there.values → IsSetting Stepping c.shape call → IsAnsweredWell c.shape m v call
    keeps_well call v numbers values setting = by c.shape.has_event_mode refl where
      by : (b : Bool) → c.shape.has_event_mode ≡ b → IsAnsweredWell c.shape m v call
      by true event =
          let entered : there ≡ depart i c m s =
          ap (λ (b : Bool). if b then after m s C.EnterStep else s) event ∙ sym (ap (λ (b : Bool). if b then after m s C.EnterStep else state_with r.system.ports z.before i m s) event) in
          (own_step i).saves c m (depart i c m s) v call (fmu_on r z.states depart i c m s fmu)
          (numbers ∙ ap (λ (u : MachineState). u.numbers) entered) (values ∙ ap (λ (u : MachineState). length u.values) entered) setting
      by false none =
          let stayed : there ≡ s = ap (λ (b : Bool). if b then after m s C.EnterStep else s) none in
          (own_step i).sets c fmu.component none c m s v call fmu
          (numbers ∙ ap (λ (u : MachineState). u.numbers) stayed) (values ∙ ap (λ (u : MachineState). length u.values) stayed) setting

    can : c.shape.can_save_state ≡ true
    can = all_at (λ (d : Component). d.shape.can_save_state ≡ true) r.system.components i c saves fmu.component

    module _ (puts : PutsState r i) where
      -- each of the three calls that keep its state
      keeps_each : (es : List Exchange) (call : Call) (rest : List Call) → calls_in es ++ call ∷ rest ≡ kept_calls → IsAnsweredWell c.shape m (state_by m there es) call
      keeps_each [] call rest is = subst (IsAnsweredWell c.shape m there) (sym (first_same call C.Save rest (C.Serialize ∷ C.Free ∷ []) is)) (keeps_well C.Save there refl refl can)
      keeps_each (e ∷ []) call rest is =
          let more = rest_same e.call C.Save (call ∷ rest) (C.Serialize ∷ C.Free ∷ []) is in
          subst (λ (k : Call). IsAnsweredWell c.shape m (after m there k) call) (sym (first_same e.call C.Save (call ∷ rest) (C.Serialize ∷ C.Free ∷ []) is))
          (subst (IsAnsweredWell c.shape m (after m there C.Save)) (sym (first_same call C.Serialize rest (C.Free ∷ []) more)) (puts z c m there departed there_fmu))
      keeps_each (e ∷ (f ∷ [])) call rest is =
          let more = rest_same e.call C.Save (f.call ∷ call ∷ rest) (C.Serialize ∷ C.Free ∷ []) is in
          let last = rest_same f.call C.Serialize (call ∷ rest) (C.Free ∷ []) more in
          subst (λ (k : Call). IsAnsweredWell c.shape m (after m (after m there k) f.call) call) (sym (first_same e.call C.Save (f.call ∷ call ∷ rest) (C.Serialize ∷ C.Free ∷ []) is))
          (subst (λ (k : Call). IsAnsweredWell c.shape m (after m (after m there C.Save) k) call) (sym (first_same f.call C.Serialize (call ∷ rest) (C.Free ∷ []) more))
          (subst (IsAnsweredWell c.shape m (after m there C.Save)) (sym (first_same call C.Free rest [] last)) (keeps_well C.Free (after m there C.Save) refl refl can)))
      keeps_each (e ∷ (f ∷ (g ∷ []))) call rest is = absurd (cc)
      keeps_each (e ∷ (f ∷ (g ∷ (h ∷ es)))) call rest is = absurd (cc)

      -- and before it EnterStep, where it has event mode
      each_well : (b : Bool) → c.shape.has_event_mode ≡ b → (es : List Exchange) (call : Call) (rest : List Call) → calls_in es ++ call ∷ rest ≡ calls_to b → IsAnsweredWell c.shape m (state_by m s es) call
      each_well true event [] call rest is = subst (IsAnsweredWell c.shape m s) (sym (first_same call C.EnterStep rest kept_calls is)) ((own_step i).enters_step c m s fmu event)
      each_well true event (e ∷ es) call rest is =
          let entered : there ≡ after m s C.EnterStep = ap (λ (b : Bool). if b then after m s C.EnterStep else s) event in
          subst (λ (k : Call). IsAnsweredWell c.shape m (state_by m (after m s k) es) call) (sym (first_same e.call C.EnterStep (calls_in es ++ call ∷ rest) kept_calls is))
          (subst (λ (u : MachineState). IsAnsweredWell c.shape m (state_by m u es) call) entered (keeps_each es call rest (rest_same e.call C.EnterStep (calls_in es ++ call ∷ rest) kept_calls is)))
      each_well false none es call rest is =
          subst (λ (u : MachineState). IsAnsweredWell c.shape m (state_by m u es) call) (ap (λ (b : Bool). if b then after m s C.EnterStep else s) none) (keeps_each es call rest is)

  module _ (all : AreAll r z.states) (puts : (i : ℕ) → PutsState r i) (bad : BadAnswer) (log : List Sent) (replies : AreReplies r z.states log) (stops : StopsAt (shapes_of r.system) (holding r.system) bad log) where
    abbrev k : ℕ
    k = stops.last.component

    abbrev left : List Call
    left = own k stops.left

    are : holding r.system ≡ component_calls (stops.prefix ++ stops.last ∷ []) ++ stops.left
    are = stops.calls_are ∙ ap (λ (l : List Sent). component_calls l ++ stops.left) stops.log_is

    len : length (shapes_of r.system) ≡ length r.system.components
    len = length-map r.system.components (λ (c : Component). c.shape)

    within : k < length r.system.components
    within =
        let n = length (shapes_of r.system) in
        let inside = amid n stops.prefix stops.last [] stops.left (subst (All (IsToOne n)) are
        (All-append (IsToOne n) (Calls.entering_step r.system) (Calls.keeping r.system) (to_ones has_events (λ (shape : Shape). C.EnterStep) n 0 (shapes_of r.system) (omega arith)) (keeping_to r.system))) in
        let same_len = len in
        omega (arith, inside, same_len)

    -- the calls to the FMU whose answer isn't good
    calls_are : (c : Component) → slice_get r.system.components k ≡ Some c → calls_in (part k stops.prefix) ++ stops.last.exchange.call ∷ left ≡ calls_to c.shape.has_event_mode
    calls_are c at =
        ap (λ (cs : List Call). cs ++ stops.last.exchange.call ∷ left) (own_calls k stops.prefix)
        ∙ ap (λ (cs : List Call). own k (component_calls stops.prefix) ++ cs) (sym (ap (λ (b : Bool). (if b then stops.last.exchange.call ∷ [] else []) ++ left) (same k k refl)))
        ∙ sym (append_assoc (own k (component_calls stops.prefix)) (own k (component_calls (stops.last ∷ []))) left)
        ∙ ap (λ (cs : List Call). cs ++ left) (sym (own_log k stops.prefix (stops.last ∷ [])))
        ∙ sym (own_append k (component_calls (stops.prefix ++ stops.last ∷ [])) stops.left)
        ∙ sym (ap (own k) are)
        ∙ own_append k (Calls.entering_step r.system) (Calls.keeping r.system)
        ∙ ap₂ ◌++◌ (own_there has_events (λ (shape : Shape). C.EnterStep) r.system k c at) (own_keeping r.system k within)

    pub lost_holding : IsLost (length r.system.components) log bad.why
    lost_holding =
        subst (λ (l : List Sent). IsLost (length r.system.components) l bad.why) (sym stops.log_is)
        (lost_at r z.states all stops.prefix stops.last [] bad.why (subst (AreReplies r z.states) stops.log_is replies) stops.first.good stops.first.why within
        (λ c m y fmu. each_well k c m y fmu (puts k) c.shape.has_event_mode refl (part k stops.prefix) stops.last.exchange.call left (calls_are c fmu.component)))
