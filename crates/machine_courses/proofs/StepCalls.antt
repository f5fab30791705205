-- The calls of machines that behave well are answered well in a step.
use Rattle.std.proofs.Common.{◌≡◌, inl, inr, ℕ, ◌+◌, ◌-◌, ◌<◌, ◌≤◌, nat_lt, ℤ, Bool, true, false, List, Option, Some, Ok, refl, sym, ap, ◌∙◌, subst, arith, length}
use Rattle.std.specs.Prelude.{IfSome, if◌then◌else◌}
use Rattle.std.specs.List.{slice_get}
use Rattle.std.proofs.lemmas.Bool.Decides.{nat_tests}
use Rattle.value_types.specs.Values.{Fits}
use Rattle.value_types.specs.declared.shape.Shape.{Shape}
use Rattle.fmi_calls.specs.declared.call.Call.{Call}
use Rattle.fmi_calls.specs.declared.call.Call.TheVariants as C
use Rattle.fmi_calls.specs.declared.call.Grade.TheVariants as G
use Rattle.fmi_calls.specs.declared.call.Reply.{Reply}
use Rattle.fmi_calls.specs.Worth.{grade_of}
use Rattle.fmu_peer.specs.Machine.{Machine, MachineState, after}
use Rattle.system_model.specs.EarlyReturn.{early_count}
use Rattle.system_model.specs.declared.system.Component.{Component}
use Rattle.system_model.proofs.CallerLemmas.{all_at}
use Rattle.system_model.specs.Ports.{is_clock_role, is_output_role}
use Rattle.system_model.specs.Sound.{IsSound}
use Rattle.run_model.specs.Behaved.{BehavesInStep, Departed, IsAnsweredWell, WellBehaved}
use Rattle.run_model.specs.Machines.{AreFitting, AreMachines}
use Rattle.run_model.specs.Run.{IsFmu, Run, Situation}
use Rattle.run_model.specs.Stepping as P
use Rattle.run_model.specs.Stepping.{asked_first, asks_to_end, departing, end_in, ending, is_asked_first, kept_at, step_to, steppers}
use Rattle.run_model.specs.Steps.{IsAsked, IsBound, Stepper}
use Rattle.run_model.proofs.CallerLemmas.{asked_as_first, comes_first, each-get, fmu_before, situation_reached, values_fit}
use Rattle.slot_calls.specs.declared.bad_answer.BadAnswer.{BadAnswer}
use Rattle.slot_calls.specs.Log.{Sent, part}
use Rattle.slot_calls.specs.Replies.{AreReplies, state_by}
use Rattle.slot_calls.specs.Stage.{FailsIn, StopsAt, has_events, shapes_of}
use Rattle.step_agreement.specs.Agreement.{Agrees, Fails, Stand, shapes_in}
use Rattle.step_agreement.specs.OverMachines.{IgnoreSlots, slot_in, with_slot}
use Rattle.step_agreement.specs.Saving.{is_saved}
use Rattle.step_agreement.proofs.CallerLemmas.{EndWhereAsked, IsAskedIn, IsBadAsk, ToGoBack, ToStep, asked_later, bad_ask, each_here, good_end, kept_asked}
use Rattle.event_iteration.specs.Explains.{ExplainsUntil}
use Rattle.event_iteration.specs.Settings.{before_step, entered_step, port_order}
use Rattle.event_iteration.specs.WalkCalls.{Prefix, has_events_at, step_span}
use Rattle.event_iteration.proofs.ByLog.{AreAll, all_on, asked_before_step, each_call_once, fmu_on}
use Rattle.calling_sequence.specs.Calls.{IsBoundOf, entering_event, entering_step, freeing, saving}
use Rattle.calling_sequence.specs.Parts.{AllAgree}
use Rattle.machine_courses.specs.Outcomes.{IsLost}
use Rattle.machine_courses.proofs.Lost.{lost_at, lost_fails, lost_stops, lost_walk}
use Rattle.machine_courses.proofs.Settings.{IsLike, like_walk, sets_stepping}
use Rattle.machine_courses.proofs.Steps.{after_all, after_step, agreed, agreed_all, all_at_is, departing_all, restores_saved, saved, saved_all, saves, saves_is, shapes_at}

is_more : (a b : ℕ) → nat_lt a b ≡ true → a < b
is_more a b q = grind (arith, nat_tests)

-- an FMU whose state is saved can save it
can_save : (r : Run) → IsSound r.system → (i : ℕ) (c : Component) → slice_get r.system.components i ≡ Some c → is_saved (early_count (shapes_of r.system)) c.shape ≡ true → c.shape.can_save_state ≡ true
can_save r sound i c at means =
    all_at (λ (d : Component). d.shape.can_save_state ≡ true) r.system.components i c (sound.components.saved (is_more 1 (early_count (shapes_of r.system)) means)) at

module _ (r : Run) (sound : IsSound r.system) (machines : AreMachines r) (well : WellBehaved r) (z : Situation) (all : AreAll r z.states) (departed : Departed r z) where
  own : (i : ℕ) → BehavesInStep r z i
  own i = (well i).in_steps z departed

  abbrev stepper_of : ℕ → Component → Machine → MachineState → Stepper
  stepper_of i c m state = record { has_variable_steps = c.shape.has_variable_steps; end = ending z.t c m state }

  -- on the way to an agreement each step ends well that is asked for
  pub ends_where : (b : ℕ) → IsBound r.plan z.timers z.events z.t b → EndWhereAsked (steppers r z) z.t r.plan.step b
  ends_where b bound i e f asked above at =
      let x = each-get stepper_of 0 i r.system.components r.machines (departing r z) f at in
      ends_by x.component x.machine x.state (record { component = x.of_c; machine = x.of_m; state = x.of_s }) (ap (λ (y : Stepper). y.end e) x.is) x.component.shape.might_return_early refl where
        ends_by : (c : Component) (m : Machine) (s : MachineState) → IsFmu r (departing r z) i c m s → f.end e ≡ ending z.t c m s e → (x : Bool) → c.shape.might_return_early ≡ x → (z.t < f.end e) × (f.end e ≤ e)
        ends_by c m s fmu is true might =
            let sent = asked_as_first (steppers r z) z.t r.plan.step (is_asked_first r) b i e asked (comes_first r i c fmu.component (inl might)) in
            let good = ((own i).asks b e bound sent above).0 c m s fmu in
            let end = good_end c.shape z.t (e - z.t) (record { call = step_to z.t e; result = Ok (m.look s (step_to z.t e)) }) good refl in
            let same : f.end e ≡ end_in m s z.t e = is ∙ ap (λ (y : Bool). if y then end_in m s z.t e else e) might in
            let beyond = end.later in
            let most = end.within in
            (omega (arith, same, beyond), omega (arith, same, most, above))
        ends_by c m s fmu is false un =
            let same : f.end e ≡ e = is ∙ ap (λ (y : Bool). if y then end_in m s z.t e else e) un in
            (omega (arith, same, above), omega (arith, same))

  module _ (bad : BadAnswer) (log : List Sent) where
    abbrev count : ℕ
    count = length r.system.components

    -- on the way into Step Mode
    pub lost_leaving : AreReplies r z.states log → StopsAt (shapes_of r.system) (entering_step r.system) bad log → IsLost count log bad.why
    lost_leaving replies stops = lost_stops r z.states all bad log replies has_events (λ (shape : Shape). C.EnterStep) stops (λ i c m y fmu asked. (own i).enters_step c m y fmu asked)

    -- the Set of an input
    pub lost_setting : AreReplies r (entered_step r z) log → (values : List (Option ℤ)) → ExplainsUntil r.system (before_step z.before) z.before (port_order r.system) bad values log → IsLost count log bad.why
    lost_setting replies values u =
        let port = u.stops.port in
        let c = u.stops.component in
        let i = port.component.0 in
        let asked = asked_before_step z.before u.p port c values u.last.exchange.call u.stops.asks in
        let enter : ℕ → Component → Machine → MachineState → MachineState = λ j d n x. if d.shape.has_event_mode then after n x C.EnterStep else x in
        lost_walk r (entered_step r z) (all_on r z.states all enter) bad log replies (before_step z.before) z.before (port_order r.system) values u
        (λ m y fmu.
        let first = fmu_before r z.states enter i c m y fmu in
        let stay : y ≡ first.before = first.is ∙ ap (λ (b : Bool). if b then after m first.before C.EnterStep else first.before) asked.none in
        let like : IsLike first.before (state_by m y (part i u.prefix)) = subst (λ (x : MachineState). IsLike x (state_by m y (part i u.prefix))) stay
        (like_walk (step_span (has_events_at r.system i)) i log u.prefix u.last u.log_is ((each_call_once r.system sound).step z.before z.before log (Prefix bad values log u) i) m y) in
        let fits = subst (AreFitting r.system) (sym (ap (λ (x : Situation). x.before) departed.is)) (values_fit r sound departed.s departed.values (situation_reached sound machines departed.reached).types departed.solves) in
        let fit : IfSome (Some asked.to) (Fits port.kind) = subst (λ o. IfSome o (Fits port.kind)) asked.is (fits u.p port u.stops.is) in
        subst (IsAnsweredWell c.shape m (state_by m y (part i u.prefix))) (sym asked.set)
        ((own i).sets c u.stops.of asked.none c m first.before (state_by m y (part i u.prefix)) (C.Set port.kind port.reference asked.to) first.fmu like.numbers like.values
        (sets_stepping r sound u.p port u.stops.is (ap is_output_role asked.input) (ap is_clock_role asked.input) c u.stops.of asked.to fit asked.none)))

    -- a state that is saved
    pub lost_saving : AreReplies r (departing r z) log → FailsIn (shapes_of r.system) (saving r.system) bad log → IsLost count log bad.why
    lost_saving replies fails =
        lost_fails r (departing r z) (departing_all r z all) bad log replies (is_saved (early_count (shapes_of r.system))) (λ (shape : Shape). C.Save) fails
        (λ i c m y fmu asked. (own i).saves c m y y C.Save fmu refl refl (can_save r sound i c fmu.component asked))

    -- a step on the way to the agreement, or a state that is put back
    pub lost_agreeing : IgnoreSlots r → (b : ℕ) → IsBoundOf r.plan z.timers z.events z.t b → AreReplies r (saved r z) log → AllAgree r.system z.t r.plan.step b log (Fails bad) → IsLost count log bad.why
    lost_agreeing ignore b bound replies agrees =
        subst (λ (l : List Sent). IsLost count l bad.why) (sym x.log_is)
        (lost_at r (saved r z) (saved_all r z all) x.prefix x.last x.back bad.why (subst (AreReplies r (saved r z)) x.log_is replies) x.first.good x.first.why x.within
        (λ c m y fmu.
        let old = fmu_before r (departing r z) (λ i d n s. with_slot (slot_in (saves r i) s) s) x.last.component c m y fmu in
        subst (λ (v : MachineState). IsAnsweredWell c.shape m (state_by m v (part x.last.component x.prefix)) x.last.exchange.call) (sym old.is)
        (answered x.last.component c m old.before old.fmu (state_by m (with_slot (slot_in (saves r x.last.component) old.before) old.before) (part x.last.component x.prefix)) x.last.exchange.call (x.asked c m old.before old.fmu)))) where
          x : IsBadAsk r (departing r z) z.t r.plan.step b (saves r) bad log
          x = bad_ask r (departing r z) z.t r.plan.step b (saves r) bad log ignore bound.bound.later
              (subst (λ (ss : List Stand). Agrees z.t r.plan.step (asked_first (early_count (shapes_of r.system))) b ss log (Fails bad)) (all_at_is r z all) agrees)
              (restores_saved r z all b bound.bound.later log (Fails bad) agrees) replies (ap shapes_in (sym (all_at_is r z all)) ∙ shapes_at z.t (shapes_of r.system))

          answered : (i : ℕ) (c : Component) (m : Machine) (s : MachineState) → IsFmu r (departing r z) i c m s → (state : MachineState) (call : Call) → IsAskedIn r (departing r z) z.t r.plan.step b (saves r) i m s state call → IsAnsweredWell c.shape m state call
          answered i c m s fmu state call (ToStep e asked above state_is call_is) =
              let look = (ignore i m fmu.machine).looks (C.DoStep z.t (e - z.t)) s (slot_in (saves r i) s) refl in
              subst (λ (k : Call). IsAnsweredWell c.shape m state k) (sym call_is)
              (subst (λ (v : MachineState). IsAnsweredWell c.shape m v (C.DoStep z.t (e - z.t))) (sym state_is)
              (subst (λ (reply : Reply). grade_of c.shape (C.DoStep z.t (e - z.t)) reply ≡ G.Good) (sym look) (((own i).asks b e bound.bound asked above).0 c m s fmu)))
          answered i c m s fmu state call (ToGoBack e asked above means state_is call_is) =
              let there = fmu_on r (departing r z) (λ j d n v. after n v (step_to z.t e)) i c m s fmu in
              subst (λ (k : Call). IsAnsweredWell c.shape m state k) (sym call_is)
              (subst (λ (v : MachineState). IsAnsweredWell c.shape m v C.Restore) (sym state_is)
              (((own i).asks b e bound.bound asked above).1 c m (after m s (step_to z.t e)) (with_slot (slot_in (saves r i) s) (after m s (step_to z.t e))) C.Restore there refl refl
              (can_save r sound i c fmu.component (sym (saves_is r i c fmu.component) ∙ means))))

    -- a state that is freed
    pub lost_freeing : (asks : List ℕ) (point : ℕ) → P.IsStep r z asks point → AreReplies r (agreed r z asks) log → FailsIn (shapes_of r.system) (freeing r.system) bad log → IsLost count log bad.why
    lost_freeing asks point made replies fails =
        lost_fails r (agreed r z asks) (agreed_all r z all asks) bad log replies (is_saved (early_count (shapes_of r.system))) (λ (shape : Shape). C.Free) fails
        (λ i c m y fmu asked.
        let old = fmu_before r (departing r z) (λ j d n s. with_slot (slot_in (saves r j) s) (after n s (step_to z.t (kept_at asks j)))) i c m y fmu in
        let place : 0 + i ≡ i = omega arith in
        let at : slice_get (steppers r z) i ≡ Some (stepper_of i c m old.before) =
        each_here stepper_of 0 i r.system.components r.machines (departing r z) c m old.before old.fmu.component old.fmu.machine old.fmu.state ∙ ap (λ (n : ℕ). Some (stepper_of n c m old.before)) place in
        let kept : IsAsked (steppers r z) (λ k. true) z.t r.plan.step made.bound i (kept_at asks i) = kept_asked (steppers r z) z.t r.plan.step made.bound asks point made.agree i (stepper_of i c m old.before) at in
        let above = asked_later (steppers r z) z.t r.plan.step made.bound i (kept_at asks i) kept made.is_bound.later (ends_where made.bound made.is_bound) in
        ((own i).asks made.bound (kept_at asks i) made.is_bound (asked_as_first (steppers r z) z.t r.plan.step (is_asked_first r) made.bound i (kept_at asks i) kept (comes_first r i c fmu.component (inr (is_more 1 (early_count (shapes_of r.system)) asked)))) above).1 c m (after m old.before (step_to z.t (kept_at asks i))) y C.Free
        (fmu_on r (departing r z) (λ j d n v. after n v (step_to z.t (kept_at asks i))) i c m old.before old.fmu) (ap (λ (v : MachineState). v.numbers) old.is) (ap (λ (v : MachineState). length v.values) old.is)
        (can_save r sound i c fmu.component asked))

    -- on the way into Event Mode
    pub lost_entering : (asks : List ℕ) (point : ℕ) → P.IsStep r z asks point → asks_to_end r z asks ≡ false → AreReplies r (after_step r z asks) log → StopsAt (shapes_of r.system) (entering_event r.system) bad log → IsLost count log bad.why
    lost_entering asks point made goes_on replies stops =
        lost_stops r (after_step r z asks) (after_all r z all asks) bad log replies has_events (λ (shape : Shape). C.EnterEvent) stops
        (λ i c m y fmu asked. (own i).enters_event asks point made goes_on c m y fmu asked)
