-- The questions for the intervals of Clocks: by what told machines answer, their timers are those of the run.
use Rattle.std.proofs.Common.{Bool, true, false, ◌≡◌, ◌⊎◌, inl, inr, ℕ, suc, ◌+◌, ◌<◌, ℤ, List, [], ◌∷◌, ◌++◌, Option, Some, None, Result, Ok, refl, sym, ap, ap₂, ◌∙◌, subst, arith, length, map}
use Rattle.std.specs.Prelude.{All, if◌then◌else◌, slice_get, unwrap_or}
use Rattle.std.specs.Result.{result_ok}
use Rattle.std.proofs.lemmas.List.Elements.{All-append, All-cons, All-head, All-nil, All-tail}
use Rattle.std.proofs.lemmas.Option.{same_Some, slice_get_within}
use Rattle.clock_fraction.specs.Counts.{counts_of}
use Rattle.fmi_calls.specs.declared.call.Call.{Call}
use Rattle.fmi_calls.specs.declared.call.Call.TheVariants as C
use Rattle.fmi_calls.specs.declared.call.Interval.{Interval}
use Rattle.fmi_calls.specs.declared.call.Interval.TheVariants.{NotYetKnown}
use Rattle.fmi_calls.specs.declared.call.Reply.{Reply}
use Rattle.fmu_peer.specs.declared.peer.PeerFault.{PeerFault}
use Rattle.fmu_peer.specs.Machine.{Machine, MachineState, after}
use Rattle.system_model.specs.declared.system.Component.{Component}
use Rattle.system_model.specs.declared.system.Port.{Port}
use Rattle.system_model.specs.declared.system.Role.{Role}
use Rattle.system_model.specs.declared.system.Role.TheVariants.{TimeClock}
use Rattle.system_model.specs.declared.system.Timing.TheVariants.{Periodic, Answered, Countdown, Changing}
use Rattle.system_model.specs.declared.system.System.{System}
use Rattle.system_model.specs.Sound.{IsSound}
use Rattle.system_model.proofs.CallerLemmas.{all_by_place, place_of}
use Rattle.run_model.specs.AfterInstant.{next_timer, next_timers, next_timers_from, written}
use Rattle.run_model.specs.Initial.{asked_timer, first_timer, first_timers, interval_in, shifted_timer as run_shifted}
use Rattle.run_model.specs.Run.{IsFmu, Run, Situation, Timer, Every, Never, at_fmu}
use Rattle.system_model.specs.Values.{value, is_active}
use Rattle.run_model.specs.Timers.{answered, armed_after, fixed, rearmed}
use Rattle.slot_calls.specs.Log.{ComponentCall, Sent, component_call, component_calls}
use Rattle.slot_calls.specs.Replies.{AreReplies}
use Rattle.slot_calls.specs.Stage.{IsAnswered, shapes_of}
use Rattle.slot_calls.proofs.CallerLemmas.{first_same, rest_same, sent_all}
use Rattle.event_iteration.specs.Explains.{Explains}
use Rattle.event_iteration.specs.Intervals.{Rearms, asks_interval, first_told, first_told_by, first_told_in, interval_by, intervals, log_after, shift_by, timer_after, timers_after_from, timing_calls, timing_calls_in, timing_calls_of}
use Rattle.event_iteration.specs.Settings.{port_order}
use Rattle.event_iteration.specs.Turns.{IsPaired, sent_of}
use Rattle.event_iteration.proofs.Fmus.{at_fmu-is, got}
use Rattle.event_iteration.proofs.Rounds.{components_there}
use Rattle.event_iteration.proofs.Setting.{in_order, port_number}
use Rattle.event_iteration.proofs.Stages.{AreAll, IsRead, IsShown, Reads, fmu_of, reads_shown}
use Rattle.event_iteration.proofs.WalkAnswers.{last_alone_is_bad}
use Rattle.event_iteration.proofs.Walking.{call_at-is, said-is, all_said_by, said_at, said_by, sent_by}

-- a Clock that is asked for its interval after an instant
abbrev pub IsAsked : Role → Option ℤ → Type 0
IsAsked role v = (role ≡ TimeClock Countdown) ⊎ ((role ≡ TimeClock Changing) × (is_active v ≡ true))

-- a question for an interval asks for one of such a Clock
pub asked_interval : (role : Role) (port : Port) (v : Option ℤ) (call : Call) → asks_interval role port v ≡ Some call → IsAsked role v × (call ≡ C.GetInterval port.reference)
asked_interval (TimeClock Countdown) port v call h = (inl refl, sym (same_Some _ _ h))
asked_interval (TimeClock Changing) port v call h = by (is_active v) refl h
  where
    by : (b : Bool) → is_active v ≡ b → (if b then Some (C.GetInterval port.reference) else None) ≡ Some call → IsAsked (TimeClock Changing) v × (call ≡ C.GetInterval port.reference)
    by true active is = (inr (refl, active), sym (same_Some _ _ is))
    by false active is = absurd (cc)
asked_interval role port v call h = absurd (cc)

-- and such a one is asked
pub asks_it : (role : Role) (port : Port) (v : Option ℤ) → IsAsked role v → asks_interval role port v ≡ Some (C.GetInterval port.reference)
asks_it role port v (inl down) = ap (λ (x : Role). asks_interval x port v) down
asks_it role port v (inr both) = ap (λ (x : Role). asks_interval x port v) both.0 ∙ ap (λ b. if b then Some (C.GetInterval port.reference) else None) both.1

pub intervals_read : (system : System) (now before values : List (Option ℤ)) (taken : List ℕ) (log : List Sent) → Explains system (intervals now) before taken values log → All IsRead log
intervals_read system now before values taken log e =
    subst (All IsRead) (sym e.log_is)
    (all_said_by IsRead system (intervals now) values e.replies taken (λ k d w. said_by IsRead system (intervals now) values e.replies _
    (λ port c is of. sent_by IsRead port.component.0 (asks_interval port.role port (value now _)) (e.replies _) (λ call y asks told m z. ap (after m z) (asked_interval port.role port (value now _) call asks).1))))

-- ---- countdown and changing Clocks, after an instant

module _ (r : Run) (sound : IsSound r.system) (s : Situation) (values : List (Option ℤ)) (all : AreAll r (written r s values)) (next : List Timer) (log : List Sent) (rearms : Rearms r.system r.plan.resolution s.t values s.timers next log)
    (replies : AreReplies r (written r s values) log) where
  abbrev ss : List MachineState
  ss = written r s values

  abbrev e : Explains r.system (intervals values) values (port_order r.system) values log
  e = rearms.explains

  shown : All (IsShown r ss) log
  shown = reads_shown r ss log (intervals_read r.system values values values (port_order r.system) log e) ((last_alone_is_bad r.system (intervals values) values (port_order r.system) values log).good e) replies

  abbrev shown_interval : Port → Interval
  shown_interval port = unwrap_or (at_fmu r ss port.component.0 (λ c m z. Some (interval_in (m.look z (C.GetInterval port.reference))))) NotYetKnown

  -- the reply is the machine's
  interval_shown : (p : ℕ) (port : Port) → slice_get r.system.ports p ≡ Some port → IsAsked port.role (value values p) → interval_by (e.replies p) ≡ shown_interval port
  interval_shown p port is asked =
      let within = slice_get_within r.system.ports p port is in
      let placed = place_of r.system sound p port is in
      let c = placed.component in
      let of = placed.is.of in
      let asks : asks_interval port.role port (value values p) ≡ Some (C.GetInterval port.reference) = asks_it port.role port (value values p) asked in
      by (e.replies p) c (subst (λ (k : Option Call). IsPaired c.shape k (e.replies p)) asks (e.paired p port c is of ((in_order r.system).each p within)))
      (subst (All (IsShown r ss)) (said-is r.system (intervals values) values e.replies p port is ∙ ap (λ k. sent_of port.component.0 k (e.replies p)) (call_at-is r.system (intervals values) values p port c of ∙ asks))
      (said_at (IsShown r ss) r.system (intervals values) values e.replies (port_order r.system) p p (port_number r.system p within) (subst (All (IsShown r ss)) e.log_is shown)))
      c of
    where
      by : (o : Option Reply) (c : Component) → IsPaired c.shape (Some (C.GetInterval port.reference)) o → All (IsShown r ss) (sent_of port.component.0 (Some (C.GetInterval port.reference)) o) → (d : Component) → slice_get r.system.components port.component.0 ≡ Some d → interval_by o ≡ shown_interval port
      by None c paired told d of = absurd paired
      by (Some x) c paired told d of =
          let fmu = fmu_of r ss all port.component.0 d of in
          let its : ◌≡◌ {A = Result Reply PeerFault} (Ok x) (Ok (fmu.0.look fmu.1 (C.GetInterval port.reference))) = All-head (IsShown r ss) _ [] told d fmu.0 fmu.1 fmu.2 in
          let own : x ≡ fmu.0.look fmu.1 (C.GetInterval port.reference) = (cc) in
          ap interval_in own ∙ sym (ap (λ (o : Option Interval). unwrap_or o NotYetKnown) (at_fmu-is r ss port.component.0 d fmu.0 fmu.1 (λ b n z. Some (interval_in (n.look z (C.GetInterval port.reference)))) fmu.2))

  -- so the timers after the instant are the run's
  timers_from : (p : ℕ) (ports : List Port) (olds : List Timer) → ((q : ℕ) (port : Port) → slice_get ports q ≡ Some port → slice_get r.system.ports (p + q) ≡ Some port) →
      timers_after_from r.plan.resolution s.t values e.replies p ports olds ≡ next_timers_from r s values p ports olds
  timers_from p [] olds h = refl
  timers_from p (x ∷ ports) [] h = refl
  timers_from p (x ∷ ports) (y ∷ olds) h =
      ap₂ ◌∷◌ (by x.role (λ asked. interval_shown p x (let place : p ≡ p + 0 = omega arith in ap (slice_get r.system.ports) place ∙ h 0 x refl) asked))
      (timers_from (suc p) ports olds (λ q port is. let place : suc p + q ≡ p + suc q = omega arith in ap (slice_get r.system.ports) place ∙ h (suc q) port is))
    where
      by : (role : Role) → (IsAsked role (value values p) → interval_by (e.replies p) ≡ shown_interval x) → timer_after role r.plan.resolution s.t (value values p) (e.replies p) y ≡ next_timer role r s values p x y
      by (TimeClock Countdown) own = ap (λ (i : Interval). answered r.plan.resolution s.t i (if is_active (value values p) then Never else y)) (own (inl refl))
      by (TimeClock Changing) own = anew (is_active (value values p)) (λ active. own (inr (refl, active)))
        where
          anew : (b : Bool) → (b ≡ true → interval_by (e.replies p) ≡ shown_interval x) → (if b then rearmed r.plan.resolution s.t (interval_by (e.replies p)) else y) ≡ (if b then rearmed r.plan.resolution s.t (shown_interval x) else y)
          anew true told = ap (rearmed r.plan.resolution s.t) (told refl)
          anew false told = refl
      by role own = refl

  pub next_timers_are : next ≡ next_timers r s values
  next_timers_are = rearms.timers_are ∙ timers_from 0 r.system.ports s.timers (λ q port is. let place : 0 + q ≡ q = omega arith in ap (slice_get r.system.ports) place ∙ is)

-- ---- fixed and changing Clocks, in Initialization Mode

-- the interval or the shift of a fixed Clock, or the shift of a changing one
abbrev pub IsQuestionOf : Port → Call → Type 0
IsQuestionOf port call =
    ((port.role ≡ TimeClock Answered) × ((call ≡ C.GetInterval port.reference) ⊎ (call ≡ C.GetShift port.reference)))
    ⊎ ((port.role ≡ TimeClock Changing) × (call ≡ C.GetShift port.reference))

-- a question for one of these
pub record IsTimingOf (system : System) (a : ComponentCall) : Type 0 where
  pub p : ℕ
  pub port : Port
  pub is : slice_get system.ports p ≡ Some port
  pub at : a.component ≡ port.component.0
  pub asks : IsQuestionOf port a.call

module _ (system : System) where
  abbrev Both : Port → Type 0
  Both port = All (IsTimingOf system) (timing_calls_of port.role port)

  timing_of : (p : ℕ) (port : Port) → slice_get system.ports p ≡ Some port → (role : Role) → port.role ≡ role → All (IsTimingOf system) (timing_calls_of role port)
  timing_of p port is (TimeClock Answered) same =
      let two : IsTimingOf system (record { component = port.component.0; call = C.GetShift port.reference }) = record { p = p; port = port; is = is; at = refl; asks = inl (same, inr refl) } in
      All-cons (IsTimingOf system) _ (record { component = port.component.0; call = C.GetShift port.reference } ∷ []) (record { p = p; port = port; is = is; at = refl; asks = inl (same, inl refl) }) (All-cons (IsTimingOf system) _ [] two (All-nil (IsTimingOf system)))
  timing_of p port is (TimeClock Changing) same = All-cons (IsTimingOf system) _ [] (record { p = p; port = port; is = is; at = refl; asks = inr (same, refl) }) (All-nil (IsTimingOf system))
  timing_of p port is role same = All-nil (IsTimingOf system)

  timings_in : (ports : List Port) → All Both ports → All (IsTimingOf system) (timing_calls_in ports)
  timings_in [] all = All-nil (IsTimingOf system)
  timings_in (port ∷ ports) all = All-append (IsTimingOf system) (timing_calls_of port.role port) (timing_calls_in ports) (All-head Both port ports all) (timings_in ports (All-tail Both port ports all))

  pub timings_are : All (IsTimingOf system) (timing_calls system)
  timings_are = timings_in system.ports (all_by_place Both system.ports (λ p port is. timing_of p port is port.role refl))

  pub timings_read : (log : List Sent) → All (λ (s : Sent). IsTimingOf system (component_call s)) log → All IsRead log
  timings_read log all = λ k d w. reads (all k d w).port _ (all k d w).asks where
    reads : (port : Port) (call : Call) → IsQuestionOf port call → Reads call
    reads port call (inl (role, inl is)) m z = ap (after m z) is
    reads port call (inl (role, inr is)) m z = ap (after m z) is
    reads port call (inr (role, is)) m z = ap (after m z) is

module _ (r : Run) (ss : List MachineState) (all : AreAll r ss) where
  -- what the log tells of these ports is what the machines show
  abbrev TellsOf : List Port → Type 0
  TellsOf ports = (log : List Sent) → component_calls log ≡ timing_calls_in ports → All (IsShown r ss) log → first_told_in r.plan.resolution r.plan.start ports log ≡ map (λ (port : Port). first_timer port.role r ss port) ports

  module _ (port : Port) (ports : List Port) (there : port.component.0 < length r.system.components) (more : TellsOf ports) where
    abbrev interval : ComponentCall
    interval = record { component = port.component.0; call = C.GetInterval port.reference }

    abbrev shift : ComponentCall
    shift = record { component = port.component.0; call = C.GetShift port.reference }

    abbrev own : (c : Component) × (slice_get r.system.components port.component.0 ≡ Some c)
    own = got r.system.components port.component.0 there

    abbrev fmu : (m : Machine) × (z : MachineState) × IsFmu r ss port.component.0 own.0 m z
    fmu = fmu_of r ss all port.component.0 own.0 own.1

    shown_here : (s : Sent) (a : ComponentCall) → component_call s ≡ a → a.component ≡ port.component.0 → IsShown r ss s → s.exchange.result ≡ Ok (fmu.0.look fmu.1 a.call)
    shown_here s a is at told =
        told own.0 fmu.0 fmu.1 (subst (λ (i : ℕ). IsFmu r ss i own.0 fmu.0 fmu.1) (sym (ap (λ (x : ComponentCall). x.component) is ∙ at)) fmu.2) ∙ ap (λ (x : ComponentCall). Ok (fmu.0.look fmu.1 x.call)) is

    abbrev first_in : List Timer
    first_in = map (λ (x : Port). first_timer x.role r ss x) ports

    answered_here : (a b : Sent) (log : List Sent) → component_calls (a ∷ (b ∷ log)) ≡ interval ∷ (shift ∷ timing_calls_in ports) → All (IsShown r ss) (a ∷ (b ∷ log)) →
        first_told_by (TimeClock Answered) r.plan.resolution r.plan.start (a ∷ (b ∷ log)) ∷ first_told_in r.plan.resolution r.plan.start ports log ≡ first_timer (TimeClock Answered) r ss port ∷ first_in
    answered_here a b log calls shown =
        let beyond = rest_same (component_call a) interval (component_calls (b ∷ log)) (shift ∷ timing_calls_in ports) calls in
        let later = All-tail (IsShown r ss) a (b ∷ log) shown in
        let first = shown_here a interval (first_same (component_call a) interval (component_calls (b ∷ log)) (shift ∷ timing_calls_in ports) calls) refl (All-head (IsShown r ss) a (b ∷ log) shown) in
        let second = shown_here b shift (first_same (component_call b) shift (component_calls log) (timing_calls_in ports) beyond) refl (All-head (IsShown r ss) b log later) in
        ap₂ ◌∷◌
        (ap₂ (λ (x y : Result Reply PeerFault). fixed r.plan.resolution (interval_by (result_ok x)) (shift_by (result_ok y))) first second
        ∙ sym (ap (λ (o : Option Timer). unwrap_or o Never) (at_fmu-is r ss port.component.0 own.0 fmu.0 fmu.1 (λ c m z. Some (asked_timer r port m z)) fmu.2)))
        (more log (rest_same (component_call b) shift (component_calls log) (timing_calls_in ports) beyond) (All-tail (IsShown r ss) b log later))

    shifted_here : (a : Sent) (log : List Sent) → component_calls (a ∷ log) ≡ shift ∷ timing_calls_in ports → All (IsShown r ss) (a ∷ log) →
        first_told_by (TimeClock Changing) r.plan.resolution r.plan.start (a ∷ log) ∷ first_told_in r.plan.resolution r.plan.start ports log ≡ first_timer (TimeClock Changing) r ss port ∷ first_in
    shifted_here a log calls shown =
        let first = shown_here a shift (first_same (component_call a) shift (component_calls log) (timing_calls_in ports) calls) refl (All-head (IsShown r ss) a log shown) in
        ap₂ ◌∷◌
        (ap (λ (x : Result Reply PeerFault). armed_after r.plan.start (counts_of (shift_by (result_ok x)) r.plan.resolution)) first
        ∙ sym (ap (λ (o : Option Timer). unwrap_or o Never) (at_fmu-is r ss port.component.0 own.0 fmu.0 fmu.1 (λ c m z. Some (run_shifted r port m z)) fmu.2)))
        (more log (rest_same (component_call a) shift (component_calls log) (timing_calls_in ports) calls) (All-tail (IsShown r ss) a log shown))

    first_here : (role : Role) (log : List Sent) → component_calls log ≡ timing_calls_of role port ++ timing_calls_in ports → All (IsShown r ss) log →
        first_told_by role r.plan.resolution r.plan.start log ∷ first_told_in r.plan.resolution r.plan.start ports (log_after role log) ≡ first_timer role r ss port ∷ first_in
    first_here (TimeClock Answered) [] calls shown = absurd (cc)
    first_here (TimeClock Answered) (a ∷ []) calls shown = absurd (let rest = rest_same (component_call a) interval [] (shift ∷ timing_calls_in ports) calls in cc)
    first_here (TimeClock Answered) (a ∷ (b ∷ log)) calls shown = answered_here a b log calls shown
    first_here (TimeClock Changing) [] calls shown = absurd (cc)
    first_here (TimeClock Changing) (a ∷ log) calls shown = shifted_here a log calls shown
    first_here (TimeClock (Periodic interval shift)) log calls shown = ap (λ xs. Every interval shift ∷ xs) (more log calls shown)
    first_here role log calls shown = ap (λ xs. Never ∷ xs) (more log calls shown)

  abbrev IsThere : Port → Type 0
  IsThere port = port.component.0 < length r.system.components

  first_from : (ports : List Port) → All IsThere ports → TellsOf ports
  first_from [] there log calls told = refl
  first_from (port ∷ ports) there log calls told = first_here port ports (All-head IsThere port ports there) (first_from ports (All-tail IsThere port ports there)) port.role log calls told

  module _ (log : List Sent) (answered : IsAnswered (shapes_of r.system) (timing_calls r.system) log) where
    pub fixed_read : All IsRead log
    fixed_read = timings_read r.system log (sent_all (IsTimingOf r.system) log (timing_calls r.system) answered.calls_are (timings_are r.system))

    -- the timers that the answers tell are those of the run
    pub first_timers_are : IsSound r.system → AreReplies r ss log → first_told r.plan.resolution r.plan.start r.system log ≡ first_timers r ss
    first_timers_are sound replies = first_from r.system.ports (components_there r.system sound) log answered.calls_are (reads_shown r ss log fixed_read answered.good replies)
