-- Two runs that differ in armings and event times past the stop alone go on alike.
use Rattle.std.proofs.Common.{◌≡◌, ℕ, zero, suc, ℤ, Bool, true, false, ◌<◌, ◌≤◌, List, [], ◌∷◌, ◌⊎◌, inl, inr, refl, sym, ap, ◌∙◌, subst, arith}
use Rattle.std.specs.Prelude.{Option, Some, None, if◌then◌else◌, ◌==◌, ◌||◌, nat_le}
use Rattle.std.specs.List.{list_any}
use Rattle.std.proofs.lemmas.Bool.{cases_lt, le-leb, leb-false, ne_eqb}
use Rattle.std.proofs.lemmas.Option.{none-some as none_some}
use Rattle.fmi_calls.specs.declared.call.Interval.{Interval}
use Rattle.fmi_calls.specs.declared.call.Interval.TheVariants.{NotYetKnown, Unchanged, Changed}
use Rattle.fmu_peer.specs.Machine.{MachineState}
use Rattle.system_model.specs.declared.plan.EndKind.{EndKind}
use Rattle.system_model.specs.declared.system.Role.{Role}
use Rattle.system_model.specs.declared.system.Role.TheVariants.{Input, Output, ClockInput, ClockOutput, TimeClock}
use Rattle.system_model.specs.declared.system.Timing.TheVariants.{Periodic, Answered, Countdown, Changing}
use Rattle.system_model.specs.declared.system.Port.{Port}
use Rattle.system_model.specs.Text.{Instant}
use Rattle.system_model.specs.Values.{value, is_active}
use Rattle.run_model.specs.Run.{Run, Situation, Timer, Never, Every, Once}
use Rattle.run_model.specs.Timers.{TicksAt, IsDue, is_armed_for, answered, rearmed}
use Rattle.run_model.specs.Equations.{Solves, SolvesAt, IsTickValue, is_bad, timer_of}
use Rattle.run_model.specs.AfterInstant.{asked_interval, Following, OutOfRange, Ended, AtLimit, Again, Done, any_update, asks_for_end, asks_again, following, next_timer, next_timers, next_timers_from, updated}
use Rattle.run_model.specs.Steps.{IsBound, IsMark, OnGrid, AtTick, AtEvent, OnStop}
use Rattle.run_model.specs.Stepping.{Next, Ends, EndsBefore, GoesOn, Departs, departing}
use Rattle.run_model.specs.Trace.{Leads, LeadsBy, Continues, Last, Further, Unwritten}
use Rattle.run_model.specs.Behaved.{Reached, Onward}
use Rattle.run_rest.specs.Parted.{DepartsFrom, AtStop, WhereAsked, WhereFixed, ByStep, IsStepFrom}
use Rattle.run_rest.specs.Snapshot.{up_to, time_up_to}
use Rattle.run_rest.specs.Laws.{StepsWithin}
use Rattle.run_rest.proofs.Twins.{Alike, alike_refl, alike_sym, beside}
use Rattle.run_rest.proofs.Parting.{closed, opened}
use Rattle.run_rest.proofs.Climbing.{stays_within}

-- ---- one timer

-- what holds of an arming at t alone, and of no timer that is never due, holds of a timer where it does of what counts of it
kept_on : (F : Timer → Type 0) (stop t : ℕ) → ((point : ℕ) → F (Once point) → t ≡ point) → t ≤ stop → (a : Timer) → F a → F (up_to stop a)
kept_on F stop t only within Never h = h
kept_on F stop t only within (Every interval shift) h = h
kept_on F stop t only within (Once point) h =
    let here : t ≡ point = only point h in
    subst (λ b. F (if b then Once point else Never)) (sym (le-leb point stop (omega (arith, here, within)))) h

kept_off : (F : Timer → Type 0) (stop : ℕ) → (F Never → ⊥) → (a : Timer) → F (up_to stop a) → F a
kept_off F stop none Never h = h
kept_off F stop none (Every interval shift) h = h
kept_off F stop none (Once point) h = (elim (nat_le point stop) as (λ b. F (if b then Once point else Never) → F (Once point)) [
  | true ↦ λ f. f
  | false ↦ λ f. absurd (none f)
]) h

across : (F : Timer → Type 0) (stop t : ℕ) → ((point : ℕ) → F (Once point) → t ≡ point) → (F Never → ⊥) → t ≤ stop → (a b : Timer) → up_to stop a ≡ up_to stop b → F a → F b
across F stop t only none within a b same h = kept_off F stop none b (subst F same (kept_on F stop t only within a h))

pub due_across : (start stop t n : ℕ) (a b : Timer) → t ≤ stop → up_to stop a ≡ up_to stop b → IsDue start a t n → IsDue start b t n
due_across start stop t n a b within same h = across (λ x. IsDue start x t n) stop t (λ point e. e) (λ e. e) within a b same h

ticks_across : (start stop t : ℕ) (a b : Timer) → t ≤ stop → up_to stop a ≡ up_to stop b → TicksAt start a t → TicksAt start b t
ticks_across start stop t a b within same h = across (λ x. TicksAt start x t) stop t (λ point e. e) (λ e. e) within a b same h

armed_kept : (stop t : ℕ) (a : Timer) → t ≤ stop → is_armed_for t a ≡ is_armed_for t (up_to stop a)
armed_kept stop t Never within = refl
armed_kept stop t (Every interval shift) within = refl
armed_kept stop t (Once point) within = (elim (nat_le point stop) as (λ b. nat_le point stop ≡ b → (point == t) ≡ is_armed_for t (if b then Once point else Never)) [
  | true ↦ λ e. refl
  | false ↦ λ e.
      let past : stop < point = leb-false point stop e in
      ne_eqb point t (λ same. omega (arith, same, past, within))
]) refl

armed_across : (stop t : ℕ) (a b : Timer) → t ≤ stop → up_to stop a ≡ up_to stop b → is_armed_for t a ≡ is_armed_for t b
armed_across stop t a b within same = armed_kept stop t a within ∙ ap (is_armed_for t) same ∙ sym (armed_kept stop t b within)

pub rearmed_across : (stop : ℕ) (c : Bool) (new a b : Timer) → up_to stop a ≡ up_to stop b → up_to stop (if c then new else a) ≡ up_to stop (if c then new else b)
rearmed_across stop true new a b same = refl
rearmed_across stop false new a b same = same

pub answered_across : (stop per_second t : ℕ) (interval : Interval) (a b : Timer) → up_to stop a ≡ up_to stop b → up_to stop (answered per_second t interval a) ≡ up_to stop (answered per_second t interval b)
answered_across stop per_second t NotYetKnown a b same = refl
answered_across stop per_second t (Unchanged f) a b same = same
answered_across stop per_second t (Changed f) a b same = refl

-- ---- one event time

time_off : (stop t : ℕ) (o : Option ℕ) → time_up_to stop o ≡ Some t → o ≡ Some t
time_off stop t None e = e
time_off stop t (Some time) e = (elim (nat_le time stop) as (λ b. (if b then Some time else None) ≡ Some t → Some time ≡ Some t) [
  | true ↦ λ h. h
  | false ↦ λ h. absurd (none_some _ h)
]) e

time_across : (stop t : ℕ) (o : Option ℕ) → t ≤ stop → time_up_to stop (Some t) ≡ time_up_to stop o → o ≡ Some t
time_across stop t o within same = time_off stop t o (sym same ∙ ap (λ b. if b then Some t else None) (le-leb t stop within))

-- ---- all timers

pub any_across : (stop t : ℕ) (xs ys : List Timer) → t ≤ stop → Alike (up_to stop) xs ys → list_any (is_armed_for t) xs ≡ list_any (is_armed_for t) ys
any_across stop t [] [] within alike = refl
any_across stop t (a ∷ xs) (b ∷ ys) within alike =
    ap (λ c. c || list_any (is_armed_for t) xs) (armed_across stop t a b within alike.0) ∙ ap (λ c. is_armed_for t b || c) (any_across stop t xs ys within alike.1)
any_across stop t [] (b ∷ ys) within alike = absurd alike
any_across stop t (a ∷ xs) [] within alike = absurd alike

pub timer_across : (stop : ℕ) (xs ys : List Timer) (p : ℕ) → Alike (up_to stop) xs ys → up_to stop (timer_of xs p) ≡ up_to stop (timer_of ys p)
timer_across stop [] [] p alike = refl
timer_across stop (a ∷ xs) (b ∷ ys) zero alike = alike.0
timer_across stop (a ∷ xs) (b ∷ ys) (suc p) alike = timer_across stop xs ys p alike.1
timer_across stop [] (b ∷ ys) p alike = absurd alike
timer_across stop (a ∷ xs) [] p alike = absurd alike

-- ---- the bound of a step

mark_across : (r : Run) (xs ys : List Timer) (ds es : List (Option ℕ)) (point : ℕ) → point ≤ r.plan.stop → Alike (up_to r.plan.stop) xs ys → Alike (time_up_to r.plan.stop) ds es → IsMark r.plan xs ds point → IsMark r.plan ys es point
mark_across r xs ys ds es point within alike times (OnGrid g) = OnGrid g
mark_across r xs ys ds es point within alike times (AtTick h) =
    let at = beside (up_to r.plan.stop) xs ys h.0 h.1 alike h.2 in
    AtTick (h.0, at.other, at.is, ticks_across r.plan.start r.plan.stop point h.1 at.other within at.alike h.3)
mark_across r xs ys ds es point within alike times (AtEvent h) =
    let at = beside (time_up_to r.plan.stop) ds es h.0 (Some point) times h.1 in
    AtEvent (h.0, at.is ∙ ap Some (time_across r.plan.stop point at.other within at.alike))
mark_across r xs ys ds es point within alike times (OnStop e) = OnStop e

pub bound_across : (r : Run) (xs ys : List Timer) (ds es : List (Option ℕ)) (t bound : ℕ) → t < r.plan.stop → Alike (up_to r.plan.stop) xs ys → Alike (time_up_to r.plan.stop) ds es → IsBound r.plan xs ds t bound → IsBound r.plan ys es t bound
bound_across r xs ys ds es t bound early alike times is =
    let top : bound ≤ r.plan.stop = is.least r.plan.stop early (OnStop refl) in
    record {
      later = is.later;
      mark = mark_across r xs ys ds es bound top alike times is.mark;
      least = λ point later mark. (elim (cases_lt r.plan.stop point) as (λ c. bound ≤ point) [
        | inl past ↦ omega (arith, past, top)
        | inr within ↦ is.least point later (mark_across r ys xs es ds point within (alike_sym (up_to r.plan.stop) xs ys alike) (alike_sym (time_up_to r.plan.stop) ds es times) mark)
      ]);
    }

-- ---- instants

abbrev pub with_timers : Situation → List Timer → List (Option ℕ) → Situation
with_timers s ts es = record s { timers = ts; events = es }

tick_across : (r : Run) (s : Situation) (ts : List Timer) (p : ℕ) (v : Option ℤ) → s.t ≤ r.plan.stop → Alike (up_to r.plan.stop) s.timers ts → IsTickValue (IsDue r.plan.start (timer_of s.timers p) s.t s.n) v → IsTickValue (IsDue r.plan.start (timer_of ts p) s.t s.n) v
tick_across r s ts p v within alike (inl h) = inl (due_across r.plan.start r.plan.stop s.t s.n _ _ within (timer_across r.plan.stop s.timers ts p alike) h.0, h.1)
tick_across r s ts p v within alike (inr h) = inr ((λ due. h.0 (due_across r.plan.start r.plan.stop s.t s.n _ _ within (sym (timer_across r.plan.stop s.timers ts p alike)) due)), h.1)

solves_at : (r : Run) (s : Situation) (ts : List Timer) (es : List (Option ℕ)) (V : List (Option ℤ)) (p : ℕ) (port : Port) (role : Role) (last v : Option ℤ) → s.t ≤ r.plan.stop → Alike (up_to r.plan.stop) s.timers ts → SolvesAt role r s V p port last v → SolvesAt role r (with_timers s ts es) V p port last v
solves_at r s ts es V p port (Input None) last v within alike h = h
solves_at r s ts es V p port (Input (Some feed)) last v within alike h = h
solves_at r s ts es V p port Output last v within alike h = h
solves_at r s ts es V p port (ClockInput None) last v within alike h = h
solves_at r s ts es V p port (ClockInput (Some feed)) last v within alike h = h
solves_at r s ts es V p port ClockOutput last v within alike h = h
solves_at r s ts es V p port (TimeClock timing) last v within alike h = tick_across r s ts p v within alike h

solves_across : (r : Run) (s : Situation) (ts : List Timer) (es : List (Option ℕ)) (V : List (Option ℤ)) → s.t ≤ r.plan.stop → Alike (up_to r.plan.stop) s.timers ts → Solves r s V → Solves r (with_timers s ts es) V
solves_across r s ts es V within alike solves = record {
  places = solves.places;
  equations = λ p port is. solves_at r s ts es V p port port.role (value s.before p) (value V p) within alike (solves.equations p port is);
}

next_timer_across : (r : Run) (s : Situation) (ts : List Timer) (es : List (Option ℕ)) (V : List (Option ℤ)) (p : ℕ) (port : Port) (role : Role) (a b : Timer) → up_to r.plan.stop a ≡ up_to r.plan.stop b → up_to r.plan.stop (next_timer role r s V p port a) ≡ up_to r.plan.stop (next_timer role r (with_timers s ts es) V p port b)
next_timer_across r s ts es V p port (Input feed) a b same = same
next_timer_across r s ts es V p port Output a b same = same
next_timer_across r s ts es V p port (ClockInput feed) a b same = same
next_timer_across r s ts es V p port ClockOutput a b same = same
next_timer_across r s ts es V p port (TimeClock (Periodic interval shift)) a b same = same
next_timer_across r s ts es V p port (TimeClock Answered) a b same = same
next_timer_across r s ts es V p port (TimeClock Changing) a b same = rearmed_across r.plan.stop (is_active (value V p)) (rearmed r.plan.resolution s.t (asked_interval r s V port)) a b same
next_timer_across r s ts es V p port (TimeClock Countdown) a b same =
    answered_across r.plan.stop r.plan.resolution s.t (asked_interval r s V port) (if is_active (value V p) then Never else a) (if is_active (value V p) then Never else b) (rearmed_across r.plan.stop (is_active (value V p)) Never a b same)

next_from_across : (r : Run) (s : Situation) (ts : List Timer) (es : List (Option ℕ)) (V : List (Option ℤ)) (p : ℕ) (ports : List Port) (xs ys : List Timer) → Alike (up_to r.plan.stop) xs ys → Alike (up_to r.plan.stop) (next_timers_from r s V p ports xs) (next_timers_from r (with_timers s ts es) V p ports ys)
next_from_across r s ts es V p [] xs ys alike = tt
next_from_across r s ts es V p (port ∷ ports) [] [] alike = tt
next_from_across r s ts es V p (port ∷ ports) (a ∷ xs) (b ∷ ys) alike =
    (next_timer_across r s ts es V p port port.role a b alike.0, next_from_across r s ts es V (suc p) ports xs ys alike.1)
next_from_across r s ts es V p (port ∷ ports) [] (b ∷ ys) alike = absurd alike
next_from_across r s ts es V p (port ∷ ports) (a ∷ xs) [] alike = absurd alike

next_across : (r : Run) (s : Situation) (ts : List Timer) (es : List (Option ℕ)) (V : List (Option ℤ)) → Alike (up_to r.plan.stop) s.timers ts → Alike (up_to r.plan.stop) (next_timers r s V) (next_timers r (with_timers s ts es) V)
next_across r s ts es V alike = next_from_across r s ts es V 0 r.system.ports s.timers ts alike

following_across : (r : Run) (s : Situation) (ts : List Timer) (es : List (Option ℕ)) (V : List (Option ℤ)) → s.t ≤ r.plan.stop → Alike (up_to r.plan.stop) s.timers ts → following r s V ≡ following r (with_timers s ts es) V
following_across r s ts es V within alike =
    let any : list_any (is_armed_for s.t) (next_timers r s V) ≡ list_any (is_armed_for s.t) (next_timers r (with_timers s ts es) V) = any_across r.plan.stop s.t (next_timers r s V) (next_timers r (with_timers s ts es) V) within (next_across r s ts es V alike) in
    ap (λ c. if list_any (is_bad V) r.system.ports then OutOfRange else (if any_update asks_for_end r s V then Ended else (if any_update asks_again r s V || c then (if suc s.n == r.plan.limit then AtLimit else Again) else Done))) any

-- ---- what follows

-- with such timers and event times
abbrev pub with_next : Next → List Timer → List (Option ℕ) → Next
with_next (Ends kind point) ts es = Ends kind point
with_next (EndsBefore kind point) ts es = EndsBefore kind point
with_next (GoesOn s) ts es = GoesOn (with_timers s ts es)

abbrev pub timers_in : Next → List Timer
timers_in (Ends kind point) = []
timers_in (EndsBefore kind point) = []
timers_in (GoesOn s) = s.timers

pub record AlikeNext (r : Run) (next : Next) (To : Next → Type 0) : Type 0 where
  pub timers : List Timer
  pub events : List (Option ℕ)
  pub alike : Alike (up_to r.plan.stop) (timers_in next) timers
  pub leads : To (with_next next timers events)

here_too : {r : Run} {To : Next → Type 0} (x next : Next) → next ≡ x → AlikeNext r x To → AlikeNext r next To
here_too {r} {To} x next e h = subst (λ u. AlikeNext r u To) (sym e) h

ends_there : {r : Run} {To : Next → Type 0} (kind : EndKind) (point : ℕ) → To (Ends kind point) → AlikeNext r (Ends kind point) To
ends_there kind point h = record { timers = []; events = []; alike = tt; leads = h }

step_across : {r : Run} {s : Situation} {states : List MachineState} {kept : List ℕ} {point : ℕ} (ts : List Timer) (es : List (Option ℕ)) → Alike (up_to r.plan.stop) s.timers ts → Alike (time_up_to r.plan.stop) s.events es → IsStepFrom r s states kept point → IsStepFrom r (with_timers s ts es) states kept point
step_across {r} {s} ts es alike times step = record { before_stop = step.before_stop; bound = step.bound; is_bound = bound_across r s.timers ts s.events es s.t step.bound step.before_stop alike times step.is_bound; agree = step.agree }

pub departs_across : {r : Run} {s : Situation} {states : List MachineState} {next : Next} (ts : List Timer) (es : List (Option ℕ)) →
    Alike (up_to r.plan.stop) s.timers ts → Alike (time_up_to r.plan.stop) s.events es → DepartsFrom r s states next → AlikeNext r next (DepartsFrom r (with_timers s ts es) states)
departs_across {r} {s} {states} ts es alike times (AtStop next at e) = here_too _ next e (ends_there _ _ (AtStop _ at refl))
departs_across {r} {s} {states} ts es alike times (WhereAsked next k p step asks e) = here_too _ next e (ends_there _ _ (WhereAsked _ k p (step_across ts es alike times step) asks refl))
departs_across {r} {s} {states} ts es alike times (WhereFixed next i e lacks x) = here_too _ next x (ends_there _ _
    (WhereFixed _ i e (record { before_stop = lacks.before_stop; bound = lacks.bound; is_bound = bound_across r s.timers ts s.events es s.t lacks.bound lacks.before_stop alike times lacks.is_bound; stops = lacks.stops }) refl))
departs_across {r} {s} {states} ts es alike times (ByStep next k p step asks e) = here_too _ next e (record { timers = ts; events = es; alike = alike; leads = ByStep _ k p (step_across ts es alike times step) asks refl })

-- a whole step
step_too : (r : Run) (s : Situation) (next : Next) (ts : List Timer) (es : List (Option ℕ)) →
    Alike (up_to r.plan.stop) s.timers ts → Alike (time_up_to r.plan.stop) s.events es → Departs r s next → AlikeNext r next (Departs r (with_timers s ts es))
step_too r s next ts es alike times d =
    let there = departs_across {r = r} {s = s} {states = departing r s} ts es alike times (opened d) in
    record { timers = there.timers; events = there.events; alike = there.alike; leads = closed there.leads }

leads_by_across : (f : Following) (r : Run) (s : Situation) (ts : List Timer) (es : List (Option ℕ)) (V : List (Option ℤ)) (next : Next) → Alike (up_to r.plan.stop) s.timers ts → LeadsBy f r s V next → AlikeNext r next (LeadsBy f r (with_timers s ts es) V)
leads_by_across OutOfRange r s ts es V next alike e = here_too _ next e (record { timers = []; events = []; alike = tt; leads = refl })
leads_by_across Ended r s ts es V next alike e = here_too _ next e (ends_there _ _ refl)
leads_by_across AtLimit r s ts es V next alike e = here_too _ next e (ends_there _ _ refl)
leads_by_across Again r s ts es V next alike e = here_too _ next e (record { timers = next_timers r (with_timers s ts es) V; events = (updated r s V).events; alike = next_across r s ts es V alike; leads = refl })
leads_by_across Done r s ts es V next alike d = step_too r (updated r s V) next (next_timers r (with_timers s ts es) V) (updated r s V).events (next_across r s ts es V alike) (alike_refl (time_up_to r.plan.stop) (updated r s V).events) d

leads_across : (r : Run) (s : Situation) (ts : List Timer) (es : List (Option ℕ)) (V : List (Option ℤ)) (next : Next) → s.t ≤ r.plan.stop → Alike (up_to r.plan.stop) s.timers ts → Leads r s V next → AlikeNext r next (Leads r (with_timers s ts es) V)
leads_across r s ts es V next within alike leads =
    subst (λ f. AlikeNext r next (LeadsBy f r (with_timers s ts es) V)) (following_across r s ts es V within alike) (leads_by_across (following r s V) r s ts es V next alike leads)

-- ---- the instants that follow

-- one of the two is a situation that the run comes to
abbrev pub EitherReached : Run → Situation → Situation → Type 0
EitherReached r s x = Reached r s ⊎ Reached r x

-- after an instant one of the two is so too, and no later than the stop
on_too : {r : Run} {s : Situation} {V : List (Option ℤ)} (next : Situation) (ts us : List Timer) (es fs : List (Option ℕ)) → StepsWithin r → EitherReached r s (with_timers s ts es) → s.t ≤ r.plan.stop →
    Solves r s V → Solves r (with_timers s ts es) V → Leads r s V (GoesOn next) → Leads r (with_timers s ts es) V (GoesOn (with_timers next us fs)) →
    EitherReached r next (with_timers next us fs) × (next.t ≤ r.plan.stop)
on_too {r} {s} {V} next ts us es fs steps (inl reached) within solves other leads there =
    (inl (Onward s V next reached solves leads), stays_within next steps reached solves within leads)
on_too {r} {s} {V} next ts us es fs steps (inr reached) within solves other leads there =
    (inr (Onward (with_timers s ts es) V (with_timers next us fs) reached other there), stays_within (with_timers next us fs) steps reached other within there)

-- from a situation on the instants and the end are the same
pub continues_across : {r : Run} {s : Situation} {is : List Instant} {k : EndKind} {p : ℕ} (ts : List Timer) (es : List (Option ℕ)) → StepsWithin r → EitherReached r s (with_timers s ts es) → s.t ≤ r.plan.stop → Alike (up_to r.plan.stop) s.timers ts → Continues r s is k p → Continues r (with_timers s ts es) is k p
continues_across {r} ts es steps reached within alike (Last s V is k p solves leads i) =
    let there = leads_across r s ts es V (Ends k p) within alike leads in
    Last (with_timers s ts es) V is k p (solves_across r s ts es V within alike solves) there.leads i
continues_across {r} ts es steps reached within alike (Unwritten s V is k p solves leads i) =
    let there = leads_across r s ts es V (EndsBefore k p) within alike leads in
    Unwritten (with_timers s ts es) V is k p (solves_across r s ts es V within alike solves) there.leads i
continues_across {r} ts es steps reached within alike (Further s V is k p next rest solves leads i more) =
    let there = leads_across r s ts es V (GoesOn next) within alike leads in
    let other = solves_across r s ts es V within alike solves in
    let on = on_too next ts there.timers es there.events steps reached within solves other leads there.leads in
    Further (with_timers s ts es) V is k p (with_timers next there.timers there.events) rest other there.leads i
    (continues_across there.timers there.events steps on.0 on.1 there.alike more)
