-- Along a run no state is left saved, and each timer is one of its port's timing.
use Rattle.std.proofs.Common.{◌≡◌, ℕ, suc, ℤ, Bool, true, false, List, [], ◌∷◌, refl, sym, ap, ◌∙◌, subst, arith, map, length}
use Rattle.std.specs.Prelude.{Option, Some, None, if◌then◌else◌, slice_get, nat_le, unwrap_or}
use Rattle.std.specs.Option.{option_and_then}
use Rattle.clock_fraction.specs.Counts.{counts_of}
use Rattle.clock_fraction.specs.declared.fraction.Fraction.{Fraction}
use Rattle.fmi_calls.specs.declared.call.Call.TheVariants as C
use Rattle.fmi_calls.specs.declared.call.Interval.{Interval}
use Rattle.fmi_calls.specs.declared.call.Interval.TheVariants.{NotYetKnown, Unchanged, Changed}
use Rattle.fmu_peer.specs.Machine.{MachineState, Machine, after, kept}
use Rattle.system_model.specs.declared.bound.BoundValue.{BoundValue}
use Rattle.system_model.specs.declared.system.Component.{Component}
use Rattle.system_model.specs.declared.system.Role.{Role}
use Rattle.system_model.specs.declared.system.Role.TheVariants.{Input, Output, ClockInput, ClockOutput, TimeClock}
use Rattle.system_model.specs.declared.system.Timing.TheVariants.{Periodic, Answered, Countdown, Changing}
use Rattle.system_model.specs.declared.system.Port.{Port}
use Rattle.system_model.specs.Values.{is_active, value}
use Rattle.run_model.specs.Run.{Run, Situation, Timer, Never, Every, Once, at_fmu, each, each_from}
use Rattle.run_model.specs.Timers.{answered, armed_after, fixed, periodic_of, rearmed}
use Rattle.run_model.specs.Initial as I
use Rattle.run_model.specs.AfterInstant as F
use Rattle.run_model.specs.Stepping as P
use Rattle.run_model.specs.Trace.{LeadsBy}
use Rattle.run_model.specs.Behaved.{Reached, AtFirst, Onward}
use Rattle.run_model.specs.Machines.{AreMachines}
use Rattle.run_model.proofs.CallerLemmas.{ends_or_goes, situation_of}
use Rattle.system_model.proofs.CallerLemmas.{true_false}
use Rattle.run_rest.specs.Parted.{entering_step}
use Rattle.run_rest.specs.Snapshot as S
use Rattle.run_rest.proofs.Twins.{Alike}

-- ---- slots

abbrev pub AreEmpty : List MachineState → Type 0
AreEmpty [] = Unit {0}
AreEmpty (s ∷ ss) = (s.slot ≡ None) × AreEmpty ss

-- a change that leaves the slot
abbrev LeavesSlot : (ℕ → Component → Machine → MachineState → MachineState) → Type 0
LeavesSlot f = (i : ℕ) (c : Component) (m : Machine) (s : MachineState) → s.slot ≡ None → (f i c m s).slot ≡ None

empty_from : (f : ℕ → Component → Machine → MachineState → MachineState) → LeavesSlot f → (k : ℕ) (cs : List Component) (ms : List Machine) (ss : List MachineState) → AreEmpty ss → AreEmpty (each_from f k cs ms ss)
empty_from f leaves k [] ms ss h = tt
empty_from f leaves k (c ∷ cs) [] ss h = tt
empty_from f leaves k (c ∷ cs) (m ∷ ms) [] h = tt
empty_from f leaves k (c ∷ cs) (m ∷ ms) (s ∷ ss) h = (leaves k c m s h.0, empty_from f leaves (suc k) cs ms ss h.1)

pub empty_each : (r : Run) (f : ℕ → Component → Machine → MachineState → MachineState) (ss : List MachineState) → LeavesSlot f → AreEmpty ss → AreEmpty (each r ss f)
empty_each r f ss leaves h = empty_from f leaves 0 r.system.components r.machines ss h

if_empty : (b : Bool) (x y : MachineState) → x.slot ≡ None → y.slot ≡ None → (if b then x else y).slot ≡ None
if_empty true x y a b = a
if_empty false x y a b = b

bound_empty : (m : Machine) (bs : List BoundValue) (s : MachineState) → s.slot ≡ None → (I.with_bound m bs s).slot ≡ None
bound_empty m [] s h = h
bound_empty m (b ∷ bs) s h = bound_empty m bs (after m s (I.set_call b)) h

abbrev FirstEmpty : List Machine → Type 0
FirstEmpty [] = Unit {0}
FirstEmpty (m ∷ ms) = (m.first.slot ≡ None) × FirstEmpty ms

firsts_empty : (ms : List Machine) → FirstEmpty ms → AreEmpty (map (λ (m : Machine). m.first) ms)
firsts_empty [] h = tt
firsts_empty (m ∷ ms) h = (h.0, firsts_empty ms h.1)

all_first : (cs : List Component) (ms : List Machine) → length ms ≡ length cs → ((i : ℕ) (c : Component) (m : Machine) → slice_get cs i ≡ Some c → slice_get ms i ≡ Some m → m.first.slot ≡ None) → FirstEmpty ms
all_first cs [] e h = tt
all_first [] (m ∷ ms) e h = absurd (omega (arith, e))
all_first (c ∷ cs) (m ∷ ms) e h = (h 0 c m refl refl, all_first cs ms (omega (arith, e)) (λ i d n a b. h (suc i) d n a b))

empty_first : (r : Run) → AreMachines r → AreEmpty (I.first_states r)
empty_first r machines = firsts_empty r.machines (all_first r.system.components r.machines machines.count (λ i c m a b. (machines.each i c m a b).0.empty))

empty_beginning : (r : Run) → AreMachines r → (W : List (Option ℤ)) → AreEmpty (I.beginning r W).states
empty_beginning r machines W =
    let one = empty_each r _ (I.first_states r) (λ i c m s h. h) (empty_first r machines) in
    let two = empty_each r _ (I.instantiated r) (λ i c m s h. bound_empty m (I.bound_values r i) s h) one in
    let three = empty_each r _ (I.configured r) (λ i c m s h. h) two in
    let four = empty_each r _ (I.initializing r) (λ i c m s h. h) three in
    empty_each r _ (I.initialized r W) (λ i c m s h. h) four

empty_updated : (r : Run) (s : Situation) (V : List (Option ℤ)) → AreEmpty s.states → AreEmpty (F.updated r s V).states
empty_updated r s V h =
    let one = empty_each r _ s.states (λ i c m x e. if_empty c.shape.has_event_mode _ x e e) h in
    empty_each r _ (F.written r s V) (λ i c m x e. if_empty c.shape.has_event_mode _ x e e) one

empty_stepped : (r : Run) (s : Situation) (kept : List ℕ) (point : ℕ) → AreEmpty s.states → AreEmpty (P.stepped r s kept point).states
empty_stepped r s kept point h =
    let one = empty_each r _ s.states (λ i c m x e. if_empty c.shape.has_event_mode _ _ e e) h in
    empty_each r _ (P.departing r s) (λ i c m x e. if_empty c.shape.has_event_mode _ _ e e) one

pub empty_entering : (r : Run) (z : Situation) → AreEmpty z.states → AreEmpty (entering_step r z)
empty_entering r z h = empty_each r _ z.states (λ i c m x e. if_empty c.shape.has_event_mode _ x e e) h

-- what is kept of them is all
pub put_out_kept : (ss : List MachineState) → AreEmpty ss → map S.put_out (map kept ss) ≡ ss
put_out_kept [] h = refl
put_out_kept (s ∷ ss) h = ap (λ x. x ∷ map S.put_out (map kept ss)) (ap (λ o. record s { slot = o }) (sym h.0)) ∙ ap (λ xs. s ∷ xs) (put_out_kept ss h.1)

-- ---- timers

-- it isn't armed, or has no interval
abbrev pub IsUnarmed : Timer → Type 0
IsUnarmed (Once point) = ⊥
IsUnarmed timer = Unit {0}

abbrev pub IsUnpaced : Timer → Type 0
IsUnpaced (Every interval shift) = ⊥
IsUnpaced timer = Unit {0}

abbrev pub IsTimerOf : Role → Timer → Type 0
IsTimerOf (TimeClock Answered) timer = IsUnarmed timer
IsTimerOf (TimeClock Countdown) timer = IsUnpaced timer
IsTimerOf (TimeClock Changing) timer = IsUnpaced timer
IsTimerOf (TimeClock (Periodic interval shift)) timer = timer ≡ Every interval shift
IsTimerOf (Input feed) timer = timer ≡ Never
IsTimerOf Output timer = timer ≡ Never
IsTimerOf (ClockInput feed) timer = timer ≡ Never
IsTimerOf ClockOutput timer = timer ≡ Never

abbrev pub AreTimersOf : List Port → List Timer → Type 0
AreTimersOf [] [] = Unit {0}
AreTimersOf (port ∷ ports) (timer ∷ timers) = IsTimerOf port.role timer × AreTimersOf ports timers
AreTimersOf [] (timer ∷ timers) = ⊥
AreTimersOf (port ∷ ports) [] = ⊥

-- what an answer makes of a timer
after_unpaced : (point : ℕ) (counts : Option ℕ) → IsUnpaced (armed_after point counts)
after_unpaced point None = tt
after_unpaced point (Some counts) = tt

periodic_unarmed : (interval shift : Option ℕ) → IsUnarmed (periodic_of interval shift)
periodic_unarmed (Some interval) (Some shift) = tt
periodic_unarmed (Some interval) None = tt
periodic_unarmed None shift = tt

fixed_unarmed : (per_second : ℕ) (interval : Interval) (shift : Fraction) → IsUnarmed (fixed per_second interval shift)
fixed_unarmed per_second NotYetKnown shift = tt
fixed_unarmed per_second (Unchanged f) shift = periodic_unarmed (counts_of f per_second) (counts_of shift per_second)
fixed_unarmed per_second (Changed f) shift = periodic_unarmed (counts_of f per_second) (counts_of shift per_second)

rearmed_unpaced : (per_second point : ℕ) (interval : Interval) → IsUnpaced (rearmed per_second point interval)
rearmed_unpaced per_second point NotYetKnown = tt
rearmed_unpaced per_second point (Unchanged f) = after_unpaced point (counts_of f per_second)
rearmed_unpaced per_second point (Changed f) = after_unpaced point (counts_of f per_second)

answered_unpaced : (per_second point : ℕ) (interval : Interval) (old : Timer) → IsUnpaced old → IsUnpaced (answered per_second point interval old)
answered_unpaced per_second point NotYetKnown old h = tt
answered_unpaced per_second point (Unchanged f) old h = h
answered_unpaced per_second point (Changed f) old h = after_unpaced point (counts_of f per_second)

unless_unpaced : (b : Bool) (new old : Timer) → IsUnpaced new → IsUnpaced old → IsUnpaced (if b then new else old)
unless_unpaced true new old a b = a
unless_unpaced false new old a b = b

-- of a Clock whose FMU tells its timer, or is none
told_timer : (P : Timer → Type 0) (r : Run) (states : List MachineState) (i : ℕ) (f : Machine → MachineState → Timer) → P Never → ((m : Machine) (s : MachineState) → P (f m s)) → P (unwrap_or (at_fmu r states i (λ c m s. Some (f m s))) Never)
told_timer P r states i f none some = by (slice_get r.system.components i) (slice_get r.machines i) (slice_get states i) where
  by : (c : Option Component) (m : Option Machine) (s : Option MachineState) → P (unwrap_or (option_and_then (λ c. option_and_then (λ m. option_and_then (λ s. Some (f m s)) s) m) c) Never)
  by None m s = none
  by (Some c) None s = none
  by (Some c) (Some m) None = none
  by (Some c) (Some m) (Some s) = some m s

first_timer_of : (role : Role) (r : Run) (states : List MachineState) (port : Port) → IsTimerOf role (I.first_timer role r states port)
first_timer_of (TimeClock Answered) r states port = told_timer IsUnarmed r states port.component.0 (λ m s. I.asked_timer r port m s) tt (λ m s. fixed_unarmed r.plan.resolution (I.interval_in (m.look s (C.GetInterval port.reference))) (I.shift_in (m.look s (C.GetShift port.reference))))
first_timer_of (TimeClock Countdown) r states port = tt
first_timer_of (TimeClock Changing) r states port = told_timer IsUnpaced r states port.component.0 (λ m s. I.shifted_timer r port m s) tt (λ m s. after_unpaced _ _)
first_timer_of (TimeClock (Periodic interval shift)) r states port = refl
first_timer_of (Input feed) r states port = refl
first_timer_of Output r states port = refl
first_timer_of (ClockInput feed) r states port = refl
first_timer_of ClockOutput r states port = refl

first_timers_of : (r : Run) (states : List MachineState) (ports : List Port) → AreTimersOf ports (map (λ (port : Port). I.first_timer port.role r states port) ports)
first_timers_of r states [] = tt
first_timers_of r states (port ∷ ports) = (first_timer_of port.role r states port, first_timers_of r states ports)

next_timer_of : (role : Role) (r : Run) (s : Situation) (V : List (Option ℤ)) (p : ℕ) (port : Port) (old : Timer) → IsTimerOf role old → IsTimerOf role (F.next_timer role r s V p port old)
next_timer_of (TimeClock Answered) r s V p port old h = h
next_timer_of (TimeClock Countdown) r s V p port old h =
    answered_unpaced r.plan.resolution s.t (F.asked_interval r s V port) (if is_active (value V p) then Never else old) (unless_unpaced (is_active (value V p)) Never old tt h)
next_timer_of (TimeClock Changing) r s V p port old h = unless_unpaced (is_active (value V p)) (rearmed r.plan.resolution s.t (F.asked_interval r s V port)) old (rearmed_unpaced r.plan.resolution s.t (F.asked_interval r s V port)) h
next_timer_of (TimeClock (Periodic interval shift)) r s V p port old h = h
next_timer_of (Input feed) r s V p port old h = h
next_timer_of Output r s V p port old h = h
next_timer_of (ClockInput feed) r s V p port old h = h
next_timer_of ClockOutput r s V p port old h = h

next_timers_of : (r : Run) (s : Situation) (V : List (Option ℤ)) (p : ℕ) (ports : List Port) (olds : List Timer) → AreTimersOf ports olds → AreTimersOf ports (F.next_timers_from r s V p ports olds)
next_timers_of r s V p [] [] h = tt
next_timers_of r s V p (port ∷ ports) (old ∷ olds) h = (next_timer_of port.role r s V p port old h.0, next_timers_of r s V (suc p) ports olds h.1)
next_timers_of r s V p [] (old ∷ olds) h = absurd h
next_timers_of r s V p (port ∷ ports) [] h = absurd h

-- ---- along a run

pub record IsKeepable (r : Run) (s : Situation) : Type 0 where
  pub empty : AreEmpty s.states
  pub timers : AreTimersOf r.system.ports s.timers

pub keeps_updated : (r : Run) (s : Situation) (V : List (Option ℤ)) → IsKeepable r s → IsKeepable r (F.updated r s V)
keeps_updated r s V h = record { empty = empty_updated r s V h.empty; timers = next_timers_of r s V 0 r.system.ports s.timers h.timers }

keeps_departs : {r : Run} {s : Situation} {next : P.Next} → IsKeepable r s → P.Departs r s next → (z : Situation) → next ≡ P.GoesOn z → IsKeepable r z
keeps_departs {r} {s} is (P.AtStop next at a) z e = absurd (true_false (ap ends_or_goes (sym a ∙ e)))
keeps_departs {r} {s} is (P.WhereAsked next k p step asks a) z e = absurd (true_false (ap ends_or_goes (sym a ∙ e)))
keeps_departs {r} {s} is (P.WhereFixed next j f lacks a) z e = absurd (true_false (ap ends_or_goes (sym a ∙ e)))
keeps_departs {r} {s} is (P.ByStep next k p step asks a) z e = subst (IsKeepable r) (ap (λ x. situation_of x z) (sym a ∙ e)) (record { empty = empty_stepped r s k p is.empty; timers = is.timers })

keeps_leads : (f : F.Following) (r : Run) (s : Situation) (V : List (Option ℤ)) (z : Situation) → IsKeepable r (F.updated r s V) → LeadsBy f r s V (P.GoesOn z) → IsKeepable r z
keeps_leads F.OutOfRange r s V z is a = absurd (true_false (sym (ap ends_or_goes a)))
keeps_leads F.Ended r s V z is a = absurd (true_false (sym (ap ends_or_goes a)))
keeps_leads F.AtLimit r s V z is a = absurd (true_false (sym (ap ends_or_goes a)))
keeps_leads F.Again r s V z is a = subst (IsKeepable r) (ap (λ x. situation_of x z) (sym a)) is
keeps_leads F.Done r s V z is a = keeps_departs is a z refl

pub keeps_reached : {r : Run} {s : Situation} → AreMachines r → Reached r s → IsKeepable r s
keeps_reached {r} machines (AtFirst s W solves none_lost is) =
    subst (IsKeepable r) (sym is) (record { empty = empty_beginning r machines W; timers = first_timers_of r (I.initialized r W) r.system.ports })
keeps_reached {r} machines (Onward s V next reached solves leads) =
    keeps_leads (F.following r s V) r s V next (keeps_updated r s V (keeps_reached machines reached)) leads

-- ---- the timers and event times that are kept

up_to_twice : (stop : ℕ) (timer : Timer) → S.up_to stop timer ≡ S.up_to stop (S.up_to stop timer)
up_to_twice stop Never = refl
up_to_twice stop (Every interval shift) = refl
up_to_twice stop (Once point) = (elim (nat_le point stop) as (λ b. nat_le point stop ≡ b → (if b then Once point else Never) ≡ S.up_to stop (if b then Once point else Never)) [
  | true ↦ λ e. sym (ap (λ b. if b then Once point else Never) e)
  | false ↦ λ e. refl
]) refl

kept_alike : (stop : ℕ) (ports : List Port) (timer : Timer) (timers kept : List Timer) (role : Role) → IsTimerOf role timer → Alike (S.up_to stop) timers (S.all_timers ports kept) →
    (S.up_to stop timer ≡ S.up_to stop (S.timer_at role (S.kept_timer role (S.up_to stop timer) kept))) × Alike (S.up_to stop) timers (S.all_timers ports (S.after role (S.kept_timer role (S.up_to stop timer) kept)))
kept_alike stop ports timer timers kept (TimeClock Answered) h more = (up_to_twice stop timer, more)
kept_alike stop ports timer timers kept (TimeClock Countdown) h more = (up_to_twice stop timer, more)
kept_alike stop ports timer timers kept (TimeClock Changing) h more = (up_to_twice stop timer, more)
kept_alike stop ports timer timers kept (TimeClock (Periodic interval shift)) h more = (ap (S.up_to stop) h, more)
kept_alike stop ports timer timers kept (Input feed) h more = (ap (S.up_to stop) h, more)
kept_alike stop ports timer timers kept Output h more = (ap (S.up_to stop) h, more)
kept_alike stop ports timer timers kept (ClockInput feed) h more = (ap (S.up_to stop) h, more)
kept_alike stop ports timer timers kept ClockOutput h more = (ap (S.up_to stop) h, more)

pub timers_kept : (stop : ℕ) (ports : List Port) (timers : List Timer) → AreTimersOf ports timers → Alike (S.up_to stop) timers (S.all_timers ports (S.kept_timers stop ports timers))
timers_kept stop [] [] h = tt
timers_kept stop (port ∷ ports) (timer ∷ timers) h = kept_alike stop ports timer timers (S.kept_timers stop ports timers) port.role h.0 (timers_kept stop ports timers h.1)
timers_kept stop [] (timer ∷ timers) h = absurd h
timers_kept stop (port ∷ ports) [] h = absurd h

time_twice : (stop : ℕ) (o : Option ℕ) → S.time_up_to stop o ≡ S.time_up_to stop (S.time_up_to stop o)
time_twice stop None = refl
time_twice stop (Some time) = (elim (nat_le time stop) as (λ b. nat_le time stop ≡ b → (if b then Some time else None) ≡ S.time_up_to stop (if b then Some time else None)) [
  | true ↦ λ e. sym (ap (λ b. if b then Some time else None) e)
  | false ↦ λ e. refl
]) refl

pub times_kept : (stop : ℕ) (events : List (Option ℕ)) → Alike (S.time_up_to stop) events (map (S.time_up_to stop) events)
times_kept stop [] = tt
times_kept stop (o ∷ events) = (time_twice stop o, times_kept stop events)
