-- Where a good answer leads.
use Rattle.std.proofs.Common.{◌≡◌, ℕ, Bool, true, false, List, inl, inr, refl, sym, ap, ◌∙◌, subst, length, not, replicate, set, zero, suc}
use Rattle.std.specs.Prelude.{if◌then◌else◌, IfSome, Option, Some, None}
use Rattle.std.specs.List.{list_any}
use Rattle.std.specs.Option.{option_map_or}
use Rattle.std.proofs.lemmas.List.{length-replicate, length-set}
use Rattle.value_types.specs.Shape.{place_of}
use Rattle.value_types.specs.declared.shape.Shape.{Shape}
use Rattle.value_types.specs.declared.shape.Variable.{Variable}
use Rattle.fmi_calls.specs.declared.call.Call.{Call}
use Rattle.fmi_calls.specs.declared.call.Call.TheVariants as C
use Rattle.fmi_calls.specs.declared.call.Reply.{Reply}
use Rattle.fmi_calls.specs.declared.call.Reply.TheVariants as R
use Rattle.fmi_calls.specs.declared.call.Content.TheVariants as A
use Rattle.fmi_calls.specs.declared.call.Kind.{Kind}
use Rattle.fmi_calls.specs.declared.call.Kind.TheVariants as K
use Rattle.fmi_calls.specs.declared.call.BadStatus.{BadStatus}
use Rattle.fmi_calls.specs.declared.call.Grade.TheVariants as G
use Rattle.fmi_calls.specs.declared.phase.Phase.{Phase}
use Rattle.fmi_calls.specs.declared.phase.InstanceState.{InstanceState}
use Rattle.fmi_calls.specs.declared.phase.InstanceState.TheVariants as P
use Rattle.fmi_calls.specs.Next.{counted, entered, is_tick, marked, marks_after_set, running_state, settles, unmarked}
use Rattle.fmi_calls.specs.Permission.{Permitted, can_be_ticked, is_input_clock, is_output_clock, none_marked}
use Rattle.fmi_calls.specs.Worth.{grade_of}
use Rattle.fmu_peer.specs.declared.peer.Exchange.{Exchange}
use Rattle.fmu_peer.specs.View.{View, Fixed}
use Rattle.slot_calls.proofs.CallerLemmas.{Led}
use Rattle.rollback.specs.Standing.{TakesSize}
use Rattle.system_model.proofs.CallerLemmas.{true_false}
use Rattle.run_model.specs.AfterInstant.{asks_again}
use Rattle.event_iteration.specs.Instants.{BeginsInstant, IsRunning}
use Rattle.event_iteration.specs.Settings.{IsUnset}
use Rattle.event_iteration.specs.Updates.{answer_passes}
use Rattle.calling_sequence.specs.Place.{IsAt, IsDeparting, IsInInstant, IsInitializing, IsMade, IsSettled, IsStepping, IsTaking, IsThere, TracksActivity}
use Rattle.calling_sequence.proofs.Chains.{IsGet, IsOfClock, IsQuestion, IsSet}
use Rattle.calling_sequence.proofs.Walks.{IsGetOrSet, IsOfInstant}

-- ---- what is kept of Clocks

pub room_on : (v w : View) → w.fixed ≡ v.fixed → length w.phase.active ≡ length v.phase.active → TracksActivity v → TracksActivity w
room_on v w fixed active h = active ∙ h ∙ ap (λ (f : Fixed). length f.shape.variables) (sym fixed)

length_marked : (shape : Shape) (flags : List Bool) (reference : ℕ) → length (marked shape flags reference) ≡ length flags
length_marked shape flags reference = by_place (place_of shape.variables reference) where
  by_place : (o : Option ℕ) → length (option_map_or (λ place. set flags place true) o flags) ≡ length flags
  by_place None = refl
  by_place (Some place) = length-set flags place true

length_asked : (b : Bool) (shape : Shape) (flags : List Bool) (reference : ℕ) → length (if b then marked shape flags reference else flags) ≡ length flags
length_asked true shape flags reference = length_marked shape flags reference
length_asked false shape flags reference = refl

-- ---- Gets and Sets

-- a good Get leaves all but the count
get_leads : (v w : View) (e : Exchange) → Led v e w → IsGet e → w.phase ≡ counted v.phase e.call
get_leads v w e l (kind, reference, is) = l.phase ∙ ap (λ (c : Call). entered v.fixed.shape (counted v.phase e.call) c l.reply) is

-- and so does a good Set, but for the marks
pub set_leads : (v w : View) (e : Exchange) → Led v e w → (s : IsSet e) → w.phase ≡ record (counted v.phase e.call) { marks = marks_after_set v.phase.state v.fixed.shape v.phase.marks s.1 }
set_leads v w e l (kind, reference, value, is) = l.phase ∙ ap (λ (c : Call). entered v.fixed.shape (counted v.phase e.call) c l.reply) is

-- a good call of a Clock leaves all but the count, the marks and which Clocks are active
clock_leads : (v w : View) (e : Exchange) → Led v e w → IsOfClock e →
    (marks active : List Bool) × (length active ≡ length v.phase.active) × (w.phase ≡ record (counted v.phase e.call) { marks = marks; active = active })
clock_leads v w e l (reference, inl is) = (
  marked v.fixed.shape v.phase.marks reference,
  marked v.fixed.shape v.phase.active reference,
  length_marked v.fixed.shape v.phase.active reference,
  l.phase ∙ ap (λ (c : Call). entered v.fixed.shape (counted v.phase e.call) c l.reply) is,
)
clock_leads v w e l (reference, inr is) = (
  marked v.fixed.shape v.phase.marks reference,
  (if is_tick l.reply then marked v.fixed.shape v.phase.active reference else v.phase.active),
  length_asked (is_tick l.reply) v.fixed.shape v.phase.active reference,
  l.phase ∙ ap (λ (c : Call). entered v.fixed.shape (counted v.phase e.call) c l.reply) is,
)

-- it is permitted in Event Mode alone
ticked_in : (sort : Variable → Bool) (state : InstanceState) (shape : Shape) (marks : List Bool) (reference : ℕ) → can_be_ticked sort state shape marks reference ≡ true → state ≡ P.Event
ticked_in sort P.Event shape marks reference h = refl
ticked_in sort state shape marks reference h = absurd (cc)

clock_in : (v w : View) (e : Exchange) → Led v e w → IsOfClock e → v.phase.state ≡ P.Event
clock_in v w e l (reference, inl is) = ticked_in is_input_clock v.phase.state v.fixed.shape v.phase.marks reference (subst (λ (c : Call). Permitted v.fixed.shape v.phase c) is l.may)
clock_in v w e l (reference, inr is) = ticked_in is_output_clock v.phase.state v.fixed.shape v.phase.marks reference (subst (λ (c : Call). Permitted v.fixed.shape v.phase c) is l.may)

-- a good answer to a question for an interval or a shift leaves all but the count
question_leads : (v w : View) (e : Exchange) → Led v e w → IsQuestion e → w.phase ≡ counted v.phase e.call
question_leads v w e l (reference, inl is) = l.phase ∙ ap (λ (c : Call). entered v.fixed.shape (counted v.phase e.call) c l.reply) is
question_leads v w e l (reference, inr is) = l.phase ∙ ap (λ (c : Call). entered v.fixed.shape (counted v.phase e.call) c l.reply) is

none_of_none : (n : ℕ) → list_any (λ (flag : Bool). flag) (replicate n false) ≡ false
none_of_none zero = refl
none_of_none (suc n) = none_of_none n

pub unmarked_is : (n : ℕ) → none_marked (replicate n false) ≡ true
unmarked_is n = ap not (none_of_none n)

-- ---- Initialization Mode

pub enter_leads : (start stop : ℕ) (v w : View) (e : Exchange) → IsMade v → Led v e w → e.call ≡ C.EnterInitialization start stop → IsInitializing start stop w
enter_leads start stop v w e h l is =
    let phase : w.phase ≡ entered v.fixed.shape (counted v.phase e.call) (C.EnterInitialization start stop) l.reply = l.phase ∙ ap (λ (c : Call). entered v.fixed.shape (counted v.phase e.call) c l.reply) is in
    record {
      state = ap (λ (p : Phase). p.state) phase;
      point = ap (λ (p : Phase). p.point) phase;
      stop_is = ap (λ (p : Phase). p.stop) phase;
      unstepped = ap (λ (p : Phase). p.first_size) phase ∙ h.unstepped;
      clear = record { unset = ap (λ (p : Phase). none_marked p.marks) phase ∙ h.clear.unset; empty = ap (λ (p : Phase). p.slot.is_full) phase ∙ h.clear.empty };
      room = room_on v w l.fixed (ap (λ (p : Phase). length p.active) phase) h.room;
    }

initializing_on : (start stop : ℕ) (v w : View) (call : Call) → w.fixed ≡ v.fixed → w.phase ≡ counted v.phase call → IsInitializing start stop v → IsInitializing start stop w
initializing_on start stop v w call fixed phase h = record {
  state = ap (λ (p : Phase). p.state) phase ∙ h.state;
  point = ap (λ (p : Phase). p.point) phase ∙ h.point;
  stop_is = ap (λ (p : Phase). p.stop) phase ∙ h.stop_is;
  unstepped = ap (λ (p : Phase). p.first_size) phase ∙ h.unstepped;
  clear = record { unset = ap (λ (p : Phase). none_marked p.marks) phase ∙ h.clear.unset; empty = ap (λ (p : Phase). p.slot.is_full) phase ∙ h.clear.empty };
  room = room_on v w fixed (ap (λ (p : Phase). length p.active) phase) h.room;
}

-- in Initialization Mode Sets mark nothing
pub finding_keeps : (start stop : ℕ) (v w : View) (e : Exchange) → IsInitializing start stop v → Led v e w → IsGetOrSet e → IsInitializing start stop w
finding_keeps start stop v w e h l (inl get) = initializing_on start stop v w e.call l.fixed (get_leads v w e l get) h
finding_keeps start stop v w e h l (inr set) =
    initializing_on start stop v w e.call l.fixed
    (set_leads v w e l set ∙ ap (λ (s : InstanceState). record (counted v.phase e.call) { marks = marks_after_set s v.fixed.shape v.phase.marks set.1 }) h.state) h

-- nor does a question
pub timing_keeps : (start stop : ℕ) (v w : View) (e : Exchange) → IsInitializing start stop v → Led v e w → IsQuestion e → IsInitializing start stop w
timing_keeps start stop v w e h l q = initializing_on start stop v w e.call l.fixed (question_leads v w e l q) h

-- ---- at a point

sized_on : (new old : Option ℕ) (step : ℕ) → new ≡ old → {a b : Shape} → b ≡ a → IfSome old (λ n. TakesSize step n a) → IfSome new (λ n. TakesSize step n b)
sized_on new old step is {a} {b} same h = subst (λ (o : Option ℕ). IfSome o (λ n. TakesSize step n b)) (sym is) (subst (λ (x : Shape). IfSome old (λ n. TakesSize step n x)) (sym same) h)

-- what leaves the point, the stop and the first size leaves it there
there_on : (t stop step : ℕ) (v w : View) → w.fixed ≡ v.fixed → w.phase.point ≡ v.phase.point → w.phase.stop ≡ v.phase.stop → w.phase.first_size ≡ v.phase.first_size → w.phase.slot.is_full ≡ false → length w.phase.active ≡ length v.phase.active → IsThere t stop step v → IsThere t stop step w
there_on t stop step v w fixed point stop_is first slot active h = record {
  point = point ∙ h.point;
  stop_is = stop_is ∙ h.stop_is;
  sized = sized_on w.phase.first_size v.phase.first_size step first (ap (λ (f : Fixed). f.shape) fixed) h.sized;
  empty = slot;
  room = room_on v w fixed active h.room;
}

pub exit_leads : (start stop step : ℕ) (v w : View) (e : Exchange) → IsInitializing start stop v → Led v e w → e.call ≡ C.ExitInitialization → IsAt start stop step w
exit_leads start stop step v w e h l is =
    let phase : w.phase ≡ entered v.fixed.shape (counted v.phase e.call) C.ExitInitialization l.reply = l.phase ∙ ap (λ (c : Call). entered v.fixed.shape (counted v.phase e.call) c l.reply) is in
    record {
      in_instant = record {
        there = record {
          point = ap (λ (p : Phase). p.point) phase ∙ h.point;
          stop_is = ap (λ (p : Phase). p.stop) phase ∙ h.stop_is;
          sized = subst (λ (o : Option ℕ). IfSome o (λ n. TakesSize step n w.fixed.shape)) (sym (ap (λ (p : Phase). p.first_size) phase ∙ h.unstepped)) tt;
          empty = ap (λ (p : Phase). p.slot.is_full) phase ∙ h.clear.empty;
          room = room_on v w l.fixed (ap (λ (p : Phase). length p.active) phase) h.room;
        };
        state = ap (λ (p : Phase). p.state) phase ∙ ap (λ (f : Fixed). running_state f.shape) (sym l.fixed);
      };
      unset = ap (λ (p : Phase). none_marked p.marks) phase ∙ h.clear.unset;
    }

-- ---- in an instant

running_on : (v w : View) → w.fixed ≡ v.fixed → w.phase.state ≡ v.phase.state → IsRunning v → IsRunning w
running_on v w fixed state h = state ∙ h ∙ ap (λ (f : Fixed). running_state f.shape) (sym fixed)

instant_on : (t stop step : ℕ) (v w : View) (call : Call) (marks active : List Bool) → length active ≡ length v.phase.active → w.fixed ≡ v.fixed → w.phase ≡ record (counted v.phase call) { marks = marks; active = active } →
    IsInInstant t stop step v → IsInInstant t stop step w
instant_on t stop step v w call marks active same fixed phase h = record {
  there = there_on t stop step v w fixed (ap (λ (p : Phase). p.point) phase) (ap (λ (p : Phase). p.stop) phase) (ap (λ (p : Phase). p.first_size) phase) (ap (λ (p : Phase). p.slot.is_full) phase ∙ h.there.empty) (ap (λ (p : Phase). length p.active) phase ∙ same) h.there;
  state = running_on v w fixed (ap (λ (p : Phase). p.state) phase) h.state;
}

-- only with event mode is there Event Mode
events_by : (b : Bool) → (if b then P.Event else P.Step) ≡ P.Event → b ≡ true
events_by true h = refl
events_by false h = absurd (cc)

-- what an instant sends leaves an instance before its Updates
pub taking_keeps : (t stop step : ℕ) (v w : View) (e : Exchange) → IsTaking t stop step v → Led v e w → IsOfInstant v.fixed.shape e → IsTaking t stop step w
taking_keeps t stop step v w e h l (inl get) =
    let phase = get_leads v w e l get in
    record {
      in_instant = instant_on t stop step v w e.call v.phase.marks v.phase.active refl l.fixed phase h.in_instant;
      unset = λ none. ap (λ (p : Phase). none_marked p.marks) phase ∙ h.unset (ap (λ (f : Fixed). f.shape.has_event_mode) (sym l.fixed) ∙ none);
    }
taking_keeps t stop step v w e h l (inr (inl (set, events))) = record {
  in_instant = instant_on t stop step v w e.call (marks_after_set v.phase.state v.fixed.shape v.phase.marks set.1) v.phase.active refl l.fixed (set_leads v w e l set) h.in_instant;
  unset = λ none. absurd (true_false (sym (ap (λ (f : Fixed). f.shape.has_event_mode) l.fixed ∙ events) ∙ none));
}
taking_keeps t stop step v w e h l (inr (inr clock)) =
    let led = clock_leads v w e l clock in
    let events = events_by v.fixed.shape.has_event_mode (sym h.in_instant.state ∙ clock_in v w e l clock) in
    record {
      in_instant = instant_on t stop step v w e.call led.0 led.1 led.2 l.fixed led.3 h.in_instant;
      unset = λ none. absurd (true_false (sym (ap (λ (f : Fixed). f.shape.has_event_mode) l.fixed ∙ events) ∙ none));
    }

-- a question of an instant leaves all that
pub asking_keeps : (t stop step : ℕ) (v w : View) (e : Exchange) → IsTaking t stop step v → Led v e w → IsQuestion e → IsTaking t stop step w
asking_keeps t stop step v w e h l q =
    let phase = question_leads v w e l q in
    record {
      in_instant = instant_on t stop step v w e.call v.phase.marks v.phase.active refl l.fixed phase h.in_instant;
      unset = λ none. ap (λ (p : Phase). none_marked p.marks) phase ∙ h.unset (ap (λ (f : Fixed). f.shape.has_event_mode) (sym l.fixed) ∙ none);
    }

-- an Update takes the marks away, and leaves no Clock active
update_phase : (v w : View) (e : Exchange) (l : Led v e w) → e.call ≡ C.Update → w.phase ≡ record (counted v.phase e.call) { settled = settles l.reply; marks = unmarked v.fixed.shape; active = unmarked v.fixed.shape }
update_phase v w e l is = l.phase ∙ ap (λ (c : Call). entered v.fixed.shape (counted v.phase e.call) c l.reply) is

pub update_leads : (t stop step : ℕ) (v w : View) (e : Exchange) → IsTaking t stop step v → Led v e w → e.call ≡ C.Update → IsAt t stop step w
update_leads t stop step v w e h l is =
    let phase = update_phase v w e l is in
    record {
      in_instant = record {
        there = there_on t stop step v w l.fixed (ap (λ (p : Phase). p.point) phase) (ap (λ (p : Phase). p.stop) phase) (ap (λ (p : Phase). p.first_size) phase) (ap (λ (p : Phase). p.slot.is_full) phase ∙ h.in_instant.there.empty)
            (ap (λ (p : Phase). length p.active) phase ∙ length-replicate (length v.fixed.shape.variables) false ∙ sym h.in_instant.there.room) h.in_instant.there;
        state = running_on v w l.fixed (ap (λ (p : Phase). p.state) phase) h.in_instant.state;
      };
      unset = ap (λ (p : Phase). none_marked p.marks) phase ∙ unmarked_is (length v.fixed.shape.variables);
    }

pub update_stays : (t stop step : ℕ) (v : View) → IsTaking t stop step v → v.fixed.shape.has_event_mode ≡ false → IsAt t stop step v
update_stays t stop step v h none = record { in_instant = h.in_instant; unset = h.unset none }

-- the answer doesn't ask for another instant
abbrev pub IsLast : Exchange → Type 0
IsLast e = answer_passes asks_again e.result ≡ false

refused_update : (shape : Shape) (kind : Kind) (status : BadStatus) → grade_of shape C.Update (R.Refused kind status) ≡ G.Good → ⊥
refused_update shape K.Update status h = absurd (cc)
refused_update shape kind status h = absurd (cc)

settled_by : (shape : Shape) (reply : Reply) → grade_of shape C.Update reply ≡ G.Good → asks_again reply ≡ false → settles reply ≡ true
settled_by shape (R.Done w (A.Update again terminate event_time)) good last = ap not last
settled_by shape (R.Done w content) good last = absurd (cc)
settled_by shape (R.Refused kind status) good last = absurd (refused_update shape kind status good)

pub update_settles : (t stop step : ℕ) (v w : View) (e : Exchange) → IsTaking t stop step v → Led v e w → e.call ≡ C.Update → IsLast e → IsSettled t stop step w
update_settles t stop step v w e h l is last = record {
  at = update_leads t stop step v w e h l is;
  settled = λ events. ap (λ (p : Phase). p.settled) (update_phase v w e l is)
      ∙ settled_by v.fixed.shape l.reply (subst (λ (c : Call). grade_of v.fixed.shape c l.reply ≡ G.Good) is l.good) (ap (answer_passes asks_again) (sym l.is) ∙ last);
}

pub update_stays_settled : (t stop step : ℕ) (v : View) → IsTaking t stop step v → v.fixed.shape.has_event_mode ≡ false → IsSettled t stop step v
update_stays_settled t stop step v h none = record { at = update_stays t stop step v h none; settled = λ events. absurd (true_false (sym events ∙ none)) }

-- ---- into Step Mode, and the inputs

running_is : (shape : Shape) (b : Bool) → shape.has_event_mode ≡ b → running_state shape ≡ (if b then P.Event else P.Step)
running_is shape b is = ap (λ (c : Bool). if c then P.Event else P.Step) is

pub enter_step_leads : (t stop step : ℕ) (v w : View) (e : Exchange) → IsSettled t stop step v → Led v e w → e.call ≡ C.EnterStep → IsStepping t stop step w
enter_step_leads t stop step v w e h l is =
    let phase : w.phase ≡ record (counted v.phase e.call) { state = P.Step } = l.phase ∙ ap (λ (c : Call). entered v.fixed.shape (counted v.phase e.call) c l.reply) is in
    record {
      departing = record {
        there = there_on t stop step v w l.fixed (ap (λ (p : Phase). p.point) phase) (ap (λ (p : Phase). p.stop) phase) (ap (λ (p : Phase). p.first_size) phase) (ap (λ (p : Phase). p.slot.is_full) phase ∙ h.at.in_instant.there.empty) (ap (λ (p : Phase). length p.active) phase) h.at.in_instant.there;
        state = ap (λ (p : Phase). p.state) phase;
      };
      unset = ap (λ (p : Phase). none_marked p.marks) phase ∙ h.at.unset;
    }

pub enter_step_stays : (t stop step : ℕ) (v : View) → IsSettled t stop step v → v.fixed.shape.has_event_mode ≡ false → IsStepping t stop step v
enter_step_stays t stop step v h none = record {
  departing = record { there = h.at.in_instant.there; state = h.at.in_instant.state ∙ running_is v.fixed.shape false none };
  unset = h.at.unset;
}

pub set_keeps : (t stop step : ℕ) (v w : View) (e : Exchange) → IsDeparting t stop step v → Led v e w → IsSet e → IsDeparting t stop step w
set_keeps t stop step v w e h l set =
    let phase = set_leads v w e l set in
    record {
      there = there_on t stop step v w l.fixed (ap (λ (p : Phase). p.point) phase) (ap (λ (p : Phase). p.stop) phase) (ap (λ (p : Phase). p.first_size) phase) (ap (λ (p : Phase). p.slot.is_full) phase ∙ h.there.empty) (ap (λ (p : Phase). length p.active) phase) h.there;
      state = ap (λ (p : Phase). p.state) phase ∙ h.state;
    }

pub unset_at : (t stop step : ℕ) (v : View) → IsStepping t stop step v → IsUnset v
unset_at t stop step v h = record { state = h.departing.state; unset = h.unset }

-- ---- after a step

pub enter_event_leads : (t stop step : ℕ) (v w : View) (e : Exchange) → IsStepping t stop step v → v.fixed.shape.has_event_mode ≡ true → Led v e w → e.call ≡ C.EnterEvent → IsAt t stop step w
enter_event_leads t stop step v w e h events l is =
    let phase : w.phase ≡ record (counted v.phase e.call) { state = P.Event; settled = false; marks = unmarked v.fixed.shape } = l.phase ∙ ap (λ (c : Call). entered v.fixed.shape (counted v.phase e.call) c l.reply) is in
    record {
      in_instant = record {
        there = there_on t stop step v w l.fixed (ap (λ (p : Phase). p.point) phase) (ap (λ (p : Phase). p.stop) phase) (ap (λ (p : Phase). p.first_size) phase) (ap (λ (p : Phase). p.slot.is_full) phase ∙ h.departing.there.empty) (ap (λ (p : Phase). length p.active) phase) h.departing.there;
        state = ap (λ (p : Phase). p.state) phase ∙ sym (running_is v.fixed.shape true events) ∙ ap (λ (f : Fixed). running_state f.shape) (sym l.fixed);
      };
      unset = ap (λ (p : Phase). none_marked p.marks) phase ∙ unmarked_is (length v.fixed.shape.variables);
    }

pub enter_event_stays : (t stop step : ℕ) (v : View) → IsStepping t stop step v → v.fixed.shape.has_event_mode ≡ false → IsAt t stop step v
enter_event_stays t stop step v h none = record {
  in_instant = record { there = h.departing.there; state = h.departing.state ∙ sym (running_is v.fixed.shape false none) };
  unset = h.unset;
}

-- ---- the beginning of an instant

pub begins_at : (t stop step : ℕ) (v : View) → IsAt t stop step v → BeginsInstant v
begins_at t stop step v h = record { running = h.in_instant.state; unset = h.unset; room = h.in_instant.there.room }

pub taking_at : (t stop step : ℕ) (v : View) → IsAt t stop step v → IsTaking t stop step v
taking_at t stop step v h = record { in_instant = h.in_instant; unset = λ none. h.unset }
