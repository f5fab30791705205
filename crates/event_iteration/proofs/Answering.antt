-- What a sound system's Clocks may be asked for, and what a good answer tells.
use Rattle.std.proofs.Common.{◌≡◌, ◌⊎◌, inl, inr, ℕ, ℤ, Bool, true, false, List, [], ◌∷◌, Option, Some, None, Result, Ok, Err, refl, sym, ap, ap₂, ◌∙◌, subst, get_or}
use Rattle.std.specs.Prelude.{IsSomeAnd, MatchResult, ◌&&◌, ◌||◌, if◌then◌else◌, is_some, option_map, slice_get}
use Rattle.std.specs.Option.{option_map_or}
use Rattle.std.specs.Result.{result_ok}
use Rattle.std.proofs.lemmas.List.Elements.{All-head}
use Rattle.std.proofs.lemmas.Option.{get_or_from_slice_get, same_Some, slice_get-map}
use Rattle.value_types.specs.Shape.{is_clock, is_input, timing_at}
use Rattle.value_types.specs.declared.shape.ClockTiming.{ClockTiming}
use Rattle.value_types.specs.declared.shape.IntervalVariability.{IntervalVariability}
use Rattle.value_types.specs.declared.shape.IntervalVariability.TheVariants as v
use Rattle.value_types.specs.declared.shape.Shape.{Shape}
use Rattle.fmi_calls.specs.declared.call.Call.{Call}
use Rattle.fmi_calls.specs.declared.call.Call.TheVariants as C
use Rattle.fmi_calls.specs.declared.call.Content.TheVariants as A
use Rattle.fmi_calls.specs.declared.call.Grade.TheVariants as G
use Rattle.fmi_calls.specs.declared.call.Interval.{Interval}
use Rattle.fmi_calls.specs.declared.call.Reply.{Reply}
use Rattle.fmi_calls.specs.declared.call.Reply.TheVariants as R
use Rattle.fmi_calls.specs.declared.phase.InstanceState.{InstanceState}
use Rattle.fmi_calls.specs.declared.phase.InstanceState.TheVariants as P
use Rattle.fmi_calls.specs.KindFacts.{same_kind}
use Rattle.fmi_calls.specs.Kinds.{kind_of}
use Rattle.fmi_calls.specs.Permission.{counts_down, has_interval, has_shift, is_answered, is_changed, is_input_clock, is_marked, is_timed}
use Rattle.fmi_calls.specs.Worth.{grade_of, has_counts, is_interval, is_known_interval, variability_at}
use Rattle.fmu_peer.specs.CloseAll.{Instance}
use Rattle.fmu_peer.specs.declared.peer.Exchange.{Exchange}
use Rattle.fmu_peer.specs.declared.peer.PeerFault.{PeerFault}
use Rattle.system_model.specs.declared.system.Component.{Component}
use Rattle.system_model.specs.declared.system.Port.{Port}
use Rattle.system_model.specs.declared.system.Role.{Role}
use Rattle.system_model.specs.declared.system.Role.TheVariants.{TimeClock}
use Rattle.system_model.specs.declared.system.System.{System}
use Rattle.system_model.specs.declared.system.Timing.{Timing}
use Rattle.system_model.specs.declared.system.Timing.TheVariants.{Answered, Countdown, Changing}
use Rattle.system_model.specs.Ports.{is_clock_role}
use Rattle.system_model.specs.Sound.{IsRole, IsSound, IsTiming}
use Rattle.system_model.proofs.CallerLemmas.{true_false, Placed, events_of, place_of}
use Rattle.run_model.specs.Initial.{interval_in, shift_in}
use Rattle.system_model.specs.Values.{is_active}
use Rattle.slot_calls.specs.Log.{ComponentCall, Sent}
use Rattle.slot_calls.specs.Stage.{IsAnswered, IsGoodOf, shapes, shapes_of}
use Rattle.event_iteration.specs.Questions as Q
use Rattle.event_iteration.specs.Questions.{AreRunning, InstanceMode, IsActive, MayTell, first_reply, is_asked, is_asked_after, is_changing, modes}

-- ---- roles

pub asked_role : (role : Role) → is_asked role ≡ true → role ≡ TimeClock Answered
asked_role (TimeClock Answered) h = refl
asked_role role h = absurd (true_false (sym h))

pub countdown_role : (role : Role) → Q.counts_down role ≡ true → role ≡ TimeClock Countdown
countdown_role (TimeClock Countdown) h = refl
countdown_role role h = absurd (true_false (sym h))

pub changing_role : (role : Role) → is_changing role ≡ true → role ≡ TimeClock Changing
changing_role (TimeClock Changing) h = refl
changing_role role h = absurd (true_false (sym h))

-- whose FMU is asked after an instant
pub asked_after : (role : Role) (v : Option ℤ) → is_asked_after role v ≡ true → (role ≡ TimeClock Countdown) ⊎ ((role ≡ TimeClock Changing) × (is_active v ≡ true))
asked_after (TimeClock Countdown) v h = inl refl
asked_after (TimeClock Changing) v h = inr (refl, h)
asked_after role v h = absurd (true_false (sym h))

-- one that doesn't count down is a changing Clock that ticks
pub is_changing_after : (role : Role) (value : Option ℤ) → Q.counts_down role ≡ false → is_asked_after role value ≡ true → (role ≡ TimeClock Changing) × (is_active value ≡ true)
is_changing_after (TimeClock Countdown) value other h = absurd (true_false other)
is_changing_after (TimeClock Changing) value other h = (refl, h)
is_changing_after role value other h = absurd (true_false (sym h))

-- ---- what may be asked for

or_left : (a b : Bool) → a ≡ true → (a || b) ≡ true
or_left a b h = ap (λ x. x || b) h

or_right : (a b : Bool) → b ≡ true → (a || b) ≡ true
or_right true b h = refl
or_right false b h = h

test_of : {X : Type 0} (test : X → Bool) (P : X → Type 0) (o : Option X) → IsSomeAnd o P → ((x : X) → P x → test x ≡ true) → option_map_or test o false ≡ true
test_of test P None some h = absurd some
test_of test P (Some x) some h = h x some

all_three : (a b c : Bool) → a ≡ true → b ≡ true → c ≡ true → ((a && b) && c) ≡ true
all_three a b c e f g = ap (λ x. (x && b) && c) e ∙ ap (λ x. x && c) f ∙ g

module _ (system : System) (p : ℕ) (port : Port) (placed : Placed system p port) (timing : Timing) (role_is : port.role ≡ TimeClock timing) where
  role : IsRole placed.component.shape placed.variable (TimeClock timing)
  role = subst (IsRole placed.component.shape placed.variable) role_is placed.role

  timed_there : IsSomeAnd (timing_at placed.component.shape.clocks port.reference) (λ (t : ClockTiming). IsTiming placed.component.shape.resolution t timing)
  timed_there = subst (λ (x : ℕ). IsSomeAnd (timing_at placed.component.shape.clocks x) (λ (t : ClockTiming). IsTiming placed.component.shape.resolution t timing)) placed.reference role.2

  is_timed_there : (test : ClockTiming → Bool) → ((t : ClockTiming) → IsTiming placed.component.shape.resolution t timing → test t ≡ true) → is_timed test placed.component.shape port.reference ≡ true
  is_timed_there test h =
      ap (λ b. b && option_map_or test (timing_at placed.component.shape.clocks port.reference) false)
      (ap (λ o. option_map_or is_input_clock o false) placed.is.there
      ∙ all_three (is_input placed.variable.causality) (is_some placed.variable.kind) (is_clock placed.variable) (ap is_input role.0) (ap is_some placed.kind) role.1)
      ∙ test_of test (λ (t : ClockTiming). IsTiming placed.component.shape.resolution t timing) (timing_at placed.component.shape.clocks port.reference) timed_there h

fixed_there : (shape : Shape) (t : ClockTiming) → IsTiming shape.resolution t Answered → is_answered t ≡ true
fixed_there shape t h = by t.variability h.0 ∙ h.1
  where
    by : (x : IntervalVariability) → x ≡ v.Fixed → is_answered (record t { variability = x }) ≡ t.supports_fraction
    by v.Fixed e = refl
    by variability e = absurd (cc)

down_there : (shape : Shape) (t : ClockTiming) → IsTiming shape.resolution t Countdown → counts_down t ≡ true
down_there shape t h = by t.variability h
  where
    by : (x : IntervalVariability) → x ≡ v.Countdown → counts_down (record t { variability = x }) ≡ true
    by v.Countdown e = refl
    by variability e = absurd (cc)

changed_there : (shape : Shape) (t : ClockTiming) → IsTiming shape.resolution t Changing → is_changed t ≡ true
changed_there shape t h = by t.variability h
  where
    by : (x : IntervalVariability) → x ≡ v.Changing → is_changed (record t { variability = x }) ≡ true
    by v.Changing e = refl
    by variability e = absurd (cc)

module _ (system : System) (sound : IsSound system) (p : ℕ) (port : Port) (is : slice_get system.ports p ≡ Some port) (ss : List Instance) (alike : shapes ss ≡ shapes_of system) where
  abbrev placed : Placed system p port
  placed = place_of system sound p port is

  pub own_shape : slice_get (shapes_of system) port.component.0 ≡ Some placed.component.shape
  own_shape = slice_get-map (λ (c : Component). c.shape) system.components port.component.0 ∙ ap (option_map (λ (c : Component). c.shape)) placed.is.of

  shape_there : (shape : Shape) → slice_get (shapes ss) port.component.0 ≡ Some shape → shape ≡ placed.component.shape
  shape_there shape at = same_Some _ _ (sym at ∙ ap (λ xs. slice_get xs port.component.0) alike ∙ own_shape)

  is_fixed_there : port.role ≡ TimeClock Answered → is_timed is_answered placed.component.shape port.reference ≡ true
  is_fixed_there answered = is_timed_there system p port placed Answered answered is_answered (λ t h. fixed_there placed.component.shape t h)

  is_changed_there : port.role ≡ TimeClock Changing → is_timed is_changed placed.component.shape port.reference ≡ true
  is_changed_there changing = is_timed_there system p port placed Changing changing is_changed (λ t h. changed_there placed.component.shape t h)

  -- in Initialization Mode
  abbrev AreInitializing : Type 0
  AreInitializing = (i : ℕ) (mode : InstanceMode) → slice_get (modes ss) i ≡ Some mode → mode.state ≡ P.Initialization

  pub may_interval : port.role ≡ TimeClock Answered → AreInitializing → MayTell (C.GetInterval port.reference) port.component.0 ss
  may_interval answered states mode shape at_mode at_shape =
      ap (λ (x : InstanceState). has_interval x shape mode.active port.reference) (states port.component.0 mode at_mode)
      ∙ ap (λ (x : Shape). is_timed is_answered x port.reference) (shape_there shape at_shape) ∙ is_fixed_there answered

  pub may_shift : (port.role ≡ TimeClock Answered) ⊎ (port.role ≡ TimeClock Changing) → AreInitializing → MayTell (C.GetShift port.reference) port.component.0 ss
  may_shift sort states mode shape at_mode at_shape =
      ap (λ (x : InstanceState). has_shift x shape port.reference) (states port.component.0 mode at_mode)
      ∙ ap (λ (x : Shape). is_timed is_answered x port.reference || is_timed is_changed x port.reference) (shape_there shape at_shape)
      ∙ (elim sort as (λ s. (is_timed is_answered placed.component.shape port.reference || is_timed is_changed placed.component.shape port.reference) ≡ true) [
        | inl answered ↦ or_left (is_timed is_answered placed.component.shape port.reference) (is_timed is_changed placed.component.shape port.reference) (is_fixed_there answered)
        | inr changing ↦ or_right (is_timed is_answered placed.component.shape port.reference) (is_timed is_changed placed.component.shape port.reference) (is_changed_there changing)
      ])

  -- after an instant
  abbrev asked_there : Shape → List Bool → Bool
  asked_there shape active = is_timed counts_down shape port.reference || (is_timed is_changed shape port.reference && is_marked shape active port.reference)

  in_event_mode : is_clock_role port.role ≡ true → AreRunning system (modes ss) → (mode : InstanceMode) (shape : Shape) → slice_get (modes ss) port.component.0 ≡ Some mode → slice_get (shapes ss) port.component.0 ≡ Some shape →
      has_interval mode.state shape mode.active port.reference ≡ asked_there placed.component.shape mode.active
  in_event_mode clock running mode shape at_mode at_shape =
      let events : placed.component.shape.has_event_mode ≡ true = events_of system p port placed clock in
      ap (λ (x : InstanceState). has_interval x shape mode.active port.reference) (running port.component.0 placed.component mode placed.is.of at_mode ∙ ap (λ b. if b then P.Event else P.Step) events)
      ∙ ap (λ (x : Shape). asked_there x mode.active) (shape_there shape at_shape)

  pub may_after : (value : Option ℤ) → is_asked_after port.role value ≡ true → AreRunning system (modes ss) → IsActive system p value (modes ss) → MayTell (C.GetInterval port.reference) port.component.0 ss
  may_after value asked running active mode shape at_mode at_shape = (elim (asked_after port.role value asked) as (λ s. has_interval mode.state shape mode.active port.reference ≡ true) [
    | inl down ↦
        in_event_mode (ap (λ (x : Role). is_clock_role x) down) running mode shape at_mode at_shape
        ∙ or_left (is_timed counts_down placed.component.shape port.reference) (is_timed is_changed placed.component.shape port.reference && is_marked placed.component.shape mode.active port.reference)
        (is_timed_there system p port placed Countdown down counts_down (λ t h. down_there placed.component.shape t h))
    | inr both ↦
        let clock : is_clock_role port.role ≡ true = ap (λ (x : Role). is_clock_role x) both.0 in
        in_event_mode clock running mode shape at_mode at_shape
        ∙ or_right (is_timed counts_down placed.component.shape port.reference) (is_timed is_changed placed.component.shape port.reference && is_marked placed.component.shape mode.active port.reference)
        (ap (λ b. b && is_marked placed.component.shape mode.active port.reference) (is_changed_there both.0)
        ∙ active port placed.component mode is placed.is.of at_mode clock both.1)
  ])

-- ---- one answer

-- a call of the i-th component alone in the log, with a good reply
pub record IsOne (shape : Shape) (i : ℕ) (call : Call) (reply : Reply) (log : List Sent) : Type 0 where
  pub is : log ≡ record { component = i; exchange = record { call = call; result = Ok reply } } ∷ []
  pub good : grade_of shape call reply ≡ G.Good

one_sent : (ss : List Shape) (i : ℕ) (call : Call) (shape : Shape) (reply : Reply) (s : Sent) → slice_get ss i ≡ Some shape → ◌≡◌ {A = ComponentCall} (record { component = s.component; call = s.exchange.call }) (record { component = i; call = call }) → IsGoodOf ss s →
    Some reply ≡ result_ok s.exchange.result → IsOne shape i call reply (s ∷ [])
one_sent ss i call shape reply s at is good told = by s.exchange.result refl (good shape) told
  where
    component : s.component ≡ i
    component = ap (λ (a : ComponentCall). a.component) is

    call_is : s.exchange.call ≡ call
    call_is = ap (λ (a : ComponentCall). a.call) is

    by : (r : Result Reply PeerFault) → s.exchange.result ≡ r → MatchResult r (λ x. grade_of (get_or ss s.component shape) s.exchange.call x ≡ G.Good) (λ fault. ⊥) → Some reply ≡ result_ok r → IsOne shape i call reply (s ∷ [])
    by (Ok x) result_is g same =
        let its : x ≡ reply = sym (same_Some _ _ same) in
        let own : get_or ss s.component shape ≡ shape = ap (λ n. get_or ss n shape) component ∙ get_or_from_slice_get ss i shape shape at in
        record {
          is = ap (λ (y : Sent). y ∷ []) (ap₂ (λ (n : ℕ) (e : Exchange). record { component = n; exchange = e }) component
              (ap₂ (λ (k : Call) (o : Result Reply PeerFault). record { call = k; result = o }) call_is (result_is ∙ ap Ok its)));
          good = subst (λ (y : Shape). grade_of y call reply ≡ G.Good) own (subst (λ (k : Call). grade_of (get_or ss s.component shape) k reply ≡ G.Good) call_is
              (subst (λ (y : Reply). grade_of (get_or ss s.component shape) s.exchange.call y ≡ G.Good) its g));
        }
    by (Err fault) result_is g same = absurd g

pub one_answer : (ss : List Shape) (i : ℕ) (call : Call) (shape : Shape) (reply : Reply) (log : List Sent) → slice_get ss i ≡ Some shape → IsAnswered ss (record { component = i; call = call } ∷ []) log → Some reply ≡ first_reply log →
    IsOne shape i call reply log
one_answer ss i call shape reply [] at answered told = absurd (let e = answered.calls_are in cc)
one_answer ss i call shape reply (s ∷ []) at answered told = one_sent ss i call shape reply s at (let e = answered.calls_are in cc) (All-head (IsGoodOf ss) s [] answered.good) told
one_answer ss i call shape reply (s ∷ t ∷ log) at answered told = absurd (let e = answered.calls_are in cc)

-- ---- whole counts

valid_of : (b : Bool) → (if b then G.Good else G.Misreply) ≡ G.Good → b ≡ true
valid_of true h = refl
valid_of false h = absurd (cc)

refused_no : (b : Bool) → (if b then G.Refused else G.Misreply) ≡ G.Good → ⊥
refused_no true h = cc
refused_no false h = cc

-- an interval of such a Clock is known
abbrev pub IsKnown : Option IntervalVariability → Type 0
IsKnown o = (interval : Interval) (per_second : ℕ) → is_interval o interval per_second ≡ is_known_interval interval per_second

pub fixed_known : (o : Option IntervalVariability) → o ≡ Some v.Fixed → IsKnown o
fixed_known o same interval per_second = ap (λ (x : Option IntervalVariability). is_interval x interval per_second) same

changing_known : (o : Option IntervalVariability) → o ≡ Some v.Changing → IsKnown o
changing_known o same interval per_second = ap (λ (x : Option IntervalVariability). is_interval x interval per_second) same

module _ (shape : Shape) (reference per_second : ℕ) (counts : shape.resolution ≡ per_second) where
  pub interval_known : (reply : Reply) → IsKnown (variability_at shape reference) → grade_of shape (C.GetInterval reference) reply ≡ G.Good → is_known_interval (interval_in reply) per_second ≡ true
  interval_known (R.Done is_warning (A.GetInterval interval)) known h =
      sym (known interval per_second) ∙ ap (is_interval (variability_at shape reference) interval) (sym counts) ∙ valid_of _ h
  interval_known (R.Done is_warning content) known h = absurd (cc)
  interval_known (R.Refused kind status) known h = absurd (refused_no (same_kind kind (kind_of (C.GetInterval reference))) h)

  pub shift_known : (reply : Reply) → grade_of shape (C.GetShift reference) reply ≡ G.Good → has_counts 0 (shift_in reply) per_second ≡ true
  shift_known (R.Done is_warning (A.GetShift shift)) h = ap (has_counts 0 shift) (sym counts) ∙ valid_of _ h
  shift_known (R.Done is_warning content) h = absurd (cc)
  shift_known (R.Refused kind status) h = absurd (refused_no (same_kind kind (kind_of (C.GetShift reference))) h)

-- a fixed Clock is one in its description
pub fixed_variability : (system : System) (p : ℕ) (port : Port) (placed : Placed system p port) → port.role ≡ TimeClock Answered → variability_at placed.component.shape port.reference ≡ Some v.Fixed
fixed_variability system p port placed answered = by (timing_at placed.component.shape.clocks port.reference) (timed_there system p port placed Answered answered)
  where
    by : (o : Option ClockTiming) → IsSomeAnd o (λ (t : ClockTiming). IsTiming placed.component.shape.resolution t Answered) → option_map (λ (c : ClockTiming). c.variability) o ≡ Some v.Fixed
    by None h = absurd h
    by (Some t) h = ap Some h.0

changing_variability : (system : System) (p : ℕ) (port : Port) (placed : Placed system p port) → port.role ≡ TimeClock Changing → variability_at placed.component.shape port.reference ≡ Some v.Changing
changing_variability system p port placed changing = by (timing_at placed.component.shape.clocks port.reference) (timed_there system p port placed Changing changing)
  where
    by : (o : Option ClockTiming) → IsSomeAnd o (λ (t : ClockTiming). IsTiming placed.component.shape.resolution t Changing) → option_map (λ (c : ClockTiming). c.variability) o ≡ Some v.Changing
    by None h = absurd h
    by (Some t) h = ap Some h

-- a good answer tells an interval of a changing Clock
pub changing_interval : (system : System) (p : ℕ) (port : Port) (placed : Placed system p port) (per_second : ℕ) → placed.component.shape.resolution ≡ per_second → port.role ≡ TimeClock Changing → (reply : Reply) →
    grade_of placed.component.shape (C.GetInterval port.reference) reply ≡ G.Good → is_known_interval (interval_in reply) per_second ≡ true
changing_interval system p port placed per_second counts changing reply good =
    interval_known placed.component.shape port.reference per_second counts reply (changing_known (variability_at placed.component.shape port.reference) (changing_variability system p port placed changing)) good
