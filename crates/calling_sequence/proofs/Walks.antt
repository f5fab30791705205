-- The log of a walk has the calls of its turns alone, and all were answered well.
use Rattle.std.proofs.Common.{◌≡◌, ℕ, ℤ, Bool, true, false, List, [], ◌∷◌, Option, Some, None, Result, Ok, Contains, inl, inr, ◌⊎◌, refl, sym, subst}
use Rattle.std.specs.Prelude.{All, ◌&&◌, if◌then◌else◌, slice_get}
use Rattle.std.specs.Option.{option_and_then, option_map, option_map_or}
use Rattle.std.proofs.lemmas.List.Elements.{All-append, All-cons, All-nil, Contains-append_left, Contains-append_right, Contains-push}
use Rattle.std.proofs.lemmas.Option.{same_Some}
use Rattle.value_types.specs.declared.shape.Shape.{Shape}
use Rattle.fmi_calls.specs.declared.call.Call.{Call}
use Rattle.fmi_calls.specs.declared.call.Call.TheVariants as C
use Rattle.fmi_calls.specs.declared.call.Grade.TheVariants as G
use Rattle.fmi_calls.specs.declared.call.Reply.{Reply}
use Rattle.fmi_calls.specs.Worth.{grade_of}
use Rattle.fmu_peer.specs.declared.peer.Exchange.{Exchange}
use Rattle.fmu_peer.specs.declared.peer.PeerFault.{PeerFault}
use Rattle.system_model.specs.declared.system.Component.{Component}
use Rattle.system_model.specs.declared.system.Role.{Role}
use Rattle.system_model.specs.declared.system.Role.TheVariants.{Input, Output, ClockInput, ClockOutput, TimeClock}
use Rattle.system_model.specs.declared.system.Port.{Port}
use Rattle.system_model.specs.declared.system.Timing.TheVariants.{Answered, Changing, Countdown, Periodic}
use Rattle.system_model.specs.declared.system.System.{System}
use Rattle.run_model.specs.Equations.{fed, source_value}
use Rattle.run_model.specs.Initial.{is_read}
use Rattle.system_model.specs.Values.{value, is_active, is_present}
use Rattle.slot_calls.specs.Log.{ComponentCall, Sent}
use Rattle.slot_calls.specs.Stage.{IsAnswered, shapes_of}
use Rattle.slot_calls.proofs.CallerLemmas.{sent_all}
use Rattle.event_iteration.specs.Explains.{Explains, all_said, call_at, said}
use Rattle.event_iteration.specs.Initialization.{asks_initially, initially, is_set_from_feed}
use Rattle.event_iteration.specs.Instants.{asks_in_instant, in_instant, is_read_in_instant}
use Rattle.event_iteration.specs.Intervals.{asks_interval, intervals, timing_calls, timing_calls_in, timing_calls_of}
use Rattle.event_iteration.specs.Settings.{before_step, sets_to}
use Rattle.event_iteration.specs.Turns.{IsPaired, Rules, sent_of}
use Rattle.event_iteration.proofs.ByLog.{shape_of_component}
use Rattle.calling_sequence.proofs.Chains.{IsGet, IsGoodly, IsOfClock, IsQuestion, IsSet}

-- a call with any answer is of this sort
abbrev IsSort : (Exchange → Type 0) → Call → Type 0
IsSort K call = (result : Result Reply PeerFault) → K (record { call = call; result = result })

module _ (system : System) (K : Shape → Exchange → Type 0) where
  sent_goodly : (i : ℕ) (c : Component) → slice_get system.components i ≡ Some c → (call : Option Call) (reply : Option Reply) → ((k : Call) → call ≡ Some k → IsSort (K c.shape) k) → IsPaired c.shape call reply →
      All (IsGoodly K (shapes_of system)) (sent_of i call reply)
  sent_goodly i c of None reply sort paired = All-nil (IsGoodly K (shapes_of system))
  sent_goodly i c of (Some call) None sort paired = absurd paired
  sent_goodly i c of (Some call) (Some reply) sort paired =
      All-cons (IsGoodly K (shapes_of system)) _ []
      ((λ d. subst (λ (s : Shape). K s (record { call = call; result = Ok reply })) (shape_of_component system i c of d) (sort call refl (Ok reply))), (λ d. subst (λ (s : Shape). grade_of s call reply ≡ G.Good) (shape_of_component system i c of d) paired)) (All-nil (IsGoodly K (shapes_of system)))

  module _ (rules : Rules) (values : List (Option ℤ)) (sort : (p : ℕ) (port : Port) (c : Component) (k : Call) → rules.asks p port c values ≡ Some k → IsSort (K c.shape) k) (replies : ℕ → Option Reply) where
    abbrev IsPairedAt : ℕ → Type 0
    IsPairedAt p = (port : Port) (c : Component) → slice_get system.ports p ≡ Some port → slice_get system.components port.component.0 ≡ Some c → IsPaired c.shape (rules.asks p port c values) (replies p)

    by_component : (p : ℕ) → IsPairedAt p → (port : Port) → slice_get system.ports p ≡ Some port → (o : Option Component) → slice_get system.components port.component.0 ≡ o →
        All (IsGoodly K (shapes_of system)) (sent_of port.component.0 (option_and_then (λ (c : Component). rules.asks p port c values) o) (replies p))
    by_component p paired port is None of = All-nil (IsGoodly K (shapes_of system))
    by_component p paired port is (Some c) of = sent_goodly port.component.0 c of (rules.asks p port c values) (replies p) (sort p port c) (paired port c is of)

    by_port : (p : ℕ) → IsPairedAt p → (o : Option Port) → slice_get system.ports p ≡ o →
        All (IsGoodly K (shapes_of system)) (option_map_or (λ (port : Port). sent_of port.component.0 (call_at system rules values p port) (replies p)) o [])
    by_port p paired None is = All-nil (IsGoodly K (shapes_of system))
    by_port p paired (Some port) is = by_component p paired port is (slice_get system.components port.component.0) refl

    all_goodly : (ps : List ℕ) → ((p : ℕ) → Contains ps p → IsPairedAt p) → All (IsGoodly K (shapes_of system)) (all_said system rules values replies ps)
    all_goodly [] paired = All-nil (IsGoodly K (shapes_of system))
    all_goodly (p ∷ ps) paired =
        All-append (IsGoodly K (shapes_of system)) (said system rules values replies p) (all_said system rules values replies ps)
        (by_port p (paired p (Contains-append_left (p ∷ []) ps p (Contains-push [] p))) (slice_get system.ports p) refl)
        (all_goodly ps (λ q m. paired q (Contains-append_right (p ∷ []) ps q m)))

  pub walk_goodly : (rules : Rules) (before : List (Option ℤ)) (taken : List ℕ) (values : List (Option ℤ)) (log : List Sent) → ((p : ℕ) (port : Port) (c : Component) (k : Call) → rules.asks p port c values ≡ Some k → IsSort (K c.shape) k) →
      Explains system rules before taken values log → All (IsGoodly K (shapes_of system)) log
  walk_goodly rules before taken values log sort told =
      subst (All (IsGoodly K (shapes_of system))) (sym told.log_is) (all_goodly rules values sort told.replies taken (λ p m port c is of. told.paired p port c is of m))

-- ---- the calls of the walks

set_of : (port : Port) (o : Option ℤ) (k : Call) → option_map (λ x. C.Set port.kind port.reference x) o ≡ Some k → IsSort IsSet k
set_of port None k h result = absurd (cc)
set_of port (Some x) k h result = (port.kind, port.reference, x, sym (same_Some _ _ h))

sets : (role : Role) (port : Port) (o : Option ℤ) (k : Call) → sets_to role port o ≡ Some k → IsSort IsSet k
sets (Input None) port o k h result = absurd (cc)
sets (Input (Some feed)) port o k h result = set_of port o k h result
sets Output port o k h result = absurd (cc)
sets (ClockInput feed) port o k h result = absurd (cc)
sets ClockOutput port o k h result = absurd (cc)
sets (TimeClock timing) port o k h result = absurd (cc)

abbrev pub IsGetOrSet : Exchange → Type 0
IsGetOrSet e = IsGet e ⊎ IsSet e

if_some : {X : Type 0} (b : Bool) (o : Option X) (x : X) → (if b then o else None) ≡ Some x → o ≡ Some x
if_some true o x h = h
if_some false o x h = absurd (cc)

unless_some : {X : Type 0} (b : Bool) (o : Option X) (x : X) → (if b then None else o) ≡ Some x → o ≡ Some x
unless_some true o x h = absurd (cc)
unless_some false o x h = h

finds : (role : Role) (ports : List Port) (read : Bool) (port : Port) (values : List (Option ℤ)) (k : Call) → asks_initially role ports read port values ≡ Some k → IsSort IsGetOrSet k
finds (Input None) ports read port values k h result = absurd (cc)
finds (Input (Some feed)) ports read port values k h result = inr (set_of port (fed port.kind feed values) k (if_some (is_set_from_feed ports port feed) _ k h) result)
finds Output ports read port values k h result = inl (port.kind, port.reference, sym (same_Some _ _ (if_some read (Some (C.Get port.kind port.reference)) k h)))
finds (ClockInput feed) ports read port values k h result = absurd (cc)
finds ClockOutput ports read port values k h result = absurd (cc)
finds (TimeClock timing) ports read port values k h result = absurd (cc)

-- a Get, with event mode a Set, or a call of a Clock
abbrev pub IsOfInstant : Shape → Exchange → Type 0
IsOfInstant shape e = IsGet e ⊎ ((IsSet e × (shape.has_event_mode ≡ true)) ⊎ IsOfClock e)

both_true : (a b : Bool) → (a && b) ≡ true → a ≡ true
both_true true b h = refl
both_true false b h = absurd (cc)

passes : {X : Type 0} (b : Bool) (o : Option X) (x : X) → (if b then o else None) ≡ Some x → b ≡ true
passes true o x h = refl
passes false o x h = absurd (cc)

set_clock : (b : Bool) (reference : ℕ) (k : Call) → (if b then Some (C.SetClock reference) else None) ≡ Some k → IsSort IsOfClock k
set_clock b reference k h result = (reference, inl (sym (same_Some _ _ (if_some b (Some (C.SetClock reference)) k h))))

in_instants : (shape : Shape) (role : Role) (port : Port) (is_first ticks : Bool) (values : List (Option ℤ)) (k : Call) → asks_in_instant role port shape.has_event_mode is_first ticks values ≡ Some k → IsSort (IsOfInstant shape) k
in_instants shape (Input None) port is_first ticks values k h result = absurd (cc)
in_instants shape (Input (Some feed)) port is_first ticks values k h result =
    let asked = shape.has_event_mode && is_present port values in
    let set = option_map (λ x. C.Set port.kind port.reference x) (fed port.kind feed values) in
    inr (inl (set_of port (fed port.kind feed values) k (if_some asked set k h) result, both_true shape.has_event_mode (is_present port values) (passes asked set k h)))
in_instants shape Output port is_first ticks values k h result =
    inl (port.kind, port.reference, sym (same_Some _ _ (if_some (is_read_in_instant port shape.has_event_mode is_first values) (Some (C.Get port.kind port.reference)) k h)))
in_instants shape (ClockInput None) port is_first ticks values k h result = absurd (cc)
in_instants shape (ClockInput (Some feed)) port is_first ticks values k h result = inr (inr (set_clock (is_active (source_value feed values)) port.reference k h result))
in_instants shape ClockOutput port is_first ticks values k h result = inr (inr (port.reference, inr (sym (same_Some _ _ h))))
in_instants shape (TimeClock timing) port is_first ticks values k h result = inr (inr (set_clock ticks port.reference k h result))

questions : (role : Role) (port : Port) (v : Option ℤ) (k : Call) → asks_interval role port v ≡ Some k → IsSort IsQuestion k
questions (TimeClock Countdown) port v k h result = (port.reference, inl (sym (same_Some _ _ h)))
questions (TimeClock Changing) port v k h result = (port.reference, inl (sym (same_Some _ _ (if_some (is_active v) (Some (C.GetInterval port.reference)) k h))))
questions (TimeClock (Periodic interval shift)) port v k h result = absurd (cc)
questions (TimeClock Answered) port v k h result = absurd (cc)
questions (Input feed) port v k h result = absurd (cc)
questions Output port v k h result = absurd (cc)
questions (ClockInput feed) port v k h result = absurd (cc)
questions ClockOutput port v k h result = absurd (cc)

-- ---- the questions for fixed and changing Clocks, in Initialization Mode

abbrev IsQuestionAsked : ComponentCall → Type 0
IsQuestionAsked a = (reference : ℕ) × ((a.call ≡ C.GetInterval reference) ⊎ (a.call ≡ C.GetShift reference))

timing_of : (role : Role) (port : Port) → All IsQuestionAsked (timing_calls_of role port)
timing_of (TimeClock Answered) port =
    All-cons IsQuestionAsked (record { component = port.component.0; call = C.GetInterval port.reference }) (record { component = port.component.0; call = C.GetShift port.reference } ∷ []) (port.reference, inl refl)
    (All-cons IsQuestionAsked (record { component = port.component.0; call = C.GetShift port.reference }) [] (port.reference, inr refl) (All-nil IsQuestionAsked))
timing_of (TimeClock Changing) port =
    All-cons IsQuestionAsked (record { component = port.component.0; call = C.GetShift port.reference }) [] (port.reference, inr refl) (All-nil IsQuestionAsked)
timing_of (TimeClock (Periodic interval shift)) port = All-nil IsQuestionAsked
timing_of (TimeClock Countdown) port = All-nil IsQuestionAsked
timing_of (Input feed) port = All-nil IsQuestionAsked
timing_of Output port = All-nil IsQuestionAsked
timing_of (ClockInput feed) port = All-nil IsQuestionAsked
timing_of ClockOutput port = All-nil IsQuestionAsked

timing_in : (ports : List Port) → All IsQuestionAsked (timing_calls_in ports)
timing_in [] = All-nil IsQuestionAsked
timing_in (port ∷ ports) = All-append IsQuestionAsked (timing_calls_of port.role port) (timing_calls_in ports) (timing_of port.role port) (timing_in ports)

pub timing_goodly : (system : System) (log : List Sent) → IsAnswered (shapes_of system) (timing_calls system) log → All (IsGoodly (λ shape. IsQuestion) (shapes_of system)) log
timing_goodly system log answered =
    let asked = sent_all IsQuestionAsked log (timing_calls system) answered.calls_are (timing_in system.ports) in
    λ k d w. ((λ e. asked k d w), answered.good k d w)

module _ (system : System) (before : List (Option ℤ)) (taken : List ℕ) (values : List (Option ℤ)) (log : List Sent) where
  pub instant_goodly : (ticks : ℕ → Bool) (is_first : Bool) → Explains system (in_instant ticks is_first) before taken values log → All (IsGoodly IsOfInstant (shapes_of system)) log
  instant_goodly ticks is_first told = walk_goodly system IsOfInstant (in_instant ticks is_first) before taken values log (λ p port c k h. in_instants c.shape port.role port is_first (ticks p) values k h) told

  pub asking_goodly : (now : List (Option ℤ)) → Explains system (intervals now) before taken values log → All (IsGoodly (λ shape. IsQuestion) (shapes_of system)) log
  asking_goodly now told = walk_goodly system (λ shape. IsQuestion) (intervals now) before taken values log (λ p port c k h. questions port.role port (value now p) k h) told

  pub setting_goodly : (now : List (Option ℤ)) → Explains system (before_step now) before taken values log → All (IsGoodly (λ shape. IsSet) (shapes_of system)) log
  setting_goodly now told =
      walk_goodly system (λ shape. IsSet) (before_step now) before taken values log (λ p port c k h. sets port.role port (value now p) k (unless_some c.shape.has_event_mode (sets_to port.role port (value now p)) k h)) told

  pub finding_goodly : Explains system (initially system) before taken values log → All (IsGoodly (λ shape. IsGetOrSet) (shapes_of system)) log
  finding_goodly told = walk_goodly system (λ shape. IsGetOrSet) (initially system) before taken values log (λ p port c k h. finds port.role system.ports (is_read system.ports p) port values k h) told
