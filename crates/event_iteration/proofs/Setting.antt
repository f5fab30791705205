-- The walk of the Sets before a step: each call of it is permitted.
use Rattle.std.proofs.Common.{◌≡◌, inl, inr, ℕ, ◌<◌, ◌≤◌, ◌+◌, ℤ, Bool, true, false, not, List, Option, Some, None, Result, Contains, refl, sym, ap, ◌∙◌, subst, arith, length, get_or, take, drop}
use Rattle.std.specs.Prelude.{All, IfSome, ◌&&◌, if◌then◌else◌, option_map, slice_get, slice_set}
use Rattle.std.proofs.lemmas.List.{set-get_or, take_all}
use Rattle.std.proofs.lemmas.List.FromFn.{get_or-range_with_len, length-range_with_len}
use Rattle.std.proofs.lemmas.Option.{same_Some, slice_get-get_or}
use Rattle.value_types.specs.Values.{Fits}
use Rattle.value_types.specs.declared.shape.Shape.{Shape}
use Rattle.fmi_calls.specs.declared.call.Call.{Call}
use Rattle.fmi_calls.specs.declared.call.Call.TheVariants as C
use Rattle.fmi_calls.specs.declared.phase.InstanceState.{InstanceState}
use Rattle.fmi_calls.specs.Permission.{can_be_set, is_marked}
use Rattle.fmu_peer.specs.CloseAll.{Instance}
use Rattle.system_model.specs.declared.system.Component.{Component}
use Rattle.system_model.specs.declared.system.Feed.{Feed}
use Rattle.system_model.specs.declared.system.Role.{Role}
use Rattle.system_model.specs.declared.system.Role.TheVariants.{Input}
use Rattle.system_model.specs.declared.system.Port.{Port}
use Rattle.system_model.specs.declared.system.System.{System}
use Rattle.system_model.specs.Orders.{IsOrder}
use Rattle.system_model.specs.Ports.{is_clock_role, is_output_role}
use Rattle.system_model.specs.Sound.{IsSound}
use Rattle.system_model.proofs.CallerLemmas.{order_by_number}
use Rattle.system_model.specs.Values.{value}
use Rattle.run_model.specs.Machines.{AreFitting}
use Rattle.slot_calls.specs.declared.bad_answer.BadAnswer.{BadAnswer}
use Rattle.slot_calls.specs.Log.{Sent, Told}
use Rattle.slot_calls.specs.Stage.{shapes, shapes_of}
use Rattle.slot_calls.proofs.CallerLemmas.{shapes_same}
use Rattle.event_iteration.specs.Settings.{IsUnset, before_step, port_order, sets_to}
use Rattle.event_iteration.specs.Turns.{MayAsk, MayTurn, TakesTurn, Walked}
use Rattle.event_iteration.proofs.Marks.{unmarked}
use Rattle.event_iteration.proofs.Permits.{input_there, writable}
use Rattle.event_iteration.proofs.Turning.{AsksBy, Sets, Touches, after, all_was, calls_of, shape_here}
use Rattle.event_iteration.proofs.Walking.{AreAbout, split_order}

-- ---- the order of the ports

abbrev pub NoNeeds : ℕ → ℕ → Type 0
NoNeeds p q = ⊥

pub in_order : (system : System) → IsOrder (λ p. p < length system.ports) NoNeeds (port_order system)
in_order system = order_by_number (length system.ports) (λ p. p < length system.ports) NoNeeds (port_order system) refl (λ p h. h) (λ p h. h) (λ p q h. h)

pub about_setting : (system : System) (now : List (Option ℤ)) → AreAbout NoNeeds system (before_step now)
about_setting system now = record { asks_same = λ p port c V W is h. refl; takes_same = λ p port V W last reply is h. refl }

pub port_number : (system : System) (k : ℕ) → k < length system.ports → slice_get (port_order system) k ≡ Some k
port_number system k lt =
    let long = length-range_with_len 0 (length system.ports) in
    slice_get-get_or (port_order system) k k (omega (arith, long, lt)) ∙ ap Some (get_or-range_with_len 0 (length system.ports) k k lt ∙ omega arith)

pub all_ports : (system : System) (k : ℕ) → length system.ports ≤ k → take k (port_order system) ≡ port_order system
all_ports system k le = take_all k (port_order system) (let long = length-range_with_len 0 (length system.ports) in omega (arith, long, le))

-- ---- the calls

-- an input of an FMU without event mode is set to its value
pub record IsAskedBeforeStep (events : Bool) (port : Port) (value : Option ℤ) (call : Call) : Type 0 where
  pub feed : Feed
  pub input : port.role ≡ Input (Some feed)
  pub none : events ≡ false
  pub to : ℤ
  pub is : value ≡ Some to
  pub set : call ≡ C.Set port.kind port.reference to

module _ (port : Port) (call : Call) where
  set_of : (feed : Feed) → port.role ≡ Input (Some feed) → (o : Option ℤ) → option_map (λ x. C.Set port.kind port.reference x) o ≡ Some call → IsAskedBeforeStep false port o call
  set_of feed same None h = absurd (cc)
  set_of feed same (Some x) h = record { feed = feed; input = same; none = refl; to = x; is = refl; set = sym (same_Some _ _ h) }

  asked_by : (role : Role) → port.role ≡ role → (events : Bool) (o : Option ℤ) → (if events then None else sets_to role port o) ≡ Some call → IsAskedBeforeStep events port o call
  asked_by role same true o h = absurd (cc)
  asked_by (Input (Some feed)) same false o h = set_of feed same o h
  asked_by role same false o h = absurd (cc)

-- each call before a step is such a Set of its port
pub asked_before_step : (now : List (Option ℤ)) (p : ℕ) (port : Port) (c : Component) (values : List (Option ℤ)) (call : Call) → (before_step now).asks p port c values ≡ Some call → IsAskedBeforeStep c.shape.has_event_mode port (value now p) call
asked_before_step now p port c values call h = asked_by port call port.role refl c.shape.has_event_mode (value now p) h

-- the port is set
abbrev pub SetsPort : Component → Port → Call → Type 0
SetsPort c port call = Sets port call

pub sets_ports : (system : System) (now : List (Option ℤ)) → AsksBy SetsPort system (before_step now)
sets_ports system now p port c values call is of h = let asked = asked_before_step now p port c values call h in (asked.to, asked.set)

pub set_alone : (c : Component) (port : Port) (call : Call) → SetsPort c port call → Touches port call
set_alone c port call set = inr (inl set)

-- ---- a turn of the loop

pub set_same : (system : System) (now : List (Option ℤ)) (p : ℕ) (olds news : List Instance) (result : Result (Unit {0}) BadAnswer) → TakesTurn system (before_step now) p now (slice_set now p (value now p)) olds news result → TakesTurn system (before_step now) p now now olds news result
set_same system now p olds news result turn = subst (λ vs. TakesTurn system (before_step now) p now vs olds news result) (set-get_or now p None) turn

module _ (system : System) (sound : IsSound system) (now : List (Option ℤ)) (fits : AreFitting system now) (olds mids : List Instance) (same : shapes olds ≡ shapes_of system)
    (unset : All (λ (x : Instance). IsUnset x.view) olds) (k : ℕ) (within : k < length system.ports) (log : List Sent) (told : Told log olds mids) (walked : Walked system (before_step now) now (take k (port_order system)) now log) where
  fresh : Contains (take k (port_order system)) k → ⊥
  fresh = (in_order system).once (take k (port_order system)) (drop (k + 1) (port_order system)) k (split_order (port_order system) k k (port_number system k within))

  pub shapes_mid : shapes mids ≡ shapes_of system
  shapes_mid = shapes_same log olds mids told ∙ same

  module _ (port : Port) (c : Component) (x : Instance) (is : slice_get system.ports k ≡ Some port) (of : slice_get system.components port.component.0 ≡ Some c) (there : slice_get mids port.component.0 ≡ Some x) where
    shape : x.view.fixed.shape ≡ c.shape
    shape = shape_here system olds mids log told same port.component.0 c of x there

    was_unset : IsUnset (get_or olds port.component.0 x).view
    was_unset = all_was system olds mids log told same port.component.0 c of x there (λ (y : Instance). IsUnset y.view) unset

    beside : (x.view.phase.state ≡ (get_or olds port.component.0 x).view.phase.state) × (is_marked c.shape x.view.phase.marks port.reference ≡ is_marked c.shape (get_or olds port.component.0 x).view.phase.marks port.reference)
    beside =
        after SetsPort system sound (take k (port_order system)) log (calls_of SetsPort system (before_step now) (sets_ports system now) now (take k (port_order system)) now log walked)
        olds mids told same port.component.0 c of x there set_alone k port is refl fresh

    not_marked : is_marked x.view.fixed.shape x.view.phase.marks port.reference ≡ false
    not_marked =
        ap (λ (s : Shape). is_marked s x.view.phase.marks port.reference) shape ∙ beside.1
        ∙ unmarked c.shape (get_or olds port.component.0 x).view.phase.marks port.reference was_unset.unset

    may_call : (call : Call) → IsAskedBeforeStep c.shape.has_event_mode port (value now k) call → MayAsk (Some call) x.view
    may_call call asked =
        let fit : Fits port.kind asked.to = subst (λ o. IfSome o (Fits port.kind)) asked.is (fits k port is) in
        let events : x.view.fixed.shape.has_event_mode ≡ false = ap (λ (s : Shape). s.has_event_mode) shape ∙ asked.none in
        let can : can_be_set x.view.phase.state x.view.fixed.shape x.view.phase.marks x.view.phase.active port.reference ≡ true =
        ap (λ (s : InstanceState). can_be_set s x.view.fixed.shape x.view.phase.marks x.view.phase.active port.reference) (beside.0 ∙ was_unset.state)
        ∙ ap (λ b. b && not x.view.fixed.shape.has_event_mode && not (is_marked x.view.fixed.shape x.view.phase.marks port.reference)) (input_there system sound k port is c of x.view.fixed.shape shape (ap is_output_role asked.input))
        ∙ ap (λ b. not b && not (is_marked x.view.fixed.shape x.view.phase.marks port.reference)) events ∙ ap not not_marked in
        subst (λ (y : Call). MayAsk (Some y) x.view) (sym asked.set) ((can, writable system sound k port is c of x.view.fixed.shape shape (ap is_clock_role asked.input), fit), refl)

    may_ask : (asks : Option Call) → (before_step now).asks k port c now ≡ asks → MayAsk asks x.view
    may_ask None h = tt
    may_ask (Some call) h = may_call call (asked_before_step now k port c now call h)

  pub may_turn : MayTurn system (before_step now) k now mids
  may_turn port c x is of there = may_ask port c x is of there _ refl
