-- Where the instances stand after the last Updates of a point, and what the values are that were found.
use Rattle.std.proofs.Common.{◌≡◌, ℕ, ◌<◌, Bool, true, false, List, [], ◌∷◌, Option, Some, None, Ok, inl, refl, sym, ap, ◌∙◌, subst, arith, length, get_or, map, replicate, zero, suc}
use Rattle.std.specs.Int.{w128}
use Rattle.std.specs.Prelude.{All, ℤ, ◌||◌, FitsSigned, IfSome, if◌then◌else◌, slice_get}
use Rattle.std.proofs.lemmas.Int.{ints}
use Rattle.std.proofs.lemmas.List.{get_or_default}
use Rattle.std.proofs.lemmas.List.Elements.{All-cons, All-nil}
use Rattle.std.proofs.lemmas.Option.{slice_get-get_or}
use Rattle.value_types.specs.declared.shape.Shape.{Shape}
use Rattle.value_types.specs.declared.values.PortType.{PortType}
use Rattle.value_types.specs.declared.values.PortType.TheVariants as T
use Rattle.value_types.specs.Values.{Fits}
use Rattle.fmi_calls.specs.declared.call.Call.TheVariants as C
use Rattle.fmi_calls.specs.declared.call.Reply.{Reply}
use Rattle.fmu_peer.specs.CloseAll.{Instance}
use Rattle.system_model.specs.declared.system.Port.{Port}
use Rattle.system_model.specs.declared.system.System.{System}
use Rattle.run_model.specs.AfterInstant.{asks_again}
use Rattle.run_model.specs.Machines.{AreFitting}
use Rattle.event_iteration.specs.Participants.{AreUnfedAwaited}
use Rattle.system_model.specs.Values.{value}
use Rattle.slot_calls.specs.Carried.{IsWide}
use Rattle.slot_calls.specs.Log.{Sent}
use Rattle.slot_calls.specs.Stage.{Stage, has_events, shapes, shapes_of}
use Rattle.event_iteration.specs.declared.updates.Updated.{Updated}
use Rattle.event_iteration.specs.Initialization.{no_values}
use Rattle.event_iteration.specs.Updates.{answer_passes, any_answer, events_told, first_event, other_answers, updated_by, updating}
use Rattle.calling_sequence.specs.Place.{IsSettled, IsTaking}
use Rattle.calling_sequence.specs.Ready.{HaveModes}
use Rattle.calling_sequence.proofs.Chains.{stage_passing}
use Rattle.calling_sequence.proofs.Phases.{IsLast, update_settles, update_stays_settled}
use Rattle.calling_sequence.proofs.Sizes.{there_is}

-- none of the answers passes a test
none_passes : (test : Reply → Bool) (log : List Sent) → any_answer test log ≡ false → All (λ (s : Sent). answer_passes test s.exchange.result ≡ false) log
none_passes test [] h = All-nil (λ (s : Sent). answer_passes test s.exchange.result ≡ false)
none_passes test (s ∷ log) h =
    All-cons (λ (r : Sent). answer_passes test r.exchange.result ≡ false) s log (neither (answer_passes test s.exchange.result) (any_answer test log) h).0
    (none_passes test log (neither (answer_passes test s.exchange.result) (any_answer test log) h).1) where
      neither : (a b : Bool) → (a || b) ≡ false → (a ≡ false) × (b ≡ false)
      neither true b h = absurd (cc)
      neither false b h = (refl, h)

-- Updates none of which asks for another instant leave the point done
module _ {A : Type 0} (f : A → Instance) (olds news : List A) where
  pub updated_settled : (t stop step : ℕ) (u : Updated) → Stage (updating (shapes (map f olds))) updated_by (map f olds) (map f news) (Ok u) → u.again ≡ false → All (λ (a : A). IsTaking t stop step (f a).view) olds →
      All (λ (a : A). IsSettled t stop step (f a).view) news
  updated_settled t stop step u s last all =
      stage_passing f has_events (λ shape. C.Update) (IsTaking t stop step) (IsSettled t stop step) IsLast (update_settles t stop step) (update_stays_settled t stop step)
      olds news s.log s.told s.says.0 (none_passes asks_again s.log (ap (λ (x : Updated). x.again) (sym s.says.1) ∙ last)) all

-- a value of a type has at most 128 bits
fits_wide : (kind : PortType) (value : ℤ) → Fits kind value → FitsSigned w128 value
fits_wide T.Int8 value fits = omega (arith, ints)
fits_wide T.UInt8 value fits = omega (arith, ints)
fits_wide T.Int16 value fits = omega (arith, ints)
fits_wide T.UInt16 value fits = omega (arith, ints)
fits_wide T.Int32 value fits = omega (arith, ints)
fits_wide T.UInt32 value fits = omega (arith, ints)
fits_wide T.Int64 value fits = omega (arith, ints)
fits_wide T.UInt64 value fits = omega (arith, ints)
fits_wide T.Boolean value fits = omega (arith, ints)
fits_wide T.Enumeration value fits = omega (arith, ints)
fits_wide T.Clock value fits = omega (arith, ints)

weaken : (kind : PortType) (o : Option ℤ) → IfSome o (Fits kind) → IsWide o
weaken kind None h = tt
weaken kind (Some x) h = fits_wide kind x h

-- values of the ports' types
pub wide_all : (system : System) (values : List (Option ℤ)) → length values ≡ length system.ports → AreFitting system values → All IsWide values
wide_all system values places fits = λ k d w.
    let within : k < length system.ports = omega (arith, places, w) in
    let port = there_is system.ports k within in
    let is : slice_get system.ports k ≡ Some port.0 = slice_get-get_or system.ports k port.0 within ∙ ap Some (sym port.1) in
    weaken port.0.kind (get_or values k d) (subst (λ (o : Option ℤ). IfSome o (Fits port.0.kind)) (get_or_default values k None d w) (fits k port.0 is))

-- ---- no values

abbrev no_value : Option ℤ
no_value = None

nones : (ports : List Port) → replicate (length ports) no_value ≡ map (λ (port : Port). no_value) ports
nones [] = refl
nones (port ∷ ports) = ap (λ (vs : List (Option ℤ)). no_value ∷ vs) (nones ports)

pub no_values_are : (system : System) (n : ℕ) (values : List (Option ℤ)) → values ≡ replicate n no_value → n ≡ length system.ports → values ≡ no_values system
no_values_are system n values is places = is ∙ ap (λ (m : ℕ). replicate m no_value) places ∙ nones system.ports

none_at : (ports : List Port) (p : ℕ) → value (map (λ (port : Port). no_value) ports) p ≡ None
none_at [] p = refl
none_at (port ∷ ports) zero = refl
none_at (port ∷ ports) (suc p) = none_at ports p

pub none_unfed : (system : System) (values : List (Option ℤ)) (pending : List Bool) → values ≡ no_values system → AreUnfedAwaited system values pending
none_unfed system values pending is j p port at there role = inl (ap (λ (vs : List (Option ℤ)). value vs p) is ∙ none_at system.ports p)

pub none_fit : (system : System) (values : List (Option ℤ)) → values ≡ no_values system → AreFitting system values
none_fit system values is p port at = subst (λ (o : Option ℤ). IfSome o (Fits port.kind)) (sym (ap (λ (vs : List (Option ℤ)). value vs p) is ∙ none_at system.ports p)) tt

-- ---- event times

mode_told : (t : ℕ) (s : Shape) (ss : List Shape) (log : List Sent) → HaveModes ss (events_told t ss (other_answers log)) → HaveModes ss (events_told t ss log) → (b : Bool) → has_events s ≡ b →
    HaveModes (s ∷ ss) (if b then first_event t log ∷ events_told t ss (other_answers log) else None ∷ events_told t ss log)
mode_told t s ss log asked unasked true is = ((λ none. absurd (let wrong : true ≡ false = sym is ∙ none in cc)), asked)
mode_told t s ss log asked unasked false is = ((λ none. refl), unasked)

modes_told : (t : ℕ) (ss : List Shape) (log : List Sent) → HaveModes ss (events_told t ss log)
modes_told t [] log = tt
modes_told t (s ∷ ss) log = mode_told t s ss log (modes_told t ss (other_answers log)) (modes_told t ss log) (has_events s) refl

pub told_modes : (t : ℕ) (system : System) (olds : List Instance) → shapes olds ≡ shapes_of system → (log : List Sent) (events : List (Option ℕ)) → events ≡ events_told t (shapes olds) log → HaveModes (shapes_of system) events
told_modes t system olds fits log events is = subst (λ (es : List (Option ℕ)). HaveModes (shapes_of system) es) (sym (is ∙ ap (λ (ss : List Shape). events_told t ss log) fits)) (modes_told t (shapes_of system) log)
