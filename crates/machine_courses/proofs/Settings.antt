-- Which variables machines may be set that behave well, and what Gets and Sets leave of a state.
use Rattle.std.proofs.Common.{◌≡◌, ℕ, suc, ◌<◌, ◌==◌, ℤ, Bool, true, false, List, [], ◌∷◌, ◌++◌, Option, Some, None, refl, sym, ap, ◌∙◌, subst, arith, length}
use Rattle.std.specs.Prelude.{All, IsSomeAnd, if◌then◌else◌, option_map, pos}
use Rattle.std.specs.List.{AllZip, slice_get}
use Rattle.std.proofs.lemmas.Bool.{eqb-true}
use Rattle.std.proofs.lemmas.List.Elements.{All-cons, All-head, All-nil, All-tail, All-weaker}
use Rattle.std.proofs.lemmas.Option.{same_Some}
use Rattle.value_types.specs.Shape.{is_clock, is_clock_type, variable_at}
use Rattle.value_types.specs.Values.{Fits}
use Rattle.value_types.specs.declared.shape.Causality.TheVariants as V
use Rattle.value_types.specs.declared.shape.Shape.{Shape}
use Rattle.value_types.specs.declared.shape.Variable.{Variable}
use Rattle.fmi_calls.specs.declared.call.Call.{Call}
use Rattle.fmi_calls.specs.declared.call.Call.TheVariants as C
use Rattle.fmi_calls.specs.Permission.{is_value_type}
use Rattle.fmu_peer.specs.declared.peer.Exchange.{Exchange}
use Rattle.fmu_peer.specs.Machine.{Machine, MachineState, after, written}
use Rattle.system_model.specs.declared.bound.BoundValue.{BoundValue}
use Rattle.system_model.specs.declared.system.Component.{Component}
use Rattle.system_model.specs.declared.system.Port.{Port}
use Rattle.system_model.specs.Bounds.{IsParameterValue}
use Rattle.system_model.specs.Ports.{is_clock_role, is_output_role}
use Rattle.system_model.specs.Sound.{IsSound}
use Rattle.system_model.proofs.CallerLemmas.{true_false, Placed, clock_type_of, events_of, is_input_of, place_of}
use Rattle.run_model.specs.Behaved.{Configuring, Eventing, Initializing, IsSetting, Stepping}
use Rattle.run_model.specs.Initial.{set_call}
use Rattle.run_model.specs.Run.{Run}
use Rattle.slot_calls.specs.Log.{Sent, component_calls, part}
use Rattle.slot_calls.specs.Replies.{state_by}
use Rattle.slot_calls.specs.Slots.{reads_or_sets}
use Rattle.slot_calls.proofs.CallerLemmas.{part_append}
use Rattle.event_iteration.specs.WalkCalls.{AreNew, IsUse, Span, own, use_in}
use Rattle.event_iteration.proofs.ByLog.{all_prefix, value_type}

-- ---- Gets and Sets

-- both leave a state its numbers, and as many values
pub record IsLike (a b : MachineState) : Type 0 where
  pub numbers : b.numbers ≡ a.numbers
  pub values : length b.values ≡ length a.values

written_many : (refs : List ℕ) (xs : List ℤ) (reference : ℕ) (x : ℤ) → length (written refs xs reference x) ≡ length xs
written_many [] xs reference x = refl
written_many (r ∷ refs) [] reference x = refl
written_many (r ∷ refs) (y ∷ xs) reference x = ap suc (written_many refs xs reference x)

like_one : (m : Machine) (s : MachineState) (call : Call) → reads_or_sets call ≡ true → IsLike s (after m s call)
like_one m s (C.Get kind reference) h = record { numbers = refl; values = refl }
like_one m s (C.GetClock reference) h = record { numbers = refl; values = refl }
like_one m s (C.GetInterval reference) h = record { numbers = refl; values = refl }
like_one m s (C.GetShift reference) h = record { numbers = refl; values = refl }
like_one m s (C.Set kind reference x) h = record { numbers = refl; values = written_many m.references s.values reference x }
like_one m s (C.SetClock reference) h = record { numbers = refl; values = written_many m.references s.values reference (pos 1) }
like_one m s call h = absurd (true_false (sym h))

abbrev pub IsQuiet : Exchange → Type 0
IsQuiet e = reads_or_sets e.call ≡ true

pub like_by : (m : Machine) (s : MachineState) (es : List Exchange) → All IsQuiet es → IsLike s (state_by m s es)
like_by m s [] all = record { numbers = refl; values = refl }
like_by m s (e ∷ es) all =
    let one = like_one m s e.call (All-head IsQuiet e es all) in
    let more = like_by m (after m s e.call) es (All-tail IsQuiet e es all) in
    record { numbers = more.numbers ∙ one.numbers; values = more.values ∙ one.values }

names_port : (call : Call) → 0 < use_in call → reads_or_sets call ≡ true
names_port (C.Get kind reference) h = refl
names_port (C.GetClock reference) h = refl
names_port (C.Set kind reference value) h = refl
names_port (C.SetClock reference) h = refl
names_port (C.GetInterval reference) h = refl
names_port (C.GetShift reference) h = refl
names_port call h = absurd (omega (arith, h))

quiet_part : (k : ℕ) (log : List Sent) → All (λ (c : Call). 0 < use_in c) (own k (component_calls log)) → All IsQuiet (part k log)
quiet_part k [] all = All-nil IsQuiet
quiet_part k (s ∷ log) all = by (s.component == k) all (λ rest. quiet_part k log rest) where
  by : (b : Bool) → All (λ (c : Call). 0 < use_in c) (if b then s.exchange.call ∷ own k (component_calls log) else own k (component_calls log)) → (All (λ (c : Call). 0 < use_in c) (own k (component_calls log)) → All IsQuiet (part k log)) →
      All IsQuiet (if b then s.exchange ∷ part k log else part k log)
  by true all on =
      All-cons IsQuiet s.exchange (part k log) (names_port s.exchange.call (All-head (λ (c : Call). 0 < use_in c) s.exchange.call (own k (component_calls log)) all))
      (on (All-tail (λ (c : Call). 0 < use_in c) s.exchange.call (own k (component_calls log)) all))
  by false all on = on all

-- so do the calls of a walk before its last
pub like_walk : (span : Span) (k : ℕ) (log prefix : List Sent) (last : Sent) → log ≡ prefix ++ last ∷ [] → AreNew span (own k (component_calls log)) → (m : Machine) (z : MachineState) → IsLike z (state_by m z (part k prefix))
like_walk span k log prefix last is new m z =
    let names = new.names in
    let all = quiet_part k log (All-weaker (IsUse span) (λ (c : Call). 0 < use_in c) (λ c u. let from = u.from in omega (arith, names, from)) (own k (component_calls log)) new.uses) in
    like_by m z (part k prefix) (all_prefix IsQuiet (part k prefix) (part k (last ∷ [])) (subst (All IsQuiet) (ap (part k) is ∙ part_append k prefix (last ∷ [])) all))

-- ---- what may be set

-- a parameter may be set to a value of its type
pub sets_configuring : (shape : Shape) (b : BoundValue) → IsParameterValue shape b → IsSetting Configuring shape (set_call b)
sets_configuring shape b h = (
  value_type b.kind (ap is_clock_type (sym h.kind) ∙ h.no_clock),
  h.fits,
  subst (λ (o : Option Variable). IsSomeAnd o (λ (v : Variable). (v.kind ≡ Some b.kind) × (v.causality ≡ V.Parameter))) (sym h.at) (h.kind, h.parameter),
)

pub if_is : {X : Type 0} (b : Bool) (o : Option X) (x : X) → (if b then o else None) ≡ Some x → (b ≡ true) × (o ≡ Some x)
if_is true o x h = (refl, h)
if_is false o x h = absurd (cc)

pub set_of : (port : Port) (o : Option ℤ) (call : Call) → option_map (λ x. C.Set port.kind port.reference x) o ≡ Some call → (x : ℤ) × (o ≡ Some x) × (call ≡ C.Set port.kind port.reference x)
set_of port None call h = absurd (cc)
set_of port (Some x) call h = (x, refl, sym (same_Some _ _ h))

zip_none : {X Y : Type 0} (R : X → Y → Type 0) (xs : List X) (ys : List Y) → AllZip R xs ys → (length ys == 0) ≡ true → length xs ≡ 0
zip_none R [] ys zip h = refl
zip_none R (x ∷ xs) [] zip h = absurd zip
zip_none R (x ∷ xs) (y ∷ ys) zip h = absurd (let e : length (y ∷ ys) ≡ 0 = eqb-true (length (y ∷ ys)) 0 h in omega (arith, e))

-- the variable of an input
module _ (r : Run) (sound : IsSound r.system) (p : ℕ) (port : Port) (at : slice_get r.system.ports p ≡ Some port) (input : is_output_role port.role ≡ false) (c : Component) (of : slice_get r.system.components port.component.0 ≡ Some c) where
  abbrev placed : Placed r.system p port
  placed = place_of r.system sound p port at

  under : variable_at c.shape.variables port.reference ≡ Some placed.variable
  under = ap (λ (d : Component). variable_at d.shape.variables port.reference) (same_Some _ _ (sym of ∙ placed.is.of)) ∙ placed.is.there

  -- an input Clock may be made active
  pub sets_clock : is_clock_role port.role ≡ true → IsSetting Eventing c.shape (C.SetClock port.reference)
  sets_clock clock = (
    ap (λ (d : Component). d.shape.has_event_mode) (same_Some _ _ (sym of ∙ placed.is.of)) ∙ events_of r.system p port placed clock,
    subst (λ (o : Option Variable). IsSomeAnd o (λ (v : Variable). (is_clock v ≡ true) × (v.causality ≡ V.Input))) (sym under)
        (ap is_clock_type placed.kind ∙ clock_type_of r.system p port placed ∙ clock, is_input_of r.system p port placed input),
  )

-- another input may be set to a value of its type
module _ (r : Run) (sound : IsSound r.system) (p : ℕ) (port : Port) (at : slice_get r.system.ports p ≡ Some port) (input : is_output_role port.role ≡ false) (plain : is_clock_role port.role ≡ false) (c : Component)
    (of : slice_get r.system.components port.component.0 ≡ Some c) (x : ℤ) (fit : Fits port.kind x) where
  set_type : is_value_type port.kind ≡ true
  set_type = value_type port.kind (clock_type_of r.system p port (place_of r.system sound p port at) ∙ plain)

  set_by : (P : Variable → Type 0) → P (place_of r.system sound p port at).variable → IsSomeAnd (variable_at c.shape.variables port.reference) (λ (v : Variable). (v.kind ≡ Some port.kind) × ((v.causality ≡ V.Input) × P v))
  set_by P h =
      let own = place_of r.system sound p port at in
      subst (λ (o : Option Variable). IsSomeAnd o (λ (v : Variable). (v.kind ≡ Some port.kind) × ((v.causality ≡ V.Input) × P v))) (sym (under r sound p port at input c of)) (own.kind, (is_input_of r.system p port own input, h))

  pub sets_initially : (length port.clocks == 0) ≡ true → IsSetting Initializing c.shape (C.Set port.kind port.reference x)
  sets_initially clockless =
      let own = place_of r.system sound p port at in (
        set_type,
        fit,
        set_by (λ (v : Variable). length v.clocks ≡ 0) (zip_none _ own.variable.clocks port.clocks (sound.ports.clocks p port own.component own.variable own.is) clockless),
      )

  pub sets_eventing : c.shape.has_event_mode ≡ true → IsSetting Eventing c.shape (C.Set port.kind port.reference x)
  sets_eventing events = (set_type, fit, set_by (λ (v : Variable). c.shape.has_event_mode ≡ true) events)

  pub sets_stepping : c.shape.has_event_mode ≡ false → IsSetting Stepping c.shape (C.Set port.kind port.reference x)
  sets_stepping none = (set_type, fit, set_by (λ (v : Variable). c.shape.has_event_mode ≡ false) none)
