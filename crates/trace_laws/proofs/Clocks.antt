-- In each instant of FMUs that behave well each Clock has a value, so that the values are those of an instant in form.
use Rattle.std.proofs.Common.{◌≡◌, ℕ, zero, suc, ◌+◌, ◌<◌, ℤ, pos, Bool, true, List, [], ◌∷◌, length, map, refl, sym, ap, ◌∙◌, subst, inl, inr, arith}
use Rattle.std.specs.Prelude.{Option, Some, None, IfSome, if◌then◌else◌, option_and_then, slice_get}
use Rattle.std.specs.List.{AllZip}
use Rattle.std.proofs.lemmas.Option.{none-some as none_some}
use Rattle.value_types.specs.Shape.{is_clock_type}
use Rattle.value_types.specs.Values.{Fits}
use Rattle.value_types.specs.declared.values.PortType.{PortType}
use Rattle.value_types.specs.declared.values.PortType.TheVariants.{Clock}
use Rattle.fmi_calls.specs.declared.call.Call.TheVariants as C
use Rattle.fmi_calls.specs.declared.call.Grade.TheVariants as G
use Rattle.fmi_calls.specs.Worth.{grade_of}
use Rattle.fmu_peer.specs.Machine.{Machine, MachineState}
use Rattle.system_model.specs.declared.system.Component.{Component}
use Rattle.system_model.specs.declared.system.Role.{Role}
use Rattle.system_model.specs.declared.system.Role.TheVariants.{Input, Output, ClockInput, ClockOutput, TimeClock}
use Rattle.system_model.specs.declared.system.Port.{Port}
use Rattle.system_model.specs.Ports.{is_clock_role, is_output_role, source_of}
use Rattle.system_model.specs.Sound.{IsSound}
use Rattle.system_model.proofs.CallerLemmas.{true_false, clock_type_of, events_of, kind_of_clock, place_of, source_at}
use Rattle.run_model.specs.Run.{IsFmu, Run, Situation, at_fmu, each_from}
use Rattle.system_model.specs.Values.{value}
use Rattle.run_model.specs.Inputs.{state_with}
use Rattle.run_model.specs.Timers.{IsDue}
use Rattle.run_model.specs.Equations.{IsTickValue, Solves, SolvesAt, ticking, timer_of, value_in}
use Rattle.run_model.specs.AfterInstant.{written}
use Rattle.run_model.specs.Machines.{AreFitting}
use Rattle.run_model.specs.Behaved.{AnswersAt, BehavesInInstant}
use Rattle.trace_reading.specs.Form.{MayHave, kinds_of}
use Rattle.trace_reading.specs.Written.{port_told, ports_told}
use Rattle.trace_laws.proofs.Replies.{HasValue, answered}

-- ---- FMUs by their places

at_place : {X : Type 0} (xs : List X) (i : ℕ) → i < length xs → (x : X) × (slice_get xs i ≡ Some x)
at_place [] i within = absurd (omega (arith, within))
at_place (x ∷ xs) zero within = (x, refl)
at_place (x ∷ xs) (suc i) within = at_place xs i (omega (arith, within))

inside : {X : Type 0} (xs : List X) (i : ℕ) (x : X) → slice_get xs i ≡ Some x → i < length xs
inside [] i x at = absurd (none_some x at)
inside (y ∷ xs) zero x at = omega arith
inside (y ∷ xs) (suc i) x at = let more : i < length xs = inside xs i x at in omega (arith, more)

each_at : {X : Type 0} (f : ℕ → Component → Machine → MachineState → X) (k i : ℕ) (cs : List Component) (ms : List Machine) (ss : List MachineState) (c : Component) (m : Machine) (s : MachineState) →
    slice_get cs i ≡ Some c → slice_get ms i ≡ Some m → slice_get ss i ≡ Some s → slice_get (each_from f k cs ms ss) i ≡ Some (f (k + i) c m s)
each_at f k i [] ms ss c m s of_c of_m of_s = absurd (none_some c of_c)
each_at f k i (x ∷ cs) [] ss c m s of_c of_m of_s = absurd (none_some m of_m)
each_at f k i (x ∷ cs) (y ∷ ms) [] c m s of_c of_m of_s = absurd (none_some s of_s)
each_at f k zero (x ∷ cs) (y ∷ ms) (z ∷ ss) c m s of_c of_m of_s =
    let place : k ≡ k + 0 = omega arith in
    let same_c : x ≡ c = cc of_c in
    let same_m : y ≡ m = cc of_m in
    let same_s : z ≡ s = cc of_s in
    ap Some (ap (λ n. f n x y z) place ∙ ap (λ (w : Component). f (k + 0) w y z) same_c ∙ ap (λ (w : Machine). f (k + 0) c w z) same_m ∙ ap (f (k + 0) c m) same_s)
each_at f k (suc i) (x ∷ cs) (y ∷ ms) (z ∷ ss) c m s of_c of_m of_s =
    let place : suc k + i ≡ k + suc i = omega arith in
    each_at f (suc k) i cs ms ss c m s of_c of_m of_s ∙ ap (λ n. Some (f n c m s)) place

at_fmu-is : {X : Type 0} (r : Run) (states : List MachineState) (i : ℕ) (c : Component) (m : Machine) (s : MachineState) (f : Component → Machine → MachineState → Option X) → IsFmu r states i c m s → at_fmu r states i f ≡ f c m s
at_fmu-is r states i c m s f fmu =
    ap (λ o. option_and_then (λ x. option_and_then (λ y. option_and_then (λ z. f x y z) (slice_get states i)) (slice_get r.machines i)) o) fmu.component
    ∙ ap (λ o. option_and_then (λ y. option_and_then (λ z. f c y z) (slice_get states i)) o) fmu.machine
    ∙ ap (λ o. option_and_then (λ z. f c m z) o) fmu.state

-- ---- a Clock that is an output

-- an output Clock in a state: its FMU has answered well whether it is active
record IsAsked (r : Run) (V : List (Option ℤ)) (port : Port) (c : Component) (m : Machine) (s : MachineState) : Type 0 where
  kind : port.kind ≡ Clock
  good : grade_of c.shape (C.GetClock port.reference) (m.look (state_with r.system.ports V port.component.0 m s) (C.GetClock port.reference)) ≡ G.Good

ticking_value : (r : Run) (V : List (Option ℤ)) (port : Port) (c : Component) (m : Machine) (s : MachineState) → IsAsked r V port c m s → HasValue (ticking m (state_with r.system.ports V port.component.0 m s) port)
ticking_value r V port c m s asked =
    let shows = answered c.shape port.reference (m.look (state_with r.system.ports V port.component.0 m s) (C.GetClock port.reference)) asked.good in
    (shows.0, ap (λ (k : PortType). value_in k (m.look (state_with r.system.ports V port.component.0 m s) (C.GetClock port.reference))) asked.kind ∙ shows.1)

-- with event mode the state with the values written
written_at : (r : Run) (s : Situation) (V : List (Option ℤ)) (i : ℕ) (c : Component) (m : Machine) (z : MachineState) → IsFmu r s.states i c m z → c.shape.has_event_mode ≡ true → IsFmu r (written r s V) i c m (state_with r.system.ports V i m z)
written_at r s V i c m z fmu events =
    let write : ℕ → Component → Machine → MachineState → MachineState = λ j d n state. if d.shape.has_event_mode then state_with r.system.ports V j n state else state in
    let place : 0 + i ≡ i = omega arith in
    record {
      component = fmu.component;
      machine = fmu.machine;
      state = each_at write 0 i r.system.components r.machines s.states c m z fmu.component fmu.machine fmu.state
          ∙ ap (λ (j : ℕ). Some (write j c m z)) place ∙ ap (λ (b : Bool). Some (if b then state_with r.system.ports V i m z else z)) events;
    }

same_value : (a b : Option ℤ) → a ≡ b → HasValue b → HasValue a
same_value a b same has = (has.0, same ∙ has.1)

module _ (r : Run) (sound : IsSound r.system) (count : length r.machines ≡ length r.system.components)
    (s : Situation) (states : length s.states ≡ length r.system.components) (V : List (Option ℤ)) (solves : Solves r s V) (behave : (i : ℕ) → BehavesInInstant r s V i) where
  fmu_of : (i : ℕ) (c : Component) → slice_get r.system.components i ≡ Some c → (m : Machine) × (z : MachineState) × IsFmu r s.states i c m z
  fmu_of i c of =
      let within : i < length r.system.components = inside r.system.components i c of in
      let m = at_place r.machines i (omega (arith, within, count)) in
      let z = at_place s.states i (omega (arith, within, states)) in
      (m.0, z.0, record { component = of; machine = m.1; state = z.1 })

  output_value : (p : ℕ) (port : Port) → slice_get r.system.ports p ≡ Some port → port.role ≡ ClockOutput → HasValue (value V p)
  output_value p port is role =
      let placed = place_of r.system sound p port is in
      let clock : is_clock_role port.role ≡ true = ap is_clock_role role in
      let found = fmu_of port.component.0 placed.component placed.is.of in
      let asks : AnswersAt ClockOutput r s V p port = subst (λ (w : Role). AnswersAt w r s V p port) role ((behave port.component.0).ports p port is refl) in
      by placed.component found.0 found.1 found.2 (record {
        kind = kind_of_clock r.system p port placed clock;
        good = asks placed.component found.0 (state_with r.system.ports V port.component.0 found.0 found.1)
            (written_at r s V port.component.0 placed.component found.0 found.1 found.2 (events_of r.system p port placed clock));
      })
    where
      equation : SolvesAt ClockOutput r s V p port (value s.before p) (value V p)
      equation = subst (λ (w : Role). SolvesAt w r s V p port (value s.before p) (value V p)) role (solves.equations p port is)

      by : (c : Component) (m : Machine) (z : MachineState) → IsFmu r s.states port.component.0 c m z → IsAsked r V port c m z → HasValue (value V p)
      by c m z fmu asked =
          let ask : Component → Machine → MachineState → Option ℤ = λ d n state. ticking n (state_with r.system.ports V port.component.0 n state) port in
          same_value (value V p) (ticking m (state_with r.system.ports V port.component.0 m z) port) (equation ∙ at_fmu-is r s.states port.component.0 c m z ask fmu) (ticking_value r V port c m z asked)

  -- ---- any Clock

  output_clock : (p : ℕ) (port : Port) → slice_get r.system.ports p ≡ Some port → (role : Role) → port.role ≡ role → is_output_role role ≡ true → is_clock_role role ≡ true → HasValue (value V p)
  output_clock p port is (Input feed) e output clock = absurd (true_false (sym output))
  output_clock p port is Output e output clock = absurd (true_false (sym clock))
  output_clock p port is (ClockInput feed) e output clock = absurd (true_false (sym output))
  output_clock p port is ClockOutput e output clock = output_value p port is e
  output_clock p port is (TimeClock timing) e output clock = absurd (true_false (sym output))

  ticked : (Ticks : Type 0) (v : Option ℤ) → IsTickValue Ticks v → HasValue v
  ticked Ticks v (inl h) = (pos 1, h.1)
  ticked Ticks v (inr h) = (pos 0, h.1)

  clock_value : (p : ℕ) (port : Port) → slice_get r.system.ports p ≡ Some port → is_clock_role port.role ≡ true → HasValue (value V p)
  clock_value p port is clock = by port.role refl clock (solves.equations p port is)
    where
      from_source : (q : ℕ) → source_of port.role ≡ Some q → value V p ≡ value V q → HasValue (value V p)
      from_source q from same =
          let source = source_at r.system sound p q port is from in
          let there = output_clock q source.source source.is source.source.role refl source.feed.output (source.clock ∙ clock) in
          (there.0, same ∙ there.1)

      by : (role : Role) → port.role ≡ role → is_clock_role role ≡ true → SolvesAt role r s V p port (value s.before p) (value V p) → HasValue (value V p)
      by (Input feed) e is_clock h = absurd (true_false (sym is_clock))
      by Output e is_clock h = absurd (true_false (sym is_clock))
      by (ClockInput None) e is_clock h = (pos 0, h)
      by (ClockInput (Some feed)) e is_clock h = from_source feed.from.0 (ap source_of e) h
      by ClockOutput e is_clock h = output_value p port is e
      by (TimeClock timing) e is_clock h = ticked (IsDue r.plan.start (timer_of s.timers p) s.t s.n) (value V p) h

  -- ---- the values of the instant

  may_have : (kind : PortType) (o : Option ℤ) → IfSome o (Fits kind) → (kind ≡ Clock → HasValue o) → MayHave kind o
  may_have kind None fits has = λ clock. let v = has clock in none_some v.0 v.1
  may_have kind (Some v) fits has = fits

  pub port_may : AreFitting r.system V → (p : ℕ) (port : Port) → slice_get r.system.ports p ≡ Some port → MayHave port.kind (value V p)
  port_may fits p port is =
      may_have port.kind (value V p) (fits p port is)
      (λ kind. clock_value p port is (sym (clock_type_of r.system p port (place_of r.system sound p port is)) ∙ ap (λ (k : PortType). is_clock_type (Some k)) kind))

zip_by_place : (components : List Component) (ports : List Port) (values : List (Option ℤ)) → length values ≡ length ports →
    ((p : ℕ) (port : Port) → slice_get ports p ≡ Some port → MayHave port.kind (value values p)) → AllZip MayHave (kinds_of (map (port_told components) ports)) values
zip_by_place components [] [] size h = tt
zip_by_place components [] (v ∷ values) size h = absurd (omega (arith, size))
zip_by_place components (port ∷ ports) [] size h = absurd (omega (arith, size))
zip_by_place components (port ∷ ports) (v ∷ values) size h = (h 0 port refl, zip_by_place components ports values (omega (arith, size)) (λ p x at. h (suc p) x at))

-- the values of an instant that fit have the form of a trace's
pub values_in_form : (r : Run) → IsSound r.system → length r.machines ≡ length r.system.components → (s : Situation) → length s.states ≡ length r.system.components → (V : List (Option ℤ)) → Solves r s V →
    ((i : ℕ) → BehavesInInstant r s V i) → AreFitting r.system V → AllZip MayHave (kinds_of (ports_told r.system)) V
values_in_form r sound count s states V solves behave fits =
    zip_by_place r.system.components r.system.ports V solves.places (port_may r sound count s states V solves behave fits)
