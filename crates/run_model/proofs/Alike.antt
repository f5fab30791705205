-- The equation of a port is about what the port needs.
use Rattle.std.proofs.Common.{◌≡◌, ℕ, suc, ℤ, pos, Bool, true, false, not, ◌&&◌, ◌||◌, List, [], ◌∷◌, length, refl, sym, ◌∙◌, ap, subst, get_or}
use Rattle.std.specs.Prelude.{Option, Some, None, IsSomeAnd, unwrap_or, option_and_then, if◌then◌else◌, slice_get, ◌==◌, position}
use Rattle.std.specs.Option.{option_map}
use Rattle.std.specs.List.{list_any}
use Rattle.std.proofs.lemmas.Bool.{eqb-true}
use Rattle.std.proofs.lemmas.Option.{none-some as none_some, same_Some, slice_get-map, slice_get-get_or}
use Rattle.std.proofs.lemmas.List.Quantifiers.{position-Some}
use Rattle.sim_base.specs.declared.numbers.PortId.{PortId}
use Rattle.value_types.specs.Shape.{AgreeFor, is_declared, is_input, is_undeclared, variable_at}
use Rattle.value_types.specs.declared.shape.Causality.TheVariants as V
use Rattle.value_types.specs.declared.shape.Variable.{Variable}
use Rattle.value_types.specs.declared.shape.Shape.{Shape}
use Rattle.value_types.specs.declared.values.PortType.{PortType}
use Rattle.fmi_calls.specs.declared.call.Call.{Call}
use Rattle.fmi_calls.specs.declared.call.Call.TheVariants as C
use Rattle.fmu_peer.specs.Machine.{MachineState, Machine, all_written, IsLawful, IsMachineOf, output_of}
use Rattle.system_model.specs.declared.system.Component.{Component}
use Rattle.system_model.specs.declared.system.Role.{Role}
use Rattle.system_model.specs.declared.system.Role.TheVariants.{Input, Output, ClockInput, ClockOutput, TimeClock}
use Rattle.system_model.specs.Carried.{carried}
use Rattle.system_model.specs.declared.system.Feed.{Feed}
use Rattle.system_model.specs.declared.system.Port.{Port}
use Rattle.system_model.specs.declared.system.System.{System}
use Rattle.system_model.specs.Ports.{port_numbers, is_output_role, is_clock_role}
use Rattle.system_model.specs.Needs.{DependsOn, Needs, ByClock, ByDependency}
use Rattle.system_model.specs.Sound.{IsSound}
use Rattle.system_model.proofs.CallerLemmas.{at_contains, found_under, true_false, Placed, place_of, is_output_of, is_input_of, events_of}
use Rattle.run_model.specs.Run.{Run, Situation, IsFmu, at_fmu}
use Rattle.system_model.specs.Values.{value, is_active, is_present}
use Rattle.run_model.specs.Inputs.{written_by, written_at_port, under, is_under, state_written, state_with}
use Rattle.run_model.specs.Equations.{fed, output_value, shown, ticking, value_in}
use Rattle.run_model.specs.Machines.{AreMachines, AreStates, IsStateOf}
use Rattle.run_model.proofs.Written.{all_written-get, all_written-length}

-- V and W agree at what p needs, and at what that needs
pub record Alike (system : System) (p : ℕ) (V W : List (Option ℤ)) : Type 0 where
  pub direct : (q : ℕ) → Needs system p q → value V q ≡ value W q
  pub further : (q c : ℕ) → Needs system p q → Needs system q c → value V c ≡ value W c

-- ---- presence

clocks_alike : (xs : List PortId) (V W : List (Option ℤ)) → ((k : ℕ) (c : PortId) → slice_get xs k ≡ Some c → value V c.0 ≡ value W c.0) →
    list_any (λ (c : PortId). is_active (value V c.0)) xs ≡ list_any (λ (c : PortId). is_active (value W c.0)) xs
clocks_alike [] V W h = refl
clocks_alike (x ∷ xs) V W h =
    let here : is_active (value V x.0) ≡ is_active (value W x.0) = ap is_active (h 0 x refl) in
    let there : list_any (λ (c : PortId). is_active (value V c.0)) xs ≡ list_any (λ (c : PortId). is_active (value W c.0)) xs =
    clocks_alike xs V W (λ k c at. h (suc k) c at) in
    ap (λ b. b || list_any (λ (c : PortId). is_active (value V c.0)) xs) here ∙ ap (λ b. is_active (value W x.0) || b) there

-- presence is about the Clocks
pub present_alike : (system : System) (p : ℕ) (port : Port) (V W : List (Option ℤ)) → slice_get system.ports p ≡ Some port →
    ((q : ℕ) → Needs system p q → value V q ≡ value W q) → is_present port V ≡ is_present port W
present_alike system p port V W is h =
    ap (λ b. is_clock_role port.role || length port.clocks == 0 || b)
    (clocks_alike port.clocks V W (λ k c at. h c.0 (ByClock port is (at_contains (port_numbers port.clocks) k c.0 (slice_get-map (λ (x : PortId). x.0) port.clocks k ∙ ap (option_map (λ (x : PortId). x.0)) at)))))

-- ---- what is written

pub written_by-alike : (role : Role) (port : Port) (V W : List (Option ℤ)) (v w : Option ℤ) → v ≡ w → is_present port V ≡ is_present port W →
    written_by role port V v ≡ written_by role port W w
written_by-alike (Input None) port V W v w here present = refl
written_by-alike (Input (Some feed)) port V W v w here present = ap (λ b. if b then v else None) present ∙ ap (λ x. if is_present port W then x else None) here
written_by-alike Output port V W v w here present = refl
written_by-alike (ClockInput feed) port V W v w here present = ap (λ x. if is_active x then Some (pos 1) else None) here
written_by-alike ClockOutput port V W v w here present = refl
written_by-alike (TimeClock timing) port V W v w here present = ap (λ x. if is_active x then Some (pos 1) else None) here

-- nothing is written at an output
written_by-output : (role : Role) (port : Port) (V : List (Option ℤ)) (v : Option ℤ) → is_output_role role ≡ true → written_by role port V v ≡ None
written_by-output (Input feed) port V v h = absurd (true_false (sym h))
written_by-output Output port V v h = refl
written_by-output (ClockInput feed) port V v h = absurd (true_false (sym h))
written_by-output ClockOutput port V v h = refl
written_by-output (TimeClock timing) port V v h = absurd (true_false (sym h))

pub written_at-is : (ports : List Port) (V : List (Option ℤ)) (q : ℕ) (on : Port) → slice_get ports q ≡ Some on → written_at_port ports V q ≡ written_by on.role on V (value V q)
written_at-is ports V q on is = ap (λ o. option_and_then (λ (x : Port). written_by x.role x V (value V q)) o) is

pub written_at-output : (ports : List Port) (V : List (Option ℤ)) (q : ℕ) (on : Port) → slice_get ports q ≡ Some on → is_output_role on.role ≡ true → written_at_port ports V q ≡ None
written_at-output ports V q on is out = written_at-is ports V q on is ∙ written_by-output on.role on V (value V q) out

pub outputs_alike : (ports : List Port) (V W : List (Option ℤ)) (q : ℕ) (on : Port) → slice_get ports q ≡ Some on → is_output_role on.role ≡ true → written_at_port ports V q ≡ written_at_port ports W q
outputs_alike ports V W q on is out = written_at-output ports V q on is out ∙ sym (written_at-output ports W q on is out)

-- ---- what is found under a reference of a component

pub record Found (ports : List Port) (i reference q : ℕ) : Type 0 where
  pub port : Port
  pub is : slice_get ports q ≡ Some port
  pub component : port.component.0 ≡ i
  pub under : port.reference ≡ reference

pub both : (a b : Bool) → (a && b) ≡ true → (a ≡ true) × (b ≡ true)
both true b e = (refl, e)
both false b e = absurd (true_false (sym e))

pub found_at : (ports : List Port) (i reference q : ℕ) → position (is_under i reference) ports ≡ Some q → Found ports i reference q
found_at [] i reference q h = absurd (none_some _ h)
found_at (d ∷ ports) i reference q h =
    let found = position-Some (is_under i reference) (d ∷ ports) q d h in
    let at : Port = get_or (d ∷ ports) q d in
    let parts = both (at.component.0 == i) (at.reference == reference) found.1 in
    record { port = at; is = slice_get-get_or (d ∷ ports) q d found.0; component = eqb-true at.component.0 i parts.0; under = eqb-true at.reference reference parts.1 }

-- ---- what an output shows

-- what is written at the ports of an output's FMU is alike as far as the output depends on it
pub record AlikeFor (system : System) (initializing : Bool) (p : ℕ) (w z : ℕ → Option ℤ) : Type 0 where
  pub on : (q : ℕ) → DependsOn system initializing p q → w q ≡ z q
  pub outputs : (q : ℕ) (other : Port) → slice_get system.ports q ≡ Some other → is_output_role other.role ≡ true → w q ≡ z q

declared_of : (a b : Bool) → (a && not b) ≡ false → a ≡ true → b ≡ true
declared_of true true e t = refl
declared_of true false e t = absurd (true_false e)
declared_of false b e t = absurd (true_false (sym t))

-- then so is what is written under what the output depends on
under_alike : (system : System) → IsSound system → (b : Bool) (p : ℕ) (port : Port) (placed : Placed system p port) (w z : ℕ → Option ℤ) → is_output_role port.role ≡ true → AlikeFor system b p w z →
    (k : ℕ) (v : Variable) → slice_get placed.component.shape.variables k ≡ Some v → is_undeclared placed.component.shape b port.reference v ≡ false →
    under system.ports w port.component.0 v.reference ≡ under system.ports z port.component.0 v.reference
under_alike system sound b p port placed w z output alike k v there declared =
    (elim (position (is_under port.component.0 v.reference) system.ports) as (λ o. position (is_under port.component.0 v.reference) system.ports ≡ o → option_and_then w o ≡ option_and_then z o) [
      | None ↦ λ e. refl
      | Some q ↦ λ e.
          let found = found_at system.ports port.component.0 v.reference q e in
          ((elim (is_output_role found.port.role) as (λ d. is_output_role found.port.role ≡ d → w q ≡ z q) [
            | true ↦ λ out. alike.outputs q found.port found.is out
            | false ↦ λ inp. alike.on q (depends q found inp)
          ]) refl)
    ]) refl
  where
    depends : (q : ℕ) (found : Found system.ports port.component.0 v.reference q) → is_output_role found.port.role ≡ false → DependsOn system b p q
    depends q found inp =
        let at = place_of system sound q found.port found.is in
        let same : at.component ≡ placed.component = same_Some _ _ (sym at.is.of ∙ ap (slice_get system.components) found.component ∙ placed.is.of) in
        let under_v : variable_at placed.component.shape.variables v.reference ≡ Some v = found_under (λ (x : Variable). x.reference) placed.component.shape.variables k v placed.shape.variables.distinct there in
        let under_on : variable_at placed.component.shape.variables found.port.reference ≡ Some v = ap (variable_at placed.component.shape.variables) found.under ∙ under_v in
        let is_v : at.variable ≡ v = same_Some _ _ (sym at.is.there ∙ ap (λ (c : Component). variable_at c.shape.variables found.port.reference) same ∙ under_on) in
        let input : is_input v.causality ≡ true = ap (λ (x : Variable). is_input x.causality) (sym is_v) ∙ ap is_input (is_input_of system q found.port at inp) in
        record {
          port = port;
          on = found.port;
          component = placed.component;
          at = placed.is.at;
          there = found.is;
          of = placed.is.of;
          same = found.component;
          output = output;
          declared = subst (λ o. IsSomeAnd o (λ (x : Variable). is_declared placed.component.shape b port.reference x ≡ true)) (sym under_on) (declared_of (is_input v.causality) (is_declared placed.component.shape b port.reference v) declared input);
        }

initial_or : (b e : Bool) → (b ≡ false → e ≡ true) → e ≡ false → b ≡ true
initial_or true e h n = refl
initial_or false e h n = absurd (true_false (sym (h refl) ∙ n))

-- an output looks alike
pub look_alike : (system : System) → IsSound system → (b : Bool) (p : ℕ) (port : Port) (placed : Placed system p port) (m : Machine) (s : MachineState) (w z : ℕ → Option ℤ) → is_output_role port.role ≡ true →
    (b ≡ false → placed.component.shape.has_event_mode ≡ true) → IsMachineOf placed.component.shape m → IsLawful placed.component.shape m → IsStateOf placed.component.shape b m s → AlikeFor system b p w z →
    (call : Call) → output_of call ≡ Some port.reference →
    m.look (state_written system.ports w port.component.0 m s) call ≡ m.look (state_written system.ports z port.component.0 m s) call
look_alike system sound b p port placed m s w z output event machine lawful fits alike call at =
    let shape : Shape = placed.component.shape in
    let xs = all_written m.references (under system.ports w port.component.0) s.values in
    let ys = all_written m.references (under system.ports z port.component.0) s.values in
    let agree : AgreeFor shape b port.reference xs ys = record {
      first = all_written-length m.references (under system.ports w port.component.0) s.values ∙ fits.values;
      second = all_written-length m.references (under system.ports z port.component.0) s.values ∙ fits.values;
      each = λ k v there declared.
          let at_k : slice_get m.references k ≡ Some v.reference =
          ap (λ rs. slice_get rs k) machine.references ∙ slice_get-map (λ (x : Variable). x.reference) shape.variables k ∙ ap (option_map (λ (x : Variable). x.reference)) there in
          all_written-get m.references (under system.ports w port.component.0) s.values k v.reference at_k
          ∙ ap (λ o. option_map (λ x. unwrap_or o x) (slice_get s.values k)) (under_alike system sound b p port placed w z output alike k v there declared)
          ∙ sym (all_written-get m.references (under system.ports z port.component.0) s.values k v.reference at_k);
    } in
    let is_output : IsSomeAnd (variable_at shape.variables port.reference) (λ (v : Variable). v.causality ≡ V.Output) =
    subst (λ o. IsSomeAnd o (λ (v : Variable). v.causality ≡ V.Output)) (sym placed.is.there) (is_output_of system p port placed output) in
    lawful call port.reference s xs ys at is_output (λ none. fits.mode ∙ initial_or b shape.has_event_mode event none)
    (subst (λ d. AgreeFor shape d port.reference xs ys) (sym fits.mode) agree)

-- in an instant the ports that p depends on are written alike
pub written_alike : (system : System) (p : ℕ) (V W : List (Option ℤ)) → Alike system p V W → (q : ℕ) (d : DependsOn system false p q) → d.component.shape.has_event_mode ≡ true →
    written_at_port system.ports V q ≡ written_at_port system.ports W q
written_alike system p V W alike q d events =
    let needs : Needs system p q = ByDependency d events in
    written_at-is system.ports V q d.on d.there
    ∙ written_by-alike d.on.role d.on V W (value V q) (value W q) (alike.direct q needs) (present_alike system q d.on V W d.there (λ c n. alike.further q c needs n))
    ∙ sym (written_at-is system.ports W q d.on d.there)

-- ---- what the FMUs of a run show

-- where an FMU shows the same, the same is seen of it
pub at_fmu-same : {X : Type 0} (r : Run) (states : List MachineState) (i : ℕ) (f g : Component → Machine → MachineState → Option X) →
    ((c : Component) (m : Machine) (s : MachineState) → IsFmu r states i c m s → f c m s ≡ g c m s) → at_fmu r states i f ≡ at_fmu r states i g
at_fmu-same {X} r states i f g h =
    (elim (slice_get r.system.components i) as (λ o. slice_get r.system.components i ≡ o →
    option_and_then (λ c. option_and_then (λ m. option_and_then (λ s. f c m s) (slice_get states i)) (slice_get r.machines i)) o ≡ option_and_then (λ c. option_and_then (λ m. option_and_then (λ s. g c m s) (slice_get states i)) (slice_get r.machines i)) o) [
      | None ↦ λ e. refl
      | Some c ↦ λ e. (elim (slice_get r.machines i) as (λ o. slice_get r.machines i ≡ o →
          option_and_then (λ m. option_and_then (λ s. f c m s) (slice_get states i)) o ≡ option_and_then (λ m. option_and_then (λ s. g c m s) (slice_get states i)) o) [
            | None ↦ λ e2. refl
            | Some m ↦ λ e2. (elim (slice_get states i) as (λ o. slice_get states i ≡ o → option_and_then (λ s. f c m s) o ≡ option_and_then (λ s. g c m s) o) [
              | None ↦ λ e3. refl
              | Some s ↦ λ e3. h c m s (record { component = e; machine = e2; state = e3 })
            ]) refl
          ]) refl
    ]) refl

-- a port that p depends on is one of p's component
pub depends_component : (system : System) (b : Bool) (p q : ℕ) (port : Port) (c : Component) → slice_get system.ports p ≡ Some port → slice_get system.components port.component.0 ≡ Some c → (d : DependsOn system b p q) → d.component ≡ c
depends_component system b p q port c is of d =
    let same : d.port ≡ port = same_Some _ _ (sym d.at ∙ is) in
    same_Some _ _ (sym d.of ∙ ap (λ (x : Port). slice_get system.components x.component.0) same ∙ of)

-- with event mode what an output shows is about what it needs
pub look_same : (r : Run) → IsSound r.system → AreMachines r → (states : List MachineState) → AreStates r false states → (p : ℕ) (port : Port) (V W : List (Option ℤ)) → slice_get r.system.ports p ≡ Some port →
    is_output_role port.role ≡ true → Alike r.system p V W → (c : Component) (m : Machine) (s : MachineState) → IsFmu r states port.component.0 c m s → c.shape.has_event_mode ≡ true → (call : Call) → output_of call ≡ Some port.reference →
    m.look (state_with r.system.ports V port.component.0 m s) call ≡ m.look (state_with r.system.ports W port.component.0 m s) call
look_same r sound machines states fit p port V W is output alike c m s fmu events call at =
    let placed = place_of r.system sound p port is in
    let same : c ≡ placed.component = same_Some _ _ (sym fmu.component ∙ placed.is.of) in
    let machine = machines.each port.component.0 c m fmu.component fmu.machine in
    look_alike r.system sound false p port placed m s (written_at_port r.system.ports V) (written_at_port r.system.ports W) output
    (λ f. ap (λ (x : Component). x.shape.has_event_mode) (sym same) ∙ events)
    (subst (λ (x : Component). IsMachineOf x.shape m) same machine.0) (subst (λ (x : Component). IsLawful x.shape m) same machine.1)
    (subst (λ (x : Component). IsStateOf x.shape false m s) same (fit port.component.0 c m s fmu))
    (record {
      on = λ q d. written_alike r.system p V W alike q d (ap (λ (x : Component). x.shape.has_event_mode) (depends_component r.system false p q port c is fmu.component d) ∙ events);
      outputs = outputs_alike r.system.ports V W;
    }) call at

-- an output's value is about what it needs
pub output_alike : (r : Run) → IsSound r.system → AreMachines r → (s : Situation) → AreStates r false s.states → (p : ℕ) (port : Port) (last : Option ℤ) (V W : List (Option ℤ)) →
    slice_get r.system.ports p ≡ Some port → is_output_role port.role ≡ true → Alike r.system p V W →
    at_fmu r s.states port.component.0 (output_value r s V last port) ≡ at_fmu r s.states port.component.0 (output_value r s W last port)
output_alike r sound machines s fit p port last V W is output alike =
    at_fmu-same r s.states port.component.0 (output_value r s V last port) (output_value r s W last port) (λ c m state fmu.
    (elim c.shape.has_event_mode as (λ b. c.shape.has_event_mode ≡ b →
    (if b then (if is_present port V then shown m (state_with r.system.ports V port.component.0 m state) port else last) else (if s.n == 0 then shown m state port else last))
    ≡ (if b then (if is_present port W then shown m (state_with r.system.ports W port.component.0 m state) port else last) else (if s.n == 0 then shown m state port else last))) [
      | false ↦ λ e. refl
      | true ↦ λ e.
          ap (λ b. if b then shown m (state_with r.system.ports V port.component.0 m state) port else last) (present_alike r.system p port V W is alike.direct)
          ∙ ap (λ reply. if is_present port W then value_in port.kind reply else last) (look_same r sound machines s.states fit p port V W is output alike c m state fmu e (C.Get port.kind port.reference) refl)
    ]) refl)

-- so is whether an output Clock is active
pub ticking_alike : (r : Run) → IsSound r.system → AreMachines r → (s : Situation) → AreStates r false s.states → (p : ℕ) (port : Port) (V W : List (Option ℤ)) →
    slice_get r.system.ports p ≡ Some port → is_output_role port.role ≡ true → is_clock_role port.role ≡ true → Alike r.system p V W →
    at_fmu r s.states port.component.0 (λ c m state. ticking m (state_with r.system.ports V port.component.0 m state) port)
    ≡ at_fmu r s.states port.component.0 (λ c m state. ticking m (state_with r.system.ports W port.component.0 m state) port)
ticking_alike r sound machines s fit p port V W is output clock alike =
    at_fmu-same r s.states port.component.0 (λ c m state. ticking m (state_with r.system.ports V port.component.0 m state) port) (λ c m state. ticking m (state_with r.system.ports W port.component.0 m state) port) (λ c m state fmu.
    let placed = place_of r.system sound p port is in
    let same : placed.component ≡ c = same_Some _ _ (sym placed.is.of ∙ fmu.component) in
    let events : c.shape.has_event_mode ≡ true = ap (λ (x : Component). x.shape.has_event_mode) (sym same) ∙ events_of r.system p port placed clock in
    ap (λ reply. value_in port.kind reply) (look_same r sound machines s.states fit p port V W is output alike c m state fmu events (C.GetClock port.reference) refl))

-- what comes along a path is about the value at its source
pub fed_same : (kind : PortType) (feed : Feed) (V W : List (Option ℤ)) → value V feed.from.0 ≡ value W feed.from.0 → fed kind feed V ≡ fed kind feed W
fed_same kind feed V W e = ap (λ (o : Option ℤ). option_and_then (carried feed.changes kind) o) e
