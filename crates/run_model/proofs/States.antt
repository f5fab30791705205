-- Along a run each state keeps to its FMU's shape, and no FMU is in Initialization Mode once the instants have begun. What is shown of one FMU asks for its own machine alone.
use Rattle.std.proofs.Common.{◌≡◌, ℕ, zero, suc, ℤ, Bool, true, false, List, [], ◌∷◌, length, refl, sym, ◌∙◌, ap, subst, arith, ◌+◌, ◌-◌}
use Rattle.std.specs.Prelude.{◌==◌, Option, Some, if◌then◌else◌, slice_get}
use Rattle.std.specs.Option.{option_map}
use Rattle.std.proofs.lemmas.Option.{none-some as none_some, same_Some, slice_get-map}
use Rattle.std.proofs.lemmas.List.{length-map}
use Rattle.value_types.specs.declared.shape.Shape.{Shape}
use Rattle.value_types.specs.declared.shape.Variable.{Variable}
use Rattle.fmi_calls.specs.declared.call.Call.TheVariants as C
use Rattle.fmu_peer.specs.Machine.{MachineState, Machine, after, written, zero_at, IsMachineOf}
use Rattle.system_model.specs.declared.system.Component.{Component}
use Rattle.system_model.specs.declared.system.Port.{Port}
use Rattle.system_model.specs.declared.bound.BoundValue.{BoundValue}
use Rattle.run_model.specs.Run.{Run, Situation, IsFmu, each, each_from}
use Rattle.run_model.specs.Inputs.{state_with, written_at_port, under}
use Rattle.run_model.specs.Initial as I
use Rattle.run_model.specs.AfterInstant as A
use Rattle.run_model.specs.Stepping as P
use Rattle.run_model.specs.Machines.{AreMachines, AreStates, IsStateOf}
use Rattle.run_model.proofs.Written.{all_written-length}

-- ---- lists over the FMUs

-- what stands at a place of what is given for each FMU
pub record Each {X : Type 0} (f : ℕ → Component → Machine → MachineState → X) (k i : ℕ) (cs : List Component) (ms : List Machine) (ss : List MachineState) (x : X) : Type 0 where
  pub component : Component
  pub machine : Machine
  pub state : MachineState
  pub of_c : slice_get cs i ≡ Some component
  pub of_m : slice_get ms i ≡ Some machine
  pub of_s : slice_get ss i ≡ Some state
  pub is : x ≡ f (k + i) component machine state

pub each-get : {X : Type 0} (f : ℕ → Component → Machine → MachineState → X) (k i : ℕ) (cs : List Component) (ms : List Machine) (ss : List MachineState) (x : X) →
    slice_get (each_from f k cs ms ss) i ≡ Some x → Each f k i cs ms ss x
each-get f k i [] ms ss x h = absurd (none_some _ h)
each-get f k i (c ∷ cs) [] ss x h = absurd (none_some _ h)
each-get f k i (c ∷ cs) (m ∷ ms) [] x h = absurd (none_some _ h)
each-get f k zero (c ∷ cs) (m ∷ ms) (s ∷ ss) x h =
    let same : k ≡ k + 0 = omega arith in
    record { component = c; machine = m; state = s; of_c = refl; of_m = refl; of_s = refl; is = sym (same_Some _ _ h) ∙ ap (λ j. f j c m s) same }
each-get f k (suc i) (c ∷ cs) (m ∷ ms) (s ∷ ss) x h =
    let more = each-get f (suc k) i cs ms ss x h in
    let same : suc k + i ≡ k + suc i = omega arith in
    record { component = more.component; machine = more.machine; state = more.state; of_c = more.of_c; of_m = more.of_m; of_s = more.of_s; is = more.is ∙ ap (λ j. f j more.component more.machine more.state) same }

-- the state of the i-th FMU once each state has changed
pub record Changed (r : Run) (states : List MachineState) (f : ℕ → Component → Machine → MachineState → MachineState) (i : ℕ) (c : Component) (m : Machine) (s : MachineState) : Type 0 where
  pub before : MachineState
  pub fmu : IsFmu r states i c m before
  pub is : s ≡ f i c m before

pub fmu_before : (r : Run) (states : List MachineState) (f : ℕ → Component → Machine → MachineState → MachineState) (i : ℕ) (c : Component) (m : Machine) (s : MachineState) → IsFmu r (each r states f) i c m s → Changed r states f i c m s
fmu_before r states f i c m s fmu =
    let at = each-get f 0 i r.system.components r.machines states s fmu.state in
    let same_c : at.component ≡ c = same_Some _ _ (sym at.of_c ∙ fmu.component) in
    let same_m : at.machine ≡ m = same_Some _ _ (sym at.of_m ∙ fmu.machine) in
    let place : 0 + i ≡ i = omega arith in
    record {
      before = at.state;
      fmu = record { component = fmu.component; machine = fmu.machine; state = at.of_s };
      is = at.is ∙ ap (λ (x : Component). f (0 + i) x at.machine at.state) same_c ∙ ap (λ (x : Machine). f (0 + i) c x at.state) same_m ∙ ap (λ j. f j c m at.state) place;
    }

-- ---- the states of one FMU

-- the i-th machine is one of its shape
abbrev pub IsMachineAt : Run → ℕ → Type 0
IsMachineAt r i = (c : Component) (m : Machine) → slice_get r.system.components i ≡ Some c → slice_get r.machines i ≡ Some m → IsMachineOf c.shape m

abbrev pub IsStateAt : Run → Bool → List MachineState → ℕ → Type 0
IsStateAt r b states i = (c : Component) (m : Machine) (s : MachineState) → IsFmu r states i c m s → IsStateOf c.shape b m s

-- what keeps the state to its shape keeps it there
pub fit_each : (r : Run) (i : ℕ) → IsMachineAt r i → (a b : Bool) (states : List MachineState) (f : ℕ → Component → Machine → MachineState → MachineState) → IsStateAt r a states i →
    ((c : Component) (m : Machine) (s : MachineState) → IsMachineOf c.shape m → IsStateOf c.shape a m s → IsStateOf c.shape b m (f i c m s)) → IsStateAt r b (each r states f) i
fit_each r i machine a b states f fit keep c m s fmu =
    let at = fmu_before r states f i c m s fmu in
    subst (λ x. IsStateOf c.shape b m x) (sym at.is) (keep c m at.before (machine c m fmu.component fmu.machine) (fit c m at.before at.fmu))

-- ---- single calls

pub fit_with : (shape : Shape) (b : Bool) (m : Machine) (s : MachineState) (ports : List Port) (V : List (Option ℤ)) (i : ℕ) → IsStateOf shape b m s → IsStateOf shape b m (state_with ports V i m s)
fit_with shape b m s ports V i fit = record { values = all_written-length m.references (under ports (written_at_port ports V) i) s.values ∙ fit.values; mode = fit.mode }

pub fit_update : (shape : Shape) (m : Machine) (s : MachineState) → IsMachineOf shape m → IsStateOf shape false m s → IsStateOf shape false m (after m s C.Update)
fit_update shape m s is fit = record { values = all_written-length m.references (zero_at m.clocks) s.values ∙ fit.values; mode = is.keeps s C.Update refl ∙ fit.mode }

pub fit_enter_event : (shape : Shape) (m : Machine) (s : MachineState) → IsMachineOf shape m → IsStateOf shape false m s → IsStateOf shape false m (after m s C.EnterEvent)
fit_enter_event shape m s is fit = record { values = fit.values; mode = is.keeps s C.EnterEvent refl ∙ fit.mode }

pub fit_enter_step : (shape : Shape) (m : Machine) (s : MachineState) → IsMachineOf shape m → IsStateOf shape false m s → IsStateOf shape false m (after m s C.EnterStep)
fit_enter_step shape m s is fit = record { values = fit.values; mode = is.keeps s C.EnterStep refl ∙ fit.mode }

pub fit_step : (shape : Shape) (m : Machine) (s : MachineState) (at size : ℕ) → IsMachineOf shape m → IsStateOf shape false m s → IsStateOf shape false m (after m s (C.DoStep at size))
fit_step shape m s at size is fit = record { values = fit.values; mode = is.keeps s (C.DoStep at size) refl ∙ fit.mode }

pub fit_if : (shape : Shape) (b : Bool) (m : Machine) (test : Bool) (x y : MachineState) → IsStateOf shape b m x → IsStateOf shape b m y → IsStateOf shape b m (if test then x else y)
fit_if shape b m true x y fx fy = fx
fit_if shape b m false x y fx fy = fy

-- ---- along the run

pub fit_written : (r : Run) (i : ℕ) → IsMachineAt r i → (s : Situation) (V : List (Option ℤ)) → IsStateAt r false s.states i → IsStateAt r false (A.written r s V) i
fit_written r i machine s V fit = fit_each r i machine false false s.states _ fit (λ c m x is f. fit_if c.shape false m c.shape.has_event_mode _ _ (fit_with c.shape false m x r.system.ports V i f) f)

pub fit_updated : (r : Run) (i : ℕ) → IsMachineAt r i → (s : Situation) (V : List (Option ℤ)) → IsStateAt r false s.states i → IsStateAt r false (A.updated r s V).states i
fit_updated r i machine s V fit =
    fit_each r i machine false false (A.written r s V) _ (fit_written r i machine s V fit) (λ c m x is f. fit_if c.shape false m c.shape.has_event_mode _ _ (fit_update c.shape m x is f) f)

pub fit_departing : (r : Run) (i : ℕ) → IsMachineAt r i → (s : Situation) → IsStateAt r false s.states i → IsStateAt r false (P.departing r s) i
fit_departing r i machine s fit =
    fit_each r i machine false false s.states _ fit (λ c m x is f. fit_if c.shape false m c.shape.has_event_mode _ _ (fit_enter_step c.shape m x is f) (fit_with c.shape false m x r.system.ports s.before i f))

pub fit_stepped : (r : Run) (i : ℕ) → IsMachineAt r i → (s : Situation) (kept : List ℕ) (point : ℕ) → IsStateAt r false s.states i → IsStateAt r false (P.stepped r s kept point).states i
fit_stepped r i machine s kept point fit =
    fit_each r i machine false false (P.departing r s) _ (fit_departing r i machine s fit) (λ c m x is f.
    let after_it = fit_step c.shape m x s.t (P.kept_at kept i - s.t) is f in
    fit_if c.shape false m c.shape.has_event_mode _ _ (fit_enter_event c.shape m _ is after_it) after_it)

-- ---- up to the beginning

pub written-length : (refs : List ℕ) (xs : List ℤ) (reference : ℕ) (x : ℤ) → length xs ≡ length refs → length (written refs xs reference x) ≡ length xs
written-length [] xs reference x h = refl
written-length (r ∷ refs) [] reference x h = refl
written-length (r ∷ refs) (y ∷ ys) reference x h = ap suc (written-length refs ys reference x (omega (arith, h)))

-- a machine of the shape has as many references as the shape has variables
pub references_of : (shape : Shape) (m : Machine) → IsMachineOf shape m → length m.references ≡ length shape.variables
references_of shape m is = ap (λ (rs : List ℕ). length rs) is.references ∙ length-map shape.variables (λ (v : Variable). v.reference)

fit_bound : (shape : Shape) (m : Machine) (bs : List BoundValue) (s : MachineState) → IsMachineOf shape m → IsStateOf shape false m s → IsStateOf shape false m (I.with_bound m bs s)
fit_bound shape m [] s is fit = fit
fit_bound shape m (b ∷ bs) s is fit =
    fit_bound shape m bs (after m s (I.set_call b)) is
    (record { values = written-length m.references s.values b.reference b.value (fit.values ∙ sym (references_of shape m is)) ∙ fit.values; mode = fit.mode })

pub fit_first : (r : Run) (i : ℕ) → IsMachineAt r i → IsStateAt r false (I.first_states r) i
fit_first r i machine c m s fmu =
    let is : m.first ≡ s = same_Some _ _ (sym (slice_get-map (λ (x : Machine). x.first) r.machines i ∙ ap (option_map (λ (x : Machine). x.first)) fmu.machine) ∙ fmu.state) in
    let of = machine c m fmu.component fmu.machine in
    subst (λ x. IsStateOf c.shape false m x) is (record { values = of.values; mode = of.before })

pub fit_instantiated : (r : Run) (i : ℕ) → IsMachineAt r i → IsStateAt r false (I.instantiated r) i
fit_instantiated r i machine = fit_each r i machine false false (I.first_states r) _ (fit_first r i machine) (λ c m x is f. record { values = f.values; mode = is.keeps x (C.Instantiate c.shape.has_event_mode c.shape.might_return_early (r.plan.link == 2)) refl ∙ f.mode })

pub fit_configured : (r : Run) (i : ℕ) → IsMachineAt r i → IsStateAt r false (I.configured r) i
fit_configured r i machine = fit_each r i machine false false (I.instantiated r) _ (fit_instantiated r i machine) (λ c m x is f. fit_bound c.shape m (I.bound_values r i) x is f)

pub fit_initializing : (r : Run) (i : ℕ) → IsMachineAt r i → IsStateAt r true (I.initializing r) i
fit_initializing r i machine = fit_each r i machine false true (I.configured r) _ (fit_configured r i machine) (λ c m x is f. record { values = f.values; mode = is.enters x r.plan.start r.plan.stop })

pub fit_initialized : (r : Run) (i : ℕ) → IsMachineAt r i → (W : List (Option ℤ)) → IsStateAt r true (I.initialized r W) i
fit_initialized r i machine W = fit_each r i machine true true (I.initializing r) _ (fit_initializing r i machine) (λ c m x is f. fit_with c.shape true m x r.system.ports W i f)

pub fit_beginning : (r : Run) (i : ℕ) → IsMachineAt r i → (W : List (Option ℤ)) → IsStateAt r false (I.beginning r W).states i
fit_beginning r i machine W = fit_each r i machine true false (I.initialized r W) _ (fit_initialized r i machine W) (λ c m x is f. record { values = f.values; mode = is.exits x })

-- ---- of all FMUs

pub machine_at : (r : Run) → AreMachines r → (i : ℕ) → IsMachineAt r i
machine_at r machines i c m of_c of_m = (machines.each i c m of_c of_m).0

pub states_initializing : (r : Run) → AreMachines r → AreStates r true (I.initializing r)
states_initializing r machines i = fit_initializing r i (machine_at r machines i)

pub states_beginning : (r : Run) → AreMachines r → (W : List (Option ℤ)) → AreStates r false (I.beginning r W).states
states_beginning r machines W i = fit_beginning r i (machine_at r machines i) W

pub states_updated : (r : Run) → AreMachines r → (s : Situation) (V : List (Option ℤ)) → AreStates r false s.states → AreStates r false (A.updated r s V).states
states_updated r machines s V fit i = fit_updated r i (machine_at r machines i) s V (fit i)

pub states_stepped : (r : Run) → AreMachines r → (s : Situation) (kept : List ℕ) (point : ℕ) → AreStates r false s.states → AreStates r false (P.stepped r s kept point).states
states_stepped r machines s kept point fit i = fit_stepped r i (machine_at r machines i) s kept point (fit i)
