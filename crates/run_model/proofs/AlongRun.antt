-- Along a run there is a state for each component, a timer and a value or none for each port, and each value is one of its port's type.
use Rattle.std.proofs.Common.{◌≡◌, ℕ, zero, suc, ℤ, pos, Bool, true, false, ◌&&◌, List, [], ◌∷◌, length, map, refl, sym, ◌∙◌, ap, subst, inl, inr, arith}
use Rattle.std.specs.Prelude.{Option, Some, None, IfSome, if◌then◌else◌, slice_get, int_le, option_and_then, ◌==◌}
use Rattle.std.proofs.lemmas.Float.{T_from_true}
use Rattle.std.proofs.lemmas.List.{length-map}
use Rattle.value_types.specs.Values.{Fits, word_value, is_fitting, number_of, least_of, greatest_of}
use Rattle.value_types.specs.Joint.{IsWithin}
use Rattle.value_types.specs.declared.values.PortType.{PortType}
use Rattle.value_types.specs.declared.values.PortType.TheVariants.{Clock}
use Rattle.fmi_calls.specs.declared.call.Reply.{Reply}
use Rattle.fmi_calls.specs.declared.call.Reply.TheVariants as R
use Rattle.fmi_calls.specs.declared.call.Content.TheVariants as A
use Rattle.fmi_calls.specs.declared.call.Call.TheVariants as C
use Rattle.fmu_peer.specs.Machine.{MachineState, Machine}
use Rattle.system_model.specs.declared.system.Component.{Component}
use Rattle.system_model.specs.declared.system.Role.{Role}
use Rattle.system_model.specs.declared.system.Role.TheVariants.{Input, Output, ClockInput, ClockOutput, TimeClock}
use Rattle.system_model.specs.declared.system.Port.{Port}
use Rattle.system_model.specs.Ports.{is_output_role, is_clock_role, source_of}
use Rattle.system_model.specs.Needs.{is_unclocked, is_unclocked_at}
use Rattle.system_model.specs.Sound.{IsSound}
use Rattle.system_model.proofs.CallerLemmas.{true_false, place_of, kind_of_clock, source_at, within_of_clock}
use Rattle.run_model.specs.Run.{Run, Situation, Timer, each, each_from, at_fmu}
use Rattle.system_model.specs.Values.{value, is_present}
use Rattle.run_model.specs.Inputs.{state_with}
use Rattle.run_model.specs.Timers.{IsDue}
use Rattle.run_model.specs.Equations.{Solves, SolvesAt, IsTickValue, fed, shown, value_in, output_value, ticking, timer_of}
use Rattle.run_model.specs.Initial as I
use Rattle.run_model.specs.AfterInstant as F
use Rattle.run_model.specs.Stepping as P
use Rattle.run_model.specs.Trace.{LeadsBy}
use Rattle.run_model.specs.Behaved.{Reached, AtFirst, Onward}
use Rattle.run_model.specs.Machines.{AreMachines, AreFitting, IsSituation}
use Rattle.system_model.specs.Carried.{carried, fitting, through, within}
use Rattle.system_model.specs.declared.system.Feed.{Feed}
use Rattle.run_model.proofs.Alike.{both}
use Rattle.run_model.proofs.OneTrace.{situation_of, ends_or_goes}
use Rattle.run_model.proofs.States.{states_beginning, states_updated, states_stepped}

-- ---- places

length-each : {X : Type 0} (f : ℕ → Component → Machine → MachineState → X) (k : ℕ) (cs : List Component) (ms : List Machine) (ss : List MachineState) → length ms ≡ length cs → length ss ≡ length cs → length (each_from f k cs ms ss) ≡ length cs
length-each f k [] ms ss m s = refl
length-each f k (c ∷ cs) [] ss m s = absurd (omega (arith, m))
length-each f k (c ∷ cs) (x ∷ ms) [] m s = absurd (omega (arith, s))
length-each f k (c ∷ cs) (x ∷ ms) (y ∷ ss) m s = ap suc (length-each f (suc k) cs ms ss (omega (arith, m)) (omega (arith, s)))

each_place : {X : Type 0} (r : Run) → AreMachines r → (states : List MachineState) → length states ≡ length r.system.components → (f : ℕ → Component → Machine → MachineState → X) → length (each r states f) ≡ length r.system.components
each_place r machines states len f = length-each f 0 r.system.components r.machines states machines.count len

length-next : (r : Run) (s : Situation) (V : List (Option ℤ)) (p : ℕ) (ports : List Port) (olds : List Timer) → length olds ≡ length ports → length (F.next_timers_from r s V p ports olds) ≡ length ports
length-next r s V p [] olds len = refl
length-next r s V p (port ∷ ports) [] len = absurd (omega (arith, len))
length-next r s V p (port ∷ ports) (old ∷ olds) len = ap suc (length-next r s V (suc p) ports olds (omega (arith, len)))

-- ---- values of a type

fitting_if : (kind : PortType) (n : ℤ) (b : Bool) → is_fitting kind n ≡ b → IfSome (if b then Some n else None) (Fits kind)
fitting_if kind n true e = let parts = both (int_le (least_of kind) n) (int_le n (greatest_of kind)) e in
    (record { le = T_from_true (int_le (least_of kind) n) parts.0 }, record { le = T_from_true (int_le n (greatest_of kind)) parts.1 })
fitting_if kind n false e = tt

word_fits : (kind : PortType) (word : ℕ) → IfSome (word_value kind word) (Fits kind)
word_fits kind word = fitting_if kind (number_of kind word) (is_fitting kind (number_of kind word)) refl

pub reply_fits : (kind : PortType) (reply : Reply) → IfSome (value_in kind reply) (Fits kind)
reply_fits kind (R.Refused k status) = tt
reply_fits kind (R.Done w (A.Get word)) = word_fits kind word
reply_fits kind (R.Done w (A.GetClock word)) = word_fits kind word
reply_fits kind (R.Done w (A.Instantiate batches)) = tt
reply_fits kind (R.Done w A.EnterInitialization) = tt
reply_fits kind (R.Done w A.ExitInitialization) = tt
reply_fits kind (R.Done w A.EnterEvent) = tt
reply_fits kind (R.Done w A.EnterStep) = tt
reply_fits kind (R.Done w (A.DoStep a b c d)) = tt
reply_fits kind (R.Done w (A.Update a b c)) = tt
reply_fits kind (R.Done w A.Set) = tt
reply_fits kind (R.Done w A.SetClock) = tt
reply_fits kind (R.Done w (A.GetInterval interval)) = tt
reply_fits kind (R.Done w (A.GetShift shift)) = tt
reply_fits kind (R.Done w A.Save) = tt
reply_fits kind (R.Done w A.Restore) = tt
reply_fits kind (R.Done w A.Free) = tt
reply_fits kind (R.Done w A.Terminate) = tt
reply_fits kind (R.Done w A.FreeInstance) = tt
reply_fits kind (R.Done w (A.Serialize room)) = tt
reply_fits kind (R.Done w A.Deserialize) = tt

pub zero_fits : (kind : PortType) → kind ≡ Clock → Fits kind (pos 0)
zero_fits kind e = subst (λ k. Fits k (pos 0)) (sym e) (word_fits Clock 0)

one_fits : (kind : PortType) → kind ≡ Clock → Fits kind (pos 1)
one_fits kind e = subst (λ k. Fits k (pos 1)) (sym e) (word_fits Clock 1)

pub if_fits : (kind : PortType) (b : Bool) (x y : Option ℤ) → IfSome x (Fits kind) → IfSome y (Fits kind) → IfSome (if b then x else y) (Fits kind)
if_fits kind true x y a b = a
if_fits kind false x y a b = b

pub wider : (from to : PortType) (o : Option ℤ) → IsWithin from to → IfSome o (Fits from) → IfSome o (Fits to)
wider from to None within h = tt
wider from to (Some x) within h = within x h

at_fmu-fits : (kind : PortType) (r : Run) (states : List MachineState) (i : ℕ) (f : Component → Machine → MachineState → Option ℤ) → ((c : Component) (m : Machine) (s : MachineState) → IfSome (f c m s) (Fits kind)) → IfSome (at_fmu r states i f) (Fits kind)
at_fmu-fits kind r states i f h = component (slice_get r.system.components i)
  where
    state : (c : Component) (m : Machine) (o : Option MachineState) → IfSome (option_and_then (λ s. f c m s) o) (Fits kind)
    state c m None = tt
    state c m (Some s) = h c m s

    machine : (c : Component) (o : Option Machine) → IfSome (option_and_then (λ m. option_and_then (λ s. f c m s) (slice_get states i)) o) (Fits kind)
    machine c None = tt
    machine c (Some m) = state c m (slice_get states i)

    component : (o : Option Component) → IfSome (option_and_then (λ c. option_and_then (λ m. option_and_then (λ s. f c m s) (slice_get states i)) (slice_get r.machines i)) o) (Fits kind)
    component None = tt
    component (Some c) = machine c (slice_get r.machines i)

-- ---- in an instant

-- the value of an output
output_fits : (r : Run) (s : Situation) (V : List (Option ℤ)) (port : Port) (last : Option ℤ) → IfSome last (Fits port.kind) → IfSome (at_fmu r s.states port.component.0 (output_value r s V last port)) (Fits port.kind)
output_fits r s V port last h = at_fmu-fits port.kind r s.states port.component.0 (output_value r s V last port) (λ c m state.
    let with_values : Option ℤ = shown m (state_with r.system.ports V port.component.0 m state) port in
    let plain : Option ℤ = shown m state port in
    if_fits port.kind c.shape.has_event_mode (if is_present port V then with_values else last) (if s.n == 0 then plain else last)
    (if_fits port.kind (is_present port V) with_values last (reply_fits port.kind (m.look (state_with r.system.ports V port.component.0 m state) (C.Get port.kind port.reference))) h)
    (if_fits port.kind (s.n == 0) plain last (reply_fits port.kind (m.look state (C.Get port.kind port.reference))) h))

-- what comes along a path fits the input
carried_fits : (kind : PortType) (o : Option ℤ) → IfSome (option_and_then (fitting kind) o) (Fits kind)
carried_fits kind None = tt
carried_fits kind (Some x) = fitting_if kind x (is_fitting kind x) refl

pub fed_fits : (kind : PortType) (feed : Feed) (V : List (Option ℤ)) → IfSome (fed kind feed V) (Fits kind)
fed_fits kind feed V = by (value V feed.from.0)
  where
    by : (o : Option ℤ) → IfSome (option_and_then (carried feed.changes kind) o) (Fits kind)
    by None = tt
    by (Some x) = wide (within x)
      where
        wide : (o : Option ℤ) → IfSome (option_and_then (λ y. option_and_then (fitting kind) (through feed.changes y)) o) (Fits kind)
        wide None = tt
        wide (Some y) = carried_fits kind (through feed.changes y)

abbrev pub FitsAt : Port → Option ℤ → Type 0
FitsAt port v = IfSome v (Fits port.kind)

-- what is said of an output, a Clock or not
pub output_value_fits : (r : Run) (s : Situation) (V : List (Option ℤ)) (p : ℕ) (port : Port) (role : Role) → is_output_role role ≡ true → (last v : Option ℤ) → FitsAt port last → SolvesAt role r s V p port last v → FitsAt port v
output_value_fits r s V p port (Input feed) o last v h solves = absurd (true_false (sym o))
output_value_fits r s V p port Output o last v h solves = subst (FitsAt port) (sym solves) (output_fits r s V port last h)
output_value_fits r s V p port (ClockInput feed) o last v h solves = absurd (true_false (sym o))
output_value_fits r s V p port ClockOutput o last v h solves =
    subst (FitsAt port) (sym solves) (at_fmu-fits port.kind r s.states port.component.0 (λ c m state. ticking m (state_with r.system.ports V port.component.0 m state) port) (λ c m state. reply_fits port.kind _))
output_value_fits r s V p port (TimeClock timing) o last v h solves = absurd (true_false (sym o))

pub tick_fits : (Ticks : Type 0) (port : Port) (v : Option ℤ) → port.kind ≡ Clock → IsTickValue Ticks v → FitsAt port v
tick_fits Ticks port v clock (inl h) = subst (FitsAt port) (sym h.1) (one_fits port.kind clock)
tick_fits Ticks port v clock (inr h) = subst (FitsAt port) (sym h.1) (zero_fits port.kind clock)

pub values_fit : (r : Run) → IsSound r.system → (s : Situation) (V : List (Option ℤ)) → AreFitting r.system s.before → Solves r s V → AreFitting r.system V
values_fit r sound s V fit solves p port is = at port.role refl (solves.equations p port is)
  where
    source_fits : (q : ℕ) → port.kind ≡ Clock → source_of port.role ≡ Some q → FitsAt port (value V q)
    source_fits q clock from =
        let source = source_at r.system sound p q port is from in
        wider source.source.kind port.kind (value V q) (within_of_clock source.by source.source port source.feed clock)
        (output_value_fits r s V q source.source source.source.role source.feed.output (value s.before q) (value V q) (fit q source.source source.is) (solves.equations q source.source source.is))

    clock : is_clock_role port.role ≡ true → port.kind ≡ Clock
    clock e = kind_of_clock r.system p port (place_of r.system sound p port is) e

    at : (role : Role) → port.role ≡ role → SolvesAt role r s V p port (value s.before p) (value V p) → FitsAt port (value V p)
    at (Input None) e h = subst (FitsAt port) (sym h) tt
    at (Input (Some feed)) e h = subst (FitsAt port) (sym h) (if_fits port.kind (is_present port V) (fed port.kind feed V) (value s.before p) (fed_fits port.kind feed V) (fit p port is))
    at Output e h = output_value_fits r s V p port Output refl (value s.before p) (value V p) (fit p port is) h
    at (ClockInput None) e h = subst (FitsAt port) (sym h) (zero_fits port.kind (clock (ap is_clock_role e)))
    at (ClockInput (Some feed)) e h = subst (FitsAt port) (sym h) (source_fits feed.from.0 (clock (ap is_clock_role e)) (ap source_of e))
    at ClockOutput e h = output_value_fits r s V p port ClockOutput refl (value s.before p) (value V p) (fit p port is) h
    at (TimeClock timing) e h = tick_fits (IsDue r.plan.start (timer_of s.timers p) s.t s.n) port (value V p) (clock (ap is_clock_role e)) h

-- ---- in Initialization Mode

pub initial_output_fits : (r : Run) (W : List (Option ℤ)) (p : ℕ) (port : Port) (role : Role) → is_output_role role ≡ true → FitsAt port (I.initial_value role r W p port)
initial_output_fits r W p port (Input feed) o = absurd (true_false (sym o))
initial_output_fits r W p port Output o =
    if_fits port.kind (I.is_read r.system.ports p) _ None (at_fmu-fits port.kind r (I.initializing r) port.component.0 (λ c m s. shown m (state_with r.system.ports W port.component.0 m s) port) (λ c m s. reply_fits port.kind _)) tt
initial_output_fits r W p port (ClockInput feed) o = tt
initial_output_fits r W p port ClockOutput o = tt
initial_output_fits r W p port (TimeClock timing) o = tt

pub initial_values_fit : (r : Run) → IsSound r.system → (W : List (Option ℤ)) → I.SolvesInitially r W → AreFitting r.system W
initial_values_fit r sound W solves p port is = subst (FitsAt port) (sym (solves.equations p port is)) (at port.role refl)
  where
    at : (role : Role) → port.role ≡ role → FitsAt port (I.initial_value role r W p port)
    at (Input None) e = tt
    at (Input (Some feed)) e = if_fits port.kind (is_unclocked port && is_unclocked_at r.system.ports feed.from.0) (fed port.kind feed W) None (fed_fits port.kind feed W) tt
    at Output e = initial_output_fits r W p port Output refl
    at (ClockInput feed) e = tt
    at ClockOutput e = tt
    at (TimeClock timing) e = tt

-- ---- situations

pub none_fits : (ports : List Port) (p : ℕ) (port : Port) → slice_get ports p ≡ Some port → FitsAt port (value (map (λ (x : Port). None) ports) p)
none_fits [] p port e = tt
none_fits (x ∷ xs) zero port e = tt
none_fits (x ∷ xs) (suc p) port e = none_fits xs p port e

pub situation_at_beginning : (r : Run) → AreMachines r → (W : List (Option ℤ)) → IsSituation r (I.beginning r W)
situation_at_beginning r machines W =
    let first : length (I.first_states r) ≡ length r.system.components = length-map r.machines (λ (m : Machine). m.first) ∙ machines.count in
    let two = each_place r machines (I.first_states r) first _ in
    let three = each_place r machines (I.instantiated r) two _ in
    let four = each_place r machines (I.configured r) three _ in
    let five = each_place r machines (I.initializing r) four _ in
    record {
      states = each_place r machines (I.initialized r W) five (λ i c m s. Rattle.fmu_peer.specs.Machine.after m s C.ExitInitialization);
      timers = length-map r.system.ports (λ (port : Port). I.first_timer port.role r (I.initialized r W) port);
      events = length-map r.system.components (λ (c : Component). None);
      before = length-map r.system.ports (λ (port : Port). None);
      shapes = states_beginning r machines W;
      types = none_fits r.system.ports;
    }

pub situation_after_instant : (r : Run) → IsSound r.system → AreMachines r → (s : Situation) (V : List (Option ℤ)) → IsSituation r s → Solves r s V → IsSituation r (F.updated r s V)
situation_after_instant r sound machines s V is solves =
    let written = each_place r machines s.states is.states _ in
    record {
      states = each_place r machines (F.written r s V) written _;
      timers = length-next r s V 0 r.system.ports s.timers is.timers;
      events = each_place r machines (F.written r s V) written _;
      before = solves.places;
      shapes = states_updated r machines s V is.shapes;
      types = values_fit r sound s V is.types solves;
    }

pub situation_after_step : (r : Run) → AreMachines r → (s : Situation) (kept : List ℕ) (point : ℕ) → IsSituation r s → IsSituation r (P.stepped r s kept point)
situation_after_step r machines s kept point is =
    let departing = each_place r machines s.states is.states _ in
    record {
      states = each_place r machines (P.departing r s) departing _;
      timers = is.timers;
      events = is.events;
      before = is.before;
      shapes = states_stepped r machines s kept point is.shapes;
      types = is.types;
    }

-- ---- along a run

situation_departs : {r : Run} {s : Situation} {next : P.Next} → AreMachines r → IsSituation r s → P.Departs r s next → (z : Situation) → next ≡ P.GoesOn z → IsSituation r z
situation_departs {r} {s} machines is (P.AtStop next at a) z e = absurd (true_false (ap ends_or_goes (sym a ∙ e)))
situation_departs {r} {s} machines is (P.WhereAsked next k p step asks a) z e = absurd (true_false (ap ends_or_goes (sym a ∙ e)))
situation_departs {r} {s} machines is (P.WhereFixed next j f lacks a) z e = absurd (true_false (ap ends_or_goes (sym a ∙ e)))
situation_departs {r} {s} machines is (P.ByStep next k p step asks a) z e = subst (IsSituation r) (ap (λ x. situation_of x z) (sym a ∙ e)) (situation_after_step r machines s k p is)

situation_leads : (f : F.Following) (r : Run) (s : Situation) (V : List (Option ℤ)) (z : Situation) → AreMachines r → IsSituation r (F.updated r s V) → LeadsBy f r s V (P.GoesOn z) → IsSituation r z
situation_leads F.OutOfRange r s V z machines is a = absurd (true_false (sym (ap ends_or_goes a)))
situation_leads F.Ended r s V z machines is a = absurd (true_false (sym (ap ends_or_goes a)))
situation_leads F.AtLimit r s V z machines is a = absurd (true_false (sym (ap ends_or_goes a)))
situation_leads F.Again r s V z machines is a = subst (IsSituation r) (ap (λ x. situation_of x z) (sym a)) is
situation_leads F.Done r s V z machines is a = situation_departs machines is a z refl

pub situation_reached : {r : Run} {s : Situation} → IsSound r.system → AreMachines r → Reached r s → IsSituation r s
situation_reached {r} sound machines (AtFirst s initial solves kept is) = subst (IsSituation r) (sym is) (situation_at_beginning r machines initial)
situation_reached {r} sound machines (Onward s V next reached solves leads) =
    situation_leads (F.following r s V) r s V next machines (situation_after_instant r sound machines s V (situation_reached sound machines reached) solves) leads
