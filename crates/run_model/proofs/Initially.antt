-- In a sound system the equations of Initialization Mode have one solution at most.
use Rattle.std.proofs.Common.{◌≡◌, ℕ, ℤ, Bool, true, false, not, ◌&&◌, ◌||◌, List, [], ◌∷◌, length, refl, sym, ◌∙◌, ap, subst}
use Rattle.std.specs.Prelude.{Option, Some, None, if◌then◌else◌, slice_get, ◌==◌}
use Rattle.std.specs.Option.{option_map_or}
use Rattle.std.specs.List.{list_any}
use Rattle.std.proofs.lemmas.Bool.{eqb-true}
use Rattle.std.proofs.lemmas.List.{ext_get_or}
use Rattle.std.proofs.lemmas.Option.{same_Some}
use Rattle.fmi_calls.specs.declared.call.Call.TheVariants as C
use Rattle.fmu_peer.specs.Machine.{IsLawful, IsMachineOf}
use Rattle.system_model.specs.declared.system.Component.{Component}
use Rattle.system_model.specs.declared.system.Role.{Role}
use Rattle.system_model.specs.declared.system.Role.TheVariants.{Input, Output, ClockInput, ClockOutput, TimeClock}
use Rattle.system_model.specs.declared.system.Port.{Port}
use Rattle.system_model.specs.declared.system.System.{System}
use Rattle.system_model.specs.Ports.{port_numbers, is_clock_role, is_output_role, source_of}
use Rattle.system_model.specs.Needs.{DependsOn, NeedsInitially, InitiallyByFeed, InitiallyByDependency, is_unclocked, is_unclocked_at}
use Rattle.system_model.specs.Sound.{IsSound}
use Rattle.system_model.proofs.CallerLemmas.{true_false, order_from, place_of}
use Rattle.run_model.specs.Run.{Run, at_fmu}
use Rattle.system_model.specs.Values.{value, is_active, is_present}
use Rattle.run_model.specs.Inputs.{written_by, written_at_port, state_with}
use Rattle.run_model.specs.Equations.{fed, shown, value_in}
use Rattle.run_model.specs.Initial.{SolvesInitially, initial_value, initializing, is_read, is_set_from}
use Rattle.run_model.specs.Machines.{AreMachines, IsStateOf}
use Rattle.run_model.proofs.Alike.{fed_same, look_alike, outputs_alike, written_by-alike, written_at-is, at_fmu-same, both}
use Rattle.run_model.proofs.States.{states_initializing}
use Rattle.run_model.proofs.Unique.{agree_along, AgreeOn, none_in, past, value_past}

-- ---- ports without Clocks

pub unclocked_at-is : (ports : List Port) (p : ℕ) (port : Port) → slice_get ports p ≡ Some port → is_unclocked_at ports p ≡ is_unclocked port
unclocked_at-is ports p port is = ap (λ o. option_map_or is_unclocked o false) is

-- an output that Initialization Mode reads has none
pub read_unclocked : (all ports : List Port) (q : ℕ) → list_any (λ (port : Port). is_set_from all port.role port q) ports ≡ true → is_unclocked_at all q ≡ true
read_unclocked all [] q h = absurd (true_false (sym h))
read_unclocked all (port ∷ ports) q h =
    (elim (is_set_from all port.role port q) as (λ b. is_set_from all port.role port q ≡ b → (b || list_any (λ (x : Port). is_set_from all x.role x q) ports) ≡ true → is_unclocked_at all q ≡ true) [
      | true ↦ λ e _. source port.role e
      | false ↦ λ e more. read_unclocked all ports q more
    ]) refl h
  where
    source : (role : Role) → is_set_from all role port q ≡ true → is_unclocked_at all q ≡ true
    source (Input None) e = absurd (true_false (sym e))
    source (Input (Some feed)) e =
        let one = both (is_unclocked port && is_unclocked_at all feed.from.0) (feed.from.0 == q) e in
        subst (λ x. is_unclocked_at all x ≡ true) (eqb-true feed.from.0 q one.1) (both (is_unclocked port) (is_unclocked_at all feed.from.0) one.0).1
    source Output e = absurd (true_false (sym e))
    source (ClockInput feed) e = absurd (true_false (sym e))
    source ClockOutput e = absurd (true_false (sym e))
    source (TimeClock timing) e = absurd (true_false (sym e))

-- ---- what is written

none_either : (b : Bool) → ◌≡◌ {A = Option ℤ} (if b then None else None) None
none_either true = refl
none_either false = refl

-- nothing is written where there is no value
pub written_none : (role : Role) (port : Port) (V : List (Option ℤ)) → written_by role port V None ≡ None
written_none (Input None) port V = refl
written_none (Input (Some feed)) port V = none_either (is_present port V)
written_none Output port V = refl
written_none (ClockInput feed) port V = refl
written_none ClockOutput port V = refl
written_none (TimeClock timing) port V = refl

present_unclocked : (port : Port) (V : List (Option ℤ)) → is_unclocked port ≡ true → is_present port V ≡ true
present_unclocked port V h =
    let parts = both (not (is_clock_role port.role)) (length port.clocks == 0) h in
    always (is_clock_role port.role) (length port.clocks == 0) (list_any (λ c. is_active (value V c.0)) port.clocks) parts.1
  where
    always : (a b c : Bool) → b ≡ true → (a || b || c) ≡ true
    always true b c e = refl
    always false true c e = refl
    always false false c e = absurd (true_false (sym e))

-- a port with Clocks, or a Clock, has no value
abbrev pub NoneOutside : Run → List (Option ℤ) → Type 0
NoneOutside r W = (q : ℕ) (port : Port) → slice_get r.system.ports q ≡ Some port → is_unclocked port ≡ false → value W q ≡ None

pub record Both (r : Run) (W Z : List (Option ℤ)) : Type 0 where
  pub w : NoneOutside r W
  pub z : NoneOutside r Z

written_same : (V W : List (Option ℤ)) (q : ℕ) (on : Port) → (is_unclocked on ≡ true → value V q ≡ value W q) → (is_unclocked on ≡ false → (value V q ≡ None) × (value W q ≡ None)) →
    written_by on.role on V (value V q) ≡ written_by on.role on W (value W q)
written_same V W q on here none =
    (elim (is_unclocked on) as (λ b. is_unclocked on ≡ b → written_by on.role on V (value V q) ≡ written_by on.role on W (value W q)) [
      | true ↦ λ e. written_by-alike on.role on V W (value V q) (value W q) (here e) (present_unclocked on V e ∙ sym (present_unclocked on W e))
      | false ↦ λ e. let nones = none e in
          ap (written_by on.role on V) nones.0 ∙ written_none on.role on V ∙ sym (ap (written_by on.role on W) nones.1 ∙ written_none on.role on W)
    ]) refl

-- ---- the equations

-- by its equation a port with Clocks, or a Clock, has none
pub initial_none : (r : Run) (W : List (Option ℤ)) (p : ℕ) (port : Port) → slice_get r.system.ports p ≡ Some port → (role : Role) → is_unclocked port ≡ false → initial_value role r W p port ≡ None
initial_none r W p port is (Input None) out = refl
initial_none r W p port is (Input (Some feed)) out = ap (λ b. if b && is_unclocked_at r.system.ports feed.from.0 then fed port.kind feed W else None) out
initial_none r W p port is Output out =
    (elim (is_read r.system.ports p) as (λ b. is_read r.system.ports p ≡ b →
    (if b then at_fmu r (initializing r) port.component.0 (λ c m s. shown m (state_with r.system.ports W port.component.0 m s) port) else None) ≡ None) [
      | true ↦ λ t. absurd (true_false (sym (sym (unclocked_at-is r.system.ports p port is) ∙ read_unclocked r.system.ports r.system.ports p t) ∙ out))
      | false ↦ λ t. refl
    ]) refl
initial_none r W p port is (ClockInput feed) out = refl
initial_none r W p port is ClockOutput out = refl
initial_none r W p port is (TimeClock timing) out = refl

pub none_outside : (r : Run) (W : List (Option ℤ)) → SolvesInitially r W → NoneOutside r W
none_outside r W w q port is out = w.equations q port is ∙ initial_none r W q port is port.role out

if_same : (b : Bool) (x y : Option ℤ) → (b ≡ true → x ≡ y) → (if b then x else None) ≡ (if b then y else None)
if_same true x y h = h refl
if_same false x y h = refl

abbrev pub AlikeInitially : System → ℕ → List (Option ℤ) → List (Option ℤ) → Type 0
AlikeInitially system p W Z = (q : ℕ) → NeedsInitially system p q → value W q ≡ value Z q

-- the ports that an output depends on are written alike
written_initially : (r : Run) (W Z : List (Option ℤ)) → Both r W Z → (p : ℕ) → is_unclocked_at r.system.ports p ≡ true → AlikeInitially r.system p W Z → (q : ℕ) → DependsOn r.system true p q →
    written_at_port r.system.ports W q ≡ written_at_port r.system.ports Z q
written_initially r W Z none p unclocked alike q d =
    written_at-is r.system.ports W q d.on d.there
    ∙ written_same W Z q d.on (λ e. alike q (InitiallyByDependency unclocked (unclocked_at-is r.system.ports q d.on d.there ∙ e) d)) (λ e. (none.w q d.on d.there e, none.z q d.on d.there e))
    ∙ sym (written_at-is r.system.ports Z q d.on d.there)

-- where W and Z are alike at what a port needs, they have the same value there
pub initial_same : (r : Run) → IsSound r.system → AreMachines r → (W Z : List (Option ℤ)) → Both r W Z → (p : ℕ) (port : Port) → slice_get r.system.ports p ≡ Some port →
    AlikeInitially r.system p W Z → (role : Role) → port.role ≡ role → initial_value role r W p port ≡ initial_value role r Z p port
initial_same r sound machines W Z none p port is alike (Input None) e = refl
initial_same r sound machines W Z none p port is alike (Input (Some feed)) e =
    if_same (is_unclocked port && is_unclocked_at r.system.ports feed.from.0) (fed port.kind feed W) (fed port.kind feed Z) (λ t.
    let parts = both (is_unclocked port) (is_unclocked_at r.system.ports feed.from.0) t in
    fed_same port.kind feed W Z (alike feed.from.0 (InitiallyByFeed (unclocked_at-is r.system.ports p port is ∙ parts.0) parts.1 port is (ap source_of e))))
initial_same r sound machines W Z none p port is alike Output e =
    if_same (is_read r.system.ports p) _ _ (λ t.
    let unclocked : is_unclocked_at r.system.ports p ≡ true = read_unclocked r.system.ports r.system.ports p t in
    at_fmu-same r (initializing r) port.component.0 (λ c m s. shown m (state_with r.system.ports W port.component.0 m s) port) (λ c m s. shown m (state_with r.system.ports Z port.component.0 m s) port) (λ c m s fmu.
    let placed = place_of r.system sound p port is in
    let same : c ≡ placed.component = same_Some _ _ (sym fmu.component ∙ placed.is.of) in
    let machine = machines.each port.component.0 c m fmu.component fmu.machine in
    ap (λ reply. value_in port.kind reply)
    (look_alike r.system sound true p port placed m s (written_at_port r.system.ports W) (written_at_port r.system.ports Z) (ap is_output_role e) (λ f. absurd (true_false f))
    (subst (λ (x : Component). IsMachineOf x.shape m) same machine.0) (subst (λ (x : Component). IsLawful x.shape m) same machine.1)
    (subst (λ (x : Component). IsStateOf x.shape true m s) same (states_initializing r machines port.component.0 c m s fmu))
    (record { on = written_initially r W Z none p unclocked alike; outputs = outputs_alike r.system.ports W Z }) (C.Get port.kind port.reference) refl)))
initial_same r sound machines W Z none p port is alike (ClockInput feed) e = refl
initial_same r sound machines W Z none p port is alike ClockOutput e = refl
initial_same r sound machines W Z none p port is alike (TimeClock timing) e = refl

-- what is needed there is without Clocks
pub needed_unclocked : (system : System) (p q : ℕ) → NeedsInitially system p q → is_unclocked_at system.ports q ≡ true
needed_unclocked system p q (InitiallyByFeed here there port is from) = there
needed_unclocked system p q (InitiallyByDependency here there d) = there

-- the equations of Initialization Mode have one solution at most
pub solves_initially_same : (r : Run) → IsSound r.system → AreMachines r → (W Z : List (Option ℤ)) → SolvesInitially r W → SolvesInitially r Z → W ≡ Z
solves_initially_same r sound machines W Z w z =
    let ports = r.system.ports in
    let order = port_numbers r.system.initial_order in
    let none : Both r W Z = record { w = none_outside r W w; z = none_outside r Z z } in
    let at_port : (p : ℕ) → AlikeInitially r.system p W Z → value W p ≡ value Z p = λ p alike.
    (elim (slice_get ports p) as (λ o. slice_get ports p ≡ o → value W p ≡ value Z p) [
      | None ↦ λ e. value_past W p (length ports) w.places (past ports p e) ∙ sym (value_past Z p (length ports) z.places (past ports p e))
      | Some port ↦ λ e. w.equations p port e ∙ initial_same r sound machines W Z none p port e alike port.role refl ∙ sym (z.equations p port e)
    ]) refl in
    let agree : AgreeOn order W Z = agree_along (NeedsInitially r.system) W Z (λ taken p closed on needed. at_port p (λ q n. on q (needed q n)))
    [] order (λ p q m n. absurd (none_in p m)) (λ q m. absurd (none_in q m)) (order_from (λ p. is_unclocked_at ports p ≡ true) (NeedsInitially r.system) order sound.initial_order [] order refl) in
    ext_get_or None W Z (w.places ∙ sym z.places) (λ p lt. at_port p (λ q n. agree q (sound.initial_order.each q (needed_unclocked r.system p q n))))
