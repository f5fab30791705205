-- Over machines the Sets before a step lead to the states of its beginning.
use Rattle.std.proofs.Common.{◌≡◌, ℕ, ◌<◌, ℤ, Bool, true, false, List, [], ◌∷◌, ◌++◌, Option, Some, None, refl, sym, ap, ◌∙◌, subst, append-nil, length}
use Rattle.std.specs.Prelude.{if◌then◌else◌, option_and_then, slice_get}
use Rattle.std.proofs.lemmas.Option.{slice_get_within}
use Rattle.fmi_calls.specs.declared.call.Call.{Call}
use Rattle.fmi_calls.specs.declared.call.Call.TheVariants as C
use Rattle.fmi_calls.specs.declared.call.Reply.{Reply}
use Rattle.fmu_peer.specs.CloseAll.{Instance}
use Rattle.fmu_peer.specs.Machine.{Machine, MachineState, after}
use Rattle.system_model.specs.declared.system.Component.{Component}
use Rattle.system_model.specs.declared.system.Role.{Role}
use Rattle.system_model.specs.declared.system.Role.TheVariants.{Input, ClockInput, TimeClock}
use Rattle.system_model.specs.declared.system.Port.{Port}
use Rattle.system_model.specs.declared.system.System.{System}
use Rattle.system_model.specs.Ports.{is_clock_role}
use Rattle.system_model.specs.Sound.{IsSound}
use Rattle.system_model.proofs.CallerLemmas.{true_false}
use Rattle.run_model.specs.Run.{Run, Situation, each}
use Rattle.system_model.specs.Values.{value}
use Rattle.run_model.specs.Inputs.{state_with, state_written, written_at_port, written_by}
use Rattle.run_model.specs.Stepping.{departing}
use Rattle.run_model.specs.Walk.{is_taken, only_at, write_if}
use Rattle.run_model.proofs.CallerLemmas.{written_at-is, keeps_beside, nothing_at_first, taken-is, writes_at_port}
use Rattle.slot_calls.specs.Log.{Sent, Told, part}
use Rattle.slot_calls.specs.Replies.{state_by, states_by}
use Rattle.event_iteration.specs.Machines.{AreAt}
use Rattle.event_iteration.specs.Settings.{DepartsForMachines, before_step, entered_step, port_order, sets_to}
use Rattle.event_iteration.specs.Turns.{Turn, Walked}
use Rattle.event_iteration.proofs.Clockless.{no_clock_of, present_of}
use Rattle.event_iteration.proofs.Fmus.{set_writes, state_more, after_if, each_same}
use Rattle.event_iteration.proofs.Setting.{NoNeeds, SetsPort, in_order, sets_ports}
use Rattle.event_iteration.proofs.Stages.{each_each, told_on}
use Rattle.event_iteration.proofs.Turning.{all_good, calls_of}
use Rattle.event_iteration.proofs.Walking.{Here, along}

module _ (system : System) (sound : IsSound system) (now : List (Option ℤ)) where
  abbrev at_port : ℕ → Option ℤ
  at_port = written_at_port system.ports now

  -- each FMU without event mode has the values of the ports that were taken
  abbrev midst : List ℕ → Machine → MachineState → ℕ → Component → MachineState
  midst taken m z i c = if c.shape.has_event_mode then z else state_written system.ports (only_at taken at_port) i m z

  abbrev Written : List ℕ → List Sent → Type 0
  Written taken log = (i : ℕ) (c : Component) → slice_get system.components i ≡ Some c → (m : Machine) (z : MachineState) → state_by m z (part i log) ≡ midst taken m z i c

  module _ (pre : List ℕ) (p : ℕ) (reply : Option Reply) (values next : List (Option ℤ)) (prefix sent : List Sent) (here : Here NoNeeds pre p) (was : Written pre prefix) (turn : Turn system (before_step now) p reply values next sent) where
    abbrev port : Port
    port = turn.port

    abbrev asks : Bool → Option Call
    asks events = if events then None else sets_to port.role port (value now p)

    -- without event mode a Set writes what is written at its port
    call_writes : turn.component.shape.has_event_mode ≡ false → (role : Role) → port.role ≡ role → (m : Machine) (x : MachineState) → after_if m x (sets_to role port (value now p)) ≡ write_if m port.reference x (written_by role port now (value now p))
    call_writes plain (Input (Some feed)) same m x =
        set_writes m x port (value now p) ∙ sym (ap (λ b. write_if m port.reference x (if b then value now p else None)) (present_of system sound turn.component plain p port now turn.is turn.of))
    call_writes plain (ClockInput feed) same m x = absurd (true_false (sym (ap is_clock_role same) ∙ no_clock_of system sound turn.component plain p port turn.is turn.of))
    call_writes plain (TimeClock timing) same m x = absurd (true_false (sym (ap is_clock_role same) ∙ no_clock_of system sound turn.component plain p port turn.is turn.of))
    call_writes plain role same m x = refl

    written_by_turn : (m : Machine) (z : MachineState) (b : Bool) → turn.component.shape.has_event_mode ≡ b →
        after_if m (if b then z else state_written system.ports (only_at pre at_port) port.component.0 m z) (asks b) ≡ (if b then z else state_written system.ports (only_at (pre ++ p ∷ []) at_port) port.component.0 m z)
    written_by_turn m z true e = refl
    written_by_turn m z false e =
        let mid : MachineState = state_written system.ports (only_at pre at_port) port.component.0 m z in
        call_writes e port.role refl m mid
        ∙ ap (write_if m port.reference mid) (sym (written_at-is system.ports now p port turn.is))
        ∙ writes_at_port system sound p port turn.is pre here.fresh at_port m z

    written_more : Written (pre ++ p ∷ []) (prefix ++ sent)
    written_more i c of m z = state_more turn prefix m z (midst pre m z) (midst (pre ++ p ∷ []) m z) (written_by_turn m z turn.component.shape.has_event_mode refl)
        (λ k d other. ap (λ y. if d.shape.has_event_mode then z else y) (keeps_beside system p port turn.is pre at_port k other m z)) i c of (was i c of m z)

  written_at_last : (q : ℕ) → only_at (port_order system) at_port q ≡ at_port q
  written_at_last q = (elim (slice_get system.ports q) as (λ o. slice_get system.ports q ≡ o → only_at (port_order system) at_port q ≡ at_port q) [
    | None ↦ λ e. either (is_taken (port_order system) q) (at_port q) (ap (λ o. option_and_then (λ (x : Port). written_by x.role x now (value now q)) o) e)
    | Some port ↦ λ e. ap (λ b. if b then at_port q else None) (taken-is (port_order system) q ((in_order system).each q (slice_get_within system.ports q port e)))
  ]) refl
    where
      either : (b : Bool) (o : Option ℤ) → o ≡ None → (if b then o else None) ≡ o
      either true o e = refl
      either false o e = sym e

  all_written_at_last : only_at (port_order system) at_port ≡ at_port
  all_written_at_last = λ i q. written_at_last q i

  module _ (len : length now ≡ length system.ports) (values : List (Option ℤ)) (log : List Sent) (walked : Walked system (before_step now) now (port_order system) values log) where
    -- after the Sets an FMU with event mode is in its state of before, and without event mode it has the values written
    pub state_is : (i : ℕ) (c : Component) → slice_get system.components i ≡ Some c → (m : Machine) (z : MachineState) → state_by m z (part i log) ≡ (if c.shape.has_event_mode then z else state_with system.ports now i m z)
    state_is i c of m z =
        (along (λ q. q < length system.ports) NoNeeds system (before_step now) now (port_order system) (in_order system) len (λ taken v l. Written taken l)
        (λ j d at n y. nothing d.shape.has_event_mode j n y)
        (λ pre p reply v next prefix sent here n was turn. written_more pre p reply v next prefix sent here was turn)
        (port_order system) [] values log (sym (append-nil (port_order system))) walked).1 i c of m z
        ∙ ap (λ w. if c.shape.has_event_mode then z else state_written system.ports w i m z) all_written_at_last
      where
        nothing : (b : Bool) (j : ℕ) (n : Machine) (y : MachineState) → y ≡ (if b then y else state_written system.ports (only_at [] at_port) j n y)
        nothing true j n y = refl
        nothing false j n y = sym (nothing_at_first system at_port j n y)

-- the states of a step's beginning, by those after EnterStep
pub depart_from : (r : Run) (s : Situation) (b : Bool) (i : ℕ) (m : Machine) (z : MachineState) →
    (if b then (if b then after m z C.EnterStep else z) else state_with r.system.ports s.before i m (if b then after m z C.EnterStep else z)) ≡ (if b then after m z C.EnterStep else state_with r.system.ports s.before i m z)
depart_from r s true i m z = refl
depart_from r s false i m z = refl

-- the Sets of told machines
pub sets_by : (r : Run) (sound : IsSound r.system) (now : List (Option ℤ)) (len : length now ≡ length r.system.ports) (values : List (Option ℤ)) (log : List Sent) → Walked r.system (before_step now) now (port_order r.system) values log → (ss : List MachineState) →
    states_by r ss log ≡ each r ss (λ i c m z. if c.shape.has_event_mode then z else state_with r.system.ports now i m z)
sets_by r sound now len values log walked ss =
    each_same r ss (λ i c m z. state_by m z (part i log)) (λ i c m z. if c.shape.has_event_mode then z else state_with r.system.ports now i m z)
    (λ i c m z fmu. state_is r.system sound now len values log walked i c fmu.component m z)

-- and with what EnterStep made of them they are those of the step's beginning
pub departs_by : (r : Run) (sound : IsSound r.system) (s : Situation) (len : length s.before ≡ length r.system.ports) (values : List (Option ℤ)) (log : List Sent) → Walked r.system (before_step s.before) s.before (port_order r.system) values log → states_by r (entered_step r s) log ≡ departing r s
departs_by r sound s len values log walked =
    sets_by r sound s.before len values log walked (entered_step r s)
    ∙ each_each (λ i c m y. if c.shape.has_event_mode then after m y C.EnterStep else y) (λ i c m y. if c.shape.has_event_mode then y else state_with r.system.ports s.before i m y) 0 r.system.components r.machines s.states
    ∙ each_same r s.states (λ i c m y. if c.shape.has_event_mode then (if c.shape.has_event_mode then after m y C.EnterStep else y) else state_with r.system.ports s.before i m (if c.shape.has_event_mode then after m y C.EnterStep else y))
    (λ i c m y. if c.shape.has_event_mode then after m y C.EnterStep else state_with r.system.ports s.before i m y)
    (λ i c m y fmu. depart_from r s c.shape.has_event_mode i m y)

-- the walk over a system leads to a step's beginning
pub departs_for_machines : (system : System) → IsSound system → (now : List (Option ℤ)) → length now ≡ length system.ports → (olds news : List Instance) (log : List Sent) → Told log olds news →
    Walked system (before_step now) now (port_order system) now log → DepartsForMachines system now olds news
departs_for_machines system sound now len olds news log told walked r s same before at =
    let own = subst (λ (x : System). Walked x (before_step s.before) s.before (port_order x) now log) (sym same) (subst (λ vs. Walked system (before_step vs) vs (port_order system) now log) (sym before) walked) in
    let len_own = ap length before ∙ len ∙ sym (ap (λ (x : System). length x.ports) same) in
    subst (λ (ss : List MachineState). AreAt r ss news) (departs_by r (subst IsSound (sym same) sound) s len_own now log own)
    (told_on r (entered_step r s) olds news at log told (all_good SetsPort r.system (port_order r.system) log (calls_of SetsPort r.system (before_step s.before) (sets_ports r.system s.before) s.before (port_order r.system) now log own)))
