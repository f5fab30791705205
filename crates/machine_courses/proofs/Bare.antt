-- Between its steps a run of told machines has no saved state.
use Rattle.std.proofs.Common.{◌≡◌, ℕ, ◌+◌, ℤ, Bool, true, false, List, [], ◌∷◌, Option, Some, None, refl, sym, ap, ◌∙◌, subst, arith}
use Rattle.std.specs.Prelude.{if◌then◌else◌}
use Rattle.std.specs.List.{slice_get}
use Rattle.std.specs.Option.{option_map}
use Rattle.std.proofs.lemmas.Option.{none-some as none_some, same_Some, slice_get-map, slice_get_within}
use Rattle.fmi_calls.specs.declared.call.Call.TheVariants as C
use Rattle.fmu_peer.specs.Machine.{Machine, MachineState, SavedMachine, after}
use Rattle.fmu_peer.specs.Mode.{instantiate_of}
use Rattle.system_model.specs.declared.bound.BoundValue.{BoundValue}
use Rattle.system_model.specs.declared.system.Component.{Component}
use Rattle.system_model.specs.Text.{Instant}
use Rattle.run_model.specs.AfterInstant as F
use Rattle.run_model.specs.AfterInstant.{Following, following}
use Rattle.run_model.specs.Initial as I
use Rattle.run_model.specs.Inputs.{state_with}
use Rattle.run_model.specs.Machines.{AreMachines}
use Rattle.run_model.specs.Run.{Run, Situation, each}
use Rattle.run_model.specs.Stepping as P
use Rattle.run_model.specs.Stepping.{Departs, Next, departing, kept_at, step_to, stepped}
use Rattle.run_model.specs.Trace.{LeadsBy}
use Rattle.run_model.proofs.CallerLemmas.{each-get}
use Rattle.event_iteration.proofs.ByLog.{got}
use Rattle.machine_courses.specs.Prefixes.{AtFirst, CameTo, Onward}

-- none of these has one
abbrev pub AreBare : List MachineState → Type 0
AreBare ss = (i : ℕ) (s : MachineState) → slice_get ss i ≡ Some s → s.slot ≡ None

if_same : (b : Bool) (x y : MachineState) (o : Option SavedMachine) → x.slot ≡ o → y.slot ≡ o → (if b then x else y).slot ≡ o
if_same true x y o h k = h
if_same false x y o h k = k

bound_same : (m : Machine) (bs : List BoundValue) (s : MachineState) → (I.with_bound m bs s).slot ≡ s.slot
bound_same m [] s = refl
bound_same m (b ∷ bs) s = bound_same m bs (after m s (I.set_call b))

module _ (r : Run) where
  -- what keeps what is saved keeps nothing
  pub bare_on : (ss : List MachineState) (f : ℕ → Component → Machine → MachineState → MachineState) → AreBare ss → ((i : ℕ) (c : Component) (m : Machine) (s : MachineState) → (f i c m s).slot ≡ s.slot) → AreBare (each r ss f)
  bare_on ss f bare keeps i s at =
      let x = each-get f 0 i r.system.components r.machines ss s at in
      ap (λ (y : MachineState). y.slot) x.is ∙ keeps (0 + i) x.component x.machine x.state ∙ bare i x.state x.of_s

  -- ---- up to the first instant

  bare_first : AreMachines r → AreBare (I.first_states r)
  bare_first machines i s at = by (slice_get r.machines i) refl (sym (slice_get-map (λ (m : Machine). m.first) r.machines i) ∙ at) where
    by : (o : Option Machine) → slice_get r.machines i ≡ o → option_map (λ (m : Machine). m.first) o ≡ Some s → s.slot ≡ None
    by None is h = absurd (none_some s h)
    by (Some m) is h =
        let within = slice_get_within r.machines i m is in
        let c = got r.system.components i (let e = machines.count in omega (arith, e, within)) in
        ap (λ (y : MachineState). y.slot) (sym (same_Some m.first s h)) ∙ (machines.each i c.0 m c.1 is).0.empty

  bare_made : AreMachines r → AreBare (I.instantiated r)
  bare_made machines = bare_on (I.first_states r) (λ i c m s. after m s (instantiate_of r.plan.link c.shape)) (bare_first machines) (λ i c m s. refl)

  bare_configured : AreMachines r → AreBare (I.configured r)
  bare_configured machines = bare_on (I.instantiated r) (λ i c m s. I.with_bound m (I.bound_values r i) s) (bare_made machines) (λ i c m s. bound_same m (I.bound_values r i) s)

  bare_initializing : AreMachines r → AreBare (I.initializing r)
  bare_initializing machines = bare_on (I.configured r) (λ i c m s. after m s (I.enter_initialization r)) (bare_configured machines) (λ i c m s. refl)

  bare_initialized : AreMachines r → (W : List (Option ℤ)) → AreBare (I.initialized r W)
  bare_initialized machines W = bare_on (I.initializing r) (λ i c m s. state_with r.system.ports W i m s) (bare_initializing machines) (λ i c m s. refl)

  bare_beginning : AreMachines r → (W : List (Option ℤ)) → AreBare (I.beginning r W).states
  bare_beginning machines W = bare_on (I.initialized r W) (λ i c m s. after m s C.ExitInitialization) (bare_initialized machines W) (λ i c m s. refl)

  -- ---- along the run

  module _ (z : Situation) (bare : AreBare z.states) where
    bare_written : (V : List (Option ℤ)) → AreBare (F.written r z V)
    bare_written V =
        bare_on z.states (λ i c m s. if c.shape.has_event_mode then state_with r.system.ports V i m s else s) bare
        (λ i c m s. if_same c.shape.has_event_mode (state_with r.system.ports V i m s) s s.slot refl refl)

    pub bare_updated : (V : List (Option ℤ)) → AreBare (F.updated r z V).states
    bare_updated V =
        bare_on (F.written r z V) (λ i c m s. if c.shape.has_event_mode then after m s C.Update else s) (bare_written V)
        (λ i c m s. if_same c.shape.has_event_mode (after m s C.Update) s s.slot refl refl)

    pub bare_departing : AreBare (departing r z)
    bare_departing =
        bare_on z.states (λ i c m s. if c.shape.has_event_mode then after m s C.EnterStep else state_with r.system.ports z.before i m s) bare
        (λ i c m s. if_same c.shape.has_event_mode (after m s C.EnterStep) (state_with r.system.ports z.before i m s) s.slot refl refl)

    bare_stepped : (asks : List ℕ) (point : ℕ) → AreBare (stepped r z asks point).states
    bare_stepped asks point =
        bare_on (departing r z) (λ i c m s. let there : MachineState = after m s (step_to z.t (kept_at asks i)) in if c.shape.has_event_mode then after m there C.EnterEvent else there) bare_departing
        (λ i c m s. let there : MachineState = after m s (step_to z.t (kept_at asks i)) in if_same c.shape.has_event_mode (after m there C.EnterEvent) there s.slot refl refl)

  abbrev IsBare : Next → Type 0
  IsBare (P.Ends kind point) = Unit {0}
  IsBare (P.EndsBefore kind point) = Unit {0}
  IsBare (P.GoesOn z) = AreBare z.states

  departs_bare : {z : Situation} {next : Next} → AreBare z.states → Departs r z next → IsBare next
  departs_bare {z} {next} bare (P.AtStop x at is) = subst IsBare (sym is) tt
  departs_bare {z} {next} bare (P.WhereAsked x kept point step asks is) = subst IsBare (sym is) tt
  departs_bare {z} {next} bare (P.WhereFixed x i e lacks is) = subst IsBare (sym is) tt
  departs_bare {z} {next} bare (P.ByStep x kept point step asks is) = subst IsBare (sym is) (bare_stepped z bare kept point)

  leads_bare : (f : Following) (z : Situation) (V : List (Option ℤ)) (next : Next) → AreBare z.states → LeadsBy f r z V next → IsBare next
  leads_bare F.OutOfRange z V next bare is = subst IsBare (sym is) tt
  leads_bare F.Ended z V next bare is = subst IsBare (sym is) tt
  leads_bare F.AtLimit z V next bare is = subst IsBare (sym is) tt
  leads_bare F.Again z V next bare is = subst IsBare (sym is) (bare_updated z bare V)
  leads_bare F.Done z V next bare d = departs_bare (bare_updated z bare V) d

  -- where the run comes to no state is saved
  pub bare_at : AreMachines r → (z : Situation) (is : List Instant) → CameTo r z is → AreBare z.states
  bare_at machines _ _ (AtFirst z is initial solves kept begins none) = subst (λ (y : Situation). AreBare y.states) (sym begins) (bare_beginning machines initial)
  bare_at machines _ _ (Onward z is before values earlier came solves leads is_is) = leads_bare (following r before values) before values (P.GoesOn z) (bare_at machines before earlier came) leads
