-- Along a run the values of a built-in FMU under references that no inputs have stay as they were set.
use Rattle.std.proofs.Common.{◌≡◌, ℕ, ℤ, Bool, true, false, List, length, map, filter, Option, Some, None, if◌then◌else◌, refl, sym, ap, ◌∙◌, subst}
use Rattle.std.specs.List.{IsDistinct, slice_get}
use Rattle.std.specs.Option.{option_and_then, option_map, option_map_or}
use Rattle.std.specs.Prelude.{◌==◌, nat_eq, position}
use Rattle.std.proofs.lemmas.List.{length-map}
use Rattle.std.proofs.lemmas.Option.{same_Some, slice_get-map}
use Rattle.value_types.specs.Shape.{is_input, variable_at}
use Rattle.value_types.specs.declared.shape.Variable.{Variable}
use Rattle.fmi_calls.specs.declared.call.Call.TheVariants as C
use Rattle.fmu_peer.specs.Machine.{Machine, MachineState, after, zero_at}
use Rattle.fmi_calls.specs.Permission.{is_input_clock}
use Rattle.bench_fmus.specs.BuiltIn.{Behaviour, first_state, machine_of}
use Rattle.system_model.specs.declared.system.Component.{Component}
use Rattle.system_model.specs.Ports.{is_output_role}
use Rattle.system_model.specs.Shapes.{IsSoundShape}
use Rattle.system_model.specs.Sound.{IsSound}
use Rattle.system_model.proofs.CallerLemmas.{all_at, true_false, Placed, is_input_of, place_of}
use Rattle.run_model.specs.Run.{Run, Situation, each}
use Rattle.run_model.specs.Inputs.{is_under, state_with, under, written_at_port}
use Rattle.run_model.specs.Initial as I
use Rattle.run_model.specs.AfterInstant as A
use Rattle.run_model.specs.AfterInstant.{Again, AtLimit, Done, Ended, Following, OutOfRange, following}
use Rattle.run_model.specs.Stepping as P
use Rattle.run_model.specs.Stepping.{AtStop, ByStep, Departs, GoesOn, Next, WhereAsked, WhereFixed}
use Rattle.run_model.specs.Trace.{LeadsBy}
use Rattle.run_model.specs.Behaved as B
use Rattle.run_model.proofs.CallerLemmas.{Found, found_at, written_at-output, ends_or_goes, situation_of}
use Rattle.run_model.proofs.CallerLemmas as S
use Rattle.built_in_laws.specs.Clocks.{IsNoInput}
use Rattle.built_in_laws.proofs.Keeping.{configured_is, kept_unticked, kept_written}
use Rattle.built_in_laws.proofs.Timings.{AreSet}

-- the i-th FMU of a run, of a behaviour
module _ (r : Run) (sound : IsSound r.system) (i : ℕ) (c : Component) (b : Behaviour)
    (of_c : slice_get r.system.components i ≡ Some c) (of_m : slice_get r.machines i ≡ Some (machine_of b c.shape)) where
  -- its values are those that were set, where no input has them
  abbrev pub IsSet : MachineState → Type 0
  IsSet s = AreSet c.shape (I.bound_values r i) s.values

  abbrev pub AreSetIn : List MachineState → Type 0
  AreSetIn states = (s : MachineState) → slice_get states i ≡ Some s → IsSet s

  -- what keeps them keeps them there
  kept_each : (states : List MachineState) (f : ℕ → Component → Machine → MachineState → MachineState) → AreSetIn states → ((s : MachineState) → IsSet s → IsSet (f i c (machine_of b c.shape) s)) → AreSetIn (each r states f)
  kept_each states f set keep s at =
      let before = S.fmu_before r states f i c (machine_of b c.shape) s (record { component = of_c; machine = of_m; state = at }) in
      subst IsSet (sym before.is) (keep before.before (set before.before before.fmu.state))

  -- ---- single calls

  nothing_written : (V : List (Option ℤ)) (reference : ℕ) → IsNoInput c.shape reference → under r.system.ports (written_at_port r.system.ports V) i reference ≡ None
  nothing_written V reference no_input = by (position (is_under i reference) r.system.ports) refl
    where
      no_write : (q : ℕ) → Found r.system.ports i reference q → written_at_port r.system.ports V q ≡ None
      no_write q found = by_role (is_output_role found.port.role) refl
        where
          by_role : (o : Bool) → is_output_role found.port.role ≡ o → written_at_port r.system.ports V q ≡ None
          by_role true output = written_at-output r.system.ports V q found.port found.is output
          by_role false input =
              let placed : Placed r.system q found.port = place_of r.system sound q found.port found.is in
              let same : placed.component ≡ c = same_Some placed.component c (sym placed.is.of ∙ ap (slice_get r.system.components) found.component ∙ of_c) in
              let there : variable_at c.shape.variables reference ≡ Some placed.variable =
              ap (λ (x : Component). variable_at x.shape.variables reference) (sym same) ∙ ap (variable_at placed.component.shape.variables) (sym found.under) ∙ placed.is.there in
              let is : is_input placed.variable.causality ≡ true = ap is_input (is_input_of r.system q found.port placed input) in
              absurd (true_false (sym is ∙ sym (ap (λ (o : Option Variable). option_map_or (λ (v : Variable). is_input v.causality) o false) there) ∙ no_input))

      by : (o : Option ℕ) → position (is_under i reference) r.system.ports ≡ o → under r.system.ports (written_at_port r.system.ports V) i reference ≡ None
      by None none = ap (option_and_then (written_at_port r.system.ports V)) none
      by (Some q) at = ap (option_and_then (written_at_port r.system.ports V)) at ∙ no_write q (found_at r.system.ports i reference q at)

  kept_with : (V : List (Option ℤ)) (s : MachineState) → IsSet s → IsSet (state_with r.system.ports V i (machine_of b c.shape) s)
  kept_with V s set reference no_input =
      kept_written c.shape.variables reference (under r.system.ports (written_at_port r.system.ports V) i) s.values (nothing_written V reference no_input) ∙ set reference no_input

  distinct : IsDistinct nat_eq (map (λ (v : Variable). v.reference) c.shape.variables)
  distinct = (all_at (λ (x : Component). IsSoundShape x.shape) r.system.components i c sound.components.shapes of_c).variables.distinct

  kept_update : (s : MachineState) → IsSet s → IsSet (after (machine_of b c.shape) s C.Update)
  kept_update s set reference no_input =
      kept_written c.shape.variables reference (zero_at (map (λ (v : Variable). v.reference) (filter is_input_clock c.shape.variables))) s.values (kept_unticked c.shape distinct reference no_input) ∙ set reference no_input

  kept_if : (test : Bool) (x y : MachineState) → IsSet x → IsSet y → IsSet (if test then x else y)
  kept_if true x y sx sy = sx
  kept_if false x y sx sy = sy

  -- ---- up to the beginning

  abbrev AreFirstIn : List MachineState → Type 0
  AreFirstIn states = (s : MachineState) → slice_get states i ≡ Some s → s.values ≡ (first_state c.shape.variables).values

  first : AreFirstIn (I.first_states r)
  first s at =
      let is : (machine_of b c.shape).first ≡ s =
      same_Some _ _ (sym (slice_get-map (λ (x : Machine). x.first) r.machines i ∙ ap (option_map (λ (x : Machine). x.first)) of_m) ∙ at) in
      sym (ap (λ (x : MachineState). x.values) is)

  instantiated : AreFirstIn (I.instantiated r)
  instantiated s at =
      let before = S.fmu_before r (I.first_states r) (λ k x m z. after m z (C.Instantiate x.shape.has_event_mode x.shape.might_return_early (r.plan.link == 2))) i c (machine_of b c.shape) s (record { component = of_c; machine = of_m; state = at }) in
      ap (λ (x : MachineState). x.values) before.is ∙ first before.before before.fmu.state

  configured : AreSetIn (I.configured r)
  configured s at =
      let before = S.fmu_before r (I.instantiated r) (λ k x m z. I.with_bound m (I.bound_values r k) z) i c (machine_of b c.shape) s (record { component = of_c; machine = of_m; state = at }) in
      let is = instantiated before.before before.fmu.state in
      subst IsSet (sym before.is) (λ reference no_input. configured_is b c.shape (I.bound_values r i) before.before reference is (ap (λ (xs : List ℤ). length xs) is ∙ length-map c.shape.variables _))

  initializing : AreSetIn (I.initializing r)
  initializing = kept_each (I.configured r) _ configured (λ s set. set)

  pub initialized : (V : List (Option ℤ)) → AreSetIn (I.initialized r V)
  initialized V = kept_each (I.initializing r) _ initializing (kept_with V)

  beginning : (V : List (Option ℤ)) → AreSetIn (I.beginning r V).states
  beginning V = kept_each (I.initialized r V) _ (initialized V) (λ s set. set)

  -- ---- along the run

  pub written : (s : Situation) (V : List (Option ℤ)) → AreSetIn s.states → AreSetIn (A.written r s V)
  written s V set = kept_each s.states _ set (λ x is. kept_if c.shape.has_event_mode _ _ (kept_with V x is) is)

  updated : (s : Situation) (V : List (Option ℤ)) → AreSetIn s.states → AreSetIn (A.updated r s V).states
  updated s V set = kept_each (A.written r s V) _ (written s V set) (λ x is. kept_if c.shape.has_event_mode _ _ (kept_update x is) is)

  departing : (s : Situation) → AreSetIn s.states → AreSetIn (P.departing r s)
  departing s set = kept_each s.states _ set (λ x is. kept_if c.shape.has_event_mode _ _ is (kept_with s.before x is))

  stepped : (s : Situation) (kept : List ℕ) (point : ℕ) → AreSetIn s.states → AreSetIn (P.stepped r s kept point).states
  stepped s kept point set = kept_each (P.departing r s) _ (departing s set) (λ x is. kept_if c.shape.has_event_mode _ _ is is)

  departs : {s : Situation} {next : Next} → AreSetIn s.states → Departs r s next → (z : Situation) → next ≡ GoesOn z → AreSetIn z.states
  departs set (AtStop next at a) z e = absurd (true_false (ap ends_or_goes (sym a ∙ e)))
  departs set (WhereAsked next k p step asks a) z e = absurd (true_false (ap ends_or_goes (sym a ∙ e)))
  departs set (WhereFixed next j f lacks a) z e = absurd (true_false (ap ends_or_goes (sym a ∙ e)))
  departs {s} set (ByStep next k p step asks a) z e = subst (λ (x : Situation). AreSetIn x.states) (ap (λ (n : Next). situation_of n z) (sym a ∙ e)) (stepped s k p set)

  leads : (f : Following) (s : Situation) (V : List (Option ℤ)) (z : Situation) → AreSetIn s.states → LeadsBy f r s V (GoesOn z) → AreSetIn z.states
  leads OutOfRange s V z set a = absurd (true_false (sym (ap ends_or_goes a)))
  leads Ended s V z set a = absurd (true_false (sym (ap ends_or_goes a)))
  leads AtLimit s V z set a = absurd (true_false (sym (ap ends_or_goes a)))
  leads Again s V z set a = subst (λ (x : Situation). AreSetIn x.states) (ap (λ (n : Next). situation_of n z) (sym a)) (updated s V set)
  leads Done s V z set a = departs (updated s V set) a z refl

  pub reached : {s : Situation} → B.Reached r s → AreSetIn s.states
  reached (B.AtFirst s initial solves kept is) = subst (λ (x : Situation). AreSetIn x.states) (sym is) (beginning initial)
  reached (B.Onward s V next before solves on) = leads (following r s V) s V next (reached before) on
