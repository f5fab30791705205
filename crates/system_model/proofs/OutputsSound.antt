-- FMUs whose ports are outputs, side by side, are a sound system.
use Rattle.std.proofs.Common.{◌≡◌, ℕ, zero, suc, ◌+◌, ◌<◌, Bool, true, false, ◌&&◌, ◌||◌, not, List, [], ◌∷◌, length, map, refl, sym, ◌∙◌, ap, subst, arith, All, Contains, ◌⊎◌, inl, inr}
use Rattle.std.specs.Prelude.{Option, Some, None, IsSomeAnd, is_some, slice_get, ◌==◌}
use Rattle.std.specs.Option.{option_map, option_map_or}
use Rattle.std.specs.List.{AllZip}
use Rattle.std.proofs.lemmas.Option.{none-some as none_some, same_Some, slice_get-map, slice_get_within}
use Rattle.sim_base.specs.declared.numbers.PortId.{PortId}
use Rattle.value_types.specs.Shape.{variable_at, dependency_at, is_at, is_clock, is_output, is_input_port, is_output_port, is_known, is_declared}
use Rattle.value_types.specs.declared.shape.Causality.{Causality}
use Rattle.value_types.specs.declared.shape.Causality.TheVariants as V
use Rattle.value_types.specs.declared.shape.Variable.{Variable}
use Rattle.value_types.specs.declared.shape.Knowns.{Knowns}
use Rattle.value_types.specs.declared.shape.Knowns.TheVariants.{AllInputs, Listed}
use Rattle.value_types.specs.declared.shape.Dependency.{Dependency}
use Rattle.value_types.specs.declared.shape.Shape.{Shape}
use Rattle.system_model.specs.declared.system.Component.{Component}
use Rattle.system_model.specs.declared.system.Role.{Role}
use Rattle.system_model.specs.declared.system.Role.TheVariants.{Output}
use Rattle.system_model.specs.declared.system.Port.{Port}
use Rattle.system_model.specs.declared.system.System.{System}
use Rattle.system_model.specs.Ports.{feed_of, port_numbers, label_of, labels_from, source_of, is_clock_role}
use Rattle.system_model.specs.Needs.{Needs, ByFeed, ByClock, ByDependency, NeedsInitially, InitiallyByFeed, InitiallyByDependency, DependsOn, is_unclocked, is_unclocked_at}
use Rattle.system_model.specs.Shapes.{IsSoundShape, NamesClocks}
use Rattle.system_model.specs.Sound.{IsSound, IsPort, IsRole, IsUnder, HasSoundComponents, HasSoundPorts}
use Rattle.system_model.specs.Outputs.{HasOutputsAlone, IsOfOutputs}
use Rattle.system_model.proofs.EarlyLemmas.{none_early}
use Rattle.system_model.proofs.Lists.{all_at, all_by_place, found_at, found_under, true_false}
use Rattle.system_model.proofs.Labels.{Labels, label_found}
use Rattle.system_model.proofs.OrderLemmas.{order_by_number}

-- ---- tests

output_is : (causality : Causality) → is_output causality ≡ true → causality ≡ V.Output
output_is V.Output e = refl
output_is V.Parameter e = absurd (true_false (sym e))
output_is V.CalculatedParameter e = absurd (true_false (sym e))
output_is V.StructuralParameter e = absurd (true_false (sym e))
output_is V.Input e = absurd (true_false (sym e))
output_is V.Local e = absurd (true_false (sym e))
output_is V.Independent e = absurd (true_false (sym e))
output_is V.Other e = absurd (true_false (sym e))

left : (a b : Bool) → (a && b) ≡ true → a ≡ true
left true b e = refl
left false b e = absurd (true_false (sym e))

other : (a b : Bool) → (a || b) ≡ true → a ≡ false → b ≡ true
other true b e f = absurd (true_false f)
other false b e f = e

-- ---- components

shape_at : (system : System) → IsOfOutputs system → (i : ℕ) (c : Component) → slice_get system.components i ≡ Some c → HasOutputsAlone c.shape
shape_at system is i c of = all_at (λ (x : Component). HasOutputsAlone x.shape) system.components i c is.shapes of

sound_components : (system : System) → IsOfOutputs system → HasSoundComponents system
sound_components system is = record {
  few = is.few;
  named = is.named;
  shapes = all_by_place (λ (c : Component). IsSoundShape c.shape) system.components (λ i c of. (shape_at system is i c of).sound);
  per_second = is.per_second;
  above = is.above;
  within = is.within;
  resolutions = is.resolutions;
  saved = λ two. absurd (let none = none_early (map (λ (c : Component). c.shape) system.components) no_early in omega (arith, none, two));
} where
  no_early : (i : ℕ) (s : Shape) → slice_get (map (λ (c : Component). c.shape) system.components) i ≡ Some s → s.might_return_early ≡ false
  no_early i s at = by (slice_get system.components i) refl where
    named : slice_get (map (λ (c : Component). c.shape) system.components) i ≡ option_map (λ (c : Component). c.shape) (slice_get system.components i)
    named = slice_get-map (λ (c : Component). c.shape) system.components i

    by : (o : Option Component) → slice_get system.components i ≡ o → s.might_return_early ≡ false
    by None of = absurd (none_some s (ap (option_map (λ (c : Component). c.shape)) (sym of) ∙ sym named ∙ at))
    by (Some c) of =
        let own : c.shape ≡ s = same_Some c.shape s (ap (option_map (λ (c : Component). c.shape)) (sym of) ∙ sym named ∙ at) in
        ap (λ (x : Shape). x.might_return_early) (sym own) ∙ (shape_at system is i c of).no_early

-- ---- ports

plain : (system : System) → IsOfOutputs system → (p : ℕ) (port : Port) → slice_get system.ports p ≡ Some port → (port.role ≡ Output) × (port.clocks ≡ [])
plain system is p port at = all_at (λ (x : Port). (x.role ≡ Output) × (x.clocks ≡ [])) system.ports p port is.outputs at

-- a variable found under a port's reference is that of the port, an output
output_of : (system : System) → IsOfOutputs system → (p : ℕ) (port : Port) (c : Component) (v : Variable) → IsPort system p port c v → (v.causality ≡ V.Output) × (v.kind ≡ Some port.kind)
output_of system is p port c v at =
    let labelled : slice_get (labels_from 0 system.components) p ≡ Some (label_of port) =
    ap (λ xs. slice_get xs p) (sym is.numbered) ∙ slice_get-map label_of system.ports p ∙ ap (option_map label_of) at.at in
    let found : Labels 0 system.components (label_of port) = label_found 0 system.components p (label_of port) labelled in
    let number : found.number ≡ port.component.0 = (let e : port.component.0 ≡ 0 + found.number = found.is.component in omega (arith, e)) in
    let same : found.component ≡ c = same_Some _ _ (sym found.of ∙ ap (slice_get system.components) number ∙ at.of) in
    let there : slice_get c.shape.variables found.place ≡ Some found.variable = ap (λ (x : Component). slice_get x.shape.variables found.place) (sym same) ∙ found.there in
    let shape : HasOutputsAlone c.shape = shape_at system is port.component.0 c at.of in
    let is_v : found.variable ≡ v = same_Some _ _
    (sym (ap (variable_at c.shape.variables) found.is.reference ∙ found_under (λ (x : Variable). x.reference) c.shape.variables found.place found.variable shape.sound.variables.distinct there) ∙ at.there) in
    let no_input : is_input_port found.variable ≡ false = all_at (λ (x : Variable). is_input_port x ≡ false) c.shape.variables found.place found.variable shape.no_inputs there in
    let output : is_output_port found.variable ≡ true = other (is_input_port found.variable) (is_output_port found.variable) found.is.port no_input in (
      ap (λ (x : Variable). x.causality) (sym is_v) ∙ output_is found.variable.causality (left (is_output found.variable.causality) (is_some found.variable.kind) output),
      ap (λ (x : Variable). x.kind) (sym is_v) ∙ found.is.kind,
    )

-- without Clocks a variable that isn't ignored names none
names_none : (shape : Shape) → All (λ (v : Variable). is_clock v ≡ false) shape.variables → (clocks : List ℕ) → All (λ r. is_at is_clock shape.variables r ≡ true) clocks → clocks ≡ []
names_none shape none [] all = refl
names_none shape none (r ∷ rs) all =
    let is : is_at is_clock shape.variables r ≡ true = all_at (λ x. is_at is_clock shape.variables x ≡ true) (r ∷ rs) 0 r all refl in
    (elim (variable_at shape.variables r) as (λ o. variable_at shape.variables r ≡ o → option_map_or is_clock o false ≡ true → (r ∷ rs) ≡ []) [
      | None ↦ λ e h. absurd (true_false (sym h))
      | Some v ↦ λ e h.
          let found = found_at (λ (x : Variable). x.reference) shape.variables r v e in
          absurd (true_false (sym h ∙ all_at (λ (x : Variable). is_clock x ≡ false) shape.variables found.place v none found.is))
    ]) refl is

sound_ports : (system : System) → IsOfOutputs system → HasSoundPorts system
sound_ports system is = record {
  few = is.few_ports;
  numbered = is.numbered;
  roles = λ p port c v at.
      let shape = shape_at system is port.component.0 c at.of in
      let found = found_at (λ (x : Variable). x.reference) c.shape.variables port.reference v at.there in
      let no_clock : is_clock v ≡ false = all_at (λ (x : Variable). is_clock x ≡ false) c.shape.variables found.place v shape.no_clocks found.is in
      subst (IsRole c.shape v) (sym (plain system is p port at.at).0) ((output_of system is p port c v at).0, no_clock);
  clocks = λ p port c v at.
      let shape = shape_at system is port.component.0 c at.of in
      let found = found_at (λ (x : Variable). x.reference) c.shape.variables port.reference v at.there in
      let names = all_at (NamesClocks c.shape) c.shape.variables found.place v shape.sound.variables.clocks found.is (ap is_some (output_of system is p port c v at).1) in
      let none : v.clocks ≡ [] = names_none c.shape shape.no_clocks v.clocks names in
      subst (λ xs. AllZip (IsUnder system port.component.0) xs port.clocks) (sym none) (subst (λ xs. AllZip (IsUnder system port.component.0) [] xs) (sym (plain system is p port at.at).1) tt);
}

-- ---- nothing is needed

no_feed : (role : Role) (q : ℕ) → role ≡ Output → source_of role ≡ Some q → ⊥
no_feed role q is e = none_some q (sym (ap source_of is) ∙ e)

no_event : (system : System) → IsOfOutputs system → (i : ℕ) (c : Component) → slice_get system.components i ≡ Some c → c.shape.has_event_mode ≡ true → ⊥
no_event system is i c of events = true_false (sym events ∙ (shape_at system is i c of).no_events)

needs_none : (system : System) → IsOfOutputs system → (p q : ℕ) → Needs system p q → ⊥
needs_none system is p q (ByFeed port at from) = no_feed port.role q (plain system is p port at).0 from
needs_none system is p q (ByClock port at among) =
    let m : Contains (port_numbers []) q = subst (λ (xs : List PortId). Contains (port_numbers xs) q) (plain system is p port at).1 among in
    let less : m.0 < 0 = m.1 in
    absurd (omega (arith, less))
needs_none system is p q (ByDependency d events) = no_event system is d.port.component.0 d.component d.of events

-- knowns that are all inputs, of which there is none, or an empty list
knows_none : (on : Knowns) (v : Variable) → (on ≡ AllInputs) ⊎ (on ≡ Listed []) → is_input_port v ≡ false → is_known on v ≡ false
knows_none on v (inl all) no_input = ap (λ k. is_known k v) all ∙ no_input
knows_none on v (inr none) no_input = ap (λ k. is_known k v) none

declares_none : (shape : Shape) → HasOutputsAlone shape → (output : ℕ) (v : Variable) → is_input_port v ≡ false → is_declared shape true output v ≡ true → ⊥
declares_none shape alone output v no_input declared =
    (elim (dependency_at shape.initial_dependencies output) as (λ o. dependency_at shape.initial_dependencies output ≡ o → option_map_or (λ (d : Dependency). is_known d.on v) o false ≡ true → ⊥) [
      | None ↦ λ e h. true_false (sym h)
      | Some d ↦ λ e h.
          let found = found_at (λ (x : Dependency). x.output) shape.initial_dependencies output d e in
          true_false (sym h ∙ knows_none d.on v (all_at (λ (x : Dependency). (x.on ≡ AllInputs) ⊎ (x.on ≡ Listed [])) shape.initial_dependencies found.place d alone.independent found.is) no_input)
    ]) refl declared

depends_none : (system : System) → IsOfOutputs system → (p q : ℕ) → DependsOn system true p q → ⊥
depends_none system is p q d =
    (elim (variable_at d.component.shape.variables d.on.reference) as (λ o. variable_at d.component.shape.variables d.on.reference ≡ o → IsSomeAnd o (λ (v : Variable). is_declared d.component.shape true d.port.reference v ≡ true) → ⊥) [
      | None ↦ λ e h. h
      | Some v ↦ λ e h.
          let shape = shape_at system is d.port.component.0 d.component d.of in
          let found = found_at (λ (x : Variable). x.reference) d.component.shape.variables d.on.reference v e in
          declares_none d.component.shape shape d.port.reference v (all_at (λ (x : Variable). is_input_port x ≡ false) d.component.shape.variables found.place v shape.no_inputs found.is) h
    ]) refl d.declared

needs_none_initially : (system : System) → IsOfOutputs system → (p q : ℕ) → NeedsInitially system p q → ⊥
needs_none_initially system is p q (InitiallyByFeed here there port at from) = no_feed port.role q (plain system is p port at).0 from
needs_none_initially system is p q (InitiallyByDependency here there d) = depends_none system is p q d

-- ---- the whole

unclocked_within : (ports : List Port) (p : ℕ) → is_unclocked_at ports p ≡ true → p < length ports
unclocked_within ports p e =
    (elim (slice_get ports p) as (λ o. slice_get ports p ≡ o → option_map_or is_unclocked o false ≡ true → p < length ports) [
      | None ↦ λ at h. absurd (true_false (sym h))
      | Some port ↦ λ at h. slice_get_within ports p port at
    ]) refl e

within_unclocked : (system : System) → IsOfOutputs system → (p : ℕ) → p < length system.ports → is_unclocked_at system.ports p ≡ true
within_unclocked system is p less =
    (elim (slice_get system.ports p) as (λ o. slice_get system.ports p ≡ o → option_map_or is_unclocked o false ≡ true) [
      | None ↦ λ at. absurd (past system.ports p at less)
      | Some port ↦ λ at. let h = plain system is p port at in
          ap (λ role. not (is_clock_role role) && length port.clocks == 0) h.0 ∙ ap (λ (xs : List PortId). length xs == 0) h.1
    ]) refl
  where
    past : (xs : List Port) (k : ℕ) → slice_get xs k ≡ None → k < length xs → ⊥
    past [] k e lt = absurd (omega (arith, lt))
    past (x ∷ xs) zero e lt = none_some x (sym e)
    past (x ∷ xs) (suc k) e lt = past xs k e (omega (arith, lt))

pub outputs_sound : (system : System) → IsOfOutputs system → IsSound system
outputs_sound system is = record {
  components = sound_components system is;
  ports = sound_ports system is;
  feeds = λ p port feed at from. absurd (none_some feed (sym (ap feed_of (plain system is p port at).0) ∙ from));
  instant_order = order_by_number (length system.ports) (λ p. p < length system.ports) (Needs system) (port_numbers system.instant_order) is.instant_order (λ p h. h) (λ p h. h) (needs_none system is);
  initial_order = order_by_number (length system.ports) (λ p. is_unclocked_at system.ports p ≡ true) (NeedsInitially system) (port_numbers system.initial_order) is.initial_order
      (unclocked_within system.ports) (within_unclocked system is) (needs_none_initially system is);
}
