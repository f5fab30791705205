-- Ports without Clocks.
use Rattle.std.proofs.Common.{◌≡◌, ℕ, ℤ, Bool, true, false, not, List, [], ◌∷◌, Option, Some, refl, sym, ap, ◌∙◌, length}
use Rattle.std.specs.Prelude.{◌==◌, ◌&&◌, ◌||◌, slice_get}
use Rattle.std.proofs.lemmas.Option.{same_Some}
use Rattle.sim_base.specs.declared.numbers.PortId.{PortId}
use Rattle.system_model.specs.declared.system.Component.{Component}
use Rattle.system_model.specs.declared.system.Port.{Port}
use Rattle.system_model.specs.declared.system.System.{System}
use Rattle.system_model.specs.Needs.{is_unclocked}
use Rattle.system_model.specs.Ports.{is_clock_role, port_numbers}
use Rattle.system_model.specs.Sound.{IsSound}
use Rattle.system_model.proofs.CallerLemmas.{at_contains, true_false, clock_at, events_of, place_of}
use Rattle.system_model.specs.Values.{is_present}

-- a port without Clocks is none, and has none
pub unclocked_parts : (port : Port) → is_unclocked port ≡ true → (is_clock_role port.role ≡ false) × ((length port.clocks == 0) ≡ true)
unclocked_parts port h = by (is_clock_role port.role) refl h
  where
    by : (b : Bool) → is_clock_role port.role ≡ b → (not b && (length port.clocks == 0)) ≡ true → (is_clock_role port.role ≡ false) × ((length port.clocks == 0) ≡ true)
    by true same e = absurd (true_false (sym e))
    by false same e = (same, e)

-- it is always present
pub present_unclocked : (port : Port) (values : List (Option ℤ)) → is_unclocked port ≡ true → is_present port values ≡ true
present_unclocked port values h = always (is_clock_role port.role) (length port.clocks == 0) _ (unclocked_parts port h).1
  where
    always : (a b c : Bool) → b ≡ true → (a || b || c) ≡ true
    always true b c e = refl
    always false true c e = refl
    always false false c e = absurd (true_false (sym e))

-- ---- an FMU without event mode

module _ (system : System) (sound : IsSound system) (c : Component) (plain : c.shape.has_event_mode ≡ false) where
  -- none of its ports is a Clock
  pub no_clock_of : (p : ℕ) (port : Port) → slice_get system.ports p ≡ Some port → slice_get system.components port.component.0 ≡ Some c → is_clock_role port.role ≡ false
  no_clock_of p port is of = by (is_clock_role port.role) refl
    where
      by : (b : Bool) → is_clock_role port.role ≡ b → is_clock_role port.role ≡ false
      by true clock =
          let placed = place_of system sound p port is in
          let same : placed.component ≡ c = same_Some _ _ (sym placed.is.of ∙ of) in
          absurd (true_false (sym (events_of system p port placed clock) ∙ ap (λ (x : Component). x.shape.has_event_mode) same ∙ plain))
      by false clock = clock

  -- nor has one
  pub clockless_of : (p : ℕ) (port : Port) → slice_get system.ports p ≡ Some port → slice_get system.components port.component.0 ≡ Some c → (length port.clocks == 0) ≡ true
  clockless_of p port is of = by port.clocks refl
    where
      by : (cs : List PortId) → port.clocks ≡ cs → (length cs == 0) ≡ true
      by [] same = refl
      by (x ∷ xs) same =
          let placed = place_of system sound p port is in
          let clock = clock_at system sound p port placed x.0 (at_contains (port_numbers port.clocks) 0 x.0 (ap (λ cs. slice_get (port_numbers cs) 0) same)) in
          absurd (true_false (sym clock.role ∙ no_clock_of x.0 clock.clock clock.is (ap (slice_get system.components) clock.component ∙ of)))

  pub present_of : (p : ℕ) (port : Port) (values : List (Option ℤ)) → slice_get system.ports p ≡ Some port → slice_get system.components port.component.0 ≡ Some c → is_present port values ≡ true
  present_of p port values is of =
      present_unclocked port values (ap (λ b. not b && (length port.clocks == 0)) (no_clock_of p port is of) ∙ clockless_of p port is of)
