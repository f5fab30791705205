use Rattle.std.proofs.Common.{◌≡◌, ℕ, Bool, None, Some, Contains, length, sym, ap, ◌∙◌, subst}
use Rattle.std.specs.Prelude.{slice_get}
use Rattle.std.proofs.lemmas.Option.{same_Some}
use Rattle.system_model.specs.declared.system.Port.{Port}
use Rattle.system_model.specs.Ports.{port_numbers}
use Rattle.system_model.specs.Values.{value}
use Rattle.system_model.proofs.CallerLemmas.{all_at}
use Rattle.event_iteration.specs.Clocks.{is_due_at}
use Rattle.event_iteration.specs.Instants.{HasPlacedClocks, asks_in_instant, is_silent_in_instant}
use Rattle.event_iteration.proofs.InInstant.{clocks_placed}
use Rattle.event_iteration.proofs.Rounds.{components_there}
use Rattle.event_iteration.proofs.Taking.{component_at, port_at}
use Rattle.event_iteration.proofs.WalkNeeds.{silent_in_instant}
use Rattle.event_iteration.proofs.instants.InInstantTurns.is_silent.Goals as goal

pub has_event_mode-has_event_mode-requires : goal.has_event_mode-has_event_mode-requires
has_event_mode-has_event_mode-requires c =
    let system = c.args.system.now in
    let p = c.args.p in
    let port = c.index-as_slice-p.result in
    let is = port_at _ system.ports p port c.as_slice.ensures c.index-as_slice-p.is c.requires.port in
    (component_at system p port (components_there system c.requires.sound) is).within

pub is_silent-requires : goal.is_silent-requires
is_silent-requires c =
    let system = c.args.system.now in
    let p = c.args.p in
    let port = c.index-as_slice-p.result in
    let is = port_at _ system.ports p port c.as_slice.ensures c.index-as_slice-p.is c.requires.port in
    record { clocks = subst (λ (n : ℕ). HasPlacedClocks n port) (sym c.requires.values) (all_at (HasPlacedClocks (length system.ports)) system.ports p port (clocks_placed system c.requires.sound) is) }

pub returns : goal.returns
returns c = λ silent x k others x_is of alike.
    let system = c.args.system.now in
    let p = c.args.p in
    let port = c.index-as_slice-p.result in
    let is = port_at _ system.ports p port c.as_slice.ensures c.index-as_slice-p.is c.requires.port in
    subst (λ (y : Port). slice_get system.components y.component.0 ≡ Some k → ((q : ℕ) → Contains (port_numbers y.clocks) q → value others q ≡ value c.args.values.now q) → asks_in_instant y.role y k.shape.has_event_mode c.args.self.now.is_first (is_due_at c.args.self.now.schedule.now c.args.self.now.t p) others ≡ None) (same_Some port x (sym is ∙ x_is))
    (λ own same. silent_in_instant port c.args.values.now others same port.role k.shape.has_event_mode c.args.self.now.is_first (is_due_at c.args.self.now.schedule.now c.args.self.now.t p)
    (ap (λ (b : Bool). is_silent_in_instant port.role port b c.args.values.now) (sym (c.has_event_mode-has_event_mode.ensures k own)) ∙ sym c.is_silent.ensures ∙ silent)) of alike
