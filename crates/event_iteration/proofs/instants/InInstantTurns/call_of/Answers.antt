use Rattle.std.proofs.Common.{◌≡◌, ℕ, Bool, Some, length, sym, ap, ◌∙◌, subst}
use Rattle.std.specs.Prelude.{slice_get}
use Rattle.std.proofs.lemmas.Option.{same_Some}
use Rattle.system_model.specs.declared.system.Port.{Port}
use Rattle.system_model.proofs.CallerLemmas.{all_at}
use Rattle.event_iteration.specs.Clocks.{is_due_at}
use Rattle.event_iteration.specs.Initialization.{IsPlaced}
use Rattle.event_iteration.specs.Instants.{HasPlacedClocks, asks_in_instant}
use Rattle.event_iteration.proofs.InInstant.{clocks_placed}
use Rattle.event_iteration.proofs.Rounds.{components_there, sources_placed}
use Rattle.event_iteration.proofs.Taking.{component_at, port_at}
use Rattle.event_iteration.proofs.instants.InInstantTurns.call_of.Goals as goal

pub has_event_mode-has_event_mode-requires : goal.has_event_mode-has_event_mode-requires
has_event_mode-has_event_mode-requires c =
    let system = c.args.system.now in
    let p = c.args.p in
    let port = c.index-as_slice-p.result in
    let is = port_at _ system.ports p port c.as_slice.ensures c.index-as_slice-p.is c.requires.port in
    (component_at system p port (components_there system c.requires.sound) is).within

pub call_of-requires-clause-placed : goal.call_of-requires-clause-placed
call_of-requires-clause-placed c =
    let system = c.args.system.now in
    let p = c.args.p in
    let port = c.index-as_slice-p.result in
    let is = port_at _ system.ports p port c.as_slice.ensures c.index-as_slice-p.is c.requires.port in
    subst (λ (n : ℕ). IsPlaced n port) (sym c.requires.values) (all_at (IsPlaced (length system.ports)) system.ports p port (sources_placed system c.requires.sound) is)

pub call_of-requires-clause-clocks : goal.call_of-requires-clause-clocks
call_of-requires-clause-clocks c =
    let system = c.args.system.now in
    let p = c.args.p in
    let port = c.index-as_slice-p.result in
    let is = port_at _ system.ports p port c.as_slice.ensures c.index-as_slice-p.is c.requires.port in
    subst (λ (n : ℕ). HasPlacedClocks n port) (sym c.requires.values) (all_at (HasPlacedClocks (length system.ports)) system.ports p port (clocks_placed system c.requires.sound) is)

pub returns : goal.returns
returns c = λ x k x_is of.
    let system = c.args.system.now in
    let p = c.args.p in
    let port = c.index-as_slice-p.result in
    let is = port_at _ system.ports p port c.as_slice.ensures c.index-as_slice-p.is c.requires.port in
    let self = c.args.self.now in
    subst (λ (y : Port). slice_get system.components y.component.0 ≡ Some k → c.call_of.result ≡ asks_in_instant y.role y k.shape.has_event_mode self.is_first (is_due_at self.schedule.now self.t p) c.args.values.now) (same_Some port x (sym is ∙ x_is))
    (λ own. c.call_of.ensures ∙ ap (λ (b : Bool). asks_in_instant port.role port b self.is_first c.ticks-ticks.result c.args.values.now) (c.has_event_mode-has_event_mode.ensures k own)
    ∙ ap (λ (b : Bool). asks_in_instant port.role port k.shape.has_event_mode self.is_first b c.args.values.now) c.ticks-ticks.ensures) of
