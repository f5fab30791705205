use Rattle.std.proofs.Common.{◌≡◌, ℕ, Bool, length, sym, ap, ◌∙◌, subst}
use Rattle.std.proofs.lemmas.Option.{same_Some}
use Rattle.system_model.specs.declared.system.Port.{Port}
use Rattle.system_model.proofs.CallerLemmas.{all_at}
use Rattle.event_iteration.specs.Clocks.{is_due_at}
use Rattle.event_iteration.specs.Initialization.{IsPlaced}
use Rattle.event_iteration.specs.Instants.{HasPlacedClocks, takes_in_instant}
use Rattle.event_iteration.proofs.InInstant.{clocks_placed}
use Rattle.event_iteration.proofs.Rounds.{sources_placed}
use Rattle.event_iteration.proofs.Taking.{port_at}
use Rattle.event_iteration.proofs.instants.InInstantTurns.value_of.Goals as goal

pub value_of-requires-clause-placed : goal.value_of-requires-clause-placed
value_of-requires-clause-placed c =
    let system = c.args.system.now in
    let p = c.args.p in
    let port = c.index-as_slice-p.result in
    let is = port_at _ system.ports p port c.as_slice.ensures c.index-as_slice-p.is c.requires.port in
    subst (λ (n : ℕ). IsPlaced n port) (sym c.requires.values) (all_at (IsPlaced (length system.ports)) system.ports p port (sources_placed system c.requires.sound) is)

pub value_of-requires-clause-clocks : goal.value_of-requires-clause-clocks
value_of-requires-clause-clocks c =
    let system = c.args.system.now in
    let p = c.args.p in
    let port = c.index-as_slice-p.result in
    let is = port_at _ system.ports p port c.as_slice.ensures c.index-as_slice-p.is c.requires.port in
    subst (λ (n : ℕ). HasPlacedClocks n port) (sym c.requires.values) (all_at (HasPlacedClocks (length system.ports)) system.ports p port (clocks_placed system c.requires.sound) is)

pub returns : goal.returns
returns c = λ x x_is.
    let system = c.args.system.now in
    let p = c.args.p in
    let port = c.index-as_slice-p.result in
    let is = port_at _ system.ports p port c.as_slice.ensures c.index-as_slice-p.is c.requires.port in
    let self = c.args.self.now in
    subst (λ (y : Port). c.value_of.result ≡ takes_in_instant y.role y (is_due_at self.schedule.now self.t p) c.args.values.now c.args.last c.args.reply.now) (same_Some port x (sym is ∙ x_is))
    (c.value_of.ensures ∙ ap (λ (b : Bool). takes_in_instant port.role port b c.args.values.now c.args.last c.args.reply.now) c.ticks-ticks.ensures)
