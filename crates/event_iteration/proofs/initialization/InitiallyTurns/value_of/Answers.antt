use Rattle.std.proofs.Common.{◌≡◌, List, length, sym, ap, ◌∙◌, subst}
use Rattle.std.proofs.lemmas.Option.{same_Some}
use Rattle.system_model.specs.declared.system.Port.{Port}
use Rattle.system_model.proofs.CallerLemmas.{all_at}
use Rattle.event_iteration.specs.Initialization.{IsPlaced, takes_initially}
use Rattle.event_iteration.proofs.Rounds.{sources_placed}
use Rattle.event_iteration.proofs.Taking.{port_at}
use Rattle.event_iteration.proofs.initialization.InitiallyTurns.value_of.Goals as goal

pub value_of-requires-clause-placed : goal.value_of-requires-clause-placed
value_of-requires-clause-placed c =
    let system = c.args.system.now in
    let p = c.args.p in
    let port = c.index-ports-p.result in
    let is = port_at _ system.ports p port c.as_slice-ports.ensures c.index-ports-p.is c.requires.port in
    subst (λ (xs : List Port). IsPlaced (length xs) port) (sym c.as_slice-ports.ensures) (all_at (IsPlaced (length system.ports)) system.ports p port (sources_placed system c.requires.sound) is)

pub value_of-requires-clause-values : goal.value_of-requires-clause-values
value_of-requires-clause-values c = c.requires.values ∙ ap length (sym c.as_slice-ports.ensures)

pub returns : goal.returns
returns c = λ x x_is.
    let system = c.args.system.now in
    let p = c.args.p in
    let port = c.index-ports-p.result in
    let is = port_at _ system.ports p port c.as_slice-ports.ensures c.index-ports-p.is c.requires.port in
    subst (λ (y : Port). c.value_of.result ≡ takes_initially y.role system.ports y c.args.values.now c.args.reply.now) (same_Some port x (sym is ∙ x_is))
    (c.value_of.ensures ∙ ap (λ (ps : List Port). takes_initially port.role ps port c.args.values.now c.args.reply.now) c.as_slice-ports.ensures)
