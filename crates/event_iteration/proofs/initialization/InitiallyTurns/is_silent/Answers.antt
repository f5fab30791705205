use Rattle.std.proofs.Common.{◌≡◌, List, None, length, sym, ap, ◌∙◌, subst}
use Rattle.std.proofs.lemmas.Option.{same_Some}
use Rattle.system_model.specs.declared.system.Port.{Port}
use Rattle.system_model.proofs.CallerLemmas.{all_at}
use Rattle.run_model.specs.Initial.{is_read}
use Rattle.event_iteration.specs.Initialization.{IsPlaced, asks_initially, is_silent_initially}
use Rattle.event_iteration.proofs.Rounds.{sources_placed}
use Rattle.event_iteration.proofs.Taking.{port_at}
use Rattle.event_iteration.proofs.WalkNeeds.{silent_initially}
use Rattle.event_iteration.proofs.initialization.InitiallyTurns.is_silent.Goals as goal

pub is_silent-requires : goal.is_silent-requires
is_silent-requires c =
    let system = c.args.system.now in
    let p = c.args.p in
    let port = c.index-ports-p.result in
    let is = port_at _ system.ports p port c.as_slice-ports.ensures c.index-ports-p.is c.requires.port in
    subst (λ (xs : List Port). IsPlaced (length xs) port) (sym c.as_slice-ports.ensures) (all_at (IsPlaced (length system.ports)) system.ports p port (sources_placed system c.requires.sound) is)

pub returns : goal.returns
returns c = λ silent x k others x_is of alike.
    let system = c.args.system.now in
    let p = c.args.p in
    let port = c.index-ports-p.result in
    let is = port_at _ system.ports p port c.as_slice-ports.ensures c.index-ports-p.is c.requires.port in
    subst (λ (y : Port). asks_initially y.role system.ports (is_read system.ports p) y others ≡ None) (same_Some port x (sym is ∙ x_is))
    (silent_initially system.ports port others (is_read system.ports p) port.role (ap (λ (ps : List Port). is_silent_initially port.role ps port) (sym c.as_slice-ports.ensures) ∙ sym c.is_silent.ensures ∙ silent))
