use Rattle.std.proofs.Common.{◌≡◌, ◌<◌, ℕ, Bool, List, length, sym, ap, ap₂, ◌∙◌, subst}
use Rattle.std.proofs.lemmas.Option.{same_Some}
use Rattle.system_model.specs.declared.system.Port.{Port}
use Rattle.system_model.proofs.CallerLemmas.{all_at}
use Rattle.run_model.specs.Initial.{is_read}
use Rattle.event_iteration.specs.Initialization.{IsPlaced, asks_initially}
use Rattle.event_iteration.proofs.Rounds.{sources_placed}
use Rattle.event_iteration.proofs.Taking.{port_at}
use Rattle.event_iteration.proofs.initialization.InitiallyTurns.call_of.Goals as goal

pub bounds-self-p : goal.bounds-self-p
bounds-self-p c = subst (λ (n : ℕ). c.args.p < n) (sym c.requires.holds.places) c.requires.port

pub call_of-requires-clause-placed : goal.call_of-requires-clause-placed
call_of-requires-clause-placed c =
    let system = c.args.system.now in
    let p = c.args.p in
    let port = c.index-ports-p.result in
    let is = port_at _ system.ports p port c.as_slice-ports.ensures c.index-ports-p.is c.requires.port in
    subst (λ (xs : List Port). IsPlaced (length xs) port) (sym c.as_slice-ports.ensures) (all_at (IsPlaced (length system.ports)) system.ports p port (sources_placed system c.requires.sound) is)

pub call_of-requires-clause-values : goal.call_of-requires-clause-values
call_of-requires-clause-values c = c.requires.values ∙ ap length (sym c.as_slice-ports.ensures)

pub returns : goal.returns
returns c = λ x k x_is of.
    let system = c.args.system.now in
    let p = c.args.p in
    let port = c.index-ports-p.result in
    let is = port_at _ system.ports p port c.as_slice-ports.ensures c.index-ports-p.is c.requires.port in
    let reads = c.args.self.now.reads.now in
    let read = c.requires.holds.each p _ (subst (λ (n : ℕ). p < n) (sym c.requires.holds.places) c.requires.port) in
    subst (λ (y : Port). c.call_of.result ≡ asks_initially y.role system.ports (is_read system.ports p) y c.args.values.now) (same_Some port x (sym is ∙ x_is))
    (c.call_of.ensures ∙ ap₂ (λ (ps : List Port) (b : Bool). asks_initially port.role ps b port c.args.values.now) c.as_slice-ports.ensures read)
