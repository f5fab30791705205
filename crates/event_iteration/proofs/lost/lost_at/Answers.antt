use Rattle.std.proofs.Common.{refl, sym, subst, ℕ}
use Rattle.system_model.proofs.CallerLemmas.{all_at}
use Rattle.event_iteration.specs.Initialization.{IsPlaced}
use Rattle.event_iteration.specs.Lost.{IsLostAt}
use Rattle.event_iteration.proofs.Losing.{told_of}
use Rattle.event_iteration.proofs.Taking.{port_at}
use Rattle.event_iteration.proofs.lost.lost_at.Goals as goal

pub value_before-requires : goal.value_before-requires
value_before-requires c =
    let ports = c.args.ports.now in
    let port = c.index-ports-p.result in
    subst (λ (n : ℕ). IsPlaced n port) (sym c.requires.values) (all_at (IsPlaced _) ports c.args.p port c.requires.placed (port_at ports ports c.args.p port refl c.index-ports-p.is c.requires.port))

pub returns : goal.returns
returns c =
    let ports = c.args.ports.now in
    let port = c.index-ports-p.result in
    let told = told_of ports c.args.p c.args.values.now port c.value_before.result (port_at ports ports c.args.p port refl c.index-ports-p.is c.requires.port) c.value_before.ensures in
    subst (IsLostAt ports c.args.p c.args.values.now) (sym c.lost_value.ensures) told
