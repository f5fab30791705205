use Rattle.std.proofs.Common.{List, length, sym, ap, ◌∙◌, subst, arith}
use Rattle.std.specs.Prelude.{All}
use Rattle.system_model.specs.declared.system.Port.{Port}
use Rattle.system_model.proofs.CallerLemmas.{all_at}
use Rattle.run_model.specs.Initial.{is_bad_initially}
use Rattle.event_iteration.specs.Initialization.{IsPlaced}
use Rattle.event_iteration.proofs.Losing.{bad_source_initially, ends_at, goes_past, none_there, none_yet}
use Rattle.event_iteration.proofs.Rounds.{sources_placed}
use Rattle.event_iteration.proofs.Taking.{port_at}
use Rattle.event_iteration.proofs.lost.lost_initially.Goals as goal

pub loop-p-init : goal.loop-p-init
loop-p-init c = record { up_to = omega arith; none = none_yet (is_bad_initially c.args.system.now c.args.values.now) c.args.system.now.ports }

pub is_bad_initially-requires-clause-placed : goal.is_bad_initially-requires-clause-placed
is_bad_initially-requires-clause-placed c =
    let system = c.args.system.now in
    let p = c.loop-p.p in
    let port = c.index-ports-p.result in
    let is = port_at _ system.ports p port c.as_slice-ports.ensures c.index-ports-p.is (let w = c.loop-p-test.true in let e = ap length c.as_slice-ports.ensures in omega (arith, w, e)) in
    (all_at (IsPlaced (length system.ports)) system.ports p port (sources_placed system c.requires.sound) is)

pub lost_at-requires-clause-few : goal.lost_at-requires-clause-few
lost_at-requires-clause-few c = let e = ap length c.as_slice-ports.ensures in let few = c.requires.sound.ports.few in omega (arith, few, e)

pub lost_at-requires-clause-placed : goal.lost_at-requires-clause-placed
lost_at-requires-clause-placed c = subst (λ (ps : List Port). All (IsPlaced (length ps)) ps) (sym c.as_slice-ports.ensures) (sources_placed c.args.system.now c.requires.sound)

pub lost_at-requires-clause-values : goal.lost_at-requires-clause-values
lost_at-requires-clause-values c = c.requires.values ∙ ap length (sym c.as_slice-ports.ensures)

pub returns-then-is_bad_initially : goal.returns-then-is_bad_initially
returns-then-is_bad_initially c =
    let port = c.index-ports-p.result in
    let bad = sym c.is_bad_initially.ensures ∙ c.if-is_bad_initially.true in
    ends_at (is_bad_initially c.args.system.now c.args.values.now) c.args.system.now.ports c.loop-p.p port c.as_slice-ports.ensures c.loop-p-test.true c.index-ports-p.is c.loop-p.invariant.none c.args.values.now c.lost_at.result bad (bad_source_initially c.args.system.now port c.args.values.now bad) c.lost_at.ensures

pub loop-p-preserved : goal.loop-p-preserved
loop-p-preserved c = record {
  up_to = let w = c.loop-p-test.true in let e = ap length c.as_slice-ports.ensures in omega (arith, w, e);
  none = goes_past (is_bad_initially c.args.system.now c.args.values.now) c.args.system.now.ports c.loop-p.p c.index-ports-p.result c.as_slice-ports.ensures c.loop-p-test.true c.index-ports-p.is c.loop-p.invariant.none (sym c.is_bad_initially.ensures ∙ c.if-is_bad_initially.false);
}

pub returns : goal.returns
returns c =
    none_there (is_bad_initially c.args.system.now c.args.values.now) c.args.system.now.ports c.loop-p.p (let w = c.loop-p-test.false in let e = ap length c.as_slice-ports.ensures in omega (arith, w, e)) c.loop-p.invariant.none
