use Rattle.std.proofs.Common.{ℕ, ◌+◌, List, length, sym, ap, ◌∙◌, subst, arith}
use Rattle.std.specs.Prelude.{All}
use Rattle.system_model.specs.declared.system.Port.{Port}
use Rattle.system_model.proofs.CallerLemmas.{all_at}
use Rattle.run_model.specs.Equations.{is_bad}
use Rattle.event_iteration.specs.Initialization.{IsPlaced}
use Rattle.event_iteration.specs.Instants.{HasPlacedClocks}
use Rattle.event_iteration.proofs.InInstant.{clocks_placed}
use Rattle.event_iteration.proofs.Losing.{bad_source, ends_at, goes_past, none_there, none_up_to, none_yet}
use Rattle.event_iteration.proofs.Rounds.{sources_placed}
use Rattle.event_iteration.proofs.Taking.{port_at}
use Rattle.event_iteration.proofs.lost.lost_in_instant.Goals as goal

pub loop-p-init : goal.loop-p-init
loop-p-init c =
    let system = c.args.system.now in
    record { none = none_up_to system c.requires.sound c.args.participants.now.changed_inputs.next.items c.requires.participants.changed_inputs c.args.values.now c.requires.fitting 0 c.from-p.result (omega arith) c.from-p.ensures (none_yet (is_bad c.args.values.now) system.ports) }

pub is_bad-requires-clause-placed : goal.is_bad-requires-clause-placed
is_bad-requires-clause-placed c =
    let system = c.args.system.now in
    let p = c.loop-p.p in
    let port = c.index-ports-p.result in
    let is = port_at _ system.ports p port c.as_slice-ports.ensures c.index-ports-p.is (let w = c.loop-p-test.true in let e = ap length c.as_slice-ports.ensures in omega (arith, w, e)) in
    subst (λ (n : ℕ). IsPlaced n port) (sym c.requires.values) (all_at (IsPlaced (length system.ports)) system.ports p port (sources_placed system c.requires.sound) is)

pub is_bad-requires-clause-clocks : goal.is_bad-requires-clause-clocks
is_bad-requires-clause-clocks c =
    let system = c.args.system.now in
    let p = c.loop-p.p in
    let port = c.index-ports-p.result in
    let is = port_at _ system.ports p port c.as_slice-ports.ensures c.index-ports-p.is (let w = c.loop-p-test.true in let e = ap length c.as_slice-ports.ensures in omega (arith, w, e)) in
    subst (λ (n : ℕ). HasPlacedClocks n port) (sym c.requires.values) (all_at (HasPlacedClocks (length system.ports)) system.ports p port (clocks_placed system c.requires.sound) is)

pub lost_at-requires-clause-few : goal.lost_at-requires-clause-few
lost_at-requires-clause-few c = let e = ap length c.as_slice-ports.ensures in let few = c.requires.sound.ports.few in omega (arith, few, e)

pub lost_at-requires-clause-placed : goal.lost_at-requires-clause-placed
lost_at-requires-clause-placed c = subst (λ (ps : List Port). All (IsPlaced (length ps)) ps) (sym c.as_slice-ports.ensures) (sources_placed c.args.system.now c.requires.sound)

pub lost_at-requires-clause-values : goal.lost_at-requires-clause-values
lost_at-requires-clause-values c = c.requires.values ∙ ap length (sym c.as_slice-ports.ensures)

pub returns-then-is_bad : goal.returns-then-is_bad
returns-then-is_bad c =
    let port = c.index-ports-p.result in
    let bad = sym c.is_bad.ensures ∙ c.if-is_bad.true in
    ends_at (is_bad c.args.values.now) c.args.system.now.ports c.loop-p.p port c.as_slice-ports.ensures c.loop-p-test.true c.index-ports-p.is c.loop-p.invariant.none c.args.values.now c.lost_at.result bad (bad_source port c.args.values.now bad) c.lost_at.ensures

pub loop-p-preserved : goal.loop-p-preserved
loop-p-preserved c =
    let system = c.args.system.now in
    let values = c.args.values.now in
    record {
      none = none_up_to system c.requires.sound c.args.participants.now.changed_inputs.next.items c.requires.participants.changed_inputs values c.requires.fitting (c.loop-p.p + 1) c.from-p-in-loop-p.result
          (let w = c.loop-p-test.true in let e = ap length c.as_slice-ports.ensures in omega (arith, w, e)) c.from-p-in-loop-p.ensures
          (goes_past (is_bad values) system.ports c.loop-p.p c.index-ports-p.result c.as_slice-ports.ensures c.loop-p-test.true c.index-ports-p.is c.loop-p.invariant.none (sym c.is_bad.ensures ∙ c.if-is_bad.false));
    }

pub returns : goal.returns
returns c =
    none_there (is_bad c.args.values.now) c.args.system.now.ports c.loop-p.p (let w = c.loop-p-test.false in let e = ap length c.as_slice-ports.ensures in omega (arith, w, e)) c.loop-p.invariant.none
