use Rattle.std.proofs.Common.{◌≡◌, ◌<◌, false, length, subst, arith}
use Rattle.std.specs.List.{Contains}
use Rattle.std.proofs.lemmas.List.{take_all}
use Rattle.std.proofs.lemmas.List.Elements.{All-get_or}
use Rattle.sim_base.specs.declared.numbers.PortId.{PortId}
use Rattle.system_model.specs.Ports.{port_numbers}
use Rattle.port_orders.specs.Gathered.{Adds}
use Rattle.port_orders.proofs.GatherLemmas.{clocks_more}
use Rattle.port_orders.proofs.gathering.Gathering.add_clocks.Goals as goal

pub add-requires-clause-need : goal.add-requires-clause-need
add-requires-clause-need c = All-get_or (λ (clock : PortId). clock.0 < length c.args.taken.now) c.args.clocks.now c.loop-clock.clock-index (record { 0 = 0 }) (omega arith) c.requires.clocks

pub loop-clock-preserved : goal.loop-clock-preserved
loop-clock-preserved c =
    let e = c.in_ok-add.ensures in
    record { held = e.held; adds = clocks_more c.args.taken.now c.args.port c.args.initializing c.args.clocks.now c.loop-clock.clock-index (record { 0 = 0 }) _ _ _ c.if-initializing.false (omega arith) c.loop-clock.invariant.adds e.adds }

pub returns-clause-adds : goal.returns-clause-adds
returns-clause-adds c =
    subst (λ z. Adds c.args.taken.now c.args.port (λ q. (c.args.initializing ≡ false) × Contains (port_numbers z) q) c.args.self.now.lists c.loop-clock.self.lists) (take_all c.loop-clock.clock-index c.args.clocks.now (omega arith)) c.loop-clock.invariant.adds
