use Rattle.std.proofs.Common.{subst}
use Rattle.std.proofs.lemmas.List.{get_or_default}
use Rattle.sim_base.specs.declared.numbers.PortId.{PortId}
use Rattle.event_iteration.specs.Waits.{IsWay}
use Rattle.event_iteration.proofs.Runs.{other_ready, port_there}
use Rattle.event_iteration.proofs.walk.go_on.Goals as goal

pub way_of-way-requires-clause-port : goal.way_of-way-requires-clause-port
way_of-way-requires-clause-port g c = let d : PortId = record { 0 = 0 } in port_there c.args.order.now c.requires.gathered c.requires.within d

pub advance-requires-clause-way : goal.advance-requires-clause-way
advance-requires-clause-way g c κs lives = λ d.
    subst (λ (x : PortId). IsWay c.args.system.now (g.T.Turns.rules c.args.turns.now c.args.system.now) c.args.waiting.now x.0 c.args.values.now c.way_of-way.result) (get_or_default c.args.order.now c.args.k (record { 0 = 0 }) d c.requires.within) c.way_of-way.ensures

pub advance-requires-clause-ready : goal.advance-requires-clause-ready
advance-requires-clause-ready g c κs lives = other_ready c.way_of-way.result c.in_default.not-Send
