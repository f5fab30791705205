use Rattle.std.proofs.Common.{refl, subst, get_or}
use Rattle.std.proofs.lemmas.List.{get_or_default}
use Rattle.sim_base.specs.declared.numbers.PortId.{PortId}
use Rattle.system_model.specs.Ports.{port_numbers}
use Rattle.event_iteration.specs.BadEnds.{or_bad}
use Rattle.event_iteration.specs.Waits.{IsWay}
use Rattle.event_iteration.proofs.Rounds.{number_at}
use Rattle.event_iteration.proofs.Runs.{is_ready, moves_on, port_there, somewhere}
use Rattle.event_iteration.proofs.walk.send_first.Goals as goal

pub way_of-next-requires-clause-port : goal.way_of-next-requires-clause-port
way_of-next-requires-clause-port g c = let d : PortId = record { 0 = 0 } in port_there c.args.order.now c.requires.gathered c.requires.within d

pub way_of-next-requires-clause-values : goal.way_of-next-requires-clause-values
way_of-next-requires-clause-values g c = let so = c.requires.gathered in (c.in-Some.ensures.sends (port_numbers c.args.order.now) c.args.k so.0 so.1 so.2).0.places

pub send_waiting-requires-clause-gathered : goal.send_waiting-requires-clause-gathered
send_waiting-requires-clause-gathered g c κs lives = somewhere c.requires.gathered

pub returns-in-None-clause-moves : goal.returns-in-None-clause-moves
returns-in-None-clause-moves g c = c.in-None.ensures.sends (port_numbers c.args.order.now) c.args.k

pub advance-requires-clause-gathered : goal.advance-requires-clause-gathered
advance-requires-clause-gathered g c κs lives = let so = c.requires.gathered in (so.0, so.1, (c.in-Some.ensures.sends (port_numbers c.args.order.now) c.args.k so.0 so.1 so.2).0)

pub advance-requires-clause-way : goal.advance-requires-clause-way
advance-requires-clause-way g c κs lives = λ d.
    subst (λ (x : PortId). IsWay c.args.system.now (g.T.Turns.rules c.args.turns.now c.args.system.now) c.send_waiting.new.waiting x.0 c.send_waiting.new.values c.way_of-next.result) (get_or_default c.args.order.now c.args.k (record { 0 = 0 }) d c.requires.within) c.way_of-next.ensures

pub advance-requires-clause-ready : goal.advance-requires-clause-ready
advance-requires-clause-ready g c κs lives =
    is_ready c.args.system.now (g.T.Turns.rules c.args.turns.now c.args.system.now) c.send_waiting.new.waiting (get_or c.args.order.now c.args.k (record { 0 = 0 })).0 c.send_waiting.new.values c.way_of-next.result c.way_of-next.ensures c.in-Some.ensures.none

pub returns-in-Some-clause-moves : goal.returns-in-Some-clause-moves
returns-in-Some-clause-moves g c =
    let d : PortId = record { 0 = 0 } in
    moves_on c.args.system.now (g.T.Turns.rules c.args.turns.now c.args.system.now) (port_numbers c.args.order.now) c.args.k (get_or c.args.order.now c.args.k d).0 (number_at c.args.order.now c.args.order.now c.args.k d refl c.requires.within)
    c.args.waiting.now c.send_waiting.new.waiting _ _ _ _ _ _ _ (or_bad c.advance.result c.advance.new.bad) c.in-Some.ensures.sends c.advance.ensures.moves
