use Rattle.std.proofs.Common.{sym}
use Rattle.event_iteration.specs.Clocks.{timers_in}
use Rattle.calling_sequence.specs.Course.{Read}
use Rattle.calling_sequence.specs.StageOutcomes.{spot}
use Rattle.calling_sequence.specs.Place.{IsTaking}
use Rattle.calling_sequence.proofs.Chains.{IsQuestion}
use Rattle.calling_sequence.proofs.Phases.{asking_keeps}
use Rattle.calling_sequence.proofs.Stages.{armed_by, asks_goodly, by_asking, goes_as, keeping}
use Rattle.calling_sequence.proofs.instants.ask.Goals as goal

pub ask_intervals-requires-clause-running : goal.ask_intervals-requires-clause-running
ask_intervals-requires-clause-running g c κs lives = λ k d w. (c.requires.ready.stand k d w).in_instant.state

pub returns-clause-ready : goal.returns-clause-ready
returns-clause-ready g c =
    let e = c.args.experiment.now in
    let a = c.ask_intervals.ensures in
    keeping g.L.Peer.view e (IsTaking c.args.t) c.args.slots.now _ c.requires.ready (λ shape. IsQuestion) (asking_keeps c.args.t e.plan.stop e.plan.step) c.ask_intervals.result a.asks.log a.asks.told
    (asks_goodly e.system e.plan.resolution c.args.t _ _ _ _ _ c.ask_intervals.result a.asks) a.live

pub returns-clause-armed : goal.returns-clause-armed
returns-clause-armed g c = armed_by c.ask_intervals.result c.ask_intervals.ensures.asks

pub returns-clause-goes : goal.returns-clause-goes
returns-clause-goes g c =
    let e = c.args.experiment.now in
    let s = spot c.args.t c.args.n c.args.buffers.now in
    let next = timers_in c.ask_intervals.new.schedule in
    goes_as e (Read s) (record s { timers = next }) c.ask_intervals.new.schedule.events (sym c.ask_intervals.ensures.events) _ _ c.args.buffers.now.instants c.args.buffers.now.instants c.ask_intervals.result
    (by_asking e s c.requires.kept next _ _ c.args.buffers.now.instants c.ask_intervals.result c.ask_intervals.ensures.asks)
