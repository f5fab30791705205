use Rattle.calling_sequence.proofs.Resumed.{times_one}
use Rattle.calling_sequence.proofs.resumption.time_each.Goals as goal

pub loop-component-preserved : goal.loop-component-preserved
loop-component-preserved c = record { timed = times_one c.args.events.now c.args.schedule.now c.loop-component.schedule c.event_at.new.schedule c.loop-component.component c.loop-component-test.true c.requires c.loop-component.invariant.timed c.event_at.ensures }
