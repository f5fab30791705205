use Rattle.std.proofs.Common.{subst, sym}
use Rattle.slot_calls.specs.Slots.{instances}
use Rattle.calling_sequence.specs.Course.{Read}
use Rattle.calling_sequence.specs.Ends.{LostThere}
use Rattle.calling_sequence.specs.StageOutcomes.{BreaksOff, or_breaks, spot}
use Rattle.calling_sequence.specs.declared.run_end.RunEnd.TheVariants as E
use Rattle.calling_sequence.proofs.Onto.{ends}
use Rattle.calling_sequence.proofs.Stages.{then_puts}
use Rattle.calling_sequence.proofs.instants.take.Goals as goal

pub lost_in_instant-requires-clause-values : goal.lost_in_instant-requires-clause-values
lost_in_instant-requires-clause-values g c = c.in-Some.ensures.timed.places

pub lost_in_instant-requires-clause-participants : goal.lost_in_instant-requires-clause-participants
lost_in_instant-requires-clause-participants g c = c.in-Some.ensures.timed.know.participants

pub lost_in_instant-requires-clause-fitting : goal.lost_in_instant-requires-clause-fitting
lost_in_instant-requires-clause-fitting g c = c.in-Some.ensures.timed.fitting

pub returns-in-Some-lost_in_instant-clause-puts : goal.returns-in-Some-lost_in_instant-clause-puts
returns-in-Some-lost_in_instant-clause-puts g c olds past so h =
    let e = c.args.experiment.now in
    let s = spot c.args.t c.args.n c.find.new.buffers in
    let lost = c.in-Some-lost_in_instant.lost in
    subst (BreaksOff e olds past (instances g.L.Peer.view c.find.new.slots) (g.O.Sink.view c.args.out.now) c.find.new.buffers.instants) (sym c.break_lost.ensures)
    (ends e olds past (Read s) _ _ _ (c.in-Some.ensures.goes _ olds past h) (E.Range lost c.args.t) (LostThere s lost c.in-Some-lost_in_instant.ensures) tt)

pub ask-requires-clause-kept : goal.ask-requires-clause-kept
ask-requires-clause-kept g c κs lives = c.in_default.ensures

pub returns-in-Err-clause-puts : goal.returns-in-Err-clause-puts
returns-in-Err-clause-puts g c olds past so h =
    subst (BreaksOff c.args.experiment.now olds past (instances g.L.Peer.view c.ask.new.slots) (g.O.Sink.view c.args.out.now) c.ask.new.buffers.instants) (sym c.break_badly-in-Err.ensures)
    (c.in-Err.ensures.goes _ olds past (c.in-Some.ensures.goes _ olds past h))

pub returns-clause-puts : goal.returns-clause-puts
returns-clause-puts g c =
    then_puts c.args.experiment.now _ _ _ _ _ _ _ _ _ _ _ _ (λ olds before h. c.in-Ok.ensures.goes _ olds before (c.in-Some.ensures.goes _ olds before h)) (or_breaks c.show.result c.show.new.broken) c.show.ensures.puts

pub returns-in-None-clause-puts : goal.returns-in-None-clause-puts
returns-in-None-clause-puts g c olds past so h =
    subst (BreaksOff c.args.experiment.now olds past (instances g.L.Peer.view c.find.new.slots) (g.O.Sink.view c.args.out.now) c.find.new.buffers.instants) (sym c.break_badly.ensures)
    (c.in-None.ensures.goes _ olds past h)
