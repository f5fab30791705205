use Rattle.std.proofs.Common.{false, length, take, refl, inl, arith}
use Rattle.fmi_calls.specs.declared.call.Call.TheVariants as C
use Rattle.fmu_link.proofs.BatchTalks.{garbled_many}
use Rattle.fmu_link.proofs.batches.take_arrived.Goals as goal

pub returns-else-answers : goal.returns-else-answers
returns-else-answers c =
    record {
      places = c.requires.places;
      asked = λ w. rw c.garbled.ensures.fault (garbled_many w c.args.instance.now c.garbled.new.instance (take 24 c.args.came.now) c.args.calls.now (C.Instantiate false false false) c.args.replies.now (omega (arith, c.requires.sort.some)) c.requires.places c.requires.may c.garbled.ensures.kept c.garbled.ensures.counted c.garbled.ensures.phase);
      says = rw c.garbled.ensures.fault (refl, inl (c.answers.ensures.no c.if-answers.false));
      counted = c.garbled.ensures.counted;
      agreed = c.garbled.ensures.agreed;
    }

pub returns-in-None : goal.returns-in-None
returns-in-None c =
    record {
      places = c.requires.places;
      asked = λ w. rw c.garbled-in-None.ensures.fault (garbled_many w c.args.instance.now c.garbled-in-None.new.instance (take 24 c.args.came.now) c.args.calls.now (C.Instantiate false false false) c.args.replies.now (omega (arith, c.requires.sort.some)) c.requires.places c.requires.may c.garbled-in-None.ensures.kept c.garbled-in-None.ensures.counted c.garbled-in-None.ensures.phase);
      says = rw c.garbled-in-None.ensures.fault (refl, inl (λ replies is answers. c.in-None.ensures.none (length replies) (record { values = replies; count_is = refl; batch = is })));
      counted = c.garbled-in-None.ensures.counted;
      agreed = c.garbled-in-None.ensures.agreed;
    }
