use Rattle.fmu_link.proofs.BatchReplies.{not_taken, not_whole}
use Rattle.fmu_link.proofs.batches.replies_in.Goals as goal

pub returns-else-length-bytes-clause-none : goal.returns-else-length-bytes-clause-none
returns-else-length-bytes-clause-none c =
    not_whole c.args.bytes.now c.take_batch_reply.result c.in-Got.value c.in-Got.length c.take_batch_reply.ensures.only c.in-Got.is c.if-length-bytes.false

pub returns-in-NeedMore : goal.returns-in-NeedMore
returns-in-NeedMore c =
    record { some = tt; none = not_taken c.args.bytes.now c.take_batch_reply.result c.take_batch_reply.ensures.only c.in-NeedMore.is }
