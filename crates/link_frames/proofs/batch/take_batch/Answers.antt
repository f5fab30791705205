use Rattle.link_frames.specs.declared.batch.Side.TheVariants.{Calls}
use Rattle.link_frames.specs.Batch.{BatchParts, IsCallBatch}
use Rattle.link_frames.proofs.BatchLemmas.{calls_same, calls_single}
use Rattle.exact_parts.proofs.CallerLemmas.{only_one, same_takes}
use Rattle.link_frames.proofs.batch.take_batch.Goals as goal

pub returns-clause-taken : goal.returns-clause-taken
returns-clause-taken c = same_takes (BatchParts Calls) IsCallBatch calls_same c.args.bytes.now c.take_parts.result c.take_parts.ensures

pub returns-clause-only : goal.returns-clause-only
returns-clause-only c = λ other h. only_one IsCallBatch calls_single c.args.bytes.now c.take_parts.result other (returns-clause-taken c) h
