use Rattle.std.proofs.Common.{arith}
use Rattle.sim_base.proofs.SourceLemmas.{takes_prefix}
use Rattle.sim_base.proofs.source.MemSourceSource.take.Goals as goal

pub returns-clause-noted : goal.returns-clause-noted
returns-clause-noted c = takes_prefix c.args.self.now.bytes c.as_slice-2.result.now _ _ _ _ _ c.as_slice-2.ensures (omega arith) c.copy_prefix-count.ensures.count c.copy_prefix-count.ensures.copied
