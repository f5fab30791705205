use Rattle.std.proofs.Common.{arith}
use Rattle.sim_base.proofs.SinkLemmas.{noted_within, noted_beyond, sum-empty}
use Rattle.sim_base.proofs.sink.MemSink.note_fault.Goals as goal

pub invariant_of-self : goal.invariant_of-self
invariant_of-self c = record {
  has_room = c.args.self.now.has_room;
  has_puts = omega (arith, c.args.self.now.has_puts);
  is_cut = sum-empty _ _ _ c.args.self.now.is_cut c.push_reserved.ensures.items;
  are_faults = omega (arith, c.args.self.now.are_faults);
  is_full = λ over. absurd (omega (arith, c.args.self.now.is_full over));
}

pub returns-then-len-self-clause-noted : goal.returns-then-len-self-clause-noted
returns-then-len-self-clause-noted c =
    noted_within _ _ _ _ _ c.args.self.now.is_cut c.push_reserved.ensures.items (omega arith)

pub returns-else-len-self-clause-noted : goal.returns-else-len-self-clause-noted
returns-else-len-self-clause-noted c = noted_beyond c.args.self.now.lengths.items _ _ _ (omega arith)
