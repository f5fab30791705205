use Rattle.std.proofs.Common.{List, length, sym, subst}
use Rattle.std.specs.Prelude.{All}
use Rattle.system_model.specs.declared.system.Port.{Port}
use Rattle.event_iteration.specs.Initialization.{IsPlaced}
use Rattle.event_iteration.proofs.Rounds.{sources_placed}
use Rattle.event_iteration.proofs.reads.InitialReads.of.Goals as goal

pub mark_reads-requires-clause-placed : goal.mark_reads-requires-clause-placed
mark_reads-requires-clause-placed c = subst (λ (ps : List Port). All (IsPlaced (length ps)) ps) (sym c.as_slice-ports.ensures) (sources_placed c.args.system.now c.requires)
