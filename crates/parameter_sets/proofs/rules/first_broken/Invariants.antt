use Rattle.std.proofs.Common.{take}
use Rattle.doc_tables.specs.Violations.{FindsLeast}
use Rattle.parameter_sets.specs.Rules.{IsBrokenAmong}
use Rattle.parameter_sets.proofs.rules.first_broken.Given as goal

abbrev pub invariant-loop-node : goal.invariant-loop-node
invariant-loop-node l = FindsLeast (IsBrokenAmong l.tree l.part (take l.node-index l.nodes)) l.first
