use Rattle.std.proofs.Common.{◌-◌, map}
use Rattle.parameter_targets.specs.Chains.{IsChainedFrom}
use Rattle.parameter_targets.specs.Tables.{text_of}
use Rattle.parameter_targets.proofs.chains.NameChains.of.Given as goal

abbrev pub invariant-loop-i : goal.invariant-loop-i
invariant-loop-i l = IsChainedFrom (map text_of l.entries) (l.len - l.i) l.chains
