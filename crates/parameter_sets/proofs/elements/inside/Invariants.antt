use Rattle.std.proofs.Common.{◌≡◌, take}
use Rattle.parameter_sets.specs.Elements.{inside}
use Rattle.parameter_sets.proofs.elements.inside.Given as goal

abbrev pub invariant-loop-node : goal.invariant-loop-node
invariant-loop-node l = l.found.items ≡ inside l.tree l.wanted (take l.node-index l.outer)
