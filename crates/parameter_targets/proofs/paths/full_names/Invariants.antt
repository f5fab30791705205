use Rattle.std.proofs.Common.{◌≡◌, map, take}
use Rattle.ssd_tree.specs.declared.tree.ComponentPart.{ComponentPart}
use Rattle.parameter_targets.proofs.paths.full_names.Given as goal

abbrev pub invariant-loop-part : goal.invariant-loop-part
invariant-loop-part l = l.names.items ≡ map (λ (c : ComponentPart). c.name) (take l.part-index l.tree.components)
