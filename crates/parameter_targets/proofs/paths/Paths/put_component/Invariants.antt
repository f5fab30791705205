use Rattle.std.proofs.Common.{◌≡◌, Some, slice_get}
use Rattle.ssd_tree.specs.declared.tree.ComponentPart.{ComponentPart}
use Rattle.parameter_targets.proofs.RowLemmas.{IsPutting, ahead}
use Rattle.parameter_targets.proofs.paths.Paths.put_component.Given as goal

abbrev pub invariant-loop-current : goal.invariant-loop-current
invariant-loop-current l =
    (part : ComponentPart) × (slice_get l.tree.components l.component ≡ Some part) × IsPutting l.tree l.fn.self l.self l.component part l.current

abbrev pub decreases-loop-current : goal.decreases-loop-current
decreases-loop-current l = ahead l.current
