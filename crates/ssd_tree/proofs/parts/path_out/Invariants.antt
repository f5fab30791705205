use Rattle.ssd_tree.specs.Elements.{IsPart}
use Rattle.ssd_tree.specs.Paths.{Climbs}
use Rattle.ssd_tree.proofs.parts.path_out.Given as goal

abbrev pub invariant-loop-outer : goal.invariant-loop-outer
invariant-loop-outer l = Climbs l.tree l.node l.path.items l.current × IsPart l.tree l.current

abbrev pub decreases-loop-outer : goal.decreases-loop-outer
decreases-loop-outer l = l.current
