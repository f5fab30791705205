use Rattle.connection_paths.specs.Firsts.{ArePlaced}
use Rattle.connection_paths.proofs.firsts.firsts.Given as goal

abbrev pub invariant-loop-place : goal.invariant-loop-place
invariant-loop-place l = ArePlaced l.points l.place l.variables l.systems l.all.items
