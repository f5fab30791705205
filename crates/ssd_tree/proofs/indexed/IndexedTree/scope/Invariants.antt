use Rattle.std.proofs.Common.{vec_len}
use Rattle.ssd_tree.proofs.ScopeLemmas.{IsWayIn}
use Rattle.ssd_tree.proofs.indexed.IndexedTree.scope.Given as goal

abbrev pub invariant-loop-inner : goal.invariant-loop-inner
invariant-loop-inner l = IsWayIn l.self.tree.now l.system l.path.items l.scope

abbrev pub decreases-loop-inner : goal.decreases-loop-inner
decreases-loop-inner l = vec_len l.path
