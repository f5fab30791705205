use Rattle.std.proofs.Common.{◌≡◌, ◌≤◌, ◌-◌, length, drop, reverse}
use Rattle.std.specs.List.{filter_map}
use Rattle.flatten.specs.Ways.{change_at}
use Rattle.flatten.proofs.connectors.FlatTree.changes_of.Given as goal

abbrev pub invariant-loop-i : goal.invariant-loop-i
invariant-loop-i l = record {
  up_to : l.i ≤ length l.back;
  made : l.changes.items ≡ filter_map (change_at l.self.tree.now) (reverse (drop (length l.back - l.i) l.back));
}
