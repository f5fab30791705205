use Rattle.std.proofs.Common.{◌≤◌, length, take}
use Rattle.std.specs.List.{AllZip}
use Rattle.ssd_tree.specs.Lists.{AreBetween, places_of}
use Rattle.ssd_tree.specs.Nested.{IsNestedPart, nested_nodes}
use Rattle.ssd_tree.proofs.indexed.IndexedTree.nested_parts.Given as goal

abbrev pub invariant-loop-component : goal.invariant-loop-component
invariant-loop-component l = record {
  bound : l.component ≤ length l.self.lists.components.items;
  each : AllZip (IsNestedPart l.self.setting l.self.tree.now l.self.lists.components.items)
      (nested_nodes l.self.setting l.self.tree.now (take l.component l.self.lists.components.items)) l.parts.items;
  placed : AreBetween 0 l.component (places_of l.parts.items);
}
