use Rattle.std.proofs.Common.{◌≡◌, take, map}
use Rattle.std.specs.List.{All}
use Rattle.system_model.specs.Ports.{label_of}
use Rattle.flatten.specs.Ports.{IsMade, labels_in}
use Rattle.flatten.proofs.connectors.FlatTree.ports.Given as goal

abbrev pub invariant-loop-component : goal.invariant-loop-component
invariant-loop-component l = record {
  labels : map label_of l.ports.items ≡ labels_in 0 (take l.component l.self.shapes.now);
  made : All (IsMade l.self.shapes.now l.table) l.ports.items;
}
