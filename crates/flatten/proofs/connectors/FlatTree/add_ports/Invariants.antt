use Rattle.std.proofs.Common.{◌≡◌, ◌++◌, take, map}
use Rattle.std.specs.List.{All, filter_map}
use Rattle.system_model.specs.Ports.{label_at, label_of}
use Rattle.flatten.specs.Ports.{IsMade}
use Rattle.flatten.proofs.connectors.FlatTree.add_ports.Given as goal

abbrev pub invariant-loop-place : goal.invariant-loop-place
invariant-loop-place l = record {
  labels : map label_of l.ports.items ≡ map label_of l.initial.ports.items ++ filter_map (label_at l.component) (take l.place l.variables);
  made : All (IsMade l.self.shapes.now l.table) l.initial.ports.items → All (IsMade l.self.shapes.now l.table) l.ports.items;
}
