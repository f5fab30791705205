use Rattle.std.proofs.Common.{◌≤◌, length, take, vec_capacity}
use Rattle.doc_tables.specs.Places.{found_name}
use Rattle.doc_tables.specs.Tables.{IsTableBelow}
use Rattle.flatten.specs.Flat.{source_at}
use Rattle.system_files.specs.Steps.{TakesShapes}
use Rattle.system_files.proofs.shapes.load_shapes.Given as goal

abbrev pub invariant-loop-place : goal.invariant-loop-place
invariant-loop-place g l =
    let view = g.F.Folder.view in
    record {
      takes : TakesShapes l.resolution l.directory (take l.place l.components) l.shapes.items (view l.fn.folder) (view l.folder);
      table : IsTableBelow (source_at l.components) l.place (found_name l.known);
      room : length l.components ≤ vec_capacity l.shapes;
    }
