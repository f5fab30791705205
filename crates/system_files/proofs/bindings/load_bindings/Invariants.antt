use Rattle.std.proofs.Common.{◌≤◌, length, take, vec_capacity}
use Rattle.system_files.specs.Steps.{TakesBindings}
use Rattle.system_files.proofs.bindings.load_bindings.Given as goal

abbrev pub invariant-loop-place : goal.invariant-loop-place
invariant-loop-place g l =
    let view = g.F.Folder.view in
    record {
      takes : TakesBindings l.directory l.outline (take l.place l.bindings) l.given.items (view l.fn.folder) (view l.folder);
      room : length l.bindings ≤ vec_capacity l.given;
    }
