use Rattle.std.proofs.Common.{◌≡◌, map, take}
use Rattle.system_files.specs.Order.{folder_of}
use Rattle.system_files.proofs.paths.folders_of.Given as goal

abbrev pub invariant-loop-component : goal.invariant-loop-component
invariant-loop-component l = l.folders.items ≡ map (folder_of l.directory) (take l.component-index l.components)
