use Rattle.std.proofs.Common.{◌≡◌, map, take}
use Rattle.std.specs.List.{slice_get}
use Rattle.name_prefixes.specs.Prefixes.{texts}
use Rattle.parameter_targets.specs.Tables.{path_text}
use Rattle.parameter_targets.proofs.targets.row_prefixes.Given as goal

abbrev pub invariant-loop-at : goal.invariant-loop-at
invariant-loop-at l = texts l.texts.items ≡ map (λ at. path_text (slice_get l.paths.all.items at)) (take l.at-index l.at-items)
