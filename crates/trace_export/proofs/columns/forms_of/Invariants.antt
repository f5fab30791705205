use Rattle.std.proofs.Common.{◌≡◌, map, take}
use Rattle.trace_export.proofs.columns.forms_of.Given as goal

abbrev pub invariant-loop-column : goal.invariant-loop-column
invariant-loop-column l = l.forms.items ≡ map (λ c. c.form) (take l.column-index l.columns)
