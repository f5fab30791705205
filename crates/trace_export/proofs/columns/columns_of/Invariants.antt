use Rattle.std.proofs.Common.{◌≡◌, map, take}
use Rattle.trace_export.specs.Columns.{forms_in}
use Rattle.trace_export.proofs.columns.columns_of.Given as goal

abbrev pub invariant-loop-port : goal.invariant-loop-port
invariant-loop-port l = map (λ c. c.form) l.columns.items ≡ forms_in l.reals (take l.port-index l.ports)
