use Rattle.std.proofs.Common.{take}
use Rattle.trace_export.specs.Fields.{AddsFields}
use Rattle.trace_export.proofs.table.append_fields.Given as goal

abbrev pub invariant-fields : goal.invariant-fields
invariant-fields l = AddsFields (take l.port l.forms) (take l.port l.values) l.initial.out.items l.out.items
