use Rattle.std.proofs.Common.{◌≡◌, ◌++◌, map, length, Some}
use Rattle.trace_reading.specs.declared.item.Place.TheVariants.{Between}
use Rattle.trace_reading.specs.Form.{kinds_of}
use Rattle.system_model.specs.Text.{lines_text}
use Rattle.trace_reading.specs.Walk.{walk, item_line, items_in}
use Rattle.trace_reading.proofs.rows.read_rows.Given as goal

abbrev pub invariant-loop-line : goal.invariant-loop-line
invariant-loop-line l = record {
  parts : l.text ≡ lines_text (map item_line (items_in l.lines.items l.place)) ++ l.rest;
  good : walk (kinds_of l.ports) Between (items_in l.lines.items l.place) ≡ Some l.place;
}

abbrev pub decreases-loop-line : goal.decreases-loop-line
decreases-loop-line l = length l.rest
