use Rattle.std.proofs.Common.{◌≡◌, ◌<◌, ◌^◌, length}
use Rattle.sim_base.specs.Escape.{escaped}
use Rattle.trace_text.proofs.RoomLemmas.{PartOf}
use Rattle.trace_text.proofs.holding.parts_length.Given as goal

abbrev pub invariant-loop-part : goal.invariant-loop-part
invariant-loop-part l = PartOf l.length (length (escaped l.parts.0)) (length (escaped l.name))

abbrev pub decreases-loop-part : goal.decreases-loop-part
decreases-loop-part l = l.parts.1
