-- So many bytes were taken, and stand at the start of the room.
use Rattle.std.proofs.Common.{◌-◌, ◌≤◌, length, take}
use Rattle.host_serving.specs.Frames.{Takes}
use Rattle.host_serving.proofs.reading.fill.Given as goal

abbrev pub invariant-loop-count : goal.invariant-loop-count
invariant-loop-count g l = (l.count ≤ length l.into) × Takes (g.I.Source.view l.initial.input) (g.I.Source.view l.input) (take l.count l.into)

abbrev pub decreases-loop-count : goal.decreases-loop-count
decreases-loop-count g l = length l.initial.into - l.count
