-- What stands at the start of the room is gone from what was to come.
use Rattle.std.proofs.Common.{◌-◌, ◌≤◌, length, take}
use Rattle.std.specs.Io.KnownBytes.{Consumes}
use Rattle.child_hosts.proofs.pipe_wire.fill.Given as goal

abbrev pub invariant-takes : goal.invariant-takes
invariant-takes g l = record {
  within : l.filled ≤ length l.into;
  taken : Consumes (g.S.Source.view l.initial.source).left (g.S.Source.view l.source).left (take l.filled l.into);
}

abbrev pub decreases-takes : goal.decreases-takes
decreases-takes g l = length l.into - l.filled
