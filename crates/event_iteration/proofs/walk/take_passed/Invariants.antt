use Rattle.std.proofs.Common.{◌≡◌, [], drop, length}
use Rattle.event_iteration.specs.Waits.{turned}
use Rattle.event_iteration.proofs.walk.take_passed.Given as goal

abbrev pub invariant-loop-i : goal.invariant-loop-i
invariant-loop-i g l =
    let rules = g.T.Turns.rules l.turns l.system in
    record {
      places : length l.values ≡ length l.fn.values;
      taken : turned l.system rules (drop l.i l.inputs) [] l.values ≡ turned l.system rules l.inputs [] l.fn.values;
    }
