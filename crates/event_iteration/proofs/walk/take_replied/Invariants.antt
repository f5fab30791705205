use Rattle.std.proofs.Common.{◌≡◌, Some, drop, length, map}
use Rattle.fmi_calls.specs.declared.call.Reply.{Reply}
use Rattle.event_iteration.specs.Waits.{turned}
use Rattle.event_iteration.proofs.walk.take_replied.Given as goal

abbrev pub invariant-loop-i : goal.invariant-loop-i
invariant-loop-i g l =
    let rules = g.T.Turns.rules l.turns l.system in
    record {
      places : length l.values ≡ length l.fn.values;
      taken : turned l.system rules (drop l.i l.ports) (map (λ (r : Reply). Some r) (drop l.i l.replies)) l.values ≡ turned l.system rules l.ports (map (λ (r : Reply). Some r) l.replies) l.fn.values;
    }
