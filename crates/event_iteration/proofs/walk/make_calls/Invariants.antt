use Rattle.std.proofs.Common.{◌≡◌, List, Some, map, take}
use Rattle.fmi_calls.specs.declared.call.Call.{Call}
use Rattle.event_iteration.specs.Waits.{call_in}
use Rattle.event_iteration.proofs.walk.make_calls.Given as goal

abbrev pub invariant-loop-i : goal.invariant-loop-i
invariant-loop-i g l =
    (made : List Call) → map (call_in l.system (g.T.Turns.rules l.turns l.system) l.values) l.ports ≡ map (λ (c : Call). Some c) made → take l.i l.calls ≡ take l.i made
