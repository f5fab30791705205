use Rattle.std.proofs.Common.{◌≡◌, ◌≤◌, length, drop}
use Rattle.std.specs.Prelude.{option_and_then}
use Rattle.system_model.specs.Carried.{IsWide, carried, fitting, through}
use Rattle.system_model.proofs.carrying.carried.Given as goal

abbrev pub invariant-loop-i : goal.invariant-loop-i
invariant-loop-i l = record {
  up_to : l.i ≤ length l.changes;
  wide : IsWide l.number;
  rest : carried l.changes l.kind l.fn.value ≡ option_and_then (fitting l.kind) (through (drop l.i l.changes) l.number);
}
