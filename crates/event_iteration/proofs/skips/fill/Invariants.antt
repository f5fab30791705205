use Rattle.std.proofs.Common.{◌≡◌, ◌-◌, length}
use Rattle.event_iteration.proofs.Skipping.{AreFirstFrom, IsFirst}
use Rattle.event_iteration.proofs.skips.fill.Given as goal

abbrev pub invariant-loop-i : goal.invariant-loop-i
invariant-loop-i l = record {
  long : length l.next ≡ length l.keeps;
  own : IsFirst l.keeps (length l.keeps - l.i) l.first;
  rest : AreFirstFrom l.keeps (length l.keeps - l.i) l.next;
}
