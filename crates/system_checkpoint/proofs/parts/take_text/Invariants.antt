use Rattle.std.proofs.Common.{◌≡◌, ◌≤◌, take, length}
use Rattle.system_checkpoint.proofs.parts.take_text.Given as goal

abbrev pub invariant-loop-place : goal.invariant-loop-place
invariant-loop-place l = (l.place ≤ length l.bytes) × (take l.place l.bytes ≡ take l.place l.text)
