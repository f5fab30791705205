use Rattle.std.proofs.Common.{◌≡◌, ◌≤◌, ◌+◌, ◌*◌, ◌++◌, ℕ, List, length, take, drop}
use Rattle.fmi_calls.specs.Kinds.{kind_of}
use Rattle.link_frames.specs.declared.call.CallFrame.{CallFrame}
use Rattle.link_frames.specs.Batch.{AreFrames, batch_head, frames_of, kind_of_first}
use Rattle.link_frames.specs.Call.{IsCallFrame}
use Rattle.link_frames.specs.Head.{spelling}
use Rattle.link_frames.proofs.batch.put_batch.Given as goal

abbrev pub invariant-loop-i : goal.invariant-loop-i
invariant-loop-i l = record {
  up_to : l.i ≤ length l.calls;
  len : length l.out ≡ length l.fn.out;
  bytes : List ℕ;
  are : AreFrames IsCallFrame (λ (f : CallFrame). kind_of f.call) (kind_of_first l.calls) (frames_of (take l.i l.calls)) bytes;
  prefix : take (24 * (l.i + 1)) l.out ≡ spelling (batch_head (length l.calls)) ++ bytes;
  rest : drop (24 * (l.i + 1)) l.out ≡ drop (24 * (l.i + 1)) l.fn.out;
}
