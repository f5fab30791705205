use Rattle.std.proofs.Common.{◌≡◌, ◌≤◌, ◌+◌, ◌*◌, ◌++◌, ℕ, List, length, take, drop}
use Rattle.fmi_calls.specs.Kinds.{kind_of_reply}
use Rattle.link_frames.specs.Batch.{AreFrames, batch_head, kind_of_first_reply}
use Rattle.link_frames.specs.Head.{spelling}
use Rattle.link_frames.specs.Reply.{IsReplyFrame}
use Rattle.link_frames.proofs.batch.put_batch_reply.Given as goal

abbrev pub invariant-loop-i : goal.invariant-loop-i
invariant-loop-i l = record {
  up_to : l.i ≤ length l.replies;
  len : length l.out ≡ length l.fn.out;
  bytes : List ℕ;
  are : AreFrames IsReplyFrame kind_of_reply (kind_of_first_reply l.replies) (take l.i l.replies) bytes;
  prefix : take (24 * (l.i + 1)) l.out ≡ spelling (batch_head (length l.replies)) ++ bytes;
  rest : drop (24 * (l.i + 1)) l.out ≡ drop (24 * (l.i + 1)) l.fn.out;
}
