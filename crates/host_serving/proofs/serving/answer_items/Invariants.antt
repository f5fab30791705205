-- The calls before a place got good replies, whichever the batch's calls are.
use Rattle.std.proofs.Common.{◌≡◌, ◌+◌, ◌*◌, List, length, take}
use Rattle.fmi_calls.specs.declared.call.Call.{Call}
use Rattle.host_serving.specs.Frames.{IsBatchOfCalls}
use Rattle.host_serving.proofs.AnsweringLemmas.{AreAnswering}
use Rattle.host_serving.proofs.serving.answer_items.Given as goal

abbrev pub invariant-loop-i : goal.invariant-loop-i
invariant-loop-i g l = record {
  places : length l.places ≡ length l.fn.places;
  answering : (calls : List Call) (is : IsBatchOfCalls calls (take (24 * (length l.fn.places + 1)) l.room)) →
      AreAnswering is.batch.one (g.M.Peer.view l.fn.machine) (g.M.Peer.view l.machine) calls l.places l.i;
}
