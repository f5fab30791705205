use Rattle.std.proofs.Common.{◌≡◌, ◌≤◌, length, take, drop}
use Rattle.fmu_peer.specs.Many.{MayAskAll, Talks, exchanges}
use Rattle.fmu_peer.specs.Talk.{AllGood}
use Rattle.fmu_link.specs.Batches.{IsSameInstance}
use Rattle.fmu_link.specs.Piped.{view_of}
use Rattle.fmu_link.specs.Wire.{WireView}
use Rattle.fmu_link.proofs.BatchReplies.{AreTold}
use Rattle.fmu_link.proofs.batches.take_items.Given as goal

abbrev pub invariant-loop-i : goal.invariant-loop-i
invariant-loop-i l = record {
  places : length l.replies ≡ length l.calls;
  after : drop l.i l.replies ≡ drop l.i l.fn.replies;
  up_to : l.i ≤ l.count;
  talks : (wire : WireView) → Talks (view_of wire l.fn.instance) (exchanges (take l.i l.calls) (take l.i l.replies)) (view_of wire l.instance);
  good : AllGood l.fn.instance.shape (exchanges (take l.i l.calls) (take l.i l.replies));
  may : MayAskAll l.fn.instance.shape l.instance.phase (drop l.i l.calls);
  same : IsSameInstance l.fn.instance l.instance;
  counted : l.instance.bad_replies ≡ l.fn.instance.bad_replies;
  agreed : l.instance.takes_batches ≡ l.fn.instance.takes_batches;
  told : AreTold l.came l.replies l.i;
}
