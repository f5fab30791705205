use Rattle.std.proofs.Common.{◌≡◌, ◌≤◌, length, take, drop}
use Rattle.fmu_peer.specs.Many.{MayAskAll, Talks, exchanges}
use Rattle.fmu_peer.specs.Talk.{AllGood}
use Rattle.fmu_peer.proofs.peer.Peer.call_many.Given as goal

abbrev pub invariant-loop-i : goal.invariant-loop-i
invariant-loop-i g l =
    let view = g.Self.Peer.view in
    record {
      places : length l.replies ≡ length l.calls;
      after : drop l.i l.replies ≡ drop l.i l.fn.replies;
      up_to : l.i ≤ length l.calls;
      talks : Talks (view l.fn.self) (exchanges (take l.i l.calls) (take l.i l.replies)) (view l.self);
      good : AllGood (view l.fn.self).fixed.shape (exchanges (take l.i l.calls) (take l.i l.replies));
      may : MayAskAll (view l.fn.self).fixed.shape (view l.self).phase (drop l.i l.calls);
      fixed : (view l.self).fixed ≡ (view l.fn.self).fixed;
    }
