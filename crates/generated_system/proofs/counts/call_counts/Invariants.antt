use Rattle.std.proofs.Common.{◌≡◌, ◌*◌, ◌≤◌, ◌^◌, take}
use Rattle.std.specs.Prelude.{sum_by}
use Rattle.generated_system.proofs.counts.call_counts.Given as goal

abbrev pub invariant-loop-peer : goal.invariant-loop-peer
invariant-loop-peer g l = record {
  calls : l.calls ≡ sum_by (λ p. (g.L.Peer.view p).phase.exchanges) (take l.peer-index l.peers);
  rollbacks : l.rollbacks ≡ sum_by (λ p. (g.L.Peer.view p).phase.restores) (take l.peer-index l.peers);
  few_calls : l.calls ≤ l.peer-index * 2 ^ 64;
  few_rollbacks : l.rollbacks ≤ l.peer-index * 2 ^ 64;
}
