use Rattle.std.proofs.Common.{◌≡◌, ◌≤◌, ◌<◌, ◌-◌, ◌+◌, ◌*◌, List, length}
use Rattle.std.specs.Prelude.{◌==◌}
use Rattle.fmu_peer.specs.CloseAll.{Instance}
use Rattle.slot_calls.specs.Slots.{instances}
use Rattle.calling_sequence.specs.StageOutcomes.{GoesUpTo, before_instant}
use Rattle.calling_sequence.specs.Here.{Here, Past}
use Rattle.calling_sequence.specs.Place.{IsAt}
use Rattle.calling_sequence.specs.Ready.{AreTimed, Ready}
use Rattle.calling_sequence.proofs.run.come_to.Given as goal

abbrev pub invariant-instants : goal.invariant-instants
invariant-instants g l =
    let view = g.L.Peer.view in
    record {
      ready : Ready view l.experiment (IsAt l.t) l.slots;
      timed : AreTimed l.experiment l.t l.n (l.n == 0) l.buffers;
      begun : l.experiment.plan.start ≤ l.t;
      below : l.n < l.experiment.plan.limit;
      text : length l.buffers.text.items ≡ length l.fn.buffers.text.items;
      onward : (olds : List Instance) (past : Past) → GoesUpTo past.extent l.puts l.limit → Here l.experiment olds past (before_instant l.from 0 l.fn.buffers) (instances view l.fn.slots) (g.O.Sink.view l.fn.out) l.fn.buffers.instants →
          Here l.experiment olds past (before_instant l.t l.n l.buffers) (instances view l.slots) (g.O.Sink.view l.out) l.buffers.instants;
    }

abbrev pub decreases-instants : goal.decreases-instants
decreases-instants g l = (l.experiment.plan.stop - l.t) * 10001 + (10000 - l.n)
