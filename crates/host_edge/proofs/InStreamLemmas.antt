-- What is told of a stream whose reads are tried again while signals break them off.
use Rattle.std.specs.Prelude.{◌≡◌, ℕ}
use Rattle.std.specs.Io.KnownBytes.{Keeps}
use Rattle.host_edge.specs.InStreams.{InStreamView, with_signals}

-- signals broke off so many reads: nothing was taken, and none of them went wrong
pub record IsBrokenOff (old new : InStreamView) (signals : ℕ) : Type 0 where
  pub left : Keeps old.left new.left
  pub counts : new.counts ≡ with_signals old.counts signals
