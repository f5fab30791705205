use Rattle.std.proofs.Common.{◌≡◌, ◌<◌, ◌⊎◌, ℕ, true, false, Contains, length, get_or, take}
use Rattle.event_iteration.proofs.instants.await_ticks.Given as goal

abbrev pub invariant-loop-place : goal.invariant-loop-place
invariant-loop-place l = record {
  size : length l.pending ≡ length l.fn.pending;
  kept : (j : ℕ) → get_or l.fn.pending j false ≡ true → get_or l.pending j false ≡ true;
  there : (j : ℕ) → Contains (take l.place-index l.places) j → get_or l.pending j false ≡ true;
  only : (j : ℕ) → get_or l.pending j false ≡ true → (get_or l.fn.pending j false ≡ true) ⊎ Contains (take l.place-index l.places) j;
}
