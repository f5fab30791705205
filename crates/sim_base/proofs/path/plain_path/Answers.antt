use Rattle.std.proofs.Common.{ℕ, List, [], arith}
use denote.Bor.{Bor}
use Rattle.sim_base.proofs.PathLemmas.{joined-more}
use Rattle.sim_base.proofs.path.plain_path.Goals as goal

-- what stands past the end
abbrev none : Bor (List ℕ)
none = record { ref_ptr = (0, 0); now = [] }

pub loop-place-preserved : goal.loop-place-preserved
loop-place-preserved c =
    let items = c.deref-segment-items.result.now in
    rw (c.in_ok-push_segment.ensures, c.loop-place.invariant, joined-more (λ s. s.now) 47 items c.loop-place.place none (omega arith))
