use Rattle.std.proofs.Common.{◌≡◌, not, map, take, filter}
use Rattle.sim_base.specs.Path.{is_dot}
use Rattle.sim_base.proofs.path.kept_segments.Given as goal

abbrev pub invariant-loop-segment : goal.invariant-loop-segment
invariant-loop-segment l =
    map (λ s. s.now) l.kept.items ≡ filter (λ s. not (is_dot s)) (map (λ s. s.now) (take l.segment-index l.segment-items))
