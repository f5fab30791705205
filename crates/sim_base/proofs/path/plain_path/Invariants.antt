use Rattle.std.proofs.Common.{◌≡◌, map, take, string_bytes}
use Rattle.std.specs.List.{join_with_byte}
use Rattle.sim_base.proofs.path.plain_path.Given as goal

abbrev pub invariant-loop-place : goal.invariant-loop-place
invariant-loop-place l =
    string_bytes l.joined ≡ join_with_byte 47 (map (λ s. s.now) (take l.place l.segment-items))
