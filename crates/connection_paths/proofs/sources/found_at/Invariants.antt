use Rattle.std.proofs.Common.{◌≡◌, map, take, get_or, None}
use Rattle.connection_paths.proofs.sources.found_at.Given as goal

abbrev pub invariant-loop-first : goal.invariant-loop-first
invariant-loop-first l = l.all.items ≡ map (λ c. get_or l.found c None) (take l.first-index l.firsts)
