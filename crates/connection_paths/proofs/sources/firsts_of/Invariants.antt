use Rattle.std.proofs.Common.{◌≡◌, map, take, get_or}
use Rattle.connection_paths.proofs.sources.firsts_of.Given as goal

abbrev pub invariant-loop-connector : goal.invariant-loop-connector
invariant-loop-connector l = l.all.items ≡ map (λ c. get_or l.firsts c 0) (take l.connector-index l.connectors)
