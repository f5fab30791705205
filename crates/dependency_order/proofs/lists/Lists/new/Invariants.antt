use Rattle.std.proofs.Common.{◌≡◌, [], replicate}
use Rattle.dependency_order.specs.Graph.{lists_of}
use Rattle.dependency_order.proofs.lists.Lists.new.Given as goal

abbrev pub invariant-loop : goal.invariant-loop
invariant-loop l = lists_of l.rows.items ≡ replicate l.counter []
