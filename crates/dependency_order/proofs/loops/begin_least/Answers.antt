use Rattle.dependency_order.proofs.LoopLemmas.{begins_least}
use Rattle.dependency_order.proofs.loops.begin_least.Goals as goal

pub returns-clause-least : goal.returns-clause-least
returns-clause-least c = begins_least c.args.nodes.items c.as_slice.result.now c.rotate_left.new.self.items c.least_place-place.result c.as_slice.ensures.value c.least_place-place.ensures.within c.least_place-place.ensures.least c.rotate_left.ensures.items
