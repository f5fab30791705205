use Rattle.std.proofs.Common.{sym, subst}
use Rattle.dependency_order.specs.Graph.{AreBelow}
use Rattle.dependency_order.proofs.lists.Lists.is_closed.Goals as goal

pub returns : goal.returns
returns c =
    let lists = c.args.self.now in
    (λ yes. record { below = subst (AreBelow lists) c.len.ensures (c.are_below.ensures.0 yes) }, λ closed. c.are_below.ensures.1 (subst (AreBelow lists) (sym c.len.ensures) closed.below))
