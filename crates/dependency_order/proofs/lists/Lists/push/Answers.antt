use Rattle.std.proofs.Common.{◌∷◌, []}
use Rattle.dependency_order.proofs.ListLemmas.{with_row}
use Rattle.dependency_order.proofs.lists.Lists.push.Goals as goal

pub returns : goal.returns
returns c = record { pushed = with_row c.self.inside.rows.items c.args.self.now c.args.at c.index_mut.result.now c.push.new.self (c.args.number ∷ []) c.self.view_is c.requires c.index_mut.ensures.value c.in_ok-push.ensures.items }
