use Rattle.std.proofs.Common.{◌∙◌, ℕ, ap}
use Rattle.std.specs.declared.alloc.Global.{Global}
use Rattle.std.specs.declared.vec.Vec.{Vec}
use Rattle.dependency_order.proofs.ListLemmas.{without_row}
use Rattle.dependency_order.proofs.lists.Lists.take.Goals as goal

pub returns-clause-left : goal.returns-clause-left
returns-clause-left c = without_row c.self.inside.rows.items c.args.self.now c.args.at c.replace.new.dest c.self.view_is (ap (λ (row : Vec ℕ Global). row.items) c.replace.ensures.after ∙ c.new.ensures.items)
