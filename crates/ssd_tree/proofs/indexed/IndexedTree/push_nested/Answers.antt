use Rattle.std.proofs.Common.{refl, sym}
use Rattle.ssd_tree.specs.Nested.{IsNestedPart}
use Rattle.ssd_tree.proofs.NestedLemmas.{each_more, each_same, placed_more, placed_same}
use Rattle.ssd_tree.proofs.indexed.IndexedTree.push_nested.Goals as goal

pub returns-in_ok-push-in-Some-clause-each : goal.returns-in_ok-push-in-Some-clause-each
returns-in_ok-push-in-Some-clause-each c =
    let s = c.args.self.now.setting in
    let t = c.args.self.now.tree.now in
    each_more s t (IsNestedPart s t c.args.self.now.lists.components.items) c.args.node c.in-Some.kind c.args.parts.now.items c.push.new.self.items c.in_ok-part-in-Some.part (sym c.in-Some.ensures) c.in_ok-part-in-Some.ensures.is c.in_ok-push-in-Some.ensures.items

pub returns-in_ok-push-in-Some-clause-placed : goal.returns-in_ok-push-in-Some-clause-placed
returns-in_ok-push-in-Some-clause-placed c =
    placed_more c.args.component c.args.parts.now.items c.push.new.self.items c.in_ok-part-in-Some.part c.in_ok-part-in-Some.ensures.place c.in_ok-push-in-Some.ensures.items

pub returns-in-None-clause-each : goal.returns-in-None-clause-each
returns-in-None-clause-each c =
    let s = c.args.self.now.setting in
    let t = c.args.self.now.tree.now in
    each_same s t (IsNestedPart s t c.args.self.now.lists.components.items) c.args.node c.args.parts.now.items c.args.parts.now.items (sym c.in-None.ensures) refl

pub returns-in-None-clause-placed : goal.returns-in-None-clause-placed
returns-in-None-clause-placed c = placed_same c.args.component c.args.parts.now.items c.args.parts.now.items refl
