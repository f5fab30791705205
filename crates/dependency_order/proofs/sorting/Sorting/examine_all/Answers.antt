use Rattle.std.proofs.Common.{subst, sym, arith}
use Rattle.std.proofs.lemmas.List.{take_all}
use Rattle.std.specs.List.{Contains}
use Rattle.std.proofs.lemmas.List.Elements.{Contains-get_or}
use Rattle.dependency_order.proofs.SortLemmas.{further_more}
use Rattle.dependency_order.proofs.ExamineLemmas.{held_more}
use Rattle.dependency_order.proofs.sorting.Sorting.examine_all.Goals as goal

pub examine-requires-clause-node : goal.examine-requires-clause-node
examine-requires-clause-node c = c.requires.nodes _ (Contains-get_or c.args.nodes.now c.loop-node.node-index 0 (omega arith))

pub loop-node-preserved : goal.loop-node-preserved
loop-node-preserved c =
    let o = c.args.self.now in
    let s = c.loop-node.self in
    let n = c.examine.new.self in
    let i = c.loop-node.invariant in
    let e = c.in_ok-examine.ensures in
    record {
      sorting = e.sorting;
      further = further_more c.args.needs.now o.order.items s.order.items n.order.items o.placed.items s.placed.items n.placed.items o.waiting s.waiting n.waiting i.further e.further;
      held = held_more c.args.needs.now o.order.items s.order.items n.order.items s.placed.items n.placed.items s.waiting n.waiting c.args.nodes.now c.loop-node.node-index (omega arith) i.further.longer e.further i.held e.held;
    }

pub returns-clause-held : goal.returns-clause-held
returns-clause-held c = λ at p l h. c.loop-node.invariant.held at p l (subst (λ z. Contains z p) (sym (take_all c.loop-node.node-index c.args.nodes.now (omega arith))) h)
