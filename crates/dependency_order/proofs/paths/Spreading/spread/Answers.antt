use Rattle.std.proofs.Common.{◌≡◌, ◌-◌, [], sym, ap, ◌∙◌, subst, arith, take, ◌∷◌, ◌++◌}
use Rattle.std.specs.List.{Contains}
use Rattle.std.proofs.lemmas.List.{append-nil}
use Rattle.std.proofs.lemmas.List.Elements.{Contains-push}
use Rattle.dependency_order.specs.Spreading.{Spreads}
use Rattle.dependency_order.proofs.SortLemmas.{marked_within}
use Rattle.dependency_order.proofs.SpreadLemmas.{IsOpen, open_begin, open_more, open_end, mine_begin, mine_more}
use Rattle.dependency_order.proofs.paths.Spreading.spread.Goals as goal

pub loop-node-init : goal.loop-node-init
loop-node-init c =
    let o = c.args.self.now in
    let n = c.reach_all.new.self in
    let a : Spreads c.args.through.now c.args.from c.row.result.now o.found.items n.found.items [] n.work.items = subst (λ z. Spreads c.args.through.now c.args.from c.row.result.now o.found.items n.found.items z n.work.items) c.requires.work c.in_ok-reach_all.ensures in
    let sp = subst (λ z. Spreads c.args.through.now c.args.from z o.found.items n.found.items [] n.work.items) c.row.ensures a in
    record {
      len = c.in_ok-reach_all.ensures.same_length ∙ c.requires.len;
      mine = mine_begin c.args.through.now c.args.from _ o.found.items n.found.items n.work.items sp;
      spread = λ starts was. open_begin c.args.links.now c.args.through.now starts c.args.from o.found.items n.found.items n.work.items c.requires.closed c.requires.len sp was;
    }

pub row-requires-in-Some : goal.row-requires-in-Some
row-requires-in-Some c =
    let h : Contains c.loop-node.self.work.items c.in-Some.node = subst (λ z. Contains z c.in-Some.node) (sym c.in-Some.ensures.items) (Contains-push c.pop.new.self.items c.in-Some.node) in
    let m = c.loop-node.invariant.mine c.in-Some.node h in
    let l = marked_within c.args.through.now c.in-Some.node m.0 in
    let n = c.requires.marks in
    omega (arith, l, n)

pub loop-node-preserved : goal.loop-node-preserved
loop-node-preserved c =
    let o = c.loop-node.self in
    let n = c.reach_all-in-Some.new.self in
    let left = c.pop.new.self.items in
    let i = c.loop-node.invariant in
    let node = c.in-Some.node in
    let e = c.in-Some.ensures.items in
    let sp = subst (λ z. Spreads c.args.through.now c.args.from z o.found.items n.found.items left n.work.items) c.row-in-Some.ensures c.in_ok-reach_all-2.ensures in
    record {
      len = sp.same_length ∙ i.len;
      mine = mine_more c.args.through.now c.args.from node _ o.found.items n.found.items o.work.items left n.work.items e sp i.mine;
      spread = λ starts was. open_more c.args.links.now c.args.through.now (starts ++ c.args.from ∷ []) c.args.from node o.found.items n.found.items o.work.items left n.work.items c.requires.closed i.len e sp i.mine (i.spread starts was);
    }

pub returns-clause-spread : goal.returns-clause-spread
returns-clause-spread c =
    let work = c.loop-node.self.work.items in
    let empty : work ≡ [] = c.in_default.ensures.items ∙ append-nil c.pop.new.self.items ∙ c.in_default.ensures.rest ∙ ap (λ n. take (n - 1) work) c.in_default.ensures.cases.0 in
    λ starts was. open_end c.args.links.now c.args.through.now (starts ++ c.args.from ∷ []) c.loop-node.self.found.items
    (subst (λ z. IsOpen c.args.links.now c.args.through.now (starts ++ c.args.from ∷ []) c.loop-node.self.found.items z) empty (c.loop-node.invariant.spread starts was))
