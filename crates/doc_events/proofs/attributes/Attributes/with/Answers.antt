use Rattle.std.proofs.Common.{◌+◌, ◌≤◌, ◌<◌, length, map, take, drop, subst, sym, arith}
use Rattle.doc_events.specs.Pairs.{pair_of, Sees}
use Rattle.doc_events.proofs.Names.{counted, few_more, many_more}
use Rattle.doc_events.proofs.attributes.Attributes.with.Goals as goal
use Rattle.doc_events.proofs.attributes.Attributes.with.Goals.{then-count-ge-FEW+in_ok-text_of+in_ok-insert, else-count-ge-FEW}

pub invariant_of-result : goal.invariant_of-result
invariant_of-result c =
    let count = c.self.inside.count in
    let old = map pair_of (take count c.self.inside.list.items) in
    let new = map pair_of (take (count + 1) c.put.new.list.items) in
    let size = counted count c.self.inside.list.items c.self.invariant.0 in
    let sees = c.self.invariant.1 in
    let added = c.in_ok-put.ensures.items in (
      c.in_ok-put.ensures.within,
      elim c.if-count-ge-FEW.branch [
        | then-count-ge-FEW+in_ok-text_of+in_ok-insert w ↦
            let many : 8 ≤ length old = omega (arith, size) in
            subst (λ z. Sees z (drop 8 new)) (sym w.seen-is)
            (many_more 8 c.self.inside.seen w.insert.new.self old new c.args.name.now c.args.value.now w.in_ok-text_of.field-0 many added sees w.in_ok-text_of.ensures w.in_ok-insert.ensures.updates)
        | else-count-ge-FEW w ↦
            let few : length old < 8 = omega (arith, size) in
            subst (λ z. Sees z (drop 8 new)) (sym w.seen-is) (few_more 8 c.self.inside.seen old new _ few added sees)
      ],
    )
