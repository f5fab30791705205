use Rattle.std.proofs.Common.{◌<◌, List, length, sym, subst, arith}
use Rattle.ssd_tree.specs.declared.tree.SystemPart.{SystemPart}
use Rattle.parameter_targets.proofs.LevelLemmas.{IsNextDepth, depth_read, depths_more}
use Rattle.parameter_targets.proofs.ListLemmas.{read_at}
use Rattle.parameter_targets.proofs.levels.Levels.of.Goals as goal
use Rattle.parameter_targets.proofs.levels.Levels.of.Goals.{in-None, in-Some}

pub overflow_add-depth : goal.overflow_add-depth
overflow_add-depth c =
    let tree = c.args.tree.now in
    let i = c.loop-part.part-index in
    let part = c.part-item.result in
    let within : i < length tree.systems = subst (λ (z : List SystemPart). i < length z) c.as_slice-part-items.ensures c.loop-part-test.true in
    let is = read_at tree.systems c.as_slice-part-items.result.now i part c.as_slice-part-items.ensures within c.part-item.is in
    let less = c.requires.outer i c.in-Some.above part is c.in-Some.is in
    let deep = depth_read tree i c.in-Some.above c.index.result.now c.loop-part.depths.items c.loop-part.invariant less c.index.ensures in
    let small = deep.1 in
    let len = c.as_slice-part-items.type_inv in
    let many = len.0 in
    let loop = c.loop-part-test.true in
    omega (arith, less, small, many, loop)

pub loop-part-preserved : goal.loop-part-preserved
loop-part-preserved c =
    let tree = c.args.tree.now in
    let i = c.loop-part.part-index in
    let part = c.part-item.result in
    let within : i < length tree.systems = subst (λ (z : List SystemPart). i < length z) c.as_slice-part-items.ensures c.loop-part-test.true in
    let is = read_at tree.systems c.as_slice-part-items.result.now i part c.as_slice-part-items.ensures within c.part-item.is in
    let next : IsNextDepth c.loop-part.depths.items part.parent c.match-part.depth = elim c.match-part.branch [
      | in-None w ↦ subst (λ o. IsNextDepth c.loop-part.depths.items o c.match-part.depth) (sym w.in-None.is) w.depth-is
      | in-Some w ↦ subst (λ o. IsNextDepth c.loop-part.depths.items o c.match-part.depth) (sym w.in-Some.is) (w.index.result.now, w.index.ensures, w.depth-is)
    ] in
    depths_more tree i c.match-part.depth c.loop-part.depths.items c.push.new.self.items part c.requires is next c.in_ok-push.ensures.items c.loop-part.invariant
