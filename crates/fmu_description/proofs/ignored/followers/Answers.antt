use Rattle.std.proofs.Common.{◌≡◌, ◌+◌, length, sym, ◌∙◌, subst, arith}
use Rattle.fmu_description.specs.Clocks.{clocks_of}
use Rattle.fmu_description.specs.Marks.{ListsBelow, PutsUnder, listed_at}
use Rattle.fmu_description.proofs.FollowLemmas.{lists_more, lists_past, lists_whole}
use Rattle.fmu_description.proofs.ignored.followers.Goals as goal
use Rattle.fmu_description.proofs.ignored.followers.Goals.{then-is_variable+in_ok-references+in_ok-put_under, else-is_variable}

pub loop-node-preserved : goal.loop-node-preserved
loop-node-preserved c =
    let t = c.args.tree.now in
    let n = c.loop-node.node in
    elim c.if-is_variable.branch [
      | then-is_variable+in_ok-references+in_ok-put_under w ↦
          let same : w.as_slice.result.now ≡ clocks_of t n = w.as_slice.ensures.value ∙ w.in_ok-references.ensures in
          let puts : PutsUnder (clocks_of t n) n (listed_at c.loop-node.table) (listed_at w.put_under.new.table) =
          subst (λ z. PutsUnder z n (listed_at c.loop-node.table) (listed_at w.put_under.new.table)) same w.in_ok-put_under.ensures in
          subst (λ z. ListsBelow t (n + 1) (listed_at z)) (sym w.table-is) (lists_more t n _ _ (sym c.is_variable.ensures ∙ w.if-is_variable.true) c.loop-node.invariant puts)
      | else-is_variable w ↦
          subst (λ z. ListsBelow t (n + 1) (listed_at z)) (sym w.table-is) (lists_past t n _ (sym c.is_variable.ensures ∙ w.if-is_variable.false) c.loop-node.invariant)
    ]

pub returns : goal.returns
returns c =
    let t = c.args.tree.now in
    let whole : c.loop-node.node ≡ length t = omega arith in
    lists_whole t (listed_at c.loop-node.table) (subst (λ z. ListsBelow t z (listed_at c.loop-node.table)) whole c.loop-node.invariant)
