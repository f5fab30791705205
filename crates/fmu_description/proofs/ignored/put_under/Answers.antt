use Rattle.std.proofs.Common.{subst, arith}
use Rattle.std.proofs.lemmas.List.{take_all}
use Rattle.fmu_description.specs.Marks.{PutsUnder, listed_at}
use Rattle.fmu_description.proofs.FollowLemmas.{puts_more}
use Rattle.fmu_description.proofs.ignored.put_under.Goals as goal

pub loop-reference-preserved : goal.loop-reference-preserved
loop-reference-preserved c = puts_more c.args.references.now c.loop-reference.reference-index c.args.node _ _ _ (omega arith) c.loop-reference.invariant c.in_ok-put.ensures

pub returns : goal.returns
returns c = subst (λ z. PutsUnder z c.args.node (listed_at c.args.table.now) (listed_at c.loop-reference.table)) (take_all c.loop-reference.reference-index c.args.references.now (omega arith)) c.loop-reference.invariant
