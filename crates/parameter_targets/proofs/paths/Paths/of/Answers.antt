use Rattle.std.proofs.Common.{arith}
use Rattle.parameter_targets.proofs.RowLemmas.{paths_all, paths_more}
use Rattle.parameter_targets.proofs.paths.Paths.of.Goals as goal

pub loop-component-preserved : goal.loop-component-preserved
loop-component-preserved c = paths_more c.args.tree.now c.loop-component.component c.loop-component.paths c.put_component.new.self c.in_ok-put_component.ensures.rows c.in_ok-put_component.ensures.told c.loop-component.invariant

pub returns : goal.returns
returns c = paths_all c.args.tree.now c.loop-component.component c.loop-component.paths (omega arith) c.loop-component.invariant
