use Rattle.parameter_binding.proofs.MoveLemmas.{gathered_none}
use Rattle.parameter_binding.proofs.binding.gather.Goals as goal

pub loop-b-init : goal.loop-b-init
loop-b-init c = gathered_none c.args.tree.now c.args.shapes.now c.args.sets.now c.new-gathered.result c.new-gathered.ensures
