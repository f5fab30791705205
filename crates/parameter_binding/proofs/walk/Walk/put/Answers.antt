use Rattle.parameter_binding.proofs.WalkLemmas.{seen_by, target_by}
use Rattle.parameter_binding.proofs.walk.Walk.put.Goals as goal

pub put-requires-clause-targets : goal.put-requires-clause-targets
put-requires-clause-targets c =
    let seen = seen_by c.args.self.now c.args.binding.now c.args.name.now c.in_ok-targets.targets.items c.as_slice.result.now c.requires.walk c.as_slice.ensures.value c.in_ok-targets.ensures in
    target_by c.args.self.now c.args.binding.now c.args.name.now c.as_slice.result.now seen

pub returns : goal.returns
returns c = λ change visit was.
    let seen = seen_by c.args.self.now c.args.binding.now c.args.name.now c.in_ok-targets.targets.items c.as_slice.result.now c.requires.walk c.as_slice.ensures.value c.in_ok-targets.ensures in
    c.in_ok-put.ensures c.args.self.now.tree.now c.args.self.now.sets.now c.args.binding.now c.args.name.now change visit seen was
