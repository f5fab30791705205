use Rattle.std.proofs.Common.{arith}
use Rattle.transformations.specs.Elements.{transformations_of}
use Rattle.parameter_sets.specs.Sets.{IsEntry}
use Rattle.parameter_sets.proofs.ListLemmas.{inside_one}
use Rattle.transformations.proofs.CallerLemmas.{part_more}
use Rattle.parameter_sets.proofs.entries.entries.Goals as goal

pub entry-requires-clause-read : goal.entry-requires-clause-read
entry-requires-clause-read c = λ k is misread.
    c.requires.read k (inside_one (transformations_of c.args.tree.now) c.args.nodes.now c.loop-node.node-index k (omega arith) is) misread

pub loop-node-preserved : goal.loop-node-preserved
loop-node-preserved c =
    part_more (IsEntry c.args.tree.now) c.args.nodes.now c.loop-node.found.items c.push.new.self.items c.loop-node.node-index c.in_ok-entry.field-0 (omega arith)
    c.loop-node.invariant c.in_ok-entry.ensures c.in_ok-push.ensures.items
