use Rattle.std.proofs.Common.{arith, below_more}
use Rattle.std.proofs.lemmas.Option.{MatchOption-at_none}
use Rattle.doc_tree.specs.Rules.{system_number}
use Rattle.doc_tables.specs.Violations.{BreaksNoRule, IsLeast}
use Rattle.doc_tables.proofs.CallerLemmas.{all_sound}
use Rattle.ssd_tree.specs.Rules.{ViolatesStructure}
use Rattle.ssd_tree.proofs.RuleLemmas.{breaks_none}
use Rattle.ssd_tree.proofs.indexed.IndexedTree.first_violation.Goals as goal

pub loop-node-preserved : goal.loop-node-preserved
loop-node-preserved c =
    let s = c.args.self.now.setting in
    let t = c.args.self.now.tree.now in
    below_more (BreaksNoRule (ViolatesStructure s t)) c.loop-node.node c.loop-node.invariant
    (MatchOption-at_none (BreaksNoRule (ViolatesStructure s t) c.loop-node.node) (IsLeast system_number (ViolatesStructure s t) c.loop-node.node) c.in_default.is c.in_ok-rule.ensures)

pub returns : goal.returns
returns c =
    let s = c.args.self.now.setting in
    let t = c.args.self.now.tree.now in
    all_sound system_number (ViolatesStructure s t) c.loop-node.node (λ k past. breaks_none s t k (omega (arith, past)) (λ e. omega (arith, past, e))) c.loop-node.invariant
