use Rattle.std.proofs.Common.{◌≡◌, ◌++◌, ℕ, Some, codes, sym, ap, ◌∙◌, subst}
use Rattle.ssd_tree.specs.Elements.{holder}
use Rattle.ssd_tree.specs.Parts.{IsFullName}
use Rattle.ssd_tree.proofs.PartLemmas.{component_named, system_inside}
use Rattle.ssd_tree.proofs.ScopeLemmas.{full_inside}
use Rattle.ssd_tree.proofs.indexed.IndexedTree.full_name.Goals as goal

pub scope-requires-clause-is : goal.scope-requires-clause-is
scope-requires-clause-is c =
    system_inside c.args.self.now.tree.now c.args.node c.unwrap-system.result c.requires.is (sym c.holder.ensures.holder ∙ c.unwrap-system.ensures)

pub text-requires : goal.text-requires
text-requires c = component_named c.args.self.now.tree.now c.args.node c.requires.sound c.requires.is

pub returns : goal.returns
returns c =
    let t = c.args.self.now.tree.now in
    let above = c.in_ok-name.name in
    let own = c.in_ok-text.field-0 in
    let held : holder t c.args.node (codes "Elements") ≡ Some c.unwrap-system.result = sym c.holder.ensures.holder ∙ c.unwrap-system.ensures in
    subst (IsFullName t c.args.node) (sym c.in_ok-push.ensures) (full_inside t c.args.node c.unwrap-system.result above own held c.in_ok-name.ensures c.in_ok-text.ensures)
