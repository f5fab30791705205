use Rattle.std.proofs.Common.{◌↔◌, ◌==◌, ℕ, IsTrue, subst, sym}
use Rattle.ssd_tree.specs.Rules.{IsTooMany}
use Rattle.ssd_tree.proofs.RuleLemmas.{too_many_at, few}
use Rattle.ssd_tree.proofs.indexed.IndexedTree.is_too_many.Goals as goal

pub returns-in-Some : goal.returns-in-Some
returns-in-Some c =
    let s = c.args.self.now.setting in
    let t = c.args.self.now.tree.now in
    subst (λ (n : ℕ). IsTrue (c.in-Some.place == n) ↔ IsTooMany s t c.args.node) (sym c.saturating_sub.ensures)
    (too_many_at s t c.args.node c.in-Some.place c.args.self.now.fmus.items c.as_slice.result.now c.requires.fmus c.as_slice.ensures.value c.in-Some.ensures)

pub returns-in-None : goal.returns-in-None
returns-in-None c =
    few c.args.self.now.setting c.args.self.now.tree.now c.args.node c.args.self.now.fmus.items c.as_slice.result.now c.requires.fmus c.as_slice.ensures.value c.in-None.ensures
