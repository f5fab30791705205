use Rattle.std.proofs.Common.{inl, refl}
use Rattle.ssd_tree.specs.Rules.{IsTooLong, IsTooMany}
use Rattle.ssd_tree.proofs.EndLemmas.{or_last_of}
use Rattle.ssd_tree.proofs.indexed.IndexedTree.passes_limits.Goals as goal

pub returns-then-is_too_many : goal.returns-then-is_too_many
returns-then-is_too_many c = (λ e. inl (c.is_too_many.ensures.0 c.if-is_too_many.true), λ _. refl)

pub returns : goal.returns
returns c =
    let s = c.args.self.now.setting in
    let t = c.args.self.now.tree.now in
    or_last_of (IsTooMany s t c.args.node) (IsTooLong s t c.args.node) c.is_too_many.result c.is_too_long.result c.is_too_many.ensures c.if-is_too_many.false c.is_too_long.ensures
