use Rattle.std.proofs.Common.{ℕ, sym, subst, ◌∙◌}
use Rattle.std.specs.Prelude.{All}
use Rattle.rollback.specs.Asked.{IsSavedBy}
use Rattle.rollback.proofs.OneTurn.{agreed_all, agreed_one, begins_home}
use Rattle.rollback.proofs.agreeing.agree.Goals as goal

pub follow_one-requires-clause-one : goal.follow_one-requires-clause-one
follow_one-requires-clause-one g c κs within = sym c.requires.counted ∙ c.if-early-eq1.true

pub agree_all-requires-clause-several : goal.agree_all-requires-clause-several
agree_all-requires-clause-several g c κs within = λ e. c.if-early-eq1.false (c.requires.counted ∙ e)

pub agree_all-requires-clause-saved : goal.agree_all-requires-clause-saved
agree_all-requires-clause-saved g c κs within = subst (λ (n : ℕ). All (IsSavedBy g.L.Peer.view n) c.args.slots.now) c.requires.counted c.requires.saved

pub agree_all-requires-clause-begin : goal.agree_all-requires-clause-begin
agree_all-requires-clause-begin g c κs within = begins_home g.L.Peer.view c.args.t c.args.slots.now c.requires.home

pub returns-then-early-eq1 : goal.returns-then-early-eq1
returns-then-early-eq1 g c = agreed_one g.L.Peer.view c.args.early c.args.t c.args.step c.args.bound c.args.slots.now c.follow_one.new.slots c.follow_one.result c.if-early-eq1.true c.follow_one.ensures

pub returns-else-early-eq1 : goal.returns-else-early-eq1
returns-else-early-eq1 g c = agreed_all g.L.Peer.view c.args.early c.args.t c.args.step c.args.bound c.args.slots.now c.agree_all.new.slots c.agree_all.result c.if-early-eq1.false c.agree_all.ensures
