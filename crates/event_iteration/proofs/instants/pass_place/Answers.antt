use Rattle.std.proofs.Common.{◌≡◌, ◌<◌, ℕ, List, false, ap, length, length-set, subst, sym, ◌∙◌}
use Rattle.std.specs.Prelude.{All}
use Rattle.event_iteration.proofs.LeftOut.{passes_alone, passes_on}
use Rattle.event_iteration.proofs.instants.pass_place.Goals as goal

pub returns-then-not-is_active : goal.returns-then-not-is_active
returns-then-not-is_active c = passes_alone c.args.participants.now.at_ticks c.args.k c.args.p c.args.is_active c.args.pending.now c.take.new.self c.requires.place c.take.ensures c.if-not-is_active.true

pub await_ticks-requires : goal.await_ticks-requires
await_ticks-requires c =
    let size : length c.take.new.self ≡ length c.args.pending.now = ap length c.take.ensures ∙ length-set c.args.pending.now c.args.k false in
    subst (λ (n : ℕ). All (λ (j : ℕ). j < n) c.row-places.result.now) (sym size) (subst (λ (l : List ℕ). All (λ (j : ℕ). j < length c.args.pending.now) l) (sym c.row-places.ensures) c.requires.rows)

pub returns : goal.returns
returns c =
    let added = c.await_ticks.ensures in
    passes_on c.args.participants.now.at_ticks c.args.k c.args.p c.args.is_active c.args.pending.now c.take.new.self c.await_ticks.new.pending c.row-places.result.now c.requires.place c.take.ensures c.row-places.ensures added.size added.kept added.there added.only
