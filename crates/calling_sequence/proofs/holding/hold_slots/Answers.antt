use Rattle.std.proofs.Common.{ℕ, List, refl, subst}
use Rattle.slot_calls.specs.Slots.{instances}
use Rattle.calling_sequence.specs.Holding.{PutsPiece}
use Rattle.calling_sequence.specs.declared.run_end.RunEnd.TheVariants as E
use Rattle.calling_sequence.proofs.Ended.{at_start, ends_early, held_badly, held_well}
use Rattle.calling_sequence.proofs.holding.hold_slots.Goals as goal

pub returns-in-Err : goal.returns-in-Err
returns-in-Err g c =
    let view = g.L.Peer.view in
    let e = c.args.experiment.now in
    let begins = c.requires.begins in
    let start = at_start e c.args.at (instances view c.args.slots.now) (g.O.Sink.view c.args.out.now) _ begins.fresh.none in
    ends_early e c.args.at _ _ _ _ _ _ c.in-Err.broken (c.in-Err.ensures.comes _ _ (record { puts_them = refl; leaves = λ t below. below }) start) c.conclude.result c.conclude.ensures

pub returns-in-Ok-keep_all : goal.returns-in-Ok-keep_all
returns-in-Ok-keep_all g c =
    let view = g.L.Peer.view in
    let e = c.args.experiment.now in
    let begins = c.requires.begins in
    let start = at_start e c.args.at (instances view c.args.slots.now) (g.O.Sink.view c.args.out.now) _ begins.fresh.none in
    let there = c.in-Ok.ensures.comes _ _ (record { puts_them = refl; leaves = λ t below. below }) start in
    let put = subst (λ (bytes : List ℕ). PutsPiece (E.Held c.in-Ok.point) bytes (g.O.Sink.view c.come.new.out) (g.O.Sink.view c.put_kept.new.out) c.put_kept.result) c.deref.ensures.value c.put_kept.ensures in
    held_well e c.args.at _ _ c.in-Ok.point there.0 c.come.new.buffers _ _ _ there.1 c.in-Ok.ensures.reached c.in-Ok.ensures.early _ _ c.in-Ok-keep_all.ensures.keeps c.put_kept.result _ put

pub returns-in-Err-keep_all : goal.returns-in-Err-keep_all
returns-in-Err-keep_all g c =
    let view = g.L.Peer.view in
    let e = c.args.experiment.now in
    let begins = c.requires.begins in
    let start = at_start e c.args.at (instances view c.args.slots.now) (g.O.Sink.view c.args.out.now) _ begins.fresh.none in
    let there = c.in-Ok.ensures.comes _ _ (record { puts_them = refl; leaves = λ t below. below }) start in
    held_badly e c.args.at _ _ c.in-Ok.point there.0 c.come.new.buffers _ _ _ there.1 c.in-Ok.ensures.reached c.in-Ok.ensures.early c.in-Err-keep_all.bad _ c.in-Err-keep_all.ensures.keeps c.conclude-in-Err-keep_all.result _ c.conclude-in-Err-keep_all.ensures
