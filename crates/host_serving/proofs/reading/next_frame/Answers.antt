use Rattle.std.proofs.Common.{◌≡◌, ◌<◌, ◌∙◌, List, ℕ, sym, ap, subst, arith, rules, length, length-take}
use Rattle.std.specs.Prelude.{slice_index}
use Rattle.std.proofs.lemmas.List.{take_all}
use Rattle.host_serving.specs.Frames.{ComesTo, IsNoFrame, Takes}
use Rattle.host_serving.proofs.ComingLemmas.{broke, head_came, head_cut}
use Rattle.host_serving.proofs.LinkFrames.{first_of}
use Rattle.host_serving.proofs.reading.next_frame.Goals as goal

pub returns-in-Got : goal.returns-in-Got
returns-in-Got g c =
    let old = g.I.Source.view c.args.input.now in
    let new = g.I.Source.view c.fill.new.input in
    let whole : length c.fill.new.into ≡ 24 = search rules in
    let size = ap length c.prefix_of.ensures in
    let cut = length-take c.in-Ok.count c.fill.new.into in
    subst (ComesTo old new c.args.room.now) (sym c.next_of_frame.ensures)
    (head_came old new c.in-Got.value c.prefix_of.result.now _ (omega (arith, size, cut, whole)) (subst (Takes old new) (sym c.prefix_of.ensures) c.in-Ok.ensures.takes) c.in-Got.ensures.taken)

pub returns-in-Bad : goal.returns-in-Bad
returns-in-Bad g c =
    let old = g.I.Source.view c.args.input.now in
    let new = g.I.Source.view c.fill.new.input in
    let some : 0 < c.in-Ok.count = omega (arith, c.if-count-eq0.false) in
    broke old new c.prefix_of.result.now c.in-Bad.at
    (λ batch. c.if-head-eq-BATCH.false (sym (ap (λ (xs : List ℕ). slice_index xs 0) c.prefix_of.ensures ∙ first_of c.fill.new.into c.in-Ok.count some) ∙ batch))
    (subst (Takes old new) (sym c.prefix_of.ensures) c.in-Ok.ensures.takes) c.in-Bad.ensures.taken

pub returns-then-count-lt-HEAD : goal.returns-then-count-lt-HEAD
returns-then-count-lt-HEAD g c =
    let old = g.I.Source.view c.args.input.now in
    let new = g.I.Source.view c.fill.new.input in
    let bytes = c.prefix_of.result.now in
    let some : 0 < c.in-Ok.count = omega (arith, c.if-count-eq0.false) in
    let whole : length c.fill.new.into ≡ 24 = search rules in
    let cut = ap length c.prefix_of.ensures ∙ length-take c.in-Ok.count c.fill.new.into in
    let size : length bytes ≡ c.in-Ok.count = omega (arith, cut, c.in-Ok.ensures.bound) in
    subst (IsNoFrame old new) size
    (head_cut old new bytes (subst (Takes old new) (sym c.prefix_of.ensures) c.in-Ok.ensures.takes) (c.in-Ok.ensures.end (omega (arith, whole, c.if-count-lt-HEAD.true))) (omega (arith, size, some)) c.in-NeedMore.ensures.taken)

pub returns-else-count-lt-HEAD : goal.returns-else-count-lt-HEAD
returns-else-count-lt-HEAD g c =
    let old = g.I.Source.view c.args.input.now in
    let new = g.I.Source.view c.fill.new.input in
    let whole : length c.fill.new.into ≡ 24 = search rules in
    c.next_with_texts.ensures old c.args.room.now
    (subst (Takes old new) (take_all c.in-Ok.count c.fill.new.into (omega (arith, whole, c.if-count-lt-HEAD.false))) c.in-Ok.ensures.takes)
