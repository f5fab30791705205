use Rattle.std.proofs.Common.{◌≡◌, ◌-◌, ◌+◌, ◌∙◌, sym, subst, ap, arith, rules, length, length-take, take}
use Rattle.host_serving.specs.Frames.{ComesTo, IsNoFrame}
use Rattle.host_serving.proofs.ComingLemmas.{texts_broke, texts_came, texts_cut}
use Rattle.host_serving.proofs.FrameLemmas.{prefix_more, takes_more}
use Rattle.host_serving.proofs.reading.next_in.Goals as goal

pub returns-in-Got : goal.returns-in-Got
returns-in-Got g c = λ before seen takes.
    let frame = c.args.frame.now in
    let count = c.in-Ok.count in
    let part = c.fill.new.into in
    let room : length part ≡ length frame - 24 = search rules in
    let cut = length-take count part in
    let head = length-take 24 frame in
    subst (ComesTo before (g.I.Source.view c.fill.new.input) seen) (sym c.next_of_frame.ensures)
    (texts_came _ _ _ (take 24 frame) (take count part) _ _ (length frame - 24) (omega (arith, head, c.requires.long)) c.requires.prefix c.requires.room (omega (arith, cut, room, c.in-Ok.ensures.bound))
    (c.prefix_of.ensures ∙ prefix_more frame part 24 count c.requires.long c.in-Ok.ensures.bound)
    (takes_more _ _ _ (take 24 frame) (take count part) takes c.in-Ok.ensures.takes) c.in-Got.ensures.taken)

pub returns-in-Bad : goal.returns-in-Bad
returns-in-Bad g c = λ before seen takes.
    let frame = c.args.frame.now in
    let count = c.in-Ok.count in
    let part = c.fill.new.into in
    let head = length-take 24 frame in
    texts_broke _ _ (take 24 frame) (take count part) _ _ (omega (arith, head, c.requires.long)) c.requires.prefix (c.prefix_of.ensures ∙ prefix_more frame part 24 count c.requires.long c.in-Ok.ensures.bound)
    (takes_more _ _ _ (take 24 frame) (take count part) takes c.in-Ok.ensures.takes) c.in-Bad.ensures.taken

pub returns-in-NeedMore : goal.returns-in-NeedMore
returns-in-NeedMore g c = λ before seen takes.
    let frame = c.args.frame.now in
    let count = c.in-Ok.count in
    let part = c.fill.new.into in
    let room : length part ≡ length frame - 24 = search rules in
    let size : length (take count part) ≡ count = length-take count part ∙ omega (arith, c.in-Ok.ensures.bound) in
    let head = length-take 24 frame in
    subst (IsNoFrame before (g.I.Source.view c.fill.new.input)) (ap (λ n. 24 + n) size)
    (texts_cut _ _ (take 24 frame) (take count part) _ (length frame - 24) (omega (arith, head, c.requires.long)) c.requires.room
    (c.prefix_of.ensures ∙ prefix_more frame part 24 count c.requires.long c.in-Ok.ensures.bound)
    (takes_more _ _ _ (take 24 frame) (take count part) takes c.in-Ok.ensures.takes) (λ less. c.in-Ok.ensures.end (omega (arith, less, size, room))) c.in-NeedMore.ensures.taken)
