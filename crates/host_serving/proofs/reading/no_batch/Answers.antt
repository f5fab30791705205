use Rattle.std.proofs.Common.{◌≡◌, ◌<◌, ◌∙◌, List, ℕ, length, length-take, sym, ap, subst, arith}
use Rattle.std.specs.Prelude.{slice_index}
use Rattle.link_frames.specs.Batch.{IsHeadOf}
use Rattle.host_serving.specs.Frames.{IsNoFrame, Takes}
use Rattle.host_serving.proofs.ComingLemmas.{batch_broke, batch_head_cut, no_batch_in}
use Rattle.host_serving.proofs.LinkFrames.{first_of}
use Rattle.host_serving.proofs.reading.no_batch.Goals as goal

pub unreachable-requires : goal.unreachable-requires
unreachable-requires c =
    let size = ap length c.prefix_of.ensures ∙ length-take c.args.count c.args.head.now in
    no_batch_in c.prefix_of.result.now c.in-Got.value c.in-Got.length (omega (arith, size, c.requires.within)) c.in-Got.ensures.taken

pub returns-in-Bad : goal.returns-in-Bad
returns-in-Bad c = λ before after room takes end.
    batch_broke before after c.prefix_of.result.now c.in-Bad.at
    (ap (λ (xs : List ℕ). slice_index xs 0) c.prefix_of.ensures ∙ first_of c.args.head.now c.args.count c.requires.some ∙ c.requires.sort)
    (subst (Takes before after) (sym c.prefix_of.ensures) takes) c.in-Bad.ensures.taken

pub returns-in-NeedMore : goal.returns-in-NeedMore
returns-in-NeedMore c = λ before after room takes end.
    let bytes = c.prefix_of.result.now in
    let cut = ap length c.prefix_of.ensures ∙ length-take c.args.count c.args.head.now in
    let size : length bytes ≡ c.args.count = omega (arith, cut, c.told-head, c.requires.within) in
    subst (IsNoFrame before after) size
    (batch_head_cut before after bytes (omega (arith, size, c.requires.some)) (omega (arith, size, c.requires.within)) (λ (short : length bytes < 24). end (omega (arith, short, size)))
    (λ calls h. c.requires.none calls (subst (IsHeadOf calls) c.prefix_of.ensures h)) (subst (Takes before after) (sym c.prefix_of.ensures) takes) c.in-NeedMore.ensures.taken)
