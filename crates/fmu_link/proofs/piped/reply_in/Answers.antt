use Rattle.std.proofs.Common.{◌≡◌, length, arith, refl}
use Rattle.fmu_link.proofs.FrameLemmas.{no_reply, whole_reply}
use Rattle.fmu_link.proofs.piped.reply_in.Goals as goal

pub returns-in-Got : goal.returns-in-Got
returns-in-Got c =
    let whole : length c.args.bytes ≡ 24 = omega arith in
    whole_reply c.in-Got.value c.args.bytes c.in-Got.length whole c.in-Got.ensures.taken

pub returns-in-NeedMore : goal.returns-in-NeedMore
returns-in-NeedMore c =
    let whole : length c.args.bytes ≡ 24 = omega arith in
    (refl, no_reply c.args.bytes c.take_reply.result whole c.take_reply.ensures.only c.in-NeedMore.is)
