use Rattle.std.proofs.Common.{[], sym, subst, take}
use Rattle.fmi_calls.specs.declared.call.Reply.{Reply}
use Rattle.link_frames.specs.declared.layout.Form.TheVariants.{OfReply}
use Rattle.exact_parts.specs.declared.taken.Taken.TheVariants.{Got, NeedMore, Bad}
use Rattle.link_frames.specs.Numbers.{Reads}
use Rattle.link_frames.specs.Reply.{IsReplyFrame, reply_at}
use Rattle.exact_parts.specs.Taking.{Gets}
use Rattle.exact_parts.proofs.CallerLemmas.{made_breaks, made_got, made_prefix, only_one}
use Rattle.link_frames.proofs.ReplyLemmas.{qualifier_small, reply_same, reply_single}
use Rattle.link_frames.proofs.reply.take_reply.Goals as goal

pub reply_at-requires : goal.reply_at-requires
reply_at-requires c = qualifier_small c.in-Got.value (take c.in-Got.length c.args.bytes.now) c.in-Got.ensures.spelled

pub returns-in-Got-clause-taken : goal.returns-in-Got-clause-taken
returns-in-Got-clause-taken c =
    subst (λ (r : Reply). Gets IsReplyFrame c.args.bytes.now r c.in-Got.length) (sym c.reply_at.ensures)
    (made_got (Reads OfReply 7 []) reply_at IsReplyFrame reply_same c.args.bytes.now c.in-Got.value c.in-Got.length c.in-Got.ensures)

pub returns-in-Got-clause-only : goal.returns-in-Got-clause-only
returns-in-Got-clause-only c = λ other h. only_one IsReplyFrame reply_single c.args.bytes.now (Got c.reply_at.result c.in-Got.length) other (returns-in-Got-clause-taken c) h

pub returns-in-NeedMore-clause-taken : goal.returns-in-NeedMore-clause-taken
returns-in-NeedMore-clause-taken c = made_prefix (Reads OfReply 7 []) reply_at IsReplyFrame reply_same c.args.bytes.now c.in-NeedMore.ensures

pub returns-in-NeedMore-clause-only : goal.returns-in-NeedMore-clause-only
returns-in-NeedMore-clause-only c = λ other h. only_one IsReplyFrame reply_single c.args.bytes.now NeedMore other (returns-in-NeedMore-clause-taken c) h

pub returns-in-Bad-clause-taken : goal.returns-in-Bad-clause-taken
returns-in-Bad-clause-taken c = made_breaks (Reads OfReply 7 []) reply_at IsReplyFrame reply_same c.args.bytes.now c.in-Bad.at c.in-Bad.ensures

pub returns-in-Bad-clause-only : goal.returns-in-Bad-clause-only
returns-in-Bad-clause-only c = λ other h. only_one IsReplyFrame reply_single c.args.bytes.now (Bad c.in-Bad.at) other (returns-in-Bad-clause-taken c) h
