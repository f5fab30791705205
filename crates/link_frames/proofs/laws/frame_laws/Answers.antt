use Rattle.std.proofs.Common.{length, sym, ap, ◌∙◌}
use Rattle.link_frames.proofs.CallLemmas.{call_single, frame_length, frame_taken}
use Rattle.link_frames.proofs.ReplyLemmas.{reply_single}
use Rattle.link_frames.proofs.HeadLemmas.{head_length}
use Rattle.link_frames.specs.Reply.{head_of_reply}
use Rattle.link_frames.proofs.laws.frame_laws.Goals as goal

pub returns-clause-calls : goal.returns-clause-calls
returns-clause-calls c = call_single

pub returns-clause-replies : goal.returns-clause-replies
returns-clause-replies c = reply_single

pub returns-clause-one_of_call : goal.returns-clause-one_of_call
returns-clause-one_of_call c = λ call name token bytes others p q. p.spelled ∙ sym q.spelled

pub returns-clause-one_of_reply : goal.returns-clause-one_of_reply
returns-clause-one_of_reply c = λ reply bytes others p q. p.spelled ∙ sym q.spelled

pub returns-clause-taken : goal.returns-clause-taken
returns-clause-taken c = λ call name token bytes h. frame_taken call name token bytes h

pub returns-clause-call_length : goal.returns-clause-call_length
returns-clause-call_length c = λ call name token bytes h. frame_length call name token bytes h

pub returns-clause-reply_length : goal.returns-clause-reply_length
returns-clause-reply_length c = λ reply bytes h. ap length h.spelled ∙ head_length (head_of_reply reply)
