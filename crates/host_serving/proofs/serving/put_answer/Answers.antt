use Rattle.std.proofs.Common.{refl, rules, subst, sym, ◌∙◌}
use Rattle.std.proofs.lemmas.Bool.{false≢true}
use Rattle.fmi_calls.specs.declared.call.Reply.{Reply}
use Rattle.link_frames.specs.Reply.{CanBeTold, IsReplyFrame}
use Rattle.host_serving.specs.Serving.{IsPut, PutFails, Untold}
use Rattle.host_serving.proofs.ServingLemmas.{sent_told}
use Rattle.host_serving.proofs.serving.put_answer.Goals as goal

pub returns-then-not-can_be_told : goal.returns-then-not-can_be_told
returns-then-not-can_be_told g c = Untold (λ can. false≢true (sym c.if-not-can_be_told.true ∙ c.can_be_told.ensures.1 can)) refl

pub returns-in-Ok : goal.returns-in-Ok
returns-in-Ok g c =
    let told : CanBeTold c.as_sent.result = subst CanBeTold (sym c.as_sent.ensures) (sent_told c.args.call.now c.args.reply (c.can_be_told.ensures.0 c.if-not-can_be_told.false)) in
    IsPut c.put_reply.new.out c.end_after.result (subst (λ (r : Reply). IsReplyFrame r c.put_reply.new.out) c.as_sent.ensures (c.put_reply.ensures.frame told)) c.in-Ok.ensures.put c.end_after.ensures

pub returns-in-Err : goal.returns-in-Err
returns-in-Err g c = PutFails c.in-Err.ensures.rose
