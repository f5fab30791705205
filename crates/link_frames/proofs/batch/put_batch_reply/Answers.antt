use Rattle.std.proofs.Common.{rules, ◌≡◌, ◌+◌, ◌*◌, ◌++◌, ℕ, List, length, take, drop, ap, subst, ◌∙◌, append_assoc, arith, false}
use Rattle.std.proofs.lemmas.List.{take_all}
use Rattle.fmi_calls.specs.Kinds.{kind_of_reply}
use Rattle.fmi_calls.specs.declared.call.Content.TheVariants as A
use Rattle.fmi_calls.specs.declared.call.Reply.{Reply}
use Rattle.fmi_calls.specs.declared.call.Reply.TheVariants.{Done}
use Rattle.link_frames.specs.Batch.{AreFrames, batch_head, kind_of_first_reply}
use Rattle.link_frames.specs.Head.{spelling}
use Rattle.link_frames.specs.Reply.{IsReplyFrame}
use Rattle.exact_parts.proofs.CallerLemmas.{drop_later}
use Rattle.link_frames.proofs.PutLemmas.{each_told, one_more_of, replies_put}
use Rattle.link_frames.proofs.batch.put_batch_reply.Goals as goal

pub frame_of_reply-requires : goal.frame_of_reply-requires
frame_of_reply-requires c = each_told c.args.replies.now c.loop-i.i (Done false (A.Instantiate false)) c.requires.has_frame c.loop-i-test.true

pub loop-i-preserved : goal.loop-i-preserved
loop-i-preserved c =
    let i = c.loop-i.i in
    let inv = c.loop-i.invariant in
    let replies = c.args.replies.now in
    let frame = c.frame_of_reply.result in
    let new = c.put_at-in-loop-i.new.out in
    let d = Done false (A.Instantiate false) in
    let place : 24 * (i + 1) + length frame ≡ 24 * (i + 1 + 1) = omega arith in
    record {
      up_to = search rules;
      len = search rules;
      bytes = inv.bytes ++ frame;
      are = one_more_of IsReplyFrame kind_of_reply (kind_of_first_reply replies) replies i d inv.bytes frame c.loop-i-test.true inv.are c.frame_of_reply.ensures (c.requires.has_frame.one_kind i d c.loop-i-test.true);
      prefix = subst (λ (k : ℕ). take k new ≡ spelling (batch_head (length replies)) ++ (inv.bytes ++ frame)) place
          (c.put_at-in-loop-i.ensures.prefix ∙ ap (λ (b : List ℕ). b ++ frame) inv.prefix ∙ append_assoc (spelling (batch_head (length replies))) inv.bytes frame);
      rest = subst (λ (k : ℕ). drop k new ≡ drop k c.loop-i.out) place c.put_at-in-loop-i.ensures.rest
          ∙ drop_later c.loop-i.out c.args.out.now (24 * (i + 1)) (24 * (i + 1 + 1)) (omega arith) inv.rest;
    }

pub returns-clause-batch : goal.returns-clause-batch
returns-clause-batch c =
    let inv = c.loop-i.invariant in
    let replies = c.args.replies.now in
    let all : c.loop-i.i ≡ length replies = omega (arith, inv.up_to, c.loop-i-test.false) in
    let whole : take c.loop-i.i replies ≡ replies = take_all _ _ (omega (arith, all)) in
    let are = subst (λ (rs : List Reply). AreFrames IsReplyFrame kind_of_reply (kind_of_first_reply replies) rs inv.bytes) whole inv.are in
    let size : 24 * (c.loop-i.i + 1) ≡ c.batch_len.result = omega (arith, all, c.batch_len.ensures) in
    let prefix : take c.batch_len.result c.loop-i.out ≡ spelling (batch_head (length replies)) ++ inv.bytes = subst (λ (k : ℕ). take k c.loop-i.out ≡ spelling (batch_head (length replies)) ++ inv.bytes) size inv.prefix in
    replies_put replies inv.bytes (take c.batch_len.result c.loop-i.out) c.requires.has_frame are prefix
