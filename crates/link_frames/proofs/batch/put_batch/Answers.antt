use Rattle.std.proofs.Common.{rules, ◌≡◌, ◌+◌, ◌*◌, ◌++◌, ℕ, List, length, take, drop, ap, subst, ◌∙◌, append_assoc, arith, false}
use Rattle.std.proofs.lemmas.List.{take_all}
use Rattle.fmi_calls.specs.Kinds.{kind_of}
use Rattle.fmi_calls.specs.declared.call.Call.{Call}
use Rattle.fmi_calls.specs.declared.call.Call.TheVariants as C
use Rattle.link_frames.specs.declared.call.CallFrame.{CallFrame}
use Rattle.link_frames.specs.Batch.{AreFrames, batch_head, frames_of, kind_of_first}
use Rattle.link_frames.specs.Call.{IsCallFrame}
use Rattle.link_frames.specs.Head.{spelling}
use Rattle.exact_parts.proofs.CallerLemmas.{drop_later}
use Rattle.link_frames.proofs.PutLemmas.{batch_put, one_more}
use Rattle.link_frames.proofs.batch.put_batch.Goals as goal

pub loop-i-preserved : goal.loop-i-preserved
loop-i-preserved c =
    let i = c.loop-i.i in
    let inv = c.loop-i.invariant in
    let calls = c.args.calls.now in
    let frame = c.frame_of.result in
    let new = c.put_at-in-loop-i.new.out in
    let place : 24 * (i + 1) + length frame ≡ 24 * (i + 1 + 1) = omega arith in
    record {
      up_to = search rules;
      len = search rules;
      bytes = inv.bytes ++ frame;
      are = one_more calls i (C.Instantiate false false false) inv.bytes frame c.requires.has_frame c.loop-i-test.true inv.are c.frame_of.ensures;
      prefix = subst (λ (k : ℕ). take k new ≡ spelling (batch_head (length calls)) ++ (inv.bytes ++ frame)) place
          (c.put_at-in-loop-i.ensures.prefix ∙ ap (λ (b : List ℕ). b ++ frame) inv.prefix ∙ append_assoc (spelling (batch_head (length calls))) inv.bytes frame);
      rest = subst (λ (k : ℕ). drop k new ≡ drop k c.loop-i.out) place c.put_at-in-loop-i.ensures.rest
          ∙ drop_later c.loop-i.out c.args.out.now (24 * (i + 1)) (24 * (i + 1 + 1)) (omega arith) inv.rest;
    }

pub returns-clause-batch : goal.returns-clause-batch
returns-clause-batch c =
    let inv = c.loop-i.invariant in
    let calls = c.args.calls.now in
    let all : c.loop-i.i ≡ length calls = omega (arith, inv.up_to, c.loop-i-test.false) in
    let whole : take c.loop-i.i calls ≡ calls = take_all _ _ (omega (arith, all)) in
    let are = subst (λ (cs : List Call). AreFrames IsCallFrame (λ (f : CallFrame). kind_of f.call) (kind_of_first calls) (frames_of cs) inv.bytes) whole inv.are in
    let size : 24 * (c.loop-i.i + 1) ≡ c.batch_len.result = omega (arith, all, c.batch_len.ensures) in
    let prefix : take c.batch_len.result c.loop-i.out ≡ spelling (batch_head (length calls)) ++ inv.bytes = subst (λ (k : ℕ). take k c.loop-i.out ≡ spelling (batch_head (length calls)) ++ inv.bytes) size inv.prefix in
    batch_put calls inv.bytes (take c.batch_len.result c.loop-i.out) c.requires.has_frame are prefix
