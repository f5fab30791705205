use Rattle.std.proofs.Common.{◌≡◌, List, ℕ, false, length, take, drop, sym, ap, subst, ◌∙◌, inr, Err, arith}
use Rattle.std.proofs.lemmas.List.{take_at}
use Rattle.fmi_calls.specs.Kinds.{kind_of}
use Rattle.fmi_calls.specs.declared.call.Call.TheVariants as C
use Rattle.link_frames.specs.Batch.{IsBatch, frames_of}
use Rattle.link_frames.specs.Call.{IsCallFrame}
use Rattle.link_frames.specs.declared.call.CallFrame.{CallFrame}
use Rattle.fmu_link.proofs.BatchCalls.{can_be_batched}
use Rattle.fmu_link.proofs.BatchTalks.{broken_many}
use Rattle.fmu_link.proofs.batches.call_batch.Goals as goal

pub put_batch-length-requires-clause-has_frame : goal.put_batch-length-requires-clause-has_frame
put_batch-length-requires-clause-has_frame g c = can_be_batched c.args.instance.now.shape c.args.instance.now.phase c.args.calls.now c.requires.sort c.requires.may

pub returns-in-Err-clause-asked : goal.returns-in-Err-clause-asked
returns-in-Err-clause-asked g c =
    let view = g.W.Wire.view in
    let batch : List ℕ = take c.put_batch-length.result c.as_slice.result.now in
    let kept = c.broken_off.ensures.kept in
    rw c.broken_off.ensures.fault
    (broken_many (view c.args.wire.now) (view c.exchange.new.wire) c.args.instance.now c.broken_off.new.instance batch c.in-Err.fault c.args.calls.now (C.Instantiate false false false) c.args.replies.now (omega (arith, c.requires.sort.some)) c.requires.places c.requires.may
    c.in-Err.ensures.came (record { host = kept.host; name = kept.name; directory = kept.directory; shape = kept.shape }) c.broken_off.ensures.counted c.broken_off.ensures.phase)

pub returns-in-Err-clause-together : goal.returns-in-Err-clause-together
returns-in-Err-clause-together g c =
    let same : c.put_batch-length.new.out ≡ c.as_slice.result.now = sym (c.as_slice.ensures.value ∙ take_at c.put_batch-length.new.out (drop (length c.put_batch-length.new.out) c.args.instance.now.frame.items) c.args.instance.now.frame.len (omega arith)) in
    record {
      batch = take c.put_batch-length.result c.as_slice.result.now;
      is_batch = subst (λ (out : List ℕ). IsBatch IsCallFrame (λ (f : CallFrame). kind_of f.call) (frames_of c.args.calls.now) (take c.put_batch-length.result out)) same c.put_batch-length.ensures.batch;
      noted = inr (record {
        fault = c.in-Err.fault;
        is = ap Err c.broken_off.ensures.fault;
        broke = c.in-Err.ensures.came;
        counted = c.broken_off.ensures.counted;
      });
    }
