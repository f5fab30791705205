use Rattle.std.proofs.Common.{◌∙◌, ap}
use Rattle.link_frames.specs.declared.call.CallFrame.{CallFrame}
use Rattle.exact_parts.specs.declared.taken.Taken.TheVariants.{Got}
use Rattle.host_serving.proofs.LinkFrames.{got_item, not_got, same_got}
use Rattle.host_serving.proofs.reading.item.Goals as goal

pub unreachable-requires : goal.unreachable-requires
unreachable-requires c =
    let f = c.requires.1.0 in
    not_got c.take_call.result f 24 (c.take_call.ensures.only (Got f 24) (got_item c.args.room.now c.args.i f c.requires.0 c.requires.1.1)) c.in-NeedMore.is

pub returns : goal.returns
returns c = λ f is.
    c.call_of.ensures ∙ ap (λ (x : CallFrame). x.call) (same_got c.in-Got.value f c.in-Got.length 24 (c.in-Got.ensures.only (Got f 24) (got_item c.args.room.now c.args.i f c.requires.0 is)))
