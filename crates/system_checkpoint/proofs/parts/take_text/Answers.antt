use Rattle.system_checkpoint.proofs.PartLemmas.{text_bad, text_prefix}
use Rattle.system_checkpoint.proofs.parts.take_text.Goals as goal

pub returns-then-place-bytes : goal.returns-then-place-bytes
returns-then-place-bytes c = text_prefix c.args.text.now c.args.bytes.now c.loop-place.place c.loop-place-test.true c.if-place-bytes.true c.loop-place.invariant.1

pub returns-then-bytes-place : goal.returns-then-bytes-place
returns-then-bytes-place c = text_bad c.args.text.now c.args.bytes.now c.loop-place.place c.loop-place-test.true c.loop-place.invariant.0 c.if-place-bytes.false c.loop-place.invariant.1 c.if-bytes-place.true
