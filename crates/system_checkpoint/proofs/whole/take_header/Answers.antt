use Rattle.exact_parts.proofs.CallerLemmas.{led_bad, led_more}
use Rattle.system_checkpoint.specs.Parts.{Known}
use Rattle.system_checkpoint.proofs.PartLemmas.{known_single, taken_after, then_takes}
use Rattle.system_checkpoint.proofs.WholeLemmas.{after_header, header_leads}
use Rattle.system_checkpoint.proofs.whole.take_header.Goals as goal

pub returns-in_ok-rest-in-Got : goal.returns-in_ok-rest-in-Got
returns-in_ok-rest-in-Got c =
    then_takes (Known c.args.header.now) (after_header c.args.system.now c.args.held) (known_single c.args.header.now) c.args.bytes.now tt c.in-Got.length c.in_ok-rest-in-Got.rest c.after-whole.result (rw c.as_slice.ensures at c.in-Got.ensures)
    (taken_after (after_header c.args.system.now c.args.held tt) c.args.bytes.now c.in_ok-after-in-Got.after c.in-Got.length c.in_ok-rest-in-Got.rest c.in_ok-after-in-Got.ensures.rest c.in_ok-rest-in-Got.ensures) c.after-whole.ensures

pub returns-in-NeedMore : goal.returns-in-NeedMore
returns-in-NeedMore c = led_more (Known c.args.header.now) (after_header c.args.system.now c.args.held) (header_leads c.args.system.now c.args.header.now c.args.held (record { before = c.requires.before; near = c.requires.near })) c.args.bytes.now (rw c.as_slice.ensures at c.in-NeedMore.ensures)

pub returns-in-Bad : goal.returns-in-Bad
returns-in-Bad c = led_bad (Known c.args.header.now) (after_header c.args.system.now c.args.held) (known_single c.args.header.now) (header_leads c.args.system.now c.args.header.now c.args.held (record { before = c.requires.before; near = c.requires.near })) c.args.bytes.now c.in-Bad.at (rw c.as_slice.ensures at c.in-Bad.ensures)
