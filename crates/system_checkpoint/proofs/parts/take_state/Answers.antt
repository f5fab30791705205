use Rattle.std.proofs.Common.{◌^◌}
use Rattle.exact_parts.specs.Field.{Field}
use Rattle.exact_parts.proofs.CallerLemmas.{field_single, led_bad, led_more}
use Rattle.exact_parts.specs.Each.{Block}
use Rattle.system_checkpoint.specs.Parts.{between}
use Rattle.system_checkpoint.proofs.PartLemmas.{state_leads, taken_after, then_takes}
use Rattle.system_checkpoint.proofs.parts.take_state.Goals as goal

pub returns-in_ok-rest-in-Got : goal.returns-in_ok-rest-in-Got
returns-in_ok-rest-in-Got c =
    then_takes (Field 4 (between 0 (2 ^ 20))) (Block) (field_single 4 (between 0 (2 ^ 20))) c.args.bytes.now c.in-Got.value c.in-Got.length c.in_ok-rest-in-Got.rest c.after-whole.result (rw c.as_slice.ensures at c.in-Got.ensures)
    (taken_after (Block c.in-Got.value) c.args.bytes.now c.in_ok-after-in-Got.after c.in-Got.length c.in_ok-rest-in-Got.rest c.in_ok-after-in-Got.ensures.rest c.in_ok-rest-in-Got.ensures) c.after-whole.ensures

pub returns-in-NeedMore : goal.returns-in-NeedMore
returns-in-NeedMore c = led_more (Field 4 (between 0 (2 ^ 20))) (Block) (state_leads) c.args.bytes.now (rw c.as_slice.ensures at c.in-NeedMore.ensures)

pub returns-in-Bad : goal.returns-in-Bad
returns-in-Bad c = led_bad (Field 4 (between 0 (2 ^ 20))) (Block) (field_single 4 (between 0 (2 ^ 20))) (state_leads) c.args.bytes.now c.in-Bad.at (rw c.as_slice.ensures at c.in-Bad.ensures)
