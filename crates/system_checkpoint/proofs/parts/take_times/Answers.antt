use Rattle.exact_parts.proofs.CallerLemmas.{led_bad, led_more}
use Rattle.system_checkpoint.specs.Parts.{Shift, Wide}
use Rattle.system_checkpoint.proofs.PartLemmas.{interval_leads, then_takes, wide_single}
use Rattle.system_checkpoint.proofs.parts.take_times.Goals as goal

pub returns-in-Got : goal.returns-in-Got
returns-in-Got c =
    then_takes (Wide 1) (Shift) (wide_single 1) c.args.bytes.now c.in-Got.value c.in-Got.length c.take_shift.result c.after.result c.in-Got.ensures c.take_shift.ensures c.after.ensures

pub returns-in-NeedMore : goal.returns-in-NeedMore
returns-in-NeedMore c = led_more (Wide 1) (Shift) (interval_leads) c.args.bytes.now c.in-NeedMore.ensures

pub returns-in-Bad : goal.returns-in-Bad
returns-in-Bad c = led_bad (Wide 1) (Shift) (wide_single 1) (interval_leads) c.args.bytes.now c.in-Bad.at c.in-Bad.ensures
