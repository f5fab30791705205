use Rattle.exact_parts.specs.Field.{Field}
use Rattle.exact_parts.proofs.CallerLemmas.{field_single, led_bad, led_more}
use Rattle.system_checkpoint.specs.First.{StartOf, count_max}
use Rattle.system_checkpoint.specs.Parts.{between}
use Rattle.system_checkpoint.proofs.PartLemmas.{then_takes}
use Rattle.system_checkpoint.proofs.FirstLemmas.{resolution_leads}
use Rattle.system_checkpoint.proofs.first.take_resolution.Goals as goal

pub returns-in-Got : goal.returns-in-Got
returns-in-Got c =
    then_takes (Field 8 (between 1 count_max)) (StartOf) (field_single 8 (between 1 count_max)) c.args.bytes.now c.in-Got.value c.in-Got.length c.take_start.result c.after.result c.in-Got.ensures c.take_start.ensures c.after.ensures

pub returns-in-NeedMore : goal.returns-in-NeedMore
returns-in-NeedMore c = led_more (Field 8 (between 1 count_max)) (StartOf) (resolution_leads) c.args.bytes.now c.in-NeedMore.ensures

pub returns-in-Bad : goal.returns-in-Bad
returns-in-Bad c = led_bad (Field 8 (between 1 count_max)) (StartOf) (field_single 8 (between 1 count_max)) (resolution_leads) c.args.bytes.now c.in-Bad.at c.in-Bad.ensures
