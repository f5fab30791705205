use Rattle.exact_parts.specs.Field.{Field}
use Rattle.exact_parts.proofs.CallerLemmas.{field_single, led_bad, led_more}
use Rattle.system_checkpoint.specs.First.{StopOf, count_max}
use Rattle.system_checkpoint.specs.Parts.{between}
use Rattle.system_checkpoint.proofs.PartLemmas.{then_takes}
use Rattle.system_checkpoint.proofs.FirstLemmas.{step_leads}
use Rattle.system_checkpoint.proofs.first.take_step.Goals as goal

pub returns-in-Got : goal.returns-in-Got
returns-in-Got c =
    then_takes (Field 8 (between 1 count_max)) (StopOf c.args.resolution c.args.start) (field_single 8 (between 1 count_max)) c.args.bytes.now c.in-Got.value c.in-Got.length c.take_stop.result c.after.result c.in-Got.ensures c.take_stop.ensures c.after.ensures

pub returns-in-NeedMore : goal.returns-in-NeedMore
returns-in-NeedMore c = led_more (Field 8 (between 1 count_max)) (StopOf c.args.resolution c.args.start) (step_leads c.args.resolution c.args.start c.requires) c.args.bytes.now c.in-NeedMore.ensures

pub returns-in-Bad : goal.returns-in-Bad
returns-in-Bad c = led_bad (Field 8 (between 1 count_max)) (StopOf c.args.resolution c.args.start) (field_single 8 (between 1 count_max)) (step_leads c.args.resolution c.args.start c.requires) c.args.bytes.now c.in-Bad.at c.in-Bad.ensures
