use Rattle.std.proofs.Common.{◌-◌}
use Rattle.exact_parts.specs.Field.{Field}
use Rattle.exact_parts.proofs.CallerLemmas.{field_single, led_bad, led_more}
use Rattle.system_checkpoint.specs.First.{StepOf, count_max}
use Rattle.system_checkpoint.specs.Parts.{between}
use Rattle.system_checkpoint.proofs.PartLemmas.{then_takes}
use Rattle.system_checkpoint.proofs.FirstLemmas.{start_below, start_leads}
use Rattle.system_checkpoint.proofs.first.take_start.Goals as goal

pub take_step-requires : goal.take_step-requires
take_step-requires c = start_below c.in-Got.value _ c.in-Got.ensures.spelled

pub returns-in-Got : goal.returns-in-Got
returns-in-Got c =
    then_takes (Field 8 (between 0 (count_max - 1))) (StepOf c.args.resolution) (field_single 8 (between 0 (count_max - 1))) c.args.bytes.now c.in-Got.value c.in-Got.length c.take_step.result c.after.result c.in-Got.ensures c.take_step.ensures c.after.ensures

pub returns-in-NeedMore : goal.returns-in-NeedMore
returns-in-NeedMore c = led_more (Field 8 (between 0 (count_max - 1))) (StepOf c.args.resolution) (start_leads c.args.resolution) c.args.bytes.now c.in-NeedMore.ensures

pub returns-in-Bad : goal.returns-in-Bad
returns-in-Bad c = led_bad (Field 8 (between 0 (count_max - 1))) (StepOf c.args.resolution) (field_single 8 (between 0 (count_max - 1))) (start_leads c.args.resolution) c.args.bytes.now c.in-Bad.at c.in-Bad.ensures
