use Rattle.std.proofs.Common.{◌+◌}
use Rattle.exact_parts.specs.Field.{Field}
use Rattle.exact_parts.proofs.CallerLemmas.{field_single, led_bad, led_more}
use Rattle.system_checkpoint.specs.First.{LimitOf, count_max}
use Rattle.system_checkpoint.specs.Parts.{between}
use Rattle.system_checkpoint.proofs.PartLemmas.{then_takes}
use Rattle.system_checkpoint.proofs.FirstLemmas.{stop_leads}
use Rattle.system_checkpoint.proofs.first.take_stop.Goals as goal

pub returns-in-Got : goal.returns-in-Got
returns-in-Got c =
    then_takes (Field 8 (between (c.args.start + 1) count_max)) (LimitOf c.args.resolution c.args.start c.args.step) (field_single 8 (between (c.args.start + 1) count_max)) c.args.bytes.now c.in-Got.value c.in-Got.length c.take_limit.result c.after.result c.in-Got.ensures c.take_limit.ensures c.after.ensures

pub returns-in-NeedMore : goal.returns-in-NeedMore
returns-in-NeedMore c = led_more (Field 8 (between (c.args.start + 1) count_max)) (LimitOf c.args.resolution c.args.start c.args.step) (stop_leads c.args.resolution c.args.start c.args.step) c.args.bytes.now c.in-NeedMore.ensures

pub returns-in-Bad : goal.returns-in-Bad
returns-in-Bad c = led_bad (Field 8 (between (c.args.start + 1) count_max)) (LimitOf c.args.resolution c.args.start c.args.step) (field_single 8 (between (c.args.start + 1) count_max)) (stop_leads c.args.resolution c.args.start c.args.step) c.args.bytes.now c.in-Bad.at c.in-Bad.ensures
