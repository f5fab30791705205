use Rattle.exact_parts.specs.Field.{Field}
use Rattle.exact_parts.proofs.CallerLemmas.{field_single, led_bad, led_more}
use Rattle.system_checkpoint.specs.First.{PointOf, limit_max}
use Rattle.system_checkpoint.specs.Parts.{between}
use Rattle.system_checkpoint.proofs.PartLemmas.{then_takes}
use Rattle.system_checkpoint.proofs.FirstLemmas.{limit_leads}
use Rattle.system_checkpoint.proofs.first.take_limit.Goals as goal

pub returns-in-Got : goal.returns-in-Got
returns-in-Got c =
    then_takes (Field 8 (between 1 limit_max)) (PointOf c.args.plan.resolution c.args.plan.start c.args.plan.step c.args.plan.stop) (field_single 8 (between 1 limit_max)) c.args.bytes.now c.in-Got.value c.in-Got.length c.take_point.result c.after.result c.in-Got.ensures c.take_point.ensures c.after.ensures

pub returns-in-NeedMore : goal.returns-in-NeedMore
returns-in-NeedMore c = led_more (Field 8 (between 1 limit_max)) (PointOf c.args.plan.resolution c.args.plan.start c.args.plan.step c.args.plan.stop) (limit_leads c.args.plan.resolution c.args.plan.start c.args.plan.step c.args.plan.stop (record { before = c.requires.ordered; near = c.requires.near })) c.args.bytes.now c.in-NeedMore.ensures

pub returns-in-Bad : goal.returns-in-Bad
returns-in-Bad c = led_bad (Field 8 (between 1 limit_max)) (PointOf c.args.plan.resolution c.args.plan.start c.args.plan.step c.args.plan.stop) (field_single 8 (between 1 limit_max)) (limit_leads c.args.plan.resolution c.args.plan.start c.args.plan.step c.args.plan.stop (record { before = c.requires.ordered; near = c.requires.near })) c.args.bytes.now c.in-Bad.at c.in-Bad.ensures
