use Rattle.std.proofs.Common.{◌^◌}
use Rattle.exact_parts.specs.Field.{Field}
use Rattle.exact_parts.proofs.CallerLemmas.{field_single, led_bad, led_more}
use Rattle.system_checkpoint.specs.Parts.{Low, between}
use Rattle.system_checkpoint.proofs.PartLemmas.{high_leads, then_takes}
use Rattle.system_checkpoint.proofs.parts.take_wide.Goals as goal

pub returns-in-Got : goal.returns-in-Got
returns-in-Got c =
    then_takes (Field 8 (between 0 (2 ^ 62))) (Low c.args.least) (field_single 8 (between 0 (2 ^ 62))) c.args.bytes.now c.in-Got.value c.in-Got.length c.take_low.result c.after.result c.in-Got.ensures c.take_low.ensures c.after.ensures

pub returns-in-NeedMore : goal.returns-in-NeedMore
returns-in-NeedMore c = led_more (Field 8 (between 0 (2 ^ 62))) (Low c.args.least) (high_leads c.args.least c.requires) c.args.bytes.now c.in-NeedMore.ensures

pub returns-in-Bad : goal.returns-in-Bad
returns-in-Bad c = led_bad (Field 8 (between 0 (2 ^ 62))) (Low c.args.least) (field_single 8 (between 0 (2 ^ 62))) (high_leads c.args.least c.requires) c.args.bytes.now c.in-Bad.at c.in-Bad.ensures
