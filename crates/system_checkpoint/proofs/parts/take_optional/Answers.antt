use Rattle.exact_parts.specs.Field.{Field}
use Rattle.exact_parts.proofs.CallerLemmas.{field_single, led_bad, led_more}
use Rattle.system_checkpoint.specs.Parts.{Word, between}
use Rattle.system_checkpoint.proofs.PartLemmas.{flag_leads, then_takes}
use Rattle.system_checkpoint.proofs.parts.take_optional.Goals as goal

pub returns-in-Got : goal.returns-in-Got
returns-in-Got c =
    then_takes (Field 1 (between 0 c.args.most)) (Word c.args.spans) (field_single 1 (between 0 c.args.most)) c.args.bytes.now c.in-Got.value c.in-Got.length c.take_word.result c.after.result c.in-Got.ensures c.take_word.ensures c.after.ensures

pub returns-in-NeedMore : goal.returns-in-NeedMore
returns-in-NeedMore c = led_more (Field 1 (between 0 c.args.most)) (Word c.args.spans) (flag_leads c.args.most c.args.spans c.requires) c.args.bytes.now c.in-NeedMore.ensures

pub returns-in-Bad : goal.returns-in-Bad
returns-in-Bad c = led_bad (Field 1 (between 0 c.args.most)) (Word c.args.spans) (field_single 1 (between 0 c.args.most)) (flag_leads c.args.most c.args.spans c.requires) c.args.bytes.now c.in-Bad.at c.in-Bad.ensures
