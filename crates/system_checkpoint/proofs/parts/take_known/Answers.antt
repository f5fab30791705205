use Rattle.std.proofs.Common.{ℕ, length}
use Rattle.exact_parts.specs.Field.{Field}
use Rattle.exact_parts.proofs.CallerLemmas.{field_single, led_bad, led_more}
use Rattle.exact_parts.specs.Each.{IsText}
use Rattle.system_checkpoint.specs.Parts.{between}
use Rattle.system_checkpoint.proofs.PartLemmas.{size_leads, then_takes}
use Rattle.system_checkpoint.proofs.parts.take_known.Goals as goal

pub returns-in-Got : goal.returns-in-Got
returns-in-Got c =
    then_takes (Field 4 (between (length c.args.text.now) (length c.args.text.now))) (λ (k : ℕ). IsText c.args.text.now) (field_single 4 (between (length c.args.text.now) (length c.args.text.now))) c.args.bytes.now _ c.in-Got.length c.take_text.result c.after.result c.in-Got.ensures c.take_text.ensures c.after.ensures

pub returns-in-NeedMore : goal.returns-in-NeedMore
returns-in-NeedMore c = led_more (Field 4 (between (length c.args.text.now) (length c.args.text.now))) (λ (k : ℕ). IsText c.args.text.now) (size_leads c.args.text.now) c.args.bytes.now c.in-NeedMore.ensures

pub returns-in-Bad : goal.returns-in-Bad
returns-in-Bad c = led_bad (Field 4 (between (length c.args.text.now) (length c.args.text.now))) (λ (k : ℕ). IsText c.args.text.now) (field_single 4 (between (length c.args.text.now) (length c.args.text.now))) (size_leads c.args.text.now) c.args.bytes.now c.in-Bad.at c.in-Bad.ensures
