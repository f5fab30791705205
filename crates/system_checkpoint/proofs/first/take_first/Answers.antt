use Rattle.exact_parts.specs.Each.{IsText}
use Rattle.exact_parts.proofs.CallerLemmas.{led_bad, led_more}
use Rattle.system_checkpoint.specs.First.{NumbersOf, magic}
use Rattle.system_checkpoint.proofs.PartLemmas.{text_single, then_takes}
use Rattle.system_checkpoint.proofs.FirstLemmas.{magic_leads}
use Rattle.system_checkpoint.proofs.first.take_first.Goals as goal

pub returns-in-Got : goal.returns-in-Got
returns-in-Got c =
    then_takes (IsText magic) (λ (nothing : Unit {0}). NumbersOf) (text_single magic) c.args.bytes.now tt c.in-Got.length c.take_resolution.result c.after.result c.in-Got.ensures c.take_resolution.ensures c.after.ensures

pub returns-in-NeedMore : goal.returns-in-NeedMore
returns-in-NeedMore c = led_more (IsText magic) (λ (nothing : Unit {0}). NumbersOf) (magic_leads) c.args.bytes.now c.in-NeedMore.ensures

pub returns-in-Bad : goal.returns-in-Bad
returns-in-Bad c = led_bad (IsText magic) (λ (nothing : Unit {0}). NumbersOf) (text_single magic) (magic_leads) c.args.bytes.now c.in-Bad.at c.in-Bad.ensures
