use Rattle.std.proofs.Common.{◌∙◌, sym}
use Rattle.fmu_description.proofs.TextLemmas.{number_from_parse}
use Rattle.fmu_description.proofs.texts.reference.Goals as goal

pub returns-then-is_number : goal.returns-then-is_number
returns-then-is_number c = c.ok.ensures.value ∙ number_from_parse 32 c.args.text.now c.parse.result (sym c.is_number.ensures ∙ c.if-is_number.true) c.parse.ensures.value.0
