use Rattle.std.proofs.Common.{sym, subst}
use Rattle.exact_parts.specs.declared.field.Spans.{Spans}
use Rattle.exact_parts.specs.Field.{IsSane}
use Rattle.exact_parts.specs.Taking.{Takes}
use Rattle.system_checkpoint.specs.Parts.{Optional}
use Rattle.system_checkpoint.proofs.PartLemmas.{words_sane}
use Rattle.system_checkpoint.proofs.lists.take_word_of.Goals as goal

pub take_optional-requires : goal.take_optional-requires
take_optional-requires c = subst (λ (spans : Spans). IsSane 8 spans) (sym c.words.ensures) (words_sane c.args.kind)

pub returns : goal.returns
returns c = subst (λ (spans : Spans). Takes (Optional 1 spans) c.args.bytes.now c.take_optional.result) c.words.ensures c.take_optional.ensures
