use Rattle.std.proofs.Common.{sym, subst}
use Rattle.exact_parts.specs.Field.{Field, IsSane}
use Rattle.exact_parts.specs.Taking.{Takes}
use Rattle.exact_parts.proofs.CallerLemmas.{kept_takes}
use Rattle.system_checkpoint.specs.Parts.{Word, option_of, spans_after}
use Rattle.system_checkpoint.proofs.PartLemmas.{after_sane}
use Rattle.system_checkpoint.proofs.parts.take_word.Goals as goal

pub take_number-requires-clause-sane : goal.take_number-requires-clause-sane
take_number-requires-clause-sane c = subst (λ spans. IsSane 8 spans) (sym c.spans_after.ensures) (after_sane c.args.spans c.args.flag c.requires)

pub returns : goal.returns
returns c =
    let taken = kept_takes (Field 8 (spans_after c.args.spans c.args.flag)) (option_of c.args.flag) c.args.bytes.now c.take_number.result
    (subst (λ spans. Takes (Field 8 spans) c.args.bytes.now c.take_number.result) c.spans_after.ensures c.take_number.ensures) in
    subst (λ t. Takes (Word c.args.spans c.args.flag) c.args.bytes.now t) (sym c.remake.ensures) taken
