use Rattle.std.proofs.Common.{subst}
use Rattle.exact_parts.specs.Each.{Each}
use Rattle.exact_parts.specs.Taking.{Takes}
use Rattle.system_checkpoint.specs.Whole.{WordOf}
use Rattle.system_checkpoint.proofs.ListLemmas.{all_bad, all_more, all_then, word_of_single}
use Rattle.system_checkpoint.proofs.WholeLemmas.{after_words, words_leads}
use Rattle.system_checkpoint.proofs.whole.take_from_words.Goals as goal

pub returns-in_ok-rest-in-Got : goal.returns-in_ok-rest-in-Got
returns-in_ok-rest-in-Got c =
    all_then WordOf word_of_single c.args.system.now.ports _ c.as_slice.ensures (after_words c.args.system.now c.args.held) c.args.bytes.now c.in-Got.value c.in-Got.length c.in_ok-rest-in-Got.rest c.after-whole.result (subst (λ t. Takes (Each WordOf c.as_slice.result.now) c.args.bytes.now t) c.in-Got.is c.in_ok-taken.ensures) c.in_ok-rest-in-Got.ensures c.after-whole.ensures

pub returns-in-NeedMore : goal.returns-in-NeedMore
returns-in-NeedMore c = all_more WordOf word_of_single c.args.system.now.ports _ c.as_slice.ensures (after_words c.args.system.now c.args.held) c.args.bytes.now (words_leads c.args.system.now c.args.held (record { before = c.requires.before; near = c.requires.near })) (subst (λ t. Takes (Each WordOf c.as_slice.result.now) c.args.bytes.now t) c.in-NeedMore.is c.in_ok-taken.ensures)

pub returns-in-Bad : goal.returns-in-Bad
returns-in-Bad c = all_bad WordOf word_of_single c.args.system.now.ports _ c.as_slice.ensures (after_words c.args.system.now c.args.held) c.args.bytes.now (words_leads c.args.system.now c.args.held (record { before = c.requires.before; near = c.requires.near })) c.in-Bad.at (subst (λ t. Takes (Each WordOf c.as_slice.result.now) c.args.bytes.now t) c.in-Bad.is c.in_ok-taken.ensures)
