use Rattle.std.proofs.Common.{◌≡◌, ◌&&◌, ◌==◌, not, true, length, sym, ap, ◌∙◌, rules, tests}
use Rattle.std.specs.Char.{is_ascii_digit}
use Rattle.std.specs.List.{list_all}
use Rattle.std.proofs.lemmas.Iterator.{YieldsList-from_slice}
use Rattle.std.proofs.lemmas.Iterator.Search.{all_from_yields_List}
use Rattle.fmu_description.proofs.texts.is_number.Goals as goal

pub returns-then-not-is_empty : goal.returns-then-not-is_empty
returns-then-not-is_empty c =
    let text = c.args.text.now in
    let every : c.all.result ≡ list_all is_ascii_digit text = all_from_yields_List is_ascii_digit _ _ _ c.all.ensures.ran (YieldsList-from_slice text cc) (λ x b q k. search (rules, tests)) in
    let filled : not (length text == 0) ≡ true = cc in
    every ∙ sym (ap (λ b. b && list_all is_ascii_digit text) filled)
