use Rattle.std.proofs.Common.{◌≡◌, ◌-◌, ℕ, List, length, take, drop, sym, subst, arith}
use Rattle.std.proofs.lemmas.List.{length-drop, take_all}
use Rattle.link_frames.specs.declared.call.CallFrame.{CallFrame}
use Rattle.exact_parts.specs.declared.taken.Taken.{Taken}
use Rattle.link_frames.specs.Call.{TextsOf, TokenOf, name_len}
use Rattle.exact_parts.specs.Taking.{Breaks, Gets, IsPrefix, Takes}
use Rattle.link_frames.specs.Text.{IsText}
use Rattle.exact_parts.proofs.CallerLemmas.{first_bad, first_more, next_takes}
use Rattle.link_frames.proofs.CallLemmas.{token_followed}
use Rattle.link_frames.proofs.TextLemmas.{text_single}
use Rattle.link_frames.proofs.call.take_texts.Goals as goal

pub returns-in-Got : goal.returns-in-Got
returns-in-Got c =
    let a = c.args in
    let ns = a.numbers.now in
    let tail : take (length a.bytes.now - c.in-Got.length) (drop c.in-Got.length a.bytes.now) ≡ drop c.in-Got.length a.bytes.now = take_all _ _ (omega (arith, length-drop c.in-Got.length a.bytes.now)) in
    let got : Gets (IsText (name_len ns)) a.bytes.now tt c.in-Got.length = subst (λ (n : ℕ). Gets (IsText n) a.bytes.now tt c.in-Got.length) c.name_len.ensures c.in-Got.ensures in
    let rest : Takes (TokenOf ns) (drop c.in-Got.length a.bytes.now) c.take_token.result = subst (λ (t : List ℕ). Takes (TokenOf ns) t c.take_token.result) tail c.take_token.ensures in
    subst (λ (t : Taken CallFrame). Takes (TextsOf ns) a.bytes.now t) (sym c.after.ensures)
    (next_takes (IsText (name_len ns)) (λ (name : Unit {0}). TokenOf ns) (text_single (name_len ns)) a.bytes.now tt c.in-Got.length c.take_token.result got rest)

pub returns-in-NeedMore : goal.returns-in-NeedMore
returns-in-NeedMore c =
    let ns = c.args.numbers.now in
    first_more (IsText (name_len ns)) (λ (name : Unit {0}). TokenOf ns) (token_followed ns) c.args.bytes.now
    (subst (λ (n : ℕ). IsPrefix (IsText n) c.args.bytes.now) c.name_len.ensures c.in-NeedMore.ensures)

pub returns-in-Bad : goal.returns-in-Bad
returns-in-Bad c =
    let ns = c.args.numbers.now in
    first_bad (IsText (name_len ns)) (λ (name : Unit {0}). TokenOf ns) (text_single (name_len ns)) (token_followed ns) c.args.bytes.now c.in-Bad.at
    (subst (λ (n : ℕ). Breaks (IsText n) c.args.bytes.now c.in-Bad.at) c.name_len.ensures c.in-Bad.ensures)
