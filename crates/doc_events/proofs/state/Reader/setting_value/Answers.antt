use Rattle.std.proofs.Common.{◌≡◌, ◌+◌, ◌≤◌, ◌∷◌, drop, length, length-drop, ap, subst, arith}
use Rattle.doc_grammar.specs.Characters.{class}
use Rattle.doc_events.specs.declared.state.Saying.{Saying}
use Rattle.doc_events.specs.declared.state.Saying.TheVariants.{OnePointZero, Utf8, Yes, No}
use Rattle.doc_events.specs.View.{quote_of, saying_part, saying_text, setting_value_from}
use Rattle.doc_events.proofs.Steps.{setting_value_goes}
use Rattle.doc_events.proofs.state.Reader.setting_value.Goals as goal

short : (w : Saying) → length (saying_text w) ≤ 5
short OnePointZero = omega arith
short Utf8 = omega arith
short Yes = omega arith
short No = omega arith

pub returns-in-Some : goal.returns-in-Some
returns-in-Some c =
    let text = saying_text c.args.saying in
    let e : drop c.args.done text ≡ c.in-Some.expected ∷ drop (c.args.done + 1) text = subst (λ z. drop c.args.done z ≡ c.in-Some.expected ∷ drop (c.args.done + 1) z) c.text.ensures c.in-Some.ensures in
    let size = ap length e in
    let few = short c.args.saying in
    let next : c.saturating_add.result ≡ c.args.done + 1 = omega (arith, size, few, length-drop c.args.done text, c.saturating_add.ensures) in
    setting_value_goes (saying_part c.args.saying) (quote_of c.args.quote) (drop c.args.done text) (drop (c.args.done + 1) text) c.in-Some.expected (class c.args.b) c.args.b c.fold_for.result c.fold_for-in-Some.result _ c.exactly-in-Some.result c.args.self.now e c.fold_for.ensures c.fold_for-in-Some.ensures
    (ap (λ n. setting_value_from (saying_part c.args.saying) (quote_of c.args.quote) (drop n text)) next) c.exactly-in-Some.ensures
