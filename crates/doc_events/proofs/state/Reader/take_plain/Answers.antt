use Rattle.std.proofs.Common.{false, refl, sym, ap, ◌∙◌}
use Rattle.doc_grammar.specs.Characters.{class}
use Rattle.doc_grammar.specs.Grammar.{strict}
use Rattle.doc_grammar.specs.Machine as m
use Rattle.doc_events.specs.View.{place_of, quote_of, state_in}
use Rattle.doc_events.proofs.Steps.{itself_step}
use Rattle.doc_events.proofs.state.Reader.take_plain.Goals as goal

pub returns-in_ok-push-in-AttributeValue : goal.returns-in_ok-push-in-AttributeValue
returns-in_ok-push-in-AttributeValue c =
    let r = c.args.self.now in
    let q = quote_of c.in-AttributeValue.quote in
    let it = c.if-stands_in_value.ensures in
    ap (λ s. m.step strict (state_in s r) (class c.args.c) c.args.c) c.in-AttributeValue.is
    ∙ itself_step (place_of r.place) r.name.items r.attributes r.attribute.items q r.value.items c.in-AttributeValue.field-1 (class c.args.c) c.args.c (it.valued refl q) (it.itself refl c.in-AttributeValue.field-1) (it.no_return refl)
    ∙ ap (λ v. m.go (m.attribute_value (place_of r.place) r.name.items r.attributes r.attribute.items q v false)) (sym c.in_ok-push-in-AttributeValue.ensures.items)
