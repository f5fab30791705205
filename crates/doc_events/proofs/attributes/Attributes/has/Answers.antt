use Rattle.std.proofs.Common.{◌≡◌, take, drop, sym, ap, refl, ◌∙◌}
use Rattle.std.specs.BTreeSet.{contains_text}
use Rattle.doc_grammar.specs.Grammar.{has}
use Rattle.doc_events.proofs.Names.{is_after}
use Rattle.doc_events.proofs.attributes.Attributes.has.Goals as goal

pub returns : goal.returns
returns c =
    let seen = c.self.inside.seen in
    let all = c.as_slice-all.result.now in
    let name = c.args.name.now in
    let is : c.contains.result ≡ contains_text seen c.as_str.result.now = c.contains.ensures in
    is_after 8 all (take 8 all) c.args.self.now name c.contains.result c.is_among-2.result
    (sym c.as_slice-all.ensures) refl c.is_among-2.ensures c.if-is_among.false
    (is ∙ ap (contains_text seen) (c.as_str.ensures.value ∙ c.in_ok-text.ensures) ∙ c.self.invariant.1 name ∙ ap (λ z. has (drop 8 z) name) (c.self.view_is ∙ sym c.as_slice-all.ensures))
