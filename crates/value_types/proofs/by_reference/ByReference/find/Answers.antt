use Rattle.std.proofs.Common.{◌==◌, sym, ◌∙◌}
use Rattle.value_types.proofs.IndexLemmas.{find_placed, find_missing}
use Rattle.value_types.proofs.by_reference.ByReference.find.Goals as goal

pub returns-in-Some : goal.returns-in-Some
returns-in-Some g c =
    c.get.ensures ∙ sym (find_placed (λ x. g.T.Referenced.reference x == c.args.reference) c.args.self.now c.in-Some.place (sym c.in-Some.ensures.place))

pub returns-in-None : goal.returns-in-None
returns-in-None g c = sym (find_missing (λ x. g.T.Referenced.reference x == c.args.reference) c.args.self.now (sym c.in-None.ensures.place))
