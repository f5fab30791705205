use Rattle.std.proofs.Common.{◌==◌, map, ◌∙◌, subst, sym}
use Rattle.value_types.specs.Index.{IsIndex}
use Rattle.value_types.proofs.IndexLemmas.{position-map}
use Rattle.value_types.proofs.listed.Listed.place_of.Goals as goal

pub returns-clause-place : goal.returns-clause-place
returns-clause-place g c =
    let items = c.self.inside.items.items in
    let references = map g.T.Referenced.reference items in
    let is : IsIndex references c.as_slice.result.now = subst (IsIndex references) (sym c.as_slice.ensures.value) c.self.invariant in
    rw (← c.self.view_is) (c.place_in.ensures references is ∙ position-map g.T.Referenced.reference (λ r. r == c.args.reference) items)
