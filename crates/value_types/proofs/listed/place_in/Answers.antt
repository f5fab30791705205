use Rattle.std.proofs.Common.{sym, ◌∙◌}
use Rattle.value_types.proofs.IndexLemmas.{first_is, none_other, none_past}
use Rattle.value_types.proofs.listed.place_in.Goals as goal

pub returns-then-found-reference : goal.returns-then-found-reference
returns-then-found-reference c = λ references is.
    let parts = c.first_entry.ensures is.sorted in
    first_is references c.args.index.now is c.first_entry.result c.args.reference parts.0 parts.1 (c.in-Some.found, c.in-Some.place) (sym c.entry_at.ensures ∙ c.in-Some.is) c.if-found-reference.true

pub returns-else-found-reference : goal.returns-else-found-reference
returns-else-found-reference c = λ references is.
    let parts = c.first_entry.ensures is.sorted in
    none_other references c.args.index.now is c.first_entry.result c.args.reference parts.0 parts.1 (c.in-Some.found, c.in-Some.place) (sym c.entry_at.ensures ∙ c.in-Some.is) c.if-found-reference.false

pub returns-in-None : goal.returns-in-None
returns-in-None c = λ references is.
    let parts = c.first_entry.ensures is.sorted in
    none_past references c.args.index.now is c.first_entry.result c.args.reference parts.0 parts.1 (sym c.entry_at.ensures ∙ c.in-None.is)
