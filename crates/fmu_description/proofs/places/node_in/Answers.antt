use Rattle.std.proofs.Common.{sym, ◌∙◌}
use Rattle.fmu_description.proofs.PlaceLemmas.{found_here, found_other, found_past}
use Rattle.fmu_description.proofs.places.node_in.Goals as goal

pub returns-then-other-reference : goal.returns-then-other-reference
returns-then-other-reference c = λ sorted.
    let parts = c.first_entry.ensures sorted in
    found_here c.args.entries.now c.args.reference sorted c.first_entry.result parts.0 parts.1 (c.in-Some.other, c.in-Some.node) (sym c.entry_at.ensures ∙ c.in-Some.is) c.if-other-reference.true

pub returns-else-other-reference : goal.returns-else-other-reference
returns-else-other-reference c = λ sorted.
    let parts = c.first_entry.ensures sorted in
    found_other c.args.entries.now c.args.reference sorted c.first_entry.result parts.0 parts.1 (c.in-Some.other, c.in-Some.node) (sym c.entry_at.ensures ∙ c.in-Some.is) c.if-other-reference.false

pub returns-in-None : goal.returns-in-None
returns-in-None c = λ sorted.
    let parts = c.first_entry.ensures sorted in
    found_past c.args.entries.now c.args.reference sorted c.first_entry.result parts.0 parts.1 (sym c.entry_at.ensures ∙ c.in-None.is)
