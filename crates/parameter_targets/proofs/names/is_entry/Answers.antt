use Rattle.std.proofs.Common.{refl}
use Rattle.parameter_targets.proofs.ListLemmas.{read_at}
use Rattle.parameter_targets.proofs.names.is_entry.Goals as goal

pub returns-else-entry-place : goal.returns-else-entry-place
returns-else-entry-place c = λ same.
    let entries = c.args.entries.now in
    let l = c.in-Some.ensures.lookup in
    (c.in-Some.entry.now, read_at entries entries c.args.at c.in-Some.entry.now refl l.3.0 l.1, c.is_same.ensures same, c.if-entry-place.false)
