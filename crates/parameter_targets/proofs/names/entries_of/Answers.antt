use Rattle.std.proofs.Common.{sym, ◌∙◌, ap, Some, arith}
use Rattle.std.proofs.lemmas.Option.{slice_get-get_or}
use Rattle.parameter_targets.proofs.NameLemmas.{entries_all, entries_more}
use Rattle.parameter_targets.proofs.names.entries_of.Goals as goal

pub loop-place-preserved : goal.loop-place-preserved
loop-place-preserved c =
    let variables = c.args.variables.now in
    let place = c.loop-place.place in
    let v = c.index-variables-place.result in
    entries_more variables place v c.loop-place.entries.items c.put_names.new.entries.items (slice_get-get_or variables place v (omega arith) ∙ ap Some (sym c.index-variables-place.is)) c.loop-place.invariant c.in_ok-put_names.ensures

pub returns : goal.returns
returns c = entries_all c.args.variables.now c.loop-place.place c.loop-place.entries.items (omega arith) c.loop-place.invariant
