use Rattle.std.proofs.Common.{◌≡◌, Some, sym, ap, ◌∙◌, subst, take, arith}
use Rattle.std.proofs.lemmas.List.{take_all}
use Rattle.std.proofs.lemmas.Option.{slice_get-get_or}
use Rattle.parameter_targets.specs.Tables.{AreEntries}
use Rattle.parameter_targets.proofs.NameLemmas.{Entries, entries_all, entries_more}
use Rattle.parameter_targets.proofs.names.ParameterNames.are_of.Goals as goal

pub loop-place-preserved : goal.loop-place-preserved
loop-place-preserved c =
    let variables = c.args.variables.now in
    let entries = c.as_slice-entries.result.now in
    let place = c.loop-place.place in
    let v = c.index-variables-place.result in
    record {
      within = c.in-Some.ensures.within;
      below = entries_more variables place v (take c.loop-place.next entries) (take c.in-Some.end entries) (slice_get-get_or variables place v (omega arith) ∙ ap Some (sym c.index-variables-place.is)) c.loop-place.invariant.below c.in-Some.ensures.names;
    }

pub returns : goal.returns
returns c = λ _.
    let entries = c.as_slice-entries.result.now in
    let next = c.loop-place.next in
    let whole : take next entries ≡ c.args.self.now.entries.items = take_all next entries (omega arith) ∙ c.as_slice-entries.ensures.value in
    subst (λ (z : Entries). AreEntries c.args.variables.now z) whole (entries_all c.args.variables.now c.loop-place.place (take next entries) (omega arith) c.loop-place.invariant.below)
