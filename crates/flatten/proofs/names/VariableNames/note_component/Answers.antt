use Rattle.std.proofs.Common.{◌≡◌, ◌<◌, length, get_or, refl, arith}
use Rattle.std.proofs.lemmas.Grind.{common_steps}
use Rattle.flatten.proofs.NameLemmas.{lead_begins, lead_variable, lead_all_variables}
use Rattle.flatten.proofs.names.VariableNames.note_component.Goals as goal

pub loop-place-init : goal.loop-place-init
loop-place-init c = λ connectors places l. lead_begins connectors c.args.self.now c.args.component places _ (λ name. refl) l

pub loop-place-preserved : goal.loop-place-preserved
loop-place-preserved c =
    let v = c.index-variables-place.result in
    let within : c.loop-place.place < length c.args.variables.now = omega arith in
    let read : v ≡ get_or c.args.variables.now c.loop-place.place v = grind (arith, common_steps) in
    λ connectors places l. lead_variable connectors c.loop-place.self c.note_variable.new.self c.args.component c.loop-place.place c.args.variables.now v places within read (c.note_variable.ensures connectors) (c.loop-place.invariant connectors places l)

pub returns : goal.returns
returns c = λ connectors places l. lead_all_variables connectors c.loop-place.self c.args.component c.loop-place.place c.args.variables.now places (omega arith) (c.loop-place.invariant connectors places l)
