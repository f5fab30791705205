use Rattle.std.proofs.Common.{◌≡◌, ◌<◌, ◌≤◌, List, ℕ, length, get_or, ap, subst, arith}
use Rattle.std.specs.Str.{bytes_eq}
use Rattle.std.proofs.lemmas.Grind.{common_steps}
use Rattle.flatten.specs.Indexed.{LeadTo, place_if, with_places}
use Rattle.flatten.proofs.NameLemmas.{lead_alias, lead_own, lead_all_names}
use Rattle.flatten.proofs.names.VariableNames.note_variable.Goals as goal

pub loop-alias-init : goal.loop-alias-init
loop-alias-init c = λ connectors places l. lead_own connectors c.note.new.self c.args.component c.args.place c.args.variable.now places
    (subst (λ (n : List ℕ). LeadTo connectors (with_places places c.args.component (λ name. place_if (bytes_eq n name) c.args.place)) c.note.new.self) c.as_str.ensures (c.note.ensures connectors places l))

pub loop-alias-preserved : goal.loop-alias-preserved
loop-alias-preserved c =
    let count = ap length c.as_slice-alias-items.ensures in
    let within : c.loop-alias.alias-index < length c.args.variable.now.aliases = omega arith in
    let read : c.as_str-in-loop-alias.result.now ≡ get_or c.args.variable.now.aliases c.loop-alias.alias-index c.as_str-in-loop-alias.result.now = grind (arith, common_steps) in
    λ connectors places l. lead_alias connectors c.loop-alias.self c.note-in-loop-alias.new.self c.args.component c.args.place c.loop-alias.alias-index c.args.variable.now c.as_str-in-loop-alias.result.now places within read (c.note-in-loop-alias.ensures connectors) (c.loop-alias.invariant connectors places l)

pub returns : goal.returns
returns c =
    let count = ap length c.as_slice-alias-items.ensures in
    let past : length c.args.variable.now.aliases ≤ c.loop-alias.alias-index = omega arith in
    λ connectors places l. lead_all_names connectors c.loop-alias.self c.args.component c.args.place c.loop-alias.alias-index c.args.variable.now places past (c.loop-alias.invariant connectors places l)
