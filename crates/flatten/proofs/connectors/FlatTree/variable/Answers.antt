use Rattle.std.proofs.Common.{◌≡◌, length, sym, ap, ◌∙◌, arith, Bor}
use Rattle.std.specs.List.{slice_get}
use Rattle.std.specs.Option.{option_copied}
use Rattle.std.proofs.lemmas.Grind.{common_steps}
use Rattle.std.proofs.lemmas.Option.{gets, slice_get-map}
use Rattle.value_types.specs.declared.shape.Variable.{Variable}
use Rattle.flatten.specs.Indexed.{all_variables}
use Rattle.flatten.proofs.PieceLemmas.{read_at}
use Rattle.flatten.proofs.ConnectorLemmas.{variable_numbered, none_numbered}
use Rattle.flatten.proofs.connectors.FlatTree.variable.Goals as goal

pub returns-in-OfSystem : goal.returns-in-OfSystem
returns-in-OfSystem c =
    let f = c.args.self.now in
    let r = c.requires.indexed in
    let there = read_at f.points.items (length f.tree.now.connectors) c.args.connector _ _ r.points.len c.requires.connector c.index.ensures c.in-OfSystem.is in
    sym (none_numbered f.tree.now f.shapes.now f.points.items r.points c.args.connector c.in-OfSystem.field-0 there)

pub returns-in-Variable : goal.returns-in-Variable
returns-in-Variable c =
    let f = c.args.self.now in
    let r = c.requires.indexed in
    let there = read_at f.points.items (length f.tree.now.connectors) c.args.connector _ _ r.points.len c.requires.connector c.index.ensures c.in-Variable.is in
    let named = variable_numbered f.tree.now f.shapes.now f.points.items r.points c.args.connector c.in-Variable.number there in
    let got : c.copied.result ≡ slice_get f.variables.all.items c.in-Variable.number = grind (arith, common_steps, gets) in
    let read : option_copied c.copied.result ≡ slice_get (all_variables f.shapes.now) c.in-Variable.number = ap option_copied got ∙ sym (slice_get-map (λ (x : Bor Variable). x.now) f.variables.all.items c.in-Variable.number) ∙ ap (λ xs. slice_get xs c.in-Variable.number) r.variables.all in
    read ∙ named
