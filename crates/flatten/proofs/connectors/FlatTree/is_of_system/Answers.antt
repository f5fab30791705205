use Rattle.std.proofs.Common.{length, refl}
use Rattle.std.proofs.lemmas.Bool.{false≢true}
use Rattle.flatten.proofs.PieceLemmas.{read_at}
use Rattle.flatten.proofs.ConnectorLemmas.{system_numbered, other_numbered}
use Rattle.flatten.proofs.connectors.FlatTree.is_of_system.Goals as goal

pub returns-in-OfSystem : goal.returns-in-OfSystem
returns-in-OfSystem c =
    let f = c.args.self.now in
    let r = c.requires.indexed in
    let there = read_at f.points.items (length f.tree.now.connectors) c.args.connector _ _ r.points.len c.requires.connector c.index.ensures c.in-OfSystem.is in
    (λ _. system_numbered f.tree.now f.shapes.now f.points.items r.points c.args.connector c.in-OfSystem.field-0 there, λ _. refl)

pub returns-in-Variable : goal.returns-in-Variable
returns-in-Variable c =
    let f = c.args.self.now in
    let r = c.requires.indexed in
    let there = read_at f.points.items (length f.tree.now.connectors) c.args.connector _ _ r.points.len c.requires.connector c.index.ensures c.in-Variable.is in
    (λ no. absurd (false≢true no), λ of. absurd (other_numbered f.tree.now f.shapes.now f.points.items r.points c.args.connector c.in-Variable.field-0 there of))
