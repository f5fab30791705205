use Rattle.std.proofs.Common.{◌≡◌, sym, ◌∙◌, ap, subst, map}
use Rattle.std.specs.List.{All}
use Rattle.std.proofs.lemmas.List.{take_all}
use Rattle.system_model.specs.Ports.{label_of}
use Rattle.flatten.specs.Ports.{IsMade, labels_in}
use Rattle.flatten.proofs.CountLemmas.{few_ports}
use Rattle.flatten.proofs.MadeLemmas.{labels_at_next}
use Rattle.flatten.proofs.PortLemmas.{has_feeds, sound_ports}
use Rattle.flatten.proofs.SameLemmas.{shapes_are}
use Rattle.flatten.proofs.connectors.FlatTree.ports.Goals as goal

pub loop-component-preserved : goal.loop-component-preserved
loop-component-preserved c =
    let shapes = c.args.self.now.shapes.now in
    record {
      labels = c.in_ok-add_ports.ensures.labels ∙ labels_at_next shapes c.loop-component.component (map label_of c.loop-component.ports.items) c.loop-component-test.true c.loop-component.invariant.labels;
      made = c.in_ok-add_ports.ensures.made c.loop-component.invariant.made;
    }

pub returns-clause-ports : goal.returns-clause-ports
returns-clause-ports c = λ components are.
    let tree = c.args.self.now.tree.now in
    let shapes = c.args.self.now.shapes.now in
    let given = c.requires.indexed.shapes in
    let all = take_all c.loop-component.component shapes c.loop-component-test.false in
    let labels : map label_of c.from_vec.result ≡ labels_in 0 shapes = ap (map label_of) c.from_vec.ensures ∙ c.loop-component.invariant.labels ∙ ap (labels_in 0) all in
    let made : All (IsMade shapes c.in_ok-table.table) c.from_vec.result = subst (All (IsMade shapes c.in_ok-table.table)) (sym c.from_vec.ensures) c.loop-component.invariant.made in
    sound_ports tree shapes c.in_ok-table.table c.from_vec.result given c.in_ok-table.ensures labels made components are (shapes_are tree.components shapes components given.len are) (few_ports tree shapes given c.requires.fitting)

pub returns-clause-feeds : goal.returns-clause-feeds
returns-clause-feeds c =
    let tree = c.args.self.now.tree.now in
    let shapes = c.args.self.now.shapes.now in
    let all = take_all c.loop-component.component shapes c.loop-component-test.false in
    let labels : map label_of c.from_vec.result ≡ labels_in 0 shapes = ap (map label_of) c.from_vec.ensures ∙ c.loop-component.invariant.labels ∙ ap (labels_in 0) all in
    let made : All (IsMade shapes c.in_ok-table.table) c.from_vec.result = subst (All (IsMade shapes c.in_ok-table.table)) (sym c.from_vec.ensures) c.loop-component.invariant.made in
    has_feeds tree shapes c.in_ok-table.table c.from_vec.result c.requires.indexed.shapes c.in_ok-table.ensures labels made c.requires.fitting
