use Rattle.std.proofs.Common.{◌≡◌, ◌<◌, ℕ, List, All, Some, None, length, reverse, sym, ap, ◌∙◌, subst}
use Rattle.std.specs.List.{filter_map}
use Rattle.flatten.specs.Ways.{FindsWay, IsWay, change_at}
use Rattle.flatten.proofs.WayLemmas.{feed_of_way, no_port_no_feed, way_of_feed, way_within}
use Rattle.flatten.proofs.connectors.FlatTree.feed_to.Goals as goal

pub returns-in_default : goal.returns-in_default
returns-in_default c =
    let f = c.args.self.now in
    λ feed from.
    let way = way_of_feed f c.requires.indexed c.requires.fitting c.args.connector c.args.numbers.now feed from in
    subst (FindsWay f c.args.connector) c.in_default.is c.in_ok-way.ensures from.source way.0 way.1

pub returns-in_default-port_at : goal.returns-in_default-port_at
returns-in_default-port_at c =
    let f = c.args.self.now in
    let way = c.in-Some.way in
    let found : IsWay f c.args.connector way.source way.back.items = subst (FindsWay f c.args.connector) c.in-Some.is c.in_ok-way.ensures in
    no_port_no_feed f c.requires.indexed c.requires.fitting c.args.connector c.args.numbers.now way.source way.back.items found
    (λ port has. let un : None ≡ Some port = sym c.in_default-port_at.is ∙ (c.port_at.ensures port).1 has in absurd (cc))

pub changes_of-requires-clause-back : goal.changes_of-requires-clause-back
changes_of-requires-clause-back c =
    let f = c.args.self.now in
    let way = c.in-Some.way in
    let found : IsWay f c.args.connector way.source way.back.items = subst (FindsWay f c.args.connector) c.in-Some.is c.in_ok-way.ensures in
    subst (All (λ (k : ℕ). k < length f.tree.now.connections)) (sym c.as_slice.ensures.value) (way_within f.tree.now f.shapes.now found.from found.to way.back.items found.leads)

pub returns : goal.returns
returns c =
    let f = c.args.self.now in
    let way = c.in-Some.way in
    let found : IsWay f c.args.connector way.source way.back.items = subst (FindsWay f c.args.connector) c.in-Some.is c.in_ok-way.ensures in
    feed_of_way f c.requires.indexed c.requires.fitting c.args.connector c.args.numbers.now way.source way.back.items _ found
    ((c.port_at.ensures c.in-Some-port_at.from).0 c.in-Some-port_at.is) (c.in_ok-changes_of.ensures ∙ ap (λ (zs : List ℕ). filter_map (change_at f.tree.now) (reverse zs)) c.as_slice.ensures.value)
