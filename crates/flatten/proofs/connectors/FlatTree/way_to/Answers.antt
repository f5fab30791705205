use Rattle.std.proofs.Common.{◌≡◌, ◌≤◌, ℕ, List, length, Some, None, sym, ap, ◌∙◌, subst, arith}
use Rattle.std.proofs.lemmas.Bool.{iff_false}
use Rattle.std.proofs.lemmas.List.{length-map}
use Rattle.flatten.specs.Indexed.{ends_of}
use Rattle.flatten.specs.Ports.{at_number}
use Rattle.flatten.proofs.BridgeLemmas.{point_at}
use Rattle.flatten.proofs.WayLemmas.{IsOnWay, finds_none, step_start, step_within, way_ended, way_found, way_long, way_none, way_onward, way_stopped}
use Rattle.flatten.proofs.connectors.FlatTree.way_to.Goals as goal

pub loop-connection-init : goal.loop-connection-init
loop-connection-init c =
    let to = point_at c.args.self.now.tree.now c.args.self.now.shapes.now c.args.connector c.requires.connector in
    record {
      within = c.requires.connector;
      way = subst (λ (zs : List ℕ). IsOnWay c.args.self.now.tree.now c.args.self.now.shapes.now c.args.connector zs c.args.connector) (sym c.new-back.ensures.items)
          (way_none c.args.self.now.tree.now c.args.self.now.shapes.now c.args.connector to.0 to.1);
    }

-- no connection ends where it stands
pub returns-in_default : goal.returns-in_default
returns-in_default c =
    let f = c.args.self.now in
    let none : at_number c.args.last.now c.point_number.result ≡ None = sym c.get.ensures.value ∙ sym c.copied.ensures ∙ c.in_default.is in
    finds_none f c.requires.indexed c.requires.fitting c.args.connector
    (way_ended f c.requires.indexed (at_number c.args.last.now) c.requires.last c.requires.fitting c.args.connector c.loop-connection.back.items c.loop-connection.at c.loop-connection.invariant.way c.point_number.result
    c.point_number.ensures.number none)

-- as many connections follow it as there are
pub returns : goal.returns
returns c =
    let f = c.args.self.now in
    let t = f.tree.now in
    let long : length t.connections ≤ length c.loop-connection.back.items = (let e = ap length c.requires.indexed.connections in let m = length-map t.connections ends_of in omega (arith, e, m)) in
    finds_none f c.requires.indexed c.requires.fitting c.args.connector
    (way_long t f.shapes.now f.points.items c.requires.indexed.shapes c.requires.indexed.points c.requires.fitting c.args.connector c.loop-connection.back.items c.loop-connection.at c.loop-connection.invariant.way long)

pub index-requires : goal.index-requires
index-requires c =
    let f = c.args.self.now in
    let ok = f.connections.ok.0 in
    let less = step_within f c.requires.indexed (at_number c.args.last.now) c.requires.last c.requires.fitting c.args.connector c.loop-connection.back.items c.loop-connection.at c.loop-connection.invariant.way c.point_number.result c.point_number.ensures.number c.in-Some.connection (sym c.get.ensures.value ∙ sym c.copied.ensures ∙ c.in-Some.is) in
    omega (arith, less, ok)

pub is_output-requires-clause-connector : goal.is_output-requires-clause-connector
is_output-requires-clause-connector c =
    let f = c.args.self.now in
    step_start f c.requires.indexed (at_number c.args.last.now) c.requires.last c.requires.fitting c.args.connector c.loop-connection.back.items c.loop-connection.at c.loop-connection.invariant.way c.point_number.result c.point_number.ensures.number c.in-Some.connection (sym c.get.ensures.value ∙ sym c.copied.ensures ∙ c.in-Some.is) c.index.result.now c.index.ensures

pub is_of_system-requires-clause-connector : goal.is_of_system-requires-clause-connector
is_of_system-requires-clause-connector c =
    let f = c.args.self.now in
    step_start f c.requires.indexed (at_number c.args.last.now) c.requires.last c.requires.fitting c.args.connector c.loop-connection.back.items c.loop-connection.at c.loop-connection.invariant.way c.point_number.result c.point_number.ensures.number c.in-Some.connection (sym c.get.ensures.value ∙ sym c.copied.ensures ∙ c.in-Some.is) c.index.result.now c.index.ensures

pub returns-then-is_output : goal.returns-then-is_output
returns-then-is_output c =
    let f = c.args.self.now in
    way_found f c.requires.indexed (at_number c.args.last.now) c.requires.last c.requires.fitting c.args.connector c.loop-connection.back.items c.loop-connection.at c.loop-connection.invariant.way c.point_number.result c.point_number.ensures.number c.in-Some.connection (sym c.get.ensures.value ∙ sym c.copied.ensures ∙ c.in-Some.is) c.index.result.now c.index.ensures c.push.new.self.items c.in_ok-push.ensures.items
    (c.is_output.ensures.0 c.if-is_output.true)

pub returns-then-not-is_of_system : goal.returns-then-not-is_of_system
returns-then-not-is_of_system c =
    let f = c.args.self.now in
    finds_none f c.requires.indexed c.requires.fitting c.args.connector
    (way_stopped f c.requires.indexed (at_number c.args.last.now) c.requires.last c.requires.fitting c.args.connector c.loop-connection.back.items c.loop-connection.at c.loop-connection.invariant.way c.point_number.result c.point_number.ensures.number c.in-Some.connection (sym c.get.ensures.value ∙ sym c.copied.ensures ∙ c.in-Some.is) c.index.result.now c.index.ensures
    (iff_false c.is_output.ensures c.if-is_output.false) (iff_false c.is_of_system.ensures c.if-not-is_of_system.true))

pub loop-connection-preserved : goal.loop-connection-preserved
loop-connection-preserved c =
    let f = c.args.self.now in
    record {
      within = step_start f c.requires.indexed (at_number c.args.last.now) c.requires.last c.requires.fitting c.args.connector c.loop-connection.back.items c.loop-connection.at c.loop-connection.invariant.way c.point_number.result c.point_number.ensures.number c.in-Some.connection (sym c.get.ensures.value ∙ sym c.copied.ensures ∙ c.in-Some.is) c.index.result.now c.index.ensures;
      way = way_onward f c.requires.indexed (at_number c.args.last.now) c.requires.last c.requires.fitting c.args.connector c.loop-connection.back.items c.loop-connection.at c.loop-connection.invariant.way c.point_number.result c.point_number.ensures.number c.in-Some.connection (sym c.get.ensures.value ∙ sym c.copied.ensures ∙ c.in-Some.is) c.index.result.now c.index.ensures c.push.new.self.items c.in_ok-push.ensures.items
          (c.is_of_system.ensures.0 c.if-not-is_of_system.false);
    }
