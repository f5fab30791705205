use Rattle.std.proofs.Common.{take, arith}
use Rattle.ssd_tree.specs.Elements.{IsComponent}
use Rattle.ssd_tree.specs.Nested.{IsNestedPart, nested_nodes}
use Rattle.ssd_tree.proofs.NestedLemmas.{nested_end, nested_step, node_at, placed_end}
use Rattle.ssd_tree.proofs.PartLemmas.{listed_one}
use Rattle.ssd_tree.proofs.indexed.IndexedTree.nested_parts.Goals as goal

pub push_nested-requires-clause-is : goal.push_nested-requires-clause-is
push_nested-requires-clause-is c =
    listed_one (IsComponent c.args.self.now.tree.now) c.args.self.now.lists.components.items c.as_slice-components.result.now c.requires.indexed.lists.components c.as_slice-components.ensures.value c.loop-component.component c.loop-component-test.true

pub push_nested-requires-clause-place : goal.push_nested-requires-clause-place
push_nested-requires-clause-place c =
    node_at c.args.self.now.lists.components.items c.as_slice-components.result.now c.loop-component.component c.as_slice-components.ensures.value c.loop-component-test.true

pub loop-component-preserved : goal.loop-component-preserved
loop-component-preserved c =
    let s = c.args.self.now.setting in
    let t = c.args.self.now.tree.now in
    let xs = c.args.self.now.lists.components.items in
    let ys = c.as_slice-components.result.now in
    let i = c.loop-component.component in
    record {
      bound = omega (arith, c.as_slice-components.ensures.len, c.args.self.now.lists.components.ok.0);
      each = nested_step s t (IsNestedPart s t xs) xs ys i c.push_nested.new.parts.items c.as_slice-components.ensures.value c.loop-component-test.true (c.in_ok-push_nested.ensures.each (nested_nodes s t (take i xs)) c.loop-component.invariant.each);
      placed = c.in_ok-push_nested.ensures.placed c.loop-component.invariant.placed;
    }

pub returns-clause-found : goal.returns-clause-found
returns-clause-found c =
    let s = c.args.self.now.setting in
    let t = c.args.self.now.tree.now in
    let xs = c.args.self.now.lists.components.items in
    record {
      components = xs;
      list = c.requires.indexed.lists.components;
      each = nested_end s t (IsNestedPart s t xs) xs c.as_slice-components.result.now c.loop-component.component c.loop-component.parts.items c.as_slice-components.ensures.value c.loop-component-test.false c.loop-component.invariant.each;
    }

pub returns-clause-placed : goal.returns-clause-placed
returns-clause-placed c =
    let bound = c.loop-component.invariant.bound in
    placed_end c.loop-component.component c.args.self.now.lists.components.len c.loop-component.parts.items (omega (arith, bound, c.args.self.now.lists.components.ok.0)) c.loop-component.invariant.placed
