use Rattle.std.proofs.Common.{◌≡◌, ◌∙◌, ◌<◌, List, ℕ, IfOk, length, ap, arith, subst}
use Rattle.ssd_tree.specs.declared.lists.Parts.{Parts}
use Rattle.nested_documents.specs.declared.seam.Seam.{Seam}
use Rattle.nested_documents.specs.Inlining.{inner_ends, put_together}
use Rattle.ssd_tree.specs.Lists.{tree_of}
use Rattle.nested_documents.proofs.InnerLemmas.{ends_within}
use Rattle.nested_documents.proofs.SeamLemmas.{component_is, connectors_within, systems_within}
use Rattle.nested_documents.proofs.inlining.inlined.Goals as goal

pub own_ends-requires : goal.own_ends-requires
own_ends-requires c =
    let outer = c.args.outer in
    let less : c.args.place < length outer.components.items = omega (arith, c.requires, outer.components.ok) in
    let within = connectors_within (tree_of outer) c.args.place (tree_of c.args.inner) c.args.elements c.seam_of-seam.result less c.seam_of-seam.ensures in
    rw c.deref.ensures.value within

pub put_together-requires-clause-systems : goal.put_together-requires-clause-systems
put_together-requires-clause-systems c =
    let outer = c.args.outer in
    let less : c.args.place < length outer.components.items = omega (arith, c.requires, outer.components.ok) in
    let within = systems_within (tree_of outer) c.args.place (tree_of c.args.inner) c.args.elements c.seam_of-seam.result less c.seam_of-seam.ensures in
    omega (arith, within, outer.systems.ok)

pub put_together-requires-clause-components : goal.put_together-requires-clause-components
put_together-requires-clause-components c =
    let outer = c.args.outer in
    let less : c.args.place < length outer.components.items = omega (arith, c.requires, outer.components.ok) in
    let is = component_is (tree_of outer) c.args.place (tree_of c.args.inner) c.args.elements c.seam_of-seam.result less c.seam_of-seam.ensures in
    omega (arith, c.requires, is)

pub put_together-requires-clause-connectors : goal.put_together-requires-clause-connectors
put_together-requires-clause-connectors c =
    let outer = tree_of c.args.outer in
    let inner = tree_of c.args.inner in
    let seam = c.seam_of-seam.result in
    let less : c.args.place < length outer.components = omega (arith, c.requires, c.args.outer.components.ok) in
    let before = connectors_within outer c.args.place inner c.args.elements seam less c.seam_of-seam.ensures in
    let ends : c.in_ok-ends.ends.items ≡ inner_ends seam outer.connectors inner.connectors = rw (c.deref.ensures.value, c.deref-2.ensures.value) at c.in_ok-ends.ensures in
    let same : c.deref-3.result.now ≡ inner_ends seam outer.connectors inner.connectors = c.deref-3.ensures.value ∙ ends in
    let within = ends_within seam outer.connectors inner.connectors before in
    let count = ap (λ (es : List ℕ). length es) same in
    omega (arith, within, count, c.args.outer.connectors.ok)

pub returns : goal.returns
returns c part at =
    let outer = tree_of c.args.outer in
    let inner = tree_of c.args.inner in
    let frame = c.args.frame.now in
    let ends : c.in_ok-ends.ends.items ≡ inner_ends c.seam_of-seam.result outer.connectors inner.connectors = rw (c.deref.ensures.value, c.deref-2.ensures.value) at c.in_ok-ends.ensures in
    let whole : IfOk c.put_together.result (λ whole. tree_of whole ≡ put_together c.seam_of-seam.result frame (inner_ends c.seam_of-seam.result outer.connectors inner.connectors) outer inner) =
    subst (λ (es : List ℕ). IfOk c.put_together.result (λ (whole : Parts). tree_of whole ≡ put_together c.seam_of-seam.result frame es outer inner)) (c.deref-3.ensures.value ∙ ends) c.put_together.ensures in
    subst (λ (s : Seam). IfOk c.put_together.result (λ (whole : Parts). tree_of whole ≡ put_together s frame (inner_ends s outer.connectors inner.connectors) outer inner)) (c.seam_of-seam.ensures part at) whole
