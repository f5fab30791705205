use Rattle.std.proofs.Common.{arith}
use Rattle.std.proofs.lemmas.Slice.Zip.{AllZip-long}
use Rattle.ssd_tree.specs.Indexed.{nodes_of}
use Rattle.ssd_tree.specs.Parts.{IsComponentPart}
use Rattle.ssd_tree.proofs.indexed.IndexedTree.describe.Goals as goal

pub returns-clause-components : goal.returns-clause-components
returns-clause-components c =
    let d = c.args.self.now in
    let parts = c.in_ok-component_parts.field-0 in
    let long = AllZip-long (IsComponentPart d.tree.now (nodes_of d.lists)) d.lists.components.items parts.items c.in_ok-component_parts.ensures in
    omega (arith, long, d.lists.components.ok.0, parts.ok.0)
