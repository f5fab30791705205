use Rattle.std.proofs.Common.{◌≡◌, ◌↔◌, Some, IsTrue, codes, ◌∙◌, ap, subst}
use Rattle.doc_tables.specs.Elements.{attribute}
use Rattle.ssd_tree.specs.declared.tree.ConnectorKind.{ConnectorKind}
use Rattle.ssd_tree.specs.Elements.{kind_of}
use Rattle.ssd_tree.specs.Ends.{IsStop, end_kind}
use Rattle.ssd_tree.proofs.OneLemmas.{one_end}
use Rattle.ssd_tree.proofs.EndLemmas.{wrong_told, none_wrong}
use Rattle.ssd_tree.proofs.indexed.IndexedTree.stops_wrong.Goals as goal

pub returns-in-Some : goal.returns-in-Some
returns-in-Some c =
    let t = c.args.self.now.tree.now in
    let k = c.args.node in
    let wanted : c.end_kind-wanted.result ≡ end_kind (attribute t k (codes "endElement")) = c.end_kind-wanted.ensures ∙ ap end_kind c.attribute.ensures in
    wrong_told (IsStop t k) (λ j. kind_of t j ≡ Some (end_kind (attribute t k (codes "endElement")))) (one_end t k (codes "endElement") (codes "endConnector")) c.in-Some.connector c.in-Some.ensures
    c.is_of_kind.result (subst (λ (x : ConnectorKind). IsTrue c.is_of_kind.result ↔ (kind_of t c.in-Some.connector ≡ Some x)) wanted c.is_of_kind.ensures)

pub returns-in-None : goal.returns-in-None
returns-in-None c =
    let t = c.args.self.now.tree.now in
    let k = c.args.node in
    none_wrong (IsStop t k) (λ j. kind_of t j ≡ Some (end_kind (attribute t k (codes "endElement")))) c.in-None.ensures
