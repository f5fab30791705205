use Rattle.std.proofs.Common.{◌≡◌, ◌↔◌, Some, IsTrue, codes, ◌∙◌, ap, subst}
use Rattle.doc_tables.specs.Elements.{attribute}
use Rattle.ssd_tree.specs.declared.tree.ConnectorKind.{ConnectorKind}
use Rattle.ssd_tree.specs.Elements.{kind_of}
use Rattle.ssd_tree.specs.Ends.{IsStart, start_kind}
use Rattle.ssd_tree.proofs.OneLemmas.{one_end}
use Rattle.ssd_tree.proofs.EndLemmas.{wrong_told, none_wrong}
use Rattle.ssd_tree.proofs.indexed.IndexedTree.starts_wrong.Goals as goal

pub returns-in-Some : goal.returns-in-Some
returns-in-Some c =
    let t = c.args.self.now.tree.now in
    let k = c.args.node in
    let wanted : c.start_kind-wanted.result ≡ start_kind (attribute t k (codes "startElement")) = c.start_kind-wanted.ensures ∙ ap start_kind c.attribute.ensures in
    wrong_told (IsStart t k) (λ j. kind_of t j ≡ Some (start_kind (attribute t k (codes "startElement")))) (one_end t k (codes "startElement") (codes "startConnector")) c.in-Some.connector c.in-Some.ensures
    c.is_of_kind.result (subst (λ (x : ConnectorKind). IsTrue c.is_of_kind.result ↔ (kind_of t c.in-Some.connector ≡ Some x)) wanted c.is_of_kind.ensures)

pub returns-in-None : goal.returns-in-None
returns-in-None c =
    let t = c.args.self.now.tree.now in
    let k = c.args.node in
    none_wrong (IsStart t k) (λ j. kind_of t j ≡ Some (start_kind (attribute t k (codes "startElement")))) c.in-None.ensures
