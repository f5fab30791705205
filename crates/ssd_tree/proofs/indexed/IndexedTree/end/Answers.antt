use Rattle.std.proofs.Common.{ℕ, List, Option, sym, subst}
use Rattle.doc_tables.specs.Tables.{Finds}
use Rattle.ssd_tree.specs.Elements.{connector_key}
use Rattle.ssd_tree.specs.Ends.{IsPartNamed}
use Rattle.ssd_tree.proofs.EndLemmas.{end_found}
use Rattle.ssd_tree.proofs.indexed.IndexedTree.end.Goals as goal

pub returns : goal.returns
returns c =
    let t = c.args.self.now.tree.now in
    let system = c.in_ok-system.system in
    let part = c.in_ok-part.part in
    let name = c.in_ok-name.name.now in
    end_found t c.args.connection c.args.element.now c.args.connector.now system part name c.find.result (sym c.in_ok-system.ensures.holder)
    (subst (λ (o : Option (List ℕ)). IsPartNamed t system o part) c.attribute.ensures c.in_ok-part.ensures) (sym c.in_ok-name.ensures)
    (subst (λ (o : Option ℕ). Finds (connector_key t) (part, name) o) (sym c.find.ensures) (c.requires.connectors (part, name)))
