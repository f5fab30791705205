use Rattle.std.proofs.Common.{refl, codes, inl, inr}
use Rattle.doc_tree.specs.declared.rule.SystemRule.TheVariants as r
use Rattle.ssd_tree.specs.Ends.{IsStart, IsStop}
use Rattle.ssd_tree.proofs.PartLemmas.{some_end, end_at, end_connector}
use Rattle.ssd_tree.proofs.indexed.IndexedTree.connection_part.Goals as goal

pub unwrap-from-requires : goal.unwrap-from-requires
unwrap-from-requires c =
    some_end (IsStart c.args.self.now.tree.now c.args.node) c.start.result (λ none. c.requires.sound.1 r.NoEnd c.args.node (c.requires.is, inl none)) c.start.ensures

pub unwrap-to-requires : goal.unwrap-to-requires
unwrap-to-requires c =
    some_end (IsStop c.args.self.now.tree.now c.args.node) c.stop.result (λ none. c.requires.sound.1 r.NoEnd c.args.node (c.requires.is, inr none)) c.stop.ensures

pub connector_place-requires-clause-is : goal.connector_place-requires-clause-is
connector_place-requires-clause-is c =
    end_connector c.args.self.now.tree.now c.args.node c.unwrap-from.result (codes "startElement") (codes "startConnector") c.requires.is
    (end_at (IsStart c.args.self.now.tree.now c.args.node) c.start.result c.unwrap-from.result c.unwrap-from.ensures c.start.ensures)

pub connector_place-requires-2-clause-is : goal.connector_place-requires-2-clause-is
connector_place-requires-2-clause-is c =
    end_connector c.args.self.now.tree.now c.args.node c.unwrap-to.result (codes "endElement") (codes "endConnector") c.requires.is
    (end_at (IsStop c.args.self.now.tree.now c.args.node) c.stop.result c.unwrap-to.result c.unwrap-to.ensures c.stop.ensures)

pub returns : goal.returns
returns c = record {
  node = refl;
  from = c.unwrap-from.result;
  is_from = end_at (IsStart c.args.self.now.tree.now c.args.node) c.start.result c.unwrap-from.result c.unwrap-from.ensures c.start.ensures;
  start = c.connector_place.ensures;
  to = c.unwrap-to.result;
  is_to = end_at (IsStop c.args.self.now.tree.now c.args.node) c.stop.result c.unwrap-to.result c.unwrap-to.ensures c.stop.ensures;
  end = c.connector_place-2.ensures;
  change = c.in_ok-change.ensures;
}
