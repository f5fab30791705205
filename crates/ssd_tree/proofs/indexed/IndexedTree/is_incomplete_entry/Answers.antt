use Rattle.std.proofs.Common.{sym, ◌∙◌, inl, inr}
use Rattle.ssd_tree.proofs.indexed.IndexedTree.is_incomplete_entry.Goals as goal
use Rattle.ssd_tree.proofs.indexed.IndexedTree.is_incomplete_entry.Goals.{then-is_incomplete_connector, else-is_incomplete_connector}

pub returns-then-is_incomplete_connection : goal.returns-then-is_incomplete_connection
returns-then-is_incomplete_connection c =
    elim c.if-is_incomplete_connector.branch [
      | then-is_incomplete_connector w ↦ (λ _. inl (c.is_incomplete_connector.ensures.0 w.if-is_incomplete_connector.true), λ _. c.if-is_incomplete_connection.true)
      | else-is_incomplete_connector w ↦
          (λ _. inr (inl (w.is_incomplete_connection.ensures.0 (sym w.value-is ∙ c.if-is_incomplete_connection.true))), λ _. c.if-is_incomplete_connection.true)
    ]
