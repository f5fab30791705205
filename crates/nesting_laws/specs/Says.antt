-- What one of several documents says (SSP 1.0: SystemStructure.ssd).
use Rattle.std.specs.Prelude.{◌≡◌, List, length}
use Rattle.doc_grammar.specs.Nodes.{Node}
use Rattle.ssd_tree.specs.declared.tree.Setting.{Setting}
use Rattle.ssd_tree.specs.Nested.{DescribesNested}
use Rattle.ssd_tree.specs.Parts.{Describes}
use Rattle.ssd_tree.specs.Rules.{IsSoundIn}
use Rattle.nested_documents.specs.States.{Document}

-- in its setting no element breaks a rule, and it describes this tree and these nested Components
pub record Says (s : Setting) (t : List Node) (d : Document) : Type 0 where
  pub sound : IsSoundIn s t
  pub tree : Describes t d.tree
  pub nested : DescribesNested s t d.nested
  pub elements : d.elements ≡ length t
