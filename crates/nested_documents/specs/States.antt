-- What documents say that are put together so far, and which Components wait for theirs.
use Rattle.std.specs.Prelude.{ℕ, List, Option}
use Rattle.ssd_tree.specs.declared.lists.DocumentParts.{DocumentParts}
use Rattle.ssd_tree.specs.declared.tree.NestedComponent.{NestedComponent}
use Rattle.ssd_tree.specs.declared.tree.SystemTree.{SystemTree}
use Rattle.ssd_tree.specs.Lists.{tree_of}
use Rattle.nested_documents.specs.declared.components.Waiting.{Waiting}
use Rattle.nested_documents.specs.declared.held.Nest.{Nest}
use Rattle.nested_documents.specs.declared.nest.Whole.{Whole}
use Rattle.nested_documents.specs.declared.numbers.Place.{Place}

-- the tree of those that are read, the Components that wait in its order, where its elements stand, how many documents are read, and the
-- first connector of a Component that its document lacks
pub record Gathered : Type 0 where
  pub tree : SystemTree
  pub waiting : List Waiting
  pub elements : List Place
  pub documents : ℕ
  pub lacking : Option Place

abbrev pub gathered : Nest → Gathered
gathered n = record {
  tree = tree_of n.parts;
  waiting = n.waiting.items;
  elements = n.numbers;
  documents = n.documents;
  lacking = n.lacking;
}

-- what one document says: its tree, which of its Components are systems of their own, and how many elements it has
pub record Document : Type 0 where
  pub tree : SystemTree
  pub nested : List NestedComponent
  pub elements : ℕ

abbrev pub document_of : DocumentParts → Document
document_of d =
    record { tree = tree_of d.parts; nested = d.nested.items; elements = d.elements }

-- what all documents say together, and where its elements stand
pub record Complete : Type 0 where
  pub tree : SystemTree
  pub elements : List Place

abbrev pub complete : Whole → Complete
complete w = record { tree = w.systems; elements = w.numbers }
