-- The Components of a document that are systems of their own (SSP 1.0: Component; type).
use Rattle.std.specs.Prelude.{◌≡◌, ℕ, List, Some, is_some, filter, slice_get, codes}
use Rattle.std.specs.List.{AllZip}
use Rattle.doc_grammar.specs.Nodes.{Node}
use Rattle.doc_tables.specs.Elements.{attribute}
use Rattle.ssd_tree.specs.declared.tree.NestedComponent.{NestedComponent}
use Rattle.ssd_tree.specs.declared.tree.Setting.{Setting}
use Rattle.ssd_tree.specs.Elements.{IsComponent}
use Rattle.ssd_tree.specs.Listings.{IsListing}
use Rattle.ssd_tree.specs.Rules.{kind_in}

-- one of them, where the Components of its document are these
pub record IsNestedPart (s : Setting) (t : List Node) (components : List ℕ) (k : ℕ)
    (x : NestedComponent) : Type 0 where
  pub node : x.node ≡ k
  pub place : slice_get components x.component ≡ Some k
  pub own_name : attribute t k (codes "name") ≡ Some x.own_name
  pub kind : kind_in s t k ≡ Some x.kind

-- those of some Components, in document order
abbrev pub nested_nodes : Setting → List Node → List ℕ → List ℕ
nested_nodes s t components = filter (λ k. is_some (kind_in s t k)) components

-- all of them
pub record DescribesNested (s : Setting) (t : List Node)
    (nested : List NestedComponent) : Type 0 where
  pub components : List ℕ
  pub list : IsListing (IsComponent t) components
  pub each : AllZip (IsNestedPart s t components) (nested_nodes s t components) nested
