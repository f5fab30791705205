-- The ends of connections (SSP 1.0: Connection; startElement, startConnector, endElement, endConnector).
use Rattle.std.specs.Prelude.{◌≡◌, ℕ, List, Option, Some, None, codes}
use Rattle.doc_grammar.specs.Nodes.{Node}
use Rattle.doc_tables.specs.Elements.{attribute}
use Rattle.doc_tables.specs.Tables.{IsFirstWith}
use Rattle.ssd_tree.specs.declared.tree.ConnectorKind.{ConnectorKind}
use Rattle.ssd_tree.specs.declared.tree.ConnectorKind.TheVariants as kind
use Rattle.ssd_tree.specs.Elements.{holder, element_key, connector_key}

-- the part that is meant in a System: the element of the name, without a name the System itself
abbrev pub IsPartNamed : List Node → ℕ → Option (List ℕ) → ℕ → Type 0
IsPartNamed t system None part = part ≡ system
IsPartNamed t system (Some name) part = IsFirstWith (element_key t) (system, name) part

-- the connector that is named by these two attributes of a connection
pub record IsEnd (t : List Node) (connection : ℕ) (element connector : List ℕ)
    (k : ℕ) : Type 0 where
  pub system : ℕ
  pub part : ℕ
  pub name : List ℕ
  pub of : holder t connection (codes "Connections") ≡ Some system
  pub is_part : IsPartNamed t system (attribute t connection element) part
  pub named : attribute t connection connector ≡ Some name
  pub is : IsFirstWith (connector_key t) (part, name) k

abbrev pub IsStart : List Node → ℕ → ℕ → Type 0
IsStart t connection k = IsEnd t connection (codes "startElement") (codes "startConnector") k

abbrev pub IsStop : List Node → ℕ → ℕ → Type 0
IsStop t connection k = IsEnd t connection (codes "endElement") (codes "endConnector") k

-- a connection begins at an output of an element, or at an input of the System itself
abbrev pub start_kind : Option (List ℕ) → ConnectorKind
start_kind None = kind.Input
start_kind (Some element) = kind.Output

-- it ends at an input of an element, or at an output of the System itself
abbrev pub end_kind : Option (List ℕ) → ConnectorKind
end_kind None = kind.Output
end_kind (Some element) = kind.Input
