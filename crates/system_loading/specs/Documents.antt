-- What the bytes of a document of a system say, by what counts for it of the documents before, or the rule that they break first (SSP 1.0: SystemStructure.ssd).
use Rattle.std.specs.Prelude.{◌≡◌, ℕ, List}
use Rattle.doc_grammar.specs.Nodes.{Node}
use Rattle.doc_tree.specs.declared.place.Place.{Place}
use Rattle.doc_tree.specs.declared.rule.SystemRule.{SystemRule}
use Rattle.doc_tree.specs.declared.rule.Rule.{Rule}
use Rattle.doc_tree.specs.declared.rule.Rule.TheVariants.{System}
use Rattle.ssd_tree.specs.declared.tree.Setting.{Setting}
use Rattle.ssd_tree.specs.Rules as structure
use Rattle.nested_documents.specs.States.{Document, document_of}
use Rattle.nesting_laws.specs.Says.{Says}
use Rattle.system_loading.specs.declared.read_document.ReadDocument.{ReadDocument}
use Rattle.system_loading.specs.Readings.{BreaksBy, SaysBy}

-- a document and what it says
pub record Said : Type 0 where
  pub document : Document
  pub nodes : List Node

abbrev pub said_of : ReadDocument → Said
said_of read = record { document = document_of read.parts; nodes = read.tree }

abbrev pub IsSaidBy : Setting → List Node → Said → Type 0
IsSaidBy s t said = (said.nodes ≡ t) × Says s t said.document

-- the bytes are a document that says this
abbrev pub IsStructure : Setting → List ℕ → Said → Type 0
IsStructure s bytes said = SaysBy (structure.IsSoundIn s) (IsSaidBy s) bytes said

abbrev pub BreaksStructure : Setting → List ℕ → Rule → Place → Type 0
BreaksStructure s bytes rule place =
    BreaksBy (λ (r : SystemRule). System r) (structure.IsFirstStructureViolation s) bytes rule place
