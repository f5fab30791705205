-- The documents of a system, read one after the other (SSP 1.0: Component; type): the outermost one, and then the one that comes next, each by its path
-- below the system's directory.
use Rattle.std.specs.Prelude.{◌≡◌, ℕ, List, [], ◌∷◌, ◌++◌, map, Some, None, slice_get, codes}
use Rattle.std.specs.Option.{option_map_or}
use Rattle.sim_base.specs.Path.{joined_path}
use Rattle.sim_base.specs.declared.read_book.ReadNote.{ReadNote}
use Rattle.doc_tree.specs.declared.place.Place.{Place}
use Rattle.doc_tree.specs.declared.rule.NestingRule.{NestingRule}
use Rattle.doc_tree.specs.declared.rule.NestingRule.TheVariants as n
use Rattle.doc_tree.specs.declared.rule.Rule.{Rule}
use Rattle.doc_tree.specs.declared.rule.Rule.TheVariants.{Nesting}
use Rattle.ssd_tree.specs.declared.tree.Setting.{Setting}
use Rattle.nested_documents.specs.declared.nest.TheConstants.{OUTERMOST}
use Rattle.nested_documents.specs.declared.nest.Next.TheVariants as next
use Rattle.nested_documents.specs.declared.numbers.Place as elements
use Rattle.nested_documents.specs.Nest.{HoldsOnly, IsAdded, IsNext}
use Rattle.nested_documents.specs.States.{Gathered}
use Rattle.system_loading.specs.declared.documents.SystemDocument.{SystemDocument}
use Rattle.system_loading.specs.declared.outline.Outline.{Outline}
use Rattle.system_loading.specs.Documents.{Said}
use Rattle.system_loading.specs.Outlines.{document_at, place_at}
use Rattle.system_files.specs.Files.{Faulty, Flaw, HasFile, LacksFile, description_path}

-- ---- files

-- the path of the outermost document
abbrev pub top_path : List ℕ
top_path = codes "SystemStructure.ssd"

-- the files of documents
abbrev pub document_files : List ℕ → List SystemDocument → List (List ℕ)
document_files directory documents =
    map (λ (d : SystemDocument). joined_path directory d.path) documents

-- the file in which an element is told: that of its document, or the description of the FMU that is alone
abbrev pub told_at : List ℕ → List SystemDocument → elements.Place → List ℕ
told_at directory documents p =
    option_map_or (λ (d : SystemDocument). joined_path directory d.path) (document_at documents p)
    (description_path directory)

abbrev pub told_in : List ℕ → Outline → ℕ → List ℕ
told_in directory o number =
    option_map_or (told_at directory o.documents) (slice_get o.numbers number)
    (description_path directory)

-- ---- the order

-- the document at a path, and what it says
abbrev pub document_with : List ℕ → Said → SystemDocument
document_with path said = record { path = path; tree = said.nodes }

-- the outermost document alone
pub record Begins (said : Said) (read : List SystemDocument) (g : Gathered) : Type 0 where
  pub top : HoldsOnly said.document g
  pub documents : read ≡ document_with top_path said ∷ []

-- a document more, at a path
pub record Adds (said : Said) (path : List ℕ) (before : List SystemDocument) (old : Gathered)
    (read : List SystemDocument) (new : Gathered) : Type 0 where
  pub added : IsAdded old said.document new
  pub documents : read ≡ before ++ document_with path said ∷ []

-- these documents are read, in this order, and come to this; a file says in a setting what it says
pub data Gathers (Says : Setting → List ℕ → Said → Type 0) (directory : List ℕ)
    (reads : List ReadNote) : List SystemDocument → Gathered → Type 0 where
  Outermost : (said : Said) (documents : List SystemDocument) (g : Gathered) →
      HasFile (Says OUTERMOST) reads (joined_path directory top_path) said →
      Begins said documents g → Gathers Says directory reads documents g
  Nested : (before : List SystemDocument) (old : Gathered) (path : List ℕ) (s : Setting)
      (said : Said) (documents : List SystemDocument) (new : Gathered) →
      Gathers Says directory reads before old → IsNext old (next.Document path s) →
      HasFile (Says s) reads (joined_path directory path) said →
      Adds said path before old documents new → Gathers Says directory reads documents new

-- these documents are read, and then comes the one at this path, in this setting
pub data ComesDocument (Says : Setting → List ℕ → Said → Type 0) (directory : List ℕ)
    (reads : List ReadNote) : List SystemDocument → List ℕ → Setting → Type 0 where
  ComesTop : (documents : List SystemDocument) (path : List ℕ) (s : Setting) → documents ≡ [] →
      path ≡ top_path → s ≡ OUTERMOST → ComesDocument Says directory reads documents path s
  ComesNext : (documents : List SystemDocument) (path : List ℕ) (s : Setting) (g : Gathered) →
      Gathers Says directory reads documents g → IsNext g (next.Document path s) →
      ComesDocument Says directory reads documents path s

-- ---- what they come to

-- the outline of documents that are all read, where no connector is lacking
pub record IsGathered (read : List SystemDocument) (g : Gathered) (o : Outline) : Type 0 where
  pub none : g.lacking ≡ None
  pub systems : o.systems ≡ g.tree
  pub numbers : o.numbers ≡ g.elements
  pub documents : o.documents ≡ read

-- all documents are read, and this is their outline
pub record GathersAll (Says : Setting → List ℕ → Said → Type 0) (directory : List ℕ)
    (reads : List ReadNote) (o : Outline) : Type 0 where
  pub documents : List SystemDocument
  pub last : Gathered
  pub gathers : Gathers Says directory reads documents last
  pub all : IsNext last next.Nothing
  pub is : IsGathered documents last o

-- documents that are read stand in one another as they may not, at an element
pub data HasNestingFlaw (g : Gathered) : elements.Place → NestingRule → Type 0 where
  -- the next one would stand too deep, or be one too many
  StandsTooDeep : (place : elements.Place) (rule : NestingRule) → IsNext g (next.TooDeep place) →
      rule ≡ n.TooDeep → HasNestingFlaw g place rule
  -- all are read, and a connector is lacking
  LacksConnector : (place : elements.Place) (rule : NestingRule) → IsNext g next.Nothing →
      g.lacking ≡ Some place → rule ≡ n.NoInnerConnector → HasNestingFlaw g place rule

-- there is no outline: the files that are asked for up to there, the file in which it is told, and the flaw
pub data LacksOutline (Says : Setting → List ℕ → Said → Type 0)
    (Breaks : Setting → List ℕ → Rule → Place → Type 0) (directory : List ℕ)
    (reads : List ReadNote) : List (List ℕ) → List ℕ → Flaw → Type 0 where
  -- a document isn't taken
  AtDocument : (documents : List SystemDocument) (path : List ℕ) (s : Setting)
      (asked : List (List ℕ)) (told : List ℕ) (flaw : Flaw) →
      ComesDocument Says directory reads documents path s →
      LacksFile (Breaks s) reads (joined_path directory path) flaw →
      asked ≡ document_files directory documents ++ joined_path directory path ∷ [] →
      told ≡ joined_path directory path →
      LacksOutline Says Breaks directory reads asked told flaw
  -- they stand in one another as they may not
  AtNesting : (documents : List SystemDocument) (g : Gathered) (place : elements.Place)
      (rule : NestingRule) (asked : List (List ℕ)) (told : List ℕ) (flaw : Flaw) →
      Gathers Says directory reads documents g → HasNestingFlaw g place rule →
      asked ≡ document_files directory documents → told ≡ told_at directory documents place →
      flaw ≡ Faulty (Nesting rule) (place_at documents place) [] →
      LacksOutline Says Breaks directory reads asked told flaw
