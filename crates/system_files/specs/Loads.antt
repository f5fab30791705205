-- What a loading does: what it asks a folder for, and what it answers.
use Rattle.std.specs.Prelude.{◌≡◌, ℕ, ◌≤◌, ◌^◌, List, [], ◌∷◌, ◌++◌, Some, Err, length}
use Rattle.sim_base.specs.Asking.{Asks}
use Rattle.sim_base.specs.Folder.{FolderView, with_read}
use Rattle.sim_base.specs.Path.{joined_path}
use Rattle.sim_base.specs.declared.folder.ReadFault.TheVariants as r
use Rattle.sim_base.specs.declared.read_book.ReadNote.{ReadNote}
use Rattle.value_types.specs.declared.shape.Shape.{Shape}
use Rattle.ssd_tree.specs.declared.tree.Binding.{Binding}
use Rattle.ssd_tree.specs.declared.tree.ComponentPart.{ComponentPart}
use Rattle.ssd_tree.specs.declared.tree.Origin.TheVariants.{File}
use Rattle.ssd_tree.specs.declared.tree.SourceBase.{SourceBase}
use Rattle.system_model.specs.declared.system.Component.{Component}
use Rattle.ssd_tree.specs.declared.tree.Setting.{Setting}
use Rattle.nested_documents.specs.States.{Gathered}
use Rattle.system_loading.specs.declared.documents.SystemDocument.{SystemDocument}
use Rattle.system_loading.specs.declared.outline.Outline.{Outline}
use Rattle.system_loading.specs.declared.parameters.GivenBinding.{GivenBinding}
use Rattle.system_loading.specs.declared.parameters.GivenSet.{GivenSet}
use Rattle.system_loading.specs.Documents.{IsStructure}
use Rattle.system_files.specs.declared.loading.LoadError.{LoadError}
use Rattle.system_files.specs.declared.loading.LoadError.TheVariants as end
use Rattle.system_files.specs.declared.named.FileFault.{FileFault}
use Rattle.system_files.specs.declared.named.FileFault.TheVariants.{Unread, Missing, TooBig, Broken}
use Rattle.system_files.specs.declared.subject.Subject.TheVariants as what
use Rattle.system_files.specs.Documents.{ComesDocument, Gathers, document_files}
use Rattle.system_files.specs.Files.{Absent, Faulty, Long}
use Rattle.system_files.specs.Order.{ComesAlone, Fails, Finding, IsValuesPart, ReachesShapes, ReachesBindings, Search, asked_for, asked_with, binding_files, model_path, part_files, part_path}

-- these files were read, no read failed, and by what the reads got the order of reading comes to this
pub record Loads (s : Search) (finding : Finding) (old new : FolderView) : Type 0 where
  pub reads : List ReadNote
  pub asked : List (List ℕ)
  pub comes : ComesAlone s reads asked finding
  pub asks : Asks reads asked old new

-- the file at a path, the last of these, is that of a binding's values, or that of its mapping where the values are taken
pub data ReachesPart (directory : List ℕ) (reads : List ReadNote) (o : Outline) (b : Binding) : List
    (List ℕ) → List ℕ → Type 0 where
  OfValues : (base : SourceBase) (source : List ℕ) (files : List (List ℕ)) (path : List ℕ) →
      b.values ≡ File base source →
      files ≡ part_files directory o b.owner b.values →
      path ≡ part_path directory o b.owner base source → ReachesPart directory reads o b files path
  OfMapping : (given : GivenSet) (base : SourceBase) (source : List ℕ)
      (files : List (List ℕ)) (path : List ℕ) →
      IsValuesPart directory reads o b.owner b.values given → b.mapping ≡ Some (File base source) →
      files ≡ binding_files directory o b → path ≡ part_path directory o b.owner base source →
      ReachesPart directory reads o b files path

-- the order of reading comes to the file at a path, the last of these
pub data ComesTo (s : Search) (reads : List ReadNote) : List (List ℕ) → List ℕ → Type 0 where
  ToDocument : (documents : List SystemDocument) (source : List ℕ) (setting : Setting)
      (asked : List (List ℕ)) (path : List ℕ) → s.subject ≡ what.System →
      ComesDocument IsStructure s.directory reads documents source setting →
      asked ≡ document_files s.directory documents ++ joined_path s.directory source ∷ [] →
      path ≡ joined_path s.directory source → ComesTo s reads asked path
  ToShape : (o : Outline) (taken : List ComponentPart) (shapes : List Shape) (c : ComponentPart)
      (rest : List ComponentPart) (asked : List (List ℕ)) (path : List ℕ) →
      ReachesShapes s reads o taken shapes (c ∷ rest) → asked ≡ asked_for s o (taken ++ c ∷ []) →
      path ≡ model_path s.directory c → ComesTo s reads asked path
  ToPart : (o : Outline) (shapes : List Shape) (taken : List Binding) (given : List GivenBinding)
      (b : Binding) (rest : List Binding) (files : List (List ℕ))
      (asked : List (List ℕ)) (path : List ℕ) →
      ReachesBindings s reads o shapes taken given (b ∷ rest) →
      ReachesPart s.directory reads o b files path →
      asked ≡ asked_with s o taken ++ files → ComesTo s reads asked path

-- these files were read, then comes the one at this path, and its read failed, and no other
pub record FailsToRead (s : Search) (path : List ℕ) (old new : FolderView) : Type 0 where
  pub reads : List ReadNote
  pub asked : List (List ℕ)
  pub mid : FolderView
  pub comes : ComesTo s reads (asked ++ path ∷ []) path
  pub asks : Asks reads asked old mid
  pub told : new ≡ with_read mid path (Err r.Failed)

-- these are the first that the order of reading asks for
pub data AsksSome (s : Search) (reads : List ReadNote) : List (List ℕ) → Type 0 where
  Nothing : (asked : List (List ℕ)) → asked ≡ [] → AsksSome s reads asked
  UpTo : (asked : List (List ℕ)) (path : List ℕ) → ComesTo s reads asked path →
      AsksSome s reads asked
  TakenDocuments : (documents : List SystemDocument) (g : Gathered) (asked : List (List ℕ)) →
      s.subject ≡ what.System → Gathers IsStructure s.directory reads documents g →
      asked ≡ document_files s.directory documents → AsksSome s reads asked
  Taken : (o : Outline) (taken : List ComponentPart) (shapes : List Shape)
      (rest : List ComponentPart) (asked : List (List ℕ)) →
      ReachesShapes s reads o taken shapes rest → asked ≡ asked_for s o taken →
      AsksSome s reads asked
  TakenBindings : (o : Outline) (shapes : List Shape) (taken : List Binding)
      (given : List GivenBinding) (rest : List Binding) (asked : List (List ℕ)) →
      ReachesBindings s reads o shapes taken given rest → asked ≡ asked_with s o taken →
      AsksSome s reads asked

-- some files were read, and no read failed
pub record ReadsSome (s : Search) (old new : FolderView) : Type 0 where
  pub reads : List ReadNote
  pub asked : List (List ℕ)
  pub some : AsksSome s reads asked
  pub asks : Asks reads asked old new

-- why the file at a path isn't taken
abbrev pub FileFails : Search → FileFault → List ℕ → FolderView → FolderView → Type 0
FileFails s Unread path old new = FailsToRead s path old new
FileFails s Missing path old new = Loads s (Fails path Absent) old new
FileFails s TooBig path old new = Loads s (Fails path Long) old new
FileFails s (Broken rule place ports) path old new =
    Loads s (Fails path (Faulty rule place ports)) old new

-- why nothing is loaded
abbrev pub EndsLoading : Search → LoadError → FolderView → FolderView → Type 0
EndsLoading s (end.File file fault) old new = FileFails s fault file.path old new
EndsLoading s end.Memory old new = ReadsSome s old new

-- a component's name and token are within the limits of those who start its peer, in bytes
pub record IsNamed (c : Component) : Type 0 where
  pub named : 1 ≤ length c.name
  pub name : length c.name ≤ 2 ^ 24
  pub token : length c.shape.token ≤ 2 ^ 24
