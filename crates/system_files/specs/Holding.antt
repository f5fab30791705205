-- What the files of a system come to whose run is to be held, or goes on from where it was held: a run that can't be held breaks a rule of its own, after all others.
use Rattle.std.specs.Prelude.{◌≡◌, ◌⊎◌, ℕ, ◌<◌, false, List, [], Option, Some, IsSomeAnd, slice_get}
use Rattle.sim_base.specs.Asking.{Asks}
use Rattle.sim_base.specs.Folder.{FolderView}
use Rattle.sim_base.specs.declared.numbers.CompId.{CompId}
use Rattle.sim_base.specs.declared.read_book.ReadNote.{ReadNote}
use Rattle.value_types.specs.declared.shape.Shape.{Shape}
use Rattle.doc_tree.specs.declared.rule.Rule.TheVariants.{CannotBeHeld}
use Rattle.system_model.specs.declared.plan.Plan.{Plan}
use Rattle.system_model.specs.declared.system.Component.{Component}
use Rattle.system_model.specs.declared.system.System.{System}
use Rattle.trace_text.specs.Holding.{IsHoldable, KeepsFromHolding}
use Rattle.ssd_tree.specs.declared.tree.ComponentPart.{ComponentPart}
use Rattle.system_loading.specs.declared.outline.Outline.{Outline}
use Rattle.system_loading.specs.declared.parameters.GivenBinding.{GivenBinding}
use Rattle.system_loading.specs.Assembly.{Makes}
use Rattle.system_loading.specs.Binding.{Binds}
use Rattle.system_loading.specs.Outlines.{place_in}
use Rattle.system_files.specs.declared.loaded.Loaded.{Loaded}
use Rattle.system_files.specs.declared.loading.LoadError.{LoadError}
use Rattle.system_files.specs.declared.loading.LoadError.TheVariants as end
use Rattle.system_files.specs.declared.named.FileFault.{FileFault}
use Rattle.system_files.specs.declared.named.FileFault.TheVariants.{Unread, Missing, TooBig, Broken}
use Rattle.system_files.specs.declared.subject.Subject.TheVariants as what
use Rattle.system_files.specs.Documents.{told_in}
use Rattle.system_files.specs.Files.{Absent, AreSteady, Faulty, Flaw, Long}
use Rattle.system_files.specs.Loads.{FailsToRead, ReadsSome}
use Rattle.system_files.specs.Order.{Agree, Comes, Fails, Finding, Found, ReachesBindings, Search, asked_with, folders_of, search_of}

-- the files of a system whose run goes by this plan
abbrev pub search_by : List ℕ → Plan → Search
search_by directory plan = search_of what.System directory plan.resolution

-- the element is that of a component that keeps the run from being held
abbrev pub IsUnheld : Outline → System → Plan → ℕ → Type 0
IsUnheld o system plan node =
    (i : ℕ) × ((c : ComponentPart) × (slice_get o.systems.components i ≡ Some c) ×
    (c.node ≡ node) × KeepsFromHolding system.components system.ports plan i)

-- and the first in document order
pub record IsFirstUnheld (o : Outline) (system : System) (plan : Plan) (node : ℕ) : Type 0 where
  pub is : IsUnheld o system plan node
  pub first : (before : ℕ) → before < node → IsUnheld o system plan before → ⊥

-- these files were read, and make this system of this outline
pub record MakesWhole (s : Search) (reads : List ReadNote) (o : Outline)
    (loaded : Loaded) (asked : List (List ℕ)) : Type 0 where
  pub shapes : List Shape
  pub given : List GivenBinding
  pub reaches : ReachesBindings s reads o shapes o.systems.bindings given []
  pub binds : Binds o shapes given loaded.bound
  pub makes : Makes o shapes loaded.system
  pub folders : loaded.folders ≡ folders_of s.directory o
  pub asked_is : asked ≡ asked_with s o o.systems.bindings

-- what the order of reading comes to
pub data ComesHeld (s : Search) (plan : Plan) (reads : List ReadNote) : List (List ℕ) →
    Finding → Type 0 where
  -- a file isn't taken, as for a run
  Refused : (path : List ℕ) (asked : List (List ℕ)) (finding : Finding) (flaw : Flaw) →
      Comes s reads asked (Fails path flaw) → finding ≡ Fails path flaw →
      ComesHeld s plan reads asked finding
  -- the files make a system whose run can't be held
  Unheld : (o : Outline) (loaded : Loaded) (node : ℕ) (asked : List (List ℕ))
      (finding : Finding) → MakesWhole s reads o loaded asked →
      IsFirstUnheld o loaded.system plan node →
      finding ≡ Fails (told_in s.directory o node) (Faulty CannotBeHeld (place_in o node) []) →
      ComesHeld s plan reads asked finding
  -- they make one whose run can be held
  Holdable : (loaded : Loaded) (asked : List (List ℕ)) (finding : Finding) →
      Comes s reads asked (Found loaded) → IsHoldable loaded.system plan → finding ≡ Found loaded →
      ComesHeld s plan reads asked finding

-- these files were read, no read failed, and it comes to this; and where no path was read twice with two answers, to nothing else
pub record LoadsHeld (s : Search) (plan : Plan) (finding : Finding)
    (old new : FolderView) : Type 0 where
  pub reads : List ReadNote
  pub asked : List (List ℕ)
  pub comes : ComesHeld s plan reads asked finding
  pub only : AreSteady reads → (others : List (List ℕ)) (other : Finding) →
      ComesHeld s plan reads others other → (asked ≡ others) × Agree finding other
  pub asks : Asks reads asked old new

-- why the file at a path isn't taken
abbrev pub FileFailsHeld : Search → Plan → FileFault → List ℕ → FolderView → FolderView → Type 0
FileFailsHeld s plan Unread path old new = FailsToRead s path old new
FileFailsHeld s plan Missing path old new = LoadsHeld s plan (Fails path Absent) old new
FileFailsHeld s plan TooBig path old new = LoadsHeld s plan (Fails path Long) old new
FileFailsHeld s plan (Broken rule place ports) path old new =
    LoadsHeld s plan (Fails path (Faulty rule place ports)) old new

-- why nothing is loaded
abbrev pub EndsHeld : Search → Plan → LoadError → FolderView → FolderView → Type 0
EndsHeld s plan (end.File file fault) old new = FileFailsHeld s plan fault file.path old new
EndsHeld s plan end.Memory old new = ReadsSome s old new

-- ---- steps

-- the component of this number can't serialize its state, or is the one with whose ports the header passes its limit
abbrev pub HoldsBack : Component → Option CompId → ℕ → Type 0
HoldsBack component passing number =
    (component.shape.can_serialize_state ≡ false) ⊎
    IsSomeAnd passing (λ (id : CompId). id.0 ≡ number)

-- the end tells the rule at an element of the outline, unless memory runs out
abbrev pub TellsUnheld : List ℕ → Outline → ℕ → LoadError → Type 0
TellsUnheld directory o node (end.File file fault) =
    (file.path ≡ told_in directory o node) ×
    (fault ≡ Broken CannotBeHeld (place_in o node) [])
TellsUnheld directory o node end.Memory = Unit {0}
