-- What each step of a loading finds alone, and how it ends.
use Rattle.std.specs.Prelude.{◌≡◌, ◌⊎◌, ℕ, ◌<◌, Bool, All, List, [], ◌∷◌, ◌++◌, map, Option, Some, None, IfSome, IsSome, IsSomeAnd, Err, slice_get}
use Rattle.std.specs.List.{AllZip, flat_map}
use Rattle.sim_base.specs.Asking.{Asks}
use Rattle.sim_base.specs.Folder.{FolderView, with_read}
use Rattle.sim_base.specs.Path.{joined_path}
use Rattle.sim_base.specs.declared.folder.ReadFault.{ReadFault}
use Rattle.sim_base.specs.declared.folder.ReadFault.TheVariants as r
use Rattle.sim_base.specs.declared.numbers.PortId.{PortId}
use Rattle.sim_base.specs.declared.read_book.ReadNote.{ReadNote}
use Rattle.value_types.specs.declared.shape.Shape.{Shape}
use Rattle.doc_tree.specs.declared.place.Place.{Place}
use Rattle.doc_tree.specs.declared.rule.NestingRule.{NestingRule}
use Rattle.doc_tree.specs.declared.rule.Rule.{Rule}
use Rattle.doc_tree.specs.declared.rule.Rule.TheVariants.{Nesting}
use Rattle.system_model.specs.declared.bound.Bound.{Bound}
use Rattle.parameter_values.specs.Ranges.{AreInRange}
use Rattle.ssd_tree.specs.declared.tree.Binding.{Binding}
use Rattle.ssd_tree.specs.declared.tree.ComponentPart.{ComponentPart}
use Rattle.ssd_tree.specs.declared.tree.Origin.{Origin}
use Rattle.ssd_tree.specs.declared.tree.Origin.TheVariants.{File, Inline}
use Rattle.ssd_tree.specs.declared.tree.Owner.{Owner}
use Rattle.ssd_tree.specs.declared.tree.Setting.{Setting}
use Rattle.nested_documents.specs.declared.numbers.Place as elements
use Rattle.nested_documents.specs.States.{Gathered}
use Rattle.flatten.specs.Flat.{source_at}
use Rattle.system_loading.specs.declared.fault.Fault.{Fault}
use Rattle.system_loading.specs.declared.fault.Fault.TheVariants as f
use Rattle.system_loading.specs.declared.binding.BindingFault.{BindingFault}
use Rattle.system_loading.specs.declared.binding.BindingFault.TheVariants as binds
use Rattle.system_loading.specs.declared.documents.SystemDocument.{SystemDocument}
use Rattle.system_loading.specs.declared.outline.Outline.{Outline}
use Rattle.system_loading.specs.declared.parameters.GivenBinding.{GivenBinding}
use Rattle.system_loading.specs.declared.parameters.GivenMapping.{GivenMapping}
use Rattle.system_loading.specs.declared.parameters.GivenSet.{GivenSet}
use Rattle.system_loading.specs.Assembly.{BreaksTogetherAlone, MakesAlone}
use Rattle.system_loading.specs.Binding.{BindsAlone, BreaksBindingAlone}
use Rattle.system_loading.specs.Documents.{BreaksStructure, IsStructure, Said}
use Rattle.system_loading.specs.Outlines.{element_in, lone_outline, place_at, place_in}
use Rattle.system_loading.specs.Readings.{BreaksAlone, BreaksMapping, BreaksMappingWithin, BreaksModel, BreaksValues, BreaksValuesWithin, IsMapping, IsMappingWithin, IsModel, IsValues, IsValuesWithin, SaysAlone}
use Rattle.system_files.specs.declared.loaded.Loaded.{Loaded}
use Rattle.system_files.specs.declared.loading.LoadError.{LoadError}
use Rattle.system_files.specs.declared.loading.LoadError.TheVariants as end
use Rattle.system_files.specs.declared.named.NamedFile.{NamedFile}
use Rattle.system_files.specs.declared.named.FileFault.{FileFault}
use Rattle.system_files.specs.declared.named.FileFault.TheVariants.{Unread, Missing, TooBig, Broken}
use Rattle.system_files.specs.declared.subject.Subject.{Subject}
use Rattle.system_files.specs.declared.subject.Subject.TheVariants as what
use Rattle.system_files.specs.Documents.{Adds, ComesDocument, Gathers, GathersAll, HasNestingFlaw, document_files, told_at, told_in}
use Rattle.system_files.specs.Files.{Absent, Faulty, HasFile, LacksFile, Flaw, Long, first_uses}
use Rattle.system_files.specs.Order.{IsBindingToldIn, IsPart, binding_files, folders_of, model_path, origin_of, part_files, part_path}

-- ---- a file alone

-- the bytes are a description of this shape and no other, and break no rule; or they break this one first, and are no description
abbrev pub SaysModel : ℕ → List ℕ → Shape → Type 0
SaysModel per_second bytes shape =
    SaysAlone (IsModel per_second bytes) (BreaksModel per_second bytes) shape

abbrev pub FailsModel : ℕ → List ℕ → Rule → Place → Type 0
FailsModel per_second bytes rule place =
    BreaksAlone (IsModel per_second bytes) (BreaksModel per_second bytes) rule place

-- the same of a document of a system, in a setting
abbrev pub SaysStructure : Setting → List ℕ → Said → Type 0
SaysStructure s bytes said = SaysAlone (IsStructure s bytes) (BreaksStructure s bytes) said

abbrev pub FailsStructure : Setting → List ℕ → Rule → Place → Type 0
FailsStructure s bytes rule place =
    BreaksAlone (IsStructure s bytes) (BreaksStructure s bytes) rule place

-- the same of a set of parameter values
abbrev pub SaysValues : List ℕ → GivenSet → Type 0
SaysValues bytes given = SaysAlone (IsValues bytes) (BreaksValues bytes) given

abbrev pub FailsValues : List ℕ → Rule → Place → Type 0
FailsValues bytes rule place = BreaksAlone (IsValues bytes) (BreaksValues bytes) rule place

-- the same of a mapping of parameters
abbrev pub SaysMapping : List ℕ → GivenMapping → Type 0
SaysMapping bytes given = SaysAlone (IsMapping bytes) (BreaksMapping bytes) given

abbrev pub FailsMapping : List ℕ → Rule → Place → Type 0
FailsMapping bytes rule place = BreaksAlone (IsMapping bytes) (BreaksMapping bytes) rule place

-- the same of what stands in the outline
abbrev pub SaysValuesWithin : Outline → ℕ → GivenSet → Type 0
SaysValuesWithin o node given = SaysAlone (IsValuesWithin o node) (BreaksValuesWithin o node) given

abbrev pub FailsValuesWithin : Outline → ℕ → Rule → Place → Type 0
FailsValuesWithin o node rule place =
    BreaksAlone (IsValuesWithin o node) (BreaksValuesWithin o node) rule place

abbrev pub SaysMappingWithin : Outline → ℕ → GivenMapping → Type 0
SaysMappingWithin o node given =
    SaysAlone (IsMappingWithin o node) (BreaksMappingWithin o node) given

abbrev pub FailsMappingWithin : Outline → ℕ → Rule → Place → Type 0
FailsMappingWithin o node rule place =
    BreaksAlone (IsMappingWithin o node) (BreaksMappingWithin o node) rule place

-- the file at a path was read, and says this
pub record TakesFile {A : Type 0} (Says : List ℕ → A → Type 0) (path : List ℕ) (said : A)
    (old new : FolderView) : Type 0 where
  pub reads : List ReadNote
  pub has : HasFile Says reads path said
  pub asks : Asks reads (path ∷ []) old new

-- it was read, and isn't taken, with this flaw
pub record LeavesFile (Breaks : List ℕ → Rule → Place → Type 0) (path : List ℕ) (flaw : Flaw)
    (old new : FolderView) : Type 0 where
  pub reads : List ReadNote
  pub lacks : LacksFile Breaks reads path flaw
  pub asks : Asks reads (path ∷ []) old new

-- it was read, and the read didn't fail, or nothing was
abbrev pub MayAsk : List ℕ → FolderView → FolderView → Type 0
MayAsk path old new = ((reads : List ReadNote) × Asks reads (path ∷ []) old new) ⊎ (new ≡ old)

-- why the file at a path isn't taken
abbrev pub FaultAt : (List ℕ → Rule → Place → Type 0) → List ℕ → FileFault → FolderView →
    FolderView → Type 0
FaultAt Breaks path Unread old new = new ≡ with_read old path (Err r.Failed)
FaultAt Breaks path Missing old new = LeavesFile Breaks path Absent old new
FaultAt Breaks path TooBig old new = LeavesFile Breaks path Long old new
FaultAt Breaks path (Broken rule place ports) old new =
    LeavesFile Breaks path (Faulty rule place ports) old new

-- the end at the file at a path
abbrev pub EndsAt : (List ℕ → Rule → Place → Type 0) → List ℕ → LoadError → FolderView →
    FolderView → Type 0
EndsAt Breaks path (end.File file fault) old new =
    (file.path ≡ path) × FaultAt Breaks path fault old new
EndsAt Breaks path end.Memory old new = MayAsk path old new

-- the end at the file at a path of which nothing is asked but its bytes
abbrev pub EndsUnread : List ℕ → LoadError → FolderView → FolderView → Type 0
EndsUnread path ended old new = EndsAt (λ bytes rule place. ⊥) path ended old new

-- the end at a file that wasn't answered
abbrev pub unread_end : NamedFile → ReadFault → LoadError
unread_end file r.Failed = end.File file Unread
unread_end file r.Missing = end.File file Missing
unread_end file (r.TooBig length) = end.File file TooBig
unread_end file r.Memory = end.Memory

-- the end at a file that breaks a rule by itself
abbrev pub fault_end : NamedFile → Fault → LoadError
fault_end file (f.Broken rule place) = end.File file (Broken rule place [])
fault_end file f.Memory = end.Memory

-- ---- the outline

-- the outline of a subject, found alone
abbrev pub OutlinesAlone : Subject → List ℕ → List ReadNote → Outline → Type 0
OutlinesAlone what.Fmu directory reads o = o ≡ lone_outline
OutlinesAlone what.System directory reads o = GathersAll SaysStructure directory reads o

-- it was taken, and its documents were read
pub record TakesOutline (subject : Subject) (directory : List ℕ) (o : Outline)
    (old new : FolderView) : Type 0 where
  pub reads : List ReadNote
  pub is : OutlinesAlone subject directory reads o
  pub asks : Asks reads (document_files directory o.documents) old new

-- these documents were read, and come to this
pub record GathersFrom (directory : List ℕ) (documents : List SystemDocument) (g : Gathered)
    (old new : FolderView) : Type 0 where
  pub reads : List ReadNote
  pub gathers : Gathers SaysStructure directory reads documents g
  pub asks : Asks reads (document_files directory documents) old new

-- the document that comes next was read and added
pub record AddsDocument (directory path : List ℕ) (s : Setting) (before : List SystemDocument)
    (old_nest : Gathered) (documents : List SystemDocument) (new_nest : Gathered)
    (old new : FolderView) : Type 0 where
  pub said : Said
  pub takes : TakesFile (SaysStructure s) (joined_path directory path) said old new
  pub adds : Adds said path before old_nest documents new_nest

-- these documents were read, and then comes the one at this path
pub record ReachesDocument (directory : List ℕ) (documents : List SystemDocument) (path : List ℕ)
    (s : Setting) (old new : FolderView) : Type 0 where
  pub reads : List ReadNote
  pub comes : ComesDocument SaysStructure directory reads documents path s
  pub asks : Asks reads (document_files directory documents) old new

-- the end tells the rule at an element of a document, unless memory runs out
abbrev pub TellsNesting : List ℕ → List SystemDocument → elements.Place → NestingRule → LoadError →
    Type 0
TellsNesting directory documents place rule (end.File file fault) =
    (file.path ≡ told_at directory documents place) ×
    (fault ≡ Broken (Nesting rule) (place_at documents place) [])
TellsNesting directory documents place rule end.Memory = Unit {0}

-- the end before there is an outline: at a document, where documents stand in one another as they may not, or out of memory
pub data EndsOutline (subject : Subject) (directory : List ℕ) (ended : LoadError)
    (old new : FolderView) : Type 0 where
  EndsAtDocument : (documents : List SystemDocument) (path : List ℕ) (s : Setting)
      (mid : FolderView) → subject ≡ what.System →
      ReachesDocument directory documents path s old mid →
      EndsAt (FailsStructure s) (joined_path directory path) ended mid new →
      EndsOutline subject directory ended old new
  EndsAtNesting : (documents : List SystemDocument) (g : Gathered) (place : elements.Place)
      (rule : NestingRule) → subject ≡ what.System → GathersFrom directory documents g old new →
      HasNestingFlaw g place rule → TellsNesting directory documents place rule ended →
      EndsOutline subject directory ended old new
  EndsBetween : (documents : List SystemDocument) (g : Gathered) → subject ≡ what.System →
      GathersFrom directory documents g old new → ended ≡ end.Memory →
      EndsOutline subject directory ended old new
  NoOutlineRoom : ended ≡ end.Memory → new ≡ old → EndsOutline subject directory ended old new

-- ---- the shapes

-- the description of the component's FMU is that of this shape alone
abbrev pub HasShapeAlone : ℕ → List ℕ → List ReadNote → ComponentPart → Shape → Type 0
HasShapeAlone per_second directory reads c shape =
    HasFile (SaysModel per_second) reads (model_path directory c) shape

-- the descriptions of these components, each once
abbrev pub paths_of : List ℕ → List ComponentPart → List (List ℕ)
paths_of directory components = first_uses (map (model_path directory) components)

-- none of the first n components has the source
abbrev pub IsNew : List ComponentPart → ℕ → List ℕ → Type 0
IsNew components n source = (k : ℕ) → k < n → source_at components k ≡ Some source → ⊥

-- the shape of the next component is that of the first with its source, or its description was read
pub data TakesNext (per_second : ℕ) (directory : List ℕ) (components : List ComponentPart) (n : ℕ)
    (c : ComponentPart) (shapes : List Shape) (shape : Shape) (old new : FolderView) : Type 0 where
  Copied : (first : ℕ) → source_at components first ≡ Some c.source →
      slice_get shapes first ≡ Some shape → new ≡ old →
      TakesNext per_second directory components n c shapes shape old new
  Read : IsNew components n c.source →
      TakesFile (SaysModel per_second) (model_path directory c) shape old new →
      TakesNext per_second directory components n c shapes shape old new

-- the end at the next component
pub data EndsNext (per_second : ℕ) (directory : List ℕ) (components : List ComponentPart) (n : ℕ)
    (c : ComponentPart) (ended : LoadError) (old new : FolderView) : Type 0 where
  NoCopy : ended ≡ end.Memory → new ≡ old →
      EndsNext per_second directory components n c ended old new
  NoRead : IsNew components n c.source →
      EndsAt (FailsModel per_second) (model_path directory c) ended old new →
      EndsNext per_second directory components n c ended old new

-- each component has its shape, and their descriptions were read
pub record TakesShapes (per_second : ℕ) (directory : List ℕ) (components : List ComponentPart)
    (shapes : List Shape) (old new : FolderView) : Type 0 where
  pub reads : List ReadNote
  pub each : AllZip (HasShapeAlone per_second directory reads) components shapes
  pub asks : Asks reads (paths_of directory components) old new

-- the end before each component has its shape: at the description of one, or out of memory
pub data EndsShapes (per_second : ℕ) (directory : List ℕ) (components : List ComponentPart)
    (ended : LoadError) (old new : FolderView) : Type 0 where
  AtShape : (taken : List ComponentPart) (shapes : List Shape) (c : ComponentPart)
      (rest : List ComponentPart) (mid : FolderView) → components ≡ taken ++ c ∷ rest →
      TakesShapes per_second directory taken shapes old mid →
      paths_of directory (taken ++ c ∷ []) ≡ paths_of directory taken ++
      model_path directory c ∷ [] →
      EndsAt (FailsModel per_second) (model_path directory c) ended mid new →
      EndsShapes per_second directory components ended old new
  NoShapeRoom : (taken : List ComponentPart) (shapes : List Shape) (rest : List ComponentPart) →
      components ≡ taken ++ rest → TakesShapes per_second directory taken shapes old new →
      ended ≡ end.Memory → EndsShapes per_second directory components ended old new

-- ---- the bindings

-- what stands within an element stands in a document
abbrev pub HasOriginDocument : Outline → Origin → Type 0
HasOriginDocument o (File base path) = Unit {0}
HasOriginDocument o (Inline node) = IsSome (element_in o node)

abbrev pub HasBindingDocument : Outline → Binding → Type 0
HasBindingDocument o b =
    HasOriginDocument o b.values × IfSome b.mapping (HasOriginDocument o)

abbrev pub HasDocument : Outline → Type 0
HasDocument o = All (HasBindingDocument o) o.systems.bindings

-- the end at an element of the outline, which is told in the file at a path
abbrev pub EndsWithin : (Rule → Place → Type 0) → List ℕ → LoadError → Type 0
EndsWithin Breaks path (end.File file fault) =
    (rule : Rule) × ((place : Place) × (file.path ≡ path) ×
    (fault ≡ Broken rule place []) × Breaks rule place)
EndsWithin Breaks path end.Memory = Unit {0}

-- the end tells the fault in the file at a path, unless memory runs out
abbrev pub TellsWithin : Fault → List ℕ → LoadError → Type 0
TellsWithin (f.Broken rule place) path (end.File file fault) =
    (file.path ≡ path) × (fault ≡ Broken rule place [])
TellsWithin f.Memory path (end.File file fault) = ⊥
TellsWithin fault path end.Memory = Unit {0}

-- the end at a part of a binding
abbrev pub EndsPart : (List ℕ → Rule → Place → Type 0) → (Outline → ℕ → Rule → Place → Type 0) →
    List ℕ → Outline → Owner → Origin → LoadError → FolderView → FolderView → Type 0
EndsPart Breaks Within directory o owner (File base path) ended old new =
    EndsAt Breaks (part_path directory o owner base path) ended old new
EndsPart Breaks Within directory o owner (Inline node) ended old new =
    (new ≡ old) × EndsWithin (Within o node) (told_in directory o node) ended

-- the values of a binding, found alone
abbrev pub IsValuesAlone : List ℕ → List ReadNote → Outline → Owner → Origin → GivenSet → Type 0
IsValuesAlone directory reads o owner origin given =
    IsPart SaysValues SaysValuesWithin directory reads o owner origin given

-- the mapping of a binding, found alone, where it has one
abbrev pub IsMappingAlone : List ℕ → List ReadNote → Outline → Owner → Option Origin →
    Option GivenMapping → Type 0
IsMappingAlone directory reads o owner None None = Unit {0}
IsMappingAlone directory reads o owner None (Some given) = ⊥
IsMappingAlone directory reads o owner (Some origin) None = ⊥
IsMappingAlone directory reads o owner (Some origin) (Some given) =
    IsPart SaysMapping SaysMappingWithin directory reads o owner origin given

-- the binding gives this, found alone
pub record IsGivenAlone (directory : List ℕ) (reads : List ReadNote) (o : Outline) (b : Binding)
    (given : GivenBinding) : Type 0 where
  pub values : IsValuesAlone directory reads o b.owner b.values given.values
  pub mapping : IsMappingAlone directory reads o b.owner b.mapping given.mapping
  pub range : AreInRange given.values.set

-- a part of a binding is this, and its file was read where it has one
pub record TakesPart {A : Type 0} (Says : List ℕ → A → Type 0) (Within : Outline → ℕ → A → Type 0)
    (directory : List ℕ) (o : Outline) (owner : Owner) (origin : Origin) (given : A)
    (old new : FolderView) : Type 0 where
  pub reads : List ReadNote
  pub is : IsPart Says Within directory reads o owner origin given
  pub asks : Asks reads (part_files directory o owner origin) old new

-- the values of a binding are these, and their file was read where they have one
abbrev pub TakesValues : List ℕ → Outline → Binding → GivenSet → FolderView → FolderView → Type 0
TakesValues directory o b given old new =
    TakesPart SaysValues SaysValuesWithin directory o b.owner b.values given old new

-- the binding gives this, and its files were read
pub record TakesBinding (directory : List ℕ) (o : Outline) (b : Binding) (given : GivenBinding)
    (old new : FolderView) : Type 0 where
  pub reads : List ReadNote
  pub gives : IsGivenAlone directory reads o b given
  pub asks : Asks reads (binding_files directory o b) old new

-- the end at a binding: at its values, or at its mapping where the values were taken
pub data EndsBinding (directory : List ℕ) (o : Outline) (b : Binding)
    (ended : LoadError) (old new : FolderView) : Type 0 where
  AtValues : EndsPart FailsValues FailsValuesWithin directory o b.owner b.values ended old
      new → EndsBinding directory o b ended old new
  AtMapping : (given : GivenSet) (origin : Origin) (mid : FolderView) →
      TakesValues directory o b given old mid → b.mapping ≡ Some origin →
      EndsPart FailsMapping FailsMappingWithin directory o b.owner origin ended mid new →
      EndsBinding directory o b ended old new

-- each binding gives what it gives, and their files were read
pub record TakesBindings (directory : List ℕ) (o : Outline) (bindings : List Binding)
    (given : List GivenBinding) (old new : FolderView) : Type 0 where
  pub reads : List ReadNote
  pub each : AllZip (IsGivenAlone directory reads o) bindings given
  pub asks : Asks reads (flat_map (binding_files directory o) bindings) old new

-- the end before each binding is taken: at one of them, or out of memory
pub data EndsBindings (directory : List ℕ) (o : Outline) (ended : LoadError)
    (old new : FolderView) : Type 0 where
  AtBinding : (taken : List Binding) (given : List GivenBinding) (b : Binding) (rest : List Binding)
      (mid : FolderView) → o.systems.bindings ≡ taken ++ b ∷ rest →
      TakesBindings directory o taken given old mid →
      EndsBinding directory o b ended mid new →
      EndsBindings directory o ended old new
  NoBindingRoom : ended ≡ end.Memory → new ≡ old → EndsBindings directory o ended old new

-- ---- the system

-- each binding gives a mapping where it has one
abbrev pub HasParts : List Binding → List GivenBinding → Type 0
HasParts bindings given =
    AllZip (λ (b : Binding) (g : GivenBinding). IsSome g.mapping → IsSome b.mapping) bindings given

-- the part of a binding in which a fault is told stands in the outline
abbrev pub HasBindingPart : Outline → BindingFault → Type 0
HasBindingPart o (binds.Broken binding in_mapping rule place) =
    IsSomeAnd (slice_get o.systems.bindings binding) (λ (b : Binding).
    IsSome (origin_of in_mapping b))
HasBindingPart o binds.Memory = Unit {0}

-- the end at a rule that what bindings give breaks, or that an outline and shapes break together, or out of memory
pub data EndsTogether (directory : List ℕ) (o : Outline) (shapes : List Shape)
    (given : List GivenBinding) (ended : LoadError) : Type 0 where
  AtParameter : (n : ℕ) (in_mapping : Bool) (rule : Rule) (place : Place) (ports : List PortId)
      (file : NamedFile) → BreaksBindingAlone o shapes given n in_mapping rule place →
      IsBindingToldIn directory o n in_mapping file.path → ports ≡ [] →
      ended ≡ end.File file (Broken rule place ports) → EndsTogether directory o shapes given ended
  AtRule : (bound : Bound) (rule : Rule) (node : ℕ) (ports : List PortId)
      (file : NamedFile) → BindsAlone o shapes given bound →
      BreaksTogetherAlone o shapes rule node ports → file.path ≡ told_in directory o node →
      ended ≡ end.File file (Broken rule (place_in o node) ports) →
      EndsTogether directory o shapes given ended
  NoSystemRoom : ended ≡ end.Memory → EndsTogether directory o shapes given ended

-- the shapes and what the bindings give were taken
pub record TakesParts (per_second : ℕ) (directory : List ℕ) (o : Outline) (shapes : List Shape)
    (given : List GivenBinding) (old new : FolderView) : Type 0 where
  pub mid : FolderView
  pub takes : TakesShapes per_second directory o.systems.components shapes old mid
  pub gives : TakesBindings directory o o.systems.bindings given mid new

-- with these shapes the outline makes this system, and what the bindings give these values
pub record IsLoaded (directory : List ℕ) (o : Outline) (shapes : List Shape)
    (given : List GivenBinding) (loaded : Loaded) : Type 0 where
  pub binds : BindsAlone o shapes given loaded.bound
  pub makes : MakesAlone o shapes loaded.system
  pub folders : loaded.folders ≡ folders_of directory o

-- they were taken, and make this system
pub record TakesModels (per_second : ℕ) (directory : List ℕ) (o : Outline) (loaded : Loaded)
    (old new : FolderView) : Type 0 where
  pub shapes : List Shape
  pub given : List GivenBinding
  pub takes : TakesParts per_second directory o shapes given old new
  pub is : IsLoaded directory o shapes given loaded

-- the end after there is an outline
pub data EndsModels (per_second : ℕ) (directory : List ℕ) (o : Outline) (ended : LoadError)
    (old new : FolderView) : Type 0 where
  OfShapes : EndsShapes per_second directory o.systems.components ended old new →
      EndsModels per_second directory o ended old new
  OfBindings : (shapes : List Shape) (mid : FolderView) →
      TakesShapes per_second directory o.systems.components shapes old mid →
      EndsBindings directory o ended mid new → EndsModels per_second directory o ended old new
  OfSystem : (shapes : List Shape) (given : List GivenBinding) →
      TakesParts per_second directory o shapes given old new →
      EndsTogether directory o shapes given ended → EndsModels per_second directory o ended old new
