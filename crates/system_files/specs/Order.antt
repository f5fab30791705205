-- The order of reading: what the files in a directory come to (SSP 1.0, SystemStructure.ssd, SSV and SSM; FMI 3.0, 2.4). First the documents of the system,
-- then the description of each FMU in the order of its first use, then the values and the mapping of each binding, then the rules that they break together.
use Rattle.std.specs.Prelude.{◌≡◌, ℕ, Bool, true, false, ◌==◌, if◌then◌else◌, List, [], ◌∷◌, ◌++◌, length, map, Option, Some, None, IsSomeAnd, slice_get}
use Rattle.std.specs.List.{AllZip, flat_map}
use Rattle.std.specs.Option.{option_map_or}
use Rattle.sim_base.specs.Path.{joined_path}
use Rattle.sim_base.specs.declared.numbers.PortId.{PortId}
use Rattle.value_types.specs.declared.shape.Shape.{Shape}
use Rattle.system_model.specs.declared.bound.Bound.{Bound}
use Rattle.sim_base.specs.declared.read_book.ReadNote.{ReadNote}
use Rattle.doc_tree.specs.declared.place.Place.{Place}
use Rattle.doc_tree.specs.declared.rule.Rule.{Rule}
use Rattle.ssd_tree.specs.declared.tree.Binding.{Binding}
use Rattle.ssd_tree.specs.declared.tree.ComponentPart.{ComponentPart}
use Rattle.ssd_tree.specs.declared.tree.Origin.{Origin}
use Rattle.ssd_tree.specs.declared.tree.Origin.TheVariants.{File, Inline}
use Rattle.ssd_tree.specs.declared.tree.Owner.{Owner}
use Rattle.ssd_tree.specs.declared.tree.Owner.TheVariants as owner
use Rattle.ssd_tree.specs.declared.tree.SourceBase.{SourceBase}
use Rattle.ssd_tree.specs.declared.tree.SourceBase.TheVariants as base
use Rattle.system_loading.specs.declared.outline.Outline.{Outline}
use Rattle.system_loading.specs.declared.parameters.GivenBinding.{GivenBinding}
use Rattle.system_loading.specs.declared.parameters.GivenMapping.{GivenMapping}
use Rattle.system_loading.specs.declared.parameters.GivenSet.{GivenSet}
use Rattle.system_loading.specs.Assembly.{BreaksTogether, HaveSameParts, Makes}
use Rattle.system_loading.specs.Binding as parameters
use Rattle.system_loading.specs.Documents.{BreaksStructure, IsStructure}
use Rattle.system_loading.specs.Outlines.{lone_outline, place_in}
use Rattle.system_loading.specs.Readings.{BreaksMapping, BreaksMappingWithin, BreaksModel, BreaksValues, BreaksValuesWithin, IsMapping, IsMappingWithin, IsModel, IsValues, IsValuesWithin}
use Rattle.system_files.specs.declared.subject.Subject.{Subject}
use Rattle.system_files.specs.declared.subject.Subject.TheVariants as what
use Rattle.system_files.specs.declared.loaded.Loaded.{Loaded}
use Rattle.system_files.specs.Documents.{GathersAll, LacksOutline, document_files, told_in}
use Rattle.system_files.specs.Files.{Absent, AreSteady, Faulty, Flaw, HasFile, LacksFile, Long, description_path, first_uses}

-- what is asked for, in which directory, and how many counts a second has
pub record Search : Type 0 where
  pub subject : Subject
  pub directory : List ℕ
  pub per_second : ℕ

abbrev pub search_of : Subject → List ℕ → ℕ → Search
search_of subject directory per_second =
    record { subject = subject; directory = directory; per_second = per_second }

-- ---- files

-- the folder of a component's FMU: its source below the directory; without a source the directory itself
abbrev pub folder_of : List ℕ → ComponentPart → List ℕ
folder_of directory c = if length c.source == 0 then directory else joined_path directory c.source

abbrev pub folders_of : List ℕ → Outline → List (List ℕ)
folders_of directory o = map (folder_of directory) o.systems.components

abbrev pub model_path : List ℕ → ComponentPart → List ℕ
model_path directory c = description_path (folder_of directory c)

-- what is asked for up to the descriptions of these components, each once
abbrev pub asked_for : Search → Outline → List ComponentPart → List (List ℕ)
asked_for s o components =
    document_files s.directory o.documents ++
    first_uses (map (model_path s.directory) components)

-- ---- the outline and the shapes

-- the outline of a subject: an FMU alone has one by itself, and a system that of its documents
abbrev pub Outlines : Subject → List ℕ → List ReadNote → Outline → Type 0
Outlines what.Fmu directory reads o = o ≡ lone_outline
Outlines what.System directory reads o = GathersAll IsStructure directory reads o

-- the description of the component's FMU is that of this shape
abbrev pub HasShape : Search → List ReadNote → ComponentPart → Shape → Type 0
HasShape s reads c shape = HasFile (IsModel s.per_second) reads (model_path s.directory c) shape

-- the first components of the outline have these shapes, and the others come after them
pub record ReachesShapes (s : Search) (reads : List ReadNote) (o : Outline) (taken : List ComponentPart)
    (shapes : List Shape) (rest : List ComponentPart) : Type 0 where
  pub outline : Outlines s.subject s.directory reads o
  pub is : o.systems.components ≡ taken ++ rest
  pub each : AllZip (HasShape s reads) taken shapes

-- ---- the bindings

-- the folder below which a part of a binding stands: that of the system, or of the FMU of the component that it is a binding of
abbrev pub base_folder : List ℕ → Outline → Owner → SourceBase → List ℕ
base_folder directory o owner base.Description = directory
base_folder directory o (owner.System place) base.Component = directory
base_folder directory o (owner.Component place) base.Component =
    option_map_or (folder_of directory) (slice_get o.systems.components place) directory

abbrev pub part_path : List ℕ → Outline → Owner → SourceBase → List ℕ → List ℕ
part_path directory o owner base path = joined_path (base_folder directory o owner base) path

-- the files that a part of a binding asks for: its own, or none where it stands in the outline
abbrev pub part_files : List ℕ → Outline → Owner → Origin → List (List ℕ)
part_files directory o owner (File base path) = part_path directory o owner base path ∷ []
part_files directory o owner (Inline node) = []

-- the file in which it is told
abbrev pub part_told : List ℕ → Outline → Owner → Origin → List ℕ
part_told directory o owner (File base path) = part_path directory o owner base path
part_told directory o owner (Inline node) = told_in directory o node

-- a part is this, in its file or in the outline
abbrev pub IsPart : {A : Type 0} → (List ℕ → A → Type 0) → (Outline → ℕ → A → Type 0) → List ℕ →
    List ReadNote → Outline → Owner → Origin → A → Type 0
IsPart Says Within directory reads o owner (File base path) given =
    HasFile Says reads (part_path directory o owner base path) given
IsPart Says Within directory reads o owner (Inline node) given = Within o node given

-- it isn't taken, with this flaw
abbrev pub LacksPart : (List ℕ → Rule → Place → Type 0) → (Outline → ℕ → Rule → Place → Type 0) →
    List ℕ → List ReadNote → Outline → Owner → Origin → Flaw → Type 0
LacksPart Breaks Within directory reads o owner (File base path) flaw =
    LacksFile Breaks reads (part_path directory o owner base path) flaw
LacksPart Breaks Within directory reads o owner (Inline node) flaw =
    (rule : Rule) × ((place : Place) × Within o node rule place × (flaw ≡ Faulty rule place []))

-- the values of a binding are these
abbrev pub IsValuesPart : List ℕ → List ReadNote → Outline → Owner → Origin → GivenSet → Type 0
IsValuesPart directory reads o owner origin given =
    IsPart IsValues IsValuesWithin directory reads o owner origin given

-- the mapping of a binding is this, where it has one
abbrev pub IsMappingPart : List ℕ → List ReadNote → Outline → Owner → Option Origin →
    Option GivenMapping → Type 0
IsMappingPart directory reads o owner None None = Unit {0}
IsMappingPart directory reads o owner None (Some given) = ⊥
IsMappingPart directory reads o owner (Some origin) None = ⊥
IsMappingPart directory reads o owner (Some origin) (Some given) =
    IsPart IsMapping IsMappingWithin directory reads o owner origin given

-- the binding gives this
pub record IsGiven (directory : List ℕ) (reads : List ReadNote) (o : Outline) (b : Binding)
    (given : GivenBinding) : Type 0 where
  pub values : IsValuesPart directory reads o b.owner b.values given.values
  pub mapping : IsMappingPart directory reads o b.owner b.mapping given.mapping

abbrev pub mapping_files : List ℕ → Outline → Owner → Option Origin → List (List ℕ)
mapping_files directory o owner None = []
mapping_files directory o owner (Some origin) = part_files directory o owner origin

-- the files that it asks for, its values before its mapping
abbrev pub binding_files : List ℕ → Outline → Binding → List (List ℕ)
binding_files directory o b =
    part_files directory o b.owner b.values ++ mapping_files directory o b.owner b.mapping

-- its values aren't taken, or its mapping isn't: the files that are asked for up to there, the file in which it is told, and the flaw
pub data LacksBinding (s : Search) (reads : List ReadNote) (o : Outline) (b : Binding) : List
    (List ℕ) → List ℕ → Flaw → Type 0 where
  InValues : (files : List (List ℕ)) (path : List ℕ) (flaw : Flaw) →
      LacksPart BreaksValues BreaksValuesWithin s.directory reads o b.owner b.values flaw →
      files ≡ part_files s.directory o b.owner b.values →
      path ≡ part_told s.directory o b.owner b.values →
      LacksBinding s reads o b files path flaw
  InMapping : (origin : Origin) (given : GivenSet) (files : List (List ℕ))
      (path : List ℕ) (flaw : Flaw) →
      IsValuesPart s.directory reads o b.owner b.values given → b.mapping ≡ Some origin →
      LacksPart BreaksMapping BreaksMappingWithin s.directory reads o b.owner origin flaw →
      files ≡ binding_files s.directory o b →
      path ≡ part_told s.directory o b.owner origin →
      LacksBinding s reads o b files path flaw

-- each component has its shape, and the first bindings give this
pub record ReachesBindings (s : Search) (reads : List ReadNote) (o : Outline) (shapes : List Shape)
    (taken : List Binding) (given : List GivenBinding) (rest : List Binding) : Type 0 where
  pub reaches : ReachesShapes s reads o o.systems.components shapes []
  pub is : o.systems.bindings ≡ taken ++ rest
  pub each : AllZip (IsGiven s.directory reads o) taken given

-- what is asked for up to these bindings
abbrev pub asked_with : Search → Outline → List Binding → List (List ℕ)
asked_with s o bindings =
    asked_for s o o.systems.components ++ flat_map (binding_files s.directory o) bindings

-- where a binding's set is given, or its mapping
abbrev pub origin_of : Bool → Binding → Option Origin
origin_of false b = Some b.values
origin_of true b = b.mapping

-- the file of a binding's set, or of its mapping
abbrev pub IsBindingToldIn : List ℕ → Outline → ℕ → Bool → List ℕ → Type 0
IsBindingToldIn directory o n in_mapping path =
    IsSomeAnd (slice_get o.systems.bindings n) (λ (b : Binding).
    IsSomeAnd (origin_of in_mapping b) (λ origin. path ≡ part_told directory o b.owner origin))

-- ---- what it comes to

-- a file that isn't taken, or a system
pub data Finding : Type 0 where
  Fails : List ℕ → Flaw → Finding
  Found : Loaded → Finding

-- the order of reading asks for these files, and comes to this
pub data Comes (s : Search) (reads : List ReadNote) : List (List ℕ) → Finding → Type 0 where
  -- there is no outline
  NoOutline : (path : List ℕ) (flaw : Flaw) (asked : List (List ℕ)) (finding : Finding) →
      s.subject ≡ what.System →
      LacksOutline IsStructure BreaksStructure s.directory reads asked path flaw →
      finding ≡ Fails path flaw → Comes s reads asked finding
  -- the descriptions before that of a component are taken, and its own isn't
  NoShape : (o : Outline) (taken : List ComponentPart) (shapes : List Shape) (c : ComponentPart)
      (rest : List ComponentPart) (flaw : Flaw)
      (asked : List (List ℕ)) (finding : Finding) → ReachesShapes s reads o taken shapes (c ∷ rest) →
      LacksFile (BreaksModel s.per_second) reads (model_path s.directory c) flaw →
      asked ≡ asked_for s o (taken ++ c ∷ []) →
      finding ≡ Fails (model_path s.directory c) flaw → Comes s reads asked finding
  -- all descriptions and the bindings before one are taken, and its own values or mapping aren't
  NoSet : (o : Outline) (shapes : List Shape) (taken : List Binding) (given : List GivenBinding)
      (b : Binding) (rest : List Binding) (files : List (List ℕ)) (path : List ℕ)
      (flaw : Flaw) (asked : List (List ℕ)) (finding : Finding) →
      ReachesBindings s reads o shapes taken given (b ∷ rest) →
      LacksBinding s reads o b files path flaw →
      asked ≡ asked_with s o taken ++ files → finding ≡ Fails path flaw →
      Comes s reads asked finding
  -- all are taken, and what a binding gives breaks a rule by the parameters that it reaches
  NoBinding : (o : Outline) (shapes : List Shape) (given : List GivenBinding) (n : ℕ)
      (in_mapping : Bool) (rule : Rule) (place : Place) (path : List ℕ)
      (asked : List (List ℕ)) (finding : Finding) →
      ReachesBindings s reads o shapes o.systems.bindings given [] →
      parameters.BreaksBinding o shapes given n in_mapping rule place →
      IsBindingToldIn s.directory o n in_mapping path → asked ≡ asked_with s o o.systems.bindings →
      finding ≡ Fails path (Faulty rule place []) → Comes s reads asked finding
  -- the bindings give values, and the documents and the descriptions break a rule together, told in the document of the element
  NoSystem : (o : Outline) (shapes : List Shape) (given : List GivenBinding) (bound : Bound)
      (rule : Rule) (node : ℕ) (ports : List PortId) (asked : List (List ℕ)) (finding : Finding) →
      ReachesBindings s reads o shapes o.systems.bindings given [] →
      parameters.Binds o shapes given bound → BreaksTogether o shapes rule node ports →
      asked ≡ asked_with s o o.systems.bindings →
      finding ≡ Fails (told_in s.directory o node) (Faulty rule (place_in o node) ports) →
      Comes s reads asked finding
  -- they make a system
  Whole : (o : Outline) (shapes : List Shape) (given : List GivenBinding) (loaded : Loaded)
      (asked : List (List ℕ)) (finding : Finding) →
      ReachesBindings s reads o shapes o.systems.bindings given [] →
      parameters.Binds o shapes given loaded.bound → Makes o shapes loaded.system →
      loaded.folders ≡ folders_of s.directory o → asked ≡ asked_with s o o.systems.bindings →
      finding ≡ Found loaded → Comes s reads asked finding

-- ---- in one way

-- the same flaw, of a loop with any of its ports
abbrev pub AreAlike : Flaw → Flaw → Type 0
AreAlike Absent Absent = Unit {0}
AreAlike Long Long = Unit {0}
AreAlike (Faulty rule place ports) (Faulty other at loop) = (rule ≡ other) × (place ≡ at)
AreAlike _ _ = ⊥

-- the same file with the same flaw, or the same system but for the orders of its ports, with the same values of parameters
abbrev pub Agree : Finding → Finding → Type 0
Agree (Fails path flaw) (Fails other another) = (path ≡ other) × AreAlike flaw another
Agree (Found one) (Found other) =
    HaveSameParts one.system other.system × (one.bound ≡ other.bound) ×
    (one.folders ≡ other.folders)
Agree (Fails path flaw) (Found other) = ⊥
Agree (Found one) (Fails path flaw) = ⊥

-- it comes to this, and where no path was read twice with two answers, to nothing else
pub record ComesAlone (s : Search) (reads : List ReadNote) (asked : List (List ℕ))
    (finding : Finding) : Type 0 where
  pub comes : Comes s reads asked finding
  pub only : AreSteady reads → (others : List (List ℕ)) (other : Finding) →
      Comes s reads others other → (asked ≡ others) × Agree finding other
