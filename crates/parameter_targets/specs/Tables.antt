-- The tables by which names lead to parameters.
use Rattle.std.specs.Prelude.{◌≡◌, ◌↔◌, ◌<◌, ◌≤◌, ℕ, true, List, ◌∷◌, ◌++◌, map, length, Option, Some, None, is_some, slice_get, slice_index_or, [], Contains}
use Rattle.std.specs.Borrow.{Bor}
use Rattle.value_types.specs.Shape.{is_parameter}
use Rattle.value_types.specs.declared.shape.Shape.{Shape}
use Rattle.value_types.specs.declared.shape.Variable.{Variable}
use Rattle.ssd_tree.specs.declared.tree.ComponentPart.{ComponentPart}
use Rattle.ssd_tree.specs.declared.tree.SystemTree.{SystemTree}
use Rattle.parameter_targets.specs.declared.names.ParameterNames.{ParameterNames}
use Rattle.parameter_targets.specs.declared.paths.Path.{Path}
use Rattle.parameter_targets.specs.declared.paths.Paths.{Paths}
use Rattle.parameter_targets.specs.declared.target.Target.{Target}
use Rattle.parameter_targets.specs.declared.targets.Targets.{Targets}
use Rattle.parameter_targets.specs.Chains.{AreChains, FindsFrom}
use Rattle.ssd_tree.specs.Named.{IsNamedTree, IsScope}
use Rattle.parameter_targets.specs.Scopes.{IsCalled, IsDepth, IsWithin}

-- ---- the parameters of a component

-- the variable is a parameter that isn't ignored, and has the name
pub record IsNamed (v : Variable) (name : List ℕ) : Type 0 where
  pub parameter : is_parameter v.causality ≡ true
  pub known : is_some v.kind ≡ true
  pub called : IsCalled v name

-- the parameter at the place has the name
abbrev pub IsNamedAt : List Variable → List ℕ → ℕ → Type 0
IsNamedAt variables name place =
    (v : Variable) × (slice_get variables place ≡ Some v) × IsNamed v name

-- a name and the place of its variable
abbrev pub entry_of : Bor (List ℕ) × ℕ → List ℕ × ℕ
entry_of e = (e.0.now, e.1)

abbrev pub text_of : Bor (List ℕ) × ℕ → List ℕ
text_of e = e.0.now

-- each name of a parameter stands among them with the place of the variable
abbrev pub AreEntries : List Variable → List (Bor (List ℕ) × ℕ) → Type 0
AreEntries variables entries =
    (name : List ℕ) (place : ℕ) → Contains (map entry_of entries) (name, place) ↔
    IsNamedAt variables name place

pub record AreNames (variables : List Variable) (names : ParameterNames) : Type 0 where
  pub entries : AreEntries variables names.entries.items
  pub chains : AreChains (map text_of names.entries.items) names.chains

-- the places of those that have the name, as far as the chain was walked
pub record AreWalked (entries : List (Bor (List ℕ) × ℕ)) (name : List ℕ) (places : List ℕ)
    (next : Option ℕ) : Type 0 where
  pub n : ℕ
  pub finds : FindsFrom (map text_of entries) n name next
  pub each : (k : ℕ) (e : Bor (List ℕ) × ℕ) → k < n → slice_get entries k ≡ Some e →
      e.0.now ≡ name → Contains places e.1
  pub only : (p : ℕ) → Contains places p → Contains (map entry_of entries) (name, p)

-- the names of the component's parameters stand in a table
pub record HasNames (tables : List ParameterNames) (of : List ℕ) (component : ℕ)
    (variables : List Variable) : Type 0 where
  pub at : ℕ
  pub place : slice_get of component ≡ Some at
  pub table : ParameterNames
  pub is : slice_get tables at ≡ Some table
  pub are : AreNames variables table

-- for each component the place of its names among the tables
pub record AreAllNames (shapes : List Shape) (tables : List ParameterNames)
    (of : List ℕ) : Type 0 where
  pub of_len : length of ≡ length shapes
  pub each : (i : ℕ) (s : Shape) → slice_get shapes i ≡ Some s → HasNames tables of i s.variables

-- the parameter at the place of the component's description has the name
pub record IsNamedIn (shapes : List Shape) (component : ℕ) (name : List ℕ)
    (place : ℕ) : Type 0 where
  pub shape : Shape
  pub is : slice_get shapes component ≡ Some shape
  pub named : IsNamedAt shape.variables name place

-- ---- paths

-- they are the full names of the components
abbrev pub AreFullNames : SystemTree → List (List ℕ) → Type 0
AreFullNames t names = names ≡ map (λ (c : ComponentPart). c.name) t.components

-- what is left of the name after the scope of the System
pub record IsPathText (t : SystemTree) (s : ℕ) (name text : List ℕ) : Type 0 where
  pub scope : List ℕ
  pub scope_is : IsScope t s scope
  pub is : scope ++ text ≡ name

-- the path of a component from a System that it stands in
pub record IsPath (t : SystemTree) (s component : ℕ) (text : List ℕ) : Type 0 where
  pub part : ComponentPart
  pub is : slice_get t.components component ≡ Some part
  pub within : IsWithin t s part.system
  pub path : IsPathText t s part.name text

-- the path stands in the row of the System
pub record TellsPath (paths : Paths) (s component : ℕ) (text : List ℕ) : Type 0 where
  pub at : ℕ
  pub in_row : Contains (slice_index_or paths.below s []) at
  pub path : Path
  pub is : slice_get paths.all.items at ≡ Some path
  pub component_is : path.component ≡ component
  pub text_is : path.text.now ≡ text

-- the rows have places of paths alone, one row for each System
pub record AreRows (systems : ℕ) (paths : Paths) : Type 0 where
  pub rows_len : length paths.below ≡ systems
  pub within : (s at : ℕ) → Contains (slice_index_or paths.below s []) at →
      at < length paths.all.items

-- they are the paths of the first n components
pub record ArePathsBelow (t : SystemTree) (n : ℕ) (paths : Paths) : Type 0 where
  pub rows : AreRows (length t.systems) paths
  pub each : (s component : ℕ) (text : List ℕ) → TellsPath paths s component text ↔
      ((component < n) × IsPath t s component text)

pub record ArePaths (t : SystemTree) (paths : Paths) : Type 0 where
  pub rows : AreRows (length t.systems) paths
  pub each : (s component : ℕ) (text : List ℕ) → TellsPath paths s component text ↔
      IsPath t s component text

-- ---- the paths that begin a name

abbrev pub path_text : Option Path → List ℕ
path_text None = []
path_text (Some p) = p.text.now

-- the paths in the row of a System
abbrev pub row_texts : Paths → ℕ → List (List ℕ)
row_texts paths s =
    map (λ at. path_text (slice_get paths.all.items at)) (slice_index_or paths.below s [])

-- those of the first n Systems
pub record AreAllPrefixes (paths : Paths) (n : ℕ) (prefixes : List (List (List ℕ))) : Type 0 where
  pub prefixes_len : length prefixes ≡ n
  pub each : (s : ℕ) (prefix : List (List ℕ)) → slice_get prefixes s ≡ Some prefix →
      prefix ≡ row_texts paths s

-- places of the row of a System, among them all whose paths begin the name
pub record AreNear (paths : Paths) (s : ℕ) (name : List ℕ) (ats : List ℕ) : Type 0 where
  pub only : (at : ℕ) → Contains ats at → Contains (slice_index_or paths.below s []) at
  pub each : (at : ℕ) (path : Path) (rest : List ℕ) →
      Contains (slice_index_or paths.below s []) at → slice_get paths.all.items at ≡ Some path →
      name ≡ path.text.now ++ rest → Contains ats at

-- ---- the whole

-- for each component the names of its parameters, and the paths of all
pub record AreTargets (targets : Targets) : Type 0 where
  pub names : AreAllNames targets.shapes.now targets.names.tables.items targets.names.of.items
  pub tree : IsNamedTree targets.tree.now
  pub shapes : length targets.shapes.now ≡ length targets.tree.now.components
  pub paths : ArePaths targets.tree.now targets.paths
  pub prefixes : AreAllPrefixes targets.paths (length targets.paths.below) targets.prefixes.items

-- the System sees the parameter by the path of its component and a name of its own
pub record IsSeenBelow (targets : Targets) (s : ℕ) (name : List ℕ) (target : Target) : Type 0 where
  pub text : List ℕ
  pub path : IsPath targets.tree.now s target.component text
  pub own : List ℕ
  pub is : name ≡ text ++ 46 ∷ own
  pub named : IsNamedIn targets.shapes.now target.component own target.variable

-- ---- levels

-- the first n Systems have these depths
pub record AreDepths (t : SystemTree) (n : ℕ) (depths : List ℕ) : Type 0 where
  pub depths_len : length depths ≡ n
  pub each : (s d : ℕ) → slice_get depths s ≡ Some d → IsDepth t s d × (d ≤ s)
