-- The tables of a tree of systems: the variables of all components in one list, and what each connector stands for by its number there.
use Rattle.std.specs.Prelude.{◌≡◌, ℕ, ◌+◌, ◌<◌, ◌≤◌, ◌==◌, Bool, if◌then◌else◌, List, length, map, take, Option, Some, None, option_and_then, slice_get, slice_index_or}
use Rattle.std.specs.List.{flat_map, position}
use Rattle.std.specs.Option.{option_flatten, option_or}
use Rattle.value_types.specs.declared.shape.Variable.{Variable}
use Rattle.value_types.specs.declared.shape.Shape.{Shape}
use Rattle.connection_paths.specs.declared.point.Point as paths
use Rattle.connection_paths.specs.declared.point.Point.TheVariants.{Variable as Numbered, OfSystem}
use Rattle.connection_paths.specs.declared.point.Connection as joints
use Rattle.ssd_tree.specs.declared.tree.Owner.{Owner}
use Rattle.ssd_tree.specs.declared.tree.Owner.TheVariants.{System, Component}
use Rattle.ssd_tree.specs.declared.tree.Connector.{Connector}
use Rattle.ssd_tree.specs.declared.tree.Connection.{Connection}
use Rattle.ssd_tree.specs.declared.tree.SystemTree.{SystemTree}
use Rattle.flatten.specs.declared.connectors.FlatTree.{FlatTree}
use Rattle.flatten.specs.declared.connectors.Variables.{Variables}
use Rattle.flatten.specs.declared.names.VariableNames.{VariableNames}
use Rattle.doc_tables.specs.Places.{found_in}
use Rattle.doc_tables.specs.Tables.{IsTable}
use Rattle.flatten.specs.Points.{has_name}
use Rattle.flatten.specs.Given.{AreShapesOf, IsWholeTree}
use Rattle.flatten.specs.Paths.{plain}

-- ---- variables, by component and place in its description

abbrev pub variables_in : Shape → List Variable
variables_in shape = shape.variables

abbrev pub all_variables : List Shape → List Variable
all_variables shapes = flat_map variables_in shapes

-- the number of the first variable of a component
abbrev pub begin_of : List Shape → ℕ → ℕ
begin_of shapes component = length (all_variables (take component shapes))

-- all variables, and where those of each component begin; one more place has the number of all
pub record AreVariables (shapes : List Shape) (v : Variables) : Type 0 where
  pub all : map (λ x. x.now) v.all.items ≡ all_variables shapes
  pub len : length v.begins.items ≡ length shapes + 1
  pub begins : (i : ℕ) → i ≤ length shapes → slice_index_or v.begins.items i 0 ≡ begin_of shapes i

-- the place in its description of the variable that a connector names
abbrev pub place_for : List Shape → Owner → List ℕ → Option ℕ
place_for shapes (System system) name = None
place_for shapes (Component component) name =
    option_and_then (λ (s : Shape). position (has_name name) s.variables)
    (slice_get shapes component)

-- the number of the variable at this place is below that of all variables
abbrev pub IsPlaceIn : Variables → Owner → Option ℕ → Type 0
IsPlaceIn v (System system) place = Unit {0}
IsPlaceIn v (Component component) None = Unit {0}
IsPlaceIn v (Component component) (Some place) =
    (component < length v.begins.items) ×
    (slice_index_or v.begins.items component 0 + place < length v.all.items)

-- ---- names

-- the component and the name that a connector gives; that of a System gives none
abbrev pub wanted_by : Owner → List ℕ → Option (ℕ × List ℕ)
wanted_by (System system) name = None
wanted_by (Component component) name = Some (component, name)

abbrev pub wanted_at : List Connector → ℕ → Option (ℕ × List ℕ)
wanted_at connectors number =
    option_and_then (λ (k : Connector). wanted_by k.owner k.name) (slice_get connectors number)

-- where a component's name leads
abbrev pub place_in : VariableNames → ℕ → List ℕ → Option ℕ
place_in names component name =
    option_and_then (λ (number : ℕ). option_flatten (slice_get names.places.items number))
    (found_in names.wanted (component, name))

abbrev pub place_by : VariableNames → Owner → List ℕ → Option ℕ
place_by names (System system) name = None
place_by names (Component component) name = place_in names component name

-- the names that connectors give lead to these places
pub record LeadTo (connectors : List Connector) (places : ℕ → List ℕ → Option ℕ)
    (names : VariableNames) : Type 0 where
  pub table : IsTable (wanted_at connectors) (found_in names.wanted)
  pub len : length names.places.items ≡ length connectors
  pub told : (component : ℕ) (name : List ℕ) (number : ℕ) →
      found_in names.wanted (component, name) ≡ Some number →
      slice_get names.places.items number ≡ Some (places component name)

-- further places of a component's names, for those that led nowhere
abbrev pub with_places : (ℕ → List ℕ → Option ℕ) → ℕ → (List ℕ → Option ℕ) → ℕ → List ℕ → Option ℕ
with_places places component more other name =
    option_or (places other name) (if other == component then more name else None)

-- the place, for such a name alone
abbrev pub place_if : Bool → ℕ → Option ℕ
place_if such place = if such then Some place else None

-- the name of each connector leads to the first variable that has it
abbrev pub AreNames : List Connector → List Shape → VariableNames → Type 0
AreNames connectors shapes names =
    (number : ℕ) (k : Connector) → slice_get connectors number ≡ Some k →
    place_by names k.owner k.name ≡ place_for shapes k.owner k.name

-- ---- points

-- the number of the variable that a connector of a component names; further numbers for those that name none
abbrev pub number_for : List Shape → ℕ → Owner → Option ℕ → paths.Point
number_for shapes c (System system) place = OfSystem c
number_for shapes c (Component component) (Some place) =
    Numbered (begin_of shapes component + place)
number_for shapes c (Component component) None = Numbered (length (all_variables shapes) + c)

pub record AreNumbered (t : SystemTree) (shapes : List Shape)
    (points : List paths.Point) : Type 0 where
  pub len : length points ≡ length t.connectors
  pub each : (c : ℕ) (k : Connector) → slice_get t.connectors c ≡ Some k →
      slice_get points c ≡ Some (number_for shapes c k.owner (place_for shapes k.owner k.name))

abbrev pub ends_of : Connection → joints.Connection
ends_of k = record { start = k.start; end = k.end }

-- the tree with other connections between its connectors
abbrev pub joined : SystemTree → List Connection → SystemTree
joined t ks = record t {
  connections = ks;
}

-- ---- the whole

pub record IsIndexed (f : FlatTree) : Type 0 where
  pub whole : IsWholeTree f.tree.now
  pub shapes : AreShapesOf f.tree.now f.shapes.now
  pub variables : AreVariables f.shapes.now f.variables
  pub points : AreNumbered f.tree.now f.shapes.now f.points.items
  pub connections : f.connections.items ≡ map ends_of f.tree.now.connections
  pub plain : f.plain.items ≡ map ends_of (plain f.tree.now).connections
