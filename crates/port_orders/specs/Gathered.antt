-- What ports need, gathered for the search of an order: lists, and a group of inputs for each component.
use Rattle.std.specs.Prelude.{◌≡◌, ◌⊎◌, ◌↔◌, ℕ, ◌<◌, Bool, true, false, ◌&&◌, List, [], length, map, slice_get, slice_index_or, Option, Some, None, Contains, if◌then◌else◌}
use Rattle.std.specs.Option.{option_and_then, option_map, option_map_or}
use Rattle.value_types.specs.Shape.{dependency_at, is_input_port, place_of, variable_at}
use Rattle.value_types.specs.declared.shape.Dependency.{Dependency}
use Rattle.value_types.specs.declared.shape.Knowns.{Knowns}
use Rattle.value_types.specs.declared.shape.Knowns.TheVariants.{AllInputs, Listed}
use Rattle.value_types.specs.declared.shape.Shape.{Shape}
use Rattle.system_model.specs.declared.system.Component.{Component}
use Rattle.system_model.specs.declared.system.Port.{Port}
use Rattle.system_model.specs.Needs.{is_unclocked}
use Rattle.system_model.specs.Ports.{is_output_role, port_numbers, source_of}
use Rattle.dependency_order.specs.declared.grouped.GroupedNeeds.{GroupedNeeds}
use Rattle.dependency_order.specs.Graph.{Needs}
use Rattle.dependency_order.specs.Paths.{IsMarked}

-- ---- one port

-- in instants all ports take part, in Initialization Mode those without Clocks
abbrev pub has_part : Bool → Port → Bool
has_part initializing port = if initializing then is_unclocked port else true

-- the place of its variable in the description of its component
abbrev pub place_in : List Component → Port → ℕ → Option ℕ
place_in components port reference =
    option_and_then (λ (c : Component). place_of c.shape.variables reference)
    (slice_get components port.component.0)

-- its variable is an input that isn't ignored
abbrev pub is_input_in : List Component → Port → Bool
is_input_in components port =
    option_map_or (λ (c : Component).
    option_map_or is_input_port (variable_at c.shape.variables port.reference) false)
    (slice_get components port.component.0) false

-- what an output with this reference depends on; in an event only where there is event mode
abbrev pub knowns_of : Shape → Bool → ℕ → Option Knowns
knowns_of shape initializing reference =
    if initializing then option_map (λ (d : Dependency). d.on)
    (dependency_at shape.initial_dependencies reference)
    else (if shape.has_event_mode
    then option_map (λ (d : Dependency). d.on) (dependency_at shape.dependencies reference)
    else None)

-- what the port depends on, where it is an output that takes part
abbrev pub knowns_in : List Component → Bool → Port → Option Knowns
knowns_in components initializing port =
    if has_part initializing port && is_output_role port.role
    then option_and_then (λ (c : Component). knowns_of c.shape initializing port.reference)
    (slice_get components port.component.0)
    else None

abbrev pub group_of : ℕ → Option Knowns → Option ℕ
group_of component None = None
group_of component (Some AllInputs) = Some component
group_of component (Some (Listed on)) = None

abbrev pub group_in : List Component → Bool → Port → Option ℕ
group_in components initializing port =
    group_of port.component.0 (knowns_in components initializing port)

-- ---- all ports

-- a port of the component that takes part, whose variable stands at this place of the description
pub record IsPortAt (components : List Component) (ports : List Port) (taken : List Bool)
    (component place q : ℕ) : Type 0 where
  pub port : Port
  pub at : slice_get ports q ≡ Some port
  pub of : port.component.0 ≡ component
  pub marked : IsMarked taken q
  pub stands : place_in components port port.reference ≡ Some place

-- an input of the component that takes part
pub record IsInputOf (components : List Component) (ports : List Port) (taken : List Bool)
    (component q : ℕ) : Type 0 where
  pub port : Port
  pub at : slice_get ports q ≡ Some port
  pub of : port.component.0 ≡ component
  pub marked : IsMarked taken q
  pub input : is_input_in components port ≡ true

-- for each component and each place of its description the ports there
pub record AreTables (components : List Component) (ports : List Port) (taken : List Bool)
    (count : ℕ) (tables : List (List (List ℕ))) : Type 0 where
  pub len : length tables ≡ length components
  pub stands : (c k q : ℕ) → Contains (slice_index_or (slice_index_or tables c []) k []) q ↔
      ((q < count) × IsPortAt components ports taken c k q)

-- for each component its inputs
pub record AreInputs (components : List Component) (ports : List Port) (taken : List Bool)
    (count : ℕ) (inputs : List (List ℕ)) : Type 0 where
  pub len : length inputs ≡ length components
  pub stands : (c q : ℕ) → Contains (slice_index_or inputs c []) q ↔
      ((q < count) × IsInputOf components ports taken c q)

-- each port's list so far, and for each port the last one in whose list it was put
pub record IsGathering (count : ℕ) (stamps : List (Option ℕ)) (lists : List (List ℕ)) : Type 0 where
  pub stamped : length stamps ≡ count
  pub len : length lists ≡ count
  pub told : (p q : ℕ) → slice_index_or stamps q None ≡ Some p → Needs lists p q

-- to the list of one port come those of some that take part
pub record Adds (taken : List Bool) (port : ℕ) (IsAdded : ℕ → Type 0)
    (old new : List (List ℕ)) : Type 0 where
  pub cases : (p q : ℕ) → Needs new p q ↔
      (Needs old p q ⊎ ((p ≡ port) × (IsAdded q × IsMarked taken q)))

abbrev pub row_at : List (List ℕ) → Option ℕ → List ℕ
row_at table None = []
row_at table (Some place) = slice_index_or table place []

-- a port that stands in the table at the place of one of these references
abbrev pub IsReferred : List Component → Port → List ℕ → List (List ℕ) → ℕ → Type 0
IsReferred components port on table q =
    (reference : ℕ) × (Contains on reference ×
    Contains (row_at table (place_in components port reference)) q)

abbrev pub IsKnownOf : List Component → Port → Option Knowns → List (List ℕ) → ℕ → Type 0
IsKnownOf components port (Some (Listed on)) table q = IsReferred components port on table q
IsKnownOf components port (Some AllInputs) table q = ⊥
IsKnownOf components port None table q = ⊥

-- a port that the list of an output in its description names
abbrev pub IsKnown : List Component → Bool → Port → List (List ℕ) → ℕ → Type 0
IsKnown components initializing port table q =
    IsKnownOf components port (knowns_in components initializing port) table q

-- q feeds the port, is one of its Clocks, or a known that a list names
abbrev pub Concerns : List Component → Bool → Port → List (List ℕ) → ℕ → Type 0
Concerns components initializing port table q =
    (source_of port.role ≡ Some q) ⊎
    (((initializing ≡ false) × Contains (port_numbers port.clocks) q) ⊎
    IsKnown components initializing port table q)

-- q is a known of the port that its list names, by the descriptions
pub record IsNamed (components : List Component) (ports : List Port) (taken : List Bool)
    (initializing : Bool) (port : Port) (q : ℕ) : Type 0 where
  pub on : List ℕ
  pub reference : ℕ
  pub place : ℕ
  pub knowns : knowns_in components initializing port ≡ Some (Listed on)
  pub listed : Contains on reference
  pub stands : place_in components port reference ≡ Some place
  pub there : IsPortAt components ports taken port.component.0 place q

-- p needs q by its list: both take part, and q feeds p, is one of its Clocks, or a known that its list names
pub record IsTold (components : List Component) (ports : List Port) (taken : List Bool)
    (initializing : Bool) (p q : ℕ) : Type 0 where
  pub port : Port
  pub at : slice_get ports p ≡ Some port
  pub part : IsMarked taken p
  pub marked : IsMarked taken q
  pub why : (source_of port.role ≡ Some q) ⊎
      (((initializing ≡ false) × Contains (port_numbers port.clocks) q) ⊎
      IsNamed components ports taken initializing port q)

pub record AreNeeds (components : List Component) (ports : List Port) (taken : List Bool)
    (initializing : Bool) (needs : GroupedNeeds) : Type 0 where
  pub len : length needs.listed ≡ length ports
  pub listed : (p q : ℕ) → Needs needs.listed p q ↔ IsTold components ports taken initializing p q
  pub group_of : needs.group_of.items ≡ map (group_in components initializing) ports
  pub groups : AreInputs components ports taken (length ports) needs.groups
