-- What connectors stand for (SSP 1.0, 5.3.2: a connector of a component is a variable of its FMU; FMI 3.0, 2.4.7: name, Alias, valueReference).
use Rattle.std.specs.Prelude.{◌≡◌, ℕ, Bool, true, false, ◌||◌, List, Option, Some, None, IsSomeAnd, option_and_then, slice_get, bytes_eq, find}
use Rattle.std.specs.List.{list_any}
use Rattle.std.specs.Option.{option_map}
use Rattle.value_types.specs.Shape.{variable_at}
use Rattle.value_types.specs.declared.shape.Causality.{Causality}
use Rattle.value_types.specs.declared.shape.Variable.{Variable}
use Rattle.value_types.specs.declared.shape.Shape.{Shape}
use Rattle.ssd_tree.specs.declared.tree.Owner.{Owner}
use Rattle.ssd_tree.specs.declared.tree.Owner.TheVariants.{System, Component}
use Rattle.ssd_tree.specs.declared.tree.Connector.{Connector}
use Rattle.ssd_tree.specs.declared.tree.SystemTree.{SystemTree}

-- ---- names

-- the name is the variable's own, or an alias
abbrev pub has_name : List ℕ → Variable → Bool
has_name name v = bytes_eq v.name name || list_any (λ alias. bytes_eq alias name) v.aliases

-- the variable of a component that the name is for: of several the first
abbrev pub variable_named : List Shape → ℕ → List ℕ → Option Variable
variable_named shapes component name =
    option_and_then (λ (s : Shape). find (has_name name) s.variables) (slice_get shapes component)

-- a connector of a System names no variable
abbrev pub named_by : List Shape → Owner → List ℕ → Option Variable
named_by shapes (System system) name = None
named_by shapes (Component component) name = variable_named shapes component name

-- the variable that a connector names
abbrev pub variable_of : SystemTree → List Shape → ℕ → Option Variable
variable_of t shapes c =
    option_and_then (λ (k : Connector). named_by shapes k.owner k.name) (slice_get t.connectors c)

-- ---- points

-- what connections lead to and from: a variable of a component, by its value reference; or a connector that stands for no variable
pub data Point : Type 0 where
  OfComponent : ℕ → ℕ → Point
  Itself : ℕ → Point

abbrev pub point_for : ℕ → Owner → Option Variable → Point
point_for c (Component component) (Some x) = OfComponent component x.reference
point_for c (Component component) None = Itself c
point_for c (System system) x = Itself c

-- what a connector stands for: all connectors of a component that name one variable stand for it, and every other for itself
abbrev pub point_of : SystemTree → List Shape → ℕ → Option Point
point_of t shapes c =
    option_map (λ (k : Connector). point_for c k.owner (named_by shapes k.owner k.name))
    (slice_get t.connectors c)

abbrev pub is_of_system : Owner → Bool
is_of_system (System system) = true
is_of_system (Component component) = false

-- a connector of a System
abbrev pub IsOfSystem : SystemTree → Point → Type 0
IsOfSystem t (OfComponent component reference) = ⊥
IsOfSystem t (Itself c) =
    IsSomeAnd (slice_get t.connectors c) (λ (k : Connector). is_of_system k.owner ≡ true)

-- the variable that a point is
abbrev pub variable_at_point : List Shape → Point → Option Variable
variable_at_point shapes (OfComponent component reference) =
    option_and_then (λ (s : Shape). variable_at s.variables reference) (slice_get shapes component)
variable_at_point shapes (Itself c) = None

-- the point is this variable, of this causality
abbrev pub IsVariable : List Shape → Causality → Point → Variable → Type 0
IsVariable shapes causality p x = (variable_at_point shapes p ≡ Some x) × (x.causality ≡ causality)
