-- Which value of which binding a parameter gets (SSP 1.0: parameter bindings and parameter mappings).
use Rattle.std.specs.Prelude.{◌≡◌, ◌⊎◌, ◌<◌, ◌↔◌, ℕ, ℤ, List, ◌++◌, Option, Some, None, slice_get, length, Contains}
use Rattle.std.specs.List.{AllZip}
use Rattle.std.specs.Option.{option_map}
use Rattle.value_types.specs.declared.shape.Shape.{Shape}
use Rattle.value_types.specs.declared.shape.Variable.{Variable}
use Rattle.system_model.specs.declared.bound.Bound.{Bound}
use Rattle.system_model.specs.declared.bound.BoundValue.{BoundValue}
use Rattle.parameter_values.specs.declared.change.Change.{Change}
use Rattle.parameter_values.specs.declared.set.Mapping.{Mapping}
use Rattle.parameter_values.specs.declared.set.MappingEntry.{MappingEntry}
use Rattle.parameter_values.specs.declared.set.Parameter.{Parameter}
use Rattle.parameter_values.specs.declared.set.Transformation.{Transformation}
use Rattle.parameter_values.specs.Values.{Gives}
use Rattle.ssd_tree.specs.declared.tree.Binding.{Binding}
use Rattle.ssd_tree.specs.declared.tree.SystemTree.{SystemTree}
use Rattle.ssd_tree.specs.Listings.{IsListing}
use Rattle.parameter_binding.specs.declared.sets.BindingSets.{BindingSets}
use Rattle.parameter_binding.specs.declared.sets.MappingOf.{MappingOf}
use Rattle.parameter_targets.specs.declared.target.Target.{Target}
use Rattle.parameter_targets.specs.Scopes.{IsTarget, Sees, IsLevel}

-- ---- who reaches whom

-- a binding, an entry of its mapping and a parameter of its set, by their places; without a mapping the entry is 0
pub record Triple : Type 0 where
  pub binding : ℕ
  pub entry : ℕ
  pub parameter : ℕ

abbrev pub change_of : MappingEntry → Option Change
change_of entry = option_map (λ (x : Transformation). x.change) entry.transformation

abbrev pub mapping_of : BindingSets → Option Mapping
mapping_of sets = option_map (λ (m : MappingOf). m.mapping) sets.mapping

-- the prefix is put before the name
abbrev pub prefixed : Binding → Parameter → List ℕ
prefixed binding parameter = binding.prefix ++ parameter.name

-- the name that a parameter gets by the mapping, and how its value changes; without a mapping each keeps its own
abbrev pub IsMapped : Option Mapping → ℕ → List ℕ → List ℕ → Option Change → Type 0
IsMapped None place source name change = (place ≡ 0) × (name ≡ source) × (change ≡ None)
IsMapped (Some mapping) place source name change =
    (e : MappingEntry) × (slice_get mapping.entries place ≡ Some e) × (e.source ≡ source) ×
    (name ≡ e.target) × (change ≡ change_of e)

-- the triple is one of these bindings, with this parameter, this name and this change of its value
pub record IsCandidate (t : SystemTree) (sets : List BindingSets) (c : Triple) (binding : Binding)
    (parameter : Parameter) (name : List ℕ) (change : Option Change) : Type 0 where
  pub is : slice_get t.bindings c.binding ≡ Some binding
  pub given : BindingSets
  pub has : slice_get sets c.binding ≡ Some given
  pub at : slice_get given.values.set.parameters c.parameter ≡ Some parameter
  pub mapped : IsMapped (mapping_of given) c.entry (prefixed binding parameter) name change

-- the triple reaches the target
pub record ReachesTarget (t : SystemTree) (shapes : List Shape) (sets : List BindingSets)
    (target : Target) (c : Triple) : Type 0 where
  pub binding : Binding
  pub parameter : Parameter
  pub name : List ℕ
  pub change : Option Change
  pub is : IsCandidate t sets c binding parameter name change
  pub sees : Sees t shapes binding.owner name target

-- the triple names what no target is called
pub record IsUnreached (t : SystemTree) (shapes : List Shape) (sets : List BindingSets)
    (c : Triple) : Type 0 where
  pub binding : Binding
  pub parameter : Parameter
  pub name : List ℕ
  pub change : Option Change
  pub is : IsCandidate t sets c binding parameter name change
  pub none : (target : Target) → Sees t shapes binding.owner name target → ⊥

-- ---- who wins

-- a later binding, or a later entry of one binding, or a later parameter of one entry
abbrev pub IsLater : Triple → Triple → Type 0
IsLater c d =
    (d.binding < c.binding) ⊎ ((d.binding ≡ c.binding) ×
    ((d.entry < c.entry) ⊎ ((d.entry ≡ c.entry) × (d.parameter < c.parameter))))

-- the level of the element that the binding stands at
abbrev pub HasLevel : SystemTree → ℕ → ℕ → Type 0
HasLevel t b n =
    (binding : Binding) × (slice_get t.bindings b ≡ Some binding) × IsLevel t binding.owner n

-- a higher level, or on one level the later
pub record Beats (t : SystemTree) (c d : Triple) : Type 0 where
  pub own : ℕ
  pub other : ℕ
  pub own_is : HasLevel t c.binding own
  pub other_is : HasLevel t d.binding other
  pub higher : (own < other) ⊎ ((own ≡ other) × IsLater c d)

-- the triple reaches the target and beats each other that does
pub record Wins (t : SystemTree) (shapes : List Shape) (sets : List BindingSets) (target : Target)
    (c : Triple) : Type 0 where
  pub reaches : ReachesTarget t shapes sets target c
  pub beats : (d : Triple) → ReachesTarget t shapes sets target d → (d ≡ c) ⊎ Beats t c d

-- the target gets this value
abbrev pub Binds : SystemTree → List Shape → List BindingSets → Target → ℤ → Type 0
Binds t shapes sets target y =
    (c : Triple) × ((w : Wins t shapes sets target c) ×
    Gives w.reaches.change w.reaches.parameter.value y)

-- ---- all values

abbrev pub target_at : ℕ → ℕ → Target
target_at i v = record { component = i; variable = v }

-- the value that the variable at a place of the i-th component gets
pub record IsBoundAt (t : SystemTree) (shapes : List Shape) (sets : List BindingSets) (i v : ℕ)
    (b : BoundValue) : Type 0 where
  pub variable : Variable
  pub is : IsTarget shapes (target_at i v) variable
  pub kind : variable.kind ≡ Some b.kind
  pub reference : variable.reference ≡ b.reference
  pub binds : Binds t shapes sets (target_at i v) b.value

-- some triple reaches the variable
abbrev pub IsReached : SystemTree → List Shape → List BindingSets → ℕ → ℕ → Type 0
IsReached t shapes sets i v = (c : Triple) × ReachesTarget t shapes sets (target_at i v) c

-- the values of the i-th component: of each variable that is reached, in the order of its description
pub record AreBoundOf (t : SystemTree) (shapes : List Shape) (sets : List BindingSets) (i : ℕ)
    (values : List BoundValue) : Type 0 where
  pub places : List ℕ
  pub listed : IsListing (IsReached t shapes sets i) places
  pub each : AllZip (IsBoundAt t shapes sets i) places values

-- a list of all unresolved triples, each once
pub record ListsUnreached (t : SystemTree) (shapes : List Shape) (sets : List BindingSets)
    (all : List Triple) : Type 0 where
  pub each : (c : Triple) → Contains all c ↔ IsUnreached t shapes sets c
  pub once : (j k : ℕ) (c : Triple) → slice_get all j ≡ Some c → slice_get all k ≡ Some c → j ≡ k

-- what the bindings give: the values of each component, and the number of unresolved triples
pub record AreBound (t : SystemTree) (shapes : List Shape) (sets : List BindingSets)
    (bound : Bound) : Type 0 where
  pub len : length bound.components ≡ length shapes
  pub values : (i : ℕ) (values : List BoundValue) → slice_get bound.components i ≡ Some values →
      AreBoundOf t shapes sets i values
  pub all : List Triple
  pub lists : ListsUnreached t shapes sets all
  pub unreached : bound.unreached ≡ length all
