-- Which parameters a System or a Component sees, and under which names (SSP 1.0: ParameterBinding; the names of parameters in a system are hierarchical, element names and parameter name joined with dots).
use Rattle.std.specs.Prelude.{◌≡◌, ◌⊎◌, ℕ, ◌+◌, true, List, ◌∷◌, ◌++◌, Some, None, is_some, slice_get, Contains}
use Rattle.value_types.specs.declared.shape.Shape.{Shape}
use Rattle.value_types.specs.declared.shape.Variable.{Variable}
use Rattle.value_types.specs.Shape.{is_parameter}
use Rattle.ssd_tree.specs.declared.tree.Owner.{Owner}
use Rattle.ssd_tree.specs.declared.tree.Owner.TheVariants.{System, Component}
use Rattle.ssd_tree.specs.declared.tree.SystemPart.{SystemPart}
use Rattle.ssd_tree.specs.declared.tree.ComponentPart.{ComponentPart}
use Rattle.ssd_tree.specs.declared.tree.SystemTree.{SystemTree}
use Rattle.ssd_tree.specs.Named.{IsScope}
use Rattle.parameter_targets.specs.declared.target.Target.{Target}

-- ---- targets

-- the variable is a parameter that isn't ignored (FMI 3.0, 2.4.7.4: causality)
pub record IsTarget (shapes : List Shape) (target : Target) (variable : Variable) : Type 0 where
  pub shape : Shape
  pub of : slice_get shapes target.component ≡ Some shape
  pub at : slice_get shape.variables target.variable ≡ Some variable
  pub parameter : is_parameter variable.causality ≡ true
  pub known : is_some variable.kind ≡ true

-- its own name, or an alias
abbrev pub IsCalled : Variable → List ℕ → Type 0
IsCalled variable name = (name ≡ variable.name) ⊎ Contains variable.aliases name

-- ---- systems

-- the System is this one, or stands within it
pub data IsWithin (t : SystemTree) (outer : ℕ) : ℕ → Type 0 where
  Same : (s : ℕ) → s ≡ outer → IsWithin t outer s
  Deeper : (s above : ℕ) (part : SystemPart) → slice_get t.systems s ≡ Some part →
      part.parent ≡ Some above → IsWithin t outer above → IsWithin t outer s

-- so many Systems stand around this one
pub data IsDepth (t : SystemTree) : ℕ → ℕ → Type 0 where
  AtTop : (s n : ℕ) (part : SystemPart) → slice_get t.systems s ≡ Some part → part.parent ≡ None →
      n ≡ 0 → IsDepth t s n
  Below : (s outer n m : ℕ) (part : SystemPart) → slice_get t.systems s ≡ Some part →
      part.parent ≡ Some outer → IsDepth t outer m → n ≡ m + 1 → IsDepth t s n

-- the level of an element: so many Systems stand around it; the fewer, the higher it is
abbrev pub IsLevel : SystemTree → Owner → ℕ → Type 0
IsLevel t (System s) n = IsDepth t s n
IsLevel t (Component i) n =
    (c : ComponentPart) × (slice_get t.components i ≡ Some c) ×
    ((m : ℕ) × IsDepth t c.system m × (n ≡ m + 1))

-- ---- names

-- the System sees the component's parameter under a name: what is left of its full name after the System's own
pub record SeesBelow (t : SystemTree) (s component : ℕ) (own name : List ℕ) : Type 0 where
  pub part : ComponentPart
  pub is : slice_get t.components component ≡ Some part
  pub within : IsWithin t s part.system
  pub scope : List ℕ
  pub scope_is : IsScope t s scope
  pub full : scope ++ name ≡ part.name ++ 46 ∷ own

-- the element sees a parameter of this own name of the component under this name
abbrev pub SeesName : SystemTree → Owner → ℕ → List ℕ → List ℕ → Type 0
SeesName t (Component i) component own name = (component ≡ i) × (name ≡ own)
SeesName t (System s) component own name = SeesBelow t s component own name

-- the element sees the target under this name
pub record Sees (t : SystemTree) (shapes : List Shape) (owner : Owner) (name : List ℕ)
    (target : Target) : Type 0 where
  pub variable : Variable
  pub is : IsTarget shapes target variable
  pub own : List ℕ
  pub called : IsCalled variable own
  pub seen : SeesName t owner target.component own name
