-- What a mapping makes of a parameter's value, and which values a parameter takes (SSP 1.0: ParameterMapping, transformations of its entries).
use Rattle.std.specs.Prelude.{◌≡◌, ◌≢◌, ◌≤◌, ◌+ℤ◌, ◌*ℤ◌, ℕ, ℤ, pos, Bool, true, false, List, Option, Some, None, slice_get}
use Rattle.value_types.specs.declared.values.PortType.{PortType}
use Rattle.value_types.specs.declared.joint.Class.{Class}
use Rattle.value_types.specs.declared.joint.Class.TheVariants as class
use Rattle.value_types.specs.Joint.{class_of}
use Rattle.value_types.specs.Values.{Fits}
use Rattle.parameter_values.specs.declared.change.IntegerPair.{IntegerPair}
use Rattle.parameter_values.specs.declared.change.BooleanPair.{BooleanPair}
use Rattle.parameter_values.specs.declared.change.Change.{Change}
use Rattle.parameter_values.specs.declared.change.Change.TheVariants as change
use Rattle.parameter_values.specs.declared.set.ParameterValue.{ParameterValue}
use Rattle.parameter_values.specs.declared.set.ParameterValue.TheVariants as value

-- ---- classes

-- the value is of this class
abbrev pub IsOf : ParameterValue → Class → Type 0
IsOf (value.Integer x) c = c ≡ class.Integer
IsOf (value.Boolean x) c = c ≡ class.Boolean
IsOf value.Other c = ⊥

-- the change may reach a parameter of this class: those of whole numbers no Boolean, and that of Booleans no integer
abbrev pub IsFor : Option Change → Class → Type 0
IsFor (Some (change.Linear factor offset)) c = c ≢ class.Boolean
IsFor (Some (change.Integers pairs)) c = c ≢ class.Boolean
IsFor (Some (change.Booleans pairs)) c = c ≢ class.Integer
IsFor None c = Unit {0}

-- ---- what a change gives

-- a Boolean as a number
abbrev pub bit : Bool → ℤ
bit true = pos 1
bit false = pos 0

-- the last of the pairs with this source has this target
pub record TakesInteger (pairs : List IntegerPair) (x y : ℤ) : Type 0 where
  pub place : ℕ
  pub is : slice_get pairs place ≡ Some (record { source = x; target = y })
  pub last : (k : ℕ) (p : IntegerPair) → slice_get pairs k ≡ Some p → p.source ≡ x → k ≤ place

pub record TakesBoolean (pairs : List BooleanPair) (x y : Bool) : Type 0 where
  pub place : ℕ
  pub is : slice_get pairs place ≡ Some (record { source = x; target = y })
  pub last : (k : ℕ) (p : BooleanPair) → slice_get pairs k ≡ Some p → p.source ≡ x → k ≤ place

-- the number that a value has after a change
abbrev pub Gives : Option Change → ParameterValue → ℤ → Type 0
Gives None (value.Integer x) y = y ≡ x
Gives None (value.Boolean x) y = y ≡ bit x
Gives (Some (change.Linear factor offset)) (value.Integer x) y = y ≡ factor *ℤ x +ℤ offset
Gives (Some (change.Integers pairs)) (value.Integer x) y = TakesInteger pairs x y
Gives (Some (change.Booleans pairs)) (value.Boolean x) y =
    (z : Bool) × TakesBoolean pairs x z × (y ≡ bit z)
Gives c v y = ⊥

-- ---- what a parameter of a type takes

-- the value isn't of the parameter's class
abbrev pub HasOtherClass : Option Change → ParameterValue → PortType → Type 0
HasOtherClass c v kind = IsOf v (class_of kind) → ⊥

-- the change is for another class than the parameter's
abbrev pub HasOtherChange : Option Change → PortType → Type 0
HasOtherChange c kind = IsFor c (class_of kind) → ⊥

-- value and change are of the parameter's class
abbrev pub IsOfClass : Option Change → ParameterValue → PortType → Type 0
IsOfClass c v kind = IsOf v (class_of kind) × IsFor c (class_of kind)

-- the change has no number for the value
abbrev pub HasNoPair : Option Change → ParameterValue → PortType → Type 0
HasNoPair c v kind = IsOfClass c v kind × ((y : ℤ) → Gives c v y → ⊥)

-- the number isn't in the range of the type
abbrev pub IsOutside : Option Change → ParameterValue → PortType → Type 0
IsOutside c v kind = IsOfClass c v kind × ((y : ℤ) × Gives c v y × (Fits kind y → ⊥))

-- the parameter takes this number
abbrev pub IsTaken : Option Change → ParameterValue → PortType → ℤ → Type 0
IsTaken c v kind y = IsOfClass c v kind × Gives c v y × Fits kind y
