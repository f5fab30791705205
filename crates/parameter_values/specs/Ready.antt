-- A change with its pairs in a table, and how it judges a value for a parameter (SSP 1.0: ParameterMapping, transformations of its entries).
use Rattle.std.specs.Prelude.{◌≡◌, ℕ, ℤ, Bool, true, false, List, Option, Some, None, slice_get}
use Rattle.std.specs.BTreeMap.{get}
use Rattle.std.specs.Ordering.{int_cmp}
use Rattle.value_types.specs.declared.values.PortType.{PortType}
use Rattle.value_types.specs.Joint.{class_of}
use Rattle.parameter_values.specs.declared.change.IntegerPair.{IntegerPair}
use Rattle.parameter_values.specs.declared.change.BooleanPair.{BooleanPair}
use Rattle.parameter_values.specs.declared.change.Change.{Change}
use Rattle.parameter_values.specs.declared.change.Change.TheVariants as change
use Rattle.parameter_values.specs.declared.judgement.Judgement.{Judgement}
use Rattle.parameter_values.specs.declared.judgement.Judgement.TheVariants.{Taken, OtherClass, OtherChange, NoPair, Outside}
use Rattle.parameter_values.specs.declared.ready.ReadyChange.{ReadyChange}
use Rattle.parameter_values.specs.declared.ready.ReadyChange.TheVariants as ready
use Rattle.parameter_values.specs.declared.set.ParameterValue.{ParameterValue}
use Rattle.parameter_values.specs.Values.{IsOf, Gives, HasNoPair, HasOtherChange, HasOtherClass, IsOutside, IsTaken, TakesBoolean, TakesInteger}

-- ---- tables

-- nothing where no pair has the source, and else the target of the last that has it
abbrev pub FindsInteger : List IntegerPair → ℤ → Option ℤ → Type 0
FindsInteger pairs x None =
    (k : ℕ) (p : IntegerPair) → slice_get pairs k ≡ Some p → p.source ≡ x → ⊥
FindsInteger pairs x (Some y) = TakesInteger pairs x y

abbrev pub FindsBoolean : List BooleanPair → Bool → Option Bool → Type 0
FindsBoolean pairs x None =
    (k : ℕ) (p : BooleanPair) → slice_get pairs k ≡ Some p → p.source ≡ x → ⊥
FindsBoolean pairs x (Some y) = TakesBoolean pairs x y

-- the change with its tables
abbrev pub IsReady : Option Change → ReadyChange → Type 0
IsReady None ready.Same = Unit {0}
IsReady (Some (change.Linear factor offset)) (ready.Linear f o) = (f ≡ factor) × (o ≡ offset)
IsReady (Some (change.Integers pairs)) (ready.Integers targets) =
    (x : ℤ) → FindsInteger pairs x (get int_cmp targets x)
IsReady (Some (change.Booleans pairs)) (ready.Booleans of_false of_true) =
    FindsBoolean pairs false of_false × FindsBoolean pairs true of_true
IsReady c r = ⊥

-- ---- judgements

-- the number that a value has after a change, where it has one
abbrev pub FindsGiven : Option Change → ParameterValue → Option ℤ → Type 0
FindsGiven c v None = (y : ℤ) → Gives c v y → ⊥
FindsGiven c v (Some y) = Gives c v y

-- whether a parameter of a type takes the value after the change, and why not; classes are asked first
abbrev pub Judges : Option Change → ParameterValue → PortType → Judgement → Type 0
Judges c v kind (Taken y) = IsTaken c v kind y
Judges c v kind OtherClass = HasOtherClass c v kind
Judges c v kind OtherChange = IsOf v (class_of kind) × HasOtherChange c kind
Judges c v kind NoPair = HasNoPair c v kind
Judges c v kind Outside = IsOutside c v kind
