-- The rules of a model description (FMI 3.0, 2.4; 2.2.8 for clocks), each a statement about one tree and one of its elements.
use Rattle.std.specs.Prelude.{◌≡◌, ◌≢◌, ◌⊎◌, ℕ, ℤ, true, false, List, Option, Some, None, is_some, Contains, codes, nat_eq}
use Rattle.std.specs.List.{starts_with}
use Rattle.value_types.specs.declared.values.PortType.{PortType}
use Rattle.value_types.specs.Reading.{Reads}
use Rattle.value_types.specs.declared.shape.Causality.TheVariants as c
use Rattle.value_types.specs.declared.shape.IntervalVariability.{IntervalVariability}
use Rattle.value_types.specs.declared.shape.IntervalVariability.TheVariants as v
use Rattle.clock_fraction.specs.declared.fraction.Fraction.{Fraction}
use Rattle.clock_fraction.specs.Counts.{IsInCounts}
use Rattle.clock_fraction.specs.Decimal.{Denotes}
use Rattle.doc_grammar.specs.Nodes.{Node}
use Rattle.doc_tree.specs.Rules.{description_number}
use Rattle.doc_tree.specs.declared.rule.DescriptionRule.{DescriptionRule}
use Rattle.doc_tree.specs.declared.rule.DescriptionRule.TheVariants as r
use Rattle.fmu_description.specs.Texts.{reference, references, counter, variability, port_type}
use Rattle.doc_tables.specs.Elements.{name_of, is_named, attribute, Lacks, LacksText, Misreads}
use Rattle.doc_tables.specs.Tables.{IsRepeated, IsHeld}
use Rattle.doc_tables.specs.Violations as first
use Rattle.fmu_description.specs.Elements.{is_co_simulation, is_variable, is_clock, is_alias, reference_of, references_of, causality_of, flag_of, has_flag, variable_key, clock_key, name_key, IsCoSimulation, IsUnknown}
use Rattle.fmu_description.specs.Clocks.{IsIgnored, IsTimed, variability_of, counter_of, clocks_of, is_by_counters, IsInterval, IsShift}

-- ---- what is absent

-- an empty name counts as absent
abbrev pub LacksName : List Node → ℕ → Type 0
LacksName t k = LacksText t k (codes "name")

abbrev pub LacksOfRoot : List Node → ℕ → Type 0
LacksOfRoot t k =
    (k ≡ 0) × (Lacks t k (codes "fmiVersion") ⊎
    (Lacks t k (codes "modelName") ⊎ Lacks t k (codes "instantiationToken")))

abbrev pub LacksOfVariable : List Node → ℕ → Type 0
LacksOfVariable t k =
    (is_variable t k ≡ true) × (LacksName t k ⊎
    (Lacks t k (codes "valueReference") ⊎
    (IsTimed t k × Lacks t k (codes "intervalVariability"))))

abbrev pub LacksOfAlias : List Node → ℕ → Type 0
LacksOfAlias t k = (is_alias t k ≡ true) × LacksName t k

abbrev pub LacksOfUnknown : List Node → ℕ → Type 0
LacksOfUnknown t k = IsUnknown t k × Lacks t k (codes "valueReference")

abbrev pub LacksOfCoSimulation : List Node → ℕ → Type 0
LacksOfCoSimulation t k = IsCoSimulation t k × Lacks t k (codes "modelIdentifier")

-- ---- what doesn't read

abbrev pub MisreadsFlag : List Node → ℕ → List ℕ → Type 0
MisreadsFlag t k name = flag_of t k name ≡ None

abbrev pub MisreadsDecimal : List Node → ℕ → List ℕ → Type 0
MisreadsDecimal t k name =
    (text : List ℕ) × (attribute t k name ≡ Some text) × ((f : Fraction) → Denotes text f → ⊥)

-- the start value doesn't read as the type
abbrev pub MisreadsValue : List Node → ℕ → Type 0
MisreadsValue t k =
    (text : List ℕ) × (kind : PortType) × (attribute t k (codes "start") ≡ Some text)
    × (port_type (name_of t k) ≡ Some kind) × ((value : ℤ) → Reads kind text value → ⊥)

-- nor is the variable ignored
abbrev pub MisreadsStart : List Node → ℕ → Type 0
MisreadsStart t k = (IsIgnored t k → ⊥) × MisreadsValue t k

abbrev pub MisreadsOfCoSimulation : List Node → ℕ → Type 0
MisreadsOfCoSimulation t k =
    IsCoSimulation t k × (MisreadsFlag t k (codes "hasEventMode")
    ⊎ (MisreadsFlag t k (codes "mightReturnEarlyFromDoStep")
    ⊎ (MisreadsFlag t k (codes "canHandleVariableCommunicationStepSize")
    ⊎ (MisreadsFlag t k (codes "canGetAndSetFMUState")
    ⊎ MisreadsFlag t k (codes "canSerializeFMUState")))))

abbrev pub MisreadsSetting : List Node → ℕ → Type 0
MisreadsSetting t k =
    MisreadsFlag t k (codes "canHandleMultipleSetPerTimeInstant") ⊎ MisreadsStart t k

abbrev pub MisreadsOfVariable : List Node → ℕ → Type 0
MisreadsOfVariable t k =
    (is_variable t k ≡ true) × (Misreads reference t k (codes "valueReference")
    ⊎ (Misreads references t k (codes "clocks")
    ⊎ MisreadsSetting t k))

-- the resolution of a clock is 0
abbrev pub HasNoResolution : List Node → ℕ → Type 0
HasNoResolution t k = counter_of t k (codes "resolution") ≡ Some 0

abbrev pub MisreadsCounters : List Node → ℕ → Type 0
MisreadsCounters t k =
    Misreads counter t k (codes "intervalCounter")
    ⊎ (Misreads counter t k (codes "shiftCounter")
    ⊎ (Misreads counter t k (codes "resolution")
    ⊎ HasNoResolution t k))

abbrev pub MisreadsDecimals : List Node → ℕ → Type 0
MisreadsDecimals t k =
    MisreadsDecimal t k (codes "intervalDecimal") ⊎ MisreadsDecimal t k (codes "shiftDecimal")

-- the interval or the shift of a clock
abbrev pub MisreadsTime : List Node → ℕ → Type 0
MisreadsTime t k = MisreadsCounters t k ⊎ MisreadsDecimals t k

abbrev pub MisreadsTicks : List Node → ℕ → Type 0
MisreadsTicks t k =
    MisreadsFlag t k (codes "supportsFraction") ⊎
    (Misreads variability t k (codes "intervalVariability") ⊎ MisreadsTime t k)

abbrev pub MisreadsOfClock : List Node → ℕ → Type 0
MisreadsOfClock t k = (is_clock t k ≡ true) × MisreadsTicks t k

abbrev pub MisreadsOfUnknown : List Node → ℕ → Type 0
MisreadsOfUnknown t k =
    IsUnknown t k × (Misreads reference t k (codes "valueReference") ⊎
    Misreads references t k (codes "dependencies"))

-- ---- clocks

abbrev pub HasVariability : List Node → ℕ → IntervalVariability → Type 0
HasVariability t k x = variability_of t k ≡ Some x

-- the interval has to be described: of a constant clock, and of a fixed one that isn't asked for it
abbrev pub NeedsInterval : List Node → ℕ → Type 0
NeedsInterval t k =
    HasVariability t k v.Constant
    ⊎ (HasVariability t k v.Fixed × (has_flag t k (codes "supportsFraction") ≡ false))

abbrev pub HasInterval : List Node → ℕ → Type 0
HasInterval t k =
    (is_by_counters t k ≡ true) ⊎ (is_some (attribute t k (codes "intervalDecimal")) ≡ true)

abbrev pub LacksInterval : List Node → ℕ → Type 0
LacksInterval t k = IsTimed t k × NeedsInterval t k × (HasInterval t k → ⊥)

-- every variability but triggered
abbrev pub IsTimeBased : List Node → ℕ → Type 0
IsTimeBased t k = (x : IntervalVariability) × HasVariability t k x × (x ≢ v.Triggered)

abbrev pub HasWrongCausality : List Node → ℕ → Type 0
HasWrongCausality t k =
    (IsTimeBased t k × (causality_of t k ≢ c.Input))
    ⊎ (HasVariability t k v.Triggered × (causality_of t k ≢ c.Input) ×
    (causality_of t k ≢ c.Output))

abbrev pub HasUnevenShift : List Node → ℕ → ℕ → Type 0
HasUnevenShift t per_second k =
    (shift : Fraction) × IsShift t k shift × (IsInCounts per_second shift → ⊥)

-- the interval that is described is 0, or it or its shift isn't whole
abbrev pub IsUneven : List Node → ℕ → ℕ → Type 0
IsUneven t per_second k =
    (f : Fraction) × IsInterval t k f ×
    ((f.counter ≡ 0) ⊎ ((IsInCounts per_second f → ⊥) ⊎ HasUnevenShift t per_second k))

-- an interval that is used isn't whole: of a changing clock neither interval nor shift is
abbrev pub UsesUneven : List Node → ℕ → ℕ → Type 0
UsesUneven t per_second k = (HasVariability t k v.Changing → ⊥) × IsUneven t per_second k

abbrev pub HasNoCoSimulation : List Node → Type 0
HasNoCoSimulation t = (k : ℕ) → is_co_simulation t k ≡ true → ⊥

-- the FMU has no event mode: its CoSimulation doesn't set the flag
abbrev pub HasNoEventMode : List Node → Type 0
HasNoEventMode t = (k : ℕ) × IsCoSimulation t k × (flag_of t k (codes "hasEventMode") ≡ Some false)

-- ---- references

-- one of the references is the key of no element
abbrev pub NamesNone : (ℕ → Option ℕ) → List ℕ → Type 0
NamesNone key references = (x : ℕ) × Contains references x × (IsHeld key x → ⊥)

abbrev pub NamesNoClock : List Node → ℕ → Type 0
NamesNoClock t k = NamesNone (clock_key t) (clocks_of t k)

-- its own reference is that of no variable
abbrev pub RefersToNothing : List Node → ℕ → Type 0
RefersToNothing t k = (x : ℕ) × (reference_of t k ≡ Some x) × (IsHeld (variable_key t) x → ⊥)

-- one of its dependencies is the reference of no variable
abbrev pub DependsOnNothing : List Node → ℕ → Type 0
DependsOnNothing t k = NamesNone (variable_key t) (references_of t k (codes "dependencies"))

abbrev pub NamesNoVariable : List Node → ℕ → Type 0
NamesNoVariable t k = RefersToNothing t k ⊎ DependsOnNothing t k

-- `3.0`, or what begins with `3.0.`
abbrev pub IsVersion : List ℕ → Type 0
IsVersion text = (text ≡ codes "3.0") ⊎ (starts_with nat_eq text (codes "3.0.") ≡ true)

-- ---- the rules

abbrev pub HasOtherName : List Node → ℕ → Type 0
HasOtherName t k = (k ≡ 0) × (is_named t k (codes "fmiModelDescription") ≡ false)

abbrev pub NamesOtherVersion : List Node → ℕ → Type 0
NamesOtherVersion t k =
    (text : List ℕ) × (attribute t k (codes "fmiVersion") ≡ Some text) × (IsVersion text → ⊥)

abbrev pub HasOtherVersion : List Node → ℕ → Type 0
HasOtherVersion t k = (k ≡ 0) × NamesOtherVersion t k

abbrev pub LacksCoSimulation : List Node → ℕ → Type 0
LacksCoSimulation t k = (k ≡ 0) × HasNoCoSimulation t

abbrev pub LacksSomething : List Node → ℕ → Type 0
LacksSomething t k =
    LacksOfRoot t k ⊎ (LacksOfCoSimulation t k ⊎
    (LacksOfVariable t k ⊎ (LacksOfAlias t k ⊎ LacksOfUnknown t k)))

abbrev pub MisreadsSomething : List Node → ℕ → Type 0
MisreadsSomething t k =
    MisreadsOfCoSimulation t k ⊎ (MisreadsOfVariable t k ⊎
    (MisreadsOfClock t k ⊎ MisreadsOfUnknown t k))

abbrev pub NamesNoClockAt : List Node → ℕ → Type 0
NamesNoClockAt t k = (is_variable t k ≡ true) × NamesNoClock t k

abbrev pub NamesNoVariableAt : List Node → ℕ → Type 0
NamesNoVariableAt t k = IsUnknown t k × NamesNoVariable t k

abbrev pub SerializesUnsaved : List Node → ℕ → Type 0
SerializesUnsaved t k =
    IsCoSimulation t k × (has_flag t k (codes "canSerializeFMUState") ≡ true) ×
    (has_flag t k (codes "canGetAndSetFMUState") ≡ false)

abbrev pub HasNoEvents : List Node → ℕ → Type 0
HasNoEvents t k = IsTimed t k × HasNoEventMode t

-- the element breaks the rule, where a second has so many counts
abbrev pub ViolatesDescription : List Node → ℕ → DescriptionRule → ℕ → Type 0
-- 10: the root is no `fmiModelDescription` (2.4.1)
ViolatesDescription t per_second r.RootName k = HasOtherName t k
-- 11: another version than 3.0 (2.4.1)
ViolatesDescription t per_second r.Version k = HasOtherVersion t k
-- 12: no CoSimulation (4.4; Model Exchange and Scheduled Execution are unsupported)
ViolatesDescription t per_second r.NoCoSimulation k = LacksCoSimulation t k
-- 13: a required attribute is absent (2.4)
ViolatesDescription t per_second r.Absent k = LacksSomething t k
-- 14: an attribute doesn't read as its type (2.4)
ViolatesDescription t per_second r.Misread k = MisreadsSomething t k
-- 15: a value reference twice (2.4.7: value references are unique in this profile)
ViolatesDescription t per_second r.ReferenceTwice k = IsRepeated (variable_key t) k
-- 16: a name twice, those of aliases included (2.4.7.4)
ViolatesDescription t per_second r.NameTwice k = IsRepeated (name_key t) k
-- 17: a clock has no interval (2.4.7.5)
ViolatesDescription t per_second r.NoInterval k = LacksInterval t k
-- 18: a time-based clock is an input, a triggered one an input or an output (2.2.8)
ViolatesDescription t per_second r.ClockCausality k = IsTimed t k × HasWrongCausality t k
-- 19: an interval is above 0, and it and its shift are whole counts, but for a changing clock, whose FMU is asked for both (a narrowing of this profile)
ViolatesDescription t per_second r.Uneven k = IsTimed t k × UsesUneven t per_second k
-- 20: what `clocks` names is no Clock (2.4.7.4)
ViolatesDescription t per_second r.NoClock k = NamesNoClockAt t k
-- 21: what an Output or InitialUnknown names is no variable (2.4.9)
ViolatesDescription t per_second r.NoVariable k = NamesNoVariableAt t k
-- 22: a state is serialized only where it can be saved (2.2.6)
ViolatesDescription t per_second r.SerializesUnsaved k = SerializesUnsaved t k
-- 23: tunable clocks are unsupported
ViolatesDescription t per_second r.LeftOut k = IsTimed t k × HasVariability t k v.Tunable
-- 24: a Clock asks for event mode (2.2.8)
ViolatesDescription t per_second r.ClockWithoutEvents k = HasNoEvents t k

abbrev pub BreaksNoRule : List Node → ℕ → ℕ → Type 0
BreaksNoRule t per_second k = first.BreaksNoRule (ViolatesDescription t per_second) k

-- the least number of a rule that the element breaks
abbrev pub IsLeast : List Node → ℕ → ℕ → DescriptionRule → Type 0
IsLeast t per_second k rule = first.IsLeast description_number (ViolatesDescription t per_second) k rule

-- the first violation: at the first element that breaks a rule, the one of the least number
abbrev pub IsFirstDescriptionViolation : List Node → ℕ → ℕ → DescriptionRule → Type 0
IsFirstDescriptionViolation t per_second k rule =
    first.IsFirstViolation description_number (ViolatesDescription t per_second) k rule

-- no element breaks a rule
abbrev pub IsSoundDescription : List Node → ℕ → Type 0
IsSoundDescription t per_second = first.HasNoViolation (ViolatesDescription t per_second)
