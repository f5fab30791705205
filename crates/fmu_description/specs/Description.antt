-- What a model description says of its FMU (FMI 3.0, 2.4): the shape that its tree denotes.
use Rattle.std.specs.Prelude.{◌≡◌, ◌⊎◌, ℕ, ℤ, Bool, true, List, [], length, map, filter, Option, Some, None, unwrap_or, codes}
use Rattle.std.specs.List.{AllZip, range_with_len}
use Rattle.value_types.specs.declared.values.PortType.{PortType}
use Rattle.value_types.specs.declared.shape.Variable.{Variable}
use Rattle.value_types.specs.declared.shape.ClockTiming.{ClockTiming}
use Rattle.value_types.specs.declared.shape.Knowns.{Knowns}
use Rattle.value_types.specs.declared.shape.Knowns.TheVariants.{AllInputs, Listed}
use Rattle.value_types.specs.declared.shape.Dependency.{Dependency}
use Rattle.value_types.specs.declared.shape.Shape.{Shape}
use Rattle.value_types.specs.Reading.{Reads}
use Rattle.value_types.specs.Shape.{is_at, is_clock, is_output_port, is_port}
use Rattle.clock_fraction.specs.declared.fraction.Fraction.{Fraction}
use Rattle.doc_grammar.specs.Nodes.{Node}
use Rattle.doc_tree.specs.Elements.{children_of}
use Rattle.fmu_description.specs.Texts.{flag_or, references, port_type}
use Rattle.doc_tables.specs.Elements.{name_of, attribute, text_of}
use Rattle.doc_tables.specs.Tables.{IsFirstWith, IsHeld}
use Rattle.fmu_description.specs.Elements.{is_variable, is_alias, reference_of, causality_of, has_flag, variable_key, output_key, initial_key, IsCoSimulation}
use Rattle.fmu_description.specs.Clocks.{IsIgnored, IsTimed, variability_of, clocks_of, IsInterval, IsShift}
use Rattle.fmu_description.specs.Rules.{IsSoundDescription}

-- the tree is sound at some resolution, of which only the rule on whole counts speaks
abbrev pub IsSoundTree : List Node → Type 0
IsSoundTree t = (per_second : ℕ) × IsSoundDescription t per_second

-- ---- variables (2.4.7)

-- the elements of the variables, in the order of the description
abbrev pub variables_in : List Node → List ℕ
variables_in t = filter (is_variable t) (range_with_len 0 (length t))

abbrev pub aliases_of : List Node → ℕ → List (List ℕ)
aliases_of t k = map (λ (a : ℕ). text_of t a (codes "name")) (filter (is_alias t) (children_of t k))

-- the start value, where it is given
abbrev pub IsStart : Option PortType → Option (List ℕ) → Option ℤ → Type 0
IsStart None text start = start ≡ None
IsStart (Some kind) None start = start ≡ None
IsStart (Some kind) (Some text) start = (value : ℤ) × (start ≡ Some value) × Reads kind text value

-- where a type and a text are given, the text reads
abbrev pub ReadsStart : Option PortType → Option (List ℕ) → Type 0
ReadsStart kind text =
    (k : PortType) (bytes : List ℕ) → kind ≡ Some k → text ≡ Some bytes →
    ((value : ℤ) → Reads k bytes value → ⊥) → ⊥

-- an ignored variable has neither type nor start value
abbrev pub IsKind : List Node → ℕ → Option PortType → Option ℤ → Type 0
IsKind t k kind start =
    (IsIgnored t k × (kind ≡ None) × (start ≡ None))
    ⊎ ((IsIgnored t k → ⊥) × (kind ≡ port_type (name_of t k)) ×
    IsStart kind (attribute t k (codes "start")) start)

-- a flag that is set unless the element says otherwise
abbrev pub is_kept_on : List Node → ℕ → List ℕ → Bool
is_kept_on t k name = unwrap_or (flag_or true (attribute t k name)) true

-- the variable that an element describes
pub record IsVariable (t : List Node) (k : ℕ) (x : Variable) : Type 0 where
  pub name : x.name ≡ text_of t k (codes "name")
  pub aliases : x.aliases ≡ aliases_of t k
  pub reference : reference_of t k ≡ Some x.reference
  pub kind : IsKind t k x.kind x.start
  pub causality : x.causality ≡ causality_of t k
  pub clocks : x.clocks ≡ clocks_of t k
  pub again : x.can_be_set_again ≡ is_kept_on t k (codes "canHandleMultipleSetPerTimeInstant")

-- ---- clocks (2.4.7.5)

-- the fraction that is described, or none where none is
abbrev pub IsTold : (Fraction → Type 0) → Option Fraction → Type 0
IsTold P None = (f : Fraction) → P f → ⊥
IsTold P (Some f) = P f

-- a shift is told beside an interval alone
abbrev pub IsShiftTold : List Node → ℕ → Option Fraction → Option Fraction → Type 0
IsShiftTold t k None shift = shift ≡ None
IsShiftTold t k (Some interval) shift = (f : Fraction) × (shift ≡ Some f) × IsShift t k f

-- where there is an interval, there is a shift beside it
abbrev pub HasShift : List Node → ℕ → Option Fraction → Type 0
HasShift t k interval =
    (f : Fraction) → interval ≡ Some f → ((shift : Fraction) → IsShift t k shift → ⊥) → ⊥

pub record IsTiming (t : List Node) (k : ℕ) (x : ClockTiming) : Type 0 where
  pub reference : reference_of t k ≡ Some x.reference
  pub variability : variability_of t k ≡ Some x.variability
  pub fraction : x.supports_fraction ≡ has_flag t k (codes "supportsFraction")
  pub interval : IsTold (IsInterval t k) x.interval
  pub shift : IsShiftTold t k x.interval x.shift

-- the reference is that of a Clock that isn't local
abbrev pub IsTimedAt : List Node → ℕ → Type 0
IsTimedAt t reference = (k : ℕ) × (variable_key t k ≡ Some reference) × IsTimed t k

-- the timing of a variable of type Clock
abbrev pub IsTimingOf : List Node → Variable → ClockTiming → Type 0
IsTimingOf t x timing = (k : ℕ) × (variable_key t k ≡ Some x.reference) × IsTiming t k timing

abbrev pub clocks_among : List Variable → List Variable
clocks_among xs = filter is_clock xs

-- ---- dependencies (2.4.9: ModelStructure)

abbrev pub outputs_among : List Variable → List Variable
outputs_among xs = filter is_output_port xs

-- the reference is that of a port
abbrev pub is_port_at : List Variable → ℕ → Bool
is_port_at xs reference = is_at is_port xs reference

-- what a list of dependencies says: an absent one means all inputs, an empty one none; what is no port is dropped
abbrev pub listed : List Variable → Option (List ℕ) → Knowns
listed xs None = AllInputs
listed xs (Some text) = Listed (filter (is_port_at xs) (unwrap_or (references text) []))

-- what an output depends on in Event Mode and Step Mode: what its Output lists, without one all inputs
abbrev pub DependsOn : List Node → List Variable → ℕ → Knowns → Type 0
DependsOn t xs reference on =
    ((k : ℕ) × IsFirstWith (output_key t) reference k ×
    (on ≡ listed xs (attribute t k (codes "dependencies"))))
    ⊎ ((IsHeld (output_key t) reference → ⊥) × (on ≡ AllInputs))

-- its start value is exact, and isn't computed from others
abbrev pub IsExact : List Node → ℕ → Type 0
IsExact t reference =
    (k : ℕ) × (variable_key t k ≡ Some reference) ×
    (attribute t k (codes "initial") ≡ Some (codes "exact"))

-- what it depends on in Initialization Mode: what its InitialUnknown lists; without one nothing where it is exact, else as in the other modes (the choice of this profile)
abbrev pub DependsInitiallyOn : List Node → List Variable → ℕ → Knowns → Type 0
DependsInitiallyOn t xs reference on =
    ((k : ℕ) × IsFirstWith (initial_key t) reference k ×
    (on ≡ listed xs (attribute t k (codes "dependencies"))))
    ⊎ ((IsHeld (initial_key t) reference → ⊥)
    × ((IsExact t reference × (on ≡ Listed [])) ⊎
    ((IsExact t reference → ⊥) × DependsOn t xs reference on)))

abbrev pub IsDependency : List Node → List Variable → Variable → Dependency → Type 0
IsDependency t xs x d = (d.output ≡ x.reference) × DependsOn t xs x.reference d.on

abbrev pub IsInitialDependency : List Node → List Variable → Variable → Dependency → Type 0
IsInitialDependency t xs x d = (d.output ≡ x.reference) × DependsInitiallyOn t xs x.reference d.on

-- ---- the whole

-- what the element CoSimulation says (4.4)
pub record SaysOf (t : List Node) (k : ℕ) (shape : Shape) : Type 0 where
  pub identifier : shape.identifier ≡ text_of t k (codes "modelIdentifier")
  pub event_mode : shape.has_event_mode ≡ has_flag t k (codes "hasEventMode")
  pub early : shape.might_return_early ≡ has_flag t k (codes "mightReturnEarlyFromDoStep")
  pub variable : shape.has_variable_steps ≡
      has_flag t k (codes "canHandleVariableCommunicationStepSize")
  pub saves : shape.can_save_state ≡ has_flag t k (codes "canGetAndSetFMUState")
  pub serializes : shape.can_serialize_state ≡ has_flag t k (codes "canSerializeFMUState")

-- the shape is what the tree says of the FMU, where a second has so many counts
pub record Describes (t : List Node) (per_second : ℕ) (shape : Shape) : Type 0 where
  pub element : ℕ
  pub is : IsCoSimulation t element
  pub says : SaysOf t element shape
  pub token : shape.token ≡ text_of t 0 (codes "instantiationToken")
  pub resolution : shape.resolution ≡ per_second
  pub variables : AllZip (IsVariable t) (variables_in t) shape.variables
  pub clocks : AllZip (IsTimingOf t) (clocks_among shape.variables) shape.clocks
  pub dependencies : AllZip (IsDependency t shape.variables)
      (outputs_among shape.variables) shape.dependencies
  pub initial : AllZip (IsInitialDependency t shape.variables) (outputs_among shape.variables)
      shape.initial_dependencies
