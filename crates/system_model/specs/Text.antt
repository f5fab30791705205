-- The text of a trace: a header with a line for each port, an `at` line for each super-dense instant with a line for each port that has a value, and an end line.
use Rattle.std.specs.Prelude.{ℕ, ◌+◌, ℤ, List, [], ◌∷◌, ◌++◌, Option, Some, None, slice_get, codes, decimal}
use Rattle.std.specs.Option.{option_map_or}
use Rattle.std.specs.Fmt.{signed_decimal}
use Rattle.sim_base.specs.Escape.{escaped}
use Rattle.value_types.specs.declared.values.PortType.{PortType}
use Rattle.value_types.specs.declared.values.PortType.TheVariants.{Int8, UInt8, Int16, UInt16, Int32, UInt32, Int64, UInt64, Boolean, Enumeration, Clock}
use Rattle.system_model.specs.declared.system.Component.{Component}
use Rattle.system_model.specs.declared.system.Port.{Port}
use Rattle.system_model.specs.declared.system.System.{System}
use Rattle.system_model.specs.declared.plan.Plan.{Plan}
use Rattle.system_model.specs.declared.plan.EndKind.{EndKind}
use Rattle.system_model.specs.declared.plan.EndKind.TheVariants.{Stop, Asked, Limit, Fixed, Range, Fault}

-- the values of the ports, where they have one, in the n-th instant at the point t
pub record Instant : Type 0 where
  pub t : ℕ
  pub n : ℕ
  pub values : List (Option ℤ)

abbrev pub instant_at : ℕ → ℕ → List (Option ℤ) → Instant
instant_at t n values = record { t = t; n = n; values = values }

-- the name of a type in FMI 3.0
abbrev pub type_name : PortType → List ℕ
type_name Int8 = codes "Int8"
type_name UInt8 = codes "UInt8"
type_name Int16 = codes "Int16"
type_name UInt16 = codes "UInt16"
type_name Int32 = codes "Int32"
type_name UInt32 = codes "UInt32"
type_name Int64 = codes "Int64"
type_name UInt64 = codes "UInt64"
type_name Boolean = codes "Boolean"
type_name Enumeration = codes "Enumeration"
type_name Clock = codes "Clock"

-- ---- lines, each without the line feed that ends it

abbrev pub header_line : ℕ → ℕ → ℕ → List ℕ
header_line resolution start stop =
    codes "trace 1 " ++ (decimal resolution ++ (32 ∷ (decimal start ++ (32 ∷ decimal stop))))

-- a port's line by its fields
abbrev pub port_fields : ℕ → PortType → List ℕ → List ℕ → List ℕ
port_fields k kind component variable =
    codes "port " ++ (decimal k ++ (32 ∷ (type_name kind ++ (32 ∷ (component ++ (32 ∷ variable))))))

abbrev pub at_line : ℕ → ℕ → List ℕ
at_line t n = codes "at " ++ (decimal t ++ (32 ∷ decimal n))

abbrev pub value_line : ℕ → ℤ → List ℕ
value_line k value = decimal k ++ (32 ∷ signed_decimal value)

abbrev pub kind_text : EndKind → List ℕ
kind_text Stop = codes "stop"
kind_text Asked = codes "asked"
kind_text Limit = codes "limit"
kind_text Fixed = codes "fixed"
kind_text Range = codes "range"
kind_text Fault = codes "fault"

abbrev pub end_line : EndKind → ℕ → List ℕ
end_line kind t = codes "end " ++ (kind_text kind ++ (32 ∷ decimal t))

-- each line with its end
abbrev pub lines_text : List (List ℕ) → List ℕ
lines_text [] = []
lines_text (line ∷ lines) = line ++ (10 ∷ lines_text lines)

-- ---- the text of a run

-- a component's full name
abbrev pub component_name : List Component → ℕ → List ℕ
component_name components k = option_map_or (λ (c : Component). c.name) (slice_get components k) []

abbrev pub port_line : List Component → ℕ → Port → List ℕ
port_line components k port =
    port_fields k port.kind (escaped (component_name components port.component.0))
    (escaped port.name)

-- a line for each port, whose numbers go on from k
abbrev pub port_lines_from : List Component → ℕ → List Port → List (List ℕ)
port_lines_from components k [] = []
port_lines_from components k (port ∷ ports) =
    port_line components k port ∷ port_lines_from components (k + 1) ports

abbrev pub header_text : System → ℕ → ℕ → ℕ → List ℕ
header_text system resolution start stop =
    lines_text (header_line resolution start stop ∷
    port_lines_from system.components 0 system.ports)

-- a line for each port that has a value, whose numbers go on from k
abbrev pub value_lines_from : ℕ → List (Option ℤ) → List (List ℕ)
value_lines_from k [] = []
value_lines_from k (None ∷ values) = value_lines_from (k + 1) values
value_lines_from k (Some value ∷ values) = value_line k value ∷ value_lines_from (k + 1) values

abbrev pub instant_text : ℕ → ℕ → List (Option ℤ) → List ℕ
instant_text t n values = lines_text (at_line t n ∷ value_lines_from 0 values)

abbrev pub instants_text : List Instant → List ℕ
instants_text [] = []
instants_text (i ∷ is) = instant_text i.t i.n i.values ++ instants_text is

abbrev pub end_text : EndKind → ℕ → List ℕ
end_text kind t = lines_text (end_line kind t ∷ [])

abbrev pub trace_text : System → Plan → List Instant → EndKind → ℕ → List ℕ
trace_text system plan instants kind point =
    header_text system plan.resolution plan.start plan.stop ++
    (instants_text instants ++ end_text kind point)
