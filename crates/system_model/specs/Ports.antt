-- What the ports of a system are (SSP 1.0: components and their connectors; FMI 3.0, 2.4.7: variables).
use Rattle.std.specs.Prelude.{ℕ, suc, Bool, true, false, if◌then◌else◌, List, [], ◌∷◌, ◌++◌, map, Option, None}
use Rattle.std.specs.List.{filter_map}
use Rattle.std.specs.Option.{option_map}
use Rattle.sim_base.specs.declared.numbers.PortId.{PortId}
use Rattle.value_types.specs.Shape.{is_port}
use Rattle.value_types.specs.declared.values.PortType.{PortType}
use Rattle.value_types.specs.declared.shape.Variable.{Variable}
use Rattle.system_model.specs.declared.system.Component.{Component}
use Rattle.system_model.specs.declared.system.Feed.{Feed}
use Rattle.system_model.specs.declared.system.Role.{Role}
use Rattle.system_model.specs.declared.system.Role.TheVariants.{Input, Output, ClockInput, ClockOutput, TimeClock}
use Rattle.system_model.specs.declared.system.Port.{Port}

-- the numbers of some ports
abbrev pub port_numbers : List PortId → List ℕ
port_numbers ports = map (λ (p : PortId). p.0) ports

-- ---- roles

-- what feeds a connected input
abbrev pub feed_of : Role → Option Feed
feed_of (Input feed) = feed
feed_of Output = None
feed_of (ClockInput feed) = feed
feed_of ClockOutput = None
feed_of (TimeClock timing) = None

-- the output that feeds it
abbrev pub source_of : Role → Option ℕ
source_of (Input feed) = option_map (λ (f : Feed). f.from.0) feed
source_of Output = None
source_of (ClockInput feed) = option_map (λ (f : Feed). f.from.0) feed
source_of ClockOutput = None
source_of (TimeClock timing) = None

-- an output, a Clock or not
abbrev pub is_output_role : Role → Bool
is_output_role (Input feed) = false
is_output_role Output = true
is_output_role (ClockInput feed) = false
is_output_role ClockOutput = true
is_output_role (TimeClock timing) = false

-- a Clock, an input or an output
abbrev pub is_clock_role : Role → Bool
is_clock_role (Input feed) = false
is_clock_role Output = false
is_clock_role (ClockInput feed) = true
is_clock_role ClockOutput = true
is_clock_role (TimeClock timing) = true

-- ---- what names a port

-- the number of its component, and the name, type and value reference of its variable there
pub record Label : Type 0 where
  pub component : ℕ
  pub name : List ℕ
  pub kind : PortType
  pub reference : ℕ

abbrev pub label_of : Port → Label
label_of port = record {
  component = port.component.0;
  name = port.name;
  kind = port.kind;
  reference = port.reference;
}

-- a variable of the i-th component as a port, where it is one
abbrev pub label_at : ℕ → Variable → Option Label
label_at i v =
    if is_port v then option_map (λ (kind : PortType).
    record { component = i; name = v.name; kind = kind; reference = v.reference }) v.kind
    else None

-- the ports of these components, by component and then by place in its description; the numbers of the components go on from i
abbrev pub labels_from : ℕ → List Component → List Label
labels_from i [] = []
labels_from i (c ∷ cs) = filter_map (label_at i) c.shape.variables ++ labels_from (suc i) cs
