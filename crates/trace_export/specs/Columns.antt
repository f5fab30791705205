-- What a port's number stands for, by a list of the ports that hold the bits of reals.
use Rattle.std.specs.Prelude.{◌&&◌, Bool, true, false, List, map, Option, Some, None, bytes_eq, if◌then◌else◌}
use Rattle.std.specs.List.{find}
use Rattle.value_types.specs.declared.values.PortType.{PortType}
use Rattle.value_types.specs.declared.values.PortType.TheVariants as Types
use Rattle.trace_reading.specs.declared.trace.TracePort.{TracePort}
use Rattle.trace_export.specs.declared.cells.Form.{Form}
use Rattle.trace_export.specs.declared.cells.Form.TheVariants.{Whole, Float64, Float32}
use Rattle.trace_export.specs.declared.reals.RealPort.{RealPort}

-- whether a real of 64 bits, or one of 32, stands in a number of this type
abbrev pub holds_real : Bool → PortType → Bool
holds_real true Types.Int64 = true
holds_real false Types.Int32 = true
holds_real is_double kind = false

-- an entry of a list means a port that can hold such a real, and has both its names
abbrev pub means : RealPort → TracePort → Bool
means real port =
    holds_real real.is_double port.kind && (bytes_eq real.component.items port.component &&
    bytes_eq real.variable.items port.variable)

abbrev pub form_of_entry : Option RealPort → Form
form_of_entry None = Whole
form_of_entry (Some real) = if real.is_double then Float64 else Float32

-- the real of the first entry that means the port, else the number itself
abbrev pub form_in : List RealPort → TracePort → Form
form_in reals port = form_of_entry (find (λ (real : RealPort). means real port) reals)

abbrev pub forms_in : List RealPort → List TracePort → List Form
forms_in reals ports = map (form_in reals) ports
