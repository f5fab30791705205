-- The lines of a trace's text, each without the line feed that ends it.
use Rattle.std.specs.Prelude.{◌≢◌, ⊤, ◌+◌, ◌^◌, ◌<◌, pos, negsuc, ℕ, ℤ, List, [], ◌∷◌}
use Rattle.sim_base.specs.Escape.{escaped}
use Rattle.system_model.specs.Text.{at_line, port_fields, value_line}
use Rattle.trace_reading.specs.declared.trace.TracePort.{TracePort}
use Rattle.trace_reading.specs.declared.trace.TraceLine.{TraceLine}
use Rattle.trace_reading.specs.declared.trace.TraceLine.TheVariants.{At, Value}

abbrev pub line_of_port : ℕ → TracePort → List ℕ
line_of_port k port = port_fields k port.kind (escaped port.component) (escaped port.variable)

-- a line of an instant
abbrev pub line_text : TraceLine → List ℕ
line_text (At t n) = at_line t n
line_text (Value port value) = value_line port value

-- the byte isn't in the list
abbrev pub Lacks : ℕ → List ℕ → Type 0
Lacks byte [] = ⊤
Lacks byte (c ∷ cs) = (c ≢ byte) × Lacks byte cs

-- a word of 64 bits holds the number: in two's complement where it is negative
abbrev pub IsShort : ℤ → Type 0
IsShort (pos n) = n < 2 ^ 64
IsShort (negsuc n) = n + 1 < 2 ^ 64
