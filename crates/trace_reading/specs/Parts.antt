-- The beginning of a trace's text: the header line and the lines of the ports.
use Rattle.std.specs.Prelude.{◌≡◌, ℕ, ◌^◌, ◌<◌, List, ◌∷◌, ◌++◌, length}
use Rattle.std.specs.List.{AllByRecursion}
use Rattle.trace_reading.specs.declared.trace.TracePort.{TracePort}
use Rattle.trace_reading.specs.Form.{IsNamed, lines_of_ports}
use Rattle.trace_reading.specs.Lines.{line_of_port}
use Rattle.system_model.specs.Text.{lines_text}

-- the text begins with the lines of these ports, and no line of a next port follows
pub record StandBefore (text : List ℕ) (ports : List TracePort) (rest : List ℕ) : Type 0 where
  pub parts : text ≡ lines_text (lines_of_ports 0 ports) ++ rest
  pub named : AllByRecursion IsNamed ports
  pub few : length ports < 2 ^ 64
  pub last : (port : TracePort) (more : List ℕ) → IsNamed port →
      rest ≡ line_of_port (length ports) port ++ (10 ∷ more) → ⊥
