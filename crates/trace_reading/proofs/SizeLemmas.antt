-- A text has at least so many bytes as lines.
use Rattle.std.proofs.Common.{arith, ◌≡◌, refl, ap, suc, ℕ, ◌+◌, ◌≤◌, List, [], ◌∷◌, map, length}
use Rattle.std.proofs.lemmas.List.{length-map, length-append}
use Rattle.trace_reading.specs.declared.trace.Trace.{Trace}
use Rattle.trace_reading.specs.declared.trace.TracePort.{TracePort}
use Rattle.trace_reading.specs.Lines.{line_text}
use Rattle.system_model.specs.Text.{lines_text}
use Rattle.trace_reading.specs.Form.{IsTextOf, lines_of, lines_of_ports}

text_length : (lines : List (List ℕ)) → length lines ≤ length (lines_text lines)
text_length [] = omega arith
text_length (line ∷ lines) = let more = text_length lines in omega (arith, length-append line (10 ∷ lines_text lines))

port_lines_length : (k : ℕ) (ports : List TracePort) → length (lines_of_ports k ports) ≡ length ports
port_lines_length k [] = refl
port_lines_length k (p ∷ ports) = ap suc (port_lines_length (k + 1) ports)

pub few_lines : (bytes : List ℕ) (t : Trace) → IsTextOf bytes t → length t.ports + length t.lines + 2 ≤ length bytes
few_lines bytes t is =
    let long = text_length (lines_of t) in
    let whole : length bytes ≡ length (lines_text (lines_of t)) = ap length is.text in
    let rows : length (map line_text t.lines) ≡ length t.lines = length-map t.lines line_text in
    let ports = port_lines_length 0 t.ports in
    let parts : length (lines_of t) ≡ suc (length (lines_of_ports 0 t.ports) + (length (map line_text t.lines) + 1)) =
    simp (length-append) (omega arith) in
    omega arith
