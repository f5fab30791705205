use Rattle.std.proofs.Common.{◌≡◌, ◌+◌, ◌≤◌, refl, ap, ℕ, List, Result, Ok, Err, IfOk, length, ◌⊎◌, inl, inr}
use Rattle.trace_reading.specs.declared.fault.TraceFault.{TraceFault}
use Rattle.trace_reading.specs.declared.fault.TraceFault.TheVariants.{Line, Memory}
use Rattle.trace_reading.specs.declared.trace.Trace.{Trace}
use Rattle.trace_reading.specs.Faults.{IsFirstFault}
use Rattle.trace_reading.specs.Form.{IsTextOf}
use Rattle.trace_reading.proofs.TraceLemmas.{one_trace, fault_no_text}
use Rattle.trace_reading.proofs.SizeLemmas.{few_lines}
use Rattle.trace_reading.proofs.reading.read_trace.Goals as goal

exact_of : (result : Result Trace TraceFault) (bytes : List ℕ) → IfOk result (IsTextOf bytes) → ((n : ℕ) → result ≡ Err (Line n) → IsFirstFault bytes n) → (t : Trace) → IsTextOf bytes t → (result ≡ Ok t) ⊎ (result ≡ Err Memory)
exact_of (Ok u) bytes found fault t text = inl (ap (λ (v : Trace). Ok v) (one_trace bytes u t found text))
exact_of (Err (Line n)) bytes found fault t text = absurd (fault_no_text bytes n t (fault n refl) text)
exact_of (Err Memory) bytes found fault t text = inr refl

pub returns-clause-exact : goal.returns-clause-exact
returns-clause-exact c = exact_of c.read.result c.args.bytes.now c.read.ensures.found c.read.ensures.fault

lines_few : (result : Result Trace TraceFault) (bytes : List ℕ) → IfOk result (IsTextOf bytes) → IfOk result (λ (t : Trace). length t.ports + length t.lines + 2 ≤ length bytes)
lines_few (Ok t) bytes found = few_lines bytes t found
lines_few (Err e) bytes found = tt

pub returns-clause-lines : goal.returns-clause-lines
returns-clause-lines c = lines_few c.read.result c.args.bytes.now c.read.ensures.found
