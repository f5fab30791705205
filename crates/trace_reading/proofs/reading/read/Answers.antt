use Rattle.std.proofs.Common.{rules, arith, ◌≡◌, ◌+◌, ℕ, List, length, subst}
use Rattle.trace_reading.specs.declared.trace.TracePort.{TracePort}
use Rattle.trace_reading.specs.Faults.{IsFirstFault}
use Rattle.trace_reading.specs.Form.{kinds_of}
use Rattle.trace_reading.specs.Walk.{IsRows, IsFirstFaultOf}
use Rattle.trace_reading.proofs.TraceLemmas.{header_fault, whole_text, line_fault, fault_small, Read}
use Rattle.trace_reading.proofs.reading.read.Goals as goal

pub returns-in_default-clause-fault : goal.returns-in_default-clause-fault
returns-in_default-clause-fault c = λ n is.
    let same : 1 ≡ n = cc is in
    let P : ℕ → Type 0 = λ m. IsFirstFault c.args.bytes.now m in
    subst P same (header_fault c.args.bytes.now (λ r s e rest range at. let found = c.header_before.ensures.none r s e rest range at in search rules))

pub returns-in-Ok-clause-found : goal.returns-in-Ok-clause-found
returns-in-Ok-clause-found c =
    let parts : Read c.args.bytes.now c.in-Some.header.resolution c.in-Some.header.start c.in-Some.header.stop c.in_ok-ports.ports.items c.in_ok-ports.rest.now =
    record { range = c.in-Some.ensures.range; after_header = c.in-Some.rest.now; header = c.in-Some.ensures.found; ports_there = c.in_ok-ports.ensures } in
    let P : List TracePort → Type 0 = λ ps. IsRows (kinds_of ps) c.in_ok-ports.rest.now c.in-Ok.rows.lines.items c.in-Ok.rows.kind c.in-Ok.rows.point in
    let rows = subst P c.deref-2.ensures.value c.in-Ok.ensures.found in
    let text = whole_text c.args.bytes.now c.in-Some.header.resolution c.in-Some.header.start c.in-Some.header.stop c.in_ok-ports.ports.items c.in_ok-ports.rest.now c.in-Ok.rows.lines.items c.in-Ok.rows.kind c.in-Ok.rows.point parts rows in
    rw (c.from_vec.ensures, c.from_vec-in-Ok.ensures) text

pub overflow_add-result-in-Err-Line : goal.overflow_add-result-in-Err-Line
overflow_add-result-in-Err-Line c =
    let parts : Read c.args.bytes.now c.in-Some.header.resolution c.in-Some.header.start c.in-Some.header.stop c.in_ok-ports.ports.items c.in_ok-ports.rest.now =
    record { range = c.in-Some.ensures.range; after_header = c.in-Some.rest.now; header = c.in-Some.ensures.found; ports_there = c.in_ok-ports.ensures } in
    let P : List TracePort → Type 0 = λ ps. IsFirstFaultOf (kinds_of ps) c.in_ok-ports.rest.now c.in-Err-Line.n in
    let is = c.in-Err-Line.is in
    let inner = c.in-Err-Line.field-0-is in
    let fault = subst P c.deref-2.ensures.value (c.read_rows.ensures.fault c.in-Err-Line.n (cc (is, inner))) in
    let whole = line_fault c.args.bytes.now c.in-Some.header.resolution c.in-Some.header.start c.in-Some.header.stop c.in_ok-ports.ports.items c.in_ok-ports.rest.now c.in-Err-Line.n parts fault in
    let number : c.len.result ≡ length c.in_ok-ports.ports.items = search rules in
    let small = fault_small c.args.bytes.now (1 + length c.in_ok-ports.ports.items + c.in-Err-Line.n) whole in
    rw c.in-Err-Line.field-0-is (omega (arith, small, number))

pub returns-in-Err-Line-clause-fault : goal.returns-in-Err-Line-clause-fault
returns-in-Err-Line-clause-fault c =
    let parts : Read c.args.bytes.now c.in-Some.header.resolution c.in-Some.header.start c.in-Some.header.stop c.in_ok-ports.ports.items c.in_ok-ports.rest.now =
    record { range = c.in-Some.ensures.range; after_header = c.in-Some.rest.now; header = c.in-Some.ensures.found; ports_there = c.in_ok-ports.ensures } in
    let P : List TracePort → Type 0 = λ ps. IsFirstFaultOf (kinds_of ps) c.in_ok-ports.rest.now c.in-Err-Line.n in
    let is = c.in-Err-Line.is in
    let inner = c.in-Err-Line.field-0-is in
    let fault = subst P c.deref-2.ensures.value (c.read_rows.ensures.fault c.in-Err-Line.n (cc (is, inner))) in
    let whole = line_fault c.args.bytes.now c.in-Some.header.resolution c.in-Some.header.start c.in-Some.header.stop c.in_ok-ports.ports.items c.in_ok-ports.rest.now c.in-Err-Line.n parts fault in
    let number : c.len.result ≡ length c.in_ok-ports.ports.items = search rules in
    let Q : ℕ → Type 0 = λ m. IsFirstFault c.args.bytes.now m in
    rw c.in-Err-Line.field-0-is (λ m e.
    let same : 1 + c.len.result + c.in-Err-Line.n ≡ m = cc e in
    let at : 1 + length c.in_ok-ports.ports.items + c.in-Err-Line.n ≡ m = omega (arith, number, same) in
    subst Q at whole)
