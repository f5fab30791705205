use Rattle.std.proofs.Common.{arith}
use Rattle.trace_text.proofs.HoldingLemmas.{header_first, header_more, of_lent, of_system, passes_alone, passes_here, passes_none, whole_fits}
use Rattle.trace_text.proofs.holding.passing_component.Goals as goal

pub loop-number-init : goal.loop-number-init
loop-number-init c =
    let first = header_first c.as_slice-components.result.now c.as_slice-ports.result.now c.args.plan in
    let line = c.first_line_length-length.ensures in
    record { counted = omega (arith, first, line.length); fits = omega (arith, line.short) }

pub loop-number-preserved : goal.loop-number-preserved
loop-number-preserved c =
    let components = c.as_slice-components.result.now in
    let ports = c.as_slice-ports.result.now in
    let k = c.loop-number.number in
    let more = header_more components ports c.args.plan k c.index-ports-number.result c.loop-number-test.true c.index-ports-number.is in
    let was = c.loop-number.invariant in
    let line = c.port_line_length-length.ensures.length in
    let fits = c.if-length-gt-MOST_HEADER_BYTES.false in
    record { counted = omega (arith, more, was.counted, line); fits = omega (arith, fits) }

pub returns-then-length-gt-MOST_HEADER_BYTES-clause-found : goal.returns-then-length-gt-MOST_HEADER_BYTES-clause-found
returns-then-length-gt-MOST_HEADER_BYTES-clause-found c =
    let was = c.loop-number.invariant in
    let line = c.port_line_length-length.ensures.length in
    let past = c.if-length-gt-MOST_HEADER_BYTES.true in
    let components = c.as_slice-components.result.now in
    let ports = c.as_slice-ports.result.now in
    let port = c.index-ports-number.result in
    of_system c.args.system.now components ports c.args.plan port.component.0 c.as_slice-components.ensures c.as_slice-ports.ensures
    (passes_here components ports c.args.plan c.loop-number.number port c.loop-number-test.true c.index-ports-number.is (omega (arith, was.counted, was.fits)) (omega (arith, was.counted, line, past)))

pub returns-then-length-gt-MOST_HEADER_BYTES-clause-only : goal.returns-then-length-gt-MOST_HEADER_BYTES-clause-only
returns-then-length-gt-MOST_HEADER_BYTES-clause-only c = λ i passes.
    let was = c.loop-number.invariant in
    let line = c.port_line_length-length.ensures.length in
    let past = c.if-length-gt-MOST_HEADER_BYTES.true in
    let components = c.as_slice-components.result.now in
    let ports = c.as_slice-ports.result.now in
    passes_alone components ports c.args.plan c.loop-number.number c.index-ports-number.result c.loop-number-test.true c.index-ports-number.is
    (omega (arith, was.counted, was.fits)) (omega (arith, was.counted, line, past)) i (of_lent c.args.system.now components ports c.args.plan i c.as_slice-components.ensures c.as_slice-ports.ensures passes)

pub returns-clause-only : goal.returns-clause-only
returns-clause-only c = λ i passes.
    let was = c.loop-number.invariant in
    let components = c.as_slice-components.result.now in
    let ports = c.as_slice-ports.result.now in
    absurd (passes_none components ports c.args.plan c.loop-number.number (let e = c.loop-number-test.false in omega (arith, e)) (omega (arith, was.counted, was.fits)) i
    (of_lent c.args.system.now components ports c.args.plan i c.as_slice-components.ensures c.as_slice-ports.ensures passes))

pub returns-clause-none : goal.returns-clause-none
returns-clause-none c = λ none.
    let was = c.loop-number.invariant in
    whole_fits c.args.system.now c.as_slice-components.result.now c.as_slice-ports.result.now c.args.plan c.loop-number.number c.as_slice-components.ensures c.as_slice-ports.ensures
    (let e = c.loop-number-test.false in omega (arith, e)) (omega (arith, was.counted, was.fits))
