use Rattle.std.proofs.Common.{◌<◌, Bool, Some, ap, arith, length, length-set, sym, ◌∙◌}
use Rattle.std.specs.Prelude.{◌&&◌, not}
use Rattle.std.proofs.lemmas.Option.{slice_get_within}
use Rattle.system_model.proofs.CallerLemmas.{place_of}
use Rattle.event_iteration.specs.Participants.{is_fed_input, is_set_before_step}
use Rattle.event_iteration.proofs.Skipping.{mark_port, set_before}
use Rattle.event_iteration.proofs.Taking.{port_at}
use Rattle.event_iteration.proofs.participants.mark_inputs.Goals as goal

pub has_event_mode-has_event_mode-requires : goal.has_event_mode-has_event_mode-requires
has_event_mode-has_event_mode-requires c =
    let system = c.args.system.now in
    let p = c.loop-p.p in
    let port = c.index-ports-p.result in
    let is = port_at c.as_slice-ports.result.now system.ports p port c.as_slice-ports.ensures c.index-ports-p.is (let w = c.loop-p-test.true in let e = ap length c.as_slice-ports.ensures in omega (arith, w, e)) in
    let placed = place_of system c.requires.sound p port is in
    slice_get_within system.components port.component.0 placed.component placed.is.of

pub loop-p-preserved : goal.loop-p-preserved
loop-p-preserved c =
    let system = c.args.system.now in
    let p = c.loop-p.p in
    let port = c.index-ports-p.result in
    let inv = c.loop-p.invariant in
    let w = c.loop-p-test.true in
    let e = ap length c.as_slice-ports.ensures in
    let is = port_at c.as_slice-ports.result.now system.ports p port c.as_slice-ports.ensures c.index-ports-p.is (omega (arith, w, e)) in
    let placed = place_of system c.requires.sound p port is in
    let mode = c.has_event_mode-has_event_mode.ensures placed.component placed.is.of in
    let marked = c.is_set_by.ensures ∙ ap (λ (b : Bool). is_fed_input port.role && not b) mode ∙ set_before system port placed.component placed.is.of in
    let lt : p < length c.loop-p.keeps = (let s = inv.size in let n = c.requires.places in omega (arith, w, e, s, n)) in
    record {
      size = length-set c.loop-p.keeps p c.is_set_by.result ∙ inv.size;
      marks = mark_port system.ports (is_set_before_step system) c.loop-p.keeps p port c.is_set_by.result is lt marked inv.marks;
    }

pub returns-clause-marks : goal.returns-clause-marks
returns-clause-marks c p port is =
    c.loop-p.invariant.marks p port (let over = c.loop-p-test.false in let e = ap length c.as_slice-ports.ensures in let low = slice_get_within c.args.system.now.ports p port is in omega (arith, over, e, low)) is
