use Rattle.std.proofs.Common.{◌<◌, Some, ap, arith, length, length-set, sym, ◌∙◌}
use Rattle.std.proofs.lemmas.Option.{slice_get-get_or, slice_get_within}
use Rattle.system_model.specs.declared.system.Port.{Port}
use Rattle.event_iteration.specs.Participants.{is_changed_input}
use Rattle.event_iteration.proofs.Skipping.{mark_port}
use Rattle.event_iteration.proofs.participants.mark_changed_inputs.Goals as goal

pub loop-p-preserved : goal.loop-p-preserved
loop-p-preserved c =
    let ports = c.args.ports.now in
    let p = c.loop-p.p in
    let port = c.index-ports-p.result in
    let inv = c.loop-p.invariant in
    let is = slice_get-get_or ports p port c.loop-p-test.true ∙ ap Some (sym c.index-ports-p.is) in
    let lt : p < length c.loop-p.keeps = (let w = c.loop-p-test.true in let s = inv.size in let n = c.requires in omega (arith, w, s, n)) in
    record {
      size = length-set c.loop-p.keeps p c.is_changed_input.result ∙ inv.size;
      marks = mark_port ports (λ (x : Port). is_changed_input x.role) c.loop-p.keeps p port c.is_changed_input.result is lt (c.is_changed_input.ensures ∙ ap (λ (x : Port). is_changed_input x.role) (sym c.index-ports-p.is)) inv.marks;
    }

pub returns-clause-marks : goal.returns-clause-marks
returns-clause-marks c p port is = c.loop-p.invariant.marks p port (let over = c.loop-p-test.false in let low = slice_get_within c.args.ports.now p port is in omega (arith, over, low)) is
