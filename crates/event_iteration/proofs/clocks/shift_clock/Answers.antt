use Rattle.std.proofs.Common.{inr, ℕ, [], ◌∷◌, Some, None, Ok, Err, sym, ap, ◌∙◌, subst, arith}
use Rattle.std.proofs.lemmas.Option.{same_Some}
use Rattle.clock_fraction.specs.Counts.{counts_of}
use Rattle.clock_fraction.specs.declared.fraction.Fraction.{Fraction}
use Rattle.fmi_calls.specs.Worth.{has_counts}
use Rattle.fmu_peer.specs.CloseAll.{instance_in}
use Rattle.system_model.specs.declared.system.Port.{Port}
use Rattle.system_model.specs.declared.system.Role.{Role}
use Rattle.run_model.specs.Initial.{shift_in}
use Rattle.run_model.specs.Run.{Timer}
use Rattle.run_model.specs.Timers.{armed_after}
use Rattle.slot_calls.specs.Slots.{instances}
use Rattle.slot_calls.specs.Stage.{Stage}
use Rattle.event_iteration.specs.Clocks.{first_place}
use Rattle.event_iteration.specs.Questions.{FixesPort, IsShifted, first_reply}
use Rattle.event_iteration.proofs.Answering.{changing_role, may_shift}
use Rattle.event_iteration.proofs.AskedClocks.{among_components, in_range, shape_here, told_shift}
use Rattle.event_iteration.proofs.Fixing.{ask_shift, shift_cut, shift_entered}
use Rattle.event_iteration.proofs.Taking.{port_at, slots_many}
use Rattle.event_iteration.proofs.clocks.shift_clock.Goals as goal

pub ask-requires-clause-within : goal.ask-requires-clause-within
ask-requires-clause-within g c κs lives =
    let system = c.args.system.now in
    let port = c.index-as_slice-p.result in
    let is = port_at _ system.ports c.args.p port c.as_slice.ensures c.index-as_slice-p.is c.requires.port in
    let many = slots_many (λ s. instance_in g.L.Peer.view s) system c.args.slots.now c.requires.shapes in
    let there = among_components system c.requires.sound c.args.p port is in
    omega (arith, many, there)

pub ask-requires-clause-may : goal.ask-requires-clause-may
ask-requires-clause-may g c κs lives =
    let system = c.args.system.now in
    let port = c.index-as_slice-p.result in
    let is = port_at _ system.ports c.args.p port c.as_slice.ensures c.index-as_slice-p.is c.requires.port in
    may_shift system c.requires.sound c.args.p port is (instances g.L.Peer.view c.args.slots.now) c.requires.shapes (inr (changing_role port.role (c.requires.changing port is))) c.requires.initializing

pub returns-in-Err-clause-fixes : goal.returns-in-Err-clause-fixes
returns-in-Err-clause-fixes g c port is =
    shift_cut port (changing_role port.role (c.requires.changing port is)) c.args.per_second c.args.p c.args.schedule.now c.args.schedule.now (instances g.L.Peer.view c.args.slots.now) (instances g.L.Peer.view c.ask.new.slots) c.in-Err.bad
    (subst (λ (x : Port). Stage (ask_shift x ∷ []) first_reply (instances g.L.Peer.view c.args.slots.now) (instances g.L.Peer.view c.ask.new.slots) (Err c.in-Err.bad))
    (same_Some _ _ (sym (port_at _ c.args.system.now.ports c.args.p c.index-as_slice-p.result c.as_slice.ensures c.index-as_slice-p.is c.requires.port) ∙ is)) c.in-Err.ensures.stage)

pub arm_first-requires-clause-unarmed : goal.arm_first-requires-clause-unarmed
arm_first-requires-clause-unarmed g c =
    let system = c.args.system.now in
    let port = c.index-as_slice-p.result in
    let is = port_at _ system.ports c.args.p port c.as_slice.ensures c.index-as_slice-p.is c.requires.port in
    (None, c.requires.first port is ∙ ap (λ (r : Role). Some (first_place r)) (changing_role port.role (c.requires.changing port is)))

pub arm_first-requires-clause-range : goal.arm_first-requires-clause-range
arm_first-requires-clause-range g c =
    let system = c.args.system.now in
    let port = c.index-as_slice-p.result in
    let is = port_at _ system.ports c.args.p port c.as_slice.ensures c.index-as_slice-p.is c.requires.port in
    in_range system c.requires.sound c.args.p port is c.args.per_second c.requires.counts

pub arm_first-requires-clause-shift : goal.arm_first-requires-clause-shift
arm_first-requires-clause-shift g c =
    let system = c.args.system.now in
    let port = c.index-as_slice-p.result in
    let is = port_at _ system.ports c.args.p port c.as_slice.ensures c.index-as_slice-p.is c.requires.port in
    ap (λ (x : Fraction). has_counts 0 x c.args.per_second) c.shift_in-shift.ensures
    ∙ told_shift system c.requires.sound c.args.p port is c.args.per_second c.requires.counts (instances g.L.Peer.view c.args.slots.now) (instances g.L.Peer.view c.ask.new.slots) c.requires.shapes c.in-Ok.reply c.in-Ok.ensures.stage

pub returns-clause-fixes : goal.returns-clause-fixes
returns-clause-fixes g c port is =
    let system = c.args.system.now in
    let own = port_at _ system.ports c.args.p c.index-as_slice-p.result c.as_slice.ensures c.index-as_slice-p.is c.requires.port in
    let here = c.index-as_slice-p.result in
    subst (λ (x : Port). FixesPort x c.args.per_second c.args.p c.args.schedule.now c.arm_first.new.schedule (instances g.L.Peer.view c.args.slots.now) (instances g.L.Peer.view c.ask.new.slots) (Ok tt)) (same_Some _ _ (sym own ∙ is))
    (shift_entered here (changing_role here.role (c.requires.changing here own)) c.args.per_second c.args.p c.args.schedule.now c.arm_first.new.schedule (instances g.L.Peer.view c.args.slots.now) (instances g.L.Peer.view c.ask.new.slots) c.in-Ok.reply c.in-Ok.ensures.stage
    _ (shape_here system c.requires.sound c.args.p here own (instances g.L.Peer.view c.args.slots.now) c.requires.shapes)
    (subst (λ (timer : Timer). IsShifted c.args.p timer c.args.schedule.now c.arm_first.new.schedule)
    (ap (λ (x : Fraction). armed_after c.args.start (counts_of x c.args.per_second)) c.shift_in-shift.ensures ∙ ap (λ (n : ℕ). armed_after n (counts_of (shift_in c.in-Ok.reply) c.args.per_second)) (sym c.requires.start)) c.arm_first.ensures))
