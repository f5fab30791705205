use Rattle.std.proofs.Common.{◌≡◌, inl, Some, Ok, Err, sym, ap, ap₂, ◌∙◌, subst, arith}
use Rattle.std.proofs.lemmas.Option.{same_Some}
use Rattle.clock_fraction.specs.declared.fraction.Fraction.{Fraction}
use Rattle.fmi_calls.specs.declared.call.Interval.{Interval}
use Rattle.fmi_calls.specs.Worth.{has_counts, is_known_interval}
use Rattle.fmu_peer.specs.CloseAll.{instance_in}
use Rattle.system_model.specs.declared.system.Port.{Port}
use Rattle.system_model.specs.declared.system.Role.{Role}
use Rattle.system_model.proofs.CallerLemmas.{place_of}
use Rattle.run_model.specs.Run.{Timer}
use Rattle.run_model.specs.Timers.{fixed}
use Rattle.slot_calls.specs.Slots.{instances}
use Rattle.slot_calls.proofs.CallerLemmas.{shapes_same}
use Rattle.event_iteration.specs.Clocks.{first_place}
use Rattle.event_iteration.specs.Questions.{FixesPort, IsEntered, is_asked, is_changing}
use Rattle.event_iteration.proofs.Answering.{asked_role, may_interval, may_shift}
use Rattle.event_iteration.proofs.AskedClocks.{among_components, in_range, shape_here, still_initializing, told_interval, told_shift}
use Rattle.event_iteration.proofs.Fixing.{fixes_both, fixes_cut, fixes_cut_later, fixes_none}
use Rattle.event_iteration.proofs.Taking.{port_at, slots_many}
use Rattle.event_iteration.proofs.clocks.fix_clock.Goals as goal

pub shift_clock-requires-clause-changing : goal.shift_clock-requires-clause-changing
shift_clock-requires-clause-changing g c κs lives port is =
    let own = port_at _ c.args.system.now.ports c.args.p c.index-as_slice-p.result c.as_slice.ensures c.index-as_slice-p.is c.requires.port in
    ap (λ (x : Port). is_changing x.role) (sym (same_Some _ _ (sym own ∙ is))) ∙ sym c.is_changing.ensures ∙ c.if-is_changing.true

pub returns-then-not-is_asked-clause-fixes : goal.returns-then-not-is_asked-clause-fixes
returns-then-not-is_asked-clause-fixes g c port is =
    let own = port_at _ c.args.system.now.ports c.args.p c.index-as_slice-p.result c.as_slice.ensures c.index-as_slice-p.is c.requires.port in
    let its : c.index-as_slice-p.result ≡ port = same_Some _ _ (sym own ∙ is) in
    fixes_none port c.args.per_second c.args.p c.args.schedule.now (instances g.L.Peer.view c.args.slots.now)
    (ap (λ (x : Port). is_asked x.role) (sym its) ∙ sym c.is_asked.ensures ∙ c.if-not-is_asked.true)
    (ap (λ (x : Port). is_changing x.role) (sym its) ∙ sym c.is_changing.ensures ∙ c.if-is_changing.false) (c.requires.first port is)

pub ask-requires-clause-within : goal.ask-requires-clause-within
ask-requires-clause-within g c κs lives =
    let system = c.args.system.now in
    let port = c.index-as_slice-p.result in
    let is = port_at _ system.ports c.args.p port c.as_slice.ensures c.index-as_slice-p.is c.requires.port in
    let many = slots_many (λ s. instance_in g.L.Peer.view s) system c.args.slots.now c.requires.shapes in
    let there = among_components system c.requires.sound c.args.p port is in
    omega (arith, many, there)

pub ask-requires-clause-may : goal.ask-requires-clause-may
ask-requires-clause-may g c κs lives =
    let system = c.args.system.now in
    let port = c.index-as_slice-p.result in
    let is = port_at _ system.ports c.args.p port c.as_slice.ensures c.index-as_slice-p.is c.requires.port in
    let answered = asked_role port.role (sym c.is_asked.ensures ∙ c.if-not-is_asked.false) in
    may_interval system c.requires.sound c.args.p port is (instances g.L.Peer.view c.args.slots.now) c.requires.shapes answered c.requires.initializing

pub returns-in-Err-clause-fixes : goal.returns-in-Err-clause-fixes
returns-in-Err-clause-fixes g c port is =
    let own = port_at _ c.args.system.now.ports c.args.p c.index-as_slice-p.result c.as_slice.ensures c.index-as_slice-p.is c.requires.port in
    let answered = asked_role c.index-as_slice-p.result.role (sym c.is_asked.ensures ∙ c.if-not-is_asked.false) in
    subst (λ (x : Port). FixesPort x c.args.per_second c.args.p c.args.schedule.now c.args.schedule.now (instances g.L.Peer.view c.args.slots.now) (instances g.L.Peer.view c.ask.new.slots) (Err c.in-Err.bad)) (same_Some _ _ (sym own ∙ is))
    (fixes_cut c.index-as_slice-p.result answered c.args.per_second c.args.p c.args.schedule.now c.args.schedule.now (instances g.L.Peer.view c.args.slots.now) (instances g.L.Peer.view c.ask.new.slots) c.in-Err.bad c.in-Err.ensures.stage)

pub ask-requires-2-clause-within : goal.ask-requires-2-clause-within
ask-requires-2-clause-within g c κs lives =
    let system = c.args.system.now in
    let port = c.index-as_slice-p.result in
    let is = port_at _ system.ports c.args.p port c.as_slice.ensures c.index-as_slice-p.is c.requires.port in
    let one = c.in-Ok.ensures.stage in
    let alike = shapes_same one.log (instances g.L.Peer.view c.args.slots.now) (instances g.L.Peer.view c.ask.new.slots) one.told ∙ c.requires.shapes in
    let many = slots_many (λ s. instance_in g.L.Peer.view s) system c.ask.new.slots alike in
    let there = among_components system c.requires.sound c.args.p port is in
    omega (arith, many, there)

pub ask-requires-2-clause-may : goal.ask-requires-2-clause-may
ask-requires-2-clause-may g c κs lives =
    let system = c.args.system.now in
    let port = c.index-as_slice-p.result in
    let is = port_at _ system.ports c.args.p port c.as_slice.ensures c.index-as_slice-p.is c.requires.port in
    let answered = asked_role port.role (sym c.is_asked.ensures ∙ c.if-not-is_asked.false) in
    let one = c.in-Ok.ensures.stage in
    let alike = shapes_same one.log (instances g.L.Peer.view c.args.slots.now) (instances g.L.Peer.view c.ask.new.slots) one.told ∙ c.requires.shapes in
    may_shift system c.requires.sound c.args.p port is (instances g.L.Peer.view c.ask.new.slots) alike (inl answered)
    (still_initializing (instances g.L.Peer.view c.args.slots.now) (instances g.L.Peer.view c.ask.new.slots) c.in-Ok.ensures.modes c.requires.initializing)

pub returns-in-Err-ask-clause-fixes : goal.returns-in-Err-ask-clause-fixes
returns-in-Err-ask-clause-fixes g c port is =
    let own = port_at _ c.args.system.now.ports c.args.p c.index-as_slice-p.result c.as_slice.ensures c.index-as_slice-p.is c.requires.port in
    let answered = asked_role c.index-as_slice-p.result.role (sym c.is_asked.ensures ∙ c.if-not-is_asked.false) in
    subst (λ (x : Port). FixesPort x c.args.per_second c.args.p c.args.schedule.now c.args.schedule.now (instances g.L.Peer.view c.args.slots.now) (instances g.L.Peer.view c.ask-2.new.slots) (Err c.in-Err-ask.bad)) (same_Some _ _ (sym own ∙ is))
    (fixes_cut_later c.index-as_slice-p.result answered c.args.per_second c.args.p c.args.schedule.now c.args.schedule.now (instances g.L.Peer.view c.args.slots.now) (instances g.L.Peer.view c.ask.new.slots) c.in-Ok.reply c.in-Ok.ensures.stage (instances g.L.Peer.view c.ask-2.new.slots) c.in-Err-ask.bad c.in-Err-ask.ensures.stage)

pub fix-requires-clause-unasked : goal.fix-requires-clause-unasked
fix-requires-clause-unasked g c =
    let system = c.args.system.now in
    let port = c.index-as_slice-p.result in
    let is = port_at _ system.ports c.args.p port c.as_slice.ensures c.index-as_slice-p.is c.requires.port in
    let answered = asked_role port.role (sym c.is_asked.ensures ∙ c.if-not-is_asked.false) in
    c.requires.first port is ∙ ap (λ (role : Role). Some (first_place role)) answered

pub fix-requires-clause-range : goal.fix-requires-clause-range
fix-requires-clause-range g c =
    let system = c.args.system.now in
    let port = c.index-as_slice-p.result in
    let is = port_at _ system.ports c.args.p port c.as_slice.ensures c.index-as_slice-p.is c.requires.port in
    in_range system c.requires.sound c.args.p port is c.args.per_second c.requires.counts

pub fix-requires-clause-interval : goal.fix-requires-clause-interval
fix-requires-clause-interval g c =
    let system = c.args.system.now in
    let port = c.index-as_slice-p.result in
    let is = port_at _ system.ports c.args.p port c.as_slice.ensures c.index-as_slice-p.is c.requires.port in
    let answered = asked_role port.role (sym c.is_asked.ensures ∙ c.if-not-is_asked.false) in
    ap (λ (x : Interval). is_known_interval x c.args.per_second) c.interval_in-interval.ensures
    ∙ told_interval system c.requires.sound c.args.p port is c.args.per_second c.requires.counts (instances g.L.Peer.view c.args.slots.now) (instances g.L.Peer.view c.ask.new.slots) c.requires.shapes answered c.in-Ok.reply c.in-Ok.ensures.stage

pub fix-requires-clause-shift : goal.fix-requires-clause-shift
fix-requires-clause-shift g c =
    let system = c.args.system.now in
    let port = c.index-as_slice-p.result in
    let is = port_at _ system.ports c.args.p port c.as_slice.ensures c.index-as_slice-p.is c.requires.port in
    let one = c.in-Ok.ensures.stage in
    let alike = shapes_same one.log (instances g.L.Peer.view c.args.slots.now) (instances g.L.Peer.view c.ask.new.slots) one.told ∙ c.requires.shapes in
    ap (λ (x : Fraction). has_counts 0 x c.args.per_second) c.shift_in-shift.ensures
    ∙ told_shift system c.requires.sound c.args.p port is c.args.per_second c.requires.counts (instances g.L.Peer.view c.ask.new.slots) (instances g.L.Peer.view c.ask-2.new.slots) alike c.in-Ok-ask.reply c.in-Ok-ask.ensures.stage

pub returns-clause-fixes : goal.returns-clause-fixes
returns-clause-fixes g c port is =
    let system = c.args.system.now in
    let own = port_at _ system.ports c.args.p c.index-as_slice-p.result c.as_slice.ensures c.index-as_slice-p.is c.requires.port in
    let answered = asked_role c.index-as_slice-p.result.role (sym c.is_asked.ensures ∙ c.if-not-is_asked.false) in
    let placed = place_of system c.requires.sound c.args.p c.index-as_slice-p.result own in
    subst (λ (x : Port). FixesPort x c.args.per_second c.args.p c.args.schedule.now c.fix.new.schedule (instances g.L.Peer.view c.args.slots.now) (instances g.L.Peer.view c.ask-2.new.slots) (Ok tt)) (same_Some _ _ (sym own ∙ is))
    (fixes_both c.index-as_slice-p.result answered c.args.per_second c.args.p c.args.schedule.now c.fix.new.schedule (instances g.L.Peer.view c.args.slots.now) (instances g.L.Peer.view c.ask.new.slots) c.in-Ok.reply c.in-Ok.ensures.stage (instances g.L.Peer.view c.ask-2.new.slots) c.in-Ok-ask.reply c.in-Ok-ask.ensures.stage
    placed.component.shape (shape_here system c.requires.sound c.args.p c.index-as_slice-p.result own (instances g.L.Peer.view c.args.slots.now) c.requires.shapes)
    (subst (λ (timer : Timer). IsEntered c.args.p timer c.args.schedule.now c.fix.new.schedule) (ap₂ (fixed c.args.per_second) c.interval_in-interval.ensures c.shift_in-shift.ensures) c.fix.ensures))
