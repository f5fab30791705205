use Rattle.std.proofs.Common.{ℕ, ℤ, Bool, false, List, Ok, Option, ap, arith, length, refl, subst, sym, ◌∙◌, ◌≡◌, ◌+◌}
use Rattle.std.specs.Prelude.{◌||◌}
use Rattle.std.proofs.lemmas.List.{with_items_is}
use Rattle.sim_base.specs.Sink.{with_piece}
use Rattle.fmi_calls.specs.declared.call.Call.TheVariants as C
use Rattle.fmu_peer.specs.CloseAll.{instance_in}
use Rattle.system_model.specs.Text.{instant_text}
use Rattle.run_model.specs.Machines.{AreFitting}
use Rattle.run_model.specs.Run.{Timer}
use Rattle.tick_schedule.specs.Timetable.{Timetable}
use Rattle.trace_text.specs.Room.{HoldsEach}
use Rattle.slot_calls.specs.Slots.{instances}
use Rattle.slot_calls.specs.Stage.{has_events}
use Rattle.event_iteration.specs.Clocks.{timers_in}
use Rattle.event_iteration.specs.Intervals.{is_some_armed}
use Rattle.event_iteration.specs.Participants.{AreUnfedAwaited}
use Rattle.event_iteration.specs.Updates.{updated_by}
use Rattle.event_iteration.specs.declared.updates.Updated.{Updated}
use Rattle.calling_sequence.specs.Ends.{RunsIn}
use Rattle.calling_sequence.specs.Course.{InstantDone}
use Rattle.calling_sequence.specs.StageOutcomes.{BreaksOff, spot}
use Rattle.calling_sequence.specs.Here.{Here}
use Rattle.calling_sequence.specs.Place.{IsAt, IsSettled, IsTaking}
use Rattle.calling_sequence.specs.Puts.{PutsPrefixOf}
use Rattle.calling_sequence.specs.declared.run_end.RunEnd.TheVariants as E
use Rattle.calling_sequence.proofs.Phases.{update_leads, update_stays}
use Rattle.calling_sequence.proofs.ScheduleSteps.{neither, stands_with}
use Rattle.calling_sequence.proofs.Stages.{badly_updated, by_cut, by_none, by_put, still, still_those}
use Rattle.calling_sequence.proofs.Stands.{told_modes, updated_settled, wide_all}
use Rattle.calling_sequence.proofs.instants.show.Goals as goal

pub returns-in-Err-clause-puts : goal.returns-in-Err-clause-puts
returns-in-Err-clause-puts g c olds past so h =
    subst (BreaksOff c.args.experiment.now olds past (instances g.L.Peer.view c.update.new.slots) (g.O.Sink.view c.args.out.now) c.args.buffers.now.instants) (sym c.break_badly.ensures)
    (badly_updated c.args.experiment.now (spot c.args.t c.args.n c.args.buffers.now) _ _ c.requires.ready.shapes_are c.in-Err.bad c.in-Err.ensures.updates.stage _ _ olds past h)

pub put_values-requires-clause-wide : goal.put_values-requires-clause-wide
put_values-requires-clause-wide g c =
    let e = c.args.experiment.now in
    wide_all e.system c.args.buffers.now.values c.requires.timed.places c.requires.timed.fitting

pub put_values-requires-clause-counts : goal.put_values-requires-clause-counts
put_values-requires-clause-counts g c =
    let few = c.requires.timed.few in
    let within = c.requires.timed.stands.within in
    let stops = c.requires.timed.stops in
    let p = c.requires.ready.may.plan in
    let most = p.stop_within in
    let limit = p.limit_within in
    let below = c.requires.below in
    omega (arith, few, within, stops, most, limit, below)

pub returns-in-Ok-put_values-clause-ready : goal.returns-in-Ok-put_values-clause-ready
returns-in-Ok-put_values-clause-ready g c =
    let p = c.args.experiment.now.plan in
    let t = c.args.t in
    still_those g.L.Peer.view c.args.experiment.now (IsTaking t) c.args.slots.now _ c.requires.ready (IsAt t) has_events (λ shape. C.Update) (λ v w x h asked l is. update_leads t p.stop p.step v w x h l is) (update_stays t p.stop p.step) updated_by (Ok c.in-Ok.updated) c.in-Ok.ensures.updates.stage c.in-Ok.ensures.live

pub returns-in-Ok-put_values-clause-settled : goal.returns-in-Ok-put_values-clause-settled
returns-in-Ok-put_values-clause-settled g c last =
    let p = c.args.experiment.now.plan in
    let t = c.args.t in
    let s = c.in-Ok.ensures.updates.stage in
    let own = (neither c.in-Ok.updated.again c.args.is_armed (sym c.with_armed-in-Ok-put_values.ensures.again ∙ last)).0 in
    still g.L.Peer.view c.args.experiment.now (IsTaking t) c.args.slots.now _ c.requires.ready (IsSettled t) (Ok c.in-Ok.updated) s.log s.told c.in-Ok.ensures.live
    (updated_settled (λ x. instance_in g.L.Peer.view x) c.args.slots.now c.update.new.slots t p.stop p.step c.in-Ok.updated s own c.requires.ready.stand)

pub returns-in-Ok-put_values-clause-timed : goal.returns-in-Ok-put_values-clause-timed
returns-in-Ok-put_values-clause-timed g c =
    let t = c.requires.timed in
    let text = with_items_is c.args.buffers.now.text c.put_values.new.text (c.put_values.auto.text ∙ c.deref_mut.ensures.len) in
    let few = t.few in
    let counted = c.in-Ok-put_values.ensures.counted in
    let below = c.requires.below in
    let kept = c.put_values.ensures.values in
    let clocks = c.in-Ok.ensures.clocks in
    record {
      starts = ap (λ (x : Timetable). x.start) clocks ∙ t.starts;
      stops = ap (λ (x : Timetable). x.stop) clocks ∙ t.stops;
      stands = stands_with c.args.experiment.now.system c.args.t false c.args.buffers.now.schedule c.update.new.schedule clocks c.in-Ok.ensures.components t.stands;
      know = record { participants = t.know.participants; room = t.know.room };
      awaited = subst (λ (vs : List (Option ℤ)). AreUnfedAwaited c.args.experiment.now.system vs c.args.buffers.now.pending) (sym kept) t.awaited;
      places = ap length kept ∙ t.places;
      fitting = subst (AreFitting c.args.experiment.now.system) (sym kept) t.fitting;
      holds = subst (HoldsEach c.args.experiment.now.system) (sym (ap length text ∙ c.put_values.auto.text ∙ ap length c.deref_mut.ensures.value)) t.holds;
      limited = omega (arith, below);
      few = omega (arith, few, counted);
    }

pub returns-in-Ok-put_values-clause-unarmed : goal.returns-in-Ok-put_values-clause-unarmed
returns-in-Ok-put_values-clause-unarmed g c last =
    let none = (neither c.in-Ok.updated.again c.args.is_armed (sym c.with_armed-in-Ok-put_values.ensures.again ∙ last)).1 in
    ap (λ (x : Timetable). is_some_armed c.args.t (timers_in x)) c.in-Ok.ensures.clocks ∙ sym c.requires.armed ∙ none

pub returns-in-Ok-put_values-clause-puts : goal.returns-in-Ok-put_values-clause-puts
returns-in-Ok-put_values-clause-puts g c olds past so h =
    let e = c.args.experiment.now in
    let b = c.args.buffers.now in
    let again = c.with_armed-in-Ok-put_values.ensures.again ∙ ap (λ (x : Bool). c.in-Ok.updated.again || x) c.requires.armed in
    let put = c.in-Ok-put_values.ensures.put in
    let s = spot c.args.t c.args.n b in
    let events = c.update.new.schedule.events in
    let told : List (Option ℤ) → List Timer → ℕ → Type 0 = λ values timers k.
    Here e olds past (InstantDone (record s { values = values; timers = timers; events = events }) c.with_armed-in-Ok-put_values.result.again c.with_armed-in-Ok-put_values.result.asked) (instances g.L.Peer.view c.update.new.slots) (g.O.Sink.view c.put_values.new.out) k in
    let timers : timers_in b.schedule ≡ timers_in c.update.new.schedule = sym (ap timers_in c.in-Ok.ensures.clocks) in
    subst (λ (vs : List (Option ℤ)). told vs (timers_in c.update.new.schedule) c.put_values.new.instants) (sym c.put_values.ensures.values)
    (subst (λ (k : ℕ). told b.values (timers_in c.update.new.schedule) k) (sym c.in-Ok-put_values.ensures.counted)
    (subst (λ (ts : List Timer). told b.values ts (b.instants + 1)) timers
    (by_put e s events c.in-Ok.updated c.with_armed-in-Ok-put_values.result again c.with_armed-in-Ok-put_values.ensures.asked _ _ c.requires.ready.shapes_are c.in-Ok.ensures.updates olds past _ _ h (so ∙ c.if-not-puts.false) _ put)))

pub returns-in-Err-put_values-clause-puts : goal.returns-in-Err-put_values-clause-puts
returns-in-Err-put_values-clause-puts g c olds past so h =
    let e = c.args.experiment.now in
    let v : Updated = record { again = c.in-Ok.updated.again || c.args.is_armed; asked = c.in-Ok.updated.asked } in
    let again = ap (λ (x : Bool). c.in-Ok.updated.again || x) c.requires.armed in
    let put = c.in-Err-put_values.ensures.cut in
    subst (BreaksOff e olds past (instances g.L.Peer.view c.update.new.slots) (g.O.Sink.view c.put_values.new.out) c.put_values.new.instants) (sym c.break_by_put.ensures)
    (subst (λ (k : ℕ). RunsIn e.system e.bound e.plan past.extent olds (instances g.L.Peer.view c.update.new.slots) past.sink (g.O.Sink.view c.put_values.new.out) k E.WriteFault) (sym c.in-Err-put_values.ensures.uncounted)
    (by_cut e (spot c.args.t c.args.n c.args.buffers.now) c.update.new.schedule.events c.in-Ok.updated v again refl _ _ c.requires.ready.shapes_are c.in-Ok.ensures.updates olds past _ _ h (so ∙ c.if-not-puts.false) _ put))

-- where instants aren't put

pub returns-then-not-puts-clause-ready : goal.returns-then-not-puts-clause-ready
returns-then-not-puts-clause-ready g c =
    let p = c.args.experiment.now.plan in
    let t = c.args.t in
    still_those g.L.Peer.view c.args.experiment.now (IsTaking t) c.args.slots.now _ c.requires.ready (IsAt t) has_events (λ shape. C.Update) (λ v w x h asked l is. update_leads t p.stop p.step v w x h l is) (update_stays t p.stop p.step) updated_by (Ok c.in-Ok.updated) c.in-Ok.ensures.updates.stage c.in-Ok.ensures.live

pub returns-then-not-puts-clause-settled : goal.returns-then-not-puts-clause-settled
returns-then-not-puts-clause-settled g c last =
    let p = c.args.experiment.now.plan in
    let t = c.args.t in
    let s = c.in-Ok.ensures.updates.stage in
    let own = (neither c.in-Ok.updated.again c.args.is_armed (sym c.with_armed.ensures.again ∙ last)).0 in
    still g.L.Peer.view c.args.experiment.now (IsTaking t) c.args.slots.now _ c.requires.ready (IsSettled t) (Ok c.in-Ok.updated) s.log s.told c.in-Ok.ensures.live
    (updated_settled (λ x. instance_in g.L.Peer.view x) c.args.slots.now c.update.new.slots t p.stop p.step c.in-Ok.updated s own c.requires.ready.stand)

pub returns-then-not-puts-clause-timed : goal.returns-then-not-puts-clause-timed
returns-then-not-puts-clause-timed g c =
    let t = c.requires.timed in
    let few = t.few in
    let below = c.requires.below in
    let clocks = c.in-Ok.ensures.clocks in
    record {
      starts = ap (λ (x : Timetable). x.start) clocks ∙ t.starts;
      stops = ap (λ (x : Timetable). x.stop) clocks ∙ t.stops;
      stands = stands_with c.args.experiment.now.system c.args.t false c.args.buffers.now.schedule c.update.new.schedule clocks c.in-Ok.ensures.components t.stands;
      know = record { participants = t.know.participants; room = t.know.room };
      awaited = t.awaited;
      places = t.places;
      fitting = t.fitting;
      holds = t.holds;
      limited = omega (arith, below);
      few = omega (arith, few);
    }

pub returns-then-not-puts-clause-unarmed : goal.returns-then-not-puts-clause-unarmed
returns-then-not-puts-clause-unarmed g c last =
    let none = (neither c.in-Ok.updated.again c.args.is_armed (sym c.with_armed.ensures.again ∙ last)).1 in
    ap (λ (x : Timetable). is_some_armed c.args.t (timers_in x)) c.in-Ok.ensures.clocks ∙ sym c.requires.armed ∙ none

pub returns-then-not-puts-clause-puts : goal.returns-then-not-puts-clause-puts
returns-then-not-puts-clause-puts g c olds past so h =
    let e = c.args.experiment.now in
    let b = c.args.buffers.now in
    let again = c.with_armed.ensures.again ∙ ap (λ (x : Bool). c.in-Ok.updated.again || x) c.requires.armed in
    let s = spot c.args.t c.args.n b in
    let events = c.update.new.schedule.events in
    let timers : timers_in b.schedule ≡ timers_in c.update.new.schedule = sym (ap timers_in c.in-Ok.ensures.clocks) in
    subst (λ (ts : List Timer). Here e olds past (InstantDone (record s { timers = ts; events = events }) c.with_armed.result.again c.with_armed.result.asked) (instances g.L.Peer.view c.update.new.slots) (g.O.Sink.view c.args.out.now) b.instants) timers
    (by_none e s events c.in-Ok.updated c.with_armed.result again c.with_armed.ensures.asked _ _ c.requires.ready.shapes_are c.in-Ok.ensures.updates olds past _ _ h (so ∙ c.if-not-puts.true))

pub returns-in-Ok-put_values-clause-modes : goal.returns-in-Ok-put_values-clause-modes
returns-in-Ok-put_values-clause-modes g c = told_modes c.args.t c.args.experiment.now.system (instances g.L.Peer.view c.args.slots.now) c.requires.ready.shapes_are c.in-Ok.ensures.updates.stage.log c.update.new.schedule.events c.in-Ok.ensures.updates.events_are

pub returns-then-not-puts-clause-modes : goal.returns-then-not-puts-clause-modes
returns-then-not-puts-clause-modes g c = told_modes c.args.t c.args.experiment.now.system (instances g.L.Peer.view c.args.slots.now) c.requires.ready.shapes_are c.in-Ok.ensures.updates.stage.log c.update.new.schedule.events c.in-Ok.ensures.updates.events_are
