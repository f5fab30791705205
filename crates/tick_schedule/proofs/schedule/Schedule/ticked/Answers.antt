use Rattle.std.proofs.Common.{◌≡◌, ◌<◌, length, Some, ap, sym, subst, refl, ◌∙◌, arith}
use Rattle.std.specs.List.{slice_get}
use Rattle.std.proofs.lemmas.Option.{same_Some, slice_get_read}
use Rattle.tick_schedule.specs.Timetable.{HasNext, Timetable, after_tick, with_clock}
use Rattle.tick_schedule.proofs.ScheduleLemmas.{goes_on_clock, next_within}
use Rattle.tick_schedule.proofs.schedule.Schedule.ticked.Goals as goal

pub index-requires : goal.index-requires
index-requires g c =
    let clock = c.args.clock in
    let Within : Timetable → Type 0 = λ table. clock < length table.clocks in
    let within = subst Within (sym c.self.view_is) (next_within c.args.self.now clock c.requires) in
    let ok = c.self.inside.clocks.ok in
    let len : c.self.inside.clocks.len ≡ length c.self.inside.clocks.items = ok.0 in
    omega arith

pub after_tick-state-requires : goal.after_tick-state-requires
after_tick-state-requires g c =
    let clock = c.args.clock in
    let inside = c.self.inside in
    let Next : Timetable → Type 0 = λ table. HasNext table clock in
    (goes_on_clock inside.start inside.stop inside.clocks.items inside.events.items inside.points clock c.index.result.now c.self.invariant c.index.ensures
    (subst Next (sym c.self.view_is) c.requires)).count

pub set-requires-clause-clock : goal.set-requires-clause-clock
set-requires-clause-clock g c = next_within c.args.self.now c.args.clock c.requires

pub set-requires-clause-sound : goal.set-requires-clause-sound
set-requires-clause-sound g c =
    let clock = c.args.clock in
    let inside = c.self.inside in
    let Next : Timetable → Type 0 = λ table. HasNext table clock in
    (goes_on_clock inside.start inside.stop inside.clocks.items inside.events.items inside.points clock c.index.result.now c.self.invariant c.index.ensures
    (subst Next (sym c.self.view_is) c.requires)).sound c.after_tick-state.result c.after_tick-state.ensures

pub set-requires-clause-near : goal.set-requires-clause-near
set-requires-clause-near g c =
    let clock = c.args.clock in
    let inside = c.self.inside in
    let Next : Timetable → Type 0 = λ table. HasNext table clock in
    (goes_on_clock inside.start inside.stop inside.clocks.items inside.events.items inside.points clock c.index.result.now c.self.invariant c.index.ensures
    (subst Next (sym c.self.view_is) c.requires)).near c.after_tick-state.result c.after_tick-state.ensures

pub returns-clause-ticked : goal.returns-clause-ticked
returns-clause-ticked g c = λ state there.
    let clock = c.args.clock in
    let clocks = c.self.inside.clocks.items in
    let Within : Timetable → Type 0 = λ table. clock < length table.clocks in
    let within = subst Within (sym c.self.view_is) (next_within c.args.self.now clock c.requires) in
    let read : slice_get clocks clock ≡ Some c.index.result.now = slice_get_read clocks (length clocks) clock c.index.result.now refl within c.index.ensures in
    let There : Timetable → Type 0 = λ table. slice_get table.clocks clock ≡ Some state in
    let same : c.index.result.now ≡ state = same_Some c.index.result.now state (sym read ∙ subst There (sym c.self.view_is) there) in
    c.set.ensures.set ∙ ap (with_clock c.args.self.now clock) (c.after_tick-state.ensures ∙ ap after_tick same)
