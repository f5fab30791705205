use Rattle.std.proofs.Common.{◌+◌, ◌<◌, ◌∙◌, ℕ, Option, ap, get_or, length, sym, subst}
use Rattle.std.specs.Prelude.{IfNone, IfSome}
use Rattle.tick_schedule.specs.Timetable.{EventAt, Timetable}
use Rattle.tick_schedule.proofs.ScheduleLemmas.{event_told, no_event_told}
use Rattle.tick_schedule.proofs.schedule.Schedule.event_point.Goals as goal

pub returns-clause-found : goal.returns-clause-found
returns-clause-found g c =
    let inside = c.self.inside in
    let Within : Timetable → Type 0 = λ table. c.args.component < length table.events in
    let Q : Timetable → Type 0 = λ table. IfSome c.within.result (EventAt table c.args.component) in
    let here = c.point.ensures.point ∙ ap (λ n. get_or inside.points (n + c.args.component) 0) (c.len.ensures ∙ inside.clocks.ok.0) in
    subst Q c.self.view_is (subst (λ (o : Option ℕ). IfSome o (EventAt (record { start = inside.start; stop = inside.stop; clocks = inside.clocks.items; events = inside.events.items }) c.args.component)) (sym c.within.ensures)
    (event_told inside.start inside.stop inside.clocks.items inside.events.items inside.points c.args.component c.point.result c.self.invariant (subst Within (sym c.self.view_is) c.requires) here))

pub returns-clause-none : goal.returns-clause-none
returns-clause-none g c =
    let inside = c.self.inside in
    let Q : Timetable → Type 0 = λ table. IfNone c.within.result ((point : ℕ) → EventAt table c.args.component point → ⊥) in
    let here = c.point.ensures.point ∙ ap (λ n. get_or inside.points (n + c.args.component) 0) (c.len.ensures ∙ inside.clocks.ok.0) in
    subst Q c.self.view_is (subst (λ (o : Option ℕ). IfNone o ((point : ℕ) → EventAt (record { start = inside.start; stop = inside.stop; clocks = inside.clocks.items; events = inside.events.items }) c.args.component point → ⊥)) (sym c.within.ensures)
    (no_event_told inside.start inside.stop inside.clocks.items inside.events.items inside.points c.args.component c.point.result c.self.invariant here))
