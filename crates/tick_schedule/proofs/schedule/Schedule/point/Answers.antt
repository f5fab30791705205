use Rattle.std.proofs.Common.{◌<◌, ◌≤◌, ℕ, Option, length, sym, subst}
use Rattle.std.specs.Prelude.{IfNone, IfSome}
use Rattle.tick_schedule.specs.Timetable.{TicksAt, Timetable}
use Rattle.tick_schedule.proofs.ScheduleLemmas.{least_told, no_tick_told, tick_told}
use Rattle.tick_schedule.proofs.schedule.Schedule.point.Goals as goal

pub returns-clause-found : goal.returns-clause-found
returns-clause-found g c =
    let inside = c.self.inside in
    let Within : Timetable → Type 0 = λ table. c.args.clock < length table.clocks in
    let Q : Timetable → Type 0 = λ table. IfSome c.within.result (TicksAt table c.args.clock) in
    subst Q c.self.view_is (subst (λ (o : Option ℕ). IfSome o (TicksAt (record { start = inside.start; stop = inside.stop; clocks = inside.clocks.items; events = inside.events.items }) c.args.clock)) (sym c.within.ensures)
    (tick_told inside.start inside.stop inside.clocks.items inside.events.items inside.points c.args.clock c.point.result c.self.invariant (subst Within (sym c.self.view_is) c.requires) c.point.ensures.point))

pub returns-clause-least : goal.returns-clause-least
returns-clause-least g c =
    let inside = c.self.inside in
    let Within : Timetable → Type 0 = λ table. c.args.clock < length table.clocks in
    let Q : Timetable → Type 0 = λ table. IfSome c.within.result (λ point. (other : ℕ) → TicksAt table c.args.clock other → point ≤ other) in
    subst Q c.self.view_is (subst (λ (o : Option ℕ). IfSome o (λ point. (other : ℕ) → TicksAt (record { start = inside.start; stop = inside.stop; clocks = inside.clocks.items; events = inside.events.items }) c.args.clock other → point ≤ other)) (sym c.within.ensures)
    (least_told inside.start inside.stop inside.clocks.items inside.events.items inside.points c.args.clock c.point.result c.self.invariant (subst Within (sym c.self.view_is) c.requires) c.point.ensures.point))

pub returns-clause-none : goal.returns-clause-none
returns-clause-none g c =
    let inside = c.self.inside in
    let Within : Timetable → Type 0 = λ table. c.args.clock < length table.clocks in
    let Q : Timetable → Type 0 = λ table. IfNone c.within.result ((point : ℕ) → TicksAt table c.args.clock point → ⊥) in
    subst Q c.self.view_is (subst (λ (o : Option ℕ). IfNone o ((point : ℕ) → TicksAt (record { start = inside.start; stop = inside.stop; clocks = inside.clocks.items; events = inside.events.items }) c.args.clock point → ⊥)) (sym c.within.ensures)
    (no_tick_told inside.start inside.stop inside.clocks.items inside.events.items inside.points c.args.clock c.point.result c.self.invariant (subst Within (sym c.self.view_is) c.requires) c.point.ensures.point))
