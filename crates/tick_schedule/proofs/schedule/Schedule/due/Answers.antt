use Rattle.std.proofs.Common.{◌↔◌, ℕ, ◌<◌, ◌≤◌, IsTrue, length, sym, subst, arith}
use Rattle.tick_schedule.specs.Points.{entries}
use Rattle.tick_schedule.specs.Timetable.{TicksAt, Timetable}
use Rattle.tick_schedule.proofs.ScheduleLemmas.{due_iff, entries_len, ticks_in, ticks_out}
use Rattle.tick_schedule.proofs.schedule.Schedule.due.Goals as goal

pub returns-clause-due : goal.returns-clause-due
returns-clause-due g c =
    let clock = c.args.clock in
    let t = c.args.t in
    let r = c.is_at.result in
    let inside = c.self.inside in
    let cs = inside.clocks.items in
    let es = inside.events.items in
    let Q : Timetable → Type 0 = λ table. IsTrue r ↔ TicksAt table clock t in
    let Within : Timetable → Type 0 = λ table. clock < length table.clocks in
    let NoneBelow : Timetable → Type 0 = λ table. (other point : ℕ) → TicksAt table other point → t ≤ point in
    let within = subst Within (sym c.self.view_is) c.requires.clock in
    let below = subst NoneBelow (sym c.self.view_is) c.requires.none_below in
    let len = entries_len inside.start inside.stop cs es in
    let due = due_iff inside.start inside.stop (entries cs es) inside.points clock t c.point.result r c.self.invariant (omega (arith, within, len)) c.point.ensures.point (λ point ticks. below clock point (ticks_out inside.start inside.stop cs es clock point within ticks)) c.is_at.ensures in
    subst Q c.self.view_is ((λ yes. ticks_out inside.start inside.stop cs es clock t within (due.0 yes)), (λ ticks. due.1 (ticks_in inside.start inside.stop cs es clock t within ticks)))
