use Rattle.std.proofs.Common.{◌<◌, length, sym, subst}
use Rattle.tick_schedule.specs.Timetable.{Timetable}
use Rattle.tick_schedule.proofs.ScheduleLemmas.{kept_clock}
use Rattle.tick_schedule.proofs.schedule.Schedule.set.Goals as goal

pub invariant_of-self : goal.invariant_of-self
invariant_of-self g c =
    let inside = c.self.inside in
    let Within : Timetable → Type 0 = λ table. c.args.clock < length table.clocks in
    kept_clock inside.start inside.stop inside.clocks.items inside.events.items inside.points c.put.new.self
    c.args.clock c.args.state c.next_point-point.result c.self.invariant (subst Within (sym c.self.view_is) c.requires.clock)
    c.requires.sound c.next_point-point.ensures c.put.ensures.points
