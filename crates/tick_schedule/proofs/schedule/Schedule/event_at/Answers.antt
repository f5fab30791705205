use Rattle.std.proofs.Common.{◌+◌, ◌∙◌, ap}
use Rattle.tick_schedule.proofs.ScheduleLemmas.{kept_event}
use Rattle.tick_schedule.proofs.schedule.Schedule.event_at.Goals as goal

pub invariant_of-self : goal.invariant_of-self
invariant_of-self g c =
    let inside = c.self.inside in
    kept_event inside.start inside.stop inside.clocks.items inside.events.items inside.points c.put.new.self
    c.args.component (c.len.result + c.args.component) c.args.point c.event_point-next.result c.self.invariant (ap (λ n. n + c.args.component) (c.len.ensures ∙ inside.clocks.ok.0))
    (c.event_point-next.ensures inside.start) c.put.ensures.points
