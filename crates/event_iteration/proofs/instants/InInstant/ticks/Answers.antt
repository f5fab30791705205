use Rattle.std.proofs.Common.{◌<◌, ℕ, sym, ◌∙◌, subst}
use Rattle.event_iteration.proofs.ClockTicks.{due_is, never_due}
use Rattle.event_iteration.proofs.Taking.{port_at}
use Rattle.event_iteration.proofs.instants.InInstant.ticks.Goals as goal

pub returns-then-not-is_time_clock : goal.returns-then-not-is_time_clock
returns-then-not-is_time_clock c =
    let system = c.args.system.now in
    let self = c.args.self.now in
    let port = c.index-as_slice-p.result in
    let is = port_at _ system.ports c.args.p port c.as_slice.ensures c.index-as_slice-p.is c.requires.port in
    sym (never_due system self.t self.is_first self.schedule.now c.requires.stands c.args.p port is (sym c.is_time_clock.ensures ∙ c.if-not-is_time_clock.true))

pub returns : goal.returns
returns c =
    let self = c.args.self.now in
    due_is c.args.system.now self.t self.is_first self.schedule.now c.requires.stands c.args.p (subst (λ (n : ℕ). c.args.p < n) (sym c.requires.stands.len) c.requires.port) c.due.result c.due.ensures
