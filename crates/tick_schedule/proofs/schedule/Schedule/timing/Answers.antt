use Rattle.std.proofs.Common.{◌≡◌, ◌<◌, ◌≤◌, ◌^◌, ℕ, Option, arith, length, subst, sym, get_or, ◌∙◌}
use Rattle.std.specs.Prelude.{IfSome}
use Rattle.std.proofs.lemmas.List.{get_or_append_left}
use Rattle.std.proofs.lemmas.List.Elements.{All-get_or}
use Rattle.tick_schedule.specs.Points.{IsSoundState, entries}
use Rattle.tick_schedule.specs.Timetable.{Timetable}
use Rattle.tick_schedule.proofs.ScheduleLemmas.{entries_len, timing_bounds}
use Rattle.tick_schedule.proofs.schedule.Schedule.timing.Goals as goal

pub returns-clause-bounds : goal.returns-clause-bounds
returns-clause-bounds c =
    let inside = c.self.inside in
    let cs = inside.clocks.items in
    let all = entries cs inside.events.items in
    let clock = c.args.clock in
    let state = c.index.result.now in
    let within : clock < length cs = subst (λ (table : Timetable). clock < length table.clocks) (sym c.self.view_is) c.requires in
    let len = entries_len inside.start inside.stop cs inside.events.items in
    let is : get_or all clock state ≡ state = get_or_append_left cs _ state clock within ∙ sym c.index.ensures in
    let sound : IsSoundState state = subst IsSoundState is (All-get_or IsSoundState all clock state (omega (arith, within, len)) c.self.invariant.sound) in
    subst (λ (o : Option (ℕ × ℕ)). IfSome o (λ (timing : ℕ × ℕ). (0 < timing.0) × (timing.0 ≤ 2 ^ 126) × (timing.1 ≤ 2 ^ 126))) (sym c.timing.ensures) (timing_bounds state sound)
