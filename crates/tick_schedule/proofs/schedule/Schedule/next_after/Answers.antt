use Rattle.std.proofs.Common.{◌⊎◌, inl, inr, ℕ, ◌<◌, ◌≤◌, arith, subst}
use Rattle.tick_schedule.specs.Points.{entries}
use Rattle.tick_schedule.specs.Timetable.{EventAt, TicksAt, Timetable}
use Rattle.tick_schedule.proofs.ScheduleLemmas.{event_in, first_is_least, first_ticks, none_ticks, place_is, ticks_in, ticks_within}
use Rattle.tick_schedule.proofs.schedule.Schedule.next_after.Goals as goal

abbrev Found : ℕ → Timetable → Type 0
Found p table = ((clock : ℕ) × TicksAt table clock p) ⊎ ((component : ℕ) × EventAt table component p)

pub returns-then-point-self-clause-found : goal.returns-then-point-self-clause-found
returns-then-point-self-clause-found g c =
    let inside = c.self.inside in
    let p = c.in-Some.point in
    let found = first_ticks inside.start inside.stop (entries inside.clocks.items inside.events.items) inside.points p c.self.invariant c.in-Some.ensures.found c.if-point-self.true in
    subst (Found p) c.self.view_is (place_is inside.start inside.stop inside.clocks.items inside.events.items found.0 p found.1)

pub returns-then-point-self-clause-after : goal.returns-then-point-self-clause-after
returns-then-point-self-clause-after g c =
    let p = c.in-Some.point in
    let t = c.args.t in
    (elim (returns-then-point-self-clause-found g c) as (λ f. t < p) [
      | inl tick ↦ c.requires.ticks_later tick.0 p tick.1
      | inr event ↦ c.requires.events_later event.0 p event.1
    ])

pub returns-then-point-self-clause-least_tick : goal.returns-then-point-self-clause-least_tick
returns-then-point-self-clause-least_tick g c =
    let inside = c.self.inside in
    let p = c.in-Some.point in
    let Q : Timetable → Type 0 = λ table. (clock other : ℕ) → TicksAt table clock other → p ≤ other in
    subst Q c.self.view_is (λ clock other ticks. first_is_least inside.start inside.stop (entries inside.clocks.items inside.events.items) inside.points p clock other c.self.invariant c.in-Some.ensures.least
    (ticks_in inside.start inside.stop inside.clocks.items inside.events.items clock other (ticks_within inside.start inside.stop inside.clocks.items inside.events.items clock other ticks) ticks))

pub returns-then-point-self-clause-least_event : goal.returns-then-point-self-clause-least_event
returns-then-point-self-clause-least_event g c =
    let inside = c.self.inside in
    let p = c.in-Some.point in
    let Q : Timetable → Type 0 = λ table. (component other : ℕ) → EventAt table component other → p ≤ other in
    subst Q c.self.view_is (λ component other event. first_is_least inside.start inside.stop (entries inside.clocks.items inside.events.items) inside.points p _ other c.self.invariant c.in-Some.ensures.least
    (event_in inside.start inside.stop inside.clocks.items inside.events.items component other event))

pub returns-else-point-self-clause-no_tick : goal.returns-else-point-self-clause-no_tick
returns-else-point-self-clause-no_tick g c =
    let inside = c.self.inside in
    let p = c.in-Some.point in
    let past = c.if-point-self.false in
    let Q : Timetable → Type 0 = λ table. (clock point : ℕ) → TicksAt table clock point → ⊥ in
    subst Q c.self.view_is (λ clock point ticks.
    let there = ticks_in inside.start inside.stop inside.clocks.items inside.events.items clock point (ticks_within inside.start inside.stop inside.clocks.items inside.events.items clock point ticks) ticks in
    let later = first_is_least inside.start inside.stop (entries inside.clocks.items inside.events.items) inside.points p clock point c.self.invariant c.in-Some.ensures.least there in
    let before = ticks.0 in
    omega arith)

pub returns-else-point-self-clause-no_event : goal.returns-else-point-self-clause-no_event
returns-else-point-self-clause-no_event g c =
    let inside = c.self.inside in
    let p = c.in-Some.point in
    let past = c.if-point-self.false in
    let Q : Timetable → Type 0 = λ table. (component point : ℕ) → EventAt table component point → ⊥ in
    subst Q c.self.view_is (λ component point event.
    let there = event_in inside.start inside.stop inside.clocks.items inside.events.items component point event in
    let later = first_is_least inside.start inside.stop (entries inside.clocks.items inside.events.items) inside.points p _ point c.self.invariant c.in-Some.ensures.least there in
    let before = event.0 in
    omega arith)

pub returns-in-None-clause-no_tick : goal.returns-in-None-clause-no_tick
returns-in-None-clause-no_tick g c =
    let inside = c.self.inside in
    let Q : Timetable → Type 0 = λ table. (clock point : ℕ) → TicksAt table clock point → ⊥ in
    subst Q c.self.view_is (λ clock point ticks. none_ticks inside.start inside.stop (entries inside.clocks.items inside.events.items) inside.points clock point c.self.invariant c.in-None.ensures.none
    (ticks_in inside.start inside.stop inside.clocks.items inside.events.items clock point (ticks_within inside.start inside.stop inside.clocks.items inside.events.items clock point ticks) ticks))

pub returns-in-None-clause-no_event : goal.returns-in-None-clause-no_event
returns-in-None-clause-no_event g c =
    let inside = c.self.inside in
    let Q : Timetable → Type 0 = λ table. (component point : ℕ) → EventAt table component point → ⊥ in
    subst Q c.self.view_is (λ component point event. none_ticks inside.start inside.stop (entries inside.clocks.items inside.events.items) inside.points _ point c.self.invariant c.in-None.ensures.none
    (event_in inside.start inside.stop inside.clocks.items inside.events.items component point event))
