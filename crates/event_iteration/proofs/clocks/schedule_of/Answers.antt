use Rattle.std.proofs.Common.{◌≡◌, ℕ, List, [], ◌∷◌, ◌∙◌, refl, ap, length, map, replicate, subst, sym}
use Rattle.std.specs.Prelude.{All, IfOk, Option, None}
use Rattle.system_model.specs.declared.system.Component.{Component}
use Rattle.system_model.specs.declared.system.Port.{Port}
use Rattle.tick_schedule.specs.declared.clock.ClockState.{ClockState}
use Rattle.tick_schedule.specs.Timetable.{IsSoundClock, Timetable, first_state}
use Rattle.event_iteration.specs.Clocks.{first_clock, first_place}
use Rattle.event_iteration.proofs.SoundClocks.{places_of_clocks, sound_clocks}
use Rattle.event_iteration.proofs.clocks.schedule_of.Goals as goal

no_events : (components : List Component) → replicate {A = Option ℕ} (length components) None ≡ map (λ (c : Component). None) components
no_events [] = refl
no_events (c ∷ components) = ap (λ (es : List (Option ℕ)). None ∷ es) (no_events components)

pub new-requires-clause-clocks : goal.new-requires-clause-clocks
new-requires-clause-clocks c =
    subst (All IsSoundClock) (sym (c.as_slice-2.ensures.value ∙ c.in_ok-clocks.ensures ∙ ap (map (λ (port : Port). first_clock port.role)) c.as_slice.ensures)) (sound_clocks c.args.system.now c.requires.sound)

pub returns : goal.returns
returns c =
    let clocks = c.as_slice-2.ensures.value ∙ c.in_ok-clocks.ensures ∙ ap (map (λ (port : Port). first_clock port.role)) c.as_slice.ensures in
    let events = ap (λ (n : ℕ). replicate {A = Option ℕ} n None) c.len.ensures ∙ no_events c.args.system.now.components in
    subst (λ (es : List (Option ℕ)). IfOk c.new.result (λ (schedule : Timetable). schedule ≡ record { start = c.args.start; stop = c.args.stop; clocks = map (λ (port : Port). first_place port.role) c.args.system.now.ports; events = es })) events
    (subst (λ (cs : List ClockState). IfOk c.new.result (λ (schedule : Timetable). schedule ≡ record { start = c.args.start; stop = c.args.stop; clocks = cs; events = replicate {A = Option ℕ} c.len.result None })) (ap (map first_state) clocks ∙ places_of_clocks c.args.system.now.ports) c.new.ensures)
