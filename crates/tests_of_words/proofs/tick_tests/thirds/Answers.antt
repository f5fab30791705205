use Rattle.std.proofs.Common.{◌≡◌, ℕ, ◌+◌, ◌*◌, ◌<◌, length, true, [], ◌∷◌, Some, refl, subst, sym, arith}
use Rattle.std.specs.List.{slice_get}
use Rattle.std.proofs.lemmas.Bool.Decides.{nat_tests}
use Rattle.tick_schedule.specs.declared.clock.ClockState.{ClockState}
use Rattle.tick_schedule.specs.declared.clock.ClockState.TheVariants.{Periodic}
use Rattle.tick_schedule.specs.Points.{up_to}
use Rattle.tick_schedule.specs.Timetable.{Timetable, after_tick, with_clock}
use Rattle.tick_schedule.proofs.CallerLemmas.{are_later, none_below}
use Rattle.tick_schedule.proofs.PointLemmas.{up_to_within}
use Rattle.tests_of_words.proofs.tick_tests.thirds.Goals as goal

-- the one Clock before a tick
abbrev at : ℕ → Timetable
at k = record { start = 0; stop = 4611686018427387904; clocks = Periodic 333 0 k ∷ []; events = [] }

goes : (old new : Timetable) (k : ℕ) → old ≡ at k → ((state : ClockState) → slice_get old.clocks 0 ≡ Some state → new ≡ with_clock old 0 (after_tick state)) → new ≡ at (k + 1)
goes old new k is ticked =
    let P : Timetable → Type 0 = λ table. (state : ClockState) → slice_get table.clocks 0 ≡ Some state → new ≡ with_clock table 0 (after_tick state) in
    subst P is ticked (Periodic 333 0 k) refl

later : (k : ℕ) → k < 1000000 → are_later 0 4611686018427387904 (333 * k) (Periodic 333 0 (k + 1) ∷ []) ≡ true
later k near =
    let within : up_to 4611686018427387904 (0 + 0 + (k + 1) * 333) ≡ 0 + 0 + (k + 1) * 333 = up_to_within 4611686018427387904 (0 + 0 + (k + 1) * 333) (omega arith) in
    grind (arith, nat_tests)

pub due-requires-in-loop-k-clause-clock : goal.due-requires-in-loop-k-clause-clock
due-requires-in-loop-k-clause-clock g c =
    let P : Timetable → Type 0 = λ table. 0 < length table.clocks in
    subst P (sym (goes _ _ c.loop-k.k-counter c.loop-k.invariant c.ticked.ensures)) (omega arith)

pub due-requires-in-loop-k-clause-none_below : goal.due-requires-in-loop-k-clause-none_below
due-requires-in-loop-k-clause-none_below g c =
    none_below _ 0 4611686018427387904 (333 * c.loop-k.k-counter) (Periodic 333 0 (c.loop-k.k-counter + 1) ∷ []) [] (goes _ _ c.loop-k.k-counter c.loop-k.invariant c.ticked.ensures) (later c.loop-k.k-counter c.loop-k-test.true)

pub loop-k-preserved : goal.loop-k-preserved
loop-k-preserved g c = goes _ _ c.loop-k.k-counter c.loop-k.invariant c.ticked.ensures
