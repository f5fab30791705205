use Rattle.std.proofs.Common.{◌≡◌, [], ◌∷◌}
use Rattle.tick_schedule.specs.declared.clock.ClockState.TheVariants.{Periodic}
use Rattle.tests_of_words.proofs.tick_tests.thirds.Given as goal

abbrev pub invariant-loop-k : goal.invariant-loop-k
invariant-loop-k g l = l.schedule ≡ record { start = 0; stop = 4611686018427387904; clocks = Periodic 333 0 l.k-counter ∷ []; events = [] }
