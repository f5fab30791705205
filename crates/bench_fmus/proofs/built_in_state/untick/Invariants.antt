use Rattle.std.proofs.Common.{◌≡◌, length, take}
use Rattle.bench_fmus.specs.BuiltIn.{spread}
use Rattle.bench_fmus.proofs.ClockLemmas.{silenced}
use Rattle.bench_fmus.proofs.built_in_state.untick.Given as goal

-- the Clocks so far are inactive
abbrev pub invariant-loop-reference : goal.invariant-loop-reference
invariant-loop-reference l =
    (spread l.fn.variables l.values ≡ silenced l.fn.variables l.fn.values (take l.reference-index l.clocks)) × (length l.values ≡ length l.fn.variables)
