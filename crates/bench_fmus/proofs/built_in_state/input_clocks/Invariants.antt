use Rattle.std.proofs.Common.{◌≡◌, filter, take}
use Rattle.fmi_calls.specs.Permission.{is_input_clock}
use Rattle.bench_fmus.proofs.ClockLemmas.{references_of}
use Rattle.bench_fmus.proofs.built_in_state.input_clocks.Given as goal

-- the references of the input Clocks so far
abbrev pub invariant-loop-variable : goal.invariant-loop-variable
invariant-loop-variable l = l.clocks.items ≡ references_of (filter is_input_clock (take l.variable-index l.variables))
