use Rattle.std.proofs.Common.{◌≡◌, map, take}
use Rattle.bench_fmus.specs.BuiltIn.{start_of}
use Rattle.bench_fmus.proofs.built_in_state.first_values.Given as goal

abbrev pub invariant-loop-variable : goal.invariant-loop-variable
invariant-loop-variable l = l.values.items ≡ map start_of (take l.variable-index l.variables)
