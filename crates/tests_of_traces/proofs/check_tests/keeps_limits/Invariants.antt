use Rattle.std.proofs.Common.{◌≡◌, ℕ, ◌<◌, Some}
use Rattle.std.specs.List.{slice_get}
use Rattle.system_model.specs.declared.system.Port.{Port}
use Rattle.trace_check.specs.Ticks.{HasLimits}
use Rattle.tests_of_traces.proofs.check_tests.keeps_limits.Given as goal

abbrev pub invariant-loop-port : goal.invariant-loop-port
invariant-loop-port l = (k : ℕ) (port : Port) → k < l.port-index → slice_get l.system.ports k ≡ Some port → HasLimits port.role
