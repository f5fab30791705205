-- What a worked example shows.
use Rattle.std.proofs.Common.{ℕ, List}
use Rattle.system_model.specs.Text.{Instant}
use Rattle.system_model.specs.Sound.{IsSound}
use Rattle.system_model.specs.declared.plan.EndKind.{EndKind}
use Rattle.run_model.specs.Run.{Run}
use Rattle.run_model.specs.Machines.{AreMachines}
use Rattle.run_model.specs.Trace.{IsTrace}
use Rattle.run_model.proofs.CallerLemmas.{trace_same}
use Rattle.run_rows.specs.Row.{HasTrace}

pub worked : (r : Run) (instants : List Instant) (kind : EndKind) (end : ℕ) → IsSound r.system → AreMachines r → IsTrace r instants kind end → HasTrace r instants kind end
worked r instants kind end sound machines trace = record {
  sound = sound;
  machines = machines;
  trace = trace;
  only = λ others other point h. trace_same r sound machines others instants other kind point end h trace;
}
