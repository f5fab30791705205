-- A worked example: a run of a sound system, with machines of its shapes, and its one trace.
use Rattle.std.specs.Prelude.{◌≡◌, ℕ, List}
use Rattle.system_model.specs.Text.{Instant}
use Rattle.system_model.specs.Sound.{IsSound}
use Rattle.system_model.specs.declared.plan.EndKind.{EndKind}
use Rattle.run_model.specs.Run.{Run}
use Rattle.run_model.specs.Machines.{AreMachines}
use Rattle.run_model.specs.Trace.{IsTrace}

pub record HasTrace (r : Run) (instants : List Instant) (kind : EndKind) (end : ℕ) : Type 0 where
  pub sound : IsSound r.system
  pub machines : AreMachines r
  pub trace : IsTrace r instants kind end
  pub only : (others : List Instant) (other : EndKind) (point : ℕ) → IsTrace r others other point →
      (others ≡ instants) × (other ≡ kind) × (point ≡ end)
