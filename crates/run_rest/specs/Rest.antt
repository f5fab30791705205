-- What is left of a run at a point that is done: the instants and the end from the step on (FMI 3.0, 4.2.1: Step Mode).
use Rattle.std.specs.Prelude.{◌≡◌, ℕ, List, []}
use Rattle.system_model.specs.declared.plan.EndKind.{EndKind}
use Rattle.system_model.specs.Text.{Instant}
use Rattle.run_model.specs.Run.{Run, Situation}
use Rattle.run_model.specs.Stepping.{Ends, GoesOn}
use Rattle.run_model.specs.Trace.{Continues}
use Rattle.run_rest.specs.Parted.{DepartsFrom, ready}

-- where each FMU is in Step Mode at a point that is done, the instants and the end that are left are these
pub data Rest (r : Run) (y : Situation) (is : List Instant) (kind : EndKind)
    (end : ℕ) : Type 0 where
  NoneLeft : DepartsFrom r y (ready r y) (Ends kind end) → is ≡ [] → Rest r y is kind end
  SomeLeft : (next : Situation) → DepartsFrom r y (ready r y) (GoesOn next) →
      Continues r next is kind end → Rest r y is kind end
