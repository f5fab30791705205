-- The step that a run can't make, and the value that it loses: one at most (FMI 3.0, 2.1.5: super-dense time).
use Rattle.std.specs.Prelude.{◌≡◌, ℕ}
use Rattle.system_model.specs.Sound.{IsSound}
use Rattle.run_model.specs.Run.{Run}
use Rattle.run_model.specs.Machines.{AreMachines}
use Rattle.event_iteration.specs.declared.lost.LostValue.{LostValue}
use Rattle.machine_courses.specs.Prefixes.{LacksStepAt, LosesAt}

-- a run lacks one step at most
abbrev pub FixedOnce : Type 0
FixedOnce =
    (r : Run) → IsSound r.system → AreMachines r → (i j at other end another : ℕ) →
    LacksStepAt r i at end → LacksStepAt r j other another →
    (i ≡ j) × (at ≡ other) × (end ≡ another)

-- a run loses one value at most
abbrev pub LostOnce : Type 0
LostOnce =
    (r : Run) → IsSound r.system → AreMachines r → (lost other : LostValue) (at point : ℕ) →
    LosesAt r lost at → LosesAt r other point → (lost ≡ other) × (at ≡ point)
