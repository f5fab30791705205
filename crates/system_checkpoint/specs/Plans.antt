-- Laws of what a checkpoint begins with, and of the byte at which it breaks off.
use Rattle.std.specs.Prelude.{◌≡◌, ℕ, ◌≤◌, ◌^◌, List}
use Rattle.system_model.specs.declared.plan.Plan.{Plan}
use Rattle.system_model.specs.declared.system.System.{System}
use Rattle.system_checkpoint.specs.declared.snapshot.Snapshot.{Snapshot}
use Rattle.system_checkpoint.specs.First.{HasNone, HasPlan}
use Rattle.system_checkpoint.specs.Whole.{Checkpoint, IsBad}

-- bytes begin with one plan
abbrev pub HasOnePlan : Type 0
HasOnePlan = (bytes : List ℕ) (plan other : Plan) → HasPlan bytes plan → HasPlan bytes other → plan ≡ other

-- a second has counts of that plan
abbrev pub CountsSeconds : Type 0
CountsSeconds =
    (bytes : List ℕ) (plan : Plan) → HasPlan bytes plan →
    (1 ≤ plan.resolution) × (plan.resolution ≤ 2 ^ 62)

-- a checkpoint begins with the plan of what it keeps
abbrev pub BeginsWithPlan : Type 0
BeginsWithPlan =
    (system : System) (header : List ℕ) (held : Snapshot) (bytes : List ℕ) →
    Checkpoint system header held bytes → HasPlan bytes held.plan

-- bytes that begin with no plan break off at one byte
abbrev pub LacksAtOne : Type 0
LacksAtOne = (bytes : List ℕ) (at other : ℕ) → HasNone bytes at → HasNone bytes other → at ≡ other

-- so do bytes that are no checkpoint
abbrev pub BreaksAtOne : Type 0
BreaksAtOne =
    (system : System) (header bytes : List ℕ) (at other : ℕ) → IsBad system header bytes at →
    IsBad system header bytes other → at ≡ other
