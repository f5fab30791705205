-- What a checkpoint begins with: the magic word, and the plan and the point of the run, in eight bytes each.
use Rattle.std.specs.Prelude.{ℕ, ◌+◌, ◌-◌, ◌<◌, ◌≤◌, ◌^◌, List, length, take, codes}
use Rattle.system_model.specs.declared.plan.Plan.{Plan}
use Rattle.exact_parts.specs.Taking.{After, Begins, Gets}
use Rattle.exact_parts.specs.Field.{Field}
use Rattle.exact_parts.specs.Each.{IsText, Made}
use Rattle.system_checkpoint.specs.Parts.{between}
use Rattle.system_checkpoint.specs.declared.first.First.{First}

abbrev pub magic : List ℕ
magic = codes "SSPCKPT1"

-- the greatest count, and the greatest number of instants at one point
abbrev pub count_max : ℕ
count_max = 2 ^ 62

abbrev pub limit_max : ℕ
limit_max = 10000

abbrev pub plan_of : (resolution start step stop limit : ℕ) → Plan
plan_of resolution start step stop limit = record {
  resolution = resolution;
  start = start;
  step = step;
  stop = stop;
  limit = limit;
  workers = 1;
  link = 1;
}

abbrev pub first_of : Plan → ℕ → First
first_of plan point = record { plan = plan; point = point }

-- the numbers, one after another: each lies in its limits, the stop after the start, and the point from the start on and before the stop
abbrev pub PointOf : (resolution start step stop limit : ℕ) → First → List ℕ → Type 0
PointOf resolution start step stop limit =
    Made (Field 8 (between start (stop - 1)))
    (first_of (plan_of resolution start step stop limit))

abbrev pub LimitOf : (resolution start step stop : ℕ) → First → List ℕ → Type 0
LimitOf resolution start step stop =
    After (Field 8 (between 1 limit_max)) (PointOf resolution start step stop)

abbrev pub StopOf : (resolution start step : ℕ) → First → List ℕ → Type 0
StopOf resolution start step =
    After (Field 8 (between (start + 1) count_max)) (LimitOf resolution start step)

abbrev pub StepOf : (resolution start : ℕ) → First → List ℕ → Type 0
StepOf resolution start =
    After (Field 8 (between 1 count_max)) (StopOf resolution start)

abbrev pub StartOf : (resolution : ℕ) → First → List ℕ → Type 0
StartOf resolution = After (Field 8 (between 0 (count_max - 1))) (StepOf resolution)

abbrev pub NumbersOf : First → List ℕ → Type 0
NumbersOf = After (Field 8 (between 1 count_max)) StartOf

-- 56 bytes
abbrev pub IsFirst : First → List ℕ → Type 0
IsFirst = After (IsText magic) (λ (nothing : Unit {0}). NumbersOf)

-- the bytes begin with this plan, and the point of some run
pub record HasPlan (bytes : List ℕ) (plan : Plan) : Type 0 where
  pub point : ℕ
  pub length : ℕ
  pub stands : Gets IsFirst bytes (first_of plan point) length

-- no plan stands there: this is the first byte that continues none, or the length of the bytes
pub record HasNone (bytes : List ℕ) (at : ℕ) : Type 0 where
  pub within : at ≤ length bytes
  pub prefix : Begins IsFirst (take at bytes)
  pub next : at < length bytes → Begins IsFirst (take (at + 1) bytes) → ⊥
  pub none : (plan : Plan) → HasPlan bytes plan → ⊥
