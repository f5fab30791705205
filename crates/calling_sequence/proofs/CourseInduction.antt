-- For callers: what holds along a course.
use Rattle.std.specs.Prelude.{ℤ, List, [], ◌++◌, Option}
use Rattle.system_model.specs.declared.bound.Bound.{Bound}
use Rattle.system_model.specs.declared.plan.Plan.{Plan}
use Rattle.system_model.specs.declared.system.System.{System}
use Rattle.system_model.specs.Text.{Instant}
use Rattle.slot_calls.specs.Log.{Sent}
use Rattle.calling_sequence.specs.Course.{AtFirst, CourseIn, Extent, IsWithin, LeadsTo, On, Place, first_of, part_at, shown}
use Rattle.calling_sequence.specs.Parts.{Does}

-- a property that the first place has and each part keeps that was done holds at each place
module _ (system : System) (bound : Bound) (plan : Plan) (extent : Extent) (P : Place → List Sent → List Instant → Type 0) (first : P (first_of extent) [] [])
    (on : (p q : Place) (values : List (Option ℤ)) (prefix more : List Sent) (is : List Instant) → CourseIn system bound plan extent p prefix is → P p prefix is → Does system (part_at system bound plan p) values more → LeadsTo system plan p values more q → IsWithin extent q → P q (prefix ++ more) (is ++ shown q)) where
  pub along : (p : Place) (log : List Sent) (is : List Instant) → CourseIn system bound plan extent p log is → P p log is
  along _ _ _ AtFirst = first
  along _ _ _ (On p q values prefix more is course does leads within) = on p q values prefix more is course (along p prefix is course) does leads within
