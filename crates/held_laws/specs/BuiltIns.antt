-- Runs of built-in FMUs, held and resumed (FMI 3.0, 2.2.6: fmi3SerializeFMUState, fmi3DeserializeFMUState).
use Rattle.std.specs.Prelude.{◌≡◌, ℕ, ◌≤◌, ◌^◌, Some}
use Rattle.std.specs.List.{slice_get}
use Rattle.fmu_peer.specs.Machine.{Machine}
use Rattle.bench_fmus.specs.Packed.{packed_size}
use Rattle.system_model.specs.Bounds.{BindsParameters}
use Rattle.system_model.specs.declared.plan.Plan.{Plan}
use Rattle.system_model.specs.declared.system.Component.{Component}
use Rattle.system_model.specs.Plans.{IsPlan}
use Rattle.system_model.specs.Sound.{IsSound}
use Rattle.run_model.specs.Behaved.{WellBehaved}
use Rattle.run_model.specs.Machines.{AreMachines}
use Rattle.run_model.specs.Run.{Run}
use Rattle.run_rest.specs.Packing.{ReadsBack}
use Rattle.built_in_laws.specs.BuiltInRuns.{IsBuiltInOf}
use Rattle.machine_courses.specs.Held.{packings_of}
use Rattle.machine_courses.specs.Kept.{PutsState, TakesState}

-- a built-in FMU that can tell what it is asked of its Clocks, and whose state has at most 2^20 bytes
pub record IsSmallBuiltIn (r : Run) (i : ℕ) (c : Component) (m : Machine) : Type 0 where
  pub own : IsBuiltInOf r i c m
  pub few : packed_size c.shape.variables ≤ 2 ^ 20

-- each FMU of the run is one
abbrev pub AreBuiltIn : Run → Type 0
AreBuiltIn r =
    (i : ℕ) (c : Component) (m : Machine) → slice_get r.system.components i ≡ Some c →
    slice_get r.machines i ≡ Some m → IsSmallBuiltIn r i c m

-- what a run that is held and resumed asks of its FMUs: they behave well, and their states are put as bytes, read back and taken in, where the run goes on by this plan
pub record KeepsStates (r : Run) (own : Plan) : Type 0 where
  pub well : WellBehaved r
  pub reads : ReadsBack r (packings_of r)
  pub puts : (i : ℕ) → PutsState r i
  pub takes : (i : ℕ) → TakesState r own i

-- so built-in FMUs do
abbrev pub BuiltInsKeep : Type 0
BuiltInsKeep =
    (r : Run) (own : Plan) → IsSound r.system → AreMachines r → BindsParameters r.system r.bound →
    IsPlan r.plan → AreBuiltIn r → KeepsStates r own
