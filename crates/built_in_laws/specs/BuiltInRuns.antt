-- The built-in machines along runs: each answers each call well (FMI 3.0, 4.2.1: Co-Simulation; 2.2.3: fmi3OK), where it can tell what it is asked of Clocks.
use Rattle.std.specs.Prelude.{◌≡◌, ℕ, ◌<◌, Some}
use Rattle.std.specs.List.{slice_get}
use Rattle.value_types.specs.declared.shape.Shape.{Shape}
use Rattle.fmu_peer.specs.Machine.{Machine}
use Rattle.bench_fmus.specs.declared.model.Model.{Model}
use Rattle.bench_fmus.specs.BuiltIn.{machine_of}
use Rattle.bench_fmus.specs.Models.{behaviour_of}
use Rattle.system_model.specs.declared.system.Component.{Component}
use Rattle.system_model.specs.Sound.{IsSound}
use Rattle.run_model.specs.AlwaysWell.{WellButTimings}
use Rattle.run_model.specs.Behaved.{BehavesWell}
use Rattle.run_model.specs.Initial.{bound_values}
use Rattle.run_model.specs.Run.{Run}
use Rattle.built_in_laws.specs.Clocks.{TellsTimings}

-- the machine is a built-in one, for an FMU of this shape, where a second has a count
pub record IsBuiltIn (shape : Shape) (m : Machine) : Type 0 where
  pub model : Model
  pub is : m ≡ machine_of (behaviour_of model) shape
  pub counts : 0 < shape.resolution

-- in whatever state it is, it answers each call of a run well but those for the intervals and shifts of Clocks
abbrev pub BuiltInsAnswerWell : Type 0
BuiltInsAnswerWell = (shape : Shape) (m : Machine) → IsBuiltIn shape m → WellButTimings shape m

-- the i-th component's machine is a built-in one, which can tell what it is asked of its Clocks
pub record IsBuiltInOf (r : Run) (i : ℕ) (c : Component) (m : Machine) : Type 0 where
  pub built_in : IsBuiltIn c.shape m
  pub timings : TellsTimings built_in.model c.shape (bound_values r i)

-- so it behaves well along each run of a sound system, whatever the other FMUs do
abbrev pub BuiltInsBehaveWell : Type 0
BuiltInsBehaveWell = (r : Run) → IsSound r.system → (i : ℕ) →
    ((c : Component) (m : Machine) → slice_get r.system.components i ≡ Some c →
    slice_get r.machines i ≡ Some m → IsBuiltInOf r i c m) → BehavesWell r i
