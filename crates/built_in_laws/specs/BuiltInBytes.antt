-- The built-in machines' states along runs as bytes (FMI 3.0, 2.2.6: fmi3SerializeFMUState, fmi3DeserializeFMUState): each where a run may be held is read back as it was saved.
use Rattle.std.specs.Prelude.{◌≡◌, ℕ, ◌<◌, ◌≤◌, ◌^◌, Some}
use Rattle.std.specs.List.{slice_get}
use Rattle.fmu_peer.specs.Machine.{Machine}
use Rattle.system_model.specs.Bounds.{BindsParameters}
use Rattle.system_model.specs.declared.system.Component.{Component}
use Rattle.system_model.specs.Sound.{IsSound}
use Rattle.run_model.specs.Machines.{AreMachines}
use Rattle.run_model.specs.Run.{Run}
use Rattle.run_rest.specs.Lasting.{AsksWithin}
use Rattle.run_rest.specs.Packing.{IsReadBack}
use Rattle.built_in_laws.specs.BuiltInRuns.{IsBuiltIn}

-- where the parameters are bound to values of their types, steps ask for points up to the stop, and the stop is a count of 64 bits
abbrev pub BuiltInsReadBack : Type 0
BuiltInsReadBack = (r : Run) → IsSound r.system → AreMachines r → BindsParameters r.system r.bound →
    AsksWithin r → r.plan.start ≤ r.plan.stop → r.plan.stop < 2 ^ 64 → (i : ℕ) (c : Component) (m : Machine) →
    slice_get r.system.components i ≡ Some c → slice_get r.machines i ≡ Some m →
    IsBuiltIn c.shape m → IsReadBack r i m.packing
