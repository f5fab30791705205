-- Which systems and peers a master takes (SSP 1.0: components and connectors; FMI 3.0, 4.2.1).
use Rattle.std.specs.Prelude.{◌≡◌, ℕ, List, [], length, Some, IfSome}
use Rattle.std.specs.List.{slice_get}
use Rattle.value_types.specs.declared.shape.Shape.{Shape}
use Rattle.fmi_calls.specs.Next.{fresh}
use Rattle.fmu_peer.specs.Machine.{IgnoresSlot, IsLawful, IsMachineOf, Machine}
use Rattle.fmu_peer.specs.View.{View}
use Rattle.system_model.specs.declared.system.Component.{Component}
use Rattle.system_model.specs.declared.system.System.{System}

-- a peer of this shape before its first call
pub record IsNew (shape : Shape) (v : View) : Type 0 where
  pub shape_is : v.fixed.shape ≡ shape
  pub phase : v.phase ≡ fresh shape
  pub talk : IfSome v.talk (λ es. es ≡ [])

-- a new peer for each component, in their order
pub record ArePeersOf (system : System) (views : List View) : Type 0 where
  pub len : length views ≡ length system.components
  pub each : (i : ℕ) (c : Component) (v : View) → slice_get system.components i ≡ Some c →
      slice_get views i ≡ Some v → IsNew c.shape v

-- a machine that a peer tells is one of its component's shape, its outputs keep to the dependencies that they declare, and it answers the same whatever state is saved
abbrev pub MachinesMatchShapes : System → List View → Type 0
MachinesMatchShapes system views =
    (i : ℕ) (c : Component) (v : View) (m : Machine) → slice_get system.components i ≡ Some c →
    slice_get views i ≡ Some v → v.fixed.machine ≡ Some m →
    IsMachineOf c.shape m × IsLawful c.shape m × IgnoresSlot m
