-- FMUs that put their states as bytes and take them in well, where a run may be held (FMI 3.0, 2.2.6: fmi3SerializeFMUState, fmi3DeserializeFMUState).
use Rattle.std.specs.Prelude.{◌≡◌, ℕ, List, length}
use Rattle.value_types.specs.declared.shape.Shape.{Shape}
use Rattle.fmi_calls.specs.declared.call.Call.{Call}
use Rattle.fmi_calls.specs.declared.call.Call.TheVariants as C
use Rattle.fmi_calls.specs.declared.call.Grade.TheVariants as G
use Rattle.fmi_calls.specs.Worth.{grade_of}
use Rattle.fmu_peer.specs.Machine.{Machine, MachineState, after, kept, taken_in}
use Rattle.system_model.specs.declared.plan.Plan.{Plan}
use Rattle.system_model.specs.declared.system.Component.{Component}
use Rattle.run_model.specs.Behaved.{Departed, IsAnsweredWell}
use Rattle.run_model.specs.Initial.{instantiated}
use Rattle.run_model.specs.Run.{IsFmu, Run, Situation}
use Rattle.run_rest.specs.Parted.{entering_step}

-- wherever a run may be held, the i-th FMU puts its state as bytes well, once it is saved
abbrev pub PutsState : Run → ℕ → Type 0
PutsState r i =
    (z : Situation) (c : Component) (m : Machine) (s : MachineState) → Departed r z →
    IsFmu r (entering_step r z) i c m s → IsAnsweredWell c.shape m (after m s C.Save) C.Serialize

abbrev pub taking_in : List ℕ → (point stop : ℕ) → Call
taking_in bytes point stop = C.Deserialize (length bytes) point stop

-- a machine in a state takes in these bytes well, and goes back well to what they are read back as
pub record TakesIn (shape : Shape) (m : Machine) (s : MachineState) (bytes : List ℕ)
    (point stop : ℕ) : Type 0 where
  pub takes : grade_of shape (taking_in bytes point stop)
      (m.look_at s (taking_in bytes point stop) bytes) ≡ G.Good
  pub goes_back : IsAnsweredWell shape m (taken_in m s bytes) C.Restore

-- the i-th FMU does so with the bytes of each of its states where the run may be held, right after it was made for a run by this plan
abbrev pub TakesState : Run → Plan → ℕ → Type 0
TakesState r own i =
    (z : Situation) (c : Component) (m : Machine) (s u : MachineState) → Departed r z →
    IsFmu r (instantiated (record r { plan = own })) i c m s → IsFmu r (entering_step r z) i c m u →
    TakesIn c.shape m s (m.packing.pack (kept u)) z.t own.stop
