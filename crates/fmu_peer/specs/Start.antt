-- What starting a peer answers, and what a spawner tells.
use Rattle.std.specs.Prelude.{◌≡◌, ℕ, ◌+◌, List, [], ◌∷◌, ◌++◌, Bool, true, false, Option, Some, IfSome, Result, Ok, Err, option_map}
use Rattle.sim_base.specs.Causes.{one_more}
use Rattle.value_types.specs.declared.shape.Shape.{Shape}
use Rattle.fmi_calls.specs.Next.{fresh}
use Rattle.fmu_peer.specs.declared.spawner.StartFault.{StartFault}
use Rattle.fmu_peer.specs.declared.spawner.StartFault.TheVariants.{Failed, Unknown, Memory}
use Rattle.fmu_peer.specs.Machine.{IsMachineOf, Machine}
use Rattle.fmu_peer.specs.View.{View}

-- a fresh peer of the shape, before its first call, with what it was started with; where it tells them, with an empty talk and a machine in its first state
pub record IsStarted (host name directory : List ℕ) (shape : Shape) (v : View) : Type 0 where
  pub shape_is : v.fixed.shape ≡ shape
  pub origin : v.fixed.origin ≡ Some (record { host = host; name = name; directory = directory })
  pub phase : v.phase ≡ fresh shape
  pub talk : IfSome v.talk (λ es. es ≡ [])
  pub state : v.state ≡ option_map (λ (m : Machine). m.first) v.fixed.machine
  pub machine : IfSome v.fixed.machine (IsMachineOf shape)
  pub faults : v.faults ≡ 0

-- `Unknown` exactly where the call didn't fail, out of memory or otherwise, and the identifier isn't known
abbrev pub AnswersUnknown : {T : Type 0} → Bool → Result T StartFault → Type 0
AnswersUnknown known (Ok link) = known ≡ true
AnswersUnknown known (Err Unknown) = known ≡ false
AnswersUnknown known (Err Failed) = Unit {0}
AnswersUnknown known (Err Memory) = Unit {0}

-- what a spawner tells: how many peers it has started; what those told that were taken back, in order; which model identifiers it knows by which host, and which machine it starts for one, by the shape, where it tells that; how often a start has failed
pub record SpawnerView : Type 0 where
  pub started : ℕ
  pub retired : List View
  pub knows : List ℕ → List ℕ → Bool
  pub makes : List ℕ → List ℕ → Option (Shape → Machine)
  pub faults : ℕ

-- by this host the peer for an FMU of this shape tells the machine that the spawner makes, where it makes one
abbrev pub IsMade : SpawnerView → List ℕ → Shape → View → Type 0
IsMade spawner host shape v =
    IfSome (spawner.makes host shape.identifier) (λ machine. v.fixed.machine ≡ Some (machine shape))

-- one more peer was started
abbrev pub with_started : SpawnerView → SpawnerView
with_started view = record view { started = view.started + 1 }

-- one more peer was taken back
abbrev pub with_retired : SpawnerView → View → SpawnerView
with_retired view peer = record view { retired = view.retired ++ peer ∷ [] }

-- one more start failed
abbrev pub with_failure : SpawnerView → SpawnerView
with_failure view = record view { faults = one_more view.faults }

-- what a start makes of what a spawner tells
abbrev pub NotesStart : {T : Type 0} → SpawnerView → SpawnerView → Result T StartFault → Type 0
NotesStart old new (Ok link) = new ≡ with_started old
NotesStart old new (Err Failed) = new ≡ with_failure old
NotesStart old new (Err Unknown) = new ≡ old
NotesStart old new (Err Memory) = new ≡ old
