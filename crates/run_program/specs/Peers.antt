-- The peers of a system's components: how they are started, and how they are taken back.
use Rattle.std.specs.Prelude.{◌≡◌, ℕ, ◌+◌, true, false, List, [], ◌∷◌, ◌++◌, length, take, All, Some}
use Rattle.std.specs.List.{slice_get}
use Rattle.fmu_peer.specs.Start.{IsMade, IsStarted, SpawnerView, with_failure}
use Rattle.fmu_peer.specs.View.{View}
use Rattle.fmu_peer.specs.declared.spawner.StartFault.{StartFault}
use Rattle.fmu_peer.specs.declared.spawner.StartFault.TheVariants.{Failed, Unknown, Memory}
use Rattle.system_model.specs.declared.system.Component.{Component}

-- so many more peers were started
abbrev pub with_all_started : SpawnerView → ℕ → SpawnerView
with_all_started view count = record view { started = view.started + count }

-- these peers were taken back, one after another
abbrev pub with_all_retired : SpawnerView → List View → SpawnerView
with_all_retired view peers = record view { retired = view.retired ++ peers }

-- these peers were started for the first of the components, in their order: each by the host, by its component's name and shape, in the folder of its FMU
abbrev pub AreStarted : List ℕ → List (List ℕ) → List Component → List View → Type 0
AreStarted host folders components [] = Unit {0}
AreStarted host folders [] (v ∷ vs) = ⊥
AreStarted host [] (c ∷ cs) (v ∷ vs) = ⊥
AreStarted host (folder ∷ folders) (c ∷ cs) (v ∷ vs) =
    IsStarted host c.name folder c.shape v × AreStarted host folders cs vs

-- the model identifier of each is known by the host
abbrev pub AreKnown : List ℕ → SpawnerView → List Component → Type 0
AreKnown host spawner components =
    All (λ (c : Component). spawner.knows host c.shape.identifier ≡ true) components

-- each of the components' peers tells the machine that the spawner makes for it by the host, where it makes one
abbrev pub AreMade : List ℕ → SpawnerView → List Component → List View → Type 0
AreMade host spawner components peers =
    (i : ℕ) (c : Component) (v : View) → slice_get components i ≡ Some c →
    slice_get peers i ≡ Some v → IsMade spawner host c.shape v

-- a peer was started for each of the components
pub record StartsEach (host : List ℕ) (folders : List (List ℕ)) (components : List Component)
    (peers : List View) (old new : SpawnerView) : Type 0 where
  pub each : length peers ≡ length components
  pub are : AreStarted host folders components peers
  pub known : AreKnown host old components
  pub made : AreMade host old components peers
  pub told : new ≡ with_all_started old (length peers)

-- the component at this place is the first whose model identifier the host doesn't know
pub record IsFirstUnknown (host : List ℕ) (spawner : SpawnerView) (components : List Component)
    (place : ℕ) (c : Component) : Type 0 where
  pub here : slice_get components place ≡ Some c
  pub unknown : spawner.knows host c.shape.identifier ≡ false
  pub before : AreKnown host spawner (take place components)

-- what a spawner tells of a peer that wasn't started for a component
abbrev pub NotesFault : List ℕ → StartFault → Component → SpawnerView → SpawnerView → Type 0
NotesFault host Failed c old new = new ≡ with_failure old
NotesFault host Unknown c old new = (new ≡ old) × (old.knows host c.shape.identifier ≡ false)
NotesFault host Memory c old new = new ≡ old

-- a peer was started for each of the components before this one, and its own wasn't
pub record StartsUpTo (host : List ℕ) (folders : List (List ℕ)) (components : List Component)
    (place : ℕ) (fault : StartFault) (peers : List View) (old new : SpawnerView) : Type 0 where
  pub component : Component
  pub here : slice_get components place ≡ Some component
  pub each : length peers ≡ place
  pub are : AreStarted host folders components peers
  pub known : AreKnown host old (take place components)
  pub noted : NotesFault host fault component (with_all_started old place) new
