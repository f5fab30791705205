-- Where a peer wasn't started: what the outcome tells.
use Rattle.std.proofs.Common.{◌≡◌, ℕ, List, Some, map, refl, sym, ap, ◌∙◌, subst}
use Rattle.std.specs.Prelude.{slice_get}
use Rattle.std.specs.Option.{option_map}
use Rattle.std.proofs.lemmas.Option.{same_Some, slice_get-map}
use Rattle.sim_base.specs.Sink.{SinkView}
use Rattle.system_model.specs.declared.system.Component.{Component}
use Rattle.system_model.specs.declared.system.System.{System}
use Rattle.fmu_peer.specs.Start.{SpawnerView}
use Rattle.fmu_peer.specs.declared.spawner.StartFault.{StartFault}
use Rattle.fmu_peer.specs.View.{View}
use Rattle.run_program.specs.declared.naming.Naming.{Naming}
use Rattle.run_program.specs.declared.outcome.Outcome.{Outcome}
use Rattle.run_program.specs.declared.outcome.Outcome.TheVariants.{Start}
use Rattle.run_program.specs.declared.outcome.StartCause.{StartCause}
use Rattle.run_program.specs.Facts.{StartFacts}
use Rattle.run_program.specs.Happened.{scene}
use Rattle.run_program.specs.Peers.{NotesFault, StartsUpTo, with_all_retired}
use Rattle.run_program.specs.Runs.{Names, NotesUnstarted, Task, named_in, names_of}

-- the name at the place of a component is its own
name_at : (system : System) (names : List (List ℕ)) (k : ℕ) (component : Component) (name : List ℕ) → names ≡ map (λ (c : Component). c.name) system.components →
    slice_get system.components k ≡ Some component → slice_get names k ≡ Some name → name ≡ component.name
name_at system names k component name same here is =
    same_Some name component.name (sym is ∙ ap (λ (ns : List (List ℕ)). slice_get ns k) same ∙ slice_get-map (λ (c : Component). c.name) system.components k
    ∙ ap (option_map (λ (c : Component). c.name)) here)

-- those before it were taken back, and the outcome names the component
pub gave_up : (task : Task) (system : System) (before now after : SpawnerView) (out : SinkView) (naming : Naming) (place : ℕ) (peers : List View) (fault : StartFault) (cause : StartCause) (outcome : Outcome) →
    ((component : Component) (old new : SpawnerView) → NotesFault task.host fault component old new → NotesUnstarted task.host cause component old new) →
    named_in naming ≡ names_of system → StartsUpTo task.host task.folders system.components place fault peers before now → after ≡ with_all_retired now peers →
    (name : List ℕ) × (slice_get naming.names.items place ≡ Some name) × (outcome ≡ Start name cause) → StartFacts outcome task system (scene before out) (scene after out)
gave_up task system before now after out naming place peers fault cause outcome notes same starts told named =
    subst (λ (o : Outcome). StartFacts o task system (scene before out) (scene after out)) (sym named.2) (record {
      place = place;
      component = starts.component;
      here = starts.here;
      name_is = name_at system naming.names.items place starts.component named.0 (ap (λ (ns : Names). ns.components) same) starts.here named.1;
      peers = peers;
      each = starts.each;
      are = starts.are;
      known = starts.known;
      failed = now;
      noted = notes starts.component _ now starts.noted;
      told = told;
      out = refl;
    })
