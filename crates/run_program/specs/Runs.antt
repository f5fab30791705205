-- A run of a system from the start of its peers until they are taken back (FMI 3.0, 4.2.1).
use Rattle.std.specs.Prelude.{◌≡◌, ℕ, ◌<◌, false, List, [], map, length, take, All, Some, IfSome, IsSomeAnd}
use Rattle.std.specs.List.{slice_get}
use Rattle.fmi_calls.specs.Next.{fresh}
use Rattle.fmu_peer.specs.Start.{SpawnerView, with_failure}
use Rattle.fmu_peer.specs.View.{View}
use Rattle.system_model.specs.declared.bound.Bound.{Bound}
use Rattle.system_model.specs.declared.plan.EndKind.{EndKind}
use Rattle.system_model.specs.declared.plan.Plan.{Plan}
use Rattle.system_model.specs.declared.system.Component.{Component}
use Rattle.system_model.specs.declared.system.Port.{Port}
use Rattle.system_model.specs.declared.system.System.{System}
use Rattle.system_model.specs.Sound.{IsSound}
use Rattle.system_model.specs.Text.{Instant}
use Rattle.run_model.specs.Machines.{AreMachines}
use Rattle.run_model.specs.Run.{Run}
use Rattle.run_model.specs.Trace.{IsTrace}
use Rattle.run_model.specs.Behaved.{WellBehaved}
use Rattle.slot_calls.specs.declared.bad_answer.BadAnswer.{BadAnswer}
use Rattle.calling_sequence.specs.declared.run_end.RunEnd.{RunEnd}
use Rattle.calling_sequence.specs.declared.run_end.RunEnd.TheVariants as E
use Rattle.step_master.specs.Sessions.{Account, FailedStart, Session}
use Rattle.step_master.specs.Histories.{AreOver}
use Rattle.machine_courses.specs.Outcomes.{PutsRun}
use Rattle.session_laws.specs.Traced.{IsRunOf, TracesWell, output_of}
use Rattle.run_program.specs.declared.outcome.StartCause.{StartCause}
use Rattle.run_program.specs.declared.outcome.StartCause.TheVariants.{Failed, Unknown}
use Rattle.run_program.specs.declared.naming.Naming.{Naming}
use Rattle.run_program.specs.declared.naming.PortName.{PortName}
use Rattle.run_program.specs.declared.outcome.End.{End}
use Rattle.run_program.specs.declared.outcome.End.TheVariants as O
use Rattle.run_program.specs.Happened.{Scene}
use Rattle.system_files.specs.Loads.{IsNamed}
use Rattle.run_program.specs.Peers.{AreKnown, AreMade, AreStarted, with_all_retired, with_all_started}

-- what is to be run: a plan, the host that the peers are started by, the values that parameters are bound to, and the folders in which the peers are started
pub record Task : Type 0 where
  pub plan : Plan
  pub host : List ℕ
  pub bound : Bound
  pub folders : List (List ℕ)

-- a system that can be run, with names and tokens within their limits
pub record CanRun (system : System) : Type 0 where
  pub sound : IsSound system
  pub each : All IsNamed system.components

-- so many folders as components
abbrev pub HasFolders : List (List ℕ) → System → Type 0
HasFolders folders system = length folders ≡ length system.components

-- the names of components, and of ports with the places of their components
pub record Names : Type 0 where
  pub components : List (List ℕ)
  pub ports : List PortName

abbrev pub port_name : Port → PortName
port_name port = record { component = port.component; name = port.name }

abbrev pub names_of : System → Names
names_of system = record {
  components = map (λ (c : Component). c.name) system.components;
  ports = map port_name system.ports;
}

abbrev pub named_in : Naming → Names
named_in naming = record { components = naming.names.items; ports = naming.ports.items }

-- ---- peers that weren't asked

-- a peer before its first call
pub record IsUnasked (v : View) : Type 0 where
  pub phase : v.phase ≡ fresh v.fixed.shape
  pub talk : IfSome v.talk (λ es. es ≡ [])

-- each peer that was started was taken back without a call, and nothing was put
pub record TakesBack (task : Task) (system : System) (old new : Scene) : Type 0 where
  pub peers : List View
  pub are : AreStarted task.host task.folders system.components peers
  pub told : new.spawner ≡ with_all_retired (with_all_started old.spawner (length peers)) peers
  pub out : new.out ≡ old.out

-- what a spawner tells of a component's peer that wasn't started
abbrev pub NotesUnstarted : List ℕ → StartCause → Component → SpawnerView → SpawnerView → Type 0
NotesUnstarted host Failed c old new = new ≡ with_failure old
NotesUnstarted host Unknown c old new = (new ≡ old) × (old.knows host c.shape.identifier ≡ false)

-- the peer of the component of this name wasn't started; those before it were, and were taken back without a call
pub record FailsToStart (task : Task) (system : System) (name : List ℕ) (fault : StartCause)
    (old new : Scene) : Type 0 where
  pub place : ℕ
  pub component : Component
  pub here : slice_get system.components place ≡ Some component
  pub name_is : name ≡ component.name
  pub peers : List View
  pub each : length peers ≡ place
  pub are : AreStarted task.host task.folders system.components peers
  pub known : AreKnown task.host old.spawner (take place system.components)
  pub failed : SpawnerView
  pub noted : NotesUnstarted task.host fault component (with_all_started old.spawner place) failed
  pub told : new.spawner ≡ with_all_retired failed peers
  pub out : new.out ≡ old.out

-- ---- a run

-- a peer was started for each component, and taken back at the end
pub record RunsPeers (task : Task) (system : System) (olds news : List View)
    (old new : SpawnerView) : Type 0 where
  pub known : AreKnown task.host old system.components
  pub each : length olds ≡ length system.components
  pub are : AreStarted task.host task.folders system.components olds
  pub made : AreMade task.host old system.components olds
  pub told : new ≡ with_all_retired (with_all_started old (length olds)) news

-- the machines are of their components' shapes and lawful, and the run of them has one trace at most
pub record HasOneTrace (r : Run) : Type 0 where
  pub machines : AreMachines r
  pub one : (is js : List Instant) (k l : EndKind) (p q : ℕ) → IsTrace r is k p →
      IsTrace r js l q → (is ≡ js) × (k ≡ l) × (p ≡ q)

-- what was put of machines that behave well: all of their one trace, or a prefix of it where the put of a piece failed; else a call failed
abbrev pub TracesOnce : Account → Run → RunEnd → Type 0
TracesOnce a r (E.Bad bad) = TracesWell a r (E.Bad bad)
TracesOnce a r end = HasOneTrace r × TracesWell a r end

-- a run of the system's peers, which keep their machines, to this end. Of told machines that behave well their one trace was put, unless a call or a put failed
pub record Traces (task : Task) (system : System) (end : RunEnd) (old new : Scene) : Type 0 where
  pub account : Account
  pub system_is : account.system ≡ system
  pub bound_is : account.bound ≡ task.bound
  pub plan_is : account.plan ≡ task.plan
  pub end_is : account.end ≡ end
  pub before_is : account.before ≡ old.out
  pub after_is : account.after ≡ new.out
  pub peers : RunsPeers task system account.olds account.news old.spawner new.spawner
  pub same : map (λ (v : View). v.fixed) account.news ≡ map (λ (v : View). v.fixed) account.olds
  pub sound : IsSound system
  pub well : (r : Run) → IsRunOf system task.bound account.olds r → r.plan ≡ task.plan →
      WellBehaved r → TracesOnce account r end

-- all instances were made, and the run went on to its end. Each peer that isn't spared after a Fatal of its source is over. What it put of told machines is their run, up to where it was broken off
pub record RunCompletes (task : Task) (system : System) (end : RunEnd) (old new : Scene) : Type 0
  where
    pub traces : Traces task system end old new
    pub session : Session traces.account
    pub over : AreOver session.histories
    pub so_far : (r : Run) → IsRunOf system task.bound traces.account.olds r →
        r.plan ≡ task.plan → PutsRun r (output_of traces.account) end

-- the answer to an Instantiate isn't good, and nothing was put; each peer that isn't spared is over
pub record Fails (task : Task) (system : System) (bad : BadAnswer) (old new : Scene) : Type 0 where
  pub traces : Traces task system (E.Bad bad) old new
  pub unmade : FailedStart system task.plan.link traces.account.olds bad traces.account.news
  pub over : AreOver unmade.histories
  pub out : new.out ≡ old.out

-- a run with this end
pub data HasRun (task : Task) (system : System) (end : RunEnd) (old new : Scene) : Type 0 where
  Went : RunCompletes task system end old new → HasRun task system end old new
  Broke : (bad : BadAnswer) → end ≡ E.Bad bad → Fails task system bad old new →
      HasRun task system end old new

-- ---- its end

-- the port has a name, and so has its component
abbrev pub NamesPort : Names → ℕ → Type 0
NamesPort names p =
    IsSomeAnd (slice_get names.ports p) (λ (port : PortName).
    port.component.0 < length names.components)

-- a component or a port of these is named by the end, if any is
abbrev pub NamesOne : Names → RunEnd → Type 0
NamesOne names E.Stop = Unit {0}
NamesOne names (E.Asked point) = Unit {0}
NamesOne names (E.EventLimit point) = Unit {0}
NamesOne names (E.FixedStep component at end) = component.0 < length names.components
NamesOne names (E.Range lost at) = NamesPort names lost.port.0
NamesOne names (E.Bad bad) = bad.component.0 < length names.components
NamesOne names (E.Held point) = Unit {0}
NamesOne names E.WriteFault = Unit {0}

-- the end of a run, with its component's name and its variable's among these
abbrev pub IsEndOf : Names → RunEnd → End → Type 0
IsEndOf names E.Stop e = e ≡ O.Stop
IsEndOf names (E.Asked point) e = e ≡ O.Asked
IsEndOf names (E.EventLimit point) e = e ≡ O.EventLimit point
IsEndOf names (E.FixedStep component at end) e =
    (name : List ℕ) × (slice_get names.components component.0 ≡ Some name) ×
    (e ≡ O.FixedStep name at end)
IsEndOf names (E.Range lost at) e =
    (port : PortName) × (slice_get names.ports lost.port.0 ≡ Some port) × ((name : List ℕ) ×
    (slice_get names.components port.component.0 ≡ Some name) ×
    (e ≡ O.Range name port.name lost.value))
IsEndOf names (E.Bad bad) e =
    (name : List ℕ) × (slice_get names.components bad.component.0 ≡ Some name) × (e ≡ O.Bad name bad.why)
IsEndOf names (E.Held point) e = e ≡ O.Held point
IsEndOf names E.WriteFault e = e ≡ O.WriteFault
