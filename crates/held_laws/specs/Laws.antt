-- Runs of FMUs that behave well, held and resumed.
use Rattle.std.specs.Prelude.{◌≡◌, ℕ, List, ◌++◌, Some}
use Rattle.system_model.specs.Sound.{IsSound}
use Rattle.system_model.specs.Text.{Instant}
use Rattle.system_model.specs.declared.plan.EndKind.{EndKind}
use Rattle.run_model.specs.Behaved.{WellBehaved}
use Rattle.run_model.specs.Machines.{AreMachines}
use Rattle.run_model.specs.Run.{Run, Situation}
use Rattle.run_model.specs.Trace.{IsTrace}
use Rattle.run_rest.specs.Held.{Held}
use Rattle.run_rest.specs.Lasting.{AsksWithin}
use Rattle.run_rest.specs.Laws.{StepsWithin}
use Rattle.run_rest.specs.Packing.{Packing, ReadsBack, packed, unpacked}
use Rattle.run_rest.specs.Parted.{at_step}
use Rattle.run_rest.specs.Rest.{Rest}
use Rattle.run_rest.specs.Snapshot.{Snapshot, resumed, snapshot_of}

-- each step leads on, and not past the stop
abbrev pub StepsOn : Type 0
StepsOn = (r : Run) → WellBehaved r → StepsWithin r

-- and no step asks an FMU for a point past the stop
abbrev pub AsksOn : Type 0
AsksOn = (r : Run) → IsSound r.system → AreMachines r → WellBehaved r → AsksWithin r

-- the snapshot with its states as they are read back from their bytes
pub record IsReadFrom (packings : List Packing) (kept read : Snapshot) : Type 0 where
  pub states : unpacked packings (packed packings kept.states) ≡ Some read.states
  pub others : read ≡ record kept { states = read.states }

-- where the states are read back from their bytes, what the resumed run writes is what the run that was held writes after the instants before
abbrev pub ResumesFromBytes : Type 0
ResumesFromBytes =
    (r : Run) → IsSound r.system → AreMachines r → WellBehaved r → (packings : List Packing) →
    ReadsBack r packings → (prefix is js : List Instant) (k l : EndKind) (p q : ℕ)
    (z : Situation) (read : Snapshot) → Held r prefix z → IsTrace r is k p →
    IsReadFrom packings (snapshot_of r (at_step r z)) read → Rest r (resumed r read) js l q →
    (is ≡ prefix ++ js) × (k ≡ l) × (p ≡ q)
