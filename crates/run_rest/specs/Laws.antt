-- What holds of a run that is held and resumed.
use Rattle.std.specs.Prelude.{◌≡◌, ◌↔◌, ℕ, ◌≤◌, ◌<◌, Bool, true, List, ◌++◌, Some}
use Rattle.fmu_peer.specs.Machine.{MachineState, kept}
use Rattle.system_model.specs.Text.{Instant}
use Rattle.system_model.specs.declared.plan.EndKind.{EndKind}
use Rattle.system_model.specs.Sound.{IsSound}
use Rattle.run_model.specs.Run.{Run, Situation}
use Rattle.run_model.specs.Stepping.{Departs, IsStep, Next}
use Rattle.run_model.specs.Trace.{IsTrace}
use Rattle.run_model.specs.Machines.{AreMachines}
use Rattle.run_model.specs.Behaved.{Departed}
use Rattle.run_rest.specs.Parted.{DepartsFrom, at_step, ready}
use Rattle.run_rest.specs.Rest.{Rest}
use Rattle.run_rest.specs.Held.{Held, HeldAt}
use Rattle.run_rest.specs.Snapshot.{resumed, snapshot_of}
use Rattle.run_rest.specs.Packing.{IsReadBack, Packing, ReadsBack, packed, unpacked}
use Rattle.run_rest.specs.Lasting.{AsksWithin, LastsAt}

-- ---- a trace is its start and one rest

-- a step is EnterStep and what is done from Step Mode on
abbrev pub StepsInTwo : Type 0
StepsInTwo =
    (r : Run) (z : Situation) (next : Next) →
    (Departs r z next ↔ DepartsFrom r (at_step r z) (ready r (at_step r z)) next)

-- a trace that comes to a step is the instants before it and a rest
abbrev pub Splits : Type 0
Splits =
    (r : Run) → IsSound r.system → AreMachines r → (prefix is : List Instant) (k : EndKind) (p : ℕ)
    (z : Situation) → Held r prefix z → IsTrace r is k p →
    (rest : List Instant) × (is ≡ prefix ++ rest) × Rest r (at_step r z) rest k p

-- each rest makes them a trace
abbrev pub Joins : Type 0
Joins =
    (r : Run) → (prefix rest : List Instant) (k : EndKind) (p : ℕ) (z : Situation) →
    Held r prefix z → Rest r (at_step r z) rest k p → IsTrace r (prefix ++ rest) k p

-- and the rest is one
abbrev pub OneRest : Type 0
OneRest =
    (r : Run) → IsSound r.system → AreMachines r → (prefix is js : List Instant) (k l : EndKind)
    (p q : ℕ) (z : Situation) → Held r prefix z → Rest r (at_step r z) is k p →
    Rest r (at_step r z) js l q → (is ≡ js) × (k ≡ l) × (p ≡ q)

-- ---- where a run is held

-- each step of the run leads on, and not past the stop
abbrev pub StepsWithin : Run → Type 0
StepsWithin r = (z : Situation) (kept : List ℕ) (point : ℕ) → Departed r z →
    IsStep r z kept point → (z.t < point) × (point ≤ r.plan.stop)

-- a run is held in one way at most from a point on
abbrev pub HeldOnce : Type 0
HeldOnce =
    (r : Run) → IsSound r.system → AreMachines r → StepsWithin r → (at : ℕ) (is js : List Instant)
    (y z : Situation) → HeldAt r at is y → HeldAt r at js z → (is ≡ js) × (y ≡ z)

-- ---- where it is resumed

-- what is left of a run that is held is what is left of the one that is resumed with the snapshot
abbrev pub Resumes : Type 0
Resumes =
    (r : Run) → AreMachines r → StepsWithin r → (prefix rest : List Instant)
    (k : EndKind) (p : ℕ) (z : Situation) → Held r prefix z →
    (Rest r (at_step r z) rest k p ↔ Rest r (resumed r (snapshot_of r (at_step r z))) rest k p)

-- what a run that is resumed writes is what the run that was held writes after the instants before
abbrev pub Resumption : Type 0
Resumption =
    (r : Run) → IsSound r.system → AreMachines r → StepsWithin r → (prefix is js : List Instant)
    (k l : EndKind) (p q : ℕ) (z : Situation) → Held r prefix z → IsTrace r is k p →
    Rest r (resumed r (snapshot_of r (at_step r z))) js l q →
    (is ≡ prefix ++ js) × (k ≡ l) × (p ≡ q)

-- the states of the snapshot are those that their bytes are read back as
abbrev pub BytesReadBack : Type 0
BytesReadBack =
    (r : Run) → IsSound r.system → AreMachines r → (packings : List Packing) →
    ReadsBack r packings → (prefix : List Instant) (z : Situation) → Held r prefix z →
    unpacked packings (packed packings (snapshot_of r (at_step r z)).states) ≡
    Some (snapshot_of r (at_step r z)).states

-- a packing that reads back each state that passes a test reads back an FMU's states in a run where that test lasts after Initialization Mode, and steps ask for points up to the stop
abbrev pub LastingReadsBack : Type 0
LastingReadsBack =
    (r : Run) → IsSound r.system → AreMachines r → AsksWithin r → (i : ℕ) (packing : Packing)
    (early test : MachineState → Bool) → LastsAt r i early test →
    ((s : MachineState) → test s ≡ true →
    packing.unpack (packing.pack (kept s)) ≡ Some (kept s)) → IsReadBack r i packing
