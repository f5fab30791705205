-- Whether one of the last steps asks for the end, by the components of a run.
use Rattle.std.proofs.Common.{◌≡◌, ℕ, suc, Bool, false, List, [], ◌∷◌, refl, ap, arith, length, map}
use Rattle.std.specs.Prelude.{◌||◌}
use Rattle.std.specs.List.{list_any}
use Rattle.fmu_peer.specs.Machine.{Machine, MachineState}
use Rattle.system_model.specs.declared.system.Component.{Component}
use Rattle.run_model.specs.Run.{Run, each_from}
use Rattle.slot_calls.specs.Log.{Sent, part}
use Rattle.slot_calls.specs.Stage.{shapes_of}
use Rattle.step_agreement.specs.OverMachines.{asks_last, some_asks_last}
use Rattle.rollback.specs.StepsBy.{some_ask_from}

ask_from : (log : List Sent) (k : ℕ) (cs : List Component) (ms : List Machine) (ss : List MachineState) → length ms ≡ length cs → length ss ≡ length cs →
    list_any (λ b. b) (each_from (λ i c m s. asks_last false (part i log)) k cs ms ss) ≡ some_ask_from k (map (λ (c : Component). c.shape) cs) log
ask_from log k [] ms ss p q = refl
ask_from log k (c ∷ cs) [] ss p q = absurd (omega (arith, p))
ask_from log k (c ∷ cs) (m ∷ ms) [] p q = absurd (omega (arith, q))
ask_from log k (c ∷ cs) (m ∷ ms) (s ∷ ss) p q = ap (λ (b : Bool). asks_last false (part k log) || b) (ask_from log (suc k) cs ms ss (omega (arith, p)) (omega (arith, q)))

-- with a machine and a state for each component it is what the laws of machines speak of
pub some_ask_is : (r : Run) (ss : List MachineState) (log : List Sent) → length r.machines ≡ length r.system.components → length ss ≡ length r.system.components → some_asks_last r ss log ≡ some_ask_from 0 (shapes_of r.system) log
some_ask_is r ss log p q = ask_from log 0 r.system.components r.machines ss p q
