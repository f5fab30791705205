-- Logs of told machines: each reply is the machine's, in the state after the exchanges before it.
use Rattle.std.specs.Prelude.{◌≡◌, ℕ, List, [], ◌∷◌, MatchResult}
use Rattle.fmu_peer.specs.declared.peer.Exchange.{Exchange}
use Rattle.fmu_peer.specs.Machine.{Machine, MachineState, after}
use Rattle.system_model.specs.declared.system.Component.{Component}
use Rattle.run_model.specs.Run.{IsFmu, Run, each}
use Rattle.slot_calls.specs.Log.{Sent, part}

-- ---- one machine

-- from this state on each reply is the machine's, up to a call that had none
abbrev pub RepliesBy : Machine → MachineState → List Exchange → Type 0
RepliesBy m s [] = Unit {0}
RepliesBy m s (e ∷ es) =
    MatchResult e.result (λ reply. (reply ≡ m.look s e.call) ×
    RepliesBy m (after m s e.call) es) (λ fault. Unit {0})

-- its state after exchanges
abbrev pub state_by : Machine → MachineState → List Exchange → MachineState
state_by m s [] = s
state_by m s (e ∷ es) = state_by m (after m s e.call) es

-- ---- several machines

-- the replies of each are its own
abbrev pub AreReplies : Run → List MachineState → List Sent → Type 0
AreReplies r ss log =
    (i : ℕ) (c : Component) (m : Machine) (s : MachineState) → IsFmu r ss i c m s →
    RepliesBy m s (part i log)

-- their states after a log
abbrev pub states_by : Run → List MachineState → List Sent → List MachineState
states_by r ss log = each r ss (λ i c m s. state_by m s (part i log))
