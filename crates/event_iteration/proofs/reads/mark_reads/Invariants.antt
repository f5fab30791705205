use Rattle.std.proofs.Common.{◌≡◌, ◌<◌, ℕ, Bool, List, length, get_or, take}
use Rattle.std.specs.List.{list_any}
use Rattle.system_model.specs.declared.system.Port.{Port}
use Rattle.run_model.specs.Initial.{is_set_from}
use Rattle.event_iteration.proofs.reads.mark_reads.Given as goal

-- some of these ports are set from the output q
abbrev any_set : List Port → List Port → ℕ → Bool
any_set all ports q = list_any (λ (port : Port). is_set_from all port.role port q) ports

-- the flags of the first i ports are made
abbrev AreMarked : List Port → ℕ → List Bool → Type 0
AreMarked ports i flags = (q : ℕ) (d : Bool) → q < length flags → get_or flags q d ≡ any_set ports (take i ports) q

abbrev pub invariant-loop-port : goal.invariant-loop-port
invariant-loop-port l = AreMarked l.ports l.port-index l.flags
