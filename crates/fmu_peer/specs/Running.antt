-- An FMU after Initialization Mode.
use Rattle.fmi_calls.specs.declared.phase.InstanceState.{InstanceState}
use Rattle.fmi_calls.specs.declared.phase.InstanceState.TheVariants as P
use Rattle.fmu_peer.specs.declared.running.Running.{Running}
use Rattle.fmu_peer.specs.declared.running.Running.TheVariants.{Event, Step}

-- the state that it stands for
abbrev pub running_mode : {L : Type 0} {g : _} → Running L g → InstanceState
running_mode (Event fmu) = P.Event
running_mode (Step fmu) = P.Step

-- its peer
abbrev pub peer_of : {L : Type 0} {g : _} → Running L g → L
peer_of (Event fmu) = fmu.peer
peer_of (Step fmu) = fmu.peer
