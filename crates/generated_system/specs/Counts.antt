-- How many exchanges and Restore calls a talk has, as the phase after it counts them (FMI 3.0, 4.2.1: states and functions; 2.2.6: fmi3SetFMUState). Both counts stay at their last value.
use Rattle.std.specs.Prelude.{◌≡◌, ◌-◌, ◌^◌, Bool, true, false, List, length, min, count_by}
use Rattle.fmi_calls.specs.declared.call.Call.{Call}
use Rattle.fmi_calls.specs.declared.call.Call.TheVariants.{Restore}
use Rattle.fmi_calls.specs.declared.phase.Phase.{Phase}
use Rattle.fmu_peer.specs.declared.peer.Exchange.{Exchange}

abbrev pub is_restore : Call → Bool
is_restore Restore = true
is_restore _ = false

-- the phase has the numbers of a talk
pub record IsCounted (phase : Phase) (talk : List Exchange) : Type 0 where
  pub exchanges : phase.exchanges ≡ min (length talk) (2 ^ 64 - 1)
  pub restores : phase.restores ≡
      min (count_by (λ (e : Exchange). is_restore e.call) talk) (2 ^ 64 - 1)
