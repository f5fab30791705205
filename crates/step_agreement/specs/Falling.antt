-- In an agreed step the sizes of one FMU's steps fall, whatever is answered (FMI 3.0, 4.2.1.2: early return).
use Rattle.std.specs.Prelude.{◌≡◌, ℕ, ◌<◌, List, Some, None, slice_get}
use Rattle.fmu_peer.specs.Lean.{SizesFall}
use Rattle.system_model.specs.EarlyReturn.{early_count}
use Rattle.run_model.specs.Stepping.{asked_first}
use Rattle.slot_calls.specs.Log.{Sent, part}
use Rattle.step_agreement.specs.Agreement.{Agrees, Outcome, Stand, shapes_in}
use Rattle.step_agreement.specs.Saving.{AreAllAt}
use Rattle.fmu_peer.specs.Talk.{calls_in}

-- in each agreement from where all stand at t
abbrev pub SizesFallAlong : Type 0
SizesFallAlong =
    (t step b : ℕ) (stands : List Stand) (log : List Sent) (outcome : Outcome) → t < b →
    AreAllAt t stands →
    Agrees t step (asked_first (early_count (shapes_in stands))) b stands log outcome →
    (i : ℕ) (s : Stand) → slice_get stands i ≡ Some s → SizesFall None (calls_in (part i log))
