-- Whose state is saved at the beginning of an agreed step, and that no other is put back (FMI 3.0, 2.2.6: FMU state; 4.2.1.2: early return).
use Rattle.std.specs.Prelude.{◌≡◌, ℕ, ◌<◌, nat_lt, Bool, List, All, Some, slice_get}
use Rattle.value_types.specs.declared.shape.Shape.{Shape}
use Rattle.fmi_calls.specs.declared.call.Call.TheVariants as C
use Rattle.system_model.specs.EarlyReturn.{early_count}
use Rattle.run_model.specs.Stepping.{asked_first}
use Rattle.slot_calls.specs.Log.{Sent}
use Rattle.step_agreement.specs.Agreement.{Agrees, Fails, Meets, Outcome, Stand, Unfit, shapes_in}

-- of this many that might return early, whether an FMU of this shape is saved: where two or more might, each is
abbrev pub is_saved : ℕ → Shape → Bool
is_saved early shape = nat_lt 1 early

-- no answer of it was bad
abbrev pub IsGoodOutcome : Outcome → Type 0
IsGoodOutcome (Meets point) = Unit {0}
IsGoodOutcome (Unfit i e) = Unit {0}
IsGoodOutcome (Fails bad) = ⊥

-- all stand at t
abbrev pub AreAllAt : ℕ → List Stand → Type 0
AreAllAt t stands = (i : ℕ) (s : Stand) → slice_get stands i ≡ Some s → s.point ≡ t

-- a call puts an FMU back only where two or more might return early, and so the state of each is saved
abbrev pub GoesBackSaved : List Stand → Sent → Type 0
GoesBackSaved stands s = s.exchange.call ≡ C.Restore → 1 < early_count (shapes_in stands)

-- so it is for each agreement from where all stand at t, whatever is answered
abbrev pub OnlySavedGoBack : Type 0
OnlySavedGoBack =
    (t step b : ℕ) (stands : List Stand) (log : List Sent) (outcome : Outcome) → t < b →
    AreAllAt t stands →
    Agrees t step (asked_first (early_count (shapes_in stands))) b stands log outcome →
    All (GoesBackSaved stands) log
