-- What an agreed step comes to where each step of an FMU ends as a function of its bound says.
use Rattle.std.specs.Prelude.{◌≡◌, ℕ, ◌+◌, ◌<◌, Bool, true, false, List, map, All, Some, slice_get}
use Rattle.value_types.specs.declared.shape.Shape.{Shape}
use Rattle.fmi_calls.specs.declared.call.Call.TheVariants as C
use Rattle.fmu_peer.specs.declared.peer.Exchange.{Exchange}
use Rattle.run_model.specs.Steps.{Agree, Stepper, StopsShort}
use Rattle.slot_calls.specs.Log.{Sent, part}
use Rattle.step_agreement.specs.Agreement.{Agrees, Fails, Meets, Outcome, Stand, Unfit, are_at, end_by, stands_by}

-- an FMU at a step's beginning: its shape, and where it ends when it is asked to step to a point
pub record Fmu : Type 0 where
  pub shape : Shape
  pub end : ℕ → ℕ

abbrev pub stepper_of : Fmu → Stepper
stepper_of f = record { has_variable_steps = f.shape.has_variable_steps; end = f.end }

-- all stand at t, and were asked nothing
abbrev pub standing : ℕ → List Fmu → List Stand
standing t fmus = map (λ (f : Fmu). record { shape = f.shape; point = t; ask = t }) fmus

-- a step from t ends where the function says
abbrev pub EndsSo : ℕ → Fmu → Exchange → Type 0
EndsSo t f e =
    (size : ℕ) → e.call ≡ C.DoStep t size → end_by t e.result ≡ f.end (t + size)

-- each of these does
abbrev pub EndsAs : ℕ → Fmu → List Exchange → Type 0
EndsAs t f es = All (EndsSo t f) es

abbrev pub AreEnds : ℕ → List Fmu → List Sent → Type 0
AreEnds t fmus log = (i : ℕ) (f : Fmu) → slice_get fmus i ≡ Some f → EndsAs t f (part i log)

abbrev pub asks_in : List Stand → List ℕ
asks_in stands = map (λ (s : Stand). s.ask) stands

-- they stand so at last: they agree on the point where all stand, and each keeps the bound that it was asked last; or the step stops short
abbrev pub ResultAt : ℕ → ℕ → ℕ → List Fmu → List Stand → Outcome → Type 0
ResultAt t step b fmus lasts (Meets point) =
    Agree (map stepper_of fmus) t step b (asks_in lasts) point × (t < point) ×
    (are_at point lasts ≡ true)
ResultAt t step b fmus lasts (Unfit i e) = StopsShort (map stepper_of fmus) t step b i e
ResultAt t step b fmus lasts (Fails bad) = Unit {0}

-- the same after a log
abbrev pub ComesFrom : ℕ → ℕ → ℕ → List Fmu → List Stand → List Sent → Outcome → Type 0
ComesFrom t step b fmus stands log outcome =
    ResultAt t step b fmus (stands_by t stands log) outcome

-- ---- who comes first

-- all come first, or exactly one, and each that doesn't ends where it is asked to
pub data ComeFirst (first : Shape → Bool) (t : ℕ) (fmus : List Fmu) : Type 0 where
  AllOfThem :
      ((i : ℕ) (f : Fmu) → slice_get fmus i ≡ Some f → first f.shape ≡ true) →
      ComeFirst first t fmus
  OneAlone :
      ((i j : ℕ) (f g : Fmu) → slice_get fmus i ≡ Some f → slice_get fmus j ≡ Some g →
      first f.shape ≡ true → first g.shape ≡ true → i ≡ j) →
      ((i : ℕ) (f : Fmu) (e : ℕ) → slice_get fmus i ≡ Some f → first f.shape ≡ false → t < e →
      f.end e ≡ e) → ComeFirst first t fmus

-- the log of an agreed step tells the agreement
abbrev pub AgreesByLog : Type 0
AgreesByLog =
    (first : Shape → Bool) (t step b : ℕ) (fmus : List Fmu) (log : List Sent)
    (outcome : Outcome) → t < b → ComeFirst first t fmus →
    Agrees t step first b (standing t fmus) log outcome → AreEnds t fmus log →
    ComesFrom t step b fmus (standing t fmus) log outcome
