-- An agreed step of a run, with the states that are saved for it (FMI 3.0, 4.2.1.2: fmi3DoStep and early return; 2.2.6: fmi3GetFMUState, fmi3SetFMUState, fmi3FreeFMUState).
use Rattle.std.specs.Prelude.{◌≡◌, ℕ, suc, ◌-◌, ◌||◌, Bool, false, List, [], ◌∷◌, ◌++◌, map, Option, Some, None, Result, Ok, Err}
use Rattle.value_types.specs.declared.shape.Shape.{Shape}
use Rattle.fmi_calls.specs.declared.call.Call.{Call}
use Rattle.fmi_calls.specs.declared.call.Call.TheVariants as C
use Rattle.fmu_peer.specs.declared.slot.Slot.{Slot}
use Rattle.fmu_peer.specs.View.{View}
use Rattle.system_model.specs.EarlyReturn.{early_count}
use Rattle.run_model.specs.Stepping.{asked_first}
use Rattle.slot_calls.specs.Log.{ComponentCall, Sent, Told, part}
use Rattle.slot_calls.specs.Slots.{instances}
use Rattle.slot_calls.specs.Stage.{FailsIn, IsAnswered, shapes, to_those}
use Rattle.slot_calls.specs.declared.bad_answer.BadAnswer.{BadAnswer}
use Rattle.step_agreement.specs.Agreement as A
use Rattle.step_agreement.specs.Agreement.{Agrees, Fails, Meets, Stand, Unfit, unfit}
use Rattle.step_agreement.specs.OverMachines.{asks_last}
use Rattle.step_agreement.specs.Saving.{is_saved}
use Rattle.rollback.specs.declared.step_end.Agreed.{Agreed}
use Rattle.rollback.specs.declared.step_end.StepEnd.{StepEnd}
use Rattle.rollback.specs.declared.step_end.StepEnd.TheVariants.{Bad, FixedStep}

-- all stand at t, and were asked nothing
abbrev pub all_at : ℕ → List Shape → List Stand
all_at t shapes = map (λ (s : Shape). record { shape = s; point = t; ask = t }) shapes

-- a call to each FMU, where two or more might return early
abbrev pub to_saved : Call → List Shape → List ComponentCall
to_saved call shapes = to_those (is_saved (early_count shapes)) (λ shape. call) shapes

-- from the i-th component on, whether the answer to one's last step asks for the end of the run
abbrev pub some_ask_from : {A : Type 0} → ℕ → List A → List Sent → Bool
some_ask_from i [] log = false
some_ask_from i (x ∷ xs) log = asks_last false (part i log) || some_ask_from (suc i) xs log

-- the states were saved, this was the agreement, and what followed
pub record Saves (t step b : ℕ) (shapes : List Shape) (log : List Sent) (outcome : A.Outcome)
    (after : List Sent) : Type 0 where
  pub fits : unfit step (b - t) A.everyone (all_at t shapes) ≡ None
  pub saves : List Sent
  pub agreed : List Sent
  pub saved : IsAnswered shapes (to_saved C.Save shapes) saves
  pub agrees : Agrees t step (asked_first (early_count shapes)) b (all_at t shapes) agreed outcome
  pub log_is : log ≡ saves ++ (agreed ++ after)

-- a step from t to at most b: that each FMU takes its size is tested before anything is sent, then the states are saved, then it is agreed on the point that is reached, and then they are freed. In each of these the answers may be bad
pub data StepsBy (t step b : ℕ) (shapes : List Shape) (log : List Sent)
    (result : Result Agreed StepEnd) : Type 0 where
  Unfitted : (i : ℕ) → unfit step (b - t) A.everyone (all_at t shapes) ≡ Some i → log ≡ [] →
      result ≡ Err (FixedStep (record { 0 = i }) t b) → StepsBy t step b shapes log result
  SavesBadly : (bad : BadAnswer) → unfit step (b - t) A.everyone (all_at t shapes) ≡ None →
      FailsIn shapes (to_saved C.Save shapes) bad log → result ≡ Err (Bad bad) →
      StepsBy t step b shapes log result
  StopsShort : (i e : ℕ) → Saves t step b shapes log (Unfit i e) [] →
      result ≡ Err (FixedStep (record { 0 = i }) t e) → StepsBy t step b shapes log result
  StepsBadly : (bad : BadAnswer) → Saves t step b shapes log (Fails bad) [] →
      result ≡ Err (Bad bad) → StepsBy t step b shapes log result
  FreesBadly : (bad : BadAnswer) (m : ℕ) (frees : List Sent) →
      Saves t step b shapes log (Meets m) frees →
      FailsIn shapes (to_saved C.Free shapes) bad frees → result ≡ Err (Bad bad) →
      StepsBy t step b shapes log result
  Done : (m : ℕ) (frees : List Sent) (s : Saves t step b shapes log (Meets m) frees) →
      IsAnswered shapes (to_saved C.Free shapes) frees →
      result ≡ Ok (record { point = m; asked = some_ask_from 0 shapes s.agreed }) →
      StepsBy t step b shapes log result

-- what is told by a value, or where there is none by why the step isn't made
abbrev pub or_unmade : {T : Type 0} → Option T → StepEnd → Result T StepEnd
or_unmade (Some x) end = Ok x
or_unmade None end = Err end

-- what an agreed step made of the FMUs of slots
pub record StepsOver {L : Type 0} {g : _} (view : L → View) (t step b : ℕ)
    (olds news : List (Slot L g)) (result : Result Agreed StepEnd) : Type 0 where
  pub log : List Sent
  pub told : Told log (instances view olds) (instances view news)
  pub steps : StepsBy t step b (shapes (instances view olds)) log result
