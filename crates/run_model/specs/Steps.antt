-- Where a step from a point goes (FMI 3.0, 4.2.1.2: fmi3DoStep and early return; the attribute canHandleVariableCommunicationStepSize of CoSimulation).
use Rattle.std.specs.Prelude.{◌≡◌, ◌≢◌, ◌⊎◌, ℕ, ◌+◌, ◌-◌, ◌*◌, ◌<◌, ◌≤◌, min, Bool, true, not, ◌&&◌, ◌==◌, if◌then◌else◌, List, [], ◌∷◌, map, filter, All, Option, Some, slice_get}
use Rattle.std.specs.List.{position}
use Rattle.system_model.specs.declared.plan.Plan.{Plan}
use Rattle.run_model.specs.Run.{Timer}
use Rattle.run_model.specs.Timers.{TicksAt}

-- start + k * step
abbrev pub IsGridPoint : Plan → ℕ → Type 0
IsGridPoint plan point = (k : ℕ) × (point ≡ plan.start + k * plan.step)

-- some Clock ticks at the point
abbrev pub SomeTicksAt : ℕ → List Timer → ℕ → Type 0
SomeTicksAt start timers point =
    (p : ℕ) × (timer : Timer) × (slice_get timers p ≡ Some timer) × TicksAt start timer point

-- some component has its event time at the point
abbrev pub SomeEventAt : List (Option ℕ) → ℕ → Type 0
SomeEventAt events point = (i : ℕ) × (slice_get events i ≡ Some (Some point))

-- a point that no step passes over: a grid point, a tick of a Clock, an event time or the stop
pub data IsMark (plan : Plan) (timers : List Timer) (events : List (Option ℕ))
    (point : ℕ) : Type 0 where
  OnGrid : IsGridPoint plan point → IsMark plan timers events point
  AtTick : SomeTicksAt plan.start timers point → IsMark plan timers events point
  AtEvent : SomeEventAt events point → IsMark plan timers events point
  OnStop : point ≡ plan.stop → IsMark plan timers events point

-- the bound of the step from t: the least such point after t
pub record IsBound (plan : Plan) (timers : List Timer) (events : List (Option ℕ))
    (t bound : ℕ) : Type 0 where
  pub later : t < bound
  pub mark : IsMark plan timers events bound
  pub least : (point : ℕ) → t < point → IsMark plan timers events point → bound ≤ point

-- the least of the numbers, or d where there are none
abbrev pub least_or : ℕ → List ℕ → ℕ
least_or d [] = d
least_or d (x ∷ xs) = min x (least_or x xs)

-- an FMU at a point: whether it takes steps of any size, and where it ends when it is asked to step to a point
pub record Stepper : Type 0 where
  pub has_variable_steps : Bool
  pub end : ℕ → ℕ

-- ---- the askings

-- the least end of all that are asked to step to b
abbrev pub met : List Stepper → ℕ → ℕ
met fmus b = least_or b (map (λ (f : Stepper). f.end b) fmus)

-- whether it is one of the others, which passed m when they were asked b
abbrev pub is_other : ℕ → ℕ → Stepper → Bool
is_other b m f = not (f.end b == m)

abbrev pub others : List Stepper → ℕ → List Stepper
others fmus b = filter (is_other b (met fmus b)) fmus

-- the others, asked for the least end, meet there
abbrev pub OthersEnd : List Stepper → ℕ → Type 0
OthersEnd fmus b = All (λ (f : Stepper). f.end (met fmus b) ≡ met fmus b) (others fmus b)

-- where they don't, the least of their ends is the next bound
abbrev pub fallen_bound : List Stepper → ℕ → ℕ
fallen_bound fmus b = least_or b (map (λ (f : Stepper). f.end (met fmus b)) (others fmus b))

-- the ask that one keeps: b where it ended at m, and m otherwise
abbrev pub kept_ask : ℕ → ℕ → Stepper → ℕ
kept_ask b m f = if f.end b == m then b else m

-- ---- a size that an FMU can't take

-- of those that are to be asked to step from t to e, another size than the plan's step, the i-th FMU is the least that takes no other
pub record FixedStep (fmus : List Stepper) (is_asked : Stepper → Bool)
    (t step i e : ℕ) : Type 0 where
  pub other_size : e - t ≢ step
  pub least : position (λ (f : Stepper). is_asked f && not f.has_variable_steps) fmus ≡ Some i

-- all may be asked to step to b
abbrev pub MayAsk : List Stepper → ℕ → ℕ → ℕ → Type 0
MayAsk fmus t step b = (i : ℕ) → FixedStep fmus (λ f. true) t step i b → ⊥

-- the others may be asked for the least end
abbrev pub MayAskAgain : List Stepper → ℕ → ℕ → ℕ → Type 0
MayAskAgain fmus t step b =
    (i : ℕ) → FixedStep fmus (is_other b (met fmus b)) t step i (met fmus b) → ⊥

-- ---- the agreement

-- from the bound b the FMUs agree on a point, and each keeps an ask
pub data Agree (fmus : List Stepper) (t step : ℕ) : ℕ → List ℕ → ℕ → Type 0 where
  -- all end at the bound
  AllMeet : (b : ℕ) (kept : List ℕ) (point : ℕ) → MayAsk fmus t step b → met fmus b ≡ b →
      kept ≡ map (λ (f : Stepper). b) fmus → point ≡ b → Agree fmus t step b kept point
  -- some ended before it, and the others, asked for the least end, meet them there
  OthersMeet : (b : ℕ) (kept : List ℕ) (point : ℕ) → MayAsk fmus t step b → met fmus b ≢ b →
      MayAskAgain fmus t step b → OthersEnd fmus b →
      kept ≡ map (kept_ask b (met fmus b)) fmus → point ≡ met fmus b →
      Agree fmus t step b kept point
  -- one of the others ends earlier still: all begin anew with the least of their ends as the bound
  Falls : (b : ℕ) (kept : List ℕ) (point : ℕ) → MayAsk fmus t step b → met fmus b ≢ b →
      MayAskAgain fmus t step b → (OthersEnd fmus b → ⊥) →
      Agree fmus t step (fallen_bound fmus b) kept point → Agree fmus t step b kept point

-- on the way to the agreement from b the i-th FMU, the least, would be asked to step to e and can't: nothing more is asked
pub data StopsShort (fmus : List Stepper) (t step : ℕ) : ℕ → ℕ → ℕ → Type 0 where
  StopsFirst : (b i e : ℕ) → FixedStep fmus (λ f. true) t step i b → e ≡ b →
      StopsShort fmus t step b i e
  StopsAgain : (b i e : ℕ) → MayAsk fmus t step b → met fmus b ≢ b →
      FixedStep fmus (is_other b (met fmus b)) t step i (met fmus b) → e ≡ met fmus b →
      StopsShort fmus t step b i e
  StopsLater : (b i e : ℕ) → MayAsk fmus t step b → met fmus b ≢ b → MayAskAgain fmus t step b →
      (OthersEnd fmus b → ⊥) →
      StopsShort fmus t step (fallen_bound fmus b) i e → StopsShort fmus t step b i e

-- on the way to the agreement from b, the i-th FMU is asked to step to e: for the bound the FMUs are asked that come first, and where it is the least end each is; for a least end before it those that passed it
pub data IsAsked (fmus : List Stepper) (first : ℕ → Bool) (t step : ℕ) :
    ℕ → ℕ → ℕ → Type 0 where
  AskedFirst : (b i e : ℕ) → MayAsk fmus t step b → (first i ≡ true) ⊎ (met fmus b ≡ b) →
      e ≡ b → IsAsked fmus first t step b i e
  AskedAgain : (b i e : ℕ) → MayAsk fmus t step b → met fmus b ≢ b → MayAskAgain fmus t step b →
      (f : Stepper) → slice_get fmus i ≡ Some f → f.end b ≢ met fmus b → e ≡ met fmus b →
      IsAsked fmus first t step b i e
  AskedLater : (b i e : ℕ) → MayAsk fmus t step b → met fmus b ≢ b → MayAskAgain fmus t step b →
      (OthersEnd fmus b → ⊥) →
      IsAsked fmus first t step (fallen_bound fmus b) i e → IsAsked fmus first t step b i e
