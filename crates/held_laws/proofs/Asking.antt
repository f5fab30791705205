-- No step of a run that behaves well asks for a point past the stop.
use Rattle.std.proofs.Common.{◌≡◌, ◌≢◌, ℕ, zero, suc, ◌<◌, ◌≤◌, ◌==◌, inl, Bool, true, false, not, List, [], ◌∷◌, Some, refl, sym, ap, ◌∙◌, subst, arith, filter, get_or, map, cond}
use Rattle.std.specs.Prelude.{if◌then◌else◌}
use Rattle.std.specs.List.{slice_get}
use Rattle.std.proofs.lemmas.Bool.{eq-eqb}
use Rattle.system_model.proofs.CallerLemmas.{true_false}
use Rattle.run_model.specs.Run.{Situation}
use Rattle.run_model.specs.Stepping.{kept_at, steppers}
use Rattle.run_model.specs.Steps.{Agree, AllMeet, AskedAgain, AskedFirst, AskedLater, Falls, MayAsk, MayAskAgain, OnStop, OthersMeet, Stepper, fallen_bound, is_other, kept_ask, least_or, met, others}
use Rattle.run_model.proofs.CallerLemmas.{situation_reached}
use Rattle.step_agreement.proofs.CallerLemmas.{EndWhereAsked, asked_later}
use Rattle.event_iteration.proofs.ByLog.{AreAll, updated_all}
use Rattle.machine_courses.proofs.StepCalls.{ends_where}
use Rattle.held_laws.specs.Laws.{AsksOn}

-- what each of some is at most
map_within : {A : Type 0} (b : ℕ) (h : A → ℕ) → ((x : A) → h x ≤ b) → (xs : List A) (i : ℕ) → get_or (map h xs) i 0 ≤ b
map_within b h all [] i = omega arith
map_within b h all (x ∷ xs) zero = all x
map_within b h all (x ∷ xs) (suc i) = map_within b h all xs i

-- the first that passes a test is one of them
record IsOne {A : Type 0} (test : A → Bool) (xs : List A) (x : A) : Type 0 where
  place : ℕ
  here : slice_get xs place ≡ Some x
  passes : test x ≡ true

first_passing : {A : Type 0} (test : A → Bool) (xs : List A) (x : A) (more : List A) → filter test xs ≡ x ∷ more → IsOne test xs x
first_passing test [] x more is = absurd (cc)
first_passing {A} test (y ∷ xs) x more is = by (test y) refl (first_passing test xs x more) is where
  first : A → List A → A
  first d [] = d
  first d (z ∷ zs) = z

  by : (b : Bool) → test y ≡ b → (filter test xs ≡ x ∷ more → IsOne test xs x) → cond b (y ∷ filter test xs) (filter test xs) ≡ x ∷ more → IsOne test (y ∷ xs) x
  by true passes later e = let same : y ≡ x = ap (first y) e in record { place = 0; here = ap Some same; passes = subst (λ (z : A). test z ≡ true) same passes }
  by false fails later e = let one = later e in record { place = suc one.place; here = one.here; passes = one.passes }

module _ (fmus : List Stepper) (t step : ℕ) where
  module _ (b : ℕ) (later : t < b) (well : EndWhereAsked fmus t step b) (may : MayAsk fmus t step b) where
    -- the least end is at most the bound
    met_most : met fmus b ≤ b
    met_most = by fmus refl where
      by : (fs : List Stepper) → fs ≡ fmus → met fs b ≤ b
      by [] is = omega arith
      by (f ∷ fs) is =
          let end = (well 0 b f (AskedFirst b 0 b may (inl refl) refl) later (ap (λ (l : List Stepper). slice_get l 0) (sym is))).1 in
          omega (arith, end)

    -- and so is the next one
    fallen_most : met fmus b ≢ b → MayAskAgain fmus t step b → fallen_bound fmus b ≤ b
    fallen_most apart again = by (others fmus b) refl where
      by : (fs : List Stepper) → others fmus b ≡ fs → least_or b (map (λ (f : Stepper). f.end (met fmus b)) fs) ≤ b
      by [] is = omega arith
      by (f ∷ fs) is =
          let m = met fmus b in
          let one = first_passing (is_other b m) fmus f fs is in
          let passed : f.end b ≢ m = λ e. true_false (sym one.passes ∙ ap not (eq-eqb (f.end b) m e)) in
          let asked = AskedAgain b one.place m may apart again f one.here passed refl in
          let end = (well one.place m f asked (asked_later fmus t step b one.place m asked later well) one.here).1 in
          let most = met_most in
          omega (arith, end, most)

  -- each ask that is kept is at most the bound
  asks_most : (b : ℕ) (kept : List ℕ) (point i : ℕ) → Agree fmus t step b kept point → t < b → EndWhereAsked fmus t step b → kept_at kept i ≤ b
  asks_most _ _ _ i (AllMeet b kept point may meets kept_is is) later well = subst (λ (l : List ℕ). kept_at l i ≤ b) (sym kept_is) (map_within b (λ (f : Stepper). b) (λ f. omega arith) fmus i)
  asks_most _ _ _ i (OthersMeet b kept point may apart again ended kept_is is) later well =
      subst (λ (l : List ℕ). kept_at l i ≤ b) (sym kept_is) (map_within b (kept_ask b (met fmus b)) (λ f. one (f.end b == met fmus b)) fmus i) where
        one : (x : Bool) → (if x then b else met fmus b) ≤ b
        one true = omega arith
        one false = met_most b later well may
  asks_most _ _ _ i (Falls b kept point may apart again never more) later well =
      let high = fallen_most b later well may apart again in
      let on = asks_most (fallen_bound fmus b) kept point i more (asked_later fmus t step b i (fallen_bound fmus b) (AskedLater b i (fallen_bound fmus b) may apart again never (AskedFirst (fallen_bound fmus b) i (fallen_bound fmus b) (may_ask more) (inl refl) refl)) later well)
      (λ j e f asked above at. well j e f (AskedLater b j e may apart again never asked) above at) in
      omega (arith, on, high) where
        may_ask : {b point : ℕ} {kept : List ℕ} → Agree fmus t step b kept point → MayAsk fmus t step b
        may_ask (AllMeet b kept point may meets kept_is is) = may
        may_ask (OthersMeet b kept point may apart again ended kept_is is) = may
        may_ask (Falls b kept point may apart again never more) = may

pub asks_on : AsksOn
asks_on r sound machines well z kept point i departed step =
    let s = departed.s in
    let all : AreAll r z.states = subst (λ (u : Situation). AreAll r u.states) (sym departed.is) (updated_all r machines s (situation_reached sound machines departed.reached) departed.values) in
    let most = asks_most (steppers r z) z.t r.plan.step step.bound kept point i step.agree step.is_bound.later (ends_where r sound machines well z all departed step.bound step.is_bound) in
    let stop : step.bound ≤ r.plan.stop = step.is_bound.least r.plan.stop step.before_stop (OnStop refl) in
    let early = step.before_stop in
    omega (arith, most, stop, early)
