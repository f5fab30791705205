-- The point that a step reaches: after the one where it begins, at most the stop, and no tick lies between.
use Rattle.std.proofs.Common.{◌≡◌, inl, ℕ, suc, ◌+◌, ◌-◌, ◌<◌, ◌≤◌, Bool, true, false, not, cond, List, [], ◌∷◌, map, filter, refl, sym, ap, ◌∙◌, subst, arith}
use Rattle.std.specs.Prelude.{Some, ◌==◌, if◌then◌else◌, slice_get}
use Rattle.std.specs.List.{AllByRecursion}
use Rattle.std.proofs.lemmas.Bool.{eq-eqb}
use Rattle.fmu_peer.specs.Machine.{Machine, MachineState}
use Rattle.system_model.specs.declared.system.Component.{Component}
use Rattle.system_model.proofs.CallerLemmas.{true_false}
use Rattle.run_model.specs.Run.{IsFmu, Run, Situation, Timer}
use Rattle.run_model.specs.Timers.{TicksAt}
use Rattle.run_model.specs.Steps.{Agree, AllMeet, AskedAgain, AskedFirst, AskedLater, AtTick, Falls, IsAsked, IsBound, MayAsk, MayAskAgain, OnStop, OthersMeet, Stepper, fallen_bound, is_other, least_or, met, others}
use Rattle.run_model.specs.Stepping.{IsStep, departing, end_in, ending, is_asked_first, step_to, steppers}
use Rattle.run_model.specs.Behaved.{BehavesInStep}
use Rattle.run_model.proofs.CallerLemmas.{asked_as_first, comes_first, each-get}
use Rattle.trace_laws.proofs.Replies.{IsBetween, step_end}

-- ---- the least of some numbers

least_between : (t b d : ℕ) (xs : List ℕ) → IsBetween t b d → AllByRecursion (IsBetween t b) xs → IsBetween t b (least_or d xs)
least_between t b d [] here all = here
least_between t b d (x ∷ xs) here all =
    let more = least_between t b x xs all.0 all.1 in
    (omega (arith, more.0, all.0.0), omega (arith, more.1, all.0.1))

each_end : (P : ℕ → Type 0) (end : Stepper → ℕ) (fmus : List Stepper) → ((i : ℕ) (f : Stepper) → slice_get fmus i ≡ Some f → P (end f)) → AllByRecursion P (map end fmus)
each_end P end [] h = tt
each_end P end (f ∷ fmus) h = (h 0 f refl, each_end P end fmus (λ i g at. h (suc i) g at))

passing_end : (P : ℕ → Type 0) (end : Stepper → ℕ) (test : Stepper → Bool) (fmus : List Stepper) → ((i : ℕ) (f : Stepper) → slice_get fmus i ≡ Some f → test f ≡ true → P (end f)) →
    AllByRecursion P (map end (filter test fmus))
passing_end P end test [] h = tt
passing_end P end test (f ∷ fmus) h =
    (elim (test f) as (λ b. test f ≡ b → AllByRecursion P (map end (cond b (f ∷ filter test fmus) (filter test fmus)))) [
      | true ↦ λ e. (h 0 f refl e, passing_end P end test fmus (λ i g at. h (suc i) g at))
      | false ↦ λ e. passing_end P end test fmus (λ i g at. h (suc i) g at)
    ]) refl

-- ---- the agreement

-- an FMU that is asked to step from t to a later point ends above t, and at most there
abbrev pub EndWell : List Stepper → ℕ → ℕ → ℕ → Type 0
EndWell fmus t step b = (i e : ℕ) (f : Stepper) → slice_get fmus i ≡ Some f → IsAsked fmus (λ k. true) t step b i e → t < e → IsBetween t e (f.end e)

met_between : (fmus : List Stepper) (t step b : ℕ) → EndWell fmus t step b → MayAsk fmus t step b → t < b → IsBetween t b (met fmus b)
met_between fmus t step b well may above =
    least_between t b b (map (λ (f : Stepper). f.end b) fmus) (above, omega arith)
    (each_end (IsBetween t b) (λ (f : Stepper). f.end b) fmus (λ i f at. well i b f at (AskedFirst b i b may (inl refl) refl) above))

is_apart : (x m : ℕ) → not (x == m) ≡ true → x ≡ m → ⊥
is_apart x m e same = true_false (sym e ∙ ap not (eq-eqb x m same))

fallen_between : (fmus : List Stepper) (t step b : ℕ) → EndWell fmus t step b → MayAsk fmus t step b → (met fmus b ≡ b → ⊥) → MayAskAgain fmus t step b → t < b → IsBetween t b (fallen_bound fmus b)
fallen_between fmus t step b well may unmet again above =
    let m : ℕ = met fmus b in
    let between : IsBetween t b m = met_between fmus t step b well may above in
    least_between t b b (map (λ (f : Stepper). f.end (met fmus b)) (others fmus b)) (above, omega arith)
    (passing_end (IsBetween t b) (λ (f : Stepper). f.end (met fmus b)) (is_other b (met fmus b)) fmus
    (λ i f at other.
    let asked = well i (met fmus b) f at (AskedAgain b i (met fmus b) may unmet again f at (is_apart (f.end b) (met fmus b) other) refl) between.0 in
    (asked.0, omega (arith, asked.1, between.1))))

agree_between : {fmus : List Stepper} {t step b : ℕ} {kept : List ℕ} {point : ℕ} → Agree fmus t step b kept point → EndWell fmus t step b → t < b → IsBetween t b point
agree_between {fmus} {t} {step} (AllMeet b kept point may meets k p) well above = subst (IsBetween t b) (sym p) (above, omega arith)
agree_between {fmus} {t} {step} (OthersMeet b kept point may unmet again all k p) well above = subst (IsBetween t b) (sym p) (met_between fmus t step b well may above)
agree_between {fmus} {t} {step} (Falls b kept point may unmet again falls agree) well above =
    let fallen : IsBetween t b (fallen_bound fmus b) = fallen_between fmus t step b well may unmet again above in
    let more : IsBetween t (fallen_bound fmus b) point = agree_between agree (λ i e f at asked. well i e f at (AskedLater b i e may unmet again falls asked)) fallen.0 in
    (more.0, omega (arith, more.1, fallen.1))

-- ---- the step of a run

-- the point is later than z's and at most the stop, and no timer ticks between
pub record IsReachedFrom (r : Run) (z : Situation) (point : ℕ) : Type 0 where
  pub later : z.t < point
  pub within : point ≤ r.plan.stop
  pub passes_none : (p tick : ℕ) (timer : Timer) → slice_get z.timers p ≡ Some timer → TicksAt r.plan.start timer tick → z.t < tick → point ≤ tick

module _ (r : Run) (z : Situation) (behave : (i : ℕ) → BehavesInStep r z i) where
  end_well : (bound : ℕ) → IsBound r.plan z.timers z.events z.t bound → EndWell (steppers r z) z.t r.plan.step bound
  end_well bound is i e f at asked above =
      let stepper : ℕ → Component → Machine → MachineState → Stepper = λ j c m state. record { has_variable_steps = c.shape.has_variable_steps; end = ending z.t c m state } in
      let fmu = each-get stepper 0 i r.system.components r.machines (departing r z) f at in
      ends_by fmu.component fmu.machine fmu.state (record { component = fmu.of_c; machine = fmu.of_m; state = fmu.of_s }) (ap (λ (g : Stepper). g.end e) fmu.is) fmu.component.shape.might_return_early refl where
        ends_by : (c : Component) (m : Machine) (s : MachineState) → IsFmu r (departing r z) i c m s → f.end e ≡ ending z.t c m s e → (x : Bool) → c.shape.might_return_early ≡ x → IsBetween z.t e (f.end e)
        ends_by c m s fmu same true might =
            let sent = asked_as_first (steppers r z) z.t r.plan.step (is_asked_first r) bound i e asked (comes_first r i c fmu.component (inl might)) in
            let good = ((behave i).asks bound e is sent above).0 c m s fmu in
            let whole : z.t + (e - z.t) ≡ e = omega (arith, above) in
            let ends = step_end c.shape z.t (e - z.t) (m.look s (step_to z.t e)) good in
            subst (IsBetween z.t e) (sym (same ∙ ap (λ (y : Bool). if y then end_in m s z.t e else e) might)) (subst (λ (x : ℕ). IsBetween z.t x (end_in m s z.t e)) whole ends)
        ends_by c m s fmu same false un = subst (IsBetween z.t e) (sym (same ∙ ap (λ (y : Bool). if y then end_in m s z.t e else e) un)) (above, omega arith)

  pub step_reaches : (kept : List ℕ) (point : ℕ) → IsStep r z kept point → IsReachedFrom r z point
  step_reaches kept point step =
      let between : IsBetween z.t step.bound point = agree_between step.agree (end_well step.bound step.is_bound) step.is_bound.later in
      let stop : step.bound ≤ r.plan.stop = step.is_bound.least r.plan.stop step.before_stop (OnStop refl) in
      record {
        later = between.0;
        within = omega (arith, between.1, stop);
        passes_none = λ p tick timer at ticks after.
            let low : step.bound ≤ tick = step.is_bound.least tick after (AtTick (p, timer, at, ticks)) in
            omega (arith, between.1, low);
      }
