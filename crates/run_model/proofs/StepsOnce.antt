-- A step from a point has one outcome.
use Rattle.std.proofs.Common.{◌≡◌, ℕ, ◌<◌, ◌≤◌, true, false, List, map, sym, ap, ◌∙◌, subst, arith}
use Rattle.std.specs.Prelude.{Option}
use Rattle.system_model.specs.declared.plan.Plan.{Plan}
use Rattle.run_model.specs.Run.{Run, Situation, Timer}
use Rattle.run_model.specs.Steps.{IsBound, Stepper, Agree, AllMeet, OthersMeet, Falls, StopsShort, StopsFirst, StopsAgain, StopsLater, FixedStep, OthersEnd, met, is_other, fallen_bound, kept_ask}
use Rattle.run_model.specs.Stepping.{Next, Ends, GoesOn, Departs, AtStop, WhereAsked, WhereFixed, ByStep, IsStep, LacksStep, asks_to_end, stepped}
use Rattle.system_model.specs.declared.plan.EndKind.TheVariants.{Asked}

pub bound_same : (plan : Plan) (timers : List Timer) (events : List (Option ℕ)) (t b c : ℕ) → IsBound plan timers events t b → IsBound plan timers events t c → b ≡ c
bound_same plan timers events t b c x y =
    let low : b ≤ c = x.least c y.later y.mark in
    let high : c ≤ b = y.least b x.later x.mark in
    omega arith

pub agree_same : {fmus : List Stepper} {t step b c : ℕ} {k l : List ℕ} {p q : ℕ} → Agree fmus t step b k p → Agree fmus t step c l q → b ≡ c → (k ≡ l) × (p ≡ q)
agree_same {fmus} (AllMeet b k p may m x y) (AllMeet c l q may2 n v w) e =
    (x ∙ ap (λ a. map (λ (f : Stepper). a) fmus) e ∙ sym v, y ∙ e ∙ sym w)
agree_same {fmus} (AllMeet b k p may m x y) (OthersMeet c l q may2 n again a v w) e = absurd (n (subst (λ a. met fmus a ≡ a) e m))
agree_same {fmus} (AllMeet b k p may m x y) (Falls c l q may2 n again a v) e = absurd (n (subst (λ a. met fmus a ≡ a) e m))
agree_same {fmus} (OthersMeet b k p may m again a x y) (AllMeet c l q may2 n v w) e = absurd (m (subst (λ a. met fmus a ≡ a) (sym e) n))
agree_same {fmus} (OthersMeet b k p may m again a x y) (OthersMeet c l q may2 n again2 d v w) e =
    (x ∙ ap (λ a. map (kept_ask a (met fmus a)) fmus) e ∙ sym v, y ∙ ap (met fmus) e ∙ sym w)
agree_same {fmus} (OthersMeet b k p may m again a x y) (Falls c l q may2 n again2 d v) e = absurd (d (subst (λ a. OthersEnd fmus a) e a))
agree_same {fmus} (Falls b k p may m again a x) (AllMeet c l q may2 n v w) e = absurd (m (subst (λ a. met fmus a ≡ a) (sym e) n))
agree_same {fmus} (Falls b k p may m again a x) (OthersMeet c l q may2 n again2 d v w) e = absurd (a (subst (λ a. OthersEnd fmus a) (sym e) d))
agree_same {fmus} (Falls b k p may m again a x) (Falls c l q may2 n again2 d v) e = agree_same x v (ap (fallen_bound fmus) e)

-- where the FMUs agree, none of them stops short
pub agree_or_stop : {fmus : List Stepper} {t step b c : ℕ} {k : List ℕ} {p i e : ℕ} → Agree fmus t step b k p → StopsShort fmus t step c i e → b ≡ c → ⊥
agree_or_stop {fmus} {t} {step} (AllMeet b k p may m x y) (StopsFirst c i e f w) s = may i (subst (λ a. FixedStep fmus (λ g. true) t step i a) (sym s) f)
agree_or_stop {fmus} {t} {step} (AllMeet b k p may m x y) (StopsAgain c i e may2 n f w) s = n (subst (λ a. met fmus a ≡ a) s m)
agree_or_stop {fmus} {t} {step} (AllMeet b k p may m x y) (StopsLater c i e may2 n again2 d v) s = n (subst (λ a. met fmus a ≡ a) s m)
agree_or_stop {fmus} {t} {step} (OthersMeet b k p may m again a x y) (StopsFirst c i e f w) s = may i (subst (λ a. FixedStep fmus (λ g. true) t step i a) (sym s) f)
agree_or_stop {fmus} {t} {step} (OthersMeet b k p may m again a x y) (StopsAgain c i e may2 n f w) s =
    again i (subst (λ a. FixedStep fmus (is_other a (met fmus a)) t step i (met fmus a)) (sym s) f)
agree_or_stop {fmus} {t} {step} (OthersMeet b k p may m again a x y) (StopsLater c i e may2 n again2 d v) s = d (subst (λ a. OthersEnd fmus a) s a)
agree_or_stop {fmus} {t} {step} (Falls b k p may m again a x) (StopsFirst c i e f w) s = may i (subst (λ a. FixedStep fmus (λ g. true) t step i a) (sym s) f)
agree_or_stop {fmus} {t} {step} (Falls b k p may m again a x) (StopsAgain c i e may2 n f w) s =
    again i (subst (λ a. FixedStep fmus (is_other a (met fmus a)) t step i (met fmus a)) (sym s) f)
agree_or_stop {fmus} {t} {step} (Falls b k p may m again a x) (StopsLater c i e may2 n again2 d v) s = agree_or_stop x v (ap (fallen_bound fmus) s)

pub step_same : (r : Run) (s : Situation) (k l : List ℕ) (p q : ℕ) → IsStep r s k p → IsStep r s l q → (k ≡ l) × (p ≡ q)
step_same r s k l p q x y = agree_same x.agree y.agree (bound_same r.plan s.timers s.events s.t x.bound y.bound x.is_bound y.is_bound)

-- a step is made or it isn't
step_or_none : (r : Run) (s : Situation) (k : List ℕ) (p i e : ℕ) → IsStep r s k p → LacksStep r s i e → ⊥
step_or_none r s k p i e x y = agree_or_stop x.agree y.stops (bound_same r.plan s.timers s.events s.t x.bound y.bound x.is_bound y.is_bound)

no_step_at_stop : (r : Run) (s : Situation) (k : List ℕ) (p : ℕ) → s.t ≡ r.plan.stop → IsStep r s k p → ⊥
no_step_at_stop r s k p at step = let early : s.t < r.plan.stop = step.before_stop in omega arith

no_lack_at_stop : (r : Run) (s : Situation) (i e : ℕ) → s.t ≡ r.plan.stop → LacksStep r s i e → ⊥
no_lack_at_stop r s i e at lacks = let early : s.t < r.plan.stop = lacks.before_stop in omega arith

-- one is told to end by a step and the other to go on
asks_both : (r : Run) (s : Situation) (k l : List ℕ) (p q : ℕ) → IsStep r s k p → IsStep r s l q → asks_to_end r s k ≡ true → asks_to_end r s l ≡ false → ⊥
asks_both r s k l p q x y asked goes =
    let same : k ≡ l = (step_same r s k l p q x y).0 in
    let here : asks_to_end r s l ≡ true = subst (λ (u : List ℕ). asks_to_end r s u ≡ true) same asked in
    cc

-- from a point that is done one thing follows
pub departs_same : {r : Run} {s : Situation} {x y : Next} → Departs r s x → Departs r s y → x ≡ y
departs_same {r} {s} (AtStop x at a) (AtStop y too b) = a ∙ sym b
departs_same {r} {s} (AtStop x at a) (WhereAsked y l q step asks b) = absurd (no_step_at_stop r s l q at step)
departs_same {r} {s} (AtStop x at a) (WhereFixed y i e lacks b) = absurd (no_lack_at_stop r s i e at lacks)
departs_same {r} {s} (AtStop x at a) (ByStep y l q step asks b) = absurd (no_step_at_stop r s l q at step)
departs_same {r} {s} (WhereAsked x k p step asks a) (AtStop y too b) = absurd (no_step_at_stop r s k p too step)
departs_same {r} {s} (WhereAsked x k p step asks a) (WhereAsked y l q step2 asks2 b) = a ∙ ap (λ u. Ends Asked u) (step_same r s k l p q step step2).1 ∙ sym b
departs_same {r} {s} (WhereAsked x k p step asks a) (WhereFixed y i e lacks b) = absurd (step_or_none r s k p i e step lacks)
departs_same {r} {s} (WhereAsked x k p step asks a) (ByStep y l q step2 asks2 b) = absurd (asks_both r s k l p q step step2 asks asks2)
departs_same {r} {s} (WhereFixed x i e lacks a) (AtStop y too b) = absurd (no_lack_at_stop r s i e too lacks)
departs_same {r} {s} (WhereFixed x i e lacks a) (WhereAsked y l q step asks b) = absurd (step_or_none r s l q i e step lacks)
departs_same {r} {s} (WhereFixed x i e lacks a) (WhereFixed y j f lacks2 b) = a ∙ sym b
departs_same {r} {s} (WhereFixed x i e lacks a) (ByStep y l q step asks b) = absurd (step_or_none r s l q i e step lacks)
departs_same {r} {s} (ByStep x k p step asks a) (AtStop y too b) = absurd (no_step_at_stop r s k p too step)
departs_same {r} {s} (ByStep x k p step asks a) (WhereAsked y l q step2 asks2 b) = absurd (asks_both r s l k q p step2 step asks2 asks)
departs_same {r} {s} (ByStep x k p step asks a) (WhereFixed y i e lacks b) = absurd (step_or_none r s k p i e step lacks)
departs_same {r} {s} (ByStep x k p step asks a) (ByStep y l q step2 asks2 b) =
    let same = step_same r s k l p q step step2 in
    a ∙ ap (λ u. GoesOn (stepped r s u p)) same.0 ∙ ap (λ u. GoesOn (stepped r s l u)) same.1 ∙ sym b
