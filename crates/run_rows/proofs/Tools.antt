-- Tools to show single traces: equations port by port, bounds timer by timer, and steps that all FMUs make whole.
use Rattle.std.proofs.Common.{◌≡◌, ℕ, zero, suc, ℤ, Bool, true, false, not, ◌&&◌, ◌||◌, nat_le, ◌<◌, ◌≤◌, ◌+◌, ◌*◌, List, [], ◌∷◌, length, map, refl, sym, ◌∙◌, subst, arith}
use Rattle.std.specs.Prelude.{Option, Some, None, slice_get}
use Rattle.std.specs.List.{position}
use Rattle.std.proofs.lemmas.Bool.Decides.{nat_tests}
use Rattle.std.proofs.lemmas.Option.{none-some as none_some, same_Some}
use Rattle.system_model.specs.declared.plan.Plan.{Plan}
use Rattle.system_model.specs.declared.system.Port.{Port}
use Rattle.run_model.specs.Run.{Run, Situation, Timer}
use Rattle.system_model.specs.Values.{value}
use Rattle.run_model.specs.Timers.{TicksAt}
use Rattle.run_model.specs.Equations.{Solves, SolvesAt}
use Rattle.run_model.specs.Initial.{SolvesInitially, initial_value}
use Rattle.run_model.specs.Steps.{IsBound, IsMark, OnGrid, AtTick, AtEvent, OnStop, Stepper, AllMeet, met}
use Rattle.run_model.specs.Stepping.{GoesOn, Departs, ByStep, asks_to_end, stepped, steppers}
use Rattle.run_rows.specs.Parts.{plan_by}
use Rattle.run_rows.proofs.Tests.{left, right}

-- ---- lists

abbrev pub ForEach : {X : Type 0} → (ℕ → X → Type 0) → ℕ → List X → Type 0
ForEach P k [] = Unit {0}
ForEach P k (x ∷ xs) = P k x × ForEach P (suc k) xs

each_at : {X : Type 0} (P : ℕ → X → Type 0) (xs : List X) (k p : ℕ) (x : X) → ForEach P k xs → slice_get xs p ≡ Some x → P (k + p) x
each_at P [] k p x all e = absurd (none_some _ e)
each_at P (y ∷ ys) k zero x all e = let same : k ≡ k + 0 = omega arith in subst (λ j. P j x) same (subst (λ z. P k z) (same_Some _ _ e) all.0)
each_at P (y ∷ ys) k (suc p) x all e = let same : suc k + p ≡ k + suc p = omega arith in subst (λ j. P j x) same (each_at P ys (suc k) p x all.1 e)

-- what holds at each place
pub at_place : {X : Type 0} (P : ℕ → X → Type 0) (xs : List X) (p : ℕ) (x : X) → ForEach P 0 xs → slice_get xs p ≡ Some x → P p x
at_place P xs p x all e = let same : 0 + p ≡ p = omega arith in subst (λ j. P j x) same (each_at P xs 0 p x all e)

-- ---- equations

abbrev pub SolvesEach : Run → Situation → List (Option ℤ) → Type 0
SolvesEach r s V = ForEach (λ p (port : Port). SolvesAt port.role r s V p port (value s.before p) (value V p)) 0 r.system.ports

pub solves_by : (r : Run) (s : Situation) (V : List (Option ℤ)) → length V ≡ length r.system.ports → SolvesEach r s V → Solves r s V
solves_by r s V places all = record {
  places = places;
  equations = λ p port e. at_place (λ q (x : Port). SolvesAt x.role r s V q x (value s.before q) (value V q)) r.system.ports p port all e;
}

abbrev pub SolvesEachInitially : Run → List (Option ℤ) → Type 0
SolvesEachInitially r W = ForEach (λ p (port : Port). value W p ≡ initial_value port.role r W p port) 0 r.system.ports

pub initially_by : (r : Run) (W : List (Option ℤ)) → length W ≡ length r.system.ports → SolvesEachInitially r W → SolvesInitially r W
initially_by r W places all = record {
  places = places;
  equations = λ p port e. at_place (λ q (x : Port). value W q ≡ initial_value x.role r W q x) r.system.ports p port all e;
}

-- ---- steps

-- no timer ticks between the points t and b
abbrev pub NoneBetween : ℕ → ℕ → List Timer → Type 0
NoneBetween t b timers = (point : ℕ) → t < point → ForEach (λ p timer. TicksAt 0 timer point → b ≤ point) 0 timers

-- no point of the grid lies between
abbrev pub NoGridBetween : ℕ → ℕ → ℕ → Type 0
NoGridBetween step t b = (k : ℕ) → t < 0 + k * step → b ≤ 0 + k * step

-- no event time does
abbrev pub no_event_between : ℕ → ℕ → List (Option ℕ) → Bool
no_event_between t b [] = true
no_event_between t b (None ∷ events) = no_event_between t b events
no_event_between t b (Some e ∷ events) = (nat_le e t || nat_le b e) && no_event_between t b events

event_later : (t b point : ℕ) (events : List (Option ℕ)) (i : ℕ) → no_event_between t b events ≡ true → t < point → slice_get events i ≡ Some (Some point) → b ≤ point
event_later t b point [] i none after at = absurd (none_some _ at)
event_later t b point (None ∷ events) zero none after at = absurd (none_some _ (same_Some _ _ at))
event_later t b point (None ∷ events) (suc i) none after at = event_later t b point events i none after at
event_later t b point (Some e ∷ events) zero none after at =
    let same : e ≡ point = same_Some _ _ (same_Some _ _ at) in
    let outside : (nat_le e t || nat_le b e) ≡ true = left (nat_le e t || nat_le b e) (no_event_between t b events) none in
    grind (arith, nat_tests, same, outside, after)
event_later t b point (Some e ∷ events) (suc i) none after at = event_later t b point events i (right (nat_le e t || nat_le b e) (no_event_between t b events) none) after at

-- where no component has an event time
pub bound_by : (step limit t b : ℕ) (timers : List Timer) → t < b → b ≤ 20 → IsMark (plan_by step limit) timers [] b → NoneBetween t b timers → NoGridBetween step t b → IsBound (plan_by step limit) timers [] t b
bound_by step limit t b timers later stop mark none grid = record { later = later; mark = mark; least = least }
  where
    least : (point : ℕ) → t < point → IsMark (plan_by step limit) timers [] point → b ≤ point
    least point after (AtEvent event) = absurd (none_some _ event.1)
    least point after (OnGrid g) = subst (λ x. b ≤ x) (sym g.1) (grid g.0 (subst (λ x. t < x) g.1 after))
    least point after (AtTick ticks) = at_place (λ q timer. TicksAt 0 timer point → b ≤ point) timers ticks.0 ticks.1 (none point after) ticks.2 ticks.3
    least point after (OnStop e) = subst (λ x. b ≤ x) (sym e) stop

-- and where none lies between
pub with_events : (plan : Plan) (timers : List Timer) (events : List (Option ℕ)) (t b : ℕ) → IsBound plan timers [] t b → no_event_between t b events ≡ true → IsBound plan timers events t b
with_events plan timers events t b is none = record { later = is.later; mark = mark b is.mark; least = least }
  where
    mark : (point : ℕ) → IsMark plan timers [] point → IsMark plan timers events point
    mark point (OnGrid g) = OnGrid g
    mark point (AtTick ticks) = AtTick ticks
    mark point (AtEvent event) = absurd (none_some _ event.1)
    mark point (OnStop e) = OnStop e

    least : (point : ℕ) → t < point → IsMark plan timers events point → b ≤ point
    least point after (OnGrid g) = is.least point after (OnGrid g)
    least point after (AtTick ticks) = is.least point after (AtTick ticks)
    least point after (AtEvent event) = event_later t b point events event.0 none after event.1
    least point after (OnStop e) = is.least point after (OnStop e)

-- an event time before any other point that is a bound
pub bound_at_event : (plan : Plan) (timers : List Timer) (events : List (Option ℕ)) (t b other i : ℕ) → t < b → b ≤ other → slice_get events i ≡ Some (Some b) → IsBound plan timers [] t other → no_event_between t b events ≡ true → IsBound plan timers events t b
bound_at_event plan timers events t b other i later before at is none = record { later = later; mark = AtEvent (i, at); least = least }
  where
    least : (point : ℕ) → t < point → IsMark plan timers events point → b ≤ point
    least point after (OnGrid g) = let l = is.least point after (OnGrid g) in omega (arith, l, before)
    least point after (AtTick ticks) = let l = is.least point after (AtTick ticks) in omega (arith, l, before)
    least point after (AtEvent event) = event_later t b point events event.0 none after event.1
    least point after (OnStop e) = let l = is.least point after (OnStop e) in omega (arith, l, before)

-- by steps of 10, where no timer ticks before
pub bound_10 : (limit : ℕ) (timers : List Timer) → NoneBetween 0 10 timers → IsBound (plan_by 10 limit) timers [] 0 10
bound_10 limit timers none = bound_by 10 limit 0 10 timers (omega arith) (omega arith) (OnGrid (1, refl)) none (λ k later. omega (arith, later))

pub bound_20 : (limit : ℕ) (timers : List Timer) → NoneBetween 10 20 timers → IsBound (plan_by 10 limit) timers [] 10 20
bound_20 limit timers none = bound_by 10 limit 10 20 timers (omega arith) (omega arith) (OnGrid (2, refl)) none (λ k later. omega (arith, later))

-- the asks, where all FMUs keep the first
abbrev pub all_asks : Run → Situation → ℕ → List ℕ
all_asks r s b = map (λ (f : Stepper). b) (steppers r s)

-- all FMUs take steps of any size, and end at the bound
pub departs_at : (r : Run) (s : Situation) (b : ℕ) → s.t < r.plan.stop → IsBound r.plan s.timers s.events s.t b →
    position (λ (f : Stepper). true && not f.has_variable_steps) (steppers r s) ≡ None → met (steppers r s) b ≡ b →
    asks_to_end r s (all_asks r s b) ≡ false → Departs r s (GoesOn (stepped r s (all_asks r s b) b))
departs_at r s b before bound free meets goes =
    ByStep _ (all_asks r s b) b
    (record { before_stop = before; bound = b; is_bound = bound; agree = AllMeet b _ b (λ i f. none_some _ (sym free ∙ f.least)) meets refl refl }) goes refl

-- likewise, where no event time lies before the bound
pub departs_by : (r : Run) (s : Situation) (b : ℕ) → s.t < r.plan.stop → IsBound r.plan s.timers [] s.t b → no_event_between s.t b s.events ≡ true →
    position (λ (f : Stepper). true && not f.has_variable_steps) (steppers r s) ≡ None → met (steppers r s) b ≡ b →
    asks_to_end r s (all_asks r s b) ≡ false → Departs r s (GoesOn (stepped r s (all_asks r s b) b))
departs_by r s b before bound none = departs_at r s b before (with_events r.plan s.timers s.events s.t b bound none)
