-- The bound of a step is there: of the points after one, up to the stop, the least that no step passes over.
use Rattle.std.proofs.Common.{◌≡◌, ◌⊎◌, inl, inr, ℕ, zero, suc, ◌+◌, ◌-◌, ◌*◌, ◌<◌, ◌≤◌, List, [], ◌∷◌, Option, Some, None, refl, sym, ap, subst, arith}
use Rattle.std.proofs.lemmas.Bool.{cases_lt}
use Rattle.std.proofs.lemmas.Option.{none-some as none_some, same_Some}
use Rattle.clock_fraction.specs.Ticks.{IsTick}
use Rattle.system_model.specs.declared.plan.Plan.{Plan}
use Rattle.run_model.specs.Run.{Every, Never, Once, Run, Timer}
use Rattle.run_model.specs.Steps.{AtEvent, AtTick, IsBound, IsGridPoint, IsMark, OnGrid, OnStop, SomeEventAt, SomeTicksAt}
use Rattle.run_model.specs.Timers.{TicksAt}
use Rattle.run_model.proofs.CallerLemmas.{decided, same_number}

abbrev Known : Type 0 → Type 0
Known A = A ⊎ (A → ⊥)

-- ---- each mark is known

module _ (r : Run) where
  abbrev plan : Plan
  plan = r.plan

  tick_known : (interval shift point : ℕ) → Known (IsTick plan.start shift interval point)
  tick_known interval shift point = by (decided r (record { states = []; timers = Every interval shift ∷ []; events = []; t = point; n = 0; before = [] }) 0) where
    by : Known ((zero ≡ zero) × IsTick plan.start shift interval point) → Known (IsTick plan.start shift interval point)
    by (inl h) = inl h.1
    by (inr never) = inr (λ h. never (refl, h))

  ticks_known : (point : ℕ) (timer : Timer) → Known (TicksAt plan.start timer point)
  ticks_known point Never = inr (λ h. h)
  ticks_known point (Every interval shift) = tick_known interval shift point
  ticks_known point (Once armed) = same_number point armed

  some_known : (point : ℕ) (timers : List Timer) → Known (SomeTicksAt plan.start timers point)
  some_known point [] = inr (λ h. none_some h.1 h.2)
  some_known point (timer ∷ timers) = by (ticks_known point timer) (some_known point timers) where
    later : SomeTicksAt plan.start timers point → SomeTicksAt plan.start (timer ∷ timers) point
    later (p, other, at, ticks) = (suc p, other, at, ticks)

    none : (TicksAt plan.start timer point → ⊥) → (SomeTicksAt plan.start timers point → ⊥) → SomeTicksAt plan.start (timer ∷ timers) point → ⊥
    none first rest (zero, other, at, ticks) = first (subst (λ (x : Timer). TicksAt plan.start x point) (sym (same_Some timer other at)) ticks)
    none first rest (suc p, other, at, ticks) = rest (p, other, at, ticks)

    by : Known (TicksAt plan.start timer point) → Known (SomeTicksAt plan.start timers point) → Known (SomeTicksAt plan.start (timer ∷ timers) point)
    by (inl first) rest = inl (0, timer, refl, first)
    by (inr never) (inl rest) = inl (later rest)
    by (inr never) (inr rest) = inr (none never rest)

  -- a grid point is a tick at the plan's step
  grid_known : (point : ℕ) → Known (IsGridPoint plan point)
  grid_known point = by (tick_known plan.step 0 point) where
    by : Known (IsTick plan.start 0 plan.step point) → Known (IsGridPoint plan point)
    by (inl h) = inl (h.0, (let e : point ≡ plan.start + 0 + h.0 * plan.step = h.1 in omega (arith, e)))
    by (inr never) = inr (λ h. never (h.0, (let e : point ≡ plan.start + h.0 * plan.step = h.1 in omega (arith, e))))

  time_known : (point : ℕ) (event : Option ℕ) → Known (event ≡ Some point)
  time_known point None = inr (λ h. none_some point h)
  time_known point (Some time) = by (same_number time point) where
    by : Known (time ≡ point) → Known (Some time ≡ Some point)
    by (inl same) = inl (ap Some same)
    by (inr other) = inr (λ h. other (same_Some time point h))

  event_known : (point : ℕ) (events : List (Option ℕ)) → Known (SomeEventAt events point)
  event_known point [] = inr (λ h. none_some (Some point) h.1)
  event_known point (event ∷ events) = by (time_known point event) (event_known point events) where
    none : (event ≡ Some point → ⊥) → (SomeEventAt events point → ⊥) → SomeEventAt (event ∷ events) point → ⊥
    none first rest (zero, at) = first (same_Some event (Some point) at)
    none first rest (suc i, at) = rest (i, at)

    by : Known (event ≡ Some point) → Known (SomeEventAt events point) → Known (SomeEventAt (event ∷ events) point)
    by (inl first) rest = inl (0, ap Some first)
    by (inr never) (inl (i, at)) = inl (suc i, at)
    by (inr never) (inr rest) = inr (none never rest)

  mark_known : (timers : List Timer) (events : List (Option ℕ)) (point : ℕ) → Known (IsMark plan timers events point)
  mark_known timers events point = by (grid_known point) (some_known point timers) (event_known point events) (same_number point plan.stop) where
    none : (IsGridPoint plan point → ⊥) → (SomeTicksAt plan.start timers point → ⊥) → (SomeEventAt events point → ⊥) → (point ≡ plan.stop → ⊥) → IsMark plan timers events point → ⊥
    none grid tick event stop (OnGrid h) = grid h
    none grid tick event stop (AtTick h) = tick h
    none grid tick event stop (AtEvent h) = event h
    none grid tick event stop (OnStop h) = stop h

    by : Known (IsGridPoint plan point) → Known (SomeTicksAt plan.start timers point) → Known (SomeEventAt events point) → Known (point ≡ plan.stop) → Known (IsMark plan timers events point)
    by (inl h) tick event stop = inl (OnGrid h)
    by (inr grid) (inl h) event stop = inl (AtTick h)
    by (inr grid) (inr tick) (inl h) stop = inl (AtEvent h)
    by (inr grid) (inr tick) (inr event) (inl h) = inl (OnStop h)
    by (inr grid) (inr tick) (inr event) (inr stop) = inr (none grid tick event stop)

-- ---- the least

module _ (r : Run) (timers : List Timer) (events : List (Option ℕ)) (t : ℕ) where
  -- none up to the point
  abbrev NoneTo : ℕ → Type 0
  NoneTo from = (point : ℕ) → t < point → point ≤ from → IsMark r.plan timers events point → ⊥

  next_none : (from : ℕ) → NoneTo from → (IsMark r.plan timers events (suc from) → ⊥) → NoneTo (suc from)
  next_none from none here point later within mark = by (cases_lt from point) where
    by : (from < point) ⊎ (point ≤ from) → ⊥
    by (inl above) = let same : point ≡ suc from = omega (arith, above, within) in here (subst (IsMark r.plan timers events) same mark)
    by (inr below) = none point later below mark

  least_from : (left from : ℕ) → t ≤ from → from + left ≡ r.plan.stop → 0 < left → NoneTo from → (b : ℕ) × IsBound r.plan timers events t b
  least_from zero from begun end some none = absurd (omega (arith, some))
  least_from (suc left) from begun end some none = by (mark_known r timers events (suc from)) (λ later more. least_from left (suc from) (omega (arith, begun)) (omega (arith, end)) later more) where
    above : (point : ℕ) → t < point → IsMark r.plan timers events point → (from < point) ⊎ (point ≤ from) → suc from ≤ point
    above point later is (inl far) = omega (arith, far)
    above point later is (inr near) = absurd (none point later near is)

    more : (IsMark r.plan timers events (suc from) → ⊥) → (k : ℕ) → left ≡ k → 0 < left
    more never zero is = let last : suc from ≡ r.plan.stop = omega (arith, is, end) in absurd (never (OnStop last))
    more never (suc k) is = omega (arith, is)

    by : Known (IsMark r.plan timers events (suc from)) → (0 < left → NoneTo (suc from) → (b : ℕ) × IsBound r.plan timers events t b) → (b : ℕ) × IsBound r.plan timers events t b
    by (inl mark) further = (suc from, record { later = omega (arith, begun); mark = mark; least = λ point later is. above point later is (cases_lt from point) })
    by (inr never) further = further (more never left refl) (next_none from none never)

-- from a point before the stop a step has a bound
pub bound_exists : (r : Run) (timers : List Timer) (events : List (Option ℕ)) (t : ℕ) → t < r.plan.stop → (b : ℕ) × IsBound r.plan timers events t b
bound_exists r timers events t before =
    least_from r timers events t (r.plan.stop - t) t (omega arith) (omega (arith, before)) (omega (arith, before)) (λ point later within mark. absurd (omega (arith, later, within)))
