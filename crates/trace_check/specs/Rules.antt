-- The rules that the trace of a run of a system keeps, and its first line that breaks one.
use Rattle.std.specs.Prelude.{◌≡◌, ◌≢◌, ◌⊎◌, ℕ, ◌+◌, ◌<◌, ◌≤◌, List, ◌∷◌, ◌++◌, Option, slice_get}
use Rattle.system_model.specs.Text.{Instant}
use Rattle.system_model.specs.declared.plan.EndKind.TheVariants.{Stop}
use Rattle.system_model.specs.declared.system.System.{System}
use Rattle.trace_reading.specs.declared.trace.Trace.{Trace}
use Rattle.trace_reading.specs.Written.{ports_told}
use Rattle.trace_check.specs.Instants.{AreInstantsOf, IsInOrder, ReachesPoint, end_line_number, last_time, line_after, lines_to}
use Rattle.system_model.specs.Values.{value}
use Rattle.trace_check.specs.Values.{DiffersFromSource}
use Rattle.trace_check.specs.Ticks.{IsConstantClock, IsOffTick}

-- the line so many after the `at` line of the instant breaks a rule; `last` is when the instant before it was
pub data BreaksIn (system : System) (t : Trace) (last : Option (ℕ × ℕ)) (i : Instant)
    (offset rule : ℕ) : Type 0 where
  -- 2: it stands out of order (FMI 3.0, 2.1.5: super-dense time)
  OutOfOrder : offset ≡ 0 → rule ≡ 2 → (IsInOrder t.start t.stop last i.t i.n → ⊥) →
      BreaksIn system t last i offset rule
  -- 3: the value of an input isn't what its path makes of its source's (SSP 1.0: connections)
  OffSource : (p : ℕ) → offset ≡ lines_to i.values p → rule ≡ 3 →
      DiffersFromSource system i.values p → BreaksIn system t last i offset rule
  -- 4: a constant Clock doesn't tick where it is due (FMI 3.0, 2.2.8: Clocks)
  OffTick : offset ≡ 0 → rule ≡ 4 → (p interval shift : ℕ) →
      IsConstantClock system p interval shift →
      IsOffTick t.start interval shift last i.t i.n (value i.values p) →
      BreaksIn system t last i offset rule

-- a run that ends at its stop ends there, after an instant there
pub record StopsAtStop (t : Trace) (instants : List Instant) : Type 0 where
  pub point : t.point ≡ t.stop
  pub reached : ReachesPoint t.stop instants

-- the line of the trace, by its number from 1 on, breaks the rule
pub data Breaks (system : System) (t : Trace) (line rule : ℕ) : Type 0 where
  -- 1: the line that is to tell the system's k-th port doesn't, or tells one that the system hasn't (SSP 1.0: components and connectors)
  AtPort : (k : ℕ) → line ≡ k + 2 → rule ≡ 1 →
      slice_get t.ports k ≢ slice_get (ports_told system) k → Breaks system t line rule
  -- 2 to 4: the line is one of an instant
  InInstant : (before after : List Instant) (i : Instant) (offset : ℕ) →
      AreInstantsOf t (before ++ (i ∷ after)) → line ≡ line_after t before + offset →
      BreaksIn system t (last_time before) i offset rule → Breaks system t line rule
  -- 2: it is the end line of a run to its stop, which ends elsewhere
  AtEnd : (instants : List Instant) → AreInstantsOf t instants → line ≡ end_line_number t →
      rule ≡ 2 → t.kind ≡ Stop → (StopsAtStop t instants → ⊥) → Breaks system t line rule

-- of the lines that break a rule it is the first, and of the rules that this line breaks the least
pub record IsFirst (system : System) (t : Trace) (line rule : ℕ) : Type 0 where
  pub breaks : Breaks system t line rule
  pub least : (l r : ℕ) → Breaks system t l r → (line < l) ⊎ ((line ≡ l) × (rule ≤ r))

abbrev pub KeepsRules : System → Trace → Type 0
KeepsRules system t = (line rule : ℕ) → Breaks system t line rule → ⊥
