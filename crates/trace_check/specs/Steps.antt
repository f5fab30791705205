-- What the checking knows at each step: the constant Clocks of a system, the lines of one instant, and the first of these that breaks a rule.
use Rattle.std.specs.Prelude.{◌≡◌, ◌⊎◌, ℕ, ◌<◌, ◌≤◌, ◌^◌, ℤ, List, [], ◌∷◌, ◌++◌, Option, Some, length, slice_get, All, Contains}
use Rattle.system_model.specs.declared.system.System.{System}
use Rattle.system_model.specs.Text.{Instant}
use Rattle.trace_reading.specs.declared.trace.Trace.{Trace}
use Rattle.trace_reading.specs.declared.trace.TraceLine.{TraceLine}
use Rattle.trace_reading.specs.declared.trace.TraceLine.TheVariants.{At, Value}
use Rattle.trace_reading.specs.Form.{told_values_from}
use Rattle.trace_check.specs.declared.ticks.ConstantClock.{ConstantClock}
use Rattle.trace_check.specs.Instants.{lines_to}
use Rattle.system_model.specs.Values.{value}
use Rattle.trace_check.specs.Values.{DiffersFromSource}
use Rattle.trace_check.specs.Ticks.{IsConstantClock, IsOffTick}
use Rattle.trace_check.specs.Rules.{BreaksIn}

-- ---- constant Clocks

pub record IsWithinLimits (clock : ConstantClock) : Type 0 where
  pub moves : 0 < clock.interval
  pub interval : clock.interval ≤ 2 ^ 126
  pub shift : clock.shift ≤ 2 ^ 126

-- these are the constant Clocks of the system, each within the limits
pub record AreConstantClocks (system : System) (clocks : List ConstantClock) : Type 0 where
  pub each : All (λ (c : ConstantClock). IsConstantClock system c.port c.interval c.shift) clocks
  pub limits : All IsWithinLimits clocks
  pub all : (p interval shift : ℕ) → IsConstantClock system p interval shift →
      Contains clocks (record { port = p; interval = interval; shift = shift })

-- one of these is off its ticks
pub record IsAnyOff (clocks : List ConstantClock) (start : ℕ) (last : Option (ℕ × ℕ)) (t n : ℕ)
    (values : List (Option ℤ)) : Type 0 where
  pub place : ℕ
  pub clock : ConstantClock
  pub at : slice_get clocks place ≡ Some clock
  pub off : IsOffTick start clock.interval clock.shift last t n (value values clock.port)

-- ---- the lines of an instant

-- the lines begin with no value
abbrev pub BeginsNoValue : List TraceLine → Type 0
BeginsNoValue [] = Unit {0}
BeginsNoValue (At t n ∷ lines) = Unit {0}
BeginsNoValue (Value p v ∷ lines) = ⊥

-- the lines are those of values, of which there are so many, and of what comes after them
pub record BeginsWithValues (lines : List TraceLine) (ports : ℕ) (values : List (Option ℤ))
    (after : List TraceLine) : Type 0 where
  pub size : length values ≡ ports
  pub parts : lines ≡ told_values_from 0 values ++ after
  pub ends : BeginsNoValue after

-- ---- the first of them that breaks a rule

-- so many lines after the `at` line stands that of an input that hasn't what comes to it from its source
pub record IsOtherValue (system : System) (values : List (Option ℤ)) (lines : ℕ) : Type 0 where
  pub input : ℕ
  pub differs : DiffersFromSource system values input
  pub line : lines ≡ lines_to values input
  pub after : 0 < lines

pub record IsFirstIn (system : System) (t : Trace) (last : Option (ℕ × ℕ)) (i : Instant)
    (offset rule : ℕ) : Type 0 where
  pub breaks : BreaksIn system t last i offset rule
  pub least : (o r : ℕ) → BreaksIn system t last i o r → (offset < o) ⊎ ((offset ≡ o) × (rule ≤ r))
