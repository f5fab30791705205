-- What the description of a built-in FMU and the values of its parameters say of its Clocks, where it can tell their intervals and shifts (FMI 3.0, 2.2.9: Clocks; 2.4.7: start; SSP 1.0: parameter bindings).
use Rattle.std.specs.Prelude.{◌≡◌, ℕ, ◌≤◌, ◌≤ℤ◌, ◌==◌, ℤ, pos, false, List, [], ◌∷◌, IsSomeAnd, if◌then◌else◌}
use Rattle.std.specs.Option.{option_map_or}
use Rattle.clock_fraction.specs.Counts.{IsCounts}
use Rattle.clock_fraction.specs.declared.fraction.Fraction.{Fraction}
use Rattle.value_types.specs.Shape.{is_at, is_input, timing_at, variable_at}
use Rattle.value_types.specs.declared.shape.IntervalVariability.TheVariants as T
use Rattle.value_types.specs.declared.shape.ClockTiming.{ClockTiming}
use Rattle.value_types.specs.declared.shape.Variable.{Variable}
use Rattle.value_types.specs.declared.shape.Shape.{Shape}
use Rattle.bench_fmus.specs.declared.model.Model.{Model}
use Rattle.bench_fmus.specs.declared.model.Model.TheVariants.{Counter, Gain, Sampler, Alarm, Timer, Relay, Settle, Pulse, Waker}
use Rattle.bench_fmus.specs.BuiltIn.{start_of}
use Rattle.bench_fmus.specs.Wrapping.{count_of}
use Rattle.system_model.specs.declared.bound.BoundValue.{BoundValue}
use Rattle.run_model.specs.AlwaysWell.{IsAskedForShift}

-- ---- the values of parameters

-- the value that the last of these bindings gives what has the reference, or else x
abbrev pub last_bound : ℕ → List BoundValue → ℤ → ℤ
last_bound reference [] x = x
last_bound reference (b ∷ bs) x =
    last_bound reference bs (if b.reference == reference then b.value else x)

-- the value of a variable that is no input, from Initialization Mode on: the one that it is bound to, or its start; 0 where no variable has the reference
abbrev pub value_set : Shape → List BoundValue → ℕ → ℤ
value_set shape bound reference =
    option_map_or (λ (v : Variable). last_bound reference bound (start_of v))
    (variable_at shape.variables reference) (pos 0)

-- a fraction of a second, by the counts under two references
abbrev pub fraction_set : Shape → List BoundValue → ℕ → ℕ → Fraction
fraction_set shape bound counter resolution = record {
  counter = count_of (value_set shape bound counter);
  resolution = count_of (value_set shape bound resolution);
}

-- the fraction of a second is a whole number of counts, and at least so many
pub record HasCounts (least : ℕ) (fraction : Fraction) (per_second : ℕ) : Type 0 where
  pub counts : ℕ
  pub whole : IsCounts fraction per_second counts
  pub enough : least ≤ counts

-- ---- the Clocks

-- the Clock under the reference is a countdown one
abbrev pub IsCountdown : Shape → ℕ → Type 0
IsCountdown shape reference =
    IsSomeAnd (timing_at shape.clocks reference) (λ (t : ClockTiming). t.variability ≡ T.Countdown)

-- it is one whose FMU is asked for its shift: a fixed one with supportsFraction, or a changing one
abbrev pub IsAsked : Shape → ℕ → Type 0
IsAsked shape reference = IsSomeAnd (timing_at shape.clocks reference) IsAskedForShift

abbrev pub IsNoInput : Shape → ℕ → Type 0
IsNoInput shape reference =
    is_at (λ (v : Variable). is_input v.causality) shape.variables reference ≡ false

-- no Clock is such a one, so the FMU is asked for no shift, and for intervals of countdown Clocks alone
abbrev pub AsksNone : Shape → Type 0
AsksNone shape = (reference : ℕ) → IsAsked shape reference → ⊥

-- the counts under 4 over those under 5, neither of them inputs, are a whole number of counts, and at least so many
pub record TellsInterval (least : ℕ) (shape : Shape) (bound : List BoundValue) : Type 0 where
  pub counter : IsNoInput shape 4
  pub resolution : IsNoInput shape 5
  pub counts : HasCounts least (fraction_set shape bound 4 5) shape.resolution

-- and so are those under 6, no input, over those under 5
pub record TellsShift (shape : Shape) (bound : List BoundValue) : Type 0 where
  pub counter : IsNoInput shape 6
  pub counts : HasCounts 0 (fraction_set shape bound 6 5) shape.resolution

-- a sampler's Clock is that under 1: no other is one whose shift is asked; as a countdown one it has an interval, and as such a one an interval of 1 count at least and a shift
pub record TellsSampling (shape : Shape) (bound : List BoundValue) : Type 0 where
  pub alone : (reference : ℕ) → IsAsked shape reference → reference ≡ 1
  pub countdown : IsCountdown shape 1 → TellsInterval 0 shape bound
  pub interval : IsAsked shape 1 → TellsInterval 1 shape bound
  pub shift : IsAsked shape 1 → TellsShift shape bound

-- so is a pulse's: where it is asked for, its first interval, the counts under 2, no input, is at least 1
pub record TellsPulses (shape : Shape) (bound : List BoundValue) : Type 0 where
  pub alone : (reference : ℕ) → IsAsked shape reference → reference ≡ 1
  pub first : IsAsked shape 1 → IsNoInput shape 2
  pub some : IsAsked shape 1 → pos 1 ≤ℤ value_set shape bound 2

-- the machine can tell what it is asked of the Clocks of this description with these bindings
abbrev pub TellsTimings : Model → Shape → List BoundValue → Type 0
TellsTimings Sampler shape bound = TellsSampling shape bound
TellsTimings Counter shape bound = AsksNone shape
TellsTimings Gain shape bound = AsksNone shape
TellsTimings Alarm shape bound = AsksNone shape
TellsTimings Timer shape bound = AsksNone shape
TellsTimings Relay shape bound = AsksNone shape
TellsTimings Settle shape bound = AsksNone shape
TellsTimings Pulse shape bound = TellsPulses shape bound
TellsTimings Waker shape bound = AsksNone shape

-- of a description without Clocks each can
abbrev pub TellsOfNoClocks : Type 0
TellsOfNoClocks =
    (model : Model) (shape : Shape) (bound : List BoundValue) → shape.clocks ≡ [] →
    TellsTimings model shape bound
