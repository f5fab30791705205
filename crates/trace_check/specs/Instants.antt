-- The instants that a trace tells, in super-dense time, and the numbers of their lines (FMI 3.0, 2.1.5: super-dense time).
use Rattle.std.specs.Prelude.{◌≡◌, ◌⊎◌, ℕ, ◌+◌, ◌-◌, ◌<◌, ◌≤◌, ℤ, if◌then◌else◌, List, Option, Some, None, length, take, count_by, is_some, slice_get}
use Rattle.std.specs.List.{AllByRecursion, flat_map}
use Rattle.std.specs.Option.{option_map}
use Rattle.system_model.specs.Text.{Instant}
use Rattle.trace_reading.specs.declared.trace.Trace.{Trace}
use Rattle.trace_reading.specs.Form.{IsInstant, instant_lines, kinds_of}
use Rattle.system_model.specs.Values.{value}

-- the trace's lines tell these instants
pub record AreInstantsOf (t : Trace) (instants : List Instant) : Type 0 where
  pub each : AllByRecursion (IsInstant (kinds_of t.ports)) instants
  pub lines : t.lines ≡ flat_map instant_lines instants

-- ---- lines, by their numbers from 1 on

-- the line after the header, the ports' lines and those of these instants
abbrev pub line_after : Trace → List Instant → ℕ
line_after t before = length t.ports + 2 + length (flat_map instant_lines before)

abbrev pub end_line_number : Trace → ℕ
end_line_number t = length t.ports + 2 + length t.lines

-- how many lines the line of a port stands after the `at` line, which is its place where it has no value
abbrev pub lines_to : List (Option ℤ) → ℕ → ℕ
lines_to values p = if is_some (value values p) then count_by is_some (take (p + 1) values) else 0

-- ---- their order

-- when the last of these instants is: its point, and its number there
abbrev pub last_time : List Instant → Option (ℕ × ℕ)
last_time instants =
    option_map (λ (i : Instant). (i.t, i.n)) (slice_get instants (length instants - 1))

-- the first instant of a run is at its start; after the m-th at s stands the next at s, or the first at a later point up to the stop
abbrev pub IsInOrder : ℕ → ℕ → Option (ℕ × ℕ) → ℕ → ℕ → Type 0
IsInOrder start stop None t n = (t ≡ start) × (n ≡ 0)
IsInOrder start stop (Some (s, m)) t n = ((t ≡ s) × (n ≡ m + 1)) ⊎ ((s < t) × (t ≤ stop) × (n ≡ 0))

-- one of these instants is at the point
pub record ReachesPoint (point : ℕ) (instants : List Instant) : Type 0 where
  pub place : ℕ
  pub instant : Instant
  pub at : slice_get instants place ≡ Some instant
  pub there : instant.t ≡ point
