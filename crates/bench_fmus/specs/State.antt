-- A state of a built-in machine: its numbers, and the values under references.
use Rattle.std.specs.Prelude.{ℕ, ℤ, pos, ◌+ℤ◌, int_lt, Bool, List, [], ◌∷◌, slice_index_or, map, None, unwrap_or}
use Rattle.std.specs.Ordering.{int_eq}
use Rattle.clock_fraction.specs.declared.fraction.Fraction.{Fraction}
use Rattle.value_types.specs.declared.shape.Variable.{Variable}
use Rattle.fmu_peer.specs.Machine.{MachineState, value_at}
use Rattle.bench_fmus.specs.Wrapping.{count_of, wrapped_int64}

-- the mark of Initialization Mode, a value that is held, a count, the point of time, and whether what happens once has happened
pub record Numbers : Type 0 where
  pub mark : ℤ
  pub held : ℤ
  pub count : ℤ
  pub point : ℤ
  pub fired : ℤ

-- the numbers as a state has them
abbrev pub listed : Numbers → List ℤ
listed n = n.mark ∷ n.held ∷ n.count ∷ n.point ∷ n.fired ∷ []

-- the numbers that a state has; one that is missing is 0
abbrev pub numbers_in : List ℤ → Numbers
numbers_in xs = record {
  mark = slice_index_or xs 0 (pos 0);
  held = slice_index_or xs 1 (pos 0);
  count = slice_index_or xs 2 (pos 0);
  point = slice_index_or xs 3 (pos 0);
  fired = slice_index_or xs 4 (pos 0);
}

-- before the first call
abbrev pub at_first : Numbers
at_first = record { mark = pos 0; held = pos 0; count = pos 0; point = pos 0; fired = pos 0 }

-- the count goes on by one
abbrev pub one_more : Numbers → Numbers
one_more n = record n { count = wrapped_int64 (n.count +ℤ pos 1) }

-- the state is in Initialization Mode
abbrev pub is_in_initialization : Numbers → Bool
is_in_initialization n = int_lt (pos 0) n.mark

-- what happens once has happened
abbrev pub has_fired : Numbers → Bool
has_fired n = int_lt (pos 0) n.fired

-- a variable's first value
abbrev pub start_of : Variable → ℤ
start_of v = unwrap_or v.start (pos 0)

-- the value under a reference, or 0 where no variable has it
abbrev pub value_of : List Variable → List ℤ → ℕ → ℤ
value_of variables values reference = unwrap_or (value_at variables values reference) (pos 0)

-- the Clock under a reference is active
abbrev pub is_ticking : List Variable → List ℤ → ℕ → Bool
is_ticking variables values reference = int_eq (value_of variables values reference) (pos 1)

-- a fraction of a second, by the counts under two references
abbrev pub fraction_at : List Variable → List ℤ → ℕ → ℕ → Fraction
fraction_at variables values counter resolution = record {
  counter = count_of (value_of variables values counter);
  resolution = count_of (value_of variables values resolution);
}

-- what is told of no fraction: all of it is 0
abbrev pub no_fraction : Fraction
no_fraction = record { counter = 0; resolution = 0 }

-- the values as the references have them: of several variables with one reference each has the first one's
abbrev pub spread : List Variable → List ℤ → List ℤ
spread variables values = map (λ (v : Variable). value_of variables values v.reference) variables

-- the first state
abbrev pub first_state : List Variable → MachineState
first_state variables = record {
  numbers = listed at_first;
  values = spread variables (map start_of variables);
  slot = None;
}
