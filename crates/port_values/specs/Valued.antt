-- Which ports have a value in an instant (FMI 3.0, 2.1.5: super-dense time; 2.2.8: a clocked variable has none before the first tick of its Clocks).
use Rattle.std.specs.Prelude.{◌≡◌, ℕ, ℤ, ◌+◌, ◌≤◌, Bool, false, List, [], ◌∷◌, Option, Some, None, length, map, take}

-- those that have a value, with it; their numbers go on from k
abbrev pub valued_from : ℕ → List (Option ℤ) → List (ℕ × ℤ)
valued_from k [] = []
valued_from k (None ∷ values) = valued_from (k + 1) values
valued_from k (Some value ∷ values) = (k, value) ∷ valued_from (k + 1) values

abbrev pub valued : List (Option ℤ) → List (ℕ × ℤ)
valued values = valued_from 0 values

-- their numbers alone
abbrev pub valued_ports : List (Option ℤ) → List ℕ
valued_ports values = map (λ (e : ℕ × ℤ). e.0) (valued values)

-- the first places hold the ports that have a value, unless they are stale
pub record KnowsValued (values : List (Option ℤ)) (there : List ℕ) (count : ℕ)
    (is_stale : Bool) : Type 0 where
  pub room : length there ≡ length values
  pub within : count ≤ length there
  pub known : is_stale ≡ false → take count there ≡ valued_ports values
