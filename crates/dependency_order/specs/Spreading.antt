-- How what is reached spreads along links.
use Rattle.std.specs.Prelude.{◌≡◌, ◌⊎◌, ℕ, ◌+◌, ◌*◌, ◌<◌, ◌≤◌, Bool, List, length, Contains, count_by, Option, Some, None}
use Rattle.std.specs.Option.{is_none}
use Rattle.dependency_order.specs.Paths.{IsMarked, at}

-- what it does to reach nodes from a start, one after another
pub record Spreads (through : List Bool) (from : ℕ) (nodes : List ℕ) (old new : List (Option ℕ))
    (left more : List ℕ) : Type 0 where
  pub same_length : length new ≡ length old
  pub reached : (x : ℕ) → Contains nodes x → x < length old → at new x ≡ None → ⊥
  pub kept : (x s : ℕ) → at old x ≡ Some s → at new x ≡ Some s
  pub no_other : (x s : ℕ) → at new x ≡ Some s → (at old x ≡ Some s) ⊎
      ((at old x ≡ None) × (s ≡ from) × Contains nodes x)
  pub told : (x s : ℕ) → at new x ≡ Some s → IsMarked through x →
      (at old x ≡ Some s) ⊎ Contains more x
  pub left_kept : (x : ℕ) → Contains left x → Contains more x
  pub left_only : (x : ℕ) → Contains more x → Contains left x ⊎
      (IsMarked through x × (at new x ≡ Some from))
  pub less : 2 * count_by is_none new + length more ≤ 2 * count_by is_none old + length left
