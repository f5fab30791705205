-- Orders in which each element stands after what it needs.
use Rattle.std.specs.Prelude.{◌≡◌, ℕ, List, ◌∷◌, ◌++◌, Contains}

-- an order of certain elements: all of them and no others, each once and after all that it needs
pub record IsOrder (IsAmong : ℕ → Type 0) (NeedsOf : ℕ → ℕ → Type 0) (order : List ℕ) : Type 0 where
  pub each : (p : ℕ) → IsAmong p → Contains order p
  pub only : (p : ℕ) → Contains order p → IsAmong p
  pub once : (before later : List ℕ) (p : ℕ) → order ≡ before ++ p ∷ later → Contains before p → ⊥
  pub after : (before later : List ℕ) (p q : ℕ) → order ≡ before ++ p ∷ later →
      NeedsOf p q → Contains before q
