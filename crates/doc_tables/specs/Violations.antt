-- The first of the rules that the elements of a document break.
-- A document has a type of rules, each with its number, and a statement that an element breaks one
-- of them.
use Rattle.std.specs.Prelude.{ℕ, ◌<◌, Option, Some, None, nat_lt, if◌then◌else◌}

abbrev pub BreaksNoRule : {R : Type 0} → (R → ℕ → Type 0) → ℕ → Type 0
BreaksNoRule {R} Violates k = (rule : R) → Violates rule k → ⊥

-- the least number of a rule that the element breaks
pub record IsLeast {R : Type 0} (number : R → ℕ) (Violates : R → ℕ → Type 0) (k : ℕ) (rule : R)
    : Type 0 where
  pub broken : Violates rule k
  pub least : (other : R) → number other < number rule → Violates other k → ⊥

-- the first violation: at the first element that breaks a rule, the one of the least number
pub record IsFirstViolation {R : Type 0} (number : R → ℕ) (Violates : R → ℕ → Type 0) (k : ℕ)
    (rule : R) : Type 0 where
  pub is : IsLeast number Violates k rule
  pub first : (j : ℕ) (other : R) → j < k → Violates other j → ⊥

-- no element breaks a rule
abbrev pub HasNoViolation : {R : Type 0} → (R → ℕ → Type 0) → Type 0
HasNoViolation {R} Violates = (rule : R) (k : ℕ) → Violates rule k → ⊥

-- ---- how the first is found

-- the least of these elements, where there is one
abbrev pub FindsLeast : (ℕ → Type 0) → Option ℕ → Type 0
FindsLeast Is None = (k : ℕ) → Is k → ⊥
FindsLeast Is (Some first) = Is first × ((k : ℕ) → k < first → Is k → ⊥)

-- the violation at the lesser element; at one element the first
abbrev pub earlier_violation : {R : Type 0} → Option (ℕ × R) → Option ℕ → R → Option (ℕ × R)
earlier_violation one None rule = one
earlier_violation None (Some node) rule = Some (node, rule)
earlier_violation (Some one) (Some node) rule =
    if nat_lt node one.0 then Some (node, rule) else Some one
