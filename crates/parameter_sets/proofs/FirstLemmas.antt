-- The first violation, one rule after another in the order of their numbers.
use Rattle.std.proofs.Common.{◌≡◌, ◌⊎◌, ℕ, ◌+◌, ◌<◌, ◌≤◌, ◌==◌, Bool, true, false, nat_lt, if◌then◌else◌, Option, Some, None, MatchOption, refl, sym, ap, ◌∙◌, subst, inl, inr, arith}
use Rattle.std.proofs.lemmas.Bool.{cases_lt, cases_order, ltb-false, ltb-true}
use Rattle.doc_tree.specs.declared.rule.ParameterRule.{ParameterRule}
use Rattle.doc_tree.specs.declared.rule.ParameterRule.TheVariants as r
use Rattle.doc_tree.specs.Rules.{parameter_number}
use Rattle.doc_tables.specs.Violations.{FindsLeast, IsFirstViolation, HasNoViolation, earlier_violation}
use Rattle.doc_tables.proofs.CallerLemmas.{AreApart}
use Rattle.parameter_sets.specs.Least.{Breach}

-- ---- numbers

-- the rule that has a number
rule_at : ℕ → ParameterRule
rule_at n =
    if n == 50 then r.Structure
    else (if n == 51 then r.Incomplete
    else (if n == 52 then r.OtherClass else (if n == 53 then r.OutOfRange else (if n == 54 then r.Transformation else (if n == 55 then r.NoMapEntry else r.NamesTwo)))))

told : (rule : ParameterRule) → rule_at (parameter_number rule) ≡ rule
unfolding rule_at
told r.Structure = refl
told r.Incomplete = refl
told r.OtherClass = refl
told r.OutOfRange = refl
told r.Transformation = refl
told r.NoMapEntry = refl
told r.NamesTwo = refl

pub rules_apart : AreApart parameter_number
rules_apart one other e = sym (told one) ∙ ap rule_at e ∙ told other

pub from_50 : (rule : ParameterRule) → 50 ≤ parameter_number rule
from_50 r.Structure = omega arith
from_50 r.Incomplete = omega arith
from_50 r.OtherClass = omega arith
from_50 r.OutOfRange = omega arith
from_50 r.Transformation = omega arith
from_50 r.NoMapEntry = omega arith
from_50 r.NamesTwo = omega arith

pub to_56 : (rule : ParameterRule) → parameter_number rule < 57
to_56 r.Structure = omega arith
to_56 r.Incomplete = omega arith
to_56 r.OtherClass = omega arith
to_56 r.OutOfRange = omega arith
to_56 r.Transformation = omega arith
to_56 r.NoMapEntry = omega arith
to_56 r.NamesTwo = omega arith

module _ (V : ParameterRule → ℕ → Type 0) where
  -- the first violation of the rules below a number
  pub record IsFirstBelow (n k : ℕ) (rule : ParameterRule) : Type 0 where
    pub broken : V rule k
    pub least : (other : ParameterRule) → parameter_number other < parameter_number rule → V other k → ⊥
    pub first : (j : ℕ) (other : ParameterRule) → j < k → parameter_number other < n → V other j → ⊥

  abbrev pub FindsFirst : ℕ → Option Breach → Type 0
  FindsFirst n None = (rule : ParameterRule) (k : ℕ) → parameter_number rule < n → V rule k → ⊥
  FindsFirst n (Some breach) = IsFirstBelow n breach.0 breach.1

  pub none_yet : FindsFirst 50 None
  none_yet rule k low broken = let high = from_50 rule in absurd (omega (arith, low, high))

  -- rules that no element breaks
  pub skip : (n m : ℕ) (o : Option Breach) → FindsFirst n o → ((rule : ParameterRule) (k : ℕ) → n ≤ parameter_number rule → parameter_number rule < m → V rule k → ⊥) → FindsFirst m o
  skip n m None h none = λ rule k low broken. at rule k low broken (cases_lt (parameter_number rule) n)
    where
      at : (rule : ParameterRule) (k : ℕ) → parameter_number rule < m → V rule k → (parameter_number rule < n) ⊎ (n ≤ parameter_number rule) → ⊥
      at rule k low broken (inl before) = h rule k before broken
      at rule k low broken (inr after) = none rule k after low broken
  skip n m (Some breach) h none = record { broken = h.broken; least = h.least; first = λ j rule lower low broken. at j rule lower low broken (cases_lt (parameter_number rule) n) }
    where
      at : (j : ℕ) (rule : ParameterRule) → j < breach.0 → parameter_number rule < m → V rule j → (parameter_number rule < n) ⊎ (n ≤ parameter_number rule) → ⊥
      at j rule lower low broken (inl before) = h.first j rule lower before broken
      at j rule lower low broken (inr after) = none rule j after low broken

  -- a rule more
  below_or : (rule other : ParameterRule) → parameter_number other < parameter_number rule + 1 → (parameter_number other < parameter_number rule) ⊎ (other ≡ rule)
  below_or rule other low = at (cases_order (parameter_number other) (parameter_number rule))
    where
      at : (parameter_number other ≡ parameter_number rule) ⊎ ((parameter_number other < parameter_number rule) ⊎ (parameter_number rule < parameter_number other)) → (parameter_number other < parameter_number rule) ⊎ (other ≡ rule)
      at (inl e) = inr (rules_apart other rule e)
      at (inr (inl lower)) = inl lower
      at (inr (inr higher)) = absurd (omega (arith, low, higher))

  keeps : (rule : ParameterRule) (breach : Breach) → FindsFirst (parameter_number rule) (Some breach) → ((k : ℕ) → k < breach.0 → V rule k → ⊥) → FindsFirst (parameter_number rule + 1) (Some breach)
  keeps rule breach h none = record { broken = h.broken; least = h.least; first = λ j other lower low broken. at j other lower broken (below_or rule other low) }
    where
      at : (j : ℕ) (other : ParameterRule) → j < breach.0 → V other j → (parameter_number other < parameter_number rule) ⊎ (other ≡ rule) → ⊥
      at j other lower broken (inl before) = h.first j other lower before broken
      at j other lower broken (inr e) = none j lower (subst (λ (z : ParameterRule). V z j) e broken)

  takes : (rule : ParameterRule) (node : ℕ) → V rule node → ((k : ℕ) → k < node → V rule k → ⊥) → ((j : ℕ) (other : ParameterRule) → j < node + 1 → parameter_number other < parameter_number rule → V other j → ⊥)
      → FindsFirst (parameter_number rule + 1) (Some (node, rule))
  takes rule node is none before = record {
    broken = is;
    least = λ other lower broken. before node other (omega arith) lower broken;
    first = λ j other lower low broken. at j other lower broken (below_or rule other low);
  }
    where
      at : (j : ℕ) (other : ParameterRule) → j < node → V other j → (parameter_number other < parameter_number rule) ⊎ (other ≡ rule) → ⊥
      at j other lower broken (inl low) = before j other (omega (arith, lower)) low broken
      at j other lower broken (inr e) = none j lower (subst (λ (z : ParameterRule). V z j) e broken)

  pub step : (rule : ParameterRule) (o : Option Breach) (x : Option ℕ) (made : Option Breach) → FindsFirst (parameter_number rule) o → FindsLeast (V rule) x → made ≡ earlier_violation o x rule → FindsFirst (parameter_number rule + 1) made
  step rule o x made h least is = subst (FindsFirst (parameter_number rule + 1)) (sym is) (by o x h least)
    where
      choice : (first : Breach) (node : ℕ) (b : Bool) → nat_lt node first.0 ≡ b → FindsFirst (parameter_number rule) (Some first) → FindsLeast (V rule) (Some node)
          → FindsFirst (parameter_number rule + 1) (if b then Some (node, rule) else Some first)
      choice first node true e h least =
          let low : node < first.0 = ltb-true node first.0 e in
          takes rule node least.0 least.1 (λ j other lower before broken. h.first j other (omega (arith, lower, low)) before broken)
      choice first node false e h least =
          let high : first.0 ≤ node = ltb-false node first.0 e in
          keeps rule first h (λ k lower broken. least.1 k (omega (arith, lower, high)) broken)

      by : (o : Option Breach) (x : Option ℕ) → FindsFirst (parameter_number rule) o → FindsLeast (V rule) x → FindsFirst (parameter_number rule + 1) (earlier_violation o x rule)
      by None None h least = λ other k low broken. at other k broken (below_or rule other low)
        where
          at : (other : ParameterRule) (k : ℕ) → V other k → (parameter_number other < parameter_number rule) ⊎ (other ≡ rule) → ⊥
          at other k broken (inl before) = h other k before broken
          at other k broken (inr e) = least k (subst (λ (z : ParameterRule). V z k) e broken)
      by (Some first) None h least = keeps rule first h (λ k lower broken. least k broken)
      by None (Some node) h least = takes rule node least.0 least.1 (λ j other lower before broken. h other j before broken)
      by (Some first) (Some node) h least = choice first node (nat_lt node first.0) refl h least

  -- all rules
  pub whole : (o : Option Breach) → FindsFirst 57 o → MatchOption o (HasNoViolation V) (λ breach. IsFirstViolation parameter_number V breach.0 breach.1)
  whole None h = λ rule k broken. h rule k (to_56 rule) broken
  whole (Some breach) h = record {
    is = record { broken = h.broken; least = h.least };
    first = λ j rule lower broken. h.first j rule lower (to_56 rule) broken;
  }
