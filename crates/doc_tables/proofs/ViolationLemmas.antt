-- There is one first violation, and a search through the rules in the order of their numbers finds it.
use Rattle.std.proofs.Common.{◌≡◌, ℕ, ◌<◌, ◌≤◌, List, get_or, length, sym, inl, inr, subst}
use Rattle.std.proofs.lemmas.Bool.{cases_order, cases_lt}
use Rattle.doc_tables.specs.Violations.{BreaksNoRule, IsLeast, IsFirstViolation, HasNoViolation}

-- each rule has a number of its own
abbrev pub AreApart : {R : Type 0} → (R → ℕ) → Type 0
AreApart {R} number = (one other : R) → number one ≡ number other → one ≡ other

-- each rule stands in the list, after those of lower numbers
pub record IsListed {R : Type 0} (number : R → ℕ) (rules : List R) (none : R) : Type 0 where
  pub place : R → ℕ
  pub within : (rule : R) → place rule < length rules
  pub is : (rule : R) → get_or rules (place rule) none ≡ rule
  pub lower : (rule : R) (i : ℕ) → i < length rules → number rule < number (get_or rules i none) → place rule < i

module _ {R : Type 0} (number : R → ℕ) (Violates : R → ℕ → Type 0) where
  same_node : (j k : ℕ) (a b : R) → IsFirstViolation number Violates j a → IsFirstViolation number Violates k b → j ≡ k
  same_node j k a b x y = elim (cases_order j k) [
    | inl e ↦ e
    | inr (inl lower) ↦ absurd (y.first j a lower x.is.broken)
    | inr (inr lower) ↦ absurd (x.first k b lower y.is.broken)
  ]

  same_least : (k : ℕ) (a b : R) → IsLeast number Violates k a → IsLeast number Violates k b → number a ≡ number b
  same_least k a b x y = elim (cases_order (number a) (number b)) [
    | inl e ↦ e
    | inr (inl lower) ↦ absurd (y.least a lower x.broken)
    | inr (inr lower) ↦ absurd (x.least b lower y.broken)
  ]

  -- there is one first violation
  pub one_violation : AreApart number → (j k : ℕ) (a b : R) → IsFirstViolation number Violates j a → IsFirstViolation number Violates k b → (j ≡ k) × (a ≡ b)
  one_violation apart j k a b x y =
      let e : j ≡ k = same_node j k a b x y in
      (e, apart a b (same_least k a b (subst (λ (m : ℕ). IsLeast number Violates m a) e x.is) y.is))

  -- where the elements below the end keep all rules, and those past it, none is broken
  pub all_sound : (end : ℕ) → ((k : ℕ) → end ≤ k → BreaksNoRule Violates k) → ((k : ℕ) → k < end → BreaksNoRule Violates k) → HasNoViolation Violates
  all_sound end past below rule k h = elim (cases_lt k end) [ inl lower ↦ below k lower rule h | inr after ↦ past k after rule h ]

  -- where one is the first, the document isn't sound
  pub none_sound : (k : ℕ) (rule : R) → IsFirstViolation number Violates k rule → HasNoViolation Violates → ⊥
  none_sound k rule first sound = sound rule k first.is.broken

  -- ---- one element, rule after rule

  module _ (rules : List R) (none : R) (k : ℕ) where
    -- none of the first i rules is broken
    abbrev pub KeepsBelow : ℕ → Type 0
    KeepsBelow i = (j : ℕ) → j < i → Violates (get_or rules j none) k → ⊥

    pub keeps_all : IsListed number rules none → KeepsBelow (length rules) → BreaksNoRule Violates k
    keeps_all listed keeps rule h = keeps (listed.place rule) (listed.within rule) (subst (λ (x : R). Violates x k) (sym (listed.is rule)) h)

    pub least_at : IsListed number rules none → (i : ℕ) → i < length rules → KeepsBelow i → (rule : R) → rule ≡ get_or rules i none → Violates rule k → IsLeast number Violates k rule
    least_at listed i within keeps rule is broken = record {
      broken = broken;
      least = λ other lower b. keeps (listed.place other) (listed.lower other i within (subst (λ (x : R). number other < number x) is lower))
          (subst (λ (x : R). Violates x k) (sym (listed.is other)) b);
    }
