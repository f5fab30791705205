-- The first violation: of the first elements that break each rule the least, and there the rule of the least number.
use Rattle.std.proofs.Common.{◌≡◌, ◌⊎◌, ℕ, zero, suc, ◌+◌, ◌<◌, ◌≤◌, List, get_or, Option, Some, None, min, nat_lt, refl, sym, ap, ◌∙◌, subst, inl, inr, arith, lit<, if◌then◌else◌}
use Rattle.std.specs.Option.{IsSomeAnd, MatchOption}
use Rattle.std.proofs.lemmas.Bool.{cases_lt, lt-ltb, le-ltb}
use Rattle.value_types.specs.declared.shape.Shape.{Shape}
use Rattle.value_types.specs.declared.shape.Variable.{Variable}
use Rattle.doc_tree.specs.declared.rule.Rule.{Rule}
use Rattle.doc_tree.specs.declared.rule.Rule.TheVariants.{Document, Description, System, Nesting, Flattening, Loop, SavesNoState, TooManyPorts, Parameters, CannotBeHeld}
use Rattle.doc_tree.specs.declared.rule.FlatteningRule.{FlatteningRule}
use Rattle.doc_tree.specs.declared.rule.FlatteningRule.TheVariants.{NoSuchVariable, OtherCausality, OtherClass, EndTwice, TooWide, FedClock, OtherChange}
use Rattle.doc_tree.specs.Rules.{number}
use Rattle.ssd_tree.specs.declared.tree.SystemTree.{SystemTree}
use Rattle.doc_tables.specs.Violations.{FindsLeast, earlier_violation}
use Rattle.flatten.specs.declared.rules.TheConstants.{ELEMENT_RULES}
use Rattle.flatten.specs.Points.{variable_of}
use Rattle.flatten.specs.Rules.{Breaks, HasOtherCausality, HasOtherType, IsFirstFlatteningViolation, IsFitting, ViolatesFlattening, earlier}
use Rattle.flatten.specs.Broken.{IsBrokenConnection, IsBrokenConnector}
use Rattle.flatten.proofs.RuleLemmas.{some_and}

-- ---- the lesser of two elements

-- the least of either sort
least_either : (P Q R : ℕ → Type 0) (a b : Option ℕ) → ((n : ℕ) → R n → P n ⊎ Q n) → ((n : ℕ) → P n → R n) → ((n : ℕ) → Q n → R n) → FindsLeast P a → FindsLeast Q b → FindsLeast R (earlier a b)
least_either P Q R None None each p q f g = λ n r. elim (each n r) [ inl h ↦ f n h | inr h ↦ g n h ]
least_either P Q R None (Some b) each p q f g = (q b g.0, λ n l r. elim (each n r) [ inl h ↦ f n h | inr h ↦ g.1 n l h ])
least_either P Q R (Some a) None each p q f g = (p a f.0, λ n l r. elim (each n r) [ inl h ↦ f.1 n l h | inr h ↦ g n h ])
least_either P Q R (Some a) (Some b) each p q f g = (by (cases_lt b a), λ n l r. elim (each n r) [ inl h ↦ f.1 n (omega (arith, l)) h | inr h ↦ g.1 n (omega (arith, l)) h ])
  where
    by : (b < a) ⊎ (a ≤ b) → R (min a b)
    by (inl l) = let e : b ≡ min a b = omega (arith, l) in subst R e (q b g.0)
    by (inr l) = let e : a ≡ min a b = omega (arith, l) in subst R e (p a f.0)

module _ (t : SystemTree) (shapes : List Shape) where
  -- an element breaks the rule as a connector or as a connection
  broken_either : (rule : FlatteningRule) → (rule ≡ EndTwice → ⊥) → (rule ≡ OtherChange → ⊥) → (node : ℕ) → Breaks t shapes rule node → IsBrokenConnector t shapes rule node ⊎ IsBrokenConnection t shapes rule node
  broken_either NoSuchVariable other more node h = inl (h.0, (h.1.0, h.1.1, (h.1.2, h.1.3)))
  broken_either OtherCausality other more node h = inl (of_connector h)
    where
      of_connector : Breaks t shapes OtherCausality node → IsBrokenConnector t shapes OtherCausality node
      of_connector h =
          let Q = λ (o : Option Variable). IsSomeAnd o (HasOtherCausality h.1.0) in
          (h.0, (h.1.0, h.1.1.1, subst Q (sym h.1.1.2) h.1.1.3))
  broken_either OtherClass other more node (inl h) =
      let Q = λ (o : Option Variable). IsSomeAnd o (HasOtherType h.1.0) in
      inl (h.0, (h.1.0, h.1.1.1, subst Q (sym h.1.1.2) h.1.1.3))
  broken_either OtherClass other more node (inr h) = inr h
  broken_either EndTwice other more node h = absurd (other refl)
  broken_either TooWide other more node h = inr h
  broken_either FedClock other more node h = inr h
  broken_either OtherChange other more node h = absurd (more refl)

  connector_breaks : (rule : FlatteningRule) (node : ℕ) → IsBrokenConnector t shapes rule node → Breaks t shapes rule node
  connector_breaks NoSuchVariable node h = (h.0, (h.1.0, h.1.1, h.1.2.0, h.1.2.1))
  connector_breaks OtherCausality node h =
      let x = some_and (HasOtherCausality h.1.0) (variable_of t shapes h.0) h.1.2 in
      (h.0, (h.1.0, (x.0, h.1.1, x.1, x.2)))
  connector_breaks OtherClass node h =
      let x = some_and (HasOtherType h.1.0) (variable_of t shapes h.0) h.1.2 in
      inl (h.0, (h.1.0, (x.0, h.1.1, x.1, x.2)))
  connector_breaks EndTwice node h = absurd h.1.2
  connector_breaks TooWide node h = absurd h.1.2
  connector_breaks FedClock node h = absurd h.1.2
  connector_breaks OtherChange node h = absurd h.1.2

  connection_breaks : (rule : FlatteningRule) (node : ℕ) → IsBrokenConnection t shapes rule node → Breaks t shapes rule node
  connection_breaks NoSuchVariable node h = absurd h.2.1.1.1.1.2
  connection_breaks OtherCausality node h = absurd h.2.1.1.1.1.2
  connection_breaks OtherClass node h = inr h
  connection_breaks EndTwice node h = absurd h.2.1.1.1.1.2
  connection_breaks TooWide node h = h
  connection_breaks FedClock node h = h
  connection_breaks OtherChange node h = absurd h.2.1.1.1.1.2

  pub least_broken : (rule : FlatteningRule) (a b : Option ℕ) → (rule ≡ EndTwice → ⊥) → (rule ≡ OtherChange → ⊥) → FindsLeast (IsBrokenConnector t shapes rule) a → FindsLeast (IsBrokenConnection t shapes rule) b → FindsLeast (Breaks t shapes rule) (earlier a b)
  least_broken rule a b other more = least_either (IsBrokenConnector t shapes rule) (IsBrokenConnection t shapes rule) (Breaks t shapes rule) a b (broken_either rule other more) (connector_breaks rule) (connection_breaks rule)

-- ---- rule after rule

abbrev pub rule_at : ℕ → Rule
rule_at j = get_or ELEMENT_RULES j TooManyPorts

-- the violation at an element by the j-th of the first i rules: no other of these is broken before it, and none that stands before is broken there
pub record IsFirstOf (V : Rule → ℕ → Type 0) (i node : ℕ) (rule : Rule) : Type 0 where
  pub place : ℕ
  pub below : place < i
  pub is : rule ≡ rule_at place
  pub broken : V rule node
  pub first : (k n : ℕ) → k < i → n < node → V (rule_at k) n → ⊥
  pub least : (k : ℕ) → k < place → V (rule_at k) node → ⊥

abbrev pub FindsFirst : (Rule → ℕ → Type 0) → ℕ → Option (ℕ × Rule) → Type 0
FindsFirst V i None = (k n : ℕ) → k < i → V (rule_at k) n → ⊥
FindsFirst V i (Some one) = IsFirstOf V i one.0 one.1

module _ (V : Rule → ℕ → Type 0) where
  more_cases : (i k n : ℕ) → k < i + 1 → V (rule_at k) n → ((k < i) × V (rule_at k) n) ⊎ V (rule_at i) n
  more_cases i k n l h = by (cases_lt k i)
    where
      by : (k < i) ⊎ (i ≤ k) → ((k < i) × V (rule_at k) n) ⊎ V (rule_at i) n
      by (inl b) = inl (b, h)
      by (inr g) = let e : k ≡ i = omega (arith, l, g) in inr (subst (λ z. V (rule_at z) n) e h)

  new_first : (i node : ℕ) → V (rule_at i) node → ((n : ℕ) → n < node → V (rule_at i) n → ⊥) → ((k n : ℕ) → k < i → n ≤ node → V (rule_at k) n → ⊥) → IsFirstOf V (i + 1) node (rule_at i)
  new_first i node broken least before = record {
    place = i;
    below = omega arith;
    is = refl;
    broken = broken;
    first = λ k n l b h. elim (more_cases i k n l h) [ inl w ↦ before k n w.0 (omega (arith, b)) w.1 | inr w ↦ least n b w ];
    least = λ k l h. before k node l (omega arith) h;
  }

  old_first : (i node : ℕ) (rule : Rule) → IsFirstOf V i node rule → ((n : ℕ) → n < node → V (rule_at i) n → ⊥) → IsFirstOf V (i + 1) node rule
  old_first i node rule f later = record {
    place = f.place;
    below = (let b = f.below in omega (arith, b));
    is = f.is;
    broken = f.broken;
    first = λ k n l b h. elim (more_cases i k n l h) [ inl w ↦ f.first k n w.0 b w.1 | inr w ↦ later n b w ];
    least = f.least;
  }

  first_more : (i : ℕ) (one : Option (ℕ × Rule)) (node : Option ℕ) → FindsFirst V i one → FindsLeast (V (rule_at i)) node → FindsFirst V (i + 1) (earlier_violation one node (rule_at i))
  first_more i None None f g = λ k n l h. elim (more_cases i k n l h) [ inl w ↦ f k n w.0 w.1 | inr w ↦ g n w ]
  first_more i (Some one) None f g = old_first i one.0 one.1 f (λ n l h. g n h)
  first_more i None (Some node) f g = new_first i node g.0 g.1 (λ k n l b h. f k n l h)
  first_more i (Some one) (Some node) f g = by (cases_lt node one.0)
    where
      by : (node < one.0) ⊎ (one.0 ≤ node) → FindsFirst V (i + 1) (if nat_lt node one.0 then Some (node, rule_at i) else Some one)
      by (inl l) =
          subst (λ b. FindsFirst V (i + 1) (if b then Some (node, rule_at i) else Some one)) (sym (lt-ltb node one.0 l))
          (new_first i node g.0 g.1 (λ k n w b h. f.first k n w (omega (arith, b, l)) h))
      by (inr l) =
          subst (λ b. FindsFirst V (i + 1) (if b then Some (node, rule_at i) else Some one)) (sym (le-ltb node one.0 l))
          (old_first i one.0 one.1 f (λ n b h. g.1 n (omega (arith, b, l)) h))

  pub first_step : (i : ℕ) (one one' : Option (ℕ × Rule)) (node : Option ℕ) (rule : Rule) → rule ≡ rule_at i → one' ≡ earlier_violation one node rule → FindsFirst V i one → FindsLeast (V rule) node → FindsFirst V (i + 1) one'
  first_step i one one' node rule is made f g =
      subst (FindsFirst V (i + 1)) (sym (made ∙ ap (earlier_violation one node) is)) (first_more i one node f (subst (λ z. FindsLeast (V z) node) is g))

-- ---- all rules

-- a rule that an element may break stands in the list
rule_listed : (t : SystemTree) (shapes : List Shape) (rule : Rule) (node : ℕ) → ViolatesFlattening t shapes rule node → (k : ℕ) × (k < 9) × (rule_at k ≡ rule)
rule_listed t shapes (Flattening NoSuchVariable) node h = (0, lit< tt, refl)
rule_listed t shapes (Flattening OtherCausality) node h = (1, lit< tt, refl)
rule_listed t shapes (Flattening OtherClass) node h = (2, lit< tt, refl)
rule_listed t shapes (Flattening EndTwice) node h = (3, lit< tt, refl)
rule_listed t shapes (Flattening TooWide) node h = (4, lit< tt, refl)
rule_listed t shapes (Flattening FedClock) node h = (5, lit< tt, refl)
rule_listed t shapes SavesNoState node h = (6, lit< tt, refl)
rule_listed t shapes TooManyPorts node h = (7, lit< tt, refl)
rule_listed t shapes (Flattening OtherChange) node h = (8, lit< tt, refl)
rule_listed t shapes (Document rule) node h = absurd h
rule_listed t shapes (Description rule) node h = absurd h
rule_listed t shapes (System rule) node h = absurd h
rule_listed t shapes (Nesting rule) node h = absurd h
rule_listed t shapes Loop node h = absurd h
rule_listed t shapes (Parameters rule) node h = absurd h
rule_listed t shapes CannotBeHeld node h = absurd h

-- their numbers rise
next_above : (k : ℕ) → k < 8 → number (rule_at k) < number (rule_at (suc k))
next_above zero l = lit< tt
next_above (suc zero) l = lit< tt
next_above (suc (suc zero)) l = lit< tt
next_above (suc (suc (suc zero))) l = lit< tt
next_above (suc (suc (suc (suc zero)))) l = lit< tt
next_above (suc (suc (suc (suc (suc zero))))) l = lit< tt
next_above (suc (suc (suc (suc (suc (suc zero)))))) l = lit< tt
next_above (suc (suc (suc (suc (suc (suc (suc zero))))))) l = lit< tt
next_above (suc (suc (suc (suc (suc (suc (suc (suc k)))))))) l = absurd (omega (arith, l))

rising : (j k : ℕ) → j ≤ k → k < 9 → number (rule_at j) ≤ number (rule_at k)
rising j zero l b = let same : 0 ≡ j = omega (arith, l) in subst (λ z. number (rule_at z) ≤ number (rule_at 0)) same (omega arith)
rising j (suc k) l b = by (cases_lt j (suc k)) (λ less. rising j k (omega (arith, less)) (omega (arith, b)))
  where
    by : (j < suc k) ⊎ (suc k ≤ j) → (j < suc k → number (rule_at j) ≤ number (rule_at k)) → number (rule_at j) ≤ number (rule_at (suc k))
    by (inl less) rest = let step = next_above k (omega (arith, b)) in let so_far = rest less in omega (arith, step, so_far)
    by (inr more) rest = let same : j ≡ suc k = omega (arith, l, more) in subst (λ z. number (rule_at j) ≤ number (rule_at z)) same (omega arith)

pub all_first : (t : SystemTree) (shapes : List Shape) (i : ℕ) (found : Option (ℕ × Rule)) → 9 ≤ i → i ≤ 9 → FindsFirst (ViolatesFlattening t shapes) i found
    → MatchOption found (IsFitting t shapes) (λ violation. IsFirstFlatteningViolation t shapes violation.0 violation.1)
all_first t shapes i None past most f = λ rule node h.
    let k = rule_listed t shapes rule node h in
    f k.0 node (let b = k.1 in omega (arith, b, past)) (subst (λ z. ViolatesFlattening t shapes z node) (sym k.2) h)
all_first t shapes i (Some one) past most f = record {
  is = record {
    broken = f.broken;
    least = λ other lower h.
        let k = rule_listed t shapes other one.0 h in
        f.least k.0 (earlier_place k.0 k.1 (subst (λ z. number z < number one.1) (sym k.2) lower)) (subst (λ z. ViolatesFlattening t shapes z one.0) (sym k.2) h);
  };
  first = λ node other lower h.
      let k = rule_listed t shapes other node h in
      f.first k.0 node (let b = k.1 in omega (arith, b, past)) lower (subst (λ z. ViolatesFlattening t shapes z node) (sym k.2) h);
}
  where
    earlier_place : (k : ℕ) → k < 9 → number (rule_at k) < number one.1 → k < f.place
    earlier_place k l lower = by (cases_lt k f.place)
      where
        by : (k < f.place) ⊎ (f.place ≤ k) → k < f.place
        by (inl b) = b
        by (inr g) =
            let r = rising f.place k g l in
            let e = ap number f.is in
            absurd (omega (arith, r, e, lower))
