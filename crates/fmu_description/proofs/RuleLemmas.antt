-- The rules by their numbers, and what follows of the first violation.
use Rattle.std.proofs.Common.{◌≡◌, ℕ, ◌+◌, ◌-◌, ◌<◌, ◌≤◌, zero, suc, List, Err, get_or, length, sym, ap, ◌∙◌, refl, arith}
use Rattle.std.proofs.lemmas.Option.{slice_get_past}
use Rattle.value_types.specs.declared.shape.Shape.{Shape}
use Rattle.doc_grammar.specs.Nodes.{Node}
use Rattle.doc_tree.specs.declared.refusal.Refusal.{Refusal}
use Rattle.doc_tree.specs.declared.rule.DescriptionRule.{DescriptionRule}
use Rattle.doc_tree.specs.declared.rule.DescriptionRule.TheVariants as r
use Rattle.doc_tree.specs.declared.rule.Rule.TheVariants.{Description}
use Rattle.doc_tree.specs.declared.rule.TheConstants.{DESCRIPTION_RULES}
use Rattle.doc_tree.specs.Rules.{description_number}
use Rattle.doc_tables.specs.Answers.{IsRefusal, Refuses}
use Rattle.doc_tables.proofs.CallerLemmas as tables
use Rattle.doc_tables.proofs.CallerLemmas.{IsListed}
use Rattle.fmu_description.specs.Answers.{Faults}
use Rattle.fmu_description.specs.Rules.{ViolatesDescription, BreaksNoRule, IsLeast, IsFirstDescriptionViolation, IsSoundDescription}
use Rattle.fmu_description.proofs.PastLemmas.{breaks_none}

-- the rules stand in the order of their numbers, from 10 on
listed : (rule : DescriptionRule) → get_or DESCRIPTION_RULES (description_number rule - 10) r.RootName ≡ rule
listed r.RootName = refl
listed r.Version = refl
listed r.NoCoSimulation = refl
listed r.Absent = refl
listed r.Misread = refl
listed r.ReferenceTwice = refl
listed r.NameTwice = refl
listed r.NoInterval = refl
listed r.ClockCausality = refl
listed r.Uneven = refl
listed r.NoClock = refl
listed r.NoVariable = refl
listed r.SerializesUnsaved = refl
listed r.LeftOut = refl
listed r.ClockWithoutEvents = refl

bounds : (rule : DescriptionRule) → (10 ≤ description_number rule) × (description_number rule < 25)
bounds r.RootName = (omega arith, omega arith)
bounds r.Version = (omega arith, omega arith)
bounds r.NoCoSimulation = (omega arith, omega arith)
bounds r.Absent = (omega arith, omega arith)
bounds r.Misread = (omega arith, omega arith)
bounds r.ReferenceTwice = (omega arith, omega arith)
bounds r.NameTwice = (omega arith, omega arith)
bounds r.NoInterval = (omega arith, omega arith)
bounds r.ClockCausality = (omega arith, omega arith)
bounds r.Uneven = (omega arith, omega arith)
bounds r.NoClock = (omega arith, omega arith)
bounds r.NoVariable = (omega arith, omega arith)
bounds r.SerializesUnsaved = (omega arith, omega arith)
bounds r.LeftOut = (omega arith, omega arith)
bounds r.ClockWithoutEvents = (omega arith, omega arith)

numbered : (i : ℕ) → i < 15 → description_number (get_or DESCRIPTION_RULES i r.RootName) ≡ 10 + i
numbered zero h = refl
numbered (suc zero) h = refl
numbered (suc (suc zero)) h = refl
numbered (suc (suc (suc zero))) h = refl
numbered (suc (suc (suc (suc zero)))) h = refl
numbered (suc (suc (suc (suc (suc zero))))) h = refl
numbered (suc (suc (suc (suc (suc (suc zero)))))) h = refl
numbered (suc (suc (suc (suc (suc (suc (suc zero))))))) h = refl
numbered (suc (suc (suc (suc (suc (suc (suc (suc zero)))))))) h = refl
numbered (suc (suc (suc (suc (suc (suc (suc (suc (suc zero))))))))) h = refl
numbered (suc (suc (suc (suc (suc (suc (suc (suc (suc (suc zero)))))))))) h = refl
numbered (suc (suc (suc (suc (suc (suc (suc (suc (suc (suc (suc zero))))))))))) h = refl
numbered (suc (suc (suc (suc (suc (suc (suc (suc (suc (suc (suc (suc zero)))))))))))) h = refl
numbered (suc (suc (suc (suc (suc (suc (suc (suc (suc (suc (suc (suc (suc zero))))))))))))) h = refl
numbered (suc (suc (suc (suc (suc (suc (suc (suc (suc (suc (suc (suc (suc (suc zero)))))))))))))) h = refl
numbered (suc (suc (suc (suc (suc (suc (suc (suc (suc (suc (suc (suc (suc (suc (suc i))))))))))))))) h = absurd (omega arith)

same_number : (one other : DescriptionRule) → description_number one ≡ description_number other → one ≡ other
same_number one other e = sym (listed one) ∙ ap (λ x. get_or DESCRIPTION_RULES (x - 10) r.RootName) e ∙ listed other

rules_listed : IsListed description_number DESCRIPTION_RULES r.RootName
rules_listed = record {
  place = λ rule. description_number rule - 10;
  within = λ rule. omega (arith, (bounds rule).0, (bounds rule).1);
  is = listed;
  lower = λ rule i within below. omega (arith, (bounds rule).0, numbered i within, below);
}

module _ (t : List Node) (n k : ℕ) where
  -- none of the first i rules is broken
  abbrev pub KeepsBelow : ℕ → Type 0
  KeepsBelow i = tables.KeepsBelow description_number (ViolatesDescription t n) DESCRIPTION_RULES r.RootName k i

  pub keeps_all : KeepsBelow 15 → BreaksNoRule t n k
  keeps_all keeps = tables.keeps_all description_number (ViolatesDescription t n) DESCRIPTION_RULES r.RootName k rules_listed keeps

  pub least_at : (i : ℕ) → i < 15 → KeepsBelow i → (rule : DescriptionRule) → rule ≡ get_or DESCRIPTION_RULES i r.RootName → ViolatesDescription t n rule k → IsLeast t n k rule
  least_at i h keeps rule is broken = tables.least_at description_number (ViolatesDescription t n) DESCRIPTION_RULES r.RootName k rules_listed i h keeps rule is broken

-- what a refusal says of the first violation
pub faults : (t : List Node) (n : ℕ) (e : Refusal) (a : DescriptionRule) (j : ℕ) → IsRefusal e (Description a) j → IsFirstDescriptionViolation t n j a → Faults t n e
faults t n e a j is first = tables.faults (λ (rule : DescriptionRule). Description rule) (IsFirstDescriptionViolation t n) e a j is first

pub exact_at : (t : List Node) (n : ℕ) (e : Refusal) (a : DescriptionRule) (j : ℕ) → IsRefusal e (Description a) j → IsFirstDescriptionViolation t n j a
    → (rule : DescriptionRule) (node : ℕ) → IsFirstDescriptionViolation t n node rule → Refuses {A = Shape} (Err e) (Description rule) node
exact_at t n e a j is first rule node other =
    tables.refuses_first Shape (λ (rule : DescriptionRule). Description rule) description_number (ViolatesDescription t n) same_number e a j is first rule node other

pub none_described : (t : List Node) (n : ℕ) (a : DescriptionRule) (j : ℕ) → IsFirstDescriptionViolation t n j a → IsSoundDescription t n → ⊥
none_described t n a j first sound = sound a j first.is.broken

pub none_violated : (t : List Node) (n : ℕ) → IsSoundDescription t n → (rule : DescriptionRule) (node : ℕ) → IsFirstDescriptionViolation t n node rule → ⊥
none_violated t n sound rule node first = sound rule node first.is.broken

-- where the elements keep all rules, and at least the root was tested, the tree is sound
pub all_sound : (t : List Node) (n end : ℕ) → length t ≤ end → 0 < end → ((k : ℕ) → k < end → BreaksNoRule t n k) → IsSoundDescription t n
all_sound t n end within some below = tables.all_sound description_number (ViolatesDescription t n) end past below
  where
    past : (k : ℕ) → end ≤ k → BreaksNoRule t n k
    past k after rule h = breaks_none t k (slice_get_past t k (omega arith)) n (λ e. omega arith) rule h
