-- What a refusal says, where one violation is the first.
use Rattle.std.proofs.Common.{◌≡◌, ℕ, Err, ap, ◌∙◌, refl, sym, subst}
use Rattle.doc_tree.specs.declared.refusal.Refusal.{Refusal}
use Rattle.doc_tree.specs.declared.refusal.Refusal.TheVariants.{At, Memory}
use Rattle.doc_tree.specs.declared.rule.Rule.{Rule}
use Rattle.doc_tables.specs.Answers.{IsRefusal, Faults, Refuses}
use Rattle.doc_tables.specs.Violations.{IsFirstViolation}
use Rattle.doc_tables.proofs.ViolationLemmas.{AreApart, one_violation}

pub refuses : (A : Type 0) (e : Refusal) (a b : Rule) (j k : ℕ) → IsRefusal e a j → j ≡ k → a ≡ b → Refuses {A = A} (Err e) b k
refuses A (At file node rule ports) a b j k is place same = (is.0, is.1 ∙ place, is.2 ∙ same, is.3)
refuses A Memory a b j k is place same = absurd is

pub faults : {R : Type 0} (rule_of : R → Rule) (IsFirst : ℕ → R → Type 0) (e : Refusal) (a : R) (j : ℕ) → IsRefusal e (rule_of a) j → IsFirst j a → Faults rule_of IsFirst e
faults rule_of IsFirst (At file node rule ports) a j is first =
    (a, subst (λ (m : ℕ). IsFirst m a) (sym is.1) first, (is.0, refl, is.2, is.3))
faults rule_of IsFirst Memory a j is first = absurd is

-- the first violation is refused, and no other
pub refuses_first : (A : Type 0) {R : Type 0} (rule_of : R → Rule) (number : R → ℕ) (Violates : R → ℕ → Type 0) → AreApart number → (e : Refusal) (a : R) (j : ℕ) → IsRefusal e (rule_of a) j
    → IsFirstViolation number Violates j a → (rule : R) (k : ℕ) → IsFirstViolation number Violates k rule → Refuses {A = A} (Err e) (rule_of rule) k
refuses_first A rule_of number Violates apart e a j is first rule k other =
    let one = one_violation number Violates apart j k a rule first other in
    refuses A e (rule_of a) (rule_of rule) j k is one.0 (ap rule_of one.1)
