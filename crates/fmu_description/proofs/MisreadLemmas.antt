-- What doesn't read, from what a reader answers.
use Rattle.std.proofs.Common.{◌≡◌, ◌↔◌, ◌⊎◌, ℕ, Bool, true, false, not, List, Option, Some, None, IsTrue, IfSome, IfOk, Result, Ok, Err, is_some, sym, ◌∙◌, refl, subst, inl, inr}
use Rattle.std.proofs.lemmas.Bool.{both_ways, iff_false}
use Rattle.std.proofs.lemmas.Option.{same_Some, none-some}
use Rattle.clock_fraction.specs.declared.fraction.Fraction.{Fraction}
use Rattle.clock_fraction.specs.Decimal.{Denotes}
use Rattle.doc_grammar.specs.Nodes.{Node}
use Rattle.doc_tables.specs.Elements.{attribute}
use Rattle.fmu_description.specs.Rules.{MisreadsDecimal}

-- the rest of a choice, where its first part doesn't hold
pub or_last : {A B : Type 0} {b c : Bool} → (IsTrue b ↔ A) → b ≡ false → (IsTrue c ↔ B) → (IsTrue c ↔ (A ⊎ B))
or_last first unset last = (λ e. inr (last.0 e), λ h. elim h [ inl a ↦ absurd (iff_false first unset a) | inr b ↦ last.1 b ])

-- the rest of a pair, where its first part holds
pub and_last : {A B : Type 0} {c : Bool} → A → (IsTrue c ↔ B) → (IsTrue c ↔ (A × B))
and_last first last = (λ e. (first, last.0 e), λ h. last.1 h.1)

-- a decimal that is there, and what reading it answers
pub decimal_misread : (t : List Node) (k : ℕ) (name text : List ℕ) (r : Option Fraction) (b : Bool) → attribute t k name ≡ Some text
    → IfSome r (Denotes text) → ((f : Fraction) → Denotes text f → r ≡ Some f) → is_some r ≡ not b → (IsTrue b ↔ MisreadsDecimal t k name)
decimal_misread t k name text None true told reads exact e =
    (λ _. (text, told, λ f d. none-some f (exact f d)), λ _. refl)
decimal_misread t k name text None false told reads exact e = absurd (both_ways _ refl e)
decimal_misread t k name text (Some g) true told reads exact e = absurd (both_ways _ e refl)
decimal_misread t k name text (Some g) false told reads exact e =
    (λ h. absurd (both_ways _ refl h), λ m. absurd (m.2 g (subst (λ (x : List ℕ). Denotes x g) (same_Some _ _ (sym told ∙ m.1)) reads)))

-- what follows from what a clause says of the value
pub if_ok : {T E : Type 0} (r : Result T E) {P Q : T → Type 0} → IfOk r P → ((x : T) → P x → Q x) → IfOk r Q
if_ok (Ok x) p f = f x p
if_ok (Err e) p f = tt
