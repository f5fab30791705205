-- The ends of connections, as they are found.
use Rattle.std.proofs.Common.{◌≡◌, ◌⊎◌, ◌↔◌, inl, inr, ℕ, Bool, true, false, not, IsTrue, is_some, List, Option, Some, None, Result, Ok, Err, IfOk, MatchOption, codes, refl, sym, ap, ◌∙◌, subst}
use Rattle.std.proofs.lemmas.Bool.{both_ways}
use Rattle.std.proofs.lemmas.Option.{same_Some}
use Rattle.doc_grammar.specs.Nodes.{Node}
use Rattle.doc_tables.specs.Elements.{attribute}
use Rattle.doc_tables.specs.Tables.{Finds}
use Rattle.ssd_tree.specs.Elements.{holder, connector_key}
use Rattle.ssd_tree.specs.Ends.{IsPartNamed, IsEnd}
use Rattle.ssd_tree.proofs.OneLemmas.{one_part}

pub end_found : (t : List Node) (connection : ℕ) (element connector : List ℕ) (s p : ℕ) (name : List ℕ) (found : Option ℕ) → holder t connection (codes "Connections") ≡ Some s
    → IsPartNamed t s (attribute t connection element) p → attribute t connection connector ≡ Some name → Finds (connector_key t) (p, name) found
    → MatchOption found ((k : ℕ) → IsEnd t connection element connector k → ⊥) (IsEnd t connection element connector)
end_found t connection element connector s p name (Some k) of part named is = record { system = s; part = p; name = name; of = of; is_part = part; named = named; is = is }
end_found t connection element connector s p name None of part named none = λ k e.
    let system : e.system ≡ s = same_Some e.system s (sym e.of ∙ of) in
    let same : e.part ≡ p =
    one_part t s (attribute t connection element) e.part p (subst (λ (z : ℕ). IsPartNamed t z (attribute t connection element) e.part) system e.is_part) part in
    let text : e.name ≡ name = same_Some e.name name (sym e.named ∙ named) in
    none (k, e.is.0 ∙ ap (λ (z : ℕ). Some (z, e.name)) same ∙ ap (λ (z : List ℕ). Some (p, z)) text)

-- nothing is found exactly where there is nothing
pub none_told : (P : ℕ → Type 0) (o : Option ℕ) (b : Bool) → is_some o ≡ not b → MatchOption o ((k : ℕ) → P k → ⊥) P → IsTrue b ↔ ((k : ℕ) → P k → ⊥)
none_told P None true e m = (λ _. m, λ _. refl)
none_told P None false e m = absurd (both_ways _ refl e)
none_told P (Some k) true e m = absurd (both_ways _ e refl)
none_told P (Some k) false e m = (λ h. absurd (both_ways _ refl h), λ none. absurd (none k m))

-- there is one, and it isn't as it has to be
pub wrong_told : (P Q : ℕ → Type 0) → ((j k : ℕ) → P j → P k → j ≡ k) → (k : ℕ) → P k → (b : Bool) → (IsTrue b ↔ Q k) → IsTrue (not b) ↔ ((j : ℕ) × P j × (Q j → ⊥))
wrong_told P Q one k is true q = (λ h. absurd (both_ways _ refl h), λ w. absurd (w.2 (subst Q (one k w.0 is w.1) (q.0 refl))))
wrong_told P Q one k is false q = (λ _. (k, is, λ h. both_ways _ refl (q.1 h)), λ _. refl)

pub none_wrong : (P Q : ℕ → Type 0) → ((k : ℕ) → P k → ⊥) → IsTrue false ↔ ((j : ℕ) × P j × (Q j → ⊥))
none_wrong P Q none = (λ h. absurd (both_ways _ refl h), λ w. absurd (none w.0 w.1))

-- the second of two tests, where the first fails
pub or_last : {P Q : Type 0} {a b : Bool} → (IsTrue a ↔ P) → a ≡ false → (IsTrue b ↔ Q) → IsTrue b ↔ (P ⊎ Q)
or_last {P} {Q} {a} {b} p none q = (λ e. inr (q.0 e), at)
  where
    at : P ⊎ Q → IsTrue b
    at (inl x) = absurd (both_ways a none (p.1 x))
    at (inr y) = q.1 y

-- the second of two tests, where the first passes
pub and_last : {P Q : Type 0} {a b : Bool} → (IsTrue a ↔ P) → a ≡ true → (IsTrue b ↔ Q) → IsTrue b ↔ (P × Q)
and_last p some q = (λ e. (p.0 some, q.0 e), λ h. q.1 h.1)

-- the same of a second test that may run out of memory
pub or_last_of : {E : Type 0} (P Q : Type 0) (a : Bool) (r : Result Bool E) → (IsTrue a ↔ P) → a ≡ false → IfOk r (λ (b : Bool). IsTrue b ↔ Q) → IfOk r (λ (b : Bool). IsTrue b ↔ (P ⊎ Q))
or_last_of P Q a (Ok b) p none q = or_last p none q
or_last_of P Q a (Err e) p none q = tt

pub or_first : {P Q : Type 0} {a : Bool} → (IsTrue a ↔ P) → a ≡ true → IsTrue a ↔ (P ⊎ Q)
or_first p some = (λ e. inl (p.0 e), λ _. some)
