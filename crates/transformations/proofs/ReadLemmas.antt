-- What no reading gives, and what stands in two names.
use Rattle.std.proofs.Common.{◌≡◌, ℕ, true, false, List, Option, Some, None, IsSome, MatchOption, bytes_eq, refl, sym, ◌∙◌, subst}
use Rattle.std.proofs.lemmas.Bool.{both_ways}
use Rattle.std.proofs.lemmas.Option.{none-some}
use Rattle.std.proofs.lemmas.Slice.Eq.{bytes_eq-Decides}
use Rattle.doc_grammar.specs.Nodes.{Node}
use Rattle.doc_tables.specs.Elements.{name_of, is_named}

-- where nothing was read, nothing is there
pub unread : {A : Type 0} (P : A → Type 0) (o : Option A) → o ≡ None → ((x : A) → P x → o ≡ Some x) → (x : A) → P x → ⊥
unread P o none exact x is = none-some x (sym none ∙ exact x is)

-- what is there was read
pub some_read : {A : Type 0} (Misread : Type 0) (P : A → Type 0) (o : Option A) → MatchOption o Misread P → (Misread → ⊥) → IsSome o
some_read Misread P None h not = absurd (not h)
some_read Misread P (Some x) h not = refl

-- ---- names

named_is : (t : List Node) (k : ℕ) (name : List ℕ) → is_named t k name ≡ true → name_of t k ≡ name
named_is t k name h = (bytes_eq-Decides (name_of t k) name).0 h

pub named_once : (t : List Node) (k : ℕ) (one other : List ℕ) → bytes_eq one other ≡ false → is_named t k one ≡ true → is_named t k other ≡ true → ⊥
named_once t k one other apart p q =
    both_ways (bytes_eq one other) apart (subst (λ (z : List ℕ). bytes_eq z other ≡ true) (named_is t k one p) q)
