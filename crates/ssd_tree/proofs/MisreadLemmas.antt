-- A transformation that doesn't read, among the children of a connection.
use Rattle.std.proofs.Common.{◌≡◌, ℕ, ◌<◌, Bool, true, false, if◌then◌else◌, get_or, List, [], ◌∷◌, length, find, Result, Ok, Err, IfOk, Option, Some, None, MatchOption, refl, sym, subst, arith}
use Rattle.std.specs.List.{Contains}
use Rattle.std.proofs.lemmas.List.Elements.{All-contains, All-from_get_or, Contains-get_or}
use Rattle.std.proofs.lemmas.Option.{none-some, same_Some}
use Rattle.doc_grammar.specs.Nodes.{Node}
use Rattle.doc_tree.specs.declared.rule.SystemRule.TheVariants as r
use Rattle.doc_tables.specs.Documents.{is_transformation}
use Rattle.doc_tables.specs.Elements.{children, name_of}
use Rattle.parameter_values.specs.declared.change.Change.{Change}
use Rattle.transformations.specs.Changes.{IsChange, IsMisread}
use Rattle.transformations.specs.Elements.{first_transformation}
use Rattle.ssd_tree.specs.Elements.{IsConnection}
use Rattle.ssd_tree.specs.Parts.{IsChangeBy}
use Rattle.ssd_tree.specs.Rules.{HasMisread, IsMisreadChange, IsSoundStructure}
use Rattle.ssd_tree.proofs.ListingLemmas.{contains_later}

-- the j-th child is such a transformation
pub misread_at : (t : List Node) (k : ℕ) (kids : List ℕ) → kids ≡ children t k → (j : ℕ) → j < length kids → IsMisreadChange t (get_or kids j 0) → HasMisread t k
misread_at t k kids are j within is =
    (get_or kids j 0, subst (λ (xs : List ℕ). Contains xs (get_or kids j 0)) are (Contains-get_or kids j 0 within), is)

-- none of the children is
pub none_misread : (t : List Node) (k : ℕ) (kids : List ℕ) → kids ≡ children t k → ((j : ℕ) → j < length kids → IsMisreadChange t (get_or kids j 0) → ⊥) → HasMisread t k → ⊥
none_misread t k kids are none h =
    All-contains (λ (c : ℕ). IsMisreadChange t c → ⊥) kids h.0 (All-from_get_or (λ (c : ℕ). IsMisreadChange t c → ⊥) kids 0 none) (subst (λ (xs : List ℕ). Contains xs h.0) (sym are) h.1) h.2

-- ---- what a connection does to values

-- what is found is there and passes
found : (p : ℕ → Bool) (xs : List ℕ) (x : ℕ) → find p xs ≡ Some x → Contains xs x × (p x ≡ true)
found p [] x e = absurd (none-some x e)
found p (y ∷ xs) x e = at (p y) refl (found p xs x) e
  where
    at : (b : Bool) → p y ≡ b → (find p xs ≡ Some x → Contains xs x × (p x ≡ true)) → (if b then Some y else find p xs) ≡ Some x → Contains (y ∷ xs) x × (p x ≡ true)
    at true is rest f =
        let same : y ≡ x = same_Some y x f in
        (subst (λ (z : ℕ). Contains (y ∷ xs) z) same (0, omega arith, refl), subst (λ (z : ℕ). p z ≡ true) same is)
    at false is rest f = let there = rest f in (contains_later y x xs there.0, there.1)

-- in a sound document the first transformation of a connection reads
pub first_reads : (t : List Node) (k c : ℕ) → IsSoundStructure t → IsConnection t k → first_transformation t k ≡ Some c → IsMisread t c → ⊥
first_reads t k c sound is first misread =
    let there = found (λ x. is_transformation (name_of t x)) (children t k) c first in
    sound.1 r.Transformation k (is, (c, there.0, (there.1, misread)))

reads_as : (t : List Node) (c : ℕ) (o : Option Change) → (IsMisread t c → ⊥) → MatchOption o (IsMisread t c) (IsChange t c) → IsChangeBy t (Some c) o
reads_as t c None reads h = reads h
reads_as t c (Some x) reads h = h

pub read_change : {E : Type 0} (t : List Node) (c : ℕ) (result : Result (Option Change) E) → (IsMisread t c → ⊥) → IfOk result (λ o. MatchOption o (IsMisread t c) (IsChange t c)) → IfOk result (IsChangeBy t (Some c))
read_change t c (Ok o) reads h = reads_as t c o reads h
read_change t c (Err e) reads h = tt
