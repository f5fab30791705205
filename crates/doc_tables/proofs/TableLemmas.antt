-- Tables of the first elements, one element after another, and elements past the end, which have no key.
use Rattle.std.proofs.Common.{◌≡◌, ◌⊎◌, ℕ, ◌+◌, ◌<◌, Bool, true, false, ◌&&◌, ◌||◌, List, length, Option, Some, None, refl, sym, ap, ◌∙◌, subst, inl, inr, arith, below_more}
use Rattle.std.specs.List.{slice_get}
use Rattle.std.specs.Option.{is_some, option_and_then, option_map_or, unwrap_or}
use Rattle.std.specs.Str.{bytes_eq}
use Rattle.std.proofs.lemmas.Slice.Eq.{bytes_eq-Decides}
use Rattle.std.proofs.lemmas.Option.{slice_get_within}
use Rattle.doc_grammar.specs.Nodes.{Node}
use Rattle.doc_tables.specs.Elements.{is_in, key_if}
use Rattle.doc_tables.specs.Tables.{Finds, FindsBelow, IsTable, IsTableBelow}

-- ---- one element more

finds_more : {A : Type 0} (key : ℕ → Option A) (n : ℕ) (x : A) (o : Option ℕ) → FindsBelow key n x o → (o ≡ None → key n ≡ Some x → ⊥) → FindsBelow key (n + 1) x o
finds_more key n x None below here = below_more (λ k. key k ≡ Some x → ⊥) n below (here refl)
finds_more key n x (Some k) below here = below

-- the element has no key
pub table_past : {A : Type 0} (key : ℕ → Option A) (n : ℕ) (found : A → Option ℕ) → key n ≡ None → IsTableBelow key n found → IsTableBelow key (n + 1) found
table_past key n found none table = λ x. finds_more key n x (found x) (table x) (λ _ some. cc)

-- an element before it has its key
pub table_held : {A : Type 0} (key : ℕ → Option A) (n : ℕ) (found : A → Option ℕ) (y : A) (k : ℕ) → key n ≡ Some y → found y ≡ Some k → IsTableBelow key n found → IsTableBelow key (n + 1) found
table_held key n found y k is held table = λ x. finds_more key n x (found x) (table x) (λ nothing some.
    let same : y ≡ x = cc in
    let here : found y ≡ None = ap found same ∙ nothing in
    cc)

-- it is the first with its key
pub table_put : {A : Type 0} (key : ℕ → Option A) (n : ℕ) (old new : A → Option ℕ) (y : A) → key n ≡ Some y → old y ≡ None
    → ((x : A) → ((x ≡ y) × (new x ≡ Some n)) ⊎ ((x ≡ y → ⊥) × (new x ≡ old x))) → IsTableBelow key n old → IsTableBelow key (n + 1) new
table_put {A} key n old new y is free each table = λ x. at x (each x)
  where
    first : FindsBelow key n y None
    first = subst (FindsBelow key n y) free (table y)

    at : (x : A) → ((x ≡ y) × (new x ≡ Some n)) ⊎ ((x ≡ y → ⊥) × (new x ≡ old x)) → FindsBelow key (n + 1) x (new x)
    at x (inl here) =
        subst (FindsBelow key (n + 1) x) (sym here.1) (is ∙ ap Some (sym here.0), λ k below some. first k below (some ∙ ap Some here.0))
    at x (inr other) =
        subst (FindsBelow key (n + 1) x) (sym other.1) (finds_more key n x (old x) (table x) (λ _ some.
        let same : x ≡ y = cc in
        other.0 same))

-- it is put in, unless an element before it has its key
pub table_entry : {A : Type 0} (key : ℕ → Option A) (n : ℕ) (old new : A → Option ℕ) (y : A) → key n ≡ Some y → new y ≡ Some (unwrap_or (old y) n)
    → ((x : A) → (x ≡ y) ⊎ ((x ≡ y → ⊥) × (new x ≡ old x))) → IsTableBelow key n old → IsTableBelow key (n + 1) new
table_entry {A} key n old new y is here each table = by (old y) refl
  where
    by : (o : Option ℕ) → old y ≡ o → IsTableBelow key (n + 1) new
    by None free = table_put key n old new y is free (λ x. elim (each x) [
      | inl same ↦ inl (same, ap new same ∙ here ∙ ap (λ o. Some (unwrap_or o n)) free)
      | inr other ↦ inr other
    ]) table
    by (Some k) held = λ x. subst (FindsBelow key (n + 1) x) (sym (kept x (each x))) (table_held key n old y k is held table x)
      where
        kept : (x : A) → (x ≡ y) ⊎ ((x ≡ y → ⊥) × (new x ≡ old x)) → new x ≡ old x
        kept x (inl same) = ap new same ∙ here ∙ ap (λ o. Some (unwrap_or o n)) held ∙ sym held ∙ ap old (sym same)
        kept x (inr other) = other.1

-- it is put in, and the element before it that has its key is put back
pub table_back : {A : Type 0} (key : ℕ → Option A) (n k : ℕ) (old put back : A → Option ℕ) (y : A) → key n ≡ Some y → old y ≡ Some k
    → ((x : A) → ((x ≡ y) × (put x ≡ Some n)) ⊎ ((x ≡ y → ⊥) × (put x ≡ old x))) → ((x : A) → ((x ≡ y) × (back x ≡ Some k)) ⊎ ((x ≡ y → ⊥) × (back x ≡ put x)))
    → IsTableBelow key n old → IsTableBelow key (n + 1) back
table_back {A} key n k old put back y is held each again table = λ x. subst (FindsBelow key (n + 1) x) (sym (same x (each x) (again x))) (table_held key n old y k is held table x)
  where
    same : (x : A) → ((x ≡ y) × (put x ≡ Some n)) ⊎ ((x ≡ y → ⊥) × (put x ≡ old x)) → ((x ≡ y) × (back x ≡ Some k)) ⊎ ((x ≡ y → ⊥) × (back x ≡ put x)) → back x ≡ old x
    same x first (inl there) = there.1 ∙ sym held ∙ ap old (sym there.0)
    same x (inl here) (inr other) = absurd (other.0 here.0)
    same x (inr kept) (inr other) = other.1 ∙ kept.1

-- nothing is found as long as no element is looked at
pub table_empty : {A : Type 0} (key : ℕ → Option A) (found : A → Option ℕ) → ((x : A) → found x ≡ None) → IsTableBelow key 0 found
table_empty key found none = λ x. subst (FindsBelow key 0 x) (sym (none x)) (λ k below. absurd (omega (arith, below)))

-- ---- all elements

-- each element with a key is among so many
abbrev pub IsWithin : {A : Type 0} → (ℕ → Option A) → ℕ → Type 0
IsWithin {A} key n = (k : ℕ) (x : A) → key k ≡ Some x → k < n

finds_whole : {A : Type 0} (key : ℕ → Option A) (n : ℕ) (x : A) (o : Option ℕ) → IsWithin key n → FindsBelow key n x o → Finds key x o
finds_whole key n x None within below = λ held. below held.0 (within held.0 x held.1) held.1
finds_whole key n x (Some k) within below = below

pub table_whole : {A : Type 0} (key : ℕ → Option A) (n : ℕ) (found : A → Option ℕ) → IsWithin key n → IsTableBelow key n found → IsTable key found
table_whole key n found within table = λ x. finds_whole key n x (found x) within (table x)

-- ---- elements past the end

pub is_in_within : (sort : List Node → ℕ → Bool) (t : List Node) (k : ℕ) → is_in sort t k ≡ true → k < length t
is_in_within sort t k h = at (slice_get t k) refl h
  where
    at : (o : Option Node) → slice_get t k ≡ o → option_map_or (sort t) (option_and_then (λ (n : Node). n.parent) o) false ≡ true → k < length t
    at None e f = cc
    at (Some n) e f = slice_get_within t k n e

pub and_right : (a b : Bool) → a && b ≡ true → b ≡ true
and_right true b h = h
and_right false b h = cc

pub or_cases : (a b : Bool) → a || b ≡ true → (a ≡ true) ⊎ (b ≡ true)
or_cases true b h = inl refl
or_cases false b h = inr h

pub key_if_true : {A : Type 0} (b : Bool) (o : Option A) (x : A) → key_if b o ≡ Some x → b ≡ true
key_if_true true o x h = refl
key_if_true false o x h = cc

-- ---- a table by texts

-- each name but one is found as before
pub name_kept : (y : List ℕ) (was now : List ℕ → Option ℕ) → ((x : List ℕ) → bytes_eq y x ≡ false → now x ≡ was x) → (x : List ℕ) → (x ≡ y) ⊎ ((x ≡ y → ⊥) × (now x ≡ was x))
name_kept y was now each x = at (bytes_eq y x) refl
  where
    at : (b : Bool) → bytes_eq y x ≡ b → (x ≡ y) ⊎ ((x ≡ y → ⊥) × (now x ≡ was x))
    at true e = inl (sym ((bytes_eq-Decides y x).0 e))
    at false e = inr (λ same. let is : bytes_eq y x ≡ true = (bytes_eq-Decides y x).1 (sym same) in cc, each x e)

pub free_from : {A : Type 0} (o : Option A) (b : Bool) → b ≡ is_some o → b ≡ false → o ≡ None
free_from None b e f = refl
free_from (Some x) b e f = cc
