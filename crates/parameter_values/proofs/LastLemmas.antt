-- The last of the pairs with a source, one pair after another.
use Rattle.std.proofs.Common.{◌≡◌, ◌⊎◌, ℕ, zero, suc, ◌<◌, ◌≤◌, ◌+◌, ℤ, Bool, List, [], ◌∷◌, ◌++◌, length, take, get_or, Option, Some, None, refl, sym, ap, ◌∙◌, subst, inl, inr, arith}
use Rattle.std.specs.List.{slice_get}
use Rattle.std.proofs.lemmas.Option.{slice_get_within, same_Some}
use Rattle.std.proofs.lemmas.List.{take_more}
use Rattle.parameter_values.specs.declared.change.IntegerPair.{IntegerPair}
use Rattle.parameter_values.specs.declared.change.BooleanPair.{BooleanPair}
use Rattle.parameter_values.specs.Ready.{FindsBoolean, FindsInteger}

-- what stands in a list with one more
pub push_cases : {X : Type 0} (xs : List X) (y : X) (j : ℕ) (x : X) → slice_get (xs ++ y ∷ []) j ≡ Some x → (slice_get xs j ≡ Some x) ⊎ ((j ≡ length xs) × (y ≡ x))
push_cases [] y zero x e = inr (refl, same_Some y x e)
push_cases [] y (suc j) x e = cc
push_cases (z ∷ zs) y zero x e = inl e
push_cases (z ∷ zs) y (suc j) x e = by (push_cases zs y j x e)
  where
    by : (slice_get zs j ≡ Some x) ⊎ ((j ≡ length zs) × (y ≡ x)) → (slice_get zs j ≡ Some x) ⊎ ((suc j ≡ suc (length zs)) × (y ≡ x))
    by (inl h) = inl h
    by (inr h) = inr (ap suc h.0, h.1)

pub push_last : {X : Type 0} (xs : List X) (y : X) → slice_get (xs ++ y ∷ []) (length xs) ≡ Some y
push_last [] y = refl
push_last (z ∷ zs) y = push_last zs y

pub push_kept : {X : Type 0} (xs : List X) (y : X) (j : ℕ) (x : X) → slice_get xs j ≡ Some x → slice_get (xs ++ y ∷ []) j ≡ Some x
push_kept [] y j x e = cc
push_kept (z ∷ zs) y zero x e = e
push_kept (z ∷ zs) y (suc j) x e = push_kept zs y j x e

-- ---- integers

integer_next : (pairs : List IntegerPair) (p : IntegerPair) → FindsInteger (pairs ++ p ∷ []) p.source (Some p.target)
integer_next pairs p = record {
  place = length pairs;
  is = push_last pairs p;
  last = λ k q e s. by k q (push_cases pairs p k q e);
}
  where
    by : (k : ℕ) (q : IntegerPair) → (slice_get pairs k ≡ Some q) ⊎ ((k ≡ length pairs) × (p ≡ q)) → k ≤ length pairs
    by k q (inl h) = let w = slice_get_within pairs k q h in omega (arith, w)
    by k q (inr h) = let s = h.0 in omega (arith, s)

integer_kept : (pairs : List IntegerPair) (p : IntegerPair) (x : ℤ) (o : Option ℤ) → (p.source ≡ x → ⊥) → FindsInteger pairs x o → FindsInteger (pairs ++ p ∷ []) x o
integer_kept pairs p x None other none = λ k q e s. by k q s (push_cases pairs p k q e)
  where
    by : (k : ℕ) (q : IntegerPair) → q.source ≡ x → (slice_get pairs k ≡ Some q) ⊎ ((k ≡ length pairs) × (p ≡ q)) → ⊥
    by k q s (inl h) = none k q h s
    by k q s (inr h) = other (ap (λ (z : IntegerPair). z.source) h.1 ∙ s)
integer_kept pairs p x (Some y) other found = record {
  place = found.place;
  is = push_kept pairs p found.place _ found.is;
  last = λ k q e s. by k q s (push_cases pairs p k q e);
}
  where
    by : (k : ℕ) (q : IntegerPair) → q.source ≡ x → (slice_get pairs k ≡ Some q) ⊎ ((k ≡ length pairs) × (p ≡ q)) → k ≤ found.place
    by k q s (inl h) = found.last k q h s
    by k q s (inr h) = absurd (other (ap (λ (z : IntegerPair). z.source) h.1 ∙ s))

-- the table after one pair more
pub integer_more : (pairs : List IntegerPair) (i : ℕ) (d : IntegerPair) (old new : ℤ → Option ℤ) → i < length pairs
    → ((x : ℤ) → ((x ≡ (get_or pairs i d).source) × (new x ≡ Some (get_or pairs i d).target)) ⊎ ((x ≡ (get_or pairs i d).source → ⊥) × (new x ≡ old x)))
    → ((x : ℤ) → FindsInteger (take i pairs) x (old x)) → (x : ℤ) → FindsInteger (take (i + 1) pairs) x (new x)
integer_more pairs i d old new less each was x =
    subst (λ z. FindsInteger z x (new x)) (sym (take_more pairs i d less)) (by (each x))
  where
    p : IntegerPair
    p = get_or pairs i d

    by : ((x ≡ p.source) × (new x ≡ Some p.target)) ⊎ ((x ≡ p.source → ⊥) × (new x ≡ old x)) → FindsInteger (take i pairs ++ p ∷ []) x (new x)
    by (inl h) = subst (FindsInteger (take i pairs ++ p ∷ []) x) (sym h.1) (subst (λ z. FindsInteger (take i pairs ++ p ∷ []) z (Some p.target)) (sym h.0) (integer_next (take i pairs) p))
    by (inr h) = subst (FindsInteger (take i pairs ++ p ∷ []) x) (sym h.1) (integer_kept (take i pairs) p x (old x) (λ s. h.0 (sym s)) (was x))

-- ---- Booleans

boolean_next : (pairs : List BooleanPair) (p : BooleanPair) → FindsBoolean (pairs ++ p ∷ []) p.source (Some p.target)
boolean_next pairs p = record {
  place = length pairs;
  is = push_last pairs p;
  last = λ k q e s. by k q (push_cases pairs p k q e);
}
  where
    by : (k : ℕ) (q : BooleanPair) → (slice_get pairs k ≡ Some q) ⊎ ((k ≡ length pairs) × (p ≡ q)) → k ≤ length pairs
    by k q (inl h) = let w = slice_get_within pairs k q h in omega (arith, w)
    by k q (inr h) = let s = h.0 in omega (arith, s)

boolean_kept : (pairs : List BooleanPair) (p : BooleanPair) (x : Bool) (o : Option Bool) → (p.source ≡ x → ⊥) → FindsBoolean pairs x o → FindsBoolean (pairs ++ p ∷ []) x o
boolean_kept pairs p x None other none = λ k q e s. by k q s (push_cases pairs p k q e)
  where
    by : (k : ℕ) (q : BooleanPair) → q.source ≡ x → (slice_get pairs k ≡ Some q) ⊎ ((k ≡ length pairs) × (p ≡ q)) → ⊥
    by k q s (inl h) = none k q h s
    by k q s (inr h) = other (ap (λ (z : BooleanPair). z.source) h.1 ∙ s)
boolean_kept pairs p x (Some y) other found = record {
  place = found.place;
  is = push_kept pairs p found.place _ found.is;
  last = λ k q e s. by k q s (push_cases pairs p k q e);
}
  where
    by : (k : ℕ) (q : BooleanPair) → q.source ≡ x → (slice_get pairs k ≡ Some q) ⊎ ((k ≡ length pairs) × (p ≡ q)) → k ≤ found.place
    by k q s (inl h) = found.last k q h s
    by k q s (inr h) = absurd (other (ap (λ (z : BooleanPair). z.source) h.1 ∙ s))

pub boolean_more : (pairs : List BooleanPair) (i : ℕ) (d : BooleanPair) (x : Bool) (o : Option Bool) → i < length pairs → (get_or pairs i d).source ≡ x → FindsBoolean (take (i + 1) pairs) x (Some (get_or pairs i d).target)
boolean_more pairs i d x o less same =
    subst (λ z. FindsBoolean z x (Some (get_or pairs i d).target)) (sym (take_more pairs i d less)) (subst (λ z. FindsBoolean (take i pairs ++ get_or pairs i d ∷ []) z (Some (get_or pairs i d).target)) same (boolean_next (take i pairs) (get_or pairs i d)))

pub boolean_other : (pairs : List BooleanPair) (i : ℕ) (d : BooleanPair) (x : Bool) (o : Option Bool) → i < length pairs → ((get_or pairs i d).source ≡ x → ⊥) → FindsBoolean (take i pairs) x o → FindsBoolean (take (i + 1) pairs) x o
boolean_other pairs i d x o less other was = subst (λ z. FindsBoolean z x o) (sym (take_more pairs i d less)) (boolean_kept (take i pairs) (get_or pairs i d) x o other was)
