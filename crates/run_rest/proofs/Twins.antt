-- Lists whose elements are equal but for what doesn't count.
use Rattle.std.proofs.Common.{◌≡◌, ℕ, zero, suc, List, [], ◌∷◌, refl, sym, ap, ◌∙◌}
use Rattle.std.specs.Prelude.{Some, slice_get}
use Rattle.std.proofs.lemmas.Option.{none-some as none_some, same_Some}

-- the same counts of each
abbrev pub Alike : {X : Type 0} → (X → X) → List X → List X → Type 0
Alike f [] [] = Unit {0}
Alike f (a ∷ xs) (b ∷ ys) = (f a ≡ f b) × Alike f xs ys
Alike f [] (b ∷ ys) = ⊥
Alike f (a ∷ xs) [] = ⊥

pub alike_refl : {X : Type 0} (f : X → X) (xs : List X) → Alike f xs xs
alike_refl f [] = tt
alike_refl f (x ∷ xs) = (refl, alike_refl f xs)

pub alike_sym : {X : Type 0} (f : X → X) (xs ys : List X) → Alike f xs ys → Alike f ys xs
alike_sym f [] [] h = tt
alike_sym f (a ∷ xs) (b ∷ ys) h = (sym h.0, alike_sym f xs ys h.1)
alike_sym f [] (b ∷ ys) h = absurd h
alike_sym f (a ∷ xs) [] h = absurd h

-- what stands beside an element
pub record Beside (X : Type 0) (f : X → X) (a : X) (ys : List X) (p : ℕ) : Type 0 where
  pub other : X
  pub is : slice_get ys p ≡ Some other
  pub alike : f a ≡ f other

pub beside : {X : Type 0} (f : X → X) (xs ys : List X) (p : ℕ) (a : X) → Alike f xs ys → slice_get xs p ≡ Some a → Beside X f a ys p
beside f [] ys p a h e = absurd (none_some _ e)
beside f (x ∷ xs) [] p a h e = absurd h
beside f (x ∷ xs) (y ∷ ys) zero a h e = record { other = y; is = refl; alike = ap f (sym (same_Some _ _ e)) ∙ h.0 }
beside f (x ∷ xs) (y ∷ ys) (suc p) a h e = let o = beside f xs ys p a h.1 e in record { other = o.other; is = o.is; alike = o.alike }
