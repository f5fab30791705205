-- Parts of equations, of tests and of lists.
use Rattle.std.proofs.Common.{◌≡◌, refl, ap, ℕ, ◌+◌, zero, suc, List, [], ◌∷◌, Some, Bool, true, false, ◌&&◌, drop, slice_get, arith, ◌∙◌}

pub heads : {A : Type 0} (a b : A) (xs ys : List A) → a ∷ xs ≡ b ∷ ys → a ≡ b
heads a b xs ys e = cc e

pub tails : {A : Type 0} (a b : A) (xs ys : List A) → a ∷ xs ≡ b ∷ ys → xs ≡ ys
tails a b xs ys e = cc e

pub unsome : {A : Type 0} (x y : A) → Some x ≡ Some y → x ≡ y
unsome x y e = cc e

pub both : (a b : Bool) → a ≡ true → b ≡ true → (a && b) ≡ true
both true b e f = f
both false b e f = e

pub parts : (a b : Bool) → (a && b) ≡ true → (a ≡ true) × (b ≡ true)
parts true b e = (refl, e)
parts false b e = absurd (cc e)

pub one_suc : {A : Type 0} (xs rest : List A) (k : ℕ) (x : A) → drop k xs ≡ x ∷ rest → (drop (suc k) xs ≡ rest) × (slice_get xs k ≡ Some x)
one_suc [] rest zero x e = absurd (cc e)
one_suc [] rest (suc k) x e = absurd (cc e)
one_suc {A} (y ∷ ys) rest zero x e = (tails y x ys rest e, ap (λ (z : A). Some z) (heads y x ys rest e))
one_suc (y ∷ ys) rest (suc k) x e = one_suc ys rest k x e

pub one_more : {A : Type 0} (xs rest : List A) (k : ℕ) (x : A) → drop k xs ≡ x ∷ rest → (drop (k + 1) xs ≡ rest) × (slice_get xs k ≡ Some x)
one_more xs rest k x e =
    let up : k + 1 ≡ suc k = omega arith in
    let found = one_suc xs rest k x e in
    (ap (λ (m : ℕ). drop m xs) up ∙ found.0, found.1)
