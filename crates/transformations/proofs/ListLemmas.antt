-- Lists of elements and what stands beside each.
use Rattle.std.proofs.Common.{◌≡◌, ℕ, zero, suc, ◌+◌, ◌<◌, take, get_or, List, [], ◌∷◌, ◌++◌, length, refl, sym, ap, ◌∙◌, subst, arith}
use Rattle.std.specs.List.{AllZip}
use Rattle.std.proofs.lemmas.List.{take_more}
use Rattle.std.proofs.lemmas.Slice.Zip.{all_zipped_more}

-- one part more beside its element
pub part_more : {B : Type 0} (R : ℕ → B → Type 0) (xs : List ℕ) (ps qs : List B) (i : ℕ) (p : B) → i < length xs → AllZip R (take i xs) ps → R (get_or xs i 0) p → qs ≡ ps ++ p ∷ [] → AllZip R (take (i + 1) xs) qs
part_more {B} R xs ps qs i p within all one grown =
    subst (λ (zs : List B). AllZip R (take (i + 1) xs) zs) (sym grown)
    (subst (λ (zs : List ℕ). AllZip R zs (ps ++ p ∷ [])) (sym (take_more xs i 0 within)) (all_zipped_more R (take i xs) ps (get_or xs i 0) p all one))

-- an element without a part
pub none_beside : {B : Type 0} (R : ℕ → B → Type 0) (xs : List ℕ) (ys : List B) (i : ℕ) → i < length xs → ((y : B) → R (get_or xs i 0) y → ⊥) → AllZip R xs ys → ⊥
none_beside R [] ys i within none all = absurd (omega (arith, within))
none_beside R (x ∷ xs) [] i within none all = all
none_beside R (x ∷ xs) (y ∷ ys) zero within none all = none y all.0
none_beside R (x ∷ xs) (y ∷ ys) (suc i) within none all = none_beside R xs ys i (omega (arith, within)) none all.1

-- the parts of a list of elements are one list
pub zip_same : {B : Type 0} (R : ℕ → B → Type 0) → ((k : ℕ) (x y : B) → R k x → R k y → x ≡ y) → (ks : List ℕ) (xs ys : List B) → AllZip R ks xs → AllZip R ks ys → xs ≡ ys
zip_same R one [] [] [] p q = refl
zip_same R one [] [] (y ∷ ys) p q = absurd q
zip_same R one [] (x ∷ xs) ys p q = absurd p
zip_same R one (k ∷ ks) [] ys p q = absurd p
zip_same R one (k ∷ ks) (x ∷ xs) [] p q = absurd q
zip_same {B} R one (k ∷ ks) (x ∷ xs) (y ∷ ys) p q =
    ap (λ (z : B). z ∷ xs) (one k x y p.0 q.0) ∙ ap (λ (zs : List B). y ∷ zs) (zip_same R one ks xs ys p.1 q.1)
