-- How far two lists were found alike.
use Rattle.std.proofs.Common.{◌≡◌, ℕ, suc, ◌+◌, ◌<◌, ◌≤◌, Bool, true, false, cond, List, [], ◌∷◌, length, length-drop, drop, get_or, refl, ap, ◌∙◌, arith, eqb, eq-eqb}
use Rattle.std.proofs.lemmas.Bool.{eqb-true}
use Rattle.std.proofs.Math.Seq.{drop-cons}
use Rattle.doc_grammar.specs.Machine.{common_prefix_length}

empty : (xs : List ℕ) → length xs ≡ 0 → xs ≡ []
empty [] h = refl
empty (x ∷ xs) h = absurd (omega (arith, h))

no_more : (xs : List ℕ) → common_prefix_length xs [] ≡ 0
no_more [] = refl
no_more (x ∷ xs) = refl

not_true : (t : Bool) → (t ≡ true → ⊥) → t ≡ false
not_true true h = absurd (h refl)
not_true false h = refl

-- the second is at its end
pub common_prefix_short : (a b : List ℕ) (i : ℕ) → common_prefix_length a b ≡ i + common_prefix_length (drop i a) (drop i b) → length b ≤ i → i ≡ common_prefix_length a b
common_prefix_short a b i e h =
    let d : drop i b ≡ [] = empty (drop i b) (omega (arith, length-drop i b)) in
    let f : common_prefix_length (drop i a) (drop i b) ≡ 0 = ap (common_prefix_length (drop i a)) d ∙ no_more (drop i a) in
    omega (arith, e, f)

-- the first is at its end
pub common_prefix_whole : (a b : List ℕ) (i : ℕ) → common_prefix_length a b ≡ i + common_prefix_length (drop i a) (drop i b) → length a ≤ i → i ≡ common_prefix_length a b
common_prefix_whole a b i e h =
    let d : drop i a ≡ [] = empty (drop i a) (omega (arith, length-drop i a)) in
    let f : common_prefix_length (drop i a) (drop i b) ≡ 0 = ap (λ z. common_prefix_length z (drop i b)) d in
    omega (arith, e, f)

both : (a b : List ℕ) (i : ℕ) → i < length a → i < length b → common_prefix_length (drop i a) (drop i b) ≡ cond (eqb (get_or a i 0) (get_or b i 0)) (suc (common_prefix_length (drop (suc i) a) (drop (suc i) b))) 0
both a b i h k = ap (λ z. common_prefix_length z (drop i b)) (drop-cons a i 0 h) ∙ ap (common_prefix_length (get_or a i 0 ∷ drop (suc i) a)) (drop-cons b i 0 k)

-- they part
pub common_prefix_apart : (a b : List ℕ) (i : ℕ) → common_prefix_length a b ≡ i + common_prefix_length (drop i a) (drop i b) → i < length a → i < length b → (get_or a i 0 ≡ get_or b i 0 → ⊥) → i ≡ common_prefix_length a b
common_prefix_apart a b i e h k n =
    let q = not_true (eqb (get_or a i 0) (get_or b i 0)) (λ z. n (eqb-true (get_or a i 0) (get_or b i 0) z)) in
    let f : common_prefix_length (drop i a) (drop i b) ≡ 0 = both a b i h k ∙ ap (λ z. cond z (suc (common_prefix_length (drop (suc i) a) (drop (suc i) b))) 0) q in
    omega (arith, e, f)

-- they go on alike
pub common_prefix_more : (a b : List ℕ) (i : ℕ) → common_prefix_length a b ≡ i + common_prefix_length (drop i a) (drop i b) → i < length a → i < length b → get_or a i 0 ≡ get_or b i 0 → common_prefix_length a b ≡ (i + 1) + common_prefix_length (drop (i + 1) a) (drop (i + 1) b)
common_prefix_more a b i e h k n =
    let q = eq-eqb (get_or a i 0) (get_or b i 0) n in
    let f : common_prefix_length (drop i a) (drop i b) ≡ suc (common_prefix_length (drop (suc i) a) (drop (suc i) b)) = both a b i h k ∙ ap (λ z. cond z (suc (common_prefix_length (drop (suc i) a) (drop (suc i) b))) 0) q in
    let s : suc i ≡ i + 1 = omega arith in
    let g : common_prefix_length (drop (suc i) a) (drop (suc i) b) ≡ common_prefix_length (drop (i + 1) a) (drop (i + 1) b) = ap (λ z. common_prefix_length (drop z a) (drop z b)) s in
    omega (arith, e, f, g)
