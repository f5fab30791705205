-- On lists taken place by place.
use Rattle.std.proofs.Common.{◌≡◌, ◌≢◌, ◌<◌, ◌≤◌, ◌⊎◌, ℕ, ◌+◌, ◌-◌, List, ◌++◌, length, get_or, set, arith, refl, inl, inr, sym, ◌∙◌, length-append, get_or-set_other, get_or-set_same, length-set, map, All, ap₂, [], ◌∷◌, suc}
use Rattle.std.proofs.Math.Nat.{eq-or-lt_of_le}
use Rattle.std.proofs.lemmas.List.{get_or_append_left, get_or-append_right, get_or_default}
use Rattle.parallel_step.specs.Round.{EachPair, PairsBelow}

each-append : {A : Type 0} (R : A → A → Type 0) (xs ys zs ws : List A) (i : ℕ) (d : A) → EachPair R xs ys → EachPair R zs ws → i < length (xs ++ zs)
    → (i < length xs) ⊎ (length xs ≤ i) → R (get_or (xs ++ zs) i d) (get_or (ys ++ ws) i d)
each-append {A} R xs ys zs ws i d p q h (inl below) =
    let below' : i < length ys = omega (arith, p.len) in
    rw (get_or_append_left xs zs d i below, get_or_append_left ys ws d i below') (p.each i d below)
each-append {A} R xs ys zs ws i d p q h (inr above) =
    let above' : length ys ≤ i = omega (arith, p.len) in
    let rest : i - length xs < length zs = omega (arith, length-append xs zs) in
    rw (get_or-append_right xs zs (length xs) i d refl above, get_or-append_right ys ws (length xs) i d p.len above) (q.each (i - length xs) d rest)

below_or_not : (i n : ℕ) → (i < n) ⊎ (n ≤ i)
below_or_not i n = grind arith

pub EachPair-append : {A : Type 0} (R : A → A → Type 0) (xs ys zs ws : List A) → EachPair R xs ys → EachPair R zs ws → EachPair R (xs ++ zs) (ys ++ ws)
EachPair-append R xs ys zs ws p q = record {
  len = omega (arith, p.len, q.len, length-append xs zs, length-append ys ws);
  each = λ i d h. each-append R xs ys zs ws i d p q h (below_or_not i (length xs));
}

below_at : {A : Type 0} (R : A → A → Type 0) (xs ys : List A) (i : ℕ) (x y : A) → length ys ≡ length xs → i < length xs
    → ((k : ℕ) (d : A) → k < i → R (get_or xs k d) (get_or ys k d)) → ((k : ℕ) (d : A) → i ≤ k → get_or ys k d ≡ get_or xs k d)
    → x ≡ get_or ys i x → R x y
    → (k : ℕ) (d : A) → (k ≡ i) ⊎ (k < i) → R (get_or xs k d) (get_or (set ys i y) k d)
below_at {A} R xs ys i x y len at below rest read here k d (inl e) =
    let at' : i < length ys = omega arith in
    let old : get_or xs i d ≡ x = sym (rest i d (omega arith)) ∙ get_or_default ys i d x at' ∙ sym read in
    rw (e, old, get_or-set_same ys i y d at') here
below_at {A} R xs ys i x y len at below rest read here k d (inr h) =
    let ne : k ≢ i = omega arith in
    rw get_or-set_other (below k d h)

-- one more place of a loop
pub pairs_step : {A : Type 0} (R : A → A → Type 0) (xs ys : List A) (i : ℕ) (x y : A)
    → PairsBelow R xs i ys → i < length xs → x ≡ get_or ys i x → R x y → PairsBelow R xs (i + 1) (set ys i y)
pairs_step R xs ys i x y p at read here = record {
  len = length-set ys i y ∙ p.len;
  below = λ k d h.
      let le : k ≤ i = omega arith in
      below_at R xs ys i x y p.len at p.below p.rest read here k d (eq-or-lt_of_le le);
  rest = λ k d h. let ne : k ≢ i = omega arith in rw get_or-set_other (p.rest k d (omega arith));
}

pub pairs_start : {A : Type 0} (R : A → A → Type 0) (xs : List A) → PairsBelow R xs 0 xs
pairs_start R xs = record { len = refl; below = λ k d h. absurd (omega arith); rest = λ k d h. refl }

pub pairs_whole : {A : Type 0} (R : A → A → Type 0) (xs ys : List A) (i : ℕ) → PairsBelow R xs i ys → length xs ≤ i → EachPair R xs ys
pairs_whole R xs ys i p h = record { len = p.len; each = λ k d b. p.below k d (omega arith) }

-- the lists after their first elements
pub pairs_tail : {A : Type 0} (R : A → A → Type 0) (x y : A) (xs ys : List A) → EachPair R (x ∷ xs) (y ∷ ys) → EachPair R xs ys
pairs_tail R x y xs ys p = record {
  len = omega (arith, p.len);
  each = λ k d h. p.each (suc k) d (omega arith);
}

pub pairs_head : {A : Type 0} (R : A → A → Type 0) (x y : A) (xs ys : List A) → EachPair R (x ∷ xs) (y ∷ ys) → R x y
pairs_head R x y xs ys p = p.each 0 x (omega arith)

-- what one list shows, where R tells it of the other
pub pairs_map : {A B : Type 0} (R : A → A → Type 0) (f g : A → B) (tell : (x y : A) → R x y → f y ≡ g x) (xs ys : List A) → EachPair R xs ys → map f ys ≡ map g xs
pairs_map R f g tell [] [] p = refl
pairs_map R f g tell [] (y ∷ ys) p = absurd (omega (arith, p.len))
pairs_map R f g tell (x ∷ xs) [] p = absurd (omega (arith, p.len))
pairs_map R f g tell (x ∷ xs) (y ∷ ys) p =
    ap₂ ◌∷◌ (tell x y (pairs_head R x y xs ys p)) (pairs_map R f g tell xs ys (pairs_tail R x y xs ys p))

-- one relation after another
pub pairs_then : {A : Type 0} (R Q P : A → A → Type 0) (tell : (x y z : A) → R x y → Q y z → P x z) (xs ys zs : List A) → EachPair R xs ys → EachPair Q ys zs → EachPair P xs zs
pairs_then R Q P tell xs ys zs p q = record {
  len = q.len ∙ p.len;
  each = λ i d h. tell (get_or xs i d) (get_or ys i d) (get_or zs i d) (p.each i d h) (q.each i d (omega (arith, p.len)));
}

-- what holds of each first element, beside the relation
pub pairs_with : {A : Type 0} (R P : A → A → Type 0) (K : A → Type 0) (tell : (x y : A) → K x → R x y → P x y) (xs ys : List A) → All K xs → EachPair R xs ys → EachPair P xs ys
pairs_with R P K tell xs ys k p = record {
  len = p.len;
  each = λ i d h. tell (get_or xs i d) (get_or ys i d) (k i d h) (p.each i d h);
}
