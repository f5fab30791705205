-- Lists of which some elements are left out, and orders of which some nodes are.
use Rattle.std.proofs.Common.{◌≡◌, ◌⊎◌, ℕ, zero, suc, ◌<◌, Bool, true, false, cond, List, [], ◌∷◌, length, take, get_or, refl, sym, ap, ◌∙◌, subst, inl, inr, arith}
use Rattle.std.specs.List.{Contains, filter}
use Rattle.std.proofs.lemmas.List.Elements.{Contains-append_right, Contains-append_cases}
use Rattle.std.proofs.lemmas.Bool.{false≢true}
use Rattle.dependency_order.specs.Graph.{IsOrder}
use Rattle.dependency_order.proofs.ListLemmas.{contains_none, contains_one}

pub contains_cons : (x : ℕ) (xs : List ℕ) (q : ℕ) → Contains (x ∷ xs) q → (x ≡ q) ⊎ Contains xs q
contains_cons x xs q h = by (Contains-append_cases (x ∷ []) xs q h)
  where
    by : Contains (x ∷ []) q ⊎ Contains xs q → (x ≡ q) ⊎ Contains xs q
    by (inl c) = inl (contains_one x q c)
    by (inr c) = inr c

pub contains_head : (x : ℕ) (xs : List ℕ) → Contains (x ∷ xs) x
contains_head x xs = (0, omega arith, refl)

pub contains_tail : (x : ℕ) (xs : List ℕ) (q : ℕ) → Contains xs q → Contains (x ∷ xs) q
contains_tail x xs q h = Contains-append_right (x ∷ []) xs q h

pub filter_yes : (f : ℕ → Bool) (x : ℕ) (xs : List ℕ) → f x ≡ true → filter f (x ∷ xs) ≡ x ∷ filter f xs
filter_yes f x xs e = ap (λ b. cond b (x ∷ filter f xs) (filter f xs)) e

pub filter_no : (f : ℕ → Bool) (x : ℕ) (xs : List ℕ) → f x ≡ false → filter f (x ∷ xs) ≡ filter f xs
filter_no f x xs e = ap (λ b. cond b (x ∷ filter f xs) (filter f xs)) e

pub filter_keeps : (f : ℕ → Bool) (xs : List ℕ) (q : ℕ) → Contains xs q → f q ≡ true → Contains (filter f xs) q
filter_keeps f [] q h t = absurd (contains_none q h)
filter_keeps f (x ∷ xs) q h t = by (contains_cons x xs q h) (f x) refl (λ c. filter_keeps f xs q c t)
  where
    by : (x ≡ q) ⊎ Contains xs q → (b : Bool) → f x ≡ b → (Contains xs q → Contains (filter f xs) q) → Contains (filter f (x ∷ xs)) q
    by (inl e) true t' rec = subst (λ z. Contains z q) (sym (filter_yes f x xs t')) (subst (Contains (x ∷ filter f xs)) e (contains_head x (filter f xs)))
    by (inl e) false t' rec = absurd (false≢true (sym t' ∙ ap f e ∙ t))
    by (inr c) true t' rec = subst (λ z. Contains z q) (sym (filter_yes f x xs t')) (contains_tail x (filter f xs) q (rec c))
    by (inr c) false t' rec = subst (λ z. Contains z q) (sym (filter_no f x xs t')) (rec c)

pub filter_back : (f : ℕ → Bool) (xs : List ℕ) (q : ℕ) → Contains (filter f xs) q → Contains xs q × (f q ≡ true)
filter_back f [] q h = absurd (contains_none q h)
filter_back f (x ∷ xs) q h = by (f x) refl (filter_back f xs q)
  where
    at : f x ≡ true → (Contains (filter f xs) q → Contains xs q × (f q ≡ true)) → (x ≡ q) ⊎ Contains (filter f xs) q → Contains (x ∷ xs) q × (f q ≡ true)
    at t rec (inl e) = (subst (Contains (x ∷ xs)) e (contains_head x xs), ap f (sym e) ∙ t)
    at t rec (inr c) = (contains_tail x xs q (rec c).0, (rec c).1)

    by : (b : Bool) → f x ≡ b → (Contains (filter f xs) q → Contains xs q × (f q ≡ true)) → Contains (x ∷ xs) q × (f q ≡ true)
    by true t rec = at t rec (contains_cons x (filter f xs) q (subst (λ z. Contains z q) (filter_yes f x xs t) h))
    by false t rec = let r = rec (subst (λ z. Contains z q) (filter_no f x xs t) h) in (contains_tail x xs q r.0, r.1)

-- where an element of the filtered list stood
pub record Stood (f : ℕ → Bool) (xs : List ℕ) (i : ℕ) : Type 0 where
  pub at : ℕ
  pub within : at < length xs
  pub is : get_or xs at 0 ≡ get_or (filter f xs) i 0
  pub before : filter f (take at xs) ≡ take i (filter f xs)

pub filter_at : (f : ℕ → Bool) (xs : List ℕ) (i : ℕ) → i < length (filter f xs) → Stood f xs i
filter_at f [] i l = absurd (omega (arith, l))
filter_at f (x ∷ xs) i l = by (f x) refl i l (filter_at f xs)
  where
    next : (k j : ℕ) → f x ≡ true → suc k ≡ j → Stood f xs k → Stood f (x ∷ xs) j
    next k j t e s = record {
      at = suc s.at;
      within = let w = s.within in omega (arith, w);
      is = s.is ∙ ap (λ (z : List ℕ). get_or z (suc k) 0) (sym (filter_yes f x xs t)) ∙ ap (λ z. get_or (filter f (x ∷ xs)) z 0) e;
      before = filter_yes f x (take s.at xs) t ∙ ap (λ z. x ∷ z) s.before ∙ ap (take (suc k)) (sym (filter_yes f x xs t)) ∙ ap (λ z. take z (filter f (x ∷ xs))) e;
    }

    by : (b : Bool) → f x ≡ b → (j : ℕ) → j < length (filter f (x ∷ xs)) → ((k : ℕ) → k < length (filter f xs) → Stood f xs k) → Stood f (x ∷ xs) j
    by true t zero l' rec = record {
      at = 0;
      within = omega arith;
      is = ap (λ (z : List ℕ). get_or z 0 0) (sym (filter_yes f x xs t));
      before = refl;
    }
    by true t (suc k) l' rec = next k (suc k) t refl (rec k (let n = ap length (filter_yes f x xs t) in omega (arith, n, l')))
    by false t j l' rec =
        let s = rec j (let n = ap length (filter_no f x xs t) in omega (arith, n, l')) in
        record {
          at = suc s.at;
          within = let w = s.within in omega (arith, w);
          is = s.is ∙ ap (λ (z : List ℕ). get_or z j 0) (sym (filter_no f x xs t));
          before = filter_no f x (take s.at xs) t ∙ s.before ∙ ap (take j) (sym (filter_no f x xs t));
        }

-- ---- an order of some of the nodes

-- of an order those are left out that nobody needs
pub order_filtered : (Among : ℕ → Type 0) (R : ℕ → ℕ → Type 0) (f : ℕ → Bool) (order : List ℕ) → IsOrder Among R order → ((p q : ℕ) → R p q → f q ≡ true) → IsOrder (λ p. Among p × (f p ≡ true)) R (filter f order)
order_filtered Among R f order o needed = record {
  each = λ p h. filter_keeps f order p (o.each p h.0) h.1;
  only = λ p h. let b = filter_back f order p h in (o.only p b.0, b.1);
  once = λ i within h.
      let s = filter_at f order i within in
      let c : Contains (filter f (take s.at order)) (get_or (filter f order) i 0) = subst (λ z. Contains z (get_or (filter f order) i 0)) (sym s.before) h in
      o.once s.at s.within (subst (Contains (take s.at order)) (sym s.is) (filter_back f (take s.at order) (get_or (filter f order) i 0) c).0);
  after = λ i q within r.
      let s = filter_at f order i within in
      let there = o.after s.at q s.within (subst (λ z. R z q) (sym s.is) r) in
      subst (λ z. Contains z q) s.before (filter_keeps f (take s.at order) q there (needed (get_or (filter f order) i 0) q r));
}
