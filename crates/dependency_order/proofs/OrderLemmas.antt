-- Orders that grow, loops, and what waits.
use Rattle.std.proofs.Common.{◌≡◌, ◌⊎◌, ℕ, zero, suc, ◌+◌, ◌<◌, ◌≤◌, List, [], ◌∷◌, ◌++◌, length, take, drop, get_or, sym, ap, ◌∙◌, subst, inl, inr, arith}
use Rattle.std.specs.List.{Contains}
use Rattle.std.proofs.lemmas.List.{length-append, get_or_append_left, get_or_push, take-append-le, drop_more, take_all}
use Rattle.std.proofs.lemmas.Bool.{cases_lt}
use Rattle.dependency_order.specs.Graph.{IsOnce, IsAfter, Leads, IsLoop}

-- ---- one more node

pub once_push : (order : List ℕ) (p : ℕ) → IsOnce order → (Contains order p → ⊥) → IsOnce (order ++ p ∷ [])
once_push order p once free i within h = by (cases_lt i (length order))
  where
    by : (i < length order) ⊎ (length order ≤ i) → ⊥
    by (inl l) =
        let same : get_or (order ++ p ∷ []) i 0 ≡ get_or order i 0 = get_or_append_left order (p ∷ []) 0 i l in
        let prefix : take i (order ++ p ∷ []) ≡ take i order = take-append-le i order (p ∷ []) (omega arith) in
        once i l (subst (λ z. Contains z (get_or order i 0)) prefix (subst (Contains (take i (order ++ p ∷ []))) same h))
    by (inr l) =
        let n = length-append order (p ∷ []) in
        let last : length order ≡ i = omega (arith, n) in
        let same : get_or (order ++ p ∷ []) i 0 ≡ p = get_or_push order p 0 i last in
        let prefix : take i (order ++ p ∷ []) ≡ order = take-append-le i order (p ∷ []) (omega arith) ∙ take_all i order (omega arith) in
        free (subst (λ z. Contains z p) prefix (subst (Contains (take i (order ++ p ∷ []))) same h))

pub after_push : (R : ℕ → ℕ → Type 0) (order : List ℕ) (p : ℕ) → IsAfter R order → ((q : ℕ) → R p q → Contains order q) → IsAfter R (order ++ p ∷ [])
after_push R order p after all i q within r = by (cases_lt i (length order))
  where
    by : (i < length order) ⊎ (length order ≤ i) → Contains (take i (order ++ p ∷ [])) q
    by (inl l) = subst (λ z. Contains z q) (sym (take-append-le i order (p ∷ []) (omega arith)))
        (after i q l (subst (λ z. R z q) (get_or_append_left order (p ∷ []) 0 i l) r))
    by (inr l) =
        let n = length-append order (p ∷ []) in
        let last : length order ≡ i = omega (arith, n) in
        let whole : take i (order ++ p ∷ []) ≡ order = take-append-le i order (p ∷ []) (omega arith) ∙ take_all i order (omega arith) in
        subst (λ z. Contains z q) (sym whole) (all q (subst (λ z. R z q) (get_or_push order p 0 i last) r))

-- ---- paths that grow

-- the list leads on to b
abbrev pub Walks : (ℕ → ℕ → Type 0) → List ℕ → ℕ → Type 0
Walks R [] b = Unit {0}
Walks R (x ∷ xs) b = Leads R x xs b

pub leads_push : (R : ℕ → ℕ → Type 0) (a : ℕ) (xs : List ℕ) (b c : ℕ) → Leads R a xs b → R b c → Leads R a (xs ++ b ∷ []) c
leads_push R a [] b c l r = (l, r)
leads_push R a (x ∷ xs) b c l r = (l.0, leads_push R x xs b c l.1 r)

pub walks_push : (R : ℕ → ℕ → Type 0) (xs : List ℕ) (b c : ℕ) → Walks R xs b → R b c → Walks R (xs ++ b ∷ []) c
walks_push R [] b c w r = r
walks_push R (x ∷ xs) b c w r = leads_push R x xs b c w r

walks_drop : (R : ℕ → ℕ → Type 0) (k : ℕ) (xs : List ℕ) (b : ℕ) → Walks R xs b → Walks R (drop k xs) b
walks_drop R zero xs b w = w
walks_drop R (suc k) [] b w = tt
walks_drop R (suc k) (x ∷ []) b w = walks_drop R k [] b tt
walks_drop R (suc k) (x ∷ y ∷ ys) b w = walks_drop R k (y ∷ ys) b w.1

-- a path that leads on to one of its own nodes has a loop after it
pub loop_after : (R : ℕ → ℕ → Type 0) (xs : List ℕ) (k b : ℕ) → Walks R xs b → k < length xs → get_or xs k 0 ≡ b → IsLoop R (drop k xs)
loop_after R xs k b w within is =
    let e : drop k xs ≡ b ∷ drop (k + 1) xs = drop_more xs k 0 within ∙ ap (λ z. z ∷ drop (k + 1) xs) is in
    let led : Walks R (b ∷ drop (k + 1) xs) b = subst (λ z. Walks R z b) e (walks_drop R k xs b w) in
    subst (IsLoop R) (sym e) led
