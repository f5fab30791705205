-- Lists of lists, and where numbers stand in lists.
use Rattle.std.proofs.Common.{◌≡◌, ◌⊎◌, ℕ, zero, suc, ◌+◌, ◌<◌, ◌≤◌, List, [], ◌∷◌, ◌++◌, length, get_or, set, sym, ap, ◌∙◌, subst, inl, inr, arith}
use Rattle.std.specs.List.{Contains, All}
use Rattle.std.specs.declared.alloc.Global.{Global}
use Rattle.std.specs.declared.vec.Vec.{Vec}
use Rattle.std.proofs.lemmas.List.{get_or_past, map-set, get_or-map, get_or-set_same, get_or-set_other, length-map}
use Rattle.std.proofs.lemmas.List.Elements.{Contains-append_left, Contains-push_cases, Contains-get_or, All-contains, All-from_get_or}
use Rattle.std.proofs.lemmas.Bool.{cases_eq, cases_lt}
use Rattle.dependency_order.specs.Graph.{AreBelow, Needs, lists_of}

abbrev items : Vec ℕ Global → List ℕ
items row = row.items

-- the list of lists, where one has more after it
pub with_row : (rows : List (Vec ℕ Global)) (lists : List (List ℕ)) (at : ℕ) (old new : Vec ℕ Global) (more : List ℕ) → lists_of rows ≡ lists → at < length lists → old ≡ get_or rows at old → new.items ≡ old.items ++ more
    → lists_of (set rows at new) ≡ set lists at (get_or lists at [] ++ more)
with_row rows lists at old new more view inside is has =
    let n = length-map rows items in
    let m = ap length view in
    let within : at < length rows = omega (arith, n, m) in
    let same : get_or (lists_of rows) at [] ≡ old.items = get_or-map items rows at old [] within ∙ ap items (sym is) in
    subst (λ z. lists_of (set rows at new) ≡ set z at (get_or z at [] ++ more)) view
    (map-set items rows at new ∙ ap (λ z. set (lists_of rows) at z) (has ∙ ap (λ z. z ++ more) (sym same)))

pub without_row : (rows : List (Vec ℕ Global)) (lists : List (List ℕ)) (at : ℕ) (new : Vec ℕ Global) → lists_of rows ≡ lists → new.items ≡ [] → lists_of (set rows at new) ≡ set lists at []
without_row rows lists at new view has = map-set items rows at new ∙ ap (λ z. set (lists_of rows) at z) has ∙ ap (λ z. set z at []) view

-- what a list at a place contains after a change of one list
pub in_other : (rows : List (List ℕ)) (at k : ℕ) (new : List ℕ) (x : ℕ) → (k ≡ at → ⊥) → Contains (get_or rows k []) x → Contains (get_or (set rows at new) k []) x
in_other rows at k new x ne has = subst (λ z. Contains z x) (sym (get_or-set_other rows at k new [] ne)) has

pub in_other_back : (rows : List (List ℕ)) (at k : ℕ) (new : List ℕ) (x : ℕ) → (k ≡ at → ⊥) → Contains (get_or (set rows at new) k []) x → Contains (get_or rows k []) x
in_other_back rows at k new x ne has = subst (λ z. Contains z x) (get_or-set_other rows at k new [] ne) has

pub in_same : (rows : List (List ℕ)) (at : ℕ) (new : List ℕ) (x : ℕ) → at < length rows → Contains new x → Contains (get_or (set rows at new) at []) x
in_same rows at new x within has = subst (λ z. Contains z x) (sym (get_or-set_same rows at new [] within)) has

pub in_same_back : (rows : List (List ℕ)) (at : ℕ) (new : List ℕ) (x : ℕ) → at < length rows → Contains (get_or (set rows at new) at []) x → Contains new x
in_same_back rows at new x within has = subst (λ z. Contains z x) (get_or-set_same rows at new [] within) has

-- a number after the list at a place
pub in_pushed : (rows : List (List ℕ)) (at number k x : ℕ) → at < length rows → Contains (get_or rows k []) x → Contains (get_or (set rows at (get_or rows at [] ++ number ∷ [])) k []) x
in_pushed rows at number k x within has = by (cases_eq k at)
  where
    by : (k ≡ at) ⊎ (k ≡ at → ⊥) → Contains (get_or (set rows at (get_or rows at [] ++ number ∷ [])) k []) x
    by (inl e) = subst (λ z. Contains (get_or (set rows at (get_or rows at [] ++ number ∷ [])) z []) x) (sym e)
        (in_same rows at (get_or rows at [] ++ number ∷ []) x within (Contains-append_left (get_or rows at []) (number ∷ []) x (subst (λ z. Contains (get_or rows z []) x) e has)))
    by (inr ne) = in_other rows at k (get_or rows at [] ++ number ∷ []) x ne has

pub in_pushed_back : (rows : List (List ℕ)) (at number k x : ℕ) → at < length rows → Contains (get_or (set rows at (get_or rows at [] ++ number ∷ [])) k []) x → Contains (get_or rows k []) x ⊎ ((k ≡ at) × (number ≡ x))
in_pushed_back rows at number k x within has = by (cases_eq k at)
  where
    after : (k ≡ at) → Contains (get_or rows at []) x ⊎ (number ≡ x) → Contains (get_or rows k []) x ⊎ ((k ≡ at) × (number ≡ x))
    after e (inl c) = inl (subst (λ z. Contains (get_or rows z []) x) (sym e) c)
    after e (inr same) = inr (e, same)

    by : (k ≡ at) ⊎ (k ≡ at → ⊥) → Contains (get_or rows k []) x ⊎ ((k ≡ at) × (number ≡ x))
    by (inl e) = after e (Contains-push_cases (get_or rows at []) number x
        (in_same_back rows at (get_or rows at [] ++ number ∷ []) x within (subst (λ z. Contains (get_or (set rows at (get_or rows at [] ++ number ∷ [])) z []) x) e has)))
    by (inr ne) = inl (in_other_back rows at k (get_or rows at [] ++ number ∷ []) x ne has)

pub contains_none : {A : Type 0} (x : A) → Contains {X = A} [] x → ⊥
contains_none x h = absurd (omega (arith, h.1))

pub contains_one : (y x : ℕ) → Contains (y ∷ []) x → y ≡ x
contains_one y x h = at' h.0 h.1 h.2
  where
    at' : (k : ℕ) → k < 1 → get_or (y ∷ []) k x ≡ x → y ≡ x
    at' zero l e = e
    at' (suc k) l e = absurd (omega (arith, l))

-- a node with needs is one of the graph
pub needs_within : (g : List (List ℕ)) (p q : ℕ) → Needs g p q → p < length g
needs_within g p q h = by (cases_lt p (length g))
  where
    by : (p < length g) ⊎ (length g ≤ p) → p < length g
    by (inl l) = l
    by (inr l) = absurd (contains_none q (subst (λ z. Contains z q) (get_or_past g p [] l) h))

-- ---- numbers below a limit

pub list_below : (lists : List (List ℕ)) (limit at : ℕ) → AreBelow lists limit → All (λ q. q < limit) (get_or lists at [])
list_below lists limit at below = All-from_get_or (λ q. q < limit) (get_or lists at []) 0 (λ k l. below at (get_or (get_or lists at []) k 0) (Contains-get_or (get_or lists at []) k 0 l))

pub below_next : (lists : List (List ℕ)) (limit at : ℕ) (row : List ℕ) → row ≡ get_or lists at [] → ((p q : ℕ) → p < at → Needs lists p q → q < limit) → All (λ q. q < limit) row → (p q : ℕ) → p < at + 1 → Needs lists p q → q < limit
below_next lists limit at row is before here p q l h = by (cases_lt p at)
  where
    by : (p < at) ⊎ (at ≤ p) → q < limit
    by (inl b) = before p q b h
    by (inr b) =
        let e : p ≡ at = omega arith in
        All-contains (λ z. z < limit) row q here (subst (λ z. Contains z q) (sym is) (subst (λ z. Needs lists z q) e h))

pub below_all : (lists : List (List ℕ)) (limit at : ℕ) → length lists ≤ at → ((p q : ℕ) → p < at → Needs lists p q → q < limit) → AreBelow lists limit
below_all lists limit at past before p q h = before p q (let l = needs_within lists p q h in omega (arith, l)) h
