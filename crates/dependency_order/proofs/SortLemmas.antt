-- What each step of a sorting keeps.
use Rattle.std.proofs.Common.{◌≡◌, ◌⊎◌, ℕ, ◌+◌, ◌<◌, ◌≤◌, Bool, true, false, not, cond, List, [], ◌∷◌, ◌++◌, length, take, drop, get_or, set, sym, ap, ◌∙◌, subst, inl, inr, arith}
use Rattle.std.specs.List.{Contains, count_by}
use Rattle.std.proofs.lemmas.List.{length-set, get_or-set_same, get_or-set_other, get_or_past, get_or_default, length-append, take-append-drop, take-append-le, take-take, take_more, take_all}
use Rattle.std.proofs.lemmas.List.Elements.{Contains-append_left, Contains-push, Contains-push_cases, Contains-get_or}
use Rattle.std.proofs.lemmas.List.Sums.{sum_by-set}
use Rattle.std.proofs.lemmas.Bool.{cases_eq, cases_lt, false≢true}
use Rattle.dependency_order.specs.Graph.{Needs, IsClosed, IsOrder}
use Rattle.dependency_order.specs.Sorting.{IsSorting, IsHeld, IsFurther, IsStuck}
use Rattle.dependency_order.specs.Paths.{IsMarked}
use Rattle.dependency_order.proofs.ListLemmas.{in_other, in_other_back, in_same_back, in_pushed, in_pushed_back, contains_none}
use Rattle.dependency_order.proofs.OrderLemmas.{once_push, after_push}

-- ---- marks

pub marked_within : (marks : List Bool) (p : ℕ) → IsMarked marks p → p < length marks
marked_within marks p m = by (cases_lt p (length marks))
  where
    by : (p < length marks) ⊎ (length marks ≤ p) → p < length marks
    by (inl l) = l
    by (inr l) = let e = get_or_past marks p false l in absurd (false≢true (sym e ∙ m))

pub set_marked : (old : List Bool) (node : ℕ) → node < length old → IsMarked (set old node true) node
set_marked old node within = get_or-set_same old node true false within

pub set_cases : (old : List Bool) (node k : ℕ) → IsMarked (set old node true) k → IsMarked old k ⊎ (node ≡ k)
set_cases old node k m = by (cases_eq k node)
  where
    by : (k ≡ node) ⊎ (k ≡ node → ⊥) → IsMarked old k ⊎ (node ≡ k)
    by (inl e) = inr (sym e)
    by (inr ne) = inl (sym (get_or-set_other old node k true false ne) ∙ m)

pub set_kept : (old : List Bool) (node k : ℕ) → node < length old → IsMarked old k → IsMarked (set old node true) k
set_kept old node k within m = by (cases_eq k node)
  where
    by : (k ≡ node) ⊎ (k ≡ node → ⊥) → IsMarked (set old node true) k
    by (inl e) = subst (λ z. IsMarked (set old node true) z) (sym e) (set_marked old node within)
    by (inr ne) = get_or-set_other old node k true false ne ∙ m

abbrev weight : Bool → ℕ
weight b = cond (not b) 1 0

-- one mark more is one node fewer that isn't marked
pub fewer : (old : List Bool) (node : ℕ) → node < length old → get_or old node false ≡ false → count_by not (set old node true) + 1 ≡ count_by not old
fewer old node within free =
    let s = sum_by-set weight old node true false within in
    let f : weight (get_or old node false) ≡ weight false = ap weight free in
    omega (arith, s, f)

-- ---- places

pub contains_take : (k : ℕ) (xs : List ℕ) (x : ℕ) → Contains (take k xs) x → Contains xs x
contains_take k xs x h = subst (λ z. Contains z x) (take-append-drop k xs) (Contains-append_left (take k xs) (drop k xs) x h)

-- what is needed stands in the list of needs at some place
pub at_each : (marks : List Bool) (row : List ℕ) → ((k : ℕ) → k < length row → IsMarked marks (get_or row k 0)) → (q : ℕ) → Contains row q → IsMarked marks q
at_each marks row all q h =
    let e : get_or row h.0 q ≡ q = h.2 in
    let d : get_or row h.0 0 ≡ q = default row h.0 q h.1 e in
    subst (IsMarked marks) d (all h.0 h.1)
  where
    default : (xs : List ℕ) (k x : ℕ) → k < length xs → get_or xs k x ≡ x → get_or xs k 0 ≡ x
    default xs k x l e = grind (arith, get_or_default)

-- ---- steps

pub sorting_passed : (g : List (List ℕ)) (order : List ℕ) (placed : List Bool) (passed : List ℕ) (waiting : List (List ℕ)) (node k : ℕ) → IsSorting g order placed passed waiting
    → ((j : ℕ) → j < k → j < length (get_or g node []) → IsMarked placed (get_or (get_or g node []) j 0)) → IsSorting g order placed (set passed node k) waiting
sorting_passed g order placed passed waiting node k s all = record {
  marks = s.marks;
  places = length-set passed node k ∙ s.places;
  lists = s.lists;
  count = s.count;
  marked = s.marked;
  listed = s.listed;
  once = s.once;
  after = s.after;
  over = λ p j below within. by p j below within (cases_eq p node);
  waits = s.waits;
}
  where
    by : (p j : ℕ) → j < get_or (set passed node k) p 0 → j < length (get_or g p []) → (p ≡ node) ⊎ (p ≡ node → ⊥) → IsMarked placed (get_or (get_or g p []) j 0)
    by p j below within (inl e) = inside (cases_lt node (length passed))
      where
        inside : (node < length passed) ⊎ (length passed ≤ node) → IsMarked placed (get_or (get_or g p []) j 0)
        inside (inl l) =
            let same : get_or (set passed node k) p 0 ≡ k = ap (λ z. get_or (set passed node k) z 0) e ∙ get_or-set_same passed node k 0 l in
            subst (λ z. IsMarked placed (get_or (get_or g z []) j 0)) (sym e) (all j (omega arith) (subst (λ z. j < length (get_or g z [])) e within))
        inside (inr l) =
            let same : get_or (set passed node k) p 0 ≡ 0 = get_or_past (set passed node k) p 0 (let n = length-set passed node k in omega (arith, n)) in
            absurd (omega arith)
    by p j below within (inr ne) = s.over p j (subst (λ z. j < z) (get_or-set_other passed node p k 0 ne) below) within

pub sorting_waits : (g : List (List ℕ)) (order : List ℕ) (placed : List Bool) (passed : List ℕ) (waiting : List (List ℕ)) (need node : ℕ) → IsSorting g order placed passed waiting → need < length waiting → node < length g
    → IsSorting g order placed passed (set waiting need (get_or waiting need [] ++ node ∷ []))
sorting_waits g order placed passed waiting need node s within inside = record {
  marks = s.marks;
  places = s.places;
  lists = length-set waiting need (get_or waiting need [] ++ node ∷ []) ∙ s.lists;
  count = s.count;
  marked = s.marked;
  listed = s.listed;
  once = s.once;
  after = s.after;
  over = s.over;
  waits = λ q p h. by q p (in_pushed_back waiting need node q p within h);
}
  where
    by : (q p : ℕ) → Contains (get_or waiting q []) p ⊎ ((q ≡ need) × (node ≡ p)) → p < length g
    by q p (inl h) = s.waits q p h
    by q p (inr e) = subst (λ z. z < length g) e.1 inside

pub further_waits : (g : List (List ℕ)) (order : List ℕ) (placed : List Bool) (waiting : List (List ℕ)) (need node : ℕ) → need < length waiting
    → IsFurther g order order placed placed waiting (set waiting need (get_or waiting need [] ++ node ∷ []))
further_waits g order placed waiting need node within = record {
  longer = omega arith;
  prefix = take_all (length order) order (omega arith);
  held = λ at p l h. by at p h;
}
  where
    by : (at p : ℕ) → IsHeld g order placed waiting at p → IsHeld g order placed (set waiting need (get_or waiting need [] ++ node ∷ [])) at p
    by at p (inl m) = inl m
    by at p (inr h) = inr (h.0, in_pushed waiting need node h.0 p within h.1, h.2, h.3)

pub held_waits : (g : List (List ℕ)) (order : List ℕ) (placed : List Bool) (passed : List ℕ) (waiting : List (List ℕ)) (need node at : ℕ) → IsSorting g order placed passed waiting → need < length waiting
    → Needs g node need → (IsMarked placed need → ⊥) → IsHeld g order placed (set waiting need (get_or waiting need [] ++ node ∷ [])) at node
held_waits g order placed passed waiting need node at s within needs free =
    inr (need, subst (λ z. Contains z node) (sym (get_or-set_same waiting need (get_or waiting need [] ++ node ∷ []) [] within)) (Contains-push (get_or waiting need []) node), needs, λ h. free (s.listed need (contains_take at order need h)))

pub sorting_places : (g : List (List ℕ)) (order : List ℕ) (placed : List Bool) (passed : List ℕ) (waiting : List (List ℕ)) (node : ℕ) → IsSorting g order placed passed waiting → node < length g
    → get_or placed node false ≡ false → ((q : ℕ) → Needs g node q → IsMarked placed q) → IsSorting g (order ++ node ∷ []) (set placed node true) passed waiting
sorting_places g order placed passed waiting node s inside free all = record {
  marks = length-set placed node true ∙ s.marks;
  places = s.places;
  lists = s.lists;
  count =
      let f = fewer placed node within free in
      let l = length-append order (node ∷ []) in
      let n = s.count in
      omega (arith, f, l, n);
  marked = λ p m. at_marked p (set_cases placed node p m);
  listed = λ p h. at_listed p (Contains-push_cases order node p h);
  once = once_push order node s.once (λ h. let m = s.listed node h in false≢true (sym free ∙ m));
  after = after_push (Needs g) order node s.after (λ q r. s.marked q (all q r));
  over = λ p k below l. set_kept placed node (get_or (get_or g p []) k 0) within (s.over p k below l);
  waits = s.waits;
}
  where
    within : node < length placed
    within = let m = s.marks in omega (arith, m)

    at_marked : (p : ℕ) → IsMarked placed p ⊎ (node ≡ p) → Contains (order ++ node ∷ []) p
    at_marked p (inl m) = Contains-append_left order (node ∷ []) p (s.marked p m)
    at_marked p (inr e) = subst (Contains (order ++ node ∷ [])) e (Contains-push order node)

    at_listed : (p : ℕ) → Contains order p ⊎ (node ≡ p) → IsMarked (set placed node true) p
    at_listed p (inl h) = set_kept placed node p within (s.listed p h)
    at_listed p (inr e) = subst (IsMarked (set placed node true)) e (set_marked placed node within)

pub further_places : (g : List (List ℕ)) (order : List ℕ) (placed : List Bool) (waiting : List (List ℕ)) (node : ℕ) → node < length placed
    → IsFurther g order (order ++ node ∷ []) placed (set placed node true) waiting waiting
further_places g order placed waiting node within = record {
  longer = let l = length-append order (node ∷ []) in omega (arith, l);
  prefix = take-append-le (length order) order (node ∷ []) (omega arith) ∙ take_all (length order) order (omega arith);
  held = λ at p l h. by at p l h;
}
  where
    by : (at p : ℕ) → at ≤ length order → IsHeld g order placed waiting at p → IsHeld g (order ++ node ∷ []) (set placed node true) waiting at p
    by at p l (inl m) = inl (set_kept placed node p within m)
    by at p l (inr h) = inr (h.0, h.1, h.2, λ c. h.3 (subst (λ z. Contains z h.0) (take-append-le at order (node ∷ []) l) c))

pub further_none : (g : List (List ℕ)) (order : List ℕ) (placed : List Bool) (waiting : List (List ℕ)) → IsFurther g order order placed placed waiting waiting
further_none g order placed waiting = record { longer = omega arith; prefix = take_all (length order) order (omega arith); held = λ at p l h. h }

pub further_more : (g : List (List ℕ)) (o o' o'' : List ℕ) (m m' m'' : List Bool) (w w' w'' : List (List ℕ)) → IsFurther g o o' m m' w w' → IsFurther g o' o'' m' m'' w' w'' → IsFurther g o o'' m m'' w w''
further_more g o o' o'' m m' m'' w w' w'' a b = record {
  longer = let x = a.longer in let y = b.longer in omega (arith, x, y);
  prefix = let x = a.longer in sym (take-take (length o) (length o') o'' (omega (arith, x))) ∙ ap (take (length o)) b.prefix ∙ a.prefix;
  held = λ at p l h. b.held at p (let x = a.longer in omega (arith, x)) (a.held at p l h);
}

-- ---- the nodes that wait for one are taken out

pub sorting_takes : (g : List (List ℕ)) (order : List ℕ) (placed : List Bool) (passed : List ℕ) (waiting : List (List ℕ)) (node : ℕ) → IsSorting g order placed passed waiting
    → IsSorting g order placed passed (set waiting node [])
sorting_takes g order placed passed waiting node s = record {
  marks = s.marks;
  places = s.places;
  lists = length-set waiting node [] ∙ s.lists;
  count = s.count;
  marked = s.marked;
  listed = s.listed;
  once = s.once;
  after = s.after;
  over = s.over;
  waits = λ q p h. by q p h (cases_eq q node);
}
  where
    by : (q p : ℕ) → Contains (get_or (set waiting node []) q []) p → (q ≡ node) ⊎ (q ≡ node → ⊥) → p < length g
    by q p h (inl e) = inside (cases_lt node (length waiting))
      where
        inside : (node < length waiting) ⊎ (length waiting ≤ node) → p < length g
        inside (inl l) = absurd (contains_none p (in_same_back waiting node [] p l (subst (λ z. Contains (get_or (set waiting node []) z []) p) e h)))
        inside (inr l) = absurd (contains_none p (subst (λ z. Contains z p) (get_or_past (set waiting node []) q [] (let n = length-set waiting node [] in omega (arith, n))) h))
    by q p h (inr ne) = s.waits q p (in_other_back waiting node q [] p ne h)

-- each node is held a place further, or was taken out
pub held_takes : (g : List (List ℕ)) (order : List ℕ) (placed : List Bool) (waiting : List (List ℕ)) (node at p : ℕ) → at < length order → get_or order at 0 ≡ node → IsHeld g order placed waiting at p
    → IsHeld g order placed (set waiting node []) (at + 1) p ⊎ Contains (get_or waiting node []) p
held_takes g order placed waiting node at p within is (inl m) = inl (inl m)
held_takes g order placed waiting node at p within is (inr h) = by (cases_eq h.0 node)
  where
    by : (h.0 ≡ node) ⊎ (h.0 ≡ node → ⊥) → IsHeld g order placed (set waiting node []) (at + 1) p ⊎ Contains (get_or waiting node []) p
    by (inl e) = inr (subst (λ z. Contains (get_or waiting z []) p) e h.1)
    by (inr ne) = inl (inr (
      h.0,
      in_other waiting node h.0 [] p ne h.1,
      h.2,
      λ c. out (Contains-push_cases (take at order) node h.0
          (subst (λ z. Contains z h.0) (take_more order at 0 within ∙ ap (λ z. take at order ++ z ∷ []) is) c)),
    ))
      where
        out : Contains (take at order) h.0 ⊎ (node ≡ h.0) → ⊥
        out (inl c) = h.3 c
        out (inr e) = ne (sym e)

-- ---- the end

pub stuck_at_end : (g : List (List ℕ)) (order : List ℕ) (placed : List Bool) (passed : List ℕ) (waiting : List (List ℕ)) (at : ℕ) → IsSorting g order placed passed waiting → length order ≤ at
    → ((p : ℕ) → p < length g → IsHeld g order placed waiting at p) → IsStuck g placed
stuck_at_end g order placed passed waiting at s past held p within = by (held p within)
  where
    by : IsHeld g order placed waiting at p → IsMarked placed p ⊎ ((q : ℕ) × Needs g p q × (IsMarked placed q → ⊥))
    by (inl m) = inl m
    by (inr h) = inr (h.0, h.2, λ m. h.3 (subst (λ z. Contains z h.0) (sym (take_all at order past)) (s.marked h.0 m)))

pub whole_order : (g : List (List ℕ)) (order : List ℕ) (placed : List Bool) (passed : List ℕ) (waiting : List (List ℕ)) → IsSorting g order placed passed waiting
    → ((p : ℕ) → p < length placed → IsMarked placed p) → IsOrder (λ p. p < length g) (Needs g) order
whole_order g order placed passed waiting s all = record {
  each = λ p l. s.marked p (all p (let m = s.marks in omega (arith, m)));
  only = λ p h. let l = marked_within placed p (s.listed p h) in let m = s.marks in omega (arith, l, m);
  once = s.once;
  after = s.after;
}

-- the same of marks that were lent
pub whole_order_of : (g : List (List ℕ)) (order : List ℕ) (placed lent : List Bool) (passed : List ℕ) (waiting : List (List ℕ)) → lent ≡ placed → IsSorting g order placed passed waiting
    → ((p : ℕ) → p < length lent → IsMarked lent p) → IsOrder (λ p. p < length g) (Needs g) order
whole_order_of g order placed lent passed waiting is s all = whole_order g order placed passed waiting s (subst (λ (z : List Bool). (p : ℕ) → p < length z → IsMarked z p) is all)

-- ---- passing over needs

pub row_within : (g : List (List ℕ)) (placed lent : List Bool) (row : List ℕ) (node : ℕ) → lent ≡ placed → length placed ≡ length g → row ≡ get_or g node [] → IsClosed g → (k : ℕ) → k < length row → get_or row k 0 < length lent
row_within g placed lent row node is marks same closed k within =
    let n : length lent ≡ length g = ap length is ∙ marks in
    let has : Contains (get_or g node []) (get_or row k 0) = subst (λ z. Contains z (get_or row k 0)) same (Contains-get_or row k 0 within) in
    let l = closed.below node (get_or row k 0) has in
    omega (arith, n, l)

pub passes : (g : List (List ℕ)) (order : List ℕ) (placed lent : List Bool) (passed : List ℕ) (waiting : List (List ℕ)) (row : List ℕ) (node from at : ℕ) → IsSorting g order placed passed waiting
    → lent ≡ placed → row ≡ get_or g node [] → from ≡ get_or passed node 0 → ((k : ℕ) → from ≤ k → k < at → k < length row → IsMarked lent (get_or row k 0))
    → (k : ℕ) → k < at → k < length row → IsMarked placed (get_or row k 0)
passes g order placed lent passed waiting row node from at s is same begin all k below within = by (cases_lt k from)
  where
    by : (k < from) ⊎ (from ≤ k) → IsMarked placed (get_or row k 0)
    by (inl l) = subst (λ z. IsMarked placed (get_or z k 0)) (sym same) (s.over node k (omega (arith, begin)) (subst (λ z. k < length z) same within))
    by (inr l) = subst (λ z. IsMarked z (get_or row k 0)) is (all k l below within)
