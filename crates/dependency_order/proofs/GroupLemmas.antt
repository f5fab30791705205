-- From a graph with a node for each group to what nodes need.
use Rattle.std.proofs.Common.{◌≡◌, ◌⊎◌, ℕ, ◌+◌, ◌-◌, ◌<◌, ◌≤◌, Bool, List, [], ◌∷◌, ◌++◌, length, take, get_or, Option, Some, None, refl, sym, ap, ◌∙◌, subst, inl, inr, arith}
use Rattle.std.specs.Prelude.{nat_lt}
use Rattle.std.specs.List.{Contains, All, filter}
use Rattle.std.proofs.lemmas.List.{get_or_read, get_or_past, take-take, length-take-le, get_or_default, get_or-take}
use Rattle.std.proofs.lemmas.List.Elements.{Contains-append_left, Contains-append_right, Contains-append_cases, Contains-get_or, All-head, All-filter}
use Rattle.std.proofs.lemmas.Bool.{cases_lt, ltb-true, lt-ltb, le-ltb}
use Rattle.dependency_order.specs.declared.grouped.GroupedNeeds.{GroupedNeeds}
use Rattle.dependency_order.specs.Graph.{AreBelow, Needs, IsOnce, IsAfter, IsOrder, IsClosed, Leads, IsLoop, BeginsLeast}
use Rattle.dependency_order.specs.Grouped.{NeedsGrouped, IsGrouped, IsExpanded, group_node}
use Rattle.dependency_order.specs.Answers.{IsLeastLoop}
use Rattle.dependency_order.proofs.ListLemmas.{contains_none, contains_one, needs_within}
use Rattle.dependency_order.proofs.SortLemmas.{contains_take}
use Rattle.dependency_order.proofs.FilterLemmas.{Stood, contains_head, filter_yes, filter_no, filter_keeps, filter_back, filter_at}
use Rattle.dependency_order.proofs.LoopLemmas.{loop_no_order}

-- ---- the edges of the graph

edge_back : (n : GroupedNeeds) (g : List (List ℕ)) (p x : ℕ) → IsExpanded n g → p < length n.listed → Needs g p x → Needs n.listed p x ⊎ ((c : ℕ) × (get_or n.group_of.items p None ≡ Some c) × (length n.listed + c ≡ x))
edge_back n g p x ex inside h = by (Contains-append_cases (get_or n.listed p []) (group_node (length n.listed) (get_or n.group_of.items p None)) x (subst (λ z. Contains z x) (ex.node p inside) h))
  where
    of : (o : Option ℕ) → get_or n.group_of.items p None ≡ o → Contains (group_node (length n.listed) o) x → (c : ℕ) × (get_or n.group_of.items p None ≡ Some c) × (length n.listed + c ≡ x)
    of None e c = absurd (contains_none x c)
    of (Some k) e c = (k, e, contains_one (length n.listed + k) x c)

    by : Needs n.listed p x ⊎ Contains (group_node (length n.listed) (get_or n.group_of.items p None)) x → Needs n.listed p x ⊎ ((c : ℕ) × (get_or n.group_of.items p None ≡ Some c) × (length n.listed + c ≡ x))
    by (inl c) = inl c
    by (inr c) = inr (of (get_or n.group_of.items p None) refl c)

edge_group : (n : GroupedNeeds) (g : List (List ℕ)) (c x : ℕ) → IsExpanded n g → Needs g (length n.listed + c) x → Needs n.groups c x
edge_group n g c x ex h = subst (λ z. Contains z x) (ex.group c) h

below_graph : (n : GroupedNeeds) (g : List (List ℕ)) → IsGrouped n → IsExpanded n g → AreBelow g (length g)
below_graph n g gr ex p q h = by (cases_lt p (length n.listed))
  where
    size : length g ≡ length n.listed + length n.groups
    size = ex.nodes

    of : Needs n.listed p q ⊎ ((c : ℕ) × (get_or n.group_of.items p None ≡ Some c) × (length n.listed + c ≡ q)) → q < length g
    of (inl l) = let b = gr.listed p q l in let s = size in omega (arith, b, s)
    of (inr k) = let b = gr.named p k.0 k.1 in let s = size in let e = k.2 in omega (arith, b, s, e)

    by : (p < length n.listed) ⊎ (length n.listed ≤ p) → q < length g
    by (inl l) = of (edge_back n g p q ex l h)
    by (inr l) =
        let e : p ≡ length n.listed + (p - length n.listed) = omega arith in
        let b = gr.groups (p - length n.listed) q (edge_group n g (p - length n.listed) q ex (subst (λ z. Needs g z q) e h)) in
        let s = size in
        omega (arith, b, s)

pub closed_graph : (n : GroupedNeeds) (g : List (List ℕ)) → IsGrouped n → IsExpanded n g → IsClosed g
closed_graph n g gr ex = record { below = below_graph n g gr ex }

-- ---- orders

abbrev kept : GroupedNeeds → List ℕ → List ℕ
kept n order = filter (λ p. nat_lt p (length n.listed)) order

after_kept : (n : GroupedNeeds) (g : List (List ℕ)) (order : List ℕ) → IsGrouped n → IsExpanded n g → IsOrder (λ p. p < length g) (Needs g) order → IsAfter (NeedsGrouped n) (kept n order)
after_kept n g order gr ex o i q within r =
    let s = filter_at (λ p. nat_lt p (length n.listed)) order i within in
    let p = get_or (kept n order) i 0 in
    let inside = ltb-true p (length n.listed) (filter_back (λ z. nat_lt z (length n.listed)) order p (Contains-get_or (kept n order) i 0 within)).1 in
    let there : Contains (take s.at order) q = by s inside r in
    subst (λ z. Contains z q) s.before (filter_keeps (λ z. nat_lt z (length n.listed)) (take s.at order) q there (lt-ltb q (length n.listed) (bound r)))
  where
    bound : NeedsGrouped n (get_or (kept n order) i 0) q → q < length n.listed
    bound (inl l) = gr.listed (get_or (kept n order) i 0) q l
    bound (inr k) = gr.groups k.0 q k.2

    direct : (s : Stood (λ p. nat_lt p (length n.listed)) order i) (x : ℕ) → Needs g (get_or (kept n order) i 0) x → Contains (take s.at order) x
    direct s x h = o.after s.at x s.within (subst (λ z. Needs g z x) (sym s.is) h)

    -- the group stands before the node, and what it needs before the group
    through : (s : Stood (λ p. nat_lt p (length n.listed)) order i) (h x : ℕ) → Contains (take s.at order) h → Needs g h x → Contains (take s.at order) x
    through s h x c e = earlier c.0 c.1 c.2
      where
        earlier : (j : ℕ) → j < length (take s.at order) → get_or (take s.at order) j h ≡ h → Contains (take s.at order) x
        earlier j l is =
            let n' : length (take s.at order) ≡ s.at = length-take-le s.at order (let w = s.within in omega (arith, w)) in
            let below : j < s.at = omega (arith, n', l) in
            let inside : j < length order = (let w = s.within in omega (arith, w, below)) in
            let here : get_or order j 0 ≡ h = get_or_default order j 0 h inside ∙ sym (get_or-take s.at order j h below) ∙ is in
            let found : Contains (take j order) x = o.after j x inside (subst (λ z. Needs g z x) (sym here) e) in
            contains_take j (take s.at order) x (subst (λ z. Contains z x) (sym (take-take j s.at order (omega arith))) found)

    by : (s : Stood (λ p. nat_lt p (length n.listed)) order i) → get_or (kept n order) i 0 < length n.listed → NeedsGrouped n (get_or (kept n order) i 0) q → Contains (take s.at order) q
    by s inside (inl l) = direct s q (subst (λ z. Contains z q) (sym (ex.node (get_or (kept n order) i 0) inside)) (Contains-append_left (get_or n.listed (get_or (kept n order) i 0) []) (group_node (length n.listed) (get_or n.group_of.items (get_or (kept n order) i 0) None)) q l))
    by s inside (inr k) =
        let hub : Needs g (get_or (kept n order) i 0) (length n.listed + k.0) =
        subst (λ z. Contains z (length n.listed + k.0)) (sym (ex.node (get_or (kept n order) i 0) inside ∙ ap (λ z. get_or n.listed (get_or (kept n order) i 0) [] ++ group_node (length n.listed) z) k.1))
        (Contains-append_right (get_or n.listed (get_or (kept n order) i 0) []) ((length n.listed + k.0) ∷ []) (length n.listed + k.0) (contains_head (length n.listed + k.0) [])) in
        through s (length n.listed + k.0) q (direct s (length n.listed + k.0) hub) (subst (λ z. Contains z q) (sym (ex.group k.0)) k.2)

once_kept : (n : GroupedNeeds) (order : List ℕ) → IsOnce order → IsOnce (kept n order)
once_kept n order once i within h =
    let f = λ (p : ℕ). nat_lt p (length n.listed) in
    let s = filter_at f order i within in
    let c : Contains (filter f (take s.at order)) (get_or (filter f order) i 0) = subst (λ z. Contains z (get_or (filter f order) i 0)) (sym s.before) h in
    let b = filter_back f (take s.at order) (get_or (filter f order) i 0) c in
    once s.at s.within (subst (Contains (take s.at order)) (sym s.is) b.0)

pub order_kept : (n : GroupedNeeds) (g : List (List ℕ)) (order : List ℕ) → IsGrouped n → IsExpanded n g → IsOrder (λ p. p < length g) (Needs g) order → IsOrder (λ p. p < length n.listed) (NeedsGrouped n) (kept n order)
order_kept n g order gr ex o = record {
  each = λ p l. filter_keeps (λ z. nat_lt z (length n.listed)) order p (o.each p (let s = ex.nodes in omega (arith, s, l))) (lt-ltb p (length n.listed) l);
  only = λ p h. ltb-true p (length n.listed) (filter_back (λ z. nat_lt z (length n.listed)) order p h).1;
  once = once_kept n order o.once;
  after = after_kept n g order gr ex o;
}

-- ---- loops

leads_grouped : (n : GroupedNeeds) (g : List (List ℕ)) → IsGrouped n → IsExpanded n g → (a : ℕ) (xs : List ℕ) (b : ℕ) → a < length n.listed → b < length n.listed → Leads (Needs g) a xs b → Leads (NeedsGrouped n) a (kept n xs) b
leads_grouped n g gr ex a [] b ia ib leads = by (edge_back n g a b ex ia leads)
  where
    by : Needs n.listed a b ⊎ ((c : ℕ) × (get_or n.group_of.items a None ≡ Some c) × (length n.listed + c ≡ b)) → NeedsGrouped n a b
    by (inl l) = inl l
    by (inr k) = let e = k.2 in absurd (omega (arith, e, ib))
leads_grouped n g gr ex a (x ∷ []) b ia ib leads = by (cases_lt x (length n.listed)) (edge_back n g a x ex ia leads.0) (λ ix. leads_grouped n g gr ex x [] b ix ib leads.1)
  where
    goes : List ℕ → Type 0
    goes xs = Leads (NeedsGrouped n) a xs b

    by : (x < length n.listed) ⊎ (length n.listed ≤ x) → Needs n.listed a x ⊎ ((c : ℕ) × (get_or n.group_of.items a None ≡ Some c) × (length n.listed + c ≡ x)) → (x < length n.listed → Leads (NeedsGrouped n) x [] b) → Leads (NeedsGrouped n) a (kept n (x ∷ [])) b
    by (inl l) (inl e) rec = subst (λ z. Leads (NeedsGrouped n) a z b) (sym (filter_yes (λ p. nat_lt p (length n.listed)) x [] (lt-ltb x (length n.listed) l))) (inl e, rec l)
    by (inl l) (inr k) rec = let e = k.2 in absurd (omega (arith, e, l))
    by (inr l) (inl e) rec = let i = gr.listed a x e in absurd (omega (arith, i, l))
    by (inr l) (inr k) rec =
        subst (λ z. Leads (NeedsGrouped n) a z b) (sym (filter_no (λ p. nat_lt p (length n.listed)) x [] (le-ltb x (length n.listed) l)))
        (inr (k.0, k.1, edge_group n g k.0 b ex (subst (λ z. Needs g z b) (sym k.2) leads.1)))
leads_grouped n g gr ex a (x ∷ y ∷ ys) b ia ib leads = by (cases_lt x (length n.listed)) (edge_back n g a x ex ia leads.0) (λ ix. leads_grouped n g gr ex x (y ∷ ys) b ix ib leads.1) (λ iy. leads_grouped n g gr ex y ys b iy ib leads.1.1)
  where
    by : (x < length n.listed) ⊎ (length n.listed ≤ x) → Needs n.listed a x ⊎ ((c : ℕ) × (get_or n.group_of.items a None ≡ Some c) × (length n.listed + c ≡ x)) → (x < length n.listed → Leads (NeedsGrouped n) x (kept n (y ∷ ys)) b)
        → (y < length n.listed → Leads (NeedsGrouped n) y (kept n ys) b) → Leads (NeedsGrouped n) a (kept n (x ∷ y ∷ ys)) b
    by (inl l) (inl e) rec rec' = subst (λ z. Leads (NeedsGrouped n) a z b) (sym (filter_yes (λ p. nat_lt p (length n.listed)) x (y ∷ ys) (lt-ltb x (length n.listed) l))) (inl e, rec l)
    by (inl l) (inr k) rec rec' = let e = k.2 in absurd (omega (arith, e, l))
    by (inr l) (inl e) rec rec' = let i = gr.listed a x e in absurd (omega (arith, i, l))
    by (inr l) (inr k) rec rec' =
        let of : Needs n.groups k.0 y = edge_group n g k.0 y ex (subst (λ z. Needs g z y) (sym k.2) leads.1.0) in
        let iy = gr.groups k.0 y of in
        subst (λ z. Leads (NeedsGrouped n) a z b) (sym (filter_no (λ p. nat_lt p (length n.listed)) x (y ∷ ys) (le-ltb x (length n.listed) l) ∙ filter_yes (λ p. nat_lt p (length n.listed)) y ys (lt-ltb y (length n.listed) iy)))
        (inr (k.0, k.1, of), rec' iy)

-- the least of a loop is a node, since a group needs nodes alone
first_node : (n : GroupedNeeds) (g : List (List ℕ)) (x : ℕ) (xs : List ℕ) → IsGrouped n → IsExpanded n g → Leads (Needs g) x xs x → All (λ y. x ≤ y) xs → x < length n.listed
first_node n g x xs gr ex leads least = by (cases_lt x (length n.listed))
  where
    needed : length n.listed ≤ x → (q : ℕ) → Needs g x q → q < length n.listed
    needed l q h =
        let e : x ≡ length n.listed + (x - length n.listed) = omega arith in
        gr.groups (x - length n.listed) q (edge_group n g (x - length n.listed) q ex (subst (λ z. Needs g z q) e h))

    next : (ys : List ℕ) → Leads (Needs g) x ys x → All (λ y. x ≤ y) ys → length n.listed ≤ x → x < length n.listed
    next [] h all l = needed l x h
    next (y ∷ ys) h all l =
        let i = needed l y h.0 in
        let m = All-head (λ z. x ≤ z) y ys all in
        omega (arith, i, m)

    by : (x < length n.listed) ⊎ (length n.listed ≤ x) → x < length n.listed
    by (inl l) = l
    by (inr l) = next xs leads least l

all_kept : (f : ℕ → Bool) (x : ℕ) (xs : List ℕ) → All (λ y. x ≤ y) xs → All (λ y. x ≤ y) (filter f xs)
all_kept f x xs all = All-filter f (λ y. x ≤ y) xs all

pub loop_kept : (n : GroupedNeeds) (g : List (List ℕ)) (nodes : List ℕ) → IsGrouped n → IsExpanded n g → IsLoop (Needs g) nodes → BeginsLeast nodes → IsLoop (NeedsGrouped n) (kept n nodes) × BeginsLeast (kept n nodes)
loop_kept n g [] gr ex loop least = absurd loop
loop_kept n g (x ∷ xs) gr ex loop least =
    let f = λ (p : ℕ). nat_lt p (length n.listed) in
    let i = first_node n g x xs gr ex loop least in
    let e : kept n (x ∷ xs) ≡ x ∷ kept n xs = filter_yes f x xs (lt-ltb x (length n.listed) i) in
    let l : IsLoop (NeedsGrouped n) (x ∷ kept n xs) = leads_grouped n g gr ex x xs x i i loop in
    let m : BeginsLeast (x ∷ kept n xs) = all_kept f x xs least in
    (subst (IsLoop (NeedsGrouped n)) (sym e) l, subst BeginsLeast (sym e) m)

-- ---- the code's steps

pub group_within : (n : GroupedNeeds) (p c : ℕ) (found : Option ℕ) → IsGrouped n → p < length n.group_of.items → found ≡ get_or n.group_of.items p found → found ≡ Some c → c < length n.groups
group_within n p c found gr within is some = gr.named p c (sym (get_or_read n.group_of.items p found within is None) ∙ some)

kept_is : (n : GroupedNeeds) (nodes lent order : List ℕ) (count : ℕ) → lent ≡ nodes → count ≡ length n.listed → order ≡ filter (λ p. nat_lt p count) lent → order ≡ kept n nodes
kept_is n nodes lent order count same is e = e ∙ ap (λ z. filter (λ p. nat_lt p z) lent) is ∙ ap (λ z. filter (λ p. nat_lt p (length n.listed)) z) same

pub order_answer : (n : GroupedNeeds) (g : List (List ℕ)) (nodes lent order : List ℕ) (count : ℕ) → IsGrouped n → IsExpanded n g → lent ≡ nodes → count ≡ length n.listed → order ≡ filter (λ p. nat_lt p count) lent
    → IsOrder (λ p. p < length g) (Needs g) nodes → IsOrder (λ p. p < length n.listed) (NeedsGrouped n) order
order_answer n g nodes lent order count gr ex same is e o =
    subst (IsOrder (λ p. p < length n.listed) (NeedsGrouped n)) (sym (kept_is n nodes lent order count same is e)) (order_kept n g nodes gr ex o)

-- who needs something is a node
among_grouped : (n : GroupedNeeds) → IsGrouped n → (p q : ℕ) → NeedsGrouped n p q → p < length n.listed
among_grouped n gr p q (inl l) = needs_within n.listed p q l
among_grouped n gr p q (inr k) = by (cases_lt p (length n.listed))
  where
    by : (p < length n.listed) ⊎ (length n.listed ≤ p) → p < length n.listed
    by (inl l) = l
    by (inr l) =
        let none = get_or_past n.group_of.items p None (let e = gr.places in omega (arith, e, l)) in
        let no : None ≡ Some k.0 = sym none ∙ k.1 in
        cc

pub loop_answer : (n : GroupedNeeds) (g : List (List ℕ)) (nodes lent found : List ℕ) (count : ℕ) → IsGrouped n → IsExpanded n g → lent ≡ nodes → count ≡ length n.listed → found ≡ filter (λ p. nat_lt p count) lent
    → IsLeastLoop (λ p. p < length g) (Needs g) nodes → IsLeastLoop (λ p. p < length n.listed) (NeedsGrouped n) found
loop_answer n g nodes lent found count gr ex same is e was =
    let k = kept_is n nodes lent found count same is e in
    let l = loop_kept n g nodes gr ex was.loop was.least in
    let loop = subst (IsLoop (NeedsGrouped n)) (sym k) l.0 in
    record {
      loop = loop;
      least = subst BeginsLeast (sym k) l.1;
      no_order = λ order o. loop_no_order (λ p. p < length n.listed) (NeedsGrouped n) found order (among_grouped n gr) loop o;
    }
