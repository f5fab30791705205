-- Loops: begun elsewhere, begun at the least, and that there is no order where there is a loop.
use Rattle.std.proofs.Common.{◌≡◌, ℕ, zero, suc, ◌+◌, ◌<◌, ◌≤◌, List, [], ◌∷◌, ◌++◌, length, take, drop, get_or, sym, ap, ◌∙◌, subst, arith}
use Rattle.std.specs.List.{Contains, All}
use Rattle.std.proofs.lemmas.List.{append-nil, take-append-drop, drop_more, length-take-le, get_or_default, get_or-take}
use Rattle.std.proofs.lemmas.List.Elements.{All-append, All-drop, All-take, All-from_get_or}
use Rattle.dependency_order.specs.Graph.{IsAfter, IsOrder, Leads, IsLoop, BeginsLeast, IsRotated}
use Rattle.dependency_order.specs.Answers.{IsLeastLoop}

-- the same loop, begun elsewhere
chain_split : (R : ℕ → ℕ → Type 0) (a : ℕ) (xs : List ℕ) (y : ℕ) (ys : List ℕ) (b : ℕ) → Leads R a (xs ++ y ∷ ys) b → Leads R a xs y × Leads R y ys b
chain_split R a [] y ys b l = (l.0, l.1)
chain_split R a (x ∷ xs) y ys b l = let s = chain_split R x xs y ys b l.1 in ((l.0, s.0), s.1)

chain_join : (R : ℕ → ℕ → Type 0) (a : ℕ) (xs : List ℕ) (y : ℕ) (ys : List ℕ) (b : ℕ) → Leads R a xs y → Leads R y ys b → Leads R a (xs ++ y ∷ ys) b
chain_join R a [] y ys b l m = (l, m)
chain_join R a (x ∷ xs) y ys b l m = (l.0, chain_join R x xs y ys b l.1 m)

loop_turned : (R : ℕ → ℕ → Type 0) (xs ys : List ℕ) → IsLoop R (xs ++ ys) → IsLoop R (ys ++ xs)
loop_turned R [] ys loop = subst (IsLoop R) (sym (append-nil ys)) loop
loop_turned R (x ∷ xs) [] loop = subst (IsLoop R) (append-nil (x ∷ xs)) loop
loop_turned R (x ∷ xs) (y ∷ ys) loop = let s = chain_split R x xs y ys x loop in chain_join R y ys x xs y s.1 s.0

pub loop_rotated : (R : ℕ → ℕ → Type 0) (old new : List ℕ) → IsRotated old new → IsLoop R old → IsLoop R new
loop_rotated R old new r loop = subst (IsLoop R) (sym r.2) (loop_turned R (take r.0 old) (drop r.0 old) (subst (IsLoop R) (sym (take-append-drop r.0 old)) loop))

-- it begins with the least
pub begins_least : (old lent new : List ℕ) (m : ℕ) → lent ≡ old → m < length lent → ((k : ℕ) → k < length lent → get_or lent m 0 ≤ get_or lent k 0) → new ≡ drop m old ++ take m old → BeginsLeast new
begins_least old lent new m same within least is =
    let e : new ≡ get_or old m 0 ∷ (drop (m + 1) old ++ take m old) = is ∙ ap (λ z. z ++ take m old) (drop_more old m 0 inside) in
    subst BeginsLeast (sym e) (All-append (λ y. get_or old m 0 ≤ y) (drop (m + 1) old) (take m old) (All-drop (λ y. get_or old m 0 ≤ y) (m + 1) old all) (All-take (λ y. get_or old m 0 ≤ y) m old all))
  where
    inside : m < length old
    inside = let n = ap length same in omega (arith, n, within)

    all : All (λ y. get_or old m 0 ≤ y) old
    all = All-from_get_or (λ y. get_or old m 0 ≤ y) old 0 (λ k l.
        subst (λ z. get_or z m 0 ≤ get_or z k 0) same (least k (let n = ap length same in omega (arith, n, l))))

pub some_node : (R : ℕ → ℕ → Type 0) (nodes : List ℕ) → IsLoop R nodes → 0 < length nodes
some_node R [] loop = absurd loop
some_node R (x ∷ xs) loop = omega arith

-- ---- a loop leaves no order

-- what is needed stands before
record Before (order : List ℕ) (i b : ℕ) : Type 0 where
  at : ℕ
  earlier : at < i
  is : get_or order at 0 ≡ b

stands_before : (order : List ℕ) (i b : ℕ) → i < length order → Contains (take i order) b → Before order i b
stands_before order i b within h = by h.0 h.1 h.2
  where
    by : (j : ℕ) → j < length (take i order) → get_or (take i order) j b ≡ b → Before order i b
    by j l e =
        let n : length (take i order) ≡ i = length-take-le i order (omega arith) in
        let below : j < i = omega arith in
        record { at = j; earlier = below; is = get_or_default order j 0 b (omega arith) ∙ sym (get_or-take i order j b below) ∙ e }

-- where a list leads to stands before where it comes from
leads_before : (R : ℕ → ℕ → Type 0) (order : List ℕ) → IsAfter R order → (a : ℕ) (xs : List ℕ) (b i : ℕ) → i < length order → get_or order i 0 ≡ a → Leads R a xs b → Before order i b
leads_before R order after a [] b i within is leads = stands_before order i b within (after i b within (subst (λ z. R z b) (sym is) leads))
leads_before R order after a (x ∷ xs) b i within is leads =
    let s = stands_before order i x within (after i x within (subst (λ z. R z x) (sym is) leads.0)) in
    let e = s.earlier in
    let t = leads_before R order after x xs b s.at (omega (arith, e, within)) s.is leads.1 in
    let f = t.earlier in
    record { at = t.at; earlier = omega (arith, e, f); is = t.is }

no_place : (R : ℕ → ℕ → Type 0) (order : List ℕ) → IsAfter R order → (a : ℕ) (xs : List ℕ) → Leads R a xs a → (n i : ℕ) → i < n → i < length order → get_or order i 0 ≡ a → ⊥
no_place R order after a xs leads zero i l within is = absurd (omega (arith, l))
no_place R order after a xs leads (suc n) i l within is =
    let s = leads_before R order after a xs a i within is leads in
    let e = s.earlier in
    no_place R order after a xs leads n s.at (omega (arith, e, l)) (omega (arith, e, within)) s.is

needs_next : (R : ℕ → ℕ → Type 0) (a : ℕ) (xs : List ℕ) (b : ℕ) → Leads R a xs b → (q : ℕ) × R a q
needs_next R a [] b leads = (b, leads)
needs_next R a (x ∷ xs) b leads = (x, leads.0)

pub loop_no_order : (Among : ℕ → Type 0) (R : ℕ → ℕ → Type 0) (nodes order : List ℕ) → ((p q : ℕ) → R p q → Among p) → IsLoop R nodes → IsOrder Among R order → ⊥
loop_no_order Among R [] order among loop o = loop
loop_no_order Among R (x ∷ xs) order among loop o =
    let n = needs_next R x xs x loop in
    let c : Contains order x = o.each x (among x n.0 n.1) in
    by c.0 c.1 c.2
  where
    by : (j : ℕ) → j < length order → get_or order j x ≡ x → ⊥
    by j l e = no_place R order o.after x xs loop (suc j) j (omega arith) l (get_or_default order j 0 x l ∙ e)

-- a loop that was found, begun at its least
pub least_loop : (Among : ℕ → Type 0) (R : ℕ → ℕ → Type 0) (old new : List ℕ) → ((p q : ℕ) → R p q → Among p) → IsLoop R old → IsRotated old new → BeginsLeast new → IsLeastLoop Among R new
least_loop Among R old new among loop rotated least =
    let turned = loop_rotated R old new rotated loop in
    record { loop = turned; least = least; no_order = λ order o. loop_no_order Among R new order among turned o }
