-- What reaching nodes does, one after another, and that nothing is left where the work is done.
use Rattle.std.proofs.Common.{◌≡◌, ◌⊎◌, ℕ, ◌+◌, ◌<◌, ◌≤◌, Bool, false, cond, List, [], ◌∷◌, ◌++◌, length, take, get_or, set, Option, Some, None, refl, sym, ap, ◌∙◌, subst, inl, inr, arith}
use Rattle.std.specs.List.{Contains, All, count_by}
use Rattle.std.specs.Option.{is_none, is_some}
use Rattle.std.proofs.lemmas.List.{get_or-set_same, get_or-set_other, length-set, take_more, append-nil, length-append, get_or_read}
use Rattle.std.proofs.lemmas.List.Elements.{Contains-append_left, Contains-append_right, Contains-append_cases, Contains-push, Contains-push_cases, All-nil, All-push, All-head, All-tail}
use Rattle.std.proofs.lemmas.List.Sums.{sum_by-set}
use Rattle.std.proofs.lemmas.Bool.{cases_eq, false≢true}
use Rattle.dependency_order.specs.Graph.{Needs, Leads, IsClosed}
use Rattle.dependency_order.specs.Paths.{IsMarked, at, IsReached, IsSpread}
use Rattle.dependency_order.specs.Spreading.{Spreads}
use Rattle.dependency_order.proofs.ListLemmas.{contains_none, contains_one}
use Rattle.dependency_order.proofs.OrderLemmas.{leads_push}

-- ---- steps

pub spreads_none : (through : List Bool) (from : ℕ) (old : List (Option ℕ)) (left : List ℕ) → Spreads through from [] old old left left
spreads_none through from old left = record {
  same_length = refl;
  reached = λ x c. absurd (contains_none x c);
  kept = λ x s e. e;
  no_other = λ x s e. inl e;
  told = λ x s e m. inl e;
  left_kept = λ x c. c;
  left_only = λ x c. inl c;
  less = omega arith;
}

-- the node is reached already, or isn't there
pub spreads_skip : (through : List Bool) (from node : ℕ) (old : List (Option ℕ)) (left : List ℕ) → (node < length old → at old node ≡ None → ⊥) → Spreads through from (node ∷ []) old old left left
spreads_skip through from node old left is = record {
  same_length = refl;
  reached = λ x c within e. is (subst (λ z. z < length old) (sym (contains_one node x c)) within) (ap (at old) (contains_one node x c) ∙ e);
  kept = λ x s e. e;
  no_other = λ x s e. inl e;
  told = λ x s e m. inl e;
  left_kept = λ x c. c;
  left_only = λ x c. inl c;
  less = omega arith;
}

abbrev weight : Option ℕ → ℕ
weight o = cond (is_none o) 1 0

-- one node more is reached
fewer : (old : List (Option ℕ)) (node from : ℕ) → node < length old → at old node ≡ None → count_by is_none (set old node (Some from)) + 1 ≡ count_by is_none old
fewer old node from within free =
    let s = sum_by-set weight old node (Some from) None within in
    let f : weight (at old node) ≡ weight None = ap weight free in
    omega (arith, s, f)

-- the node is reached newly
pub spreads_newly : (through : List Bool) (from node : ℕ) (old : List (Option ℕ)) (left more : List ℕ) → node < length old → at old node ≡ None → length more ≤ 1
    → (IsMarked through node → Contains more node) → ((x : ℕ) → Contains more x → (x ≡ node) × IsMarked through node)
    → Spreads through from (node ∷ []) old (set old node (Some from)) left (left ++ more)
spreads_newly through from node old left more within free few all only = record {
  same_length = length-set old node (Some from);
  reached = λ x c b e. let same : Some from ≡ None = sym (here x (contains_one node x c)) ∙ e in cc;
  kept = λ x s e. at_kept x s e (cases_eq x node);
  no_other = λ x s e. at_other x s e (cases_eq x node);
  told = λ x s e m. at_told x s e m (cases_eq x node);
  left_kept = λ x c. Contains-append_left left more x c;
  left_only = λ x c. at_left x (Contains-append_cases left more x c);
  less =
      let f = fewer old node from within free in
      let l = length-append left more in
      omega (arith, f, l, few);
}
  where
    here : (x : ℕ) → node ≡ x → at (set old node (Some from)) x ≡ Some from
    here x e = ap (at (set old node (Some from))) (sym e) ∙ get_or-set_same old node (Some from) None within

    there : (x : ℕ) → (x ≡ node → ⊥) → at (set old node (Some from)) x ≡ at old x
    there x ne = get_or-set_other old node x (Some from) None ne

    at_kept : (x s : ℕ) → at old x ≡ Some s → (x ≡ node) ⊎ (x ≡ node → ⊥) → at (set old node (Some from)) x ≡ Some s
    at_kept x s e (inl same) = let no : None ≡ Some s = sym free ∙ ap (at old) (sym same) ∙ e in cc
    at_kept x s e (inr ne) = there x ne ∙ e

    at_other : (x s : ℕ) → at (set old node (Some from)) x ≡ Some s → (x ≡ node) ⊎ (x ≡ node → ⊥) → (at old x ≡ Some s) ⊎ ((at old x ≡ None) × (s ≡ from) × Contains (node ∷ []) x)
    at_other x s e (inl same) =
        let is : Some from ≡ Some s = sym (here x (sym same)) ∙ e in
        inr (ap (at old) same ∙ free, cc, (0, omega arith, sym same))
    at_other x s e (inr ne) = inl (sym (there x ne) ∙ e)

    at_told : (x s : ℕ) → at (set old node (Some from)) x ≡ Some s → IsMarked through x → (x ≡ node) ⊎ (x ≡ node → ⊥) → (at old x ≡ Some s) ⊎ Contains (left ++ more) x
    at_told x s e m (inl same) = inr (Contains-append_right left more x (subst (Contains more) (sym same) (all (subst (IsMarked through) same m))))
    at_told x s e m (inr ne) = inl (sym (there x ne) ∙ e)

    at_left : (x : ℕ) → Contains left x ⊎ Contains more x → Contains left x ⊎ (IsMarked through x × (at (set old node (Some from)) x ≡ Some from))
    at_left x (inl c) = inl c
    at_left x (inr c) = let o = only x c in inr (subst (IsMarked through) (sym o.0) o.1, here x (sym o.0))

-- one after another
pub spreads_more : (through : List Bool) (from : ℕ) (xs ys : List ℕ) (a b c : List (Option ℕ)) (u v w : List ℕ) → Spreads through from xs a b u v → Spreads through from ys b c v w → Spreads through from (xs ++ ys) a c u w
spreads_more through from xs ys a b c u v w p q = record {
  same_length = q.same_length ∙ p.same_length;
  reached = λ x h within e. at_reached x within e (Contains-append_cases xs ys x h);
  kept = λ x s e. q.kept x s (p.kept x s e);
  no_other = λ x s e. at_other x s (q.no_other x s e);
  told = λ x s e m. at_told x s m (q.told x s e m);
  left_kept = λ x h. q.left_kept x (p.left_kept x h);
  left_only = λ x h. at_left x (q.left_only x h);
  less = let x = p.less in let y = q.less in omega (arith, x, y);
}
  where
    none_before : (x : ℕ) → at c x ≡ None → (o : Option ℕ) → at b x ≡ o → at b x ≡ None
    none_before x e None is = is
    none_before x e (Some s) is = let no : Some s ≡ None = sym (q.kept x s is) ∙ e in cc

    at_reached : (x : ℕ) → x < length a → at c x ≡ None → Contains xs x ⊎ Contains ys x → ⊥
    at_reached x within e (inl h) = p.reached x h within (none_before x e (at b x) refl)
    at_reached x within e (inr h) = q.reached x h (let n = p.same_length in omega (arith, n)) e

    back : (x : ℕ) → at b x ≡ None → (o : Option ℕ) → at a x ≡ o → at a x ≡ None
    back x e None is = is
    back x e (Some s) is = let no : Some s ≡ None = sym (p.kept x s is) ∙ e in cc

    before : (x s : ℕ) → (at a x ≡ Some s) ⊎ ((at a x ≡ None) × (s ≡ from) × Contains xs x) → (at a x ≡ Some s) ⊎ ((at a x ≡ None) × (s ≡ from) × Contains (xs ++ ys) x)
    before x s (inl e) = inl e
    before x s (inr h) = inr (h.0, h.1, Contains-append_left xs ys x h.2)

    at_other : (x s : ℕ) → (at b x ≡ Some s) ⊎ ((at b x ≡ None) × (s ≡ from) × Contains ys x) → (at a x ≡ Some s) ⊎ ((at a x ≡ None) × (s ≡ from) × Contains (xs ++ ys) x)
    at_other x s (inl e) = before x s (p.no_other x s e)
    at_other x s (inr h) = inr (back x h.0 (at a x) refl, h.1, Contains-append_right xs ys x h.2)

    on : (x s : ℕ) → (at a x ≡ Some s) ⊎ Contains v x → (at a x ≡ Some s) ⊎ Contains w x
    on x s (inl e) = inl e
    on x s (inr h) = inr (q.left_kept x h)

    at_told : (x s : ℕ) → IsMarked through x → (at b x ≡ Some s) ⊎ Contains w x → (at a x ≡ Some s) ⊎ Contains w x
    at_told x s m (inl e) = on x s (p.told x s e m)
    at_told x s m (inr h) = inr h

    at_left_before : (x : ℕ) → Contains u x ⊎ (IsMarked through x × (at b x ≡ Some from)) → Contains u x ⊎ (IsMarked through x × (at c x ≡ Some from))
    at_left_before x (inl h) = inl h
    at_left_before x (inr h) = inr (h.0, q.kept x from h.1)

    at_left : (x : ℕ) → Contains v x ⊎ (IsMarked through x × (at c x ≡ Some from)) → Contains u x ⊎ (IsMarked through x × (at c x ≡ Some from))
    at_left x (inl h) = at_left_before x (p.left_only x h)
    at_left x (inr h) = inr h

pub spreads_next : (through : List Bool) (from : ℕ) (nodes : List ℕ) (i : ℕ) (a b c : List (Option ℕ)) (u v w : List ℕ) → i < length nodes → Spreads through from (take i nodes) a b u v → Spreads through from (get_or nodes i 0 ∷ []) b c v w
    → Spreads through from (take (i + 1) nodes) a c u w
spreads_next through from nodes i a b c u v w within p q = subst (λ z. Spreads through from z a c u w) (sym (take_more nodes i 0 within)) (spreads_more through from (take i nodes) (get_or nodes i 0 ∷ []) a b c u v w p q)

-- ---- the whole

-- what is found, where work is left
pub record IsOpen (links : List (List ℕ)) (through : List Bool) (starts : List ℕ) (found : List (Option ℕ)) (work : List ℕ) : Type 0 where
  pub start : (x s : ℕ) → at found x ≡ Some s → Contains starts s × IsReached links through s x
  pub next : (x s y : ℕ) → at found x ≡ Some s → IsMarked through x → (Contains work x → ⊥) → Needs links x y → at found y ≡ None → ⊥
  pub first : (s y : ℕ) → Contains starts s → Needs links s y → at found y ≡ None → ⊥

-- the work is of this start
abbrev pub IsMine : List Bool → ℕ → List (Option ℕ) → List ℕ → Type 0
IsMine through from found work = (x : ℕ) → Contains work x → IsMarked through x × (at found x ≡ Some from)

reached_more : (links : List (List ℕ)) (through : List Bool) (s x y : ℕ) → IsReached links through s x → IsMarked through x → Needs links x y → IsReached links through s y
reached_more links through s x y r m l = record {
  between = r.between ++ x ∷ [];
  through = All-push (IsMarked through) r.between x r.through m;
  leads = leads_push (Needs links) s r.between x y r.leads l;
}

reached_first : (links : List (List ℕ)) (through : List Bool) (s y : ℕ) → Needs links s y → IsReached links through s y
reached_first links through s y l = record { between = []; through = All-nil (IsMarked through); leads = l }

old_none : (old new : List (Option ℕ)) (x : ℕ) → ((s : ℕ) → at old x ≡ Some s → at new x ≡ Some s) → at new x ≡ None → (o : Option ℕ) → at old x ≡ o → at old x ≡ None
old_none old new x kept e None is = is
old_none old new x kept e (Some s) is = let no : Some s ≡ None = sym (kept s is) ∙ e in cc

is_found : (found : List (Option ℕ)) (x : ℕ) (o : Option ℕ) → at found x ≡ o → (at found x ≡ None → ⊥) → (s : ℕ) × (at found x ≡ Some s)
is_found found x None is isnt = absurd (isnt is)
is_found found x (Some s) is isnt = (s, is)

-- where everything that is reached is followed, nothing is missed
all_found : (links : List (List ℕ)) (through : List Bool) (found : List (Option ℕ)) → ((x s y : ℕ) → at found x ≡ Some s → IsMarked through x → Needs links x y → at found y ≡ None → ⊥)
    → (a b : ℕ) (between : List ℕ) → All (IsMarked through) between → ((y : ℕ) → Needs links a y → at found y ≡ None → ⊥) → Leads (Needs links) a between b → at found b ≡ None → ⊥
all_found links through found next a b [] all first leads e = first b leads e
all_found links through found next a b (x ∷ xs) all first leads e =
    let h = is_found found x (at found x) refl (λ un. first x leads.0 un) in
    all_found links through found next x b xs (All-tail (IsMarked through) x xs all) (λ y l. next x h.0 y h.1 (All-head (IsMarked through) x xs all) l) leads.1 e

pub open_end : (links : List (List ℕ)) (through : List Bool) (starts : List ℕ) (found : List (Option ℕ)) → IsOpen links through starts found [] → IsSpread links through starts found
open_end links through starts found o = record {
  start = o.start;
  none = λ x s e c r. all_found links through found (λ z t y is m l. o.next z t y is m (contains_none z) l) s x r.between r.through (λ y l. o.first s y c l) r.leads e;
}

-- the links of a new start are followed
pub open_begin : (links : List (List ℕ)) (through : List Bool) (starts : List ℕ) (from : ℕ) (old new : List (Option ℕ)) (more : List ℕ) → IsClosed links → length old ≡ length links → Spreads through from (get_or links from []) old new [] more
    → IsSpread links through starts old → IsOpen links through (starts ++ from ∷ []) new more
open_begin links through starts from old new more closed len sp was = record {
  start = λ x s e. at_start x s (sp.no_other x s e);
  next = λ x s y e m out l un. at_next x s y m out l un (sp.told x s e m);
  first = λ s y c l un. at_first s y l un (Contains-push_cases starts from s c);
}
  where
    at_start : (x s : ℕ) → (at old x ≡ Some s) ⊎ ((at old x ≡ None) × (s ≡ from) × Contains (get_or links from []) x) → Contains (starts ++ from ∷ []) s × IsReached links through s x
    at_start x s (inl e) = (Contains-append_left starts (from ∷ []) s (was.start x s e).0, (was.start x s e).1)
    at_start x s (inr h) = (subst (Contains (starts ++ from ∷ [])) (sym h.1) (Contains-push starts from), subst (λ z. IsReached links through z x) (sym h.1) (reached_first links through from x h.2))

    at_next : (x s y : ℕ) → IsMarked through x → (Contains more x → ⊥) → Needs links x y → at new y ≡ None → (at old x ≡ Some s) ⊎ Contains more x → ⊥
    at_next x s y m out l un (inl e) =
        was.none y s (old_none old new y (sp.kept y) un (at old y) refl) (was.start x s e).0 (reached_more links through s x y (was.start x s e).1 m l)
    at_next x s y m out l un (inr c) = out c

    at_first : (s y : ℕ) → Needs links s y → at new y ≡ None → Contains starts s ⊎ (from ≡ s) → ⊥
    at_first s y l un (inl c) = was.none y s (old_none old new y (sp.kept y) un (at old y) refl) c (reached_first links through s y l)
    at_first s y l un (inr e) = sp.reached y (subst (λ z. Needs links z y) (sym e) l) (let b = closed.below s y l in omega (arith, b, len)) un

-- the links of a node that is reached are followed
pub open_more : (links : List (List ℕ)) (through : List Bool) (starts : List ℕ) (from node : ℕ) (old new : List (Option ℕ)) (work left more : List ℕ) → IsClosed links → length old ≡ length links → work ≡ left ++ node ∷ []
    → Spreads through from (get_or links node []) old new left more → IsMine through from old work → IsOpen links through starts old work → IsOpen links through starts new more
open_more links through starts from node old new work left more closed len is sp mine o = record {
  start = λ x s e. at_start x s (sp.no_other x s e);
  next = λ x s y e m out l un. at_next x s y m out l un (sp.told x s e m);
  first = λ s y c l un. o.first s y c l (old_none old new y (sp.kept y) un (at old y) refl);
}
  where
    here : IsMarked through node × (at old node ≡ Some from)
    here = mine node (subst (λ z. Contains z node) (sym is) (Contains-push left node))

    at_start : (x s : ℕ) → (at old x ≡ Some s) ⊎ ((at old x ≡ None) × (s ≡ from) × Contains (get_or links node []) x) → Contains starts s × IsReached links through s x
    at_start x s (inl e) = o.start x s e
    at_start x s (inr h) =
        let was = o.start node from here.1 in
        (subst (Contains starts) (sym h.1) was.0, subst (λ z. IsReached links through z x) (sym h.1) (reached_more links through from node x was.1 here.0 h.2))

    left_out : (x : ℕ) → (Contains more x → ⊥) → Contains left x ⊎ (node ≡ x) → node ≡ x
    left_out x out (inl c) = absurd (out (sp.left_kept x c))
    left_out x out (inr e) = e

    at_next : (x s y : ℕ) → IsMarked through x → (Contains more x → ⊥) → Needs links x y → at new y ≡ None → (at old x ≡ Some s) ⊎ Contains more x → ⊥
    at_next x s y m out l un (inr c) = out c
    at_next x s y m out l un (inl e) = by (cases_eq x node)
      where
        by : (x ≡ node) ⊎ (x ≡ node → ⊥) → ⊥
        by (inl same) = sp.reached y (subst (λ z. Needs links z y) same l) (let b = closed.below x y l in omega (arith, b, len)) un
        by (inr ne) = o.next x s y e m (λ c. ne (sym (left_out x out (Contains-push_cases left node x (subst (λ z. Contains z x) is c))))) l (old_none old new y (sp.kept y) un (at old y) refl)

pub mine_more : (through : List Bool) (from node : ℕ) (nodes : List ℕ) (old new : List (Option ℕ)) (work left more : List ℕ) → work ≡ left ++ node ∷ [] → Spreads through from nodes old new left more → IsMine through from old work → IsMine through from new more
mine_more through from node nodes old new work left more is sp mine x c = by (sp.left_only x c)
  where
    by : Contains left x ⊎ (IsMarked through x × (at new x ≡ Some from)) → IsMarked through x × (at new x ≡ Some from)
    by (inl h) =
        let m = mine x (subst (λ z. Contains z x) (sym is) (Contains-append_left left (node ∷ []) x h)) in
        (m.0, sp.kept x from m.1)
    by (inr h) = h

pub mine_begin : (through : List Bool) (from : ℕ) (nodes : List ℕ) (old new : List (Option ℕ)) (more : List ℕ) → Spreads through from nodes old new [] more → IsMine through from new more
mine_begin through from nodes old new more sp x c = by (sp.left_only x c)
  where
    by : Contains [] x ⊎ (IsMarked through x × (at new x ≡ Some from)) → IsMarked through x × (at new x ≡ Some from)
    by (inl h) = absurd (contains_none x h)
    by (inr h) = h

-- ---- the code's steps

pub none_read : (old : List (Option ℕ)) (node : ℕ) (x : Option ℕ) → node < length old → x ≡ get_or old node x → is_some x ≡ false → at old node ≡ None
none_read old node x within is isnt = sym (get_or_read old node x within is None) ∙ by x isnt
  where
    by : (o : Option ℕ) → is_some o ≡ false → o ≡ None
    by None e = refl
    by (Some s) e = absurd (false≢true (sym e))

pub spreads_marked : (through : List Bool) (from node : ℕ) (old : List (Option ℕ)) (left more : List ℕ) → node < length old → at old node ≡ None → IsMarked through node → more ≡ left ++ node ∷ [] → Spreads through from (node ∷ []) old (set old node (Some from)) left more
spreads_marked through from node old left more within free m is =
    subst (λ z. Spreads through from (node ∷ []) old (set old node (Some from)) left z) (sym is)
    (spreads_newly through from node old left (node ∷ []) within free (omega arith) (λ _. (0, omega arith, refl)) (λ x c. (sym (contains_one node x c), m)))

pub spreads_unmarked : (through : List Bool) (from node : ℕ) (old : List (Option ℕ)) (left : List ℕ) → node < length old → at old node ≡ None → get_or through node false ≡ false → Spreads through from (node ∷ []) old (set old node (Some from)) left left
spreads_unmarked through from node old left within free m =
    subst (λ z. Spreads through from (node ∷ []) old (set old node (Some from)) left z) (append-nil left)
    (spreads_newly through from node old left [] within free (omega arith) (λ t. absurd (false≢true (sym m ∙ t))) (λ x c. absurd (contains_none x c)))
