-- The least element so far, one place after another.
use Rattle.std.proofs.Common.{◌≡◌, ◌⊎◌, ℕ, ◌+◌, ◌<◌, ◌≤◌, List, length, get_or, Option, Some, None, min, refl, sym, ap, ◌∙◌, subst, inl, inr, arith}
use Rattle.std.specs.List.{slice_get}
use Rattle.std.proofs.lemmas.Bool.{cases_lt}
use Rattle.std.proofs.lemmas.Option.{slice_get_within, slice_get-get_or, slice_get_read, same_Some}
use Rattle.doc_tables.specs.Violations.{FindsLeast}
use Rattle.flatten.specs.Rules.{earlier}

module _ (Has : ℕ → ℕ → Type 0) where
  -- one of the first places has the element
  abbrev pub HasBelow : ℕ → ℕ → Type 0
  HasBelow i node = (c : ℕ) × (c < i) × Has c node

  below_cases : (i node : ℕ) → HasBelow (i + 1) node → HasBelow i node ⊎ Has i node
  below_cases i node h = by (cases_lt h.0 i)
    where
      by : (h.0 < i) ⊎ (i ≤ h.0) → HasBelow i node ⊎ Has i node
      by (inl l) = inl (h.0, l, h.2)
      by (inr g) = let e : h.0 ≡ i = (let w = h.1 in omega (arith, w, g)) in inr (subst (λ z. Has z node) e h.2)

  pub least_none : FindsLeast (HasBelow 0) None
  least_none = λ node h. let w = h.1 in absurd (omega (arith, w))

  -- the next place has no element
  pub least_past : (i : ℕ) (first : Option ℕ) → ((node : ℕ) → Has i node → ⊥) → FindsLeast (HasBelow i) first → FindsLeast (HasBelow (i + 1)) first
  least_past i None none f = λ node h. elim (below_cases i node h) [ inl b ↦ f node b | inr g ↦ none node g ]
  least_past i (Some m) none f = ((f.0.0, (let w = f.0.1 in omega (arith, w)), f.0.2), λ node l h. elim (below_cases i node h) [ inl b ↦ f.1 node l b | inr g ↦ none node g ])

  -- the next place has one
  pub least_more : (i n : ℕ) (first : Option ℕ) → Has i n → ((node : ℕ) → Has i node → node ≡ n) → FindsLeast (HasBelow i) first → FindsLeast (HasBelow (i + 1)) (earlier first (Some n))
  least_more i n None here only f = ((i, omega arith, here), λ node l h. elim (below_cases i node h) [ inl b ↦ f node b | inr g ↦ (let e = only node g in absurd (omega (arith, e, l))) ])
  least_more i n (Some m) here only f = (by (cases_lt n m), λ node l h. elim (below_cases i node h) [ inl b ↦ f.1 node (omega (arith, l)) b | inr g ↦ (let e = only node g in absurd (omega (arith, e, l))) ])
    where
      by : (n < m) ⊎ (m ≤ n) → HasBelow (i + 1) (min m n)
      by (inl l) = let e : n ≡ min m n = omega (arith, l) in subst (HasBelow (i + 1)) e (i, omega arith, here)
      by (inr g) = let e : m ≡ min m n = omega (arith, g) in subst (HasBelow (i + 1)) e (f.0.0, (let w = f.0.1 in omega (arith, w)), f.0.2)

  -- all places are looked at
  pub least_whole : (IsBroken : ℕ → Type 0) (i : ℕ) (first : Option ℕ) → ((node : ℕ) → IsBroken node → HasBelow i node) → ((c node : ℕ) → Has c node → IsBroken node) → FindsLeast (HasBelow i) first → FindsLeast IsBroken first
  least_whole IsBroken i None all each f = λ node h. f node (all node h)
  least_whole IsBroken i (Some m) all each f = (each f.0.0 m f.0.2, λ node l h. f.1 node l (all node h))

-- ---- the elements of a list

module _ {X : Type 0} (xs : List X) (node_of : X → ℕ) (IsBrokenAt : ℕ → X → Type 0) where
  -- the part at the place is this element, and breaks the rule
  abbrev pub HasBroken : ℕ → ℕ → Type 0
  HasBroken c node = (x : X) × ((slice_get xs c ≡ Some x) × (node_of x ≡ node)) × IsBrokenAt c x

  -- the list is lent for the look at its element
  pub least_here : (lent : List X) (i : ℕ) (x : X) (first first' : Option ℕ) → lent ≡ xs → i < length lent → x ≡ get_or lent i x → ((y : X) → slice_get xs i ≡ Some y → IsBrokenAt i y) → first' ≡ earlier first (Some (node_of (get_or lent i x)))
      → FindsLeast (HasBelow HasBroken i) first → FindsLeast (HasBelow HasBroken (i + 1)) first'
  least_here lent i x first first' same l read broken is f =
      let at : slice_get xs i ≡ Some x = subst (λ z. slice_get z i ≡ Some x) same (slice_get_read lent (length lent) i x refl l read) in
      subst (FindsLeast (HasBelow HasBroken (i + 1))) (sym (is ∙ ap (λ z. earlier first (Some (node_of z))) (sym read)))
      (least_more HasBroken i (node_of x) first (x, (at, refl), broken x at) (λ node h. sym h.1.1 ∙ ap node_of (same_Some h.0 x (sym h.1.0 ∙ at))) f)

  -- the same where the look takes no element
  pub least_there : (lent : List X) (i : ℕ) (d : X) (first first' : Option ℕ) → lent ≡ xs → i < length xs → ((y : X) → slice_get xs i ≡ Some y → IsBrokenAt i y) → first' ≡ earlier first (Some (node_of (get_or lent i d)))
      → FindsLeast (HasBelow HasBroken i) first → FindsLeast (HasBelow HasBroken (i + 1)) first'
  least_there lent i d first first' same l broken is f =
      let x = get_or xs i d in
      let at : slice_get xs i ≡ Some (get_or xs i d) = slice_get-get_or xs i d l in
      subst (FindsLeast (HasBelow HasBroken (i + 1))) (sym (is ∙ ap (λ (z : List X). earlier first (Some (node_of (get_or z i d)))) same))
      (least_more HasBroken i (node_of (get_or xs i d)) first (get_or xs i d, (at, refl), broken (get_or xs i d) at) (λ node h. sym h.1.1 ∙ ap node_of (same_Some h.0 (get_or xs i d) (sym h.1.0 ∙ at))) f)

  pub least_not : (i : ℕ) (first first' : Option ℕ) → ((y : X) → slice_get xs i ≡ Some y → IsBrokenAt i y → ⊥) → first' ≡ first → FindsLeast (HasBelow HasBroken i) first → FindsLeast (HasBelow HasBroken (i + 1)) first'
  least_not i first first' whole is f =
      subst (FindsLeast (HasBelow HasBroken (i + 1))) (sym is) (least_past HasBroken i first (λ node h. whole h.0 h.1.0 h.2) f)

  pub least_all : (IsBroken : ℕ → Type 0) (i : ℕ) (first : Option ℕ) → length xs ≤ i → ((node : ℕ) → IsBroken node → (c : ℕ) × HasBroken c node) → ((c node : ℕ) → HasBroken c node → IsBroken node)
      → FindsLeast (HasBelow HasBroken i) first → FindsLeast IsBroken first
  least_all IsBroken i first past all each f = least_whole HasBroken IsBroken i first (λ node h. below node (all node h)) each f
    where
      below : (node : ℕ) → (c : ℕ) × HasBroken c node → HasBelow HasBroken i node
      below node h = (h.0, (let l = slice_get_within xs h.0 h.1.0 h.1.1.0 in omega (arith, l, past)), h.1)
