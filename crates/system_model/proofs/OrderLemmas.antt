-- Orders, as they are walked and as they are made.
use Rattle.std.proofs.Common.{◌≡◌, ℕ, suc, ◌+◌, ◌<◌, List, [], ◌∷◌, ◌++◌, length, get_or, sym, ◌∙◌, ap, subst, arith, append_assoc, append-nil, Contains, length-append}
use Rattle.std.specs.List.{range_with_len}
use Rattle.std.proofs.Math.Seq.{get_or-append_seam}
use Rattle.std.proofs.Math.ListN.{get_or-append}
use Rattle.std.proofs.lemmas.List.FromFn.{get_or-range_with_len, length-range_with_len}
use Rattle.system_model.specs.Orders.{IsOrder}

-- where the elements of the first list were taken, those of the second can be taken in turn: each is new, and what it needs was taken before
abbrev pub IsOrderFrom : (ℕ → ℕ → Type 0) → List ℕ → List ℕ → Type 0
IsOrderFrom NeedsOf taken [] = Unit {0}
IsOrderFrom NeedsOf taken (p ∷ rest) =
    (Contains taken p → ⊥) × ((q : ℕ) → NeedsOf p q → Contains taken q) × IsOrderFrom NeedsOf (taken ++ p ∷ []) rest

pub order_from : (IsAmong : ℕ → Type 0) (NeedsOf : ℕ → ℕ → Type 0) (order : List ℕ) → IsOrder IsAmong NeedsOf order → (taken rest : List ℕ) → order ≡ taken ++ rest → IsOrderFrom NeedsOf taken rest
order_from IsAmong NeedsOf order is taken [] split = tt
order_from IsAmong NeedsOf order is taken (p ∷ rest) split =
    (is.once taken rest p split, (λ q needs. is.after taken rest p q split needs), order_from IsAmong NeedsOf order is (taken ++ p ∷ []) rest (split ∙ sym (append_assoc taken (p ∷ []) rest)))

-- what holds of an element that stands before others
pub record Stands (NeedsOf : ℕ → ℕ → Type 0) (taken : List ℕ) (p : ℕ) : Type 0 where
  pub once : Contains taken p → ⊥
  pub after : (q : ℕ) → NeedsOf p q → Contains taken q

abbrev head_of : ℕ → List ℕ → ℕ
head_of d [] = d
head_of d (x ∷ xs) = x

abbrev tail_of : List ℕ → List ℕ
tail_of [] = []
tail_of (x ∷ xs) = xs

stands : (NeedsOf : ℕ → ℕ → Type 0) (taken rest before later : List ℕ) (p : ℕ) → IsOrderFrom NeedsOf taken rest → rest ≡ before ++ p ∷ later → Stands NeedsOf (taken ++ before) p
stands NeedsOf taken [] [] later p from split = absurd (cc)
stands NeedsOf taken [] (x ∷ before) later p from split = absurd (cc)
stands NeedsOf taken (y ∷ rest) [] later p from split =
    let here : Stands NeedsOf taken y = record { once = from.0; after = from.1 } in
    let same : y ≡ p = ap (head_of y) split in
    rw append-nil (subst (Stands NeedsOf taken) same here)
stands NeedsOf taken (y ∷ rest) (x ∷ before) later p from split =
    let more : Stands NeedsOf ((taken ++ y ∷ []) ++ before) p = stands NeedsOf (taken ++ y ∷ []) rest before later p from.2 (ap tail_of split) in
    let same : (taken ++ y ∷ []) ++ before ≡ taken ++ (x ∷ before) = append_assoc taken (y ∷ []) before ∙ ap (λ z. taken ++ (z ∷ before)) (ap (head_of y) split) in
    subst (λ xs. Stands NeedsOf xs p) same more

-- an order is made element by element
pub order_by : (IsAmong : ℕ → Type 0) (NeedsOf : ℕ → ℕ → Type 0) (order : List ℕ) → ((p : ℕ) → IsAmong p → Contains order p) → ((p : ℕ) → Contains order p → IsAmong p) → IsOrderFrom NeedsOf [] order → IsOrder IsAmong NeedsOf order
order_by IsAmong NeedsOf order each only from = record {
  each = each;
  only = only;
  once = λ before later p split. (stands NeedsOf [] order before later p from split).once;
  after = λ before later p q split needs. (stands NeedsOf [] order before later p from split).after q needs;
}

-- ---- the order by number

place_in_range : (n : ℕ) (before later : List ℕ) (p : ℕ) → range_with_len 0 n ≡ before ++ p ∷ later → p ≡ length before
place_in_range n before later p split =
    let long : n ≡ length before + suc (length later) = sym (length-range_with_len 0 n) ∙ ap length split ∙ length-append before (p ∷ later) in
    let seam : get_or (before ++ p ∷ later) (length before) 0 ≡ p = get_or-append_seam before p later 0 in
    let at : get_or (range_with_len 0 n) (length before) 0 ≡ 0 + length before = get_or-range_with_len 0 n (length before) 0 (omega (arith, long)) in
    let same : get_or (range_with_len 0 n) (length before) 0 ≡ get_or (before ++ p ∷ later) (length before) 0 = ap (λ xs. get_or xs (length before) 0) split in
    omega (arith, seam, at, same)

once_in_range : (n : ℕ) (before later : List ℕ) (p : ℕ) → range_with_len 0 n ≡ before ++ p ∷ later → Contains before p → ⊥
once_in_range n before later p split among =
    let place : p ≡ length before = place_in_range n before later p split in
    let long : n ≡ length before + suc (length later) = sym (length-range_with_len 0 n) ∙ ap length split ∙ length-append before (p ∷ later) in
    let within : among.0 < length before = among.1 in
    let is : get_or before among.0 p ≡ p = among.2 in
    let left : get_or (before ++ p ∷ later) among.0 p ≡ get_or before among.0 p = get_or-append before (p ∷ later) p among.0 within in
    let at : get_or (range_with_len 0 n) among.0 p ≡ 0 + among.0 = get_or-range_with_len 0 n among.0 p (omega (arith, long, within)) in
    let same : get_or (range_with_len 0 n) among.0 p ≡ get_or (before ++ p ∷ later) among.0 p = ap (λ xs. get_or xs among.0 p) split in
    omega (arith, place, within, is, left, at, same)

-- where nobody needs anything, the numbers below n are an order of them
pub order_by_number : (n : ℕ) (IsAmong : ℕ → Type 0) (NeedsOf : ℕ → ℕ → Type 0) (order : List ℕ) → order ≡ range_with_len 0 n → ((p : ℕ) → IsAmong p → p < n) → ((p : ℕ) → p < n → IsAmong p) →
    ((p q : ℕ) → NeedsOf p q → ⊥) → IsOrder IsAmong NeedsOf order
order_by_number n IsAmong NeedsOf order is below among none = record {
  each = λ p m. subst (λ xs. Contains xs p) (sym is) (here p (below p m));
  only = λ p m. among p (within p (subst (λ xs. Contains xs p) is m));
  once = λ before later p split. once_in_range n before later p (sym is ∙ split);
  after = λ before later p q split needs. absurd (none p q needs);
}
  where
    here : (p : ℕ) → p < n → Contains (range_with_len 0 n) p
    here p lt =
        let long : length (range_with_len 0 n) ≡ n = length-range_with_len 0 n in
        let at : get_or (range_with_len 0 n) p p ≡ 0 + p = get_or-range_with_len 0 n p p lt in
        (p, omega (arith, long, lt), omega (arith, at))

    within : (p : ℕ) → Contains (range_with_len 0 n) p → p < n
    within p m =
        let long : length (range_with_len 0 n) ≡ n = length-range_with_len 0 n in
        let less : m.0 < length (range_with_len 0 n) = m.1 in
        let at : get_or (range_with_len 0 n) m.0 p ≡ 0 + m.0 = get_or-range_with_len 0 n m.0 p (omega (arith, long, less)) in
        let is_p : get_or (range_with_len 0 n) m.0 p ≡ p = m.2 in
        omega (arith, long, less, at, is_p)
