-- One turn of a move in the heap.
use Rattle.std.proofs.Common.{◌≡◌, ◌<◌, ◌≤◌, ◌⊎◌, ℕ, ◌+◌, ◌*◌, ◌^◌, ◌/◌, zero, suc, List, length, get_or, ap, mul-le-mul_left, add-one, arith, sym, inl, inr}
use Rattle.std.proofs.Math.Nat.{pow-succ'}
use Rattle.std.proofs.lemmas.List.{get_or_default}
use Rattle.tick_schedule.specs.Cost.{TakesTurns, ClimbsTurns}
use Rattle.tick_schedule.specs.HeapOrder.{IsHeap, key_at, IsBelow, IsOrdered, IsOrderedButDown, IsOrderedButUp}

pub one_more_turn : (each a b old s s' : ℕ) → TakesTurns each a old s → s' ≤ s + each → 2 * a ≤ b → TakesTurns each b old s'
one_more_turn each a b old s s' t le twice = record {
  turns = t.turns + 1;
  few = (let f = t.few in rw (add-one, pow-succ') (omega arith));
  steps = (let f = t.steps in omega arith);
}

module _ (n h c : ℕ) (k k' : ℕ → ℕ) (below : IsBelow h c) (was : IsOrderedButDown n h k)
    (c_in : c < n)
    (least : (j : ℕ) → j < n → IsBelow h j → k c ≤ k j) (later : k c ≤ k h)
    (at_h : k' h ≡ k c) (at_c : k' c ≡ k h) (same : (i : ℕ) → (i ≡ h → ⊥) → (i ≡ c → ⊥) → k' i ≡ k i) where
  others_by : (i j : ℕ) → j < n → IsBelow i j → (i ≡ c → ⊥) → (i ≡ h) ⊎ (i ≡ h → ⊥) → (j ≡ h) ⊎ (j ≡ h → ⊥) → (j ≡ c) ⊎ (j ≡ c → ⊥) → k' i ≤ k' j
  others_by i j l b nc (inl e) jh (inl e') = rw (e, e', at_h, at_c) later
  others_by i j l b nc (inl e) (inl e'') (inr nj) = absurd (let x = b.low in omega arith)
  others_by i j l b nc (inl e) (inr njh) (inr nj) = rw (e, at_h, same j njh nj) (least j l (rw (sym e) b))
  others_by i j l b nc (inr ne) (inl e) jc = rw (e, at_h, same i ne nc) (was.across i c c_in (rw (sym e) b) below)
  others_by i j l b nc (inr ne) (inr njh) (inl e) = absurd (let x = b.low in let y = b.high in let z = below.low in let w = below.high in omega arith)
  others_by i j l b nc (inr ne) (inr njh) (inr nj) = rw (same i ne nc, same j njh nj) (was.others i j l b ne)

  tell : (a b : ℕ) → (a ≡ b) ⊎ (a ≡ b → ⊥)
  tell a b = grind arith

  pub down_step : IsOrderedButDown n c k'
  down_step = record {
    others = λ i j l b nc. others_by i j l b nc (tell i h) (tell j h) (tell j c);
    across = λ i j l b b'.
        let e : i ≡ h = (let x = b.low in let y = b.high in let z = below.low in let w = below.high in omega arith) in
        let nh : j ≡ h → ⊥ = (λ q. let x = b'.low in let z = below.low in omega arith) in
        let nc : j ≡ c → ⊥ = (λ q. let x = b'.low in omega arith) in
        let ch : c ≡ h → ⊥ = (λ q. let z = below.low in omega arith) in
        rw (e, at_h, same j nh nc) (was.others c j l b' ch);
  }

pub one_more_climb : (each n h a old s s' : ℕ) → ClimbsTurns each n h old s → s' ≤ s + each → 2 * (a + 1) ≤ h + 1 → ClimbsTurns each n a old s'
one_more_climb each n h a old s s' t le twice = record {
  turns = t.turns + 1;
  few =
      (let f = t.few in
      let g : 2 ^ t.turns * (2 * (a + 1)) ≤ 2 ^ t.turns * (h + 1) = mul-le-mul_left (2 ^ t.turns) twice in
      rw (add-one, pow-succ') (omega arith));
  steps = (let f = t.steps in omega arith);
}

module _ (n a h : ℕ) (k k' : ℕ → ℕ) (below : IsBelow a h) (was : IsOrderedButUp n h k)
    (h_in : h < n) (earlier : k h ≤ k a)
    (at_a : k' a ≡ k h) (at_h : k' h ≡ k a) (same : (i : ℕ) → (i ≡ a → ⊥) → (i ≡ h → ⊥) → k' i ≡ k i) where
  ups_by : (i j : ℕ) → j < n → IsBelow i j → (j ≡ a → ⊥) → (i ≡ a) ⊎ (i ≡ a → ⊥) → (i ≡ h) ⊎ (i ≡ h → ⊥) → (j ≡ h) ⊎ (j ≡ h → ⊥) → k' i ≤ k' j
  ups_by i j l b na (inl e) ih (inl e') = rw (e, e', at_a, at_h) earlier
  ups_by i j l b na (inl e) ih (inr nj) =
      let f : k a ≤ k j = was.others a j l (rw (sym e) b) nj in
      rw (e, at_a, same j na nj) (omega arith)
  ups_by i j l b na (inr ni) (inl e) (inl e') = absurd (let x = b.low in omega arith)
  ups_by i j l b na (inr ni) (inl e) (inr nj) = rw (e, at_h, same j na nj) (was.across a j l below (rw (sym e) b))
  ups_by i j l b na (inr ni) (inr nih) (inl e) = absurd (let x = b.low in let y = b.high in let z = below.low in let w = below.high in omega arith)
  ups_by i j l b na (inr ni) (inr nih) (inr nj) = rw (same i ni nih, same j na nj) (was.others i j l b nj)

  across_by : (i j : ℕ) → j < n → IsBelow i a → IsBelow a j → (j ≡ h) ⊎ (j ≡ h → ⊥) → k' i ≤ k' j
  across_by i j l b b' (inl e) =
      let ia : i ≡ a → ⊥ = (λ q. let x = b.low in omega arith) in
      let ih : i ≡ h → ⊥ = (λ q. let x = b.low in let z = below.low in omega arith) in
      let ah : a ≡ h → ⊥ = (λ q. let z = below.low in omega arith) in
      rw (e, at_h, same i ia ih) (was.others i a (let z = below.low in omega arith) b ah)
  across_by i j l b b' (inr nj) =
      let ia : i ≡ a → ⊥ = (λ q. let x = b.low in omega arith) in
      let ih : i ≡ h → ⊥ = (λ q. let x = b.low in let z = below.low in omega arith) in
      let ah : a ≡ h → ⊥ = (λ q. let z = below.low in omega arith) in
      let ja : j ≡ a → ⊥ = (λ q. let x = b'.low in omega arith) in
      let f : k i ≤ k a = was.others i a (let z = below.low in omega arith) b ah in
      let g : k a ≤ k j = was.others a j l b' nj in
      rw (same i ia ih, same j ja nj) (omega arith)

  told : (x y : ℕ) → (x ≡ y) ⊎ (x ≡ y → ⊥)
  told x y = grind arith

  pub up_step : IsOrderedButUp n a k'
  up_step = record {
    others = λ i j l b na. ups_by i j l b na (told i a) (told i h) (told j h);
    across = λ i j l b b'. across_by i j l b b' (told j h);
  }

-- nothing is before the first place
first_least_by : (n : ℕ) (k : ℕ → ℕ) (most i : ℕ) → i ≤ most → i < n → IsOrdered n k → k 0 ≤ k i
first_least_by n k zero i le l o = let e : i ≡ 0 = omega arith in rw e (omega arith)
first_least_by n k (suc most) zero le l o = omega arith
first_least_by n k (suc most) (suc i) le l o =
    let b : IsBelow (i / 2) (suc i) = record { low = omega arith; high = omega arith } in
    let f : k (i / 2) ≤ k (suc i) = o (i / 2) (suc i) l b in
    let g : k 0 ≤ k (i / 2) = first_least_by n k most (i / 2) (omega arith) (omega arith) o in
    omega arith

pub first_least : (n : ℕ) (k : ℕ → ℕ) (i : ℕ) → i < n → IsOrdered n k → k 0 ≤ k i
first_least n k i l o = first_least_by n k i i (omega arith) l o

pub climbed : (each n old s : ℕ) → ClimbsTurns each n 0 old s → TakesTurns each n old s
climbed each n old s t = record { turns = t.turns; few = (let f = t.few in omega arith); steps = t.steps }

pub least_point : (points order places : List ℕ) → IsHeap points order places → (c d : ℕ) → c < length points → get_or points (get_or order 0 0) 0 ≤ get_or points c d
least_point points order places h c d l =
    let e : get_or order (get_or places c 0) 0 ≡ c = h.placed.back c l in
    let f : key_at points order 0 ≤ key_at points order (get_or places c 0) = first_least (length points) (key_at points order) (get_or places c 0) (h.placed.within c l) h.ordered in
    let g : key_at points order (get_or places c 0) ≡ get_or points c 0 = ap (λ x. get_or points x 0) e in
    let k : get_or points c d ≡ get_or points c 0 = get_or_default points c d 0 l in
    omega arith
