-- A heap in which no Clock ticks.
use Rattle.std.proofs.Common.{◌≡◌, ℕ, ◌<◌, List, length, get_or, replicate, ap, sym, subst, ◌∙◌, arith}
use Rattle.std.specs.List.{range_with_len}
use Rattle.std.proofs.lemmas.List.{get_or-replicate, length-replicate}
use Rattle.std.proofs.lemmas.List.FromFn.{get_or-range_with_len, length-range_with_len}
use Rattle.tick_schedule.specs.HeapOrder.{IsHeap, IsPlaced, key_at}

-- each number stands at its own place
in_place : (n i : ℕ) → i < n → get_or (range_with_len 0 n) i 0 ≡ i
in_place n i within = let at = get_or-range_with_len 0 n i 0 within in omega arith

placed : (n : ℕ) → IsPlaced n (range_with_len 0 n) (range_with_len 0 n)
placed n = record {
  order_len = length-range_with_len 0 n;
  places_len = length-range_with_len 0 n;
  clocks = λ i within. let at = in_place n i within in omega arith;
  within = λ i within. let at = in_place n i within in omega arith;
  there = λ i within. ap (λ j. get_or (range_with_len 0 n) j 0) (in_place n i within) ∙ in_place n i within;
  back = λ i within. ap (λ j. get_or (range_with_len 0 n) j 0) (in_place n i within) ∙ in_place n i within;
}

-- the point at a place
same_point : (n p i : ℕ) → i < n → key_at (replicate n p) (range_with_len 0 n) i ≡ p
same_point n p i within = ap (λ j. get_or (replicate n p) j 0) (in_place n i within) ∙ get_or-replicate n i p 0 within

pub level : (n p : ℕ) (points order places : List ℕ) → points ≡ replicate n p → order ≡ range_with_len 0 n → places ≡ range_with_len 0 n → IsHeap points order places
level n p points order places is_points is_order is_places =
    let len : length (replicate n p) ≡ n = length-replicate n p in
    let all : IsHeap (replicate n p) (range_with_len 0 n) (range_with_len 0 n) = record {
      placed = (let P : ℕ → Type 0 = λ m. IsPlaced m (range_with_len 0 n) (range_with_len 0 n) in subst P (sym len) (placed n));
      ordered = λ i j within below.
          let low = below.low in
          let at_i = same_point n p i (omega arith) in
          let at_j = same_point n p j (omega arith) in
          omega arith;
    } in
    let P : List ℕ → Type 0 = λ xs. IsHeap xs order places in
    let Q : List ℕ → Type 0 = λ xs. IsHeap (replicate n p) xs places in
    let R : List ℕ → Type 0 = λ xs. IsHeap (replicate n p) (range_with_len 0 n) xs in
    subst P (sym is_points) (subst Q (sym is_order) (subst R (sym is_places) all))
