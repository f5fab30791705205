-- Where each port needs only ports of smaller numbers, the order by number has each after what it needs.
use Rattle.std.proofs.Common.{◌≡◌, ℕ, suc, ◌+◌, ◌<◌, List, [], ◌∷◌, ◌++◌, length, map, get_or, refl, sym, ◌∙◌, ap, arith, Contains, length-append}
use Rattle.std.specs.List.{range_with_len}
use Rattle.std.proofs.Math.Seq.{get_or-append_seam}
use Rattle.std.proofs.Math.ListN.{get_or-append}
use Rattle.std.proofs.lemmas.List.FromFn.{get_or-range_with_len, length-range_with_len, map-range_with_len_more}
use Rattle.sim_base.specs.declared.numbers.PortId.{PortId}
use Rattle.system_model.specs.Orders.{IsOrder}
use Rattle.system_model.specs.Ports.{port_numbers}
use Rattle.system_model.proofs.CallerLemmas.{order_by_number}

-- the element of a range that stands after so many others is their number
place_in_range : (n : ℕ) (before later : List ℕ) (p : ℕ) → range_with_len 0 n ≡ before ++ p ∷ later → p ≡ length before
place_in_range n before later p split =
    let long : n ≡ length before + suc (length later) = sym (length-range_with_len 0 n) ∙ ap length split ∙ length-append before (p ∷ later) in
    let seam : get_or (before ++ p ∷ later) (length before) 0 ≡ p = get_or-append_seam before p later 0 in
    let at : get_or (range_with_len 0 n) (length before) 0 ≡ 0 + length before = get_or-range_with_len 0 n (length before) 0 (omega (arith, long)) in
    let same : get_or (range_with_len 0 n) (length before) 0 ≡ get_or (before ++ p ∷ later) (length before) 0 = ap (λ xs. get_or xs (length before) 0) split in
    omega (arith, seam, at, same)

-- and all smaller numbers stand before it
before_it : (n : ℕ) (before later : List ℕ) (p q : ℕ) → range_with_len 0 n ≡ before ++ p ∷ later → q < p → Contains before q
before_it n before later p q split less =
    let place : p ≡ length before = place_in_range n before later p split in
    let long : n ≡ length before + suc (length later) = sym (length-range_with_len 0 n) ∙ ap length split ∙ length-append before (p ∷ later) in
    let left : get_or (before ++ p ∷ later) q q ≡ get_or before q q = get_or-append before (p ∷ later) q q (omega (arith, place, less)) in
    let at : get_or (range_with_len 0 n) q q ≡ 0 + q = get_or-range_with_len 0 n q q (omega (arith, place, less, long)) in
    let same : get_or (range_with_len 0 n) q q ≡ get_or (before ++ p ∷ later) q q = ap (λ xs. get_or xs q q) split in
    (q, omega (arith, place, less), omega (arith, left, at, same))

abbrev NeedsNothing : ℕ → ℕ → Type 0
NeedsNothing p q = ⊥

pub order_of_smaller : (n : ℕ) (IsAmong : ℕ → Type 0) (NeedsOf : ℕ → ℕ → Type 0) (order : List ℕ) → order ≡ range_with_len 0 n → ((p : ℕ) → IsAmong p → p < n) → ((p : ℕ) → p < n → IsAmong p) →
    ((p q : ℕ) → NeedsOf p q → q < p) → IsOrder IsAmong NeedsOf order
order_of_smaller n IsAmong NeedsOf order is below among smaller =
    let plain : IsOrder IsAmong NeedsNothing order = order_by_number n IsAmong NeedsNothing order is below among (λ p q none. none) in
    record {
      each = plain.each;
      only = plain.only;
      once = plain.once;
      after = λ before later p q split needs. before_it n before later p q (sym is ∙ split) (smaller p q needs);
    }

-- the numbers of ports that are taken by number
pub numbers_of : (a n : ℕ) → port_numbers (map (λ p. record { 0 = p }) (range_with_len a n)) ≡ range_with_len a n
numbers_of a n = same (range_with_len a n)
  where
    same : (xs : List ℕ) → port_numbers (map (λ p. record { 0 = p }) xs) ≡ xs
    same [] = refl
    same (x ∷ xs) = ap (λ ys. x ∷ ys) (same xs)

abbrev port_number : ℕ → PortId
port_number p = record { 0 = p }

pub numbers_more : (k : ℕ) → map port_number (range_with_len 0 (k + 1)) ≡ map port_number (range_with_len 0 k) ++ port_number k ∷ []
numbers_more k = map-range_with_len_more port_number 0 k k (omega arith)
