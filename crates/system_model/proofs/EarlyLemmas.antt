-- How many of some FMUs might return early, by the places of those that might.
use Rattle.std.proofs.Common.{◌≡◌, ◌≢◌, ℕ, zero, suc, ◌+◌, ◌<◌, Bool, true, false, cond, List, [], ◌∷◌, refl, ◌∙◌, ap, arith}
use Rattle.std.specs.Prelude.{Some, slice_get}
use Rattle.std.proofs.lemmas.List.Sums.{sum_by-cons}
use Rattle.std.proofs.lemmas.Option.{none-some as none_some, same_Some}
use Rattle.value_types.specs.declared.shape.Shape.{Shape}
use Rattle.system_model.specs.EarlyReturn.{early_count}

-- what one adds
abbrev weight : Bool → ℕ
weight b = cond b 1 0

weighs_one : (b : Bool) → b ≡ true → weight b ≡ 1
weighs_one true h = refl
weighs_one false h = absurd (cc)

count_cons : (s : Shape) (ss : List Shape) → early_count (s ∷ ss) ≡ weight s.might_return_early + early_count ss
count_cons s ss = sum_by-cons (λ (x : Shape). cond x.might_return_early 1 0) s ss

-- where none might, they are none
pub none_early : (ss : List Shape) → ((i : ℕ) (s : Shape) → slice_get ss i ≡ Some s → s.might_return_early ≡ false) → early_count ss ≡ 0
none_early [] h = refl
none_early (s ∷ ss) h =
    let c = count_cons s ss in
    let own : weight s.might_return_early ≡ 0 = ap weight (h 0 s refl) in
    let more : early_count ss ≡ 0 = none_early ss (λ i x at. h (suc i) x at) in
    omega (arith, c, own, more)

-- one that might, and its place
pub record Early (ss : List Shape) : Type 0 where
  pub place : ℕ
  pub shape : Shape
  pub at : slice_get ss place ≡ Some shape
  pub early : shape.might_return_early ≡ true

abbrev later : (s : Shape) (ss : List Shape) → Early ss → Early (s ∷ ss)
later s ss e = record { place = suc e.place; shape = e.shape; at = e.at; early = e.early }

pub some_early : (ss : List Shape) → 0 < early_count ss → Early ss
some_early [] h = absurd (omega (arith, h))
some_early (s ∷ ss) h = by s.might_return_early refl (λ more. some_early ss more) where
  by : (b : Bool) → s.might_return_early ≡ b → (0 < early_count ss → Early ss) → Early (s ∷ ss)
  by true is rest = record { place = 0; shape = s; at = refl; early = is }
  by false is rest = later s ss (rest (let c = count_cons s ss in let none : weight s.might_return_early ≡ 0 = ap weight is in omega (arith, h, c, none)))

-- two that might
pub record TwoEarly (ss : List Shape) : Type 0 where
  pub one : Early ss
  pub other : Early ss
  pub apart : one.place ≢ other.place

not_first : (n : ℕ) → 0 ≡ suc n → ⊥
not_first n e = absurd (omega (arith, e))

same_rest : (a b : ℕ) → suc a ≡ suc b → a ≡ b
same_rest a b e = omega (arith, e)

pub two_early : (ss : List Shape) → 1 < early_count ss → TwoEarly ss
two_early [] h = absurd (omega (arith, h))
two_early (s ∷ ss) h = by s.might_return_early refl (λ more. two_early ss more) where
  by : (b : Bool) → s.might_return_early ≡ b → (1 < early_count ss → TwoEarly ss) → TwoEarly (s ∷ ss)
  by true is rest =
      let c = count_cons s ss in
      let own = weighs_one s.might_return_early is in
      let other = some_early ss (omega (arith, h, c, own)) in
      record { one = record { place = 0; shape = s; at = refl; early = is }; other = later s ss other; apart = not_first other.place }
  by false is rest =
      let two = rest (let c = count_cons s ss in let none : weight s.might_return_early ≡ 0 = ap weight is in omega (arith, h, c, none)) in
      record { one = later s ss two.one; other = later s ss two.other; apart = λ e. two.apart (same_rest two.one.place two.other.place e) }

-- and where two might, they are more than one
pub counts_one : (ss : List Shape) (i : ℕ) (s : Shape) → slice_get ss i ≡ Some s → s.might_return_early ≡ true → 0 < early_count ss
counts_one [] i s at h = absurd (none_some s at)
counts_one (x ∷ ss) zero s at h =
    let c = count_cons x ss in
    let own = weighs_one x.might_return_early (ap (λ (y : Shape). y.might_return_early) (same_Some x s at) ∙ h) in
    omega (arith, own, c)
counts_one (x ∷ ss) (suc i) s at h =
    let c = count_cons x ss in
    let more = counts_one ss i s at h in
    omega (arith, more, c)

pub counts_two : (ss : List Shape) (i j : ℕ) (r s : Shape) → i ≢ j → slice_get ss i ≡ Some r → slice_get ss j ≡ Some s → r.might_return_early ≡ true → s.might_return_early ≡ true → 1 < early_count ss
counts_two [] i j r s apart at there h k = absurd (none_some r at)
counts_two (x ∷ ss) zero zero r s apart at there h k = absurd (apart refl)
counts_two (x ∷ ss) zero (suc j) r s apart at there h k =
    let c = count_cons x ss in
    let own = weighs_one x.might_return_early (ap (λ (y : Shape). y.might_return_early) (same_Some x r at) ∙ h) in
    let more = counts_one ss j s there k in
    omega (arith, own, more, c)
counts_two (x ∷ ss) (suc i) zero r s apart at there h k =
    let c = count_cons x ss in
    let own = weighs_one x.might_return_early (ap (λ (y : Shape). y.might_return_early) (same_Some x s there) ∙ k) in
    let more = counts_one ss i r at h in
    omega (arith, own, more, c)
counts_two (x ∷ ss) (suc i) (suc j) r s apart at there h k =
    let c = count_cons x ss in
    let more = counts_two ss i j r s (λ e. apart (ap suc e)) at there h k in
    omega (arith, more, c)
