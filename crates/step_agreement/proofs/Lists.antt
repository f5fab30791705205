-- What holds of each element of a list, by its place; least elements.
use Rattle.std.proofs.Common.{nat_lt, ◌≡◌, ◌⊎◌, inl, inr, ℕ, zero, suc, ◌+◌, ◌≤◌, Bool, true, false, not, cond, List, [], ◌∷◌, length, map, Some, None, refl, sym, ap, ap₂, ◌∙◌, subst, arith, position}
use Rattle.std.specs.Prelude.{◌&&◌, min, filter}
use Rattle.std.specs.List.{list_all, position_or_len, slice_get}
use Rattle.std.proofs.lemmas.Option.{none-some as none_some, same_Some}
use Rattle.std.proofs.lemmas.Bool.Decides.{nat_tests}
use Rattle.run_model.specs.Steps.{least_or}

abbrev pub Each : {A : Type 0} → (A → Type 0) → List A → Type 0
Each {A} P xs = (i : ℕ) (x : A) → slice_get xs i ≡ Some x → P x

pub each_head : {A : Type 0} (P : A → Type 0) (x : A) (xs : List A) → Each P (x ∷ xs) → P x
each_head P x xs h = h 0 x refl

pub each_tail : {A : Type 0} (P : A → Type 0) (x : A) (xs : List A) → Each P (x ∷ xs) → Each P xs
each_tail P x xs h = λ i y e. h (suc i) y e

pub each_nil : {A : Type 0} (P : A → Type 0) → Each P []
each_nil P = λ i x e. absurd (none_some x e)

pub each_cons : {A : Type 0} (P : A → Type 0) (x : A) (xs : List A) → P x → Each P xs → Each P (x ∷ xs)
each_cons P x xs p h zero y e = subst P (same_Some x y e) p
each_cons P x xs p h (suc i) y e = h i y e

pub map_each : {A B : Type 0} (f g : A → B) (xs : List A) → Each (λ x. f x ≡ g x) xs → map f xs ≡ map g xs
map_each f g [] h = refl
map_each f g (x ∷ xs) h = ap₂ ◌∷◌ (each_head (λ y. f y ≡ g y) x xs h) (map_each f g xs (each_tail (λ y. f y ≡ g y) x xs h))

pub map_map : {A B C : Type 0} (f : A → B) (g : B → C) (xs : List A) → map g (map f xs) ≡ map (λ x. g (f x)) xs
map_map f g [] = refl
map_map f g (x ∷ xs) = ap (λ ys. g (f x) ∷ ys) (map_map f g xs)

-- ---- tests

both : (a b : Bool) → (a && b) ≡ true → (a ≡ true) × (b ≡ true)
both true b h = (refl, h)
both false b h = absurd (cc)

pub all_each : {A : Type 0} (test : A → Bool) (xs : List A) → list_all test xs ≡ true → Each (λ x. test x ≡ true) xs
all_each test [] h = each_nil (λ x. test x ≡ true)
all_each test (x ∷ xs) h = each_cons (λ y. test y ≡ true) x xs (both (test x) (list_all test xs) h).0 (all_each test xs (both (test x) (list_all test xs) h).1)

pub each_all : {A : Type 0} (test : A → Bool) (xs : List A) → Each (λ x. test x ≡ true) xs → list_all test xs ≡ true
each_all test [] h = refl
each_all test (x ∷ xs) h = ap₂ ◌&&◌ (each_head (λ y. test y ≡ true) x xs h) (each_all test xs (each_tail (λ y. test y ≡ true) x xs h))

-- one that doesn't pass
abbrev pub Passes : {A : Type 0} → (A → Bool) → Bool → List A → Type 0
Passes {A} test b xs = (i : ℕ) × (x : A) × (slice_get xs i ≡ Some x) × (test x ≡ b)

pub not_all : {A : Type 0} (test : A → Bool) (xs : List A) → list_all test xs ≡ false → Passes test false xs
not_all test [] h = absurd (cc)
not_all {A} test (x ∷ xs) h = by (test x) refl (λ k. not_all test xs k) where
  by : (b : Bool) → test x ≡ b → (list_all test xs ≡ false → Passes test false xs) → Passes test false (x ∷ xs)
  by true e on = let more = on (ap (λ b. b && list_all test xs) (sym e) ∙ h) in (suc more.0, more.1, more.2, more.3)
  by false e on = (0, x, refl, e)

-- ---- some of a list

abbrev pub Holds : {A : Type 0} → List A → A → Type 0
Holds xs x = (j : ℕ) × (slice_get xs j ≡ Some x)

pub filter_in : {A : Type 0} (p : A → Bool) (xs : List A) (i : ℕ) (x : A) → slice_get xs i ≡ Some x → p x ≡ true → Holds (filter p xs) x
filter_in p [] i x at h = absurd (none_some x at)
filter_in p (y ∷ xs) zero x at h =
    let same = same_Some y x at in
    (0, ap (λ b. slice_get (cond b (y ∷ filter p xs) (filter p xs)) 0) (ap p same ∙ h) ∙ ap Some same)
filter_in {A} p (y ∷ xs) (suc i) x at h = by (p y) refl (filter_in p xs i x at h) where
  by : (b : Bool) → p y ≡ b → Holds (filter p xs) x → Holds (filter p (y ∷ xs)) x
  by true e more = (suc more.0, ap (λ b. slice_get (cond b (y ∷ filter p xs) (filter p xs)) (suc more.0)) e ∙ more.1)
  by false e more = (more.0, ap (λ b. slice_get (cond b (y ∷ filter p xs) (filter p xs)) more.0) e ∙ more.1)

-- it stands in the list, and passes
abbrev pub From : {A : Type 0} → (A → Bool) → List A → A → Type 0
From p xs x = Holds xs x × (p x ≡ true)

pub filter_from : {A : Type 0} (p : A → Bool) (xs : List A) (j : ℕ) (x : A) → slice_get (filter p xs) j ≡ Some x → From p xs x
filter_from p [] j x at = absurd (none_some x at)
filter_from {A} p (y ∷ xs) j x at = by (p y) refl j at (λ k h. filter_from p xs k x h) where
  later : From p xs x → From p (y ∷ xs) x
  later h = ((suc h.0.0, h.0.1), h.1)

  by : (b : Bool) → p y ≡ b → (j : ℕ) → slice_get (cond (p y) (y ∷ filter p xs) (filter p xs)) j ≡ Some x → ((k : ℕ) → slice_get (filter p xs) k ≡ Some x → From p xs x) → From p (y ∷ xs) x
  by true e zero h on =
      let same : y ≡ x = same_Some y x (ap (λ b. slice_get (cond b (y ∷ filter p xs) (filter p xs)) 0) (sym e) ∙ h) in
      ((0, ap Some same), ap p (sym same) ∙ e)
  by true e (suc k) h on = later (on k (ap (λ b. slice_get (cond b (y ∷ filter p xs) (filter p xs)) (suc k)) (sym e) ∙ h))
  by false e k h on = later (on k (ap (λ b. slice_get (cond b (y ∷ filter p xs) (filter p xs)) k) (sym e) ∙ h))

-- ---- least elements

min_first : (a b x : ℕ) → a ≤ x → min a b ≤ x
min_first a b x h = omega (arith, h)

min_second : (a b x : ℕ) → b ≤ x → min a b ≤ x
min_second a b x h = omega (arith, h)

min_is : (a b : ℕ) → (min a b ≡ a) ⊎ (min a b ≡ b)
min_is a b = grind (arith)

abbrev pub Low : {A : Type 0} → (A → ℕ) → ℕ → A → Type 0
Low f l x = l ≤ f x

pub least_low : {A : Type 0} (f : A → ℕ) (d : ℕ) (xs : List A) → Each (Low f (least_or d (map f xs))) xs
least_low f d [] = each_nil (Low f d)
least_low f d (y ∷ xs) = λ i x at. by i x at (λ k e. least_low f (f y) xs k x e) where
  by : (i : ℕ) (x : _) → slice_get (y ∷ xs) i ≡ Some x → ((k : ℕ) → slice_get xs k ≡ Some x → least_or (f y) (map f xs) ≤ f x) → min (f y) (least_or (f y) (map f xs)) ≤ f x
  by zero x at on =
      let same = ap f (same_Some y x at) in
      min_first (f y) (least_or (f y) (map f xs)) (f x) (omega (arith, same))
  by (suc i) x at on = min_second (f y) (least_or (f y) (map f xs)) (f x) (on i at)

-- it is one of them, or there is none
abbrev pub IsOne : {A : Type 0} → (A → ℕ) → ℕ → List A → Type 0
IsOne {A} f n xs = (x : A) × Holds xs x × (n ≡ f x)

pub least_is : {A : Type 0} (f : A → ℕ) (d : ℕ) (xs : List A) → ((least_or d (map f xs) ≡ d) × (xs ≡ [])) ⊎ IsOne f (least_or d (map f xs)) xs
least_is f d [] = inl (refl, refl)
least_is {A} f d (y ∷ xs) = inr (by (least_is f (f y) xs) (min_is (f y) (least_or (f y) (map f xs)))) where
  by : ((least_or (f y) (map f xs) ≡ f y) × (xs ≡ [])) ⊎ IsOne f (least_or (f y) (map f xs)) xs → (min (f y) (least_or (f y) (map f xs)) ≡ f y) ⊎ (min (f y) (least_or (f y) (map f xs)) ≡ least_or (f y) (map f xs)) →
      IsOne f (min (f y) (least_or (f y) (map f xs))) (y ∷ xs)
  by more (inl e) = (y, (0, refl), e)
  by (inl none) (inr e) = (y, (0, refl), e ∙ none.0)
  by (inr more) (inr e) = (more.0, (suc more.1.0, more.1.1), e ∙ more.2)

pub least_one : {A : Type 0} (f : A → ℕ) (d : ℕ) (xs : List A) (x : A) → Holds xs x → IsOne f (least_or d (map f xs)) xs
least_one {A} f d xs x at = by (least_is f d xs) where
  by : ((least_or d (map f xs) ≡ d) × (xs ≡ [])) ⊎ IsOne f (least_or d (map f xs)) xs → IsOne f (least_or d (map f xs)) xs
  by (inl none) = absurd (none_some x (ap (λ ys. slice_get ys at.0) (sym none.1) ∙ at.1))
  by (inr one) = one

-- of numbers that are m but for some that are at most m, the least is the least of those
module _ {A : Type 0} (f g : A → ℕ) (p : A → Bool) (m d e : ℕ) (xs : List A) (some : Each (λ x. p x ≡ true → (f x ≡ g x) × (g x ≤ m)) xs) (rest : Each (λ x. p x ≡ false → f x ≡ m) xs)
    (x : A) (at : Holds xs x) (h : p x ≡ true) where
  abbrev a : ℕ
  a = least_or d (map f xs)

  abbrev b : ℕ
  b = least_or e (map g (filter p xs))

  place : Holds (filter p xs) x
  place = filter_in p xs at.0 x at.1 h

  below : a ≤ b
  below =
      let one = least_one g e (filter p xs) x place in
      let back = filter_from p xs one.1.0 one.0 one.1.1 in
      let low = least_low f d xs back.0.0 one.0 back.0.1 in
      let is = (some back.0.0 one.0 back.0.1 back.1).0 in
      let eq = one.2 in
      omega (arith, low, is, eq)

  above_by : (y : A) → Holds xs y → a ≡ f y → (t : Bool) → p y ≡ t → b ≤ a
  above_by y here eq true t =
      let there = filter_in p xs here.0 y here.1 t in
      let low = least_low g e (filter p xs) there.0 y there.1 in
      let is = (some here.0 y here.1 t).0 in
      omega (arith, low, is, eq)
  above_by y here eq false t =
      let is = rest here.0 y here.1 t in
      let low = least_low g e (filter p xs) place.0 x place.1 in
      let most = (some at.0 x at.1 h).1 in
      omega (arith, low, is, eq, most)

  above : b ≤ a
  above = let one = least_one f d xs x at in above_by one.0 one.1 one.2 (p one.0) refl

  pub least_of_some : a ≡ b
  least_of_some = let u = below in let v = above in omega (arith, u, v)

-- ---- places

none_len : {A : Type 0} (test : A → Bool) (xs : List A) → Each (λ x. test x ≡ false) xs → position_or_len test xs ≡ length xs
none_len test [] none = refl
none_len test (x ∷ xs) none =
    let rest : position_or_len test xs ≡ length xs = none_len test xs (each_tail (λ y. test y ≡ false) x xs none) in
    ap (λ b. cond (not b) (1 + position_or_len test xs) 0) (none 0 x refl) ∙ omega arith

pub position_none : {A : Type 0} (test : A → Bool) (xs : List A) → Each (λ x. test x ≡ false) xs → position test xs ≡ None
position_none test xs none =
    let len : position_or_len test xs ≡ length xs = none_len test xs none in
    let past : nat_lt (length xs) (length xs) ≡ false = grind (arith, nat_tests) in
    ap (λ n. cond (nat_lt n (length xs)) (Some n) None) len ∙ ap (λ b. cond b (Some (length xs)) None) past
