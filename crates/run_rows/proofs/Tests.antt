-- Tests of small facts, which compute, and what they show.
use Rattle.std.proofs.Common.{◌≡◌, ℕ, ℤ, ◌*◌, Bool, true, false, not, ◌&&◌, ◌||◌, List, [], ◌∷◌, refl, sym, All, nat_eq, nat_lt}
use Rattle.std.specs.Prelude.{Option, Some, None, IfSome, IsSomeAnd, int_le, ◌==◌}
use Rattle.std.specs.List.{AllByRecursion, AllZip, IsDistinct}
use Rattle.std.proofs.lemmas.Bool.{eqb-true, ltb-true}
use Rattle.std.proofs.lemmas.Float.{T_from_true}
use Rattle.std.proofs.lemmas.List.Elements.{All-nil, All-cons}
use Rattle.clock_fraction.specs.Counts.{IsCounts}
use Rattle.clock_fraction.specs.declared.fraction.Fraction.{Fraction}
use Rattle.value_types.specs.Values.{Fits, is_fitting, least_of, greatest_of}
use Rattle.value_types.specs.declared.values.PortType.{PortType}

pub true_false : true ≡ false → ⊥
true_false e = cc

pub left : (a b : Bool) → (a && b) ≡ true → a ≡ true
left true b e = refl
left false b e = absurd (true_false (sym e))

pub right : (a b : Bool) → (a && b) ≡ true → b ≡ true
right true b e = e
right false b e = absurd (true_false (sym e))

-- an implication between tests
abbrev pub implies : Bool → Bool → Bool
implies a b = not a || b

pub implied : (a b : Bool) → implies a b ≡ true → a ≡ true → b ≡ true
implied true b h e = h
implied false b h e = absurd (true_false (sym e))

-- several tests
abbrev pub holds : List Bool → Bool
holds [] = true
holds (b ∷ bs) = b && holds bs

abbrev pub AllHold : List Bool → Type 0
AllHold [] = Unit {0}
AllHold (b ∷ bs) = (b ≡ true) × AllHold bs

pub parts : (bs : List Bool) → holds bs ≡ true → AllHold bs
parts [] e = tt
parts (b ∷ bs) e = (left b (holds bs) e, parts bs (right b (holds bs) e))

-- ---- lists

abbrev pub every : {X : Type 0} → (X → Bool) → List X → Bool
every test [] = true
every test (x ∷ xs) = test x && every test xs

pub all_by : {X : Type 0} (test : X → Bool) (P : X → Type 0) → ((x : X) → test x ≡ true → P x) → (xs : List X) → every test xs ≡ true → All P xs
all_by test P shows [] e = All-nil P
all_by test P shows (x ∷ xs) e = All-cons P x xs (shows x (left (test x) (every test xs) e)) (all_by test P shows xs (right (test x) (every test xs) e))

abbrev pub zips : {X Y : Type 0} → (X → Y → Bool) → List X → List Y → Bool
zips test [] [] = true
zips test [] (y ∷ ys) = false
zips test (x ∷ xs) [] = false
zips test (x ∷ xs) (y ∷ ys) = test x y && zips test xs ys

pub zip_by : {X Y : Type 0} (test : X → Y → Bool) (R : X → Y → Type 0) → ((x : X) (y : Y) → test x y ≡ true → R x y) → (xs : List X) (ys : List Y) → zips test xs ys ≡ true → AllZip R xs ys
zip_by test R shows [] [] e = tt
zip_by test R shows [] (y ∷ ys) e = absurd (true_false (sym e))
zip_by test R shows (x ∷ xs) [] e = absurd (true_false (sym e))
zip_by test R shows (x ∷ xs) (y ∷ ys) e = (shows x y (left (test x y) (zips test xs ys) e), zip_by test R shows xs ys (right (test x y) (zips test xs ys) e))

abbrev pub are_distinct : List ℕ → Bool
are_distinct [] = true
are_distinct (x ∷ xs) = every (λ y. not (nat_eq x y)) xs && are_distinct xs

pub distinct_by : (xs : List ℕ) → are_distinct xs ≡ true → IsDistinct nat_eq xs
unfolding IsDistinct
distinct_by [] e = tt
distinct_by (x ∷ xs) e = (others xs (left (every (λ y. not (nat_eq x y)) xs) (are_distinct xs) e), distinct_by xs (right (every (λ y. not (nat_eq x y)) xs) (are_distinct xs) e))
  where
    unlike : (b : Bool) → not b ≡ true → b ≡ false
    unlike true h = absurd (true_false (sym h))
    unlike false h = refl

    others : (ys : List ℕ) → every (λ y. not (nat_eq x y)) ys ≡ true → AllByRecursion (λ y. nat_eq x y ≡ false) ys
    others [] h = tt
    others (y ∷ ys) h = (unlike (nat_eq x y) (left (not (nat_eq x y)) (every (λ z. not (nat_eq x z)) ys) h), others ys (right (not (nat_eq x y)) (every (λ z. not (nat_eq x z)) ys) h))

-- ---- options

abbrev pub if_some : {X : Type 0} → (X → Bool) → Option X → Bool
if_some test None = true
if_some test (Some x) = test x

pub if_some_by : {X : Type 0} (test : X → Bool) (P : X → Type 0) → ((x : X) → test x ≡ true → P x) → (o : Option X) → if_some test o ≡ true → IfSome o P
if_some_by test P shows None e = tt
if_some_by test P shows (Some x) e = shows x e

abbrev pub is_some_and : {X : Type 0} → (X → Bool) → Option X → Bool
is_some_and test None = false
is_some_and test (Some x) = test x

pub is_some_and_by : {X : Type 0} (test : X → Bool) (P : X → Type 0) → ((x : X) → test x ≡ true → P x) → (o : Option X) → is_some_and test o ≡ true → IsSomeAnd o P
is_some_and_by test P shows None e = absurd (true_false (sym e))
is_some_and_by test P shows (Some x) e = shows x e

-- ---- values and counts

pub fits_by : (kind : PortType) (x : ℤ) → is_fitting kind x ≡ true → Fits kind x
fits_by kind x e = (
  record { le = T_from_true (int_le (least_of kind) x) (left (int_le (least_of kind) x) (int_le x (greatest_of kind)) e) },
  record { le = T_from_true (int_le x (greatest_of kind)) (right (int_le (least_of kind) x) (int_le x (greatest_of kind)) e) },
)

abbrev pub are_counts : ℕ → ℕ → Fraction → Bool
are_counts per_second counts f = nat_lt 0 f.resolution && (counts * f.resolution == per_second * f.counter)

pub counts_by : (per_second counts : ℕ) (f : Fraction) → are_counts per_second counts f ≡ true → IsCounts f per_second counts
counts_by per_second counts f e = record {
  known = ltb-true 0 f.resolution (left (nat_lt 0 f.resolution) (counts * f.resolution == per_second * f.counter) e);
  whole = eqb-true (counts * f.resolution) (per_second * f.counter) (right (nat_lt 0 f.resolution) (counts * f.resolution == per_second * f.counter) e);
}
