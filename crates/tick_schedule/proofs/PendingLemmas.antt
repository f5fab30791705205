-- Places that are still to be taken, by their points.
use Rattle.std.proofs.Common.{◌≡◌, ℕ, ◌<◌, ◌≤◌, ◌^◌, inl, inr, ◌⊎◌, Bool, true, false, List, [], ◌∷◌, Some, None, ap, arith, get_or, length, map, refl, subst, suc, sym, zero, ◌∙◌}
use Rattle.std.specs.Prelude.{All, IfNone, IfSome, Option, slice_set, ◌==◌, not, replicate}
use Rattle.std.specs.List.{slice_get}
use Rattle.std.proofs.lemmas.Bool.{cases_lt, eq-eqb, eqb-true, ne_eqb}
use Rattle.std.proofs.lemmas.List.{get_or-map, get_or_past, length-map}
use Rattle.std.proofs.lemmas.Option.{slice_get-get_or, slice_get-map}
use Rattle.tick_schedule.specs.Pending.{AreOwnNumbers, is_to_take, place_of}
use Rattle.tick_schedule.specs.Points.{past}

-- what stands at a place after a set: the new point at its own place, else what stood there
set_cases : {P : Type 0} (points : List ℕ) (place point q x : ℕ) → slice_get (slice_set points place point) q ≡ Some x → ((q ≡ place) → (x ≡ point) → P) → (slice_get points q ≡ Some x → P) → P
set_cases [] place point q x is here there = there is
set_cases (y ∷ points) zero point zero x is here there = here refl cc
set_cases (y ∷ points) zero point (suc q) x is here there = there is
set_cases (y ∷ points) (suc place) point zero x is here there = there is
set_cases (y ∷ points) (suc place) point (suc q) x is here there = set_cases points place point q x is (λ same new. here (ap suc same) new) there

-- another point that is none or its place's number
set_own : (points : List ℕ) (place point : ℕ) → (point ≡ past) ⊎ (point ≡ place) → AreOwnNumbers points → AreOwnNumbers (slice_set points place point)
set_own points place point new own q x is =
    set_cases points place point q x is (λ same at. subst (λ (k : ℕ). (x ≡ past) ⊎ (x ≡ k)) (sym same) (subst (λ (y : ℕ). (y ≡ past) ⊎ (y ≡ place)) (sym at) new)) (λ old. own q x old)

-- a place with its own number as its point
pub own_set : (points : List ℕ) (place : ℕ) → AreOwnNumbers points → AreOwnNumbers (slice_set points place place)
own_set points place own = set_own points place place (inr refl) own

pub own_past : (points : List ℕ) (place : ℕ) → AreOwnNumbers points → AreOwnNumbers (slice_set points place past)
own_past points place own = set_own points place past (inl refl) own

-- where each point is none
all_past : (count place x : ℕ) → slice_get (replicate count past) place ≡ Some x → x ≡ past
all_past zero place x is = absurd (cc)
all_past (suc count) zero x is = cc
all_past (suc count) (suc place) x is = all_past count place x is

pub own_none : (count : ℕ) → AreOwnNumbers (replicate count past)
own_none count place x is = inl (all_past count place x is)

-- the flags of points of which one is another
pub flags_set : (points : List ℕ) (place point : ℕ) → map is_to_take (slice_set points place point) ≡ slice_set (map is_to_take points) place (is_to_take point)
flags_set [] place point = refl
flags_set (x ∷ points) zero point = refl
flags_set (x ∷ points) (suc place) point = ap (λ flags. is_to_take x ∷ flags) (flags_set points place point)

pub flags_none : (count : ℕ) → map is_to_take (replicate count past) ≡ replicate count false
flags_none zero = refl
flags_none (suc count) = ap (λ flags. false ∷ flags) (flags_none count)

-- a number that is a place is none of those that stand for "none"
pub place_is_to_take : (place : ℕ) → place < 2 ^ 63 → is_to_take place ≡ true
place_is_to_take place few = ap not (ne_eqb place past (λ e. omega (arith, few, e)))

past_is_not : (point : ℕ) → point ≡ past → is_to_take point ≡ false
past_is_not point none = ap not (eq-eqb point past none)

-- a place before the least point isn't to be taken
pub none_before : (points : List ℕ) (least : ℕ) → length points < 2 ^ 63 → AreOwnNumbers points → All (λ q. least ≤ q) points → (place : ℕ) → place < least → get_or (map is_to_take points) place false ≡ false
none_before points least few own all place before = by_length (length points) refl
  where
    at : (point : ℕ) → slice_get points place ≡ Some point → least ≤ point → is_to_take point ≡ false
    at point is low = elim (own place point is) as (λ o. is_to_take point ≡ false) [
      | inl none ↦ past_is_not point none
      | inr number ↦ absurd (omega (arith, number, low, before))
    ]

    within : place < length points → get_or (map is_to_take points) place false ≡ false
    within lt = get_or-map is_to_take points place 0 false lt ∙ at (get_or points place 0) (slice_get-get_or points place 0 lt) (all place 0 lt)

    by_length : (n : ℕ) → length points ≡ n → get_or (map is_to_take points) place false ≡ false
    by_length n is = grind (arith, get_or_past, length-map, within)

-- what is told of the least point
pub first_of : (points : List ℕ) (least : ℕ) → length points < 2 ^ 63 → AreOwnNumbers points → All (λ q. least ≤ q) points → (told : Option ℕ) → told ≡ place_of least → IfSome told (λ place. (other : ℕ) → other < place → get_or (map is_to_take points) other false ≡ false)
first_of points least few own all None is = tt
first_of points least few own all (Some place) is = by (least == past) refl
  where
    by : (b : Bool) → (least == past) ≡ b → (other : ℕ) → other < place → get_or (map is_to_take points) other false ≡ false
    by true none other before = absurd (cc)
    by false there other before = let same : place ≡ least = cc in none_before points least few own all other (omega (arith, same, before))

pub none_of : (points : List ℕ) (least : ℕ) → length points < 2 ^ 63 → AreOwnNumbers points → All (λ q. least ≤ q) points → (told : Option ℕ) → told ≡ place_of least → IfNone told ((place : ℕ) → get_or (map is_to_take points) place false ≡ false)
none_of points least few own all (Some place) is = tt
none_of points least few own all None is = λ place. by (least == past) refl place
  where
    by : (b : Bool) → (least == past) ≡ b → (place : ℕ) → get_or (map is_to_take points) place false ≡ false
    by false there place = absurd (cc)
    by true none place = elim (cases_lt place least) as (λ o. get_or (map is_to_take points) place false ≡ false) [
      | inl before ↦ none_before points least few own all place before
      | inr after ↦ get_or_past (map is_to_take points) place false (let same = eqb-true least past none in let long = length-map points is_to_take in omega (arith, after, same, few, long))
    ]
