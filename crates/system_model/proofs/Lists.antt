-- Lists of small facts: what holds of each element, and what is found under a key.
use Rattle.std.proofs.Common.{◌≡◌, ℕ, zero, suc, Bool, true, false, cond, List, [], ◌∷◌, map, filter, get_or, refl, sym, ◌∙◌, ap, subst, All, Contains, find, nat_eq}
use Rattle.std.specs.Prelude.{Some, slice_get, ◌==◌, if◌then◌else◌}
use Rattle.std.specs.List.{AllByRecursion, AllZip, IsDistinct}
use Rattle.std.proofs.lemmas.Bool.{eqb-true, eq-eqb}
use Rattle.std.proofs.lemmas.Option.{none-some as none_some, same_Some, slice_get_within, slice_get-get_or, get_or_from_slice_get}
use Rattle.std.proofs.lemmas.List.Elements.{All-get_or}
use Rattle.std.proofs.lemmas.Map.Keys.{IsDistinct-head, IsDistinct-tail}

-- the element at a place of which something holds of each
pub all_at : {X : Type 0} (P : X → Type 0) (xs : List X) (k : ℕ) (x : X) → All P xs → slice_get xs k ≡ Some x → P x
all_at P xs k x all is = subst P (get_or_from_slice_get xs k x x is) (All-get_or P xs k x (slice_get_within xs k x is) all)

-- what holds at each place holds of each element
pub all_by_place : {X : Type 0} (P : X → Type 0) (xs : List X) → ((k : ℕ) (x : X) → slice_get xs k ≡ Some x → P x) → All P xs
all_by_place P xs h = λ k d lt. h k (get_or xs k d) (slice_get-get_or xs k d lt)

-- what is among some stands at a place
pub contains_at : {X : Type 0} (xs : List X) (x : X) → Contains xs x → (k : ℕ) × (slice_get xs k ≡ Some x)
contains_at xs x h = (h.0, slice_get-get_or xs h.0 x h.1 ∙ ap Some h.2)

pub at_contains : {X : Type 0} (xs : List X) (k : ℕ) (x : X) → slice_get xs k ≡ Some x → Contains xs x
at_contains xs k x is = (k, slice_get_within xs k x is, get_or_from_slice_get xs k x x is)

pub true_false : true ≡ false → ⊥
true_false e = cc

-- ---- keys

abbrev pub IsAbsent : {X : Type 0} → (X → ℕ) → ℕ → List X → Type 0
IsAbsent {X} key r xs = (k : ℕ) (x : X) → slice_get xs k ≡ Some x → r ≡ key x → ⊥

pub absent_from : {X : Type 0} (key : X → ℕ) (r : ℕ) (xs : List X) → AllByRecursion (λ y. nat_eq r y ≡ false) (map key xs) → IsAbsent key r xs
absent_from key r [] all k x is same = none_some _ is
absent_from key r (y ∷ ys) all zero x is same =
    true_false (sym (eq-eqb r (key y) (same ∙ ap key (sym (same_Some _ _ is)))) ∙ all.0)
absent_from key r (y ∷ ys) all (suc k) x is same = absent_from key r ys all.1 k x is same

-- what stands at a place is found under its key, where keys are distinct
pub found_under : {X : Type 0} (key : X → ℕ) (xs : List X) (k : ℕ) (x : X) → IsDistinct nat_eq (map key xs) → slice_get xs k ≡ Some x → find (λ y. key y == key x) xs ≡ Some x
found_under key [] k x distinct is = absurd (none_some _ is)
found_under key (y ∷ ys) zero x distinct is =
    ap (λ b. if b then Some y else find (λ z. key z == key x) ys) (eq-eqb (key y) (key x) (ap key (same_Some _ _ is))) ∙ is
found_under key (y ∷ ys) (suc k) x distinct is =
    (elim (key y == key x) as (λ b. (key y == key x) ≡ b → (if b then Some y else find (λ z. key z == key x) ys) ≡ Some x) [
      | true ↦ λ e. absurd (absent_from key (key y) ys (IsDistinct-head nat_eq (key y) (map key ys) distinct) k x is (eqb-true (key y) (key x) e))
      | false ↦ λ e. found_under key ys k x (IsDistinct-tail nat_eq (key y) (map key ys) distinct) is
    ]) refl

-- what is found stands at a place, under the key
pub record FoundAt {X : Type 0} (key : X → ℕ) (xs : List X) (r : ℕ) (x : X) : Type 0 where
  pub place : ℕ
  pub is : slice_get xs place ≡ Some x
  pub under : key x ≡ r

pub found_at : {X : Type 0} (key : X → ℕ) (xs : List X) (r : ℕ) (x : X) → find (λ y. key y == r) xs ≡ Some x → FoundAt key xs r x
found_at key [] r x e = absurd (none_some _ e)
found_at {X} key (y ∷ ys) r x e =
    (elim (key y == r) as (λ b. (key y == r) ≡ b → (if b then Some y else find (λ z. key z == r) ys) ≡ Some x → FoundAt key (y ∷ ys) r x) [
      | true ↦ λ same is. record { place = 0; is = is; under = ap key (sym (same_Some _ _ is)) ∙ eqb-true (key y) r same }
      | false ↦ λ other is. let more : FoundAt key ys r x = found_at key ys r x is in record { place = suc more.place; is = more.is; under = more.under }
    ]) refl e

-- ---- two lists side by side

-- an element's partner in another list
pub record Partner {X Y : Type 0} (R : X → Y → Type 0) (x : X) (ys : List Y) : Type 0 where
  pub place : ℕ
  pub other : Y
  pub is : slice_get ys place ≡ Some other
  pub holds : R x other

later : {X Y : Type 0} (R : X → Y → Type 0) (x : X) (y : Y) (ys : List Y) → Partner R x ys → Partner R x (y ∷ ys)
later R x y ys p = record { place = suc p.place; other = p.other; is = p.is; holds = p.holds }

-- each element that passes the test has its partner
pub filtered_partner : {X Y : Type 0} (R : X → Y → Type 0) (test : X → Bool) (xs : List X) (ys : List Y) (k : ℕ) (x : X) → AllZip R (filter test xs) ys → slice_get xs k ≡ Some x → test x ≡ true → Partner R x ys
filtered_partner R test [] ys k x zip is passes = absurd (none_some _ is)
filtered_partner {X} {Y} R test (z ∷ zs) ys zero x zip is passes =
    (elim (test z) as (λ b. test z ≡ b → AllZip R (cond b (z ∷ filter test zs) (filter test zs)) ys → Partner R x ys) [
      | true ↦ λ t. first ys
      | false ↦ λ t zipped. absurd (true_false (sym passes ∙ ap test (sym (same_Some _ _ is)) ∙ t))
    ]) refl zip
  where
    first : (us : List Y) → AllZip R (z ∷ filter test zs) us → Partner R x us
    first [] zipped = absurd zipped
    first (u ∷ us) zipped = record { place = 0; other = u; is = refl; holds = subst (λ w. R w u) (same_Some _ _ is) zipped.0 }
filtered_partner {X} {Y} R test (z ∷ zs) ys (suc k) x zip is passes =
    (elim (test z) as (λ b. test z ≡ b → AllZip R (cond b (z ∷ filter test zs) (filter test zs)) ys → Partner R x ys) [
      | true ↦ λ t. after (λ us zipped. filtered_partner R test zs us k x zipped is passes) ys
      | false ↦ λ t zipped. filtered_partner R test zs ys k x zipped is passes
    ]) refl zip
  where
    after : ((us : List Y) → AllZip R (filter test zs) us → Partner R x us) → (us : List Y) → AllZip R (z ∷ filter test zs) us → Partner R x us
    after more [] zipped = absurd zipped
    after more (u ∷ us) zipped = later R x u us (more us zipped.1)
