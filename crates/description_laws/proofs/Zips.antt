-- Two lists side by side, of which the first is what passes a test.
use Rattle.std.proofs.Common.{◌≡◌, Bool, true, false, cond, List, [], ◌∷◌, filter, refl, All}
use Rattle.std.specs.List.{AllZip}
use Rattle.std.proofs.lemmas.List.Elements.{All-cons, All-head, All-nil, All-tail}

-- what holds of each pair and of each first element
pub zipped : {X Y : Type 0} (R S : X → Y → Type 0) (Q : X → Type 0) → ((x : X) (y : Y) → Q x → R x y → S x y) → (xs : List X) (ys : List Y) → All Q xs → AllZip R xs ys → AllZip S xs ys
zipped R S Q h [] [] all zip = tt
zipped R S Q h [] (y ∷ ys) all zip = absurd zip
zipped R S Q h (x ∷ xs) [] all zip = absurd zip
zipped R S Q h (x ∷ xs) (y ∷ ys) all zip = (h x y (All-head Q x xs all) zip.0, zipped R S Q h xs ys (All-tail Q x xs all) zip.1)

-- what follows for each pair
pub each_pair : {X Y : Type 0} (R S : X → Y → Type 0) → ((x : X) (y : Y) → R x y → S x y) → (xs : List X) (ys : List Y) → AllZip R xs ys → AllZip S xs ys
each_pair R S h [] [] zip = tt
each_pair R S h [] (y ∷ ys) zip = absurd zip
each_pair R S h (x ∷ xs) [] zip = absurd zip
each_pair R S h (x ∷ xs) (y ∷ ys) zip = (h x y zip.0, each_pair R S h xs ys zip.1)

-- each second element stands beside one that passes the test
pub beside_passing : {X Y : Type 0} (R : X → Y → Type 0) (test : X → Bool) (Q : Y → Type 0) → ((x : X) (y : Y) → test x ≡ true → R x y → Q y) → (xs : List X) (ys : List Y) → AllZip R (filter test xs) ys → All Q ys
beside_passing R test Q h [] [] zip = All-nil Q
beside_passing R test Q h [] (y ∷ ys) zip = absurd zip
beside_passing {X} {Y} R test Q h (x ∷ xs) ys zip =
    (elim (test x) as (λ b. test x ≡ b → AllZip R (cond b (x ∷ filter test xs) (filter test xs)) ys → All Q ys) [
      | true ↦ λ e. first e (beside_passing R test Q h xs) ys
      | false ↦ λ e. beside_passing R test Q h xs ys
    ]) refl zip
  where
    first : test x ≡ true → ((us : List Y) → AllZip R (filter test xs) us → All Q us) → (us : List Y) → AllZip R (x ∷ filter test xs) us → All Q us
    first e rest [] z = absurd z
    first e rest (u ∷ us) z = All-cons Q u us (h x u e z.0) (rest us z.1)
