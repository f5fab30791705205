-- Bytes that are put after others.
use Rattle.std.proofs.Common.{◌≡◌, ℕ, zero, suc, ◌+◌, ◌<◌, ◌≤◌, List, [], ◌∷◌, ◌++◌, length, take, get_or, ap, ◌∙◌, append_assoc, arith}
use Rattle.std.specs.List.{flat_map}
use Rattle.std.proofs.lemmas.List.{length-append}

-- one part is there, and the others come after it
pub put_after : (old mid new x y : List ℕ) → mid ≡ old ++ x → new ≡ mid ++ y → new ≡ old ++ (x ++ y)
put_after old mid new x y e f = f ∙ ap (λ (t : List ℕ). t ++ y) e ∙ append_assoc old x y

-- the list that was given is this one
pub put_list : {V : Type 0} (spell : V → List ℕ) (given xs : List V) (old new : List ℕ) → given ≡ xs → new ≡ old ++ flat_map spell given → new ≡ old ++ flat_map spell xs
put_list {V} spell given xs old new e f = f ∙ ap (λ (t : List V). old ++ flat_map spell t) e

-- the pieces before a place, and the one at it, are some of all
pub piece_fits : {V : Type 0} (f : V → List ℕ) (xs : List V) (i : ℕ) (d : V) → i < length xs → length (flat_map f (take i xs)) + length (f (get_or xs i d)) ≤ length (flat_map f xs)
piece_fits f [] i d lt = absurd (omega (arith, lt))
piece_fits f (x ∷ xs) zero d lt = let whole = length-append (f x) (flat_map f xs) in omega (arith, whole)
piece_fits f (x ∷ xs) (suc i) d lt =
    let rest = piece_fits f xs i d (omega (arith, lt)) in
    let whole = length-append (f x) (flat_map f xs) in
    let part = length-append (f x) (flat_map f (take i xs)) in
    omega (arith, rest, whole, part)

-- where all parts have room, so has the next one
pub next_room : {V : Type 0} (f : V → List ℕ) (xs : List V) (i : ℕ) (x d : V) (old new : List ℕ) (len more room : ℕ) → x ≡ get_or xs i d → i < length xs → new ≡ old ++ flat_map f (take i xs) → len ≡ length old → more ≡ length new → len + length (flat_map f xs) ≤ room → more + length (f x) ≤ room
next_room f xs i x d old new len more room is lt text a b fits =
    let part = piece_fits f xs i d lt in
    let here = ap (λ v. length (f v)) is in
    let before = ap length text ∙ length-append old (flat_map f (take i xs)) in
    omega (arith, part, here, before, a, b, fits)
