-- Lists joined end to end: an element by its piece and its place there.
use Rattle.std.proofs.Common.{◌≡◌, ℕ, zero, suc, ◌+◌, ◌<◌, List, [], ◌∷◌, ◌++◌, length, take, get_or, Some, refl, sym, ap, ◌∙◌, arith}
use Rattle.std.specs.List.{flat_map, slice_get}
use Rattle.std.proofs.lemmas.List.{length-append}
use Rattle.std.proofs.lemmas.Option.{slice_get-get_or, same_Some}

pub element_at : {A : Type 0} (xs : List A) (i : ℕ) → i < length xs → (x : A) × (slice_get xs i ≡ Some x)
element_at [] i l = absurd (omega arith)
element_at (x ∷ xs) zero l = (x, refl)
element_at (x ∷ xs) (suc i) l = element_at xs i (omega arith)

-- what an index reads
pub read_at : {A : Type 0} (xs : List A) (n i : ℕ) (x y : A) → length xs ≡ n → i < n → x ≡ get_or xs i x → x ≡ y → slice_get xs i ≡ Some y
read_at xs n i x y len within read is = slice_get-get_or xs i x (omega arith) ∙ ap Some (sym read ∙ is)

-- where a piece begins
abbrev pub start_of : {X A : Type 0} → (X → List A) → List X → ℕ → ℕ
start_of f xs i = length (flat_map f (take i xs))

pub get_left : {A : Type 0} (xs ys : List A) (i : ℕ) (a : A) → slice_get xs i ≡ Some a → slice_get (xs ++ ys) i ≡ Some a
get_left [] ys i a e = cc
get_left (x ∷ xs) ys zero a e = e
get_left (x ∷ xs) ys (suc i) a e = get_left xs ys i a e

pub get_right : {A : Type 0} (xs ys : List A) (i : ℕ) → slice_get (xs ++ ys) (length xs + i) ≡ slice_get ys i
get_right [] ys i = ap (slice_get ys) (omega arith)
get_right (x ∷ xs) ys i = ap (slice_get (x ∷ (xs ++ ys))) (one (length xs)) ∙ get_right xs ys i
  where
    one : (n : ℕ) → suc n + i ≡ suc (n + i)
    one n = omega arith

-- the first piece is before all others
start_more : {X A : Type 0} (f : X → List A) (y : X) (ys : List X) (i : ℕ) → start_of f (y ∷ ys) (suc i) ≡ length (f y) + start_of f ys i
start_more f y ys i = length-append (f y) (flat_map f (take i ys))

pub get_piece : {X A : Type 0} (f : X → List A) (xs : List X) (i j : ℕ) (x : X) (a : A) → slice_get xs i ≡ Some x → slice_get (f x) j ≡ Some a → slice_get (flat_map f xs) (start_of f xs i + j) ≡ Some a
get_piece f [] i j x a ex ea = cc
get_piece f (y ∷ ys) zero j x a ex ea =
    ap (slice_get (f y ++ flat_map f ys)) (omega arith) ∙ get_left (f y) (flat_map f ys) j a (ap (λ z. slice_get (f z) j) (same_Some y x ex) ∙ ea)
get_piece f (y ∷ ys) (suc i) j x a ex ea =
    let n : start_of f (y ∷ ys) (suc i) + j ≡ length (f y) + (start_of f ys i + j) = (let m = start_more f y ys i in omega arith) in
    ap (slice_get (f y ++ flat_map f ys)) n ∙ get_right (f y) (flat_map f ys) (start_of f ys i + j) ∙ get_piece f ys i j x a ex ea
