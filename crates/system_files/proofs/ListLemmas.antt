-- Lists of which something holds element by element.
use Rattle.std.proofs.Common.{◌≡◌, ◌<◌, ◌+◌, ℕ, List, [], ◌∷◌, ◌++◌, drop, get_or, length, take, refl, ap, ap₂, ◌∙◌, subst, sym, append-nil}
use Rattle.std.specs.List.{AllZip, flat_map}
use Rattle.std.proofs.lemmas.List.Concat.{flat_map-append, flat_map-cons}
use Rattle.std.proofs.lemmas.List.{drop_more, take-append-drop, take_more}

heads : {X : Type 0} (x y : X) (xs ys : List X) → x ∷ xs ≡ y ∷ ys → x ≡ y
heads x y xs ys e = cc

tails : {X : Type 0} (x y : X) (xs ys : List X) → x ∷ xs ≡ y ∷ ys → xs ≡ ys
tails x y xs ys e = cc

-- it holds of each element
abbrev pub Each : {X : Type 0} → (X → Type 0) → List X → Type 0
Each P [] = Unit {0}
Each P (x ∷ xs) = P x × Each P xs

pub each_in : {X : Type 0} (P : X → Type 0) (xs : List X) (x : X) (rest : List X) → Each P (xs ++ x ∷ rest) → P x
each_in P [] x rest h = h.0
each_in P (y ∷ xs) x rest h = each_in P xs x rest h.1

-- two walks along one list, each up to its first bad element, stop at the same one
pub stops_once : {X : Type 0} (Good Bad : X → Type 0) (xs ys : List X) (x y : X) (rest more : List X) → xs ++ x ∷ rest ≡ ys ++ y ∷ more →
    Each (λ z. Bad z → ⊥) xs → (Good x → ⊥) → Each Good ys → Bad y → (xs ≡ ys) × (x ≡ y)
stops_once Good Bad [] [] x y rest more e sound stop good bad = (refl, heads x y rest more e)
stops_once Good Bad [] (w ∷ ys) x y rest more e sound stop good bad = absurd (stop (subst Good (sym (heads x w rest (ys ++ y ∷ more) e)) good.0))
stops_once Good Bad (z ∷ xs) [] x y rest more e sound stop good bad = absurd (sound.0 (subst Bad (sym (heads z y (xs ++ x ∷ rest) more e)) bad))
stops_once {X} Good Bad (z ∷ xs) (w ∷ ys) x y rest more e sound stop good bad =
    let h = stops_once Good Bad xs ys x y rest more (tails z w (xs ++ x ∷ rest) (ys ++ y ∷ more) e) sound.1 stop good.1 bad in
    (ap₂ (λ (a : X) (more : List X). a ∷ more) (heads z w (xs ++ x ∷ rest) (ys ++ y ∷ more) e) h.0, h.1)

-- ---- two lists

pub zip_left : {X Y : Type 0} (R : X → Y → Type 0) (P : X → Type 0) → ((x : X) (y : Y) → R x y → P x) → (xs : List X) (ys : List Y) → AllZip R xs ys → Each P xs
zip_left R P so [] [] h = tt
zip_left R P so [] (y ∷ ys) h = absurd h
zip_left R P so (x ∷ xs) [] h = absurd h
zip_left R P so (x ∷ xs) (y ∷ ys) h = (so x y h.0, zip_left R P so xs ys h.1)

pub zip_then : {X Y : Type 0} (R Q : X → Y → Type 0) → ((x : X) (y : Y) → R x y → Q x y) → (xs : List X) (ys : List Y) → AllZip R xs ys → AllZip Q xs ys
zip_then R Q so [] [] h = tt
zip_then R Q so [] (y ∷ ys) h = absurd h
zip_then R Q so (x ∷ xs) [] h = absurd h
zip_then R Q so (x ∷ xs) (y ∷ ys) h = (so x y h.0, zip_then R Q so xs ys h.1)

pub zip_push : {X Y : Type 0} (R : X → Y → Type 0) (xs : List X) (ys : List Y) (x : X) (y : Y) → AllZip R xs ys → R x y → AllZip R (xs ++ x ∷ []) (ys ++ y ∷ [])
zip_push R [] [] x y h last = (last, tt)
zip_push R [] (w ∷ ys) x y h last = absurd h
zip_push R (z ∷ xs) [] x y h last = absurd h
zip_push R (z ∷ xs) (w ∷ ys) x y h last = (h.0, zip_push R xs ys x y h.1 last)

-- the first has one partner alone
pub zip_once : {X Y : Type 0} (R Q : X → Y → Type 0) → ((x : X) (y z : Y) → R x y → Q x z → y ≡ z) → (xs : List X) (ys zs : List Y) → AllZip R xs ys → AllZip Q xs zs → ys ≡ zs
zip_once R Q once [] [] [] h k = refl
zip_once R Q once [] [] (z ∷ zs) h k = absurd k
zip_once R Q once [] (y ∷ ys) zs h k = absurd h
zip_once R Q once (x ∷ xs) [] zs h k = absurd h
zip_once R Q once (x ∷ xs) (y ∷ ys) [] h k = absurd k
zip_once {X} {Y} R Q once (x ∷ xs) (y ∷ ys) (z ∷ zs) h k = ap₂ (λ (a : Y) (more : List Y). a ∷ more) (once x y z h.0 k.0) (zip_once R Q once xs ys zs h.1 k.1)

-- ---- by places in the list

-- the list up to an element, the element, and the rest
pub parted : {X : Type 0} (xs : List X) (n : ℕ) (x : X) → n < length xs → x ≡ get_or xs n x → xs ≡ take n xs ++ x ∷ drop (n + 1) xs
parted {X} xs n x below is =
    sym (take-append-drop n xs) ∙ ap (λ (ys : List X). take n xs ++ ys)
    (drop_more xs n x below ∙ ap (λ (y : X). y ∷ drop (n + 1) xs) (sym is))

pub one_more : {X : Type 0} (xs : List X) (n : ℕ) (x : X) → n < length xs → x ≡ get_or xs n x → take n xs ++ x ∷ [] ≡ take (n + 1) xs
one_more {X} xs n x below is = ap (λ (y : X). take n xs ++ y ∷ []) is ∙ sym (take_more xs n x below)

-- one more element
pub flat_map_more : {X Y : Type 0} (f : X → List Y) (xs : List X) (x : X) → flat_map f (xs ++ x ∷ []) ≡ flat_map f xs ++ f x
flat_map_more {X} {Y} f xs x = flat_map-append f xs (x ∷ []) ∙ ap (λ (ys : List Y). flat_map f xs ++ ys) (flat_map-cons f x [] ∙ append-nil (f x))
