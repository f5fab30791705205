-- A loop over elements that keeps those that pass a test, or what becomes of each.
use Rattle.std.proofs.Common.{◌≡◌, ℕ, zero, suc, ◌+◌, ◌<◌, Bool, true, false, cond, List, [], ◌∷◌, ◌++◌, length, get_or, slice_get, Option, Some, None, take, filter, refl, sym, ap, ◌∙◌, subst, arith}
use Rattle.std.specs.List.{AllZip, range_with_len}
use Rattle.std.proofs.lemmas.List.{append-nil, take_more}
use Rattle.std.proofs.lemmas.List.Elements.{filter-append}
use Rattle.std.proofs.lemmas.Slice.Zip.{all_zipped_more, AllZip-right}
use Rattle.std.proofs.lemmas.Option.{slice_get_read, MatchOption-at_some}
use Rattle.std.specs.Option.{IsSomeAnd}

-- ---- one element more

range_suc : (a n : ℕ) → range_with_len a (suc n) ≡ range_with_len a n ++ (a + n) ∷ []
range_suc a zero = let e : a ≡ a + 0 = omega arith in ap (λ (z : ℕ). z ∷ []) e
range_suc a (suc n) =
    let e : a + 1 + n ≡ a + suc n = omega arith in
    ap (λ (zs : List ℕ). a ∷ zs) (range_suc (a + 1) n ∙ ap (λ (z : ℕ). range_with_len (a + 1) n ++ z ∷ []) e)

pub range_more : (n m : ℕ) → m ≡ n + 1 → range_with_len 0 m ≡ range_with_len 0 n ++ n ∷ []
range_more n m e =
    let f : m ≡ suc n = omega arith in
    let g : 0 + n ≡ n = omega arith in
    ap (range_with_len 0) f ∙ range_suc 0 n ∙ ap (λ (z : ℕ). range_with_len 0 n ++ z ∷ []) g

pub filter_yes : {A : Type 0} (p : A → Bool) (xs : List A) (x : A) → p x ≡ true → filter p (xs ++ x ∷ []) ≡ filter p xs ++ x ∷ []
filter_yes p xs x h = filter-append p xs (x ∷ []) ∙ ap (λ b. filter p xs ++ cond b (x ∷ []) []) h

pub filter_no : {A : Type 0} (p : A → Bool) (xs : List A) (x : A) → p x ≡ false → filter p (xs ++ x ∷ []) ≡ filter p xs
filter_no p xs x h = filter-append p xs (x ∷ []) ∙ ap (λ b. filter p xs ++ cond b (x ∷ []) []) h ∙ append-nil (filter p xs)

-- ---- a list beside those that pass

pub passes : {A B : Type 0} (R : A → B → Type 0) (p : A → Bool) (xs more : List A) (x : A) (ys zs : List B) (y : B) → more ≡ xs ++ x ∷ [] → p x ≡ true → AllZip R (filter p xs) ys → R x y → zs ≡ ys ++ y ∷ [] → AllZip R (filter p more) zs
passes {A} {B} R p xs more x ys zs y e h all one f =
    let whole : filter p more ≡ filter p xs ++ x ∷ [] = ap (filter p) e ∙ filter_yes p xs x h in
    let step : AllZip R (filter p xs ++ x ∷ []) (ys ++ y ∷ []) = all_zipped_more R (filter p xs) ys x y all one in
    subst (λ (w : List B). AllZip R (filter p more) w) (sym f) (subst (λ (w : List A). AllZip R w (ys ++ y ∷ [])) (sym whole) step)

pub fails : {A B : Type 0} (R : A → B → Type 0) (p : A → Bool) (xs more : List A) (x : A) (ys zs : List B) → more ≡ xs ++ x ∷ [] → p x ≡ false → AllZip R (filter p xs) ys → zs ≡ ys → AllZip R (filter p more) zs
fails {A} {B} R p xs more x ys zs e h all f =
    subst (λ (w : List B). AllZip R (filter p more) w) (sym f) (subst (λ (w : List A). AllZip R w ys) (sym (ap (filter p) e ∙ filter_no p xs x h)) all)

-- ---- what stands beside a list of those that pass

one_passes : {A B : Type 0} (R : A → B → Type 0) (p : A → Bool) (k : A) (ks : List A) (b : Bool) (xs : List B) → p k ≡ b → ((ys : List B) → AllZip R ks ys → AllZip (λ j y. (p j ≡ true) × R j y) ks ys) → AllZip R (cond b (k ∷ ks) ks) xs → AllZip (λ j y. (p j ≡ true) × R j y) (cond b (k ∷ ks) ks) xs
one_passes R p k ks true [] e rest all = all
one_passes R p k ks true (x ∷ xs) e rest all = ((e, all.0), rest xs all.1)
one_passes R p k ks false xs e rest all = rest xs all

each_passes : {A B : Type 0} (R : A → B → Type 0) (p : A → Bool) (ks : List A) (xs : List B) → AllZip R (filter p ks) xs → AllZip (λ j y. (p j ≡ true) × R j y) (filter p ks) xs
each_passes R p [] [] all = all
each_passes R p [] (x ∷ xs) all = all
each_passes R p (k ∷ ks) xs all = one_passes R p k (filter p ks) (p k) xs refl (λ ys. each_passes R p ks ys) all

some_and : {A : Type 0} (o : Option A) (P : A → Type 0) → IsSomeAnd o P → (k : A) × P k
some_and None P h = absurd h
some_and (Some k) P h = (k, h)

pub source : {A B : Type 0} (R : A → B → Type 0) (p : A → Bool) (ks : List A) (xs : List B) (i : ℕ) (x : B) → AllZip R (filter p ks) xs → i < length xs → x ≡ get_or xs i x → (k : A) × (p k ≡ true) × R k x
source {A} {B} R p ks xs i x all lt at =
    let Q : A → B → Type 0 = λ j y. (p j ≡ true) × R j y in
    let there : slice_get xs i ≡ Some x = slice_get_read xs (length xs) i x refl lt at in
    let beside = AllZip-right Q (filter p ks) xs (each_passes R p ks xs all) i in
    let found = some_and (slice_get (filter p ks) i) (λ (k : A). Q k x) (MatchOption-at_some (Unit {0}) (λ (y : B). IsSomeAnd (slice_get (filter p ks) i) (λ (k : A). Q k y)) x there beside) in
    (found.0, found.1.0, found.1.1)

pub one_more : {A : Type 0} (xs : List A) (i : ℕ) (x : A) → i < length xs → x ≡ get_or xs i x → take (i + 1) xs ≡ take i xs ++ x ∷ []
one_more {A} xs i x lt at = take_more xs i x lt ∙ ap (λ (y : A). take i xs ++ y ∷ []) (sym at)
