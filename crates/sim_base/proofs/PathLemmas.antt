-- A list of segments whose last one is, or is not, empty.
use Rattle.std.proofs.Common.{◌≡◌, ◌<◌, ◌+◌, ℕ, zero, suc, List, [], ◌∷◌, ◌++◌, length, get_or, take, map, if◌then◌else◌, ◌==◌, length-take, refl, ◌∙◌, ap, arith}
use Rattle.std.proofs.lemmas.List.{take_more, map-append, length-map}
use Rattle.std.proofs.lemmas.Grind.{common_steps}
use Rattle.std.proofs.lemmas.Bool.Decides.{nat_tests}
use Rattle.std.specs.List.{join_with_byte}
use Rattle.sim_base.specs.Path.{without_last_empty}

-- a last segment that is empty is left out
pub without_last_empty-empty : {X : Type 0} (text : X → List ℕ) (xs : List X) (n : ℕ) (d : X) → length xs ≡ n + 1 → length (text (get_or xs n d)) ≡ 0 → map text (take n xs) ≡ without_last_empty (map text xs)
without_last_empty-empty text [] n d count is_empty = absurd (omega arith)
without_last_empty-empty text (s ∷ []) zero d count is_empty = grind (arith, nat_tests)
without_last_empty-empty text (s ∷ []) (suc n) d count is_empty = absurd (omega arith)
without_last_empty-empty text (s ∷ t ∷ more) zero d count is_empty = absurd (omega arith)
without_last_empty-empty text (s ∷ t ∷ more) (suc n) d count is_empty =
    ap (λ rest. text s ∷ rest) (without_last_empty-empty text (t ∷ more) n d (omega arith) is_empty)

-- another stays
pub without_last_empty-other : {X : Type 0} (text : X → List ℕ) (xs : List X) (n : ℕ) (d : X) → length xs ≡ n + 1 → 0 < length (text (get_or xs n d)) → map text xs ≡ without_last_empty (map text xs)
without_last_empty-other text [] n d count other = absurd (omega arith)
without_last_empty-other text (s ∷ []) zero d count other = grind (arith, nat_tests)
without_last_empty-other text (s ∷ []) (suc n) d count other = absurd (omega arith)
without_last_empty-other text (s ∷ t ∷ more) zero d count other = absurd (omega arith)
without_last_empty-other text (s ∷ t ∷ more) (suc n) d count other =
    ap (λ rest. text s ∷ rest) (without_last_empty-other text (t ∷ more) n d (omega arith) other)

-- no segment is there
pub without_last_empty-none : {X : Type 0} (text : X → List ℕ) (xs : List X) → length xs ≡ 0 → map text xs ≡ without_last_empty (map text xs)
without_last_empty-none text [] count = refl
without_last_empty-none text (s ∷ more) count = absurd (omega arith)

-- one more segment comes after a `/`, unless it is the first
pub join_with_byte-push : (c : ℕ) (xs : List (List ℕ)) (x y : List ℕ) → join_with_byte c ((x ∷ xs) ++ y ∷ []) ≡ join_with_byte c (x ∷ xs) ++ c ∷ y
join_with_byte-push c [] x y = refl
join_with_byte-push c (z ∷ zs) x y =
    let rest = join_with_byte-push c zs z y in
    grind (arith, common_steps, rest)

-- the text of a list of segments goes on by one more
join_with_byte-more : (c : ℕ) (xs : List (List ℕ)) (n : ℕ) (y : List ℕ) → length xs ≡ n → join_with_byte c (xs ++ y ∷ []) ≡ join_with_byte c xs ++ (if n == 0 then y else c ∷ y)
join_with_byte-more c [] n y count = grind (arith, nat_tests)
join_with_byte-more c (x ∷ xs) n y count =
    let push = join_with_byte-push c xs x y in
    grind (arith, nat_tests, push)

-- the text of the segments up to a place goes on by the segment there
pub joined-more : {X : Type 0} (text : X → List ℕ) (c : ℕ) (xs : List X) (i : ℕ) (d : X) → i < length xs → join_with_byte c (map text (take (i + 1) xs)) ≡ join_with_byte c (map text (take i xs)) ++ (if i == 0 then text (get_or xs i d) else c ∷ text (get_or xs i d))
joined-more text c xs i d within =
    let prefix = map text (take i xs) in
    let next : map text (take (i + 1) xs) ≡ prefix ++ text (get_or xs i d) ∷ [] =
    ap (map text) (take_more xs i d within) ∙ map-append text (take i xs) (get_or xs i d ∷ []) in
    let count : length prefix ≡ i = simp (length-map, length-take) (omega arith) in
    ap (join_with_byte c) next ∙ join_with_byte-more c prefix i (text (get_or xs i d)) count
