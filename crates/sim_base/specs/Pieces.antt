-- Bytes in pieces, one after another.
use Rattle.std.specs.Prelude.{◌≡◌, ℕ, List, [], ◌∷◌, ◌++◌, length, take, drop, sum, replicate}
use Rattle.std.specs.List.{concat}
use Rattle.std.proofs.Common.{zero, suc, refl, length-drop, arith}
use Rattle.std.proofs.lemmas.Grind.{common_steps}
use Rattle.std.proofs.lemmas.List.{append-nil}
use Rattle.std.proofs.lemmas.List.Folds.{concat-append}
use Rattle.std.proofs.lemmas.List.Sums.{sum_by-cons}

-- bytes cut into pieces of these lengths
abbrev pub cut : List ℕ → List ℕ → List (List ℕ)
cut [] bytes = []
cut (n ∷ ns) bytes = take n bytes ∷ cut ns (drop n bytes)

-- empty pieces add nothing
concat-replicate : (k : ℕ) → concat (replicate k []) ≡ []
concat-replicate zero = refl
concat-replicate (suc k) = concat-replicate k

-- pieces whose lengths make up the whole are the whole, one after another
concat-cut_all : (ns bytes : List ℕ) → sum ns ≡ length bytes → bytes ≡ concat (cut ns bytes)
concat-cut_all [] [] whole = refl
concat-cut_all [] (b ∷ bytes) whole = absurd (omega arith)
concat-cut_all (n ∷ ns) bytes whole =
    let rest = concat-cut_all ns (drop n bytes) (simp length-drop (omega (arith, sum_by-cons (λ x. x) n ns))) in
    grind (arith, common_steps, rest)

-- so they are with empty ones after them
pub concat-cut : (ns bytes : List ℕ) (k : ℕ) → sum ns ≡ length bytes → bytes ≡ concat (cut ns bytes ++ replicate k [])
concat-cut ns bytes k whole =
    grind (arith, common_steps, concat-append, concat-replicate k, concat-cut_all ns bytes whole, append-nil)
