-- The least of numbers, as a fold.
use Rattle.std.proofs.Common.{◌≡◌, ℕ, List, [], ◌∷◌, Some, sym, ◌∙◌, arith}
use Rattle.std.specs.Prelude.{min}
use Rattle.std.specs.List.{fold, reduce}
use Rattle.run_model.specs.Steps.{least_or}

fold_least : (x : ℕ) (xs : List ℕ) → fold min x xs ≡ min x (least_or x xs)
fold_least x [] = omega arith
fold_least x (y ∷ []) = omega arith
fold_least x (y ∷ z ∷ zs) = fold_least (min x y) (z ∷ zs) ∙ omega arith

some_same : (m n : ℕ) → Some m ≡ Some n → m ≡ n
some_same m n h = cc

pub least_reduced : (d : ℕ) (xs : List ℕ) (n : ℕ) → reduce min xs ≡ Some n → n ≡ least_or d xs
least_reduced d [] n is = absurd (cc)
least_reduced d (x ∷ xs) n is = sym (some_same (fold min x xs) n is) ∙ fold_least x xs
