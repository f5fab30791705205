-- One more step of a fold over texts.
use Rattle.std.proofs.Common.{◌≡◌, ◌+◌, ◌<◌, ℕ, List, [], ◌∷◌, zero, suc, refl, ap, arith, take, fold, length, ◌∙◌, sym}
use Rattle.std.specs.Borrow.{Bor}
use Rattle.std.specs.List.{slice_index_or}
use Rattle.clap.specs.Walk.{texts}
use Rattle.clap.specs.Simple.{App}
use Rattle.command_line.specs.Words.{Word}

steps : (f : App → Word → App) (a : App) (xs : List (Bor Word)) (i : ℕ) (d : Bor Word) → i < length xs
    → fold f a (take (suc i) (texts xs)) ≡ f (fold f a (take i (texts xs))) (slice_index_or xs i d).now
steps f a [] i d lt = absurd (omega arith)
steps f a (x ∷ xs) zero d lt = refl
steps f a (x ∷ xs) (suc i) d lt = steps f (f a x.now) xs i d (omega arith)

pub fold_step : (f : App → Word → App) (a : App) (xs : List (Bor Word)) (i : ℕ) (d : Bor Word) → i < length xs
    → fold f a (take (i + 1) (texts xs)) ≡ f (fold f a (take i (texts xs))) (slice_index_or xs i d).now
fold_step f a xs i d lt = let e : i + 1 ≡ suc i = omega arith in ap (λ n. fold f a (take n (texts xs))) e ∙ steps f a xs i d lt

abbrev pub no_text : Bor Word
no_text = record { ref_ptr = (0, 0); now = [] }

-- the same, from what the step made
pub next_step : (f : App → Word → App) (a old new : App) (xs : List (Bor Word)) (i : ℕ) → i < length xs → new ≡ f old (slice_index_or xs i no_text).now
    → old ≡ fold f a (take i (texts xs)) → new ≡ fold f a (take (i + 1) (texts xs))
next_step f a old new xs i lt made before = made ∙ ap (λ x. f x (slice_index_or xs i no_text).now) before ∙ sym (fold_step f a xs i no_text lt)
