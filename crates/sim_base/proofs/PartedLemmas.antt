-- A text in parts, with further parts.
use Rattle.std.proofs.Common.{◌≡◌, ℕ, List, [], ◌∷◌, ◌++◌, refl, sym, ap, ◌∙◌, append_assoc}
use Rattle.std.specs.declared.alloc.Global.{Global}
use Rattle.std.specs.declared.sync.Arc.{Arc}
use Rattle.std.proofs.lemmas.List.{append-nil}
use Rattle.sim_base.specs.Parted.{whole}

pub whole_append : (xs ys : List (Arc (List ℕ) Global)) → whole (xs ++ ys) ≡ whole xs ++ whole ys
whole_append [] ys = refl
whole_append (x ∷ xs) ys = ap (λ z. x.value ++ z) (whole_append xs ys) ∙ sym (append_assoc x.value (whole xs) (whole ys))

pub whole_push : (xs : List (Arc (List ℕ) Global)) (x : Arc (List ℕ) Global) → whole (xs ++ x ∷ []) ≡ whole xs ++ x.value
whole_push xs x = whole_append xs (x ∷ []) ∙ ap (λ z. whole xs ++ z) (append-nil x.value)
