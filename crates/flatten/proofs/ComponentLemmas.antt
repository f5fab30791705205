-- Components one after another, each with the number of its source.
use Rattle.std.proofs.Common.{◌≡◌, ℕ, zero, suc, ◌<◌, List, [], ◌∷◌, ◌++◌, length, refl, ap, subst}
use Rattle.std.specs.Prelude.{Option, Some, None, slice_get, unwrap_or}
use Rattle.std.specs.Option.{option_map}
use Rattle.std.proofs.lemmas.Option.{none-some as none_some, same_Some, slice_get_within}
use Rattle.doc_tables.specs.Tables.{Finds, IsFirstWith, IsTable}
use Rattle.ssd_tree.specs.declared.tree.ComponentPart.{ComponentPart}
use Rattle.flatten.specs.Flat.{source_at}

-- what holds of each element and its place, with one element more
pub each_push : {X : Type 0} (P : ℕ → X → Type 0) (xs : List X) (x : X) → ((i : ℕ) (y : X) → slice_get xs i ≡ Some y → P i y) → P (length xs) x
    → (i : ℕ) (y : X) → slice_get (xs ++ x ∷ []) i ≡ Some y → P i y
each_push P [] x each here zero y at = subst (P 0) (same_Some _ _ at) here
each_push P [] x each here (suc i) y at = absurd (none_some _ at)
each_push P (z ∷ xs) x each here zero y at = each 0 y at
each_push P (z ∷ xs) x each here (suc i) y at = each_push (λ k. P (suc k)) xs x (λ k w there. each (suc k) w there) here i y at

source_there : (parts : List ComponentPart) (n : ℕ) (part : ComponentPart) → slice_get parts n ≡ Some part → source_at parts n ≡ Some part.source
source_there parts n part at = ap (option_map (λ (c : ComponentPart). c.source)) at

-- the number of a source
pub first_source : (parts : List ComponentPart) (found : List ℕ → Option ℕ) → IsTable (source_at parts) found → (n : ℕ) (part : ComponentPart) → slice_get parts n ≡ Some part
    → IsFirstWith (source_at parts) part.source (unwrap_or (found part.source) n)
first_source parts found table n part at = by (found part.source) (table part.source)
  where
    by : (o : Option ℕ) → Finds (source_at parts) part.source o → IsFirstWith (source_at parts) part.source (unwrap_or o n)
    by None finds = absurd (finds (n, source_there parts n part at))
    by (Some k) finds = finds

pub source_within : (parts : List ComponentPart) (x : List ℕ) (k : ℕ) → source_at parts k ≡ Some x → k < length parts
source_within parts x k is = by (slice_get parts k) refl is
  where
    by : (o : Option ComponentPart) → slice_get parts k ≡ o → option_map (λ (c : ComponentPart). c.source) o ≡ Some x → k < length parts
    by None e f = absurd (none_some _ f)
    by (Some part) e f = slice_get_within parts k part e
