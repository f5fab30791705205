-- What stands at a place once some references are written.
use Rattle.std.proofs.Common.{◌≡◌, ℕ, zero, suc, ℤ, List, [], ◌∷◌, length, refl, ap}
use Rattle.std.specs.Prelude.{Option, Some, unwrap_or, slice_get}
use Rattle.std.specs.Option.{option_map}
use Rattle.std.proofs.lemmas.Option.{none-some as none_some, same_Some}
use Rattle.fmu_peer.specs.Machine.{all_written}

pub all_written-get : (refs : List ℕ) (new : ℕ → Option ℤ) (xs : List ℤ) (k r : ℕ) → slice_get refs k ≡ Some r →
    slice_get (all_written refs new xs) k ≡ option_map (λ x. unwrap_or (new r) x) (slice_get xs k)
all_written-get [] new xs k r h = absurd (none_some _ h)
all_written-get (a ∷ refs) new [] k r h = refl
all_written-get (a ∷ refs) new (x ∷ xs) zero r h = ap (λ b. Some (unwrap_or (new b) x)) (same_Some _ _ h)
all_written-get (a ∷ refs) new (x ∷ xs) (suc k) r h = all_written-get refs new xs k r h

pub all_written-length : (refs : List ℕ) (new : ℕ → Option ℤ) (xs : List ℤ) → length (all_written refs new xs) ≡ length xs
all_written-length [] new xs = refl
all_written-length (a ∷ refs) new [] = refl
all_written-length (a ∷ refs) new (x ∷ xs) = ap suc (all_written-length refs new xs)
