-- Bytes that are taken from the start of those to come.
use Rattle.std.proofs.Common.{◌≡◌, ◌+◌, ◌<◌, ◌≤◌, ℕ, List, [], ◌++◌, length, take, drop, min, refl, length-drop, arith}
use Rattle.std.proofs.lemmas.List.{take-append-drop, drop-drop, nil_from_length}
use Rattle.std.proofs.lemmas.Grind.{common_steps}
use Rattle.std.specs.Prelude.{Some, Ok}
use Rattle.sim_base.specs.Source.{NotesTake, source_view}

within : (bytes : List ℕ) (taken n : ℕ) (into : List ℕ) → n ≡ min (length into) (length (drop taken bytes)) → n ≤ length into
within bytes taken n into count = omega (arith, count)

prefix : (bytes : List ℕ) (taken n : ℕ) (into : List ℕ) → take n into ≡ take n (drop taken bytes) → drop taken bytes ≡ take n into ++ drop (taken + n) bytes
prefix bytes taken n into copied = grind (arith, common_steps, take-append-drop n (drop taken bytes), drop-drop n taken bytes, copied)

at_end : (bytes : List ℕ) (taken n : ℕ) (into : List ℕ) → n ≡ min (length into) (length (drop taken bytes)) → n ≡ 0 → 0 < length into → drop (taken + n) bytes ≡ []
at_end bytes taken n into count none room = nil_from_length (drop (taken + n) bytes) (omega (arith, length-drop (taken + n) bytes, length-drop taken bytes, count, none, room))

-- as many as there are and as fit
pub takes_prefix : {E : Type 0} (bytes whole : List ℕ) (taken n faults room : ℕ) (into : List ℕ) → whole ≡ bytes → room ≡ length into →
    n ≡ min room (length (drop taken whole)) → take n into ≡ take n (drop taken whole) →
    NotesTake {E = E} (source_view (Some (drop taken bytes)) faults) (source_view (Some (drop (taken + n) bytes)) faults) into (Ok n)
takes_prefix bytes whole taken n faults room into is_whole is_room count copied =
    let counted : n ≡ min (length into) (length (drop taken bytes)) = rw (← is_whole, ← is_room) count in
    let same : take n into ≡ take n (drop taken bytes) = rw (← is_whole) copied in
    record {
      within = within bytes taken n into counted;
      taken = (prefix bytes taken n into same, at_end bytes taken n into counted);
      counted = refl;
    }
