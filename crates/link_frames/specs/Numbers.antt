-- The numbers that a frame begins with, each in its size and its spans.
use Rattle.std.specs.Prelude.{ℕ, zero, suc, List, [], ◌∷◌, ◌++◌, length, take, drop, slice_index, ◌≡◌}
use Rattle.link_frames.specs.declared.layout.Form.{Form}
use Rattle.exact_parts.specs.Field.{Field, InSpans, number}
use Rattle.link_frames.specs.Layout.{kinds_of, row_of, size_at, spans_at, zero_only}
use Rattle.exact_parts.specs.Taking.{After}

-- all the numbers, where so many stand after those before, and the bytes of these
abbrev pub Reads : Form → ℕ → List ℕ → List ℕ → List ℕ → Type 0
Reads form zero before all bytes = (all ≡ before) × (bytes ≡ [])
Reads form (suc left) before all bytes =
    After (Field (size_at (length before)) (spans_at form before)) (λ (n : ℕ).
    Reads form left (before ++ (n ∷ []))) all bytes

-- the numbers of these sizes, one after another
abbrev pub numbers_by : List ℕ → List ℕ → List ℕ
numbers_by [] bytes = []
numbers_by (size ∷ sizes) bytes = number 0 (take size bytes) ∷ numbers_by sizes (drop size bytes)

-- the numbers that 24 bytes spell
abbrev pub numbers_in : List ℕ → List ℕ
numbers_in = numbers_by (1 ∷ 1 ∷ 1 ∷ 1 ∷ 4 ∷ 8 ∷ 8 ∷ [])

-- each number lies in its spans
pub record AreInSpans (form : Form) (numbers : List ℕ) : Type 0 where
  pub kind : InSpans (kinds_of form) (slice_index numbers 0)
  pub detail : InSpans (row_of form numbers).detail (slice_index numbers 1)
  pub flags : InSpans (row_of form numbers).flags (slice_index numbers 2)
  pub zero : InSpans zero_only (slice_index numbers 3)
  pub reference : InSpans (row_of form numbers).reference (slice_index numbers 4)
  pub first : InSpans (row_of form numbers).first (slice_index numbers 5)
  pub last : InSpans (row_of form numbers).last (slice_index numbers 6)
