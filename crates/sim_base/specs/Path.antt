-- Paths relative to a folder, as the attribute `source` of an SSP document has them (SSP 1.0; RFC 3986, 3.3).
use Rattle.std.specs.Prelude.{ℕ, Bool, not, ◌==◌, List, [], ◌∷◌, ◌++◌, length, if◌then◌else◌, filter, bytes_eq}
use Rattle.std.specs.List.{slice_split, join_with_byte}

-- what stands between the `/`s, in order
abbrev pub segments : List ℕ → List (List ℕ)
segments path = slice_split (λ b. b == 47) path

-- all segments but a last one that is empty, as after a `/` at the end
abbrev pub without_last_empty : List (List ℕ) → List (List ℕ)
without_last_empty [] = []
without_last_empty (s ∷ []) = if length s == 0 then [] else s ∷ []
without_last_empty (s ∷ t ∷ more) = s ∷ without_last_empty (t ∷ more)

-- the segment `.`
abbrev pub is_dot : List ℕ → Bool
is_dot segment = bytes_eq segment (46 ∷ [])

-- the segments of a path that say where it leads
abbrev pub kept_segments : List ℕ → List (List ℕ)
kept_segments path = filter (λ s. not (is_dot s)) (without_last_empty (segments path))

-- the path without the segments that lead nowhere
abbrev pub plain_path : List ℕ → List ℕ
plain_path path = join_with_byte 47 (kept_segments path)

-- a path below a base
abbrev pub joined_path : List ℕ → List ℕ → List ℕ
joined_path base path = base ++ 47 ∷ plain_path path
