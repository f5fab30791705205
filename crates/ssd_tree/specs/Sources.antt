-- What a `source` names: a path below the description's folder (SSP 1.0: source; RFC 3986, 3.3: segments).
-- Escapes, schemes and what leads out of the folder are unsupported.
use Rattle.std.specs.Prelude.{◌≡◌, ℕ, Bool, true, false, not, ◌==◌, ◌&&◌, ◌||◌, All, List, length, codes, bytes_eq}
use Rattle.std.specs.List.{join_with_byte, list_any}
use Rattle.sim_base.specs.Path.{is_dot, kept_segments}

-- `:`, `%`, `\`, `?` or `#`
abbrev pub is_left_out : ℕ → Bool
is_left_out b = b == 58 || b == 37 || b == 92 || b == 63 || b == 35

-- a segment that is empty, or leads up
abbrev pub is_astray : List ℕ → Bool
is_astray segment = length segment == 0 || bytes_eq segment (codes "..")

-- the segments, without one last empty one and those that are `.`: there are some, and each leads down
abbrev pub is_path : List ℕ → Bool
is_path source =
    not (list_any is_left_out source)
    && (not (length (kept_segments source) == 0) && not (list_any is_astray (kept_segments source)))

-- the path has segments with `/` between them, and each leads somewhere
pub record LeadsDown (path : List ℕ) : Type 0 where
  pub segments : List (List ℕ)
  pub some : (length segments == 0) ≡ false
  pub whole : All (λ segment. All (λ b. (b == 47) ≡ false) segment) segments
  pub filled : All (λ segment. (length segment == 0) ≡ false) segments
  pub leads : All (λ segment. not (is_dot segment) ≡ true) segments
  pub is : path ≡ join_with_byte 47 segments
