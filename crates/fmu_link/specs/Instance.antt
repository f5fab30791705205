-- The room that an instance at this end of a wire has.
use Rattle.std.specs.Prelude.{ℕ, ◌+◌, ◌*◌, ◌≤◌, ◌^◌, List, length}

-- the texts of Instantiate, the name and the token, go into a frame, for which there is room, and so is there for the longest batch
pub record HasFrames (name token frame : List ℕ) : Type 0 where
  pub named : 1 ≤ length name
  pub short_name : length name ≤ 2 ^ 24
  pub short_token : length token ≤ 2 ^ 24
  pub room : 24 + length name + length token ≤ length frame
  pub batch : 24 * (64 + 1) ≤ length frame
