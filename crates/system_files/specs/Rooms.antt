-- The room for a line that tells of a file or a component.
use Rattle.std.specs.Prelude.{ℕ, ◌+◌, ◌*◌}

-- so many bytes hold each line that names a component or a path of so many bytes, but for a place in a file
abbrev pub room_for : ℕ → ℕ
room_for length = 3 * length + 128
