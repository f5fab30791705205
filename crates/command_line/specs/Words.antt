-- The arguments of a command line after the command's name: positionals, and options with their values.
use Rattle.std.specs.Prelude.{◌≡◌, ◌⊎◌, ◌&&◌, ◌==◌, ◌++◌, ◌∷◌, ℕ, Bool, true, false, not, List, [], Option, Some, None, if◌then◌else◌}
use Rattle.std.specs.List.{list_any}
use Rattle.std.specs.Str.{bytes_eq}

-- the bytes of an argument
abbrev pub Word : Type 0
Word = List ℕ

-- not empty, and without `-` (45) at its start
abbrev pub is_plain : Word → Bool
is_plain [] = false
is_plain (first ∷ others) = not (first == 45)

-- what a line is made of: positionals, and options, each with its name and its value
pub data Item : Type 0 where
  positional : Word → Item
  option : Word → Word → Item

-- `--name`
abbrev pub dashed : Word → Word
dashed name = 45 ∷ (45 ∷ name)

-- `--name=value`
abbrev pub joined : Word → Word → Word
joined name value = 45 ∷ (45 ∷ (name ++ 61 ∷ value))

-- the arguments are those of the items in their order; an option is one argument or two, and each positional and value is plain
abbrev pub IsSpelled : List Item → List Word → Type 0
IsSpelled [] words = words ≡ []
IsSpelled (positional v ∷ items) words =
    (rest : List Word) × (words ≡ v ∷ rest) × (is_plain v ≡ true) × IsSpelled items rest
IsSpelled (option name v ∷ items) words =
    (rest : List Word) × ((words ≡ dashed name ∷ (v ∷ rest)) ⊎ (words ≡ joined name v ∷ rest))
    × (is_plain v ≡ true) × IsSpelled items rest

abbrev pub is_among : Word → List Word → Bool
is_among name names = list_any (λ n. bytes_eq n name) names

-- each option is one of the known, and none stands twice; `used` are the names before the items
abbrev pub has_each_once : List Word → List Word → List Item → Bool
has_each_once known used [] = true
has_each_once known used (positional v ∷ items) = has_each_once known used items
has_each_once known used (option name v ∷ items) =
    is_among name known && (not (is_among name used) && has_each_once known (name ∷ used) items)

-- the positionals, in order
abbrev pub positionals_of : List Item → List Word
positionals_of [] = []
positionals_of (positional v ∷ items) = v ∷ positionals_of items
positionals_of (option name v ∷ items) = positionals_of items

-- the value of an option
abbrev pub value_of : Word → List Item → Option Word
value_of name [] = None
value_of name (positional v ∷ items) = value_of name items
value_of name (option n v ∷ items) = if bytes_eq n name then Some v else value_of name items
