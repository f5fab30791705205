-- The items of arguments, as functions: what the test before clap computes.
use Rattle.std.specs.Prelude.{◌&&◌, Bool, true, false, not, List, [], ◌∷◌, Option, Some, None, option_map, if◌then◌else◌}
use Rattle.clap.specs.Lexer.{long_of}
use Rattle.command_line.specs.Words.{Word, Item, positional, option, is_plain}

abbrev pub with_item : Item → Option (List Item) → Option (List Item)
with_item i = option_map (λ is. i ∷ is)

abbrev pub if_plain : Word → Option (List Item) → Option (List Item)
if_plain v r = if is_plain v then r else None

abbrev pub items_at : Word → Option (Word × Option Word) → Option (List Item) →
    (Word → Option (List Item)) → Option (List Item)
items_at w None after waiting = if_plain w (with_item (positional w) after)
items_at w (Some (n, None)) after waiting = waiting n
items_at w (Some (n, Some v)) after waiting = if_plain v (with_item (option n v) after)

-- the items that the arguments spell, where an option with this name waits for its value
abbrev pub items_from : Option Word → List Word → Option (List Item)
items_from None [] = Some []
items_from (Some n) [] = None
items_from (Some n) (v ∷ rest) = if_plain v (with_item (option n v) (items_from None rest))
items_from None (w ∷ rest) =
    items_at w (long_of w) (items_from None rest) (λ n. items_from (Some n) rest)

abbrev pub are_items_at : Word → Option (Word × Option Word) → Bool → Bool → Bool
are_items_at w None after waiting = is_plain w && after
are_items_at w (Some (n, None)) after waiting = waiting
are_items_at w (Some (n, Some v)) after waiting = is_plain v && after

-- the arguments spell items, where `waiting` says whether an option waits for its value
abbrev pub are_items : Bool → List Word → Bool
are_items waiting [] = not waiting
are_items true (v ∷ rest) = is_plain v && are_items false rest
are_items false (w ∷ rest) = are_items_at w (long_of w) (are_items false rest) (are_items true rest)

-- the first argument is plain, and the others spell items
abbrev pub has_form : List Word → Bool
has_form [] = false
has_form (name ∷ rest) = is_plain name && are_items false rest
