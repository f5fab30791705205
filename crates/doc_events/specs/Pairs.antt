-- The attributes of a tag, as the grammar sees them.
use Rattle.std.specs.Prelude.{◌≡◌, ℕ, List}
use Rattle.std.specs.Str.{encode_utf8_all}
use Rattle.std.specs.declared.alloc.Global.{Global}
use Rattle.std.specs.declared.string.String.{String}
use Rattle.std.specs.BTreeSet.{BTreeSet, contains_text}
use Rattle.doc_grammar.specs.Grammar.{Pair, has}
use Rattle.doc_events.specs.declared.attributes.Attribute.{Attribute}

abbrev pub pair_of : Attribute → Pair
pair_of a = (a.name.items, a.value.items)

-- the set has the texts of the names, and no others
abbrev pub Sees : BTreeSet (String Global) → List Pair → Type 0
Sees seen pairs = (name : List ℕ) → contains_text seen (encode_utf8_all name) ≡ has pairs name
