-- The tree of a document: its elements in document order, each with what is kept of its tag and the
-- number of its parent.
use Rattle.std.specs.Prelude.{◌≡◌, ℕ, ◌+◌, Bool, true, false, if◌then◌else◌, ◌==◌, ◌||◌, not, List, [], ◌∷◌, ◌++◌, length, map, Option, Some, None, codes}
use Prim.Native.Char.{code}
use Rattle.std.specs.Str.{bytes_eq, encode_utf8_all}
use Rattle.doc_grammar.specs.Grammar.{Pair, attr_of, Tag, Content, done, char, reference, comment, instruction, section, empty, element, Event, begin, close, strict}
use Rattle.doc_grammar.specs.Faults.{IsDocument}

-- whether there is a colon
abbrev pub is_prefixed : List ℕ → Bool
is_prefixed [] = false
is_prefixed (c ∷ name) = (c == code ":") || is_prefixed name

-- what follows the last colon
abbrev pub local_name : List ℕ → List ℕ
local_name [] = []
local_name (c ∷ name) = if is_prefixed (c ∷ name) then local_name name else c ∷ name

-- `xmlns` and attributes with a colon are passed over
abbrev pub is_kept : List ℕ → Bool
is_kept name = not (is_prefixed name || bytes_eq name (codes "xmlns"))

abbrev pub kept_if : Bool → Pair → List Pair → List Pair
kept_if true p ps = (encode_utf8_all p.0, encode_utf8_all p.1) ∷ ps
kept_if false p ps = ps

-- the names and values that are kept, in UTF-8
abbrev pub kept : List Pair → List Pair
kept [] = []
kept (p ∷ ps) = kept_if (is_kept p.0) p (kept ps)

-- an element: its name without a prefix, and the attributes that are kept, in UTF-8
pub record Node : Type 0 where
  pub name : List ℕ
  pub attrs : List Pair
  pub parent : Option ℕ

abbrev pub node : List ℕ → List Pair → Option ℕ → Node
node name attrs parent =
    record { name = encode_utf8_all (local_name name); attrs = kept attrs; parent = parent }

abbrev pub innermost : List ℕ → Option ℕ
innermost [] = None
innermost (n ∷ ns) = Some n

abbrev pub outer : List ℕ → List ℕ
outer [] = []
outer (n ∷ ns) = ns

-- the nodes of what begins and ends, after these, inside the elements with these numbers, the
-- innermost first
abbrev pub nodes_after : List Event → List ℕ → List Node → List Node
nodes_after [] around nodes = nodes
nodes_after (begin name attrs ∷ events) around nodes =
    nodes_after events (length nodes ∷ around) (nodes ++ node name attrs (innermost around) ∷ [])
nodes_after (close ∷ events) around nodes = nodes_after events (outer around) nodes

-- the nodes of a document
abbrev pub nodes_of : List Event → List Node
nodes_of events = nodes_after events [] []

-- the bytes are a document with these nodes
abbrev pub Denotes : List ℕ → List Node → Type 0
Denotes bytes nodes = (tree : List Event) × IsDocument strict bytes tree × (nodes ≡ nodes_of tree)

-- ---- the same from the document's spelling

abbrev pub tag_node : Tag → Option ℕ → Node
tag_node t parent = node t.name (map attr_of t.attrs) parent

-- how many elements
abbrev pub count : Content → ℕ
count done = 0
count (char b c) = count c
count (reference r c) = count c
count (comment t c) = count c
count (instruction n t c) = count c
count (section t c) = count c
count (empty t c) = 1 + count c
count (element t kids gap c) = 1 + (count kids + count c)

-- the nodes of what stands under a parent, numbered from n on
abbrev pub nodes_under : Content → Option ℕ → ℕ → List Node
nodes_under done parent n = []
nodes_under (char b c) parent n = nodes_under c parent n
nodes_under (reference r c) parent n = nodes_under c parent n
nodes_under (comment t c) parent n = nodes_under c parent n
nodes_under (instruction y t c) parent n = nodes_under c parent n
nodes_under (section t c) parent n = nodes_under c parent n
nodes_under (empty t c) parent n = tag_node t parent ∷ nodes_under c parent (n + 1)
nodes_under (element t kids gap c) parent n =
    tag_node t parent
    ∷ (nodes_under kids (Some n) (n + 1) ++ nodes_under c parent (n + 1 + count kids))
