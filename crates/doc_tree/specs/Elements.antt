-- The elements of a tree: their attributes and their children.
use Rattle.std.specs.Prelude.{◌≡◌, ℕ, ◌+◌, ◌<◌, Bool, true, false, if◌then◌else◌, ◌==◌, List, [], ◌∷◌, ◌++◌, length, map, get_or, set, Option, Some, None, string_bytes}
use Rattle.std.specs.Str.{bytes_eq}
use Rattle.std.specs.declared.vec.Vec.{Vec}
use Rattle.std.specs.declared.alloc.Global.{Global}
use Rattle.doc_grammar.specs.Grammar.{Pair}
use Rattle.doc_grammar.specs.Nodes.{Node}
use Rattle.doc_tree.specs.declared.tree.Named.{Named}
use Rattle.doc_tree.specs.declared.tree.Element.{Element}
use Rattle.doc_tree.specs.Path.{parent_at}

abbrev pub is_parent : Option ℕ → ℕ → Bool
is_parent None k = false
is_parent (Some p) k = p == k

abbrev pub child_if : Bool → ℕ → List ℕ → List ℕ
child_if true i is = i ∷ is
child_if false i is = is

-- the numbers of the nodes, counted from i on, whose parent is k
abbrev pub children_from : ℕ → List Node → ℕ → List ℕ
children_from i [] k = []
children_from i (n ∷ ns) k = child_if (is_parent n.parent k) i (children_from (i + 1) ns k)

-- the numbers of the nodes whose parent is k, in document order
abbrev pub children_of : List Node → ℕ → List ℕ
children_of nodes k = children_from 0 nodes k

-- the value of the first attribute of this name
abbrev pub value_at : List Pair → List ℕ → Option (List ℕ)
value_at [] name = None
value_at (p ∷ ps) name = if bytes_eq p.0 name then Some p.1 else value_at ps name

abbrev pub pair_of : Named → Pair
pair_of n = (string_bytes n.name, string_bytes n.value)

abbrev pub node_of : Element → Node
node_of e =
    record { name = string_bytes e.name; attrs = map pair_of e.attrs.items; parent = e.parent }

abbrev pub items_of : Vec ℕ Global → List ℕ
items_of v = v.items

-- the lists, where that of the parent has one child more
abbrev pub with_child : List (List ℕ) → ℕ → ℕ → List (List ℕ)
with_child lists parent child = set lists parent (get_or lists parent [] ++ child ∷ [])

-- each list is the old one, and that of the parent has one child more
abbrev pub Adopts : List (List ℕ) → List (List ℕ) → Option ℕ → ℕ → Type 0
Adopts old new parent child =
    (k : ℕ) → get_or new k [] ≡ get_or old k [] ++ child_if (is_parent parent k) child []

-- a parent is among so many nodes
abbrev pub IsBelow : ℕ → Option ℕ → Type 0
IsBelow n None = Unit {0}
IsBelow n (Some p) = p < n

-- each node comes after its parent
abbrev pub IsInOrder : List Node → Type 0
IsInOrder nodes = (k : ℕ) → IsBelow k (parent_at nodes k)

-- each node's list has its children, and no node stands before its parent
pub record Keeps (nodes : List Node) (children : List (Vec ℕ Global)) : Type 0 where
  pub same : length children ≡ length nodes
  pub each : (k : ℕ) → get_or (map items_of children) k [] ≡ children_of nodes k
  pub in_order : IsInOrder nodes
