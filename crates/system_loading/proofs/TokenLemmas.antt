-- The token of a description is no longer than its bytes.
use Rattle.std.proofs.Common.{ℕ, ◌≤◌, Bool, true, false, List, [], ◌∷◌, length, Some, arith, if◌then◌else◌}
use Rattle.std.specs.Prelude.{All, unwrap_or}
use Rattle.std.proofs.lemmas.List.Elements.{All-head, All-tail}
use Rattle.doc_grammar.specs.Grammar.{Pair}
use Rattle.doc_grammar.specs.Nodes.{Node}
use Rattle.doc_grammar.specs.Laws.{PairWithin, NodeWithin}
use Rattle.doc_tree.specs.Elements.{value_at}
use Rattle.doc_tables.specs.Elements.{text_of}

value_within : (most : ℕ) (ps : List Pair) (name : List ℕ) → All (PairWithin most) ps → length (unwrap_or (value_at ps name) []) ≤ most
value_within most [] name h = omega arith
value_within most (p ∷ ps) name h = at (value_within most ps name (All-tail (PairWithin most) p ps h)) _
  where
    at : length (unwrap_or (value_at ps name) []) ≤ most → (b : Bool) → length (unwrap_or (if b then Some p.1 else value_at ps name) []) ≤ most
    at rest true = (All-head (PairWithin most) p ps h).1
    at rest false = rest

pub token_within : (most : ℕ) (t : List Node) (name : List ℕ) → All (NodeWithin most) t → length (text_of t 0 name) ≤ most
token_within most [] name h = omega arith
token_within most (n ∷ ns) name h = value_within most n.attrs name (All-head (NodeWithin most) n ns h).1
