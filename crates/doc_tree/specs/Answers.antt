-- What a read answers.
use Rattle.std.specs.Prelude.{◌≡◌, ℕ, List, Result, Ok, Err, ⊤}
use Rattle.doc_grammar.specs.Nodes.{Node}
use Rattle.doc_grammar.specs.declared.reasons.Rule.{Rule}
use Rattle.doc_events.specs.declared.error.DocError.{DocError}
use Rattle.doc_events.specs.declared.error.DocError.TheVariants.{At, Memory}
use Rattle.doc_tree.specs.declared.tree.Tree.{Tree}

-- the answer is this tree, unless memory ran out
abbrev pub Gives : Result Tree DocError → List Node → Type 0
Gives (Ok t) nodes = t ≡ nodes
Gives (Err (At rule byte)) nodes = ⊥
Gives (Err Memory) nodes = ⊤

-- the answer is this fault, unless memory ran out
abbrev pub Refuses : Result Tree DocError → Rule → ℕ → Type 0
Refuses (Ok t) rule place = ⊥
Refuses (Err (At r b)) rule place = (r ≡ rule) × (b ≡ place)
Refuses (Err Memory) rule place = ⊤
