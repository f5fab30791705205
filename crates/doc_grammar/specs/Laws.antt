-- What holds of documents, their faults and the machine.
use Rattle.std.specs.Prelude.{◌≡◌, ℕ, ◌≤◌, List, [], ◌∷◌, ◌++◌, length, All, None}
use Rattle.std.specs.Str.{IsUtf8, encode_utf8_all}
use Rattle.std.specs.Char.{IsScalar}
use Rattle.doc_grammar.specs.Characters.{class}
use Rattle.doc_grammar.specs.Grammar.{strict, Document, Event, Content, events, Pair}
use Rattle.doc_grammar.specs.Faults.{IsDocument, IsFault, IsBroken, judged}
use Rattle.doc_grammar.specs.Machine.{State, dead, start, step, Run, Leads, Final}
use Rattle.doc_grammar.specs.Nodes.{Node, nodes_of, nodes_under, Denotes}
use Rattle.doc_grammar.specs.declared.reasons.Why.{Why}
use Rattle.doc_grammar.specs.declared.reasons.Rule.{Rule}
use Rattle.doc_grammar.specs.declared.reasons.Rule.TheVariants.{Malformed}

-- bytes are the document of one tree at most
abbrev pub OneTree : Type 0
OneTree =
    (bytes : List ℕ) (first second : List Event) → IsDocument strict bytes first
    → IsDocument strict bytes second → first ≡ second

-- bytes break one rule at most, at one place
abbrev pub OneFault : Type 0
OneFault =
    (bytes : List ℕ) (first second : Rule) (a b : ℕ) → IsFault bytes first a
    → IsFault bytes second b → (first ≡ second) × (a ≡ b)

-- a document's bytes are UTF-8
abbrev pub Encoded : Type 0
Encoded = (bytes : List ℕ) (tree : List Event) → IsDocument strict bytes tree → IsUtf8 bytes

-- what the machine reads is a document
abbrev pub Sound : Type 0
Sound = (text : List ℕ) (tree : List Event) → Run strict start text tree → Document strict text tree

-- it reads each document
abbrev pub Complete : Type 0
Complete =
    (text : List ℕ) (tree : List Event) → Document strict text tree → Run strict start text tree

-- the reason of a character that ends its run is the rule that the bytes break
abbrev pub Judged : Type 0
Judged =
    (prefix : List ℕ) (c : ℕ) (rest : List ℕ) (s : State) (out : List Event) (why : Why) →
    IsScalar c
    → IsUtf8 (encode_utf8_all (prefix ++ c ∷ rest)) → Leads strict start prefix s out
    → step strict s (class c) c ≡ dead why
    → let found = judged why (encode_utf8_all (c ∷ rest)) (length (encode_utf8_all prefix)) in
    IsBroken (encode_utf8_all (prefix ++ c ∷ rest)) found.0 found.1

-- where the text ends in another state than a final one, it ends too early
abbrev pub Cut : Type 0
Cut =
    (text : List ℕ) (s : State) (out : List Event) → IsUtf8 (encode_utf8_all text)
    → Leads strict start text s out → (Final s → ⊥)
    → IsBroken (encode_utf8_all text) Malformed (length (encode_utf8_all text))

-- nodes stand in document order, each below the element that it stands in
abbrev pub Ordered : Type 0
Ordered = (c : Content) → nodes_of (events c []) ≡ nodes_under c None 0

-- a name and its value of at most so many bytes each
abbrev pub PairWithin : ℕ → Pair → Type 0
PairWithin most p = (length p.0 ≤ most) × (length p.1 ≤ most)

-- a node whose name, and each name and value of its attributes, has at most so many bytes
abbrev pub NodeWithin : ℕ → Node → Type 0
NodeWithin most node = (length node.name ≤ most) × All (PairWithin most) node.attrs

-- no name and no value of a document is longer than the document
abbrev pub Bounded : Type 0
Bounded =
    (bytes : List ℕ) (nodes : List Node) → Denotes bytes nodes
    → All (NodeWithin (length bytes)) nodes
