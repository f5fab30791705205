-- An answer that is right is the only one.
use Rattle.std.proofs.Common.{◌≡◌, ℕ, List, [], ◌++◌, Ok, Err, Result, IfOk, IfErr, sym, ap, ◌∙◌, append_assoc}
use Rattle.std.proofs.lemmas.List.{append-nil}
use Rattle.doc_grammar.specs.Grammar.{Event}
use Rattle.doc_grammar.specs.Faults.{IsFault}
use Rattle.doc_grammar.specs.Nodes.{Node, Denotes, nodes_of, nodes_after}
use Rattle.doc_grammar.specs.declared.reasons.Rule.{Rule}
use Rattle.doc_grammar.proofs.CallerLemmas.{one_tree, one_fault}
use Rattle.doc_events.proofs.CallerLemmas.{no_document}
use Rattle.doc_events.specs.declared.error.DocError.{DocError}
use Rattle.doc_events.specs.declared.error.DocError.TheVariants.{At, Memory}
use Rattle.doc_events.specs.Answers.{Faults}
use Rattle.doc_tree.specs.declared.tree.Tree.{Tree}
use Rattle.doc_tree.specs.Answers.{Gives, Refuses}
use Rattle.doc_tree.specs.Building.{HasBuilt}

pub only_of : (bytes : List ℕ) (r : Result Tree DocError) → IfOk r (λ t. Denotes bytes t) → IfErr r (λ x. Faults x bytes) → (nodes : List Node) → Denotes bytes nodes → Gives r nodes
only_of bytes (Ok t) f g nodes d = f.2 ∙ ap nodes_of (one_tree bytes f.0 d.0 f.1 d.1) ∙ sym d.2
only_of bytes (Err (At rule byte)) f g nodes d = no_document bytes rule byte d.0 g d.1
only_of bytes (Err Memory) f g nodes d = tt

pub exact_of : (bytes : List ℕ) (r : Result Tree DocError) → IfOk r (λ t. Denotes bytes t) → IfErr r (λ x. Faults x bytes) → (rule : Rule) (place : ℕ) → IsFault bytes rule place → Refuses r rule place
exact_of bytes (Ok t) f g rule place d = no_document bytes rule place f.0 d f.1
exact_of bytes (Err (At r b)) f g rule place d = one_fault bytes r rule b place g d
exact_of bytes (Err Memory) f g rule place d = tt

-- what was built when nothing more comes
pub built_tree : (events : List Event) (around : List ℕ) (nodes : List Node) → HasBuilt events around nodes → nodes ≡ nodes_of events
built_tree events around nodes h = h [] ∙ ap nodes_of (append-nil events)

-- events more were built
pub built_more : (events es : List Event) (around around2 : List ℕ) (nodes nodes2 : List Node) → HasBuilt events around nodes → ((more : List Event) → nodes_after more around2 nodes2 ≡ nodes_after (es ++ more) around nodes) → HasBuilt (events ++ es) around2 nodes2
built_more events es around around2 nodes nodes2 h k = λ more. k more ∙ h (es ++ more) ∙ ap nodes_of (sym (append_assoc events es more))
