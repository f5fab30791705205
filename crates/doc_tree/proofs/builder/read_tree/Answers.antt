use Rattle.std.proofs.Common.{ℕ, List, Err, subst, sym}
use Rattle.std.specs.Str.{IsValidUpTo}
use Rattle.doc_grammar.specs.Faults.{IsFault}
use Rattle.doc_grammar.specs.Nodes.{Node, Denotes}
use Rattle.doc_grammar.specs.declared.reasons.Rule.{Rule}
use Rattle.doc_grammar.specs.declared.reasons.Rule.TheVariants.{NotUtf8}
use Rattle.doc_events.specs.declared.error.DocError.TheVariants.{At}
use Rattle.doc_tree.specs.Answers.{Gives, Refuses}
use Rattle.doc_tree.proofs.Told.{only_of, exact_of}
use Rattle.doc_tree.proofs.builder.read_tree.Goals as goal

pub returns-in-Ok-clause-only : goal.returns-in-Ok-clause-only
returns-in-Ok-clause-only c =
    subst (λ z. (nodes : List Node) → Denotes z nodes → Gives c.read_text.result nodes) c.in-Ok.ensures.cases.0
    (only_of c.in-Ok.text.now c.read_text.result c.read_text.ensures.found c.read_text.ensures.fault)

pub returns-in-Ok-clause-exact : goal.returns-in-Ok-clause-exact
returns-in-Ok-clause-exact c =
    subst (λ z. (rule : Rule) (place : ℕ) → IsFault z rule place → Refuses c.read_text.result rule place) c.in-Ok.ensures.cases.0
    (exact_of c.in-Ok.text.now c.read_text.result c.read_text.ensures.found c.read_text.ensures.fault)

pub returns-in-Err-clause-only : goal.returns-in-Err-clause-only
returns-in-Err-clause-only c =
    only_of c.args.bytes.now (Err (At NotUtf8 c.valid_up_to.result)) tt record { none = c.in-Err.ensures.cases.0; shown = subst (λ n. IsValidUpTo c.args.bytes.now n) (sym c.valid_up_to.ensures) c.in-Err.ensures.cases.1 }

pub returns-in-Err-clause-exact : goal.returns-in-Err-clause-exact
returns-in-Err-clause-exact c =
    exact_of c.args.bytes.now (Err (At NotUtf8 c.valid_up_to.result)) tt record { none = c.in-Err.ensures.cases.0; shown = subst (λ n. IsValidUpTo c.args.bytes.now n) (sym c.valid_up_to.ensures) c.in-Err.ensures.cases.1 }
