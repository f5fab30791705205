-- What a reading of a system structure description answers.
use Rattle.std.specs.Prelude.{List}
use Rattle.doc_grammar.specs.Nodes.{Node}
use Rattle.doc_tree.specs.declared.refusal.Refusal.{Refusal}
use Rattle.doc_tree.specs.declared.rule.SystemRule.{SystemRule}
use Rattle.doc_tree.specs.declared.rule.Rule.TheVariants.{System}
use Rattle.doc_tables.specs.Answers as tables
use Rattle.ssd_tree.specs.declared.tree.Setting.{Setting}
use Rattle.ssd_tree.specs.Rules.{IsFirstStructureViolation}

-- the refusal is the first violation, unless memory ran out
abbrev pub Faults : Setting → List Node → Refusal → Type 0
Faults s t refusal =
    tables.Faults (λ (rule : SystemRule). System rule) (IsFirstStructureViolation s t) refusal
