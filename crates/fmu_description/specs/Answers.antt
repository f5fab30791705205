-- What a reading of a description answers.
use Rattle.std.specs.Prelude.{ℕ, List}
use Rattle.doc_grammar.specs.Nodes.{Node}
use Rattle.doc_tree.specs.declared.refusal.Refusal.{Refusal}
use Rattle.doc_tree.specs.declared.rule.DescriptionRule.{DescriptionRule}
use Rattle.doc_tree.specs.declared.rule.Rule.TheVariants.{Description}
use Rattle.doc_tables.specs.Answers as tables
use Rattle.fmu_description.specs.Rules.{IsFirstDescriptionViolation}

-- the refusal is the first violation, unless memory ran out
abbrev pub Faults : List Node → ℕ → Refusal → Type 0
Faults t per_second refusal =
    tables.Faults (λ (rule : DescriptionRule). Description rule)
    (IsFirstDescriptionViolation t per_second) refusal
