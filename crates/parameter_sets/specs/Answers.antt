-- What the reading of a set of parameter values, or of a mapping, answers.
use Rattle.std.specs.Prelude.{ℕ, List, Option}
use Rattle.doc_grammar.specs.Nodes.{Node}
use Rattle.doc_tree.specs.declared.refusal.Refusal.{Refusal}
use Rattle.doc_tree.specs.declared.rule.ParameterRule.{ParameterRule}
use Rattle.doc_tree.specs.declared.rule.Rule.TheVariants.{Parameters}
use Rattle.doc_tables.specs.Answers as all
use Rattle.parameter_sets.specs.Rules.{IsFirstInMapping, IsFirstInSet}

abbrev pub SetFaults : List Node → Option ℕ → Refusal → Type 0
SetFaults t at refusal =
    all.Faults (λ (rule : ParameterRule). Parameters rule) (IsFirstInSet t at) refusal

abbrev pub MappingFaults : List Node → Option ℕ → Refusal → Type 0
MappingFaults t at refusal =
    all.Faults (λ (rule : ParameterRule). Parameters rule) (IsFirstInMapping t at) refusal
