-- What a refusal says, where one violation is the first.
use Rattle.std.proofs.Common.{ℕ, List, Option, Err}
use Rattle.doc_grammar.specs.Nodes.{Node}
use Rattle.doc_tree.specs.Rules.{parameter_number}
use Rattle.doc_tree.specs.declared.refusal.Refusal.{Refusal}
use Rattle.doc_tree.specs.declared.rule.ParameterRule.{ParameterRule}
use Rattle.doc_tree.specs.declared.rule.Rule.TheVariants.{Parameters}
use Rattle.doc_tables.specs.Answers.{IsRefusal, Refuses}
use Rattle.doc_tables.proofs.CallerLemmas as w
use Rattle.parameter_values.specs.declared.set.Mapping.{Mapping}
use Rattle.parameter_values.specs.declared.set.ParameterSet.{ParameterSet}
use Rattle.parameter_sets.specs.Answers.{MappingFaults, SetFaults}
use Rattle.parameter_sets.specs.Rules.{IsFirstInMapping, IsFirstInSet, IsSoundMapping, IsSoundSet, MappingViolates, SetViolates}
use Rattle.parameter_sets.proofs.FirstLemmas.{rules_apart}

-- ---- of sets

pub set_faults : (t : List Node) (at : Option ℕ) (e : Refusal) (a : ParameterRule) (j : ℕ) → IsRefusal e (Parameters a) j → IsFirstInSet t at j a → SetFaults t at e
set_faults t at e a j is first = w.faults (λ (rule : ParameterRule). Parameters rule) (IsFirstInSet t at) e a j is first

pub set_exact : (t : List Node) (at : Option ℕ) (e : Refusal) (a : ParameterRule) (j : ℕ) → IsRefusal e (Parameters a) j → IsFirstInSet t at j a
    → (rule : ParameterRule) (node : ℕ) → IsFirstInSet t at node rule → Refuses {A = ParameterSet} (Err e) (Parameters rule) node
set_exact t at e a j is first rule node other =
    w.refuses_first ParameterSet (λ (rule : ParameterRule). Parameters rule) parameter_number (SetViolates t at) rules_apart e a j is first rule node other

pub none_in_set : (t : List Node) (at : Option ℕ) (a : ParameterRule) (j : ℕ) → IsFirstInSet t at j a → IsSoundSet t at → ⊥
none_in_set t at a j first sound = sound a j first.is.broken

pub set_violated : (t : List Node) (at : Option ℕ) → IsSoundSet t at → (rule : ParameterRule) (node : ℕ) → IsFirstInSet t at node rule → ⊥
set_violated t at sound rule node first = sound rule node first.is.broken

-- ---- of mappings

pub mapping_faults : (t : List Node) (at : Option ℕ) (e : Refusal) (a : ParameterRule) (j : ℕ) → IsRefusal e (Parameters a) j → IsFirstInMapping t at j a → MappingFaults t at e
mapping_faults t at e a j is first = w.faults (λ (rule : ParameterRule). Parameters rule) (IsFirstInMapping t at) e a j is first

pub mapping_exact : (t : List Node) (at : Option ℕ) (e : Refusal) (a : ParameterRule) (j : ℕ) → IsRefusal e (Parameters a) j → IsFirstInMapping t at j a
    → (rule : ParameterRule) (node : ℕ) → IsFirstInMapping t at node rule → Refuses {A = Mapping} (Err e) (Parameters rule) node
mapping_exact t at e a j is first rule node other =
    w.refuses_first Mapping (λ (rule : ParameterRule). Parameters rule) parameter_number (MappingViolates t at) rules_apart e a j is first rule node other

pub none_in_mapping : (t : List Node) (at : Option ℕ) (a : ParameterRule) (j : ℕ) → IsFirstInMapping t at j a → IsSoundMapping t at → ⊥
none_in_mapping t at a j first sound = sound a j first.is.broken

pub mapping_violated : (t : List Node) (at : Option ℕ) → IsSoundMapping t at → (rule : ParameterRule) (node : ℕ) → IsFirstInMapping t at node rule → ⊥
mapping_violated t at sound rule node first = sound rule node first.is.broken
