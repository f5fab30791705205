use Rattle.std.proofs.Common.{◌≡◌, ℕ, Option, Some, None, List, refl, sym}
use Rattle.doc_grammar.specs.Nodes.{Node}
use Rattle.doc_tree.specs.declared.rule.ParameterRule.{ParameterRule}
use Rattle.doc_tree.specs.declared.rule.Rule.{Rule}
use Rattle.doc_tree.specs.declared.rule.Rule.TheVariants.{Parameters}
use Rattle.parameter_values.specs.declared.set.Mapping.{Mapping}
use Rattle.parameter_sets.specs.Rules.{IsFirstInMapping, IsSoundMapping}
use Rattle.system_loading.specs.declared.parameters.GivenMapping.{GivenMapping}
use Rattle.system_loading.specs.Readings.{IsMappingOf}
use Rattle.system_loading.proofs.ReadingLemmas.{HasTree, SaysOne, document_told, element_told, says_alone}
use Rattle.system_loading.proofs.reading.read_mapping.Goals as goal

abbrev rule_of : ParameterRule → Rule
rule_of r = Parameters r

abbrev IsSound : List Node → Type 0
IsSound t = IsSoundMapping t None

abbrev IsFirst : List Node → ℕ → ParameterRule → Type 0
IsFirst t k r = IsFirstInMapping t None k r

-- what is given is a mapping and its document
same_given : (mapping : Mapping) (document : Option (List Node)) (other : GivenMapping) → mapping ≡ other.mapping → document ≡ other.document →
    record { mapping = mapping; document = document } ≡ other
same_given mapping document other e f = rw (e, f)

pub returns-in-Err-clause-err : goal.returns-in-Err-clause-err
returns-in-Err-clause-err c =
    document_told GivenMapping ParameterRule rule_of IsSound IsMappingOf IsFirst c.args.bytes.now c.in-Err.error c.document_fault.result
    c.in-Err.ensures.fault c.in-Err.ensures.only c.in-Err.ensures.exact c.document_fault.ensures

pub returns-in-Ok-read_ssm-clause-ok : goal.returns-in-Ok-read_ssm-clause-ok
returns-in-Ok-read_ssm-clause-ok c =
    let tree : HasTree c.args.bytes.now c.in-Ok.tree = record { denotes = c.in-Ok.ensures.found; only = c.in-Ok.ensures.only; none = c.in-Ok.ensures.exact } in
    let given : GivenMapping = record { mapping = c.in-Ok-read_ssm.mapping; document = Some c.in-Ok.tree } in
    let one : SaysOne IsSound IsMappingOf IsFirst c.in-Ok.tree given = record {
      sound = c.in-Ok-read_ssm.ensures.sound;
      describes = (refl, c.in-Ok-read_ssm.ensures.found);
      only = λ other sound says.
          same_given c.in-Ok-read_ssm.mapping (Some c.in-Ok.tree) other (c.in-Ok-read_ssm.ensures.only other.mapping sound says.1) (sym says.0);
      none = λ k rule. c.in-Ok-read_ssm.ensures.exact rule k;
    } in
    says_alone GivenMapping ParameterRule rule_of IsSound IsMappingOf IsFirst c.args.bytes.now c.in-Ok.tree tree given one

pub returns-in-Err-At-clause-err : goal.returns-in-Err-At-clause-err
returns-in-Err-At-clause-err c =
    let tree : HasTree c.args.bytes.now c.in-Ok.tree = record { denotes = c.in-Ok.ensures.found; only = c.in-Ok.ensures.only; none = c.in-Ok.ensures.exact } in
    element_told GivenMapping ParameterRule rule_of IsSound IsMappingOf IsFirst c.args.bytes.now c.in-Ok.tree tree Mapping (λ (g : GivenMapping). g.mapping)
    c.in-Err-At.field-0 c.in-Err-At.field-0-0 c.in-Err-At.node c.in-Err-At.rule c.in-Err-At.field-0-3 c.element_fault.result c.in-Err-At.field-0-is
    c.in-Err-At.ensures.fault c.in-Err-At.ensures.exact (λ said sound says. c.in-Err-At.ensures.only said.mapping sound says.1) c.element_fault.ensures
