use Rattle.std.proofs.Common.{◌≡◌, ℕ, Option, Some, None, List, refl, sym}
use Rattle.doc_grammar.specs.Nodes.{Node}
use Rattle.doc_tree.specs.declared.rule.ParameterRule.{ParameterRule}
use Rattle.doc_tree.specs.declared.rule.Rule.{Rule}
use Rattle.doc_tree.specs.declared.rule.Rule.TheVariants.{Parameters}
use Rattle.parameter_values.specs.declared.set.ParameterSet.{ParameterSet}
use Rattle.parameter_sets.specs.Rules.{IsFirstInSet, IsSoundSet}
use Rattle.system_loading.specs.declared.parameters.GivenSet.{GivenSet}
use Rattle.system_loading.specs.Readings.{IsSetOf}
use Rattle.system_loading.proofs.ReadingLemmas.{HasTree, SaysOne, document_told, element_told, says_alone}
use Rattle.system_loading.proofs.reading.read_values.Goals as goal

abbrev rule_of : ParameterRule → Rule
rule_of r = Parameters r

abbrev IsSound : List Node → Type 0
IsSound t = IsSoundSet t None

abbrev IsFirst : List Node → ℕ → ParameterRule → Type 0
IsFirst t k r = IsFirstInSet t None k r

-- what is given is a set and its document
same_given : (set : ParameterSet) (document : Option (List Node)) (other : GivenSet) → set ≡ other.set → document ≡ other.document →
    record { set = set; document = document } ≡ other
same_given set document other e f = rw (e, f)

pub returns-in-Err-clause-err : goal.returns-in-Err-clause-err
returns-in-Err-clause-err c =
    document_told GivenSet ParameterRule rule_of IsSound IsSetOf IsFirst c.args.bytes.now c.in-Err.error c.document_fault.result
    c.in-Err.ensures.fault c.in-Err.ensures.only c.in-Err.ensures.exact c.document_fault.ensures

pub returns-in-Ok-read_ssv-clause-ok : goal.returns-in-Ok-read_ssv-clause-ok
returns-in-Ok-read_ssv-clause-ok c =
    let tree : HasTree c.args.bytes.now c.in-Ok.tree = record { denotes = c.in-Ok.ensures.found; only = c.in-Ok.ensures.only; none = c.in-Ok.ensures.exact } in
    let given : GivenSet = record { set = c.in-Ok-read_ssv.set; document = Some c.in-Ok.tree } in
    let one : SaysOne IsSound IsSetOf IsFirst c.in-Ok.tree given = record {
      sound = c.in-Ok-read_ssv.ensures.sound;
      describes = (refl, c.in-Ok-read_ssv.ensures.found);
      only = λ other sound says.
          same_given c.in-Ok-read_ssv.set (Some c.in-Ok.tree) other (c.in-Ok-read_ssv.ensures.only other.set sound says.1) (sym says.0);
      none = λ k rule. c.in-Ok-read_ssv.ensures.exact rule k;
    } in
    says_alone GivenSet ParameterRule rule_of IsSound IsSetOf IsFirst c.args.bytes.now c.in-Ok.tree tree given one

pub returns-in-Err-At-clause-err : goal.returns-in-Err-At-clause-err
returns-in-Err-At-clause-err c =
    let tree : HasTree c.args.bytes.now c.in-Ok.tree = record { denotes = c.in-Ok.ensures.found; only = c.in-Ok.ensures.only; none = c.in-Ok.ensures.exact } in
    element_told GivenSet ParameterRule rule_of IsSound IsSetOf IsFirst c.args.bytes.now c.in-Ok.tree tree ParameterSet (λ (g : GivenSet). g.set)
    c.in-Err-At.field-0 c.in-Err-At.field-0-0 c.in-Err-At.node c.in-Err-At.rule c.in-Err-At.field-0-3 c.element_fault.result c.in-Err-At.field-0-is
    c.in-Err-At.ensures.fault c.in-Err-At.ensures.exact (λ said sound says. c.in-Err-At.ensures.only said.set sound says.1) c.element_fault.ensures
