use Rattle.std.proofs.Common.{ℕ, List}
use Rattle.value_types.specs.declared.shape.Shape.{Shape}
use Rattle.doc_grammar.specs.Nodes.{Node}
use Rattle.doc_tree.specs.declared.rule.DescriptionRule.{DescriptionRule}
use Rattle.doc_tree.specs.declared.rule.Rule.{Rule}
use Rattle.doc_tree.specs.declared.rule.Rule.TheVariants.{Description}
use Rattle.fmu_description.specs.Rules as model
use Rattle.fmu_description.specs.Description as model_says
use Rattle.system_loading.proofs.ReadingLemmas.{HasTree, SaysOne, document_told, element_told, says_alone}
use Rattle.system_loading.proofs.reading.read_shape.Goals as goal

abbrev rule_of : DescriptionRule → Rule
rule_of r = Description r

abbrev IsSoundAt : ℕ → List Node → Type 0
IsSoundAt per_second t = model.IsSoundDescription t per_second

abbrev DescribesAt : ℕ → List Node → Shape → Type 0
DescribesAt per_second t shape = model_says.Describes t per_second shape

abbrev IsFirstAt : ℕ → List Node → ℕ → DescriptionRule → Type 0
IsFirstAt per_second t k rule = model.IsFirstDescriptionViolation t per_second k rule

pub returns-in-Err-clause-err : goal.returns-in-Err-clause-err
returns-in-Err-clause-err c =
    let n = c.args.resolution in
    document_told Shape DescriptionRule rule_of (IsSoundAt n) (DescribesAt n) (IsFirstAt n) c.args.bytes.now c.in-Err.error c.document_fault.result
    c.in-Err.ensures.fault c.in-Err.ensures.only c.in-Err.ensures.exact c.document_fault.ensures

pub returns-in-Ok-read_description-clause-ok : goal.returns-in-Ok-read_description-clause-ok
returns-in-Ok-read_description-clause-ok c =
    let n = c.args.resolution in
    let tree : HasTree c.args.bytes.now c.in-Ok.tree = record { denotes = c.in-Ok.ensures.found; only = c.in-Ok.ensures.only; none = c.in-Ok.ensures.exact } in
    let one : SaysOne (IsSoundAt n) (DescribesAt n) (IsFirstAt n) c.in-Ok.tree c.in-Ok-read_description.shape = record {
      sound = c.in-Ok-read_description.ensures.sound;
      describes = c.in-Ok-read_description.ensures.found;
      only = c.in-Ok-read_description.ensures.only;
      none = λ k rule. c.in-Ok-read_description.ensures.exact rule k;
    } in
    says_alone Shape DescriptionRule rule_of (IsSoundAt n) (DescribesAt n) (IsFirstAt n) c.args.bytes.now c.in-Ok.tree tree c.in-Ok-read_description.shape one

pub returns-in-Err-At-clause-err : goal.returns-in-Err-At-clause-err
returns-in-Err-At-clause-err c =
    let n = c.args.resolution in
    let tree : HasTree c.args.bytes.now c.in-Ok.tree = record { denotes = c.in-Ok.ensures.found; only = c.in-Ok.ensures.only; none = c.in-Ok.ensures.exact } in
    element_told Shape DescriptionRule rule_of (IsSoundAt n) (DescribesAt n) (IsFirstAt n) c.args.bytes.now c.in-Ok.tree tree Shape (λ (s : Shape). s)
    c.in-Err-At.field-0 c.in-Err-At.field-0-0 c.in-Err-At.node c.in-Err-At.rule c.in-Err-At.field-0-3 c.element_fault.result c.in-Err-At.field-0-is
    c.in-Err-At.ensures.fault c.in-Err-At.ensures.exact c.in-Err-At.ensures.only c.element_fault.ensures
