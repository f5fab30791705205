use Rattle.std.proofs.Common.{◌∙◌, subst}
use Rattle.std.specs.List.{Contains}
use Rattle.doc_tree.specs.declared.rule.ParameterRule.TheVariants as r
use Rattle.parameter_sets.proofs.reader.describe_set.Goals as goal

pub parameters-requires : goal.parameters-requires
parameters-requires c = λ k among incomplete.
    c.requires.sound r.Incomplete k (subst (λ nodes. Contains nodes k) (c.as_slice.ensures.value ∙ c.requires.is.parameters) among, incomplete)
