use Rattle.std.proofs.Common.{◌∙◌, subst}
use Rattle.std.specs.List.{Contains, flat_map}
use Rattle.doc_tree.specs.declared.rule.ParameterRule.TheVariants as r
use Rattle.transformations.specs.Elements.{transformations_of}
use Rattle.parameter_sets.proofs.reader.describe_mapping.Goals as goal

pub entries-requires-clause-complete : goal.entries-requires-clause-complete
entries-requires-clause-complete c = λ k among incomplete.
    c.requires.sound r.Incomplete k (subst (λ nodes. Contains nodes k) (c.as_slice.ensures.value ∙ c.requires.is.entries) among, incomplete)

pub entries-requires-clause-read : goal.entries-requires-clause-read
entries-requires-clause-read c = λ k among misread.
    c.requires.sound r.Transformation k (subst (λ nodes. Contains (flat_map (transformations_of c.args.tree.now) nodes) k) (c.as_slice.ensures.value ∙ c.requires.is.entries) among, misread)
