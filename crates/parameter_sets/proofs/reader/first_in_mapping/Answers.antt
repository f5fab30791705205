use Rattle.std.proofs.Common.{◌∙◌, subst}
use Rattle.parameter_sets.specs.declared.part.Part.TheVariants as part
use Rattle.doc_tables.specs.Violations.{FindsLeast}
use Rattle.parameter_sets.specs.Rules.{IsBrokenAmong, IsOtherStructure}
use Rattle.parameter_sets.proofs.PartLemmas.{first_in_mapping}
use Rattle.parameter_sets.proofs.reader.first_in_mapping.Goals as goal

pub returns : goal.returns
returns c =
    first_in_mapping c.args.tree.now c.args.at c.other_structure-structure.result c.in_ok-incomplete.incomplete c.in_ok-misread.misread c.earlier-first.result c.earlier-second.result c.earlier.result
    (subst (λ nodes. FindsLeast (IsOtherStructure c.args.tree.now nodes c.args.at) c.other_structure-structure.result) (c.as_slice.ensures.value ∙ c.requires.mappings) c.other_structure-structure.ensures)
    (subst (λ nodes. FindsLeast (IsBrokenAmong c.args.tree.now part.Entry nodes) c.in_ok-incomplete.incomplete) (c.as_slice-2.ensures.value ∙ c.requires.entries) c.in_ok-incomplete.ensures)
    (subst (λ nodes. FindsLeast (IsBrokenAmong c.args.tree.now part.Transformation nodes) c.in_ok-misread.misread) (c.as_slice-3.ensures.value ∙ c.requires.transformations) c.in_ok-misread.ensures)
    c.earlier-first.ensures c.earlier-second.ensures c.earlier.ensures
