use Rattle.std.proofs.Common.{◌∙◌, subst}
use Rattle.parameter_sets.specs.declared.part.Part.TheVariants as part
use Rattle.doc_tables.specs.Violations.{FindsLeast}
use Rattle.parameter_sets.specs.Rules.{IsBrokenAmong, IsOtherStructure}
use Rattle.parameter_sets.proofs.PartLemmas.{first_in_set}
use Rattle.parameter_sets.proofs.reader.first_in_set.Goals as goal

pub returns : goal.returns
returns c =
    first_in_set c.args.tree.now c.args.at c.other_structure-structure.result c.in_ok-incomplete.incomplete c.earlier-first.result c.earlier.result
    (subst (λ nodes. FindsLeast (IsOtherStructure c.args.tree.now nodes c.args.at) c.other_structure-structure.result) (c.as_slice.ensures.value ∙ c.requires.sets) c.other_structure-structure.ensures)
    (subst (λ nodes. FindsLeast (IsBrokenAmong c.args.tree.now part.Parameter nodes) c.in_ok-incomplete.incomplete) (c.as_slice-2.ensures.value ∙ c.requires.parameters) c.in_ok-incomplete.ensures)
    c.earlier-first.ensures c.earlier.ensures
