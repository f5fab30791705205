use Rattle.std.proofs.Common.{◌≡◌, Option, None, List, refl, sym}
use Rattle.doc_grammar.specs.Nodes.{Node}
use Rattle.parameter_values.specs.declared.set.Mapping.{Mapping}
use Rattle.parameter_sets.specs.Rules.{IsFirstInMapping, IsSoundMapping}
use Rattle.system_loading.specs.declared.parameters.GivenMapping.{GivenMapping}
use Rattle.system_loading.specs.Readings.{IsMappingIn}
use Rattle.system_loading.proofs.WithinLemmas.{SaysOneWithin, told_within, within_alone}
use Rattle.system_loading.proofs.reading.mapping_in.Goals as goal

-- what is given is a mapping, and no document of its own
same_given : (mapping : Mapping) (document : Option (List Node)) (other : GivenMapping) → mapping ≡ other.mapping → document ≡ other.document →
    record { mapping = mapping; document = document } ≡ other
same_given mapping document other e f = rw (e, f)

pub returns-in-Ok-clause-ok : goal.returns-in-Ok-clause-ok
returns-in-Ok-clause-ok c =
    let t = c.args.tree.now in
    let given : GivenMapping = record { mapping = c.in-Ok.mapping; document = None } in
    let one : SaysOneWithin IsSoundMapping IsMappingIn IsFirstInMapping t c.args.at given = record {
      sound = c.in-Ok.ensures.sound;
      describes = (refl, c.in-Ok.ensures.found);
      only = λ other sound says. same_given c.in-Ok.mapping None other (c.in-Ok.ensures.only other.mapping sound says.1) (sym says.0);
      none = λ k rule. c.in-Ok.ensures.exact rule k;
    } in
    λ outline holder is. within_alone GivenMapping IsSoundMapping IsMappingIn IsFirstInMapping outline holder t c.args.at is given one

pub returns-in-Err-At-clause-err : goal.returns-in-Err-At-clause-err
returns-in-Err-At-clause-err c = λ outline holder is.
    told_within GivenMapping IsSoundMapping IsMappingIn IsFirstInMapping outline holder c.args.tree.now c.args.at is Mapping (λ (g : GivenMapping). g.mapping)
    c.in-Err-At.field-0 c.in-Err-At.field-0-0 c.in-Err-At.node c.in-Err-At.rule c.in-Err-At.field-0-3 c.element_fault.result c.in-Err-At.field-0-is
    c.in-Err-At.ensures.fault c.in-Err-At.ensures.exact (λ said sound says. c.in-Err-At.ensures.only said.mapping sound says.1) c.element_fault.ensures
