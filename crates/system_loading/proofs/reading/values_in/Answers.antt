use Rattle.std.proofs.Common.{◌≡◌, Option, None, List, refl, sym}
use Rattle.doc_grammar.specs.Nodes.{Node}
use Rattle.parameter_values.specs.declared.set.ParameterSet.{ParameterSet}
use Rattle.parameter_sets.specs.Rules.{IsFirstInSet, IsSoundSet}
use Rattle.system_loading.specs.declared.parameters.GivenSet.{GivenSet}
use Rattle.system_loading.specs.Readings.{IsSetIn}
use Rattle.system_loading.proofs.WithinLemmas.{SaysOneWithin, told_within, within_alone}
use Rattle.system_loading.proofs.reading.values_in.Goals as goal

-- what is given is a set, and no document of its own
same_given : (set : ParameterSet) (document : Option (List Node)) (other : GivenSet) → set ≡ other.set → document ≡ other.document →
    record { set = set; document = document } ≡ other
same_given set document other e f = rw (e, f)

pub returns-in-Ok-clause-ok : goal.returns-in-Ok-clause-ok
returns-in-Ok-clause-ok c =
    let t = c.args.tree.now in
    let given : GivenSet = record { set = c.in-Ok.set; document = None } in
    let one : SaysOneWithin IsSoundSet IsSetIn IsFirstInSet t c.args.at given = record {
      sound = c.in-Ok.ensures.sound;
      describes = (refl, c.in-Ok.ensures.found);
      only = λ other sound says. same_given c.in-Ok.set None other (c.in-Ok.ensures.only other.set sound says.1) (sym says.0);
      none = λ k rule. c.in-Ok.ensures.exact rule k;
    } in
    λ outline holder is. within_alone GivenSet IsSoundSet IsSetIn IsFirstInSet outline holder t c.args.at is given one

pub returns-in-Err-At-clause-err : goal.returns-in-Err-At-clause-err
returns-in-Err-At-clause-err c = λ outline holder is.
    told_within GivenSet IsSoundSet IsSetIn IsFirstInSet outline holder c.args.tree.now c.args.at is ParameterSet (λ (g : GivenSet). g.set)
    c.in-Err-At.field-0 c.in-Err-At.field-0-0 c.in-Err-At.node c.in-Err-At.rule c.in-Err-At.field-0-3 c.element_fault.result c.in-Err-At.field-0-is
    c.in-Err-At.ensures.fault c.in-Err-At.ensures.exact (λ said sound says. c.in-Err-At.ensures.only said.set sound says.1) c.element_fault.ensures
