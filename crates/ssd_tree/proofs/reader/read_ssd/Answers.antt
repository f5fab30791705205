use Rattle.std.proofs.Common.{subst, sym}
use Rattle.ssd_tree.specs.Parts.{Describes}
use Rattle.ssd_tree.specs.Rules.{alone}
use Rattle.ssd_tree.specs.declared.tree.SystemTree.{SystemTree}
use Rattle.ssd_tree.proofs.ReadLemmas.{none_given, same_refusal}
use Rattle.ssd_tree.proofs.reader.read_ssd.Goals as goal

pub returns-in-Ok-clause-only : goal.returns-in-Ok-clause-only
returns-in-Ok-clause-only c =
    let t = c.args.tree.now in
    let own : Describes t c.into_tree.result = subst (λ (read : SystemTree). Describes t read) (sym c.into_tree.ensures) c.in-Ok.ensures.found in
    λ other sound describes. c.one_tree.ensures t c.into_tree.result other (alone, sound) own describes

pub returns-in-Err-clause-exact : goal.returns-in-Err-clause-exact
returns-in-Err-clause-exact c = same_refusal c.args.tree.now c.in-Err.refusal c.in-Err.ensures.exact

pub returns-in-Err-clause-only : goal.returns-in-Err-clause-only
returns-in-Err-clause-only c = none_given c.args.tree.now c.in-Err.refusal c.in-Err.ensures.fault
