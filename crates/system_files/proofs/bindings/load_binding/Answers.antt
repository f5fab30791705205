use Rattle.std.proofs.Common.{Option, subst}
use Rattle.std.specs.Prelude.{IfSome}
use Rattle.ssd_tree.specs.declared.tree.Origin.{Origin}
use Rattle.system_files.specs.Steps.{AtMapping, HasOriginDocument}
use Rattle.system_files.proofs.BindingLemmas.{values_alone, values_mapped}
use Rattle.system_files.proofs.bindings.load_binding.Goals as goal

pub load_mapping-requires : goal.load_mapping-requires
load_mapping-requires g c = subst (λ (mapping : Option Origin). IfSome mapping (HasOriginDocument c.args.outline.now)) c.in-Some.is c.requires.1

pub returns-in-Ok-load_mapping-clause-ok : goal.returns-in-Ok-load_mapping-clause-ok
returns-in-Ok-load_mapping-clause-ok g c =
    values_mapped c.args.directory.now c.args.outline.now c.args.binding.now c.in-Ok.values (g.F.Folder.view c.args.folder.now) (g.F.Folder.view c.load_values.new.folder)
    c.in-Ok.ensures.ok c.in-Ok.ensures.range c.in-Some.origin c.in-Ok-load_mapping.mapping (g.F.Folder.view c.load_mapping.new.folder) c.in-Some.is c.in-Ok-load_mapping.ensures.ok

pub returns-in-None-clause-ok : goal.returns-in-None-clause-ok
returns-in-None-clause-ok g c =
    values_alone c.args.directory.now c.args.outline.now c.args.binding.now c.in-Ok.values (g.F.Folder.view c.args.folder.now) (g.F.Folder.view c.load_values.new.folder)
    c.in-Ok.ensures.ok c.in-Ok.ensures.range c.in-None.is

pub returns-in-Err-load_mapping-clause-err : goal.returns-in-Err-load_mapping-clause-err
returns-in-Err-load_mapping-clause-err g c =
    AtMapping c.in-Ok.values c.in-Some.origin (g.F.Folder.view c.load_values.new.folder) c.in-Ok.ensures.ok c.in-Some.is c.in-Err-load_mapping.ensures.err
