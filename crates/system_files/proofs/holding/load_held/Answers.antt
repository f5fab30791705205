use Rattle.std.proofs.Common.{subst, sym}
use Rattle.std.specs.Prelude.{Result, Ok, Err, IfErr}
use Rattle.system_files.specs.declared.loading.LoadError.{LoadError}
use Rattle.system_files.specs.Holding.{search_by}
use Rattle.system_files.specs.Steps.{TakesModels}
use Rattle.system_files.specs.declared.subject.Subject.TheVariants as what
use Rattle.system_files.proofs.EndLemmas.{ends_models, ends_outline}
use Rattle.system_files.proofs.HoldingLemmas.{ends_held, holdable_loads, unheld_ends}
use Rattle.system_files.proofs.SoundLemmas.{outline_document, outline_named, outline_plain, outline_short, outline_whole}
use Rattle.system_files.proofs.holding.load_held.Goals as goal

pub load_models-requires-clause-whole : goal.load_models-requires-clause-whole
load_models-requires-clause-whole g c =
    outline_whole c.nest_laws.ensures.document c.loading_laws.ensures.lone what.System c.args.directory.now c.in-Ok.ensures.ok.reads c.in-Ok.outline c.in-Ok.ensures.ok.is

pub load_models-requires-clause-tree : goal.load_models-requires-clause-tree
load_models-requires-clause-tree g c =
    outline_named c.nest_laws.ensures.document c.loading_laws.ensures.lone_named what.System c.args.directory.now c.in-Ok.ensures.ok.reads c.in-Ok.outline c.in-Ok.ensures.ok.is

pub load_models-requires-clause-document : goal.load_models-requires-clause-document
load_models-requires-clause-document g c = outline_document c.nest_laws.ensures.document what.System c.args.directory.now c.in-Ok.ensures.ok.reads c.in-Ok.outline c.in-Ok.ensures.ok.is

pub load_models-requires-clause-short : goal.load_models-requires-clause-short
load_models-requires-clause-short g c =
    outline_short c.nest_laws.ensures.document what.System c.args.directory.now c.in-Ok.ensures.ok.reads c.in-Ok.outline c.in-Ok.ensures.ok.is

pub load_models-requires-clause-plain : goal.load_models-requires-clause-plain
load_models-requires-clause-plain g c =
    outline_plain c.nest_laws.ensures.document what.System c.args.directory.now c.in-Ok.ensures.ok.reads c.in-Ok.outline c.in-Ok.ensures.ok.is

pub first_unheld-requires-clause-same : goal.first_unheld-requires-clause-same
first_unheld-requires-clause-same g c = c.in-Ok-load_models.ensures.ok.is.makes.is.flattens.flat.components.len

pub returns-in-None-clause-ok : goal.returns-in-None-clause-ok
returns-in-None-clause-ok g c =
    holdable_loads (search_by c.args.directory.now c.args.plan) c.args.plan c.in-Ok.outline (g.F.Folder.view c.args.folder.now) (g.F.Folder.view c.load_outline.new.folder) c.in-Ok.ensures.ok
    c.in-Ok-load_models.loaded (g.F.Folder.view c.load_models.new.folder) c.in-Ok-load_models.ensures.ok (c.first_unheld.ensures.none c.in-None.is)

pub returns-in-Ok-load_models-clause-err : goal.returns-in-Ok-load_models-clause-err
returns-in-Ok-load_models-clause-err g c =
    unheld_ends (search_by c.args.directory.now c.args.plan) c.args.plan c.in-Ok.outline (g.F.Folder.view c.args.folder.now) (g.F.Folder.view c.load_outline.new.folder) c.in-Ok.ensures.ok
    c.in-Ok-load_models.loaded (g.F.Folder.view c.load_models.new.folder) c.in-Ok-load_models.ensures.ok c.in-Some.node c.refuse_unheld.result
    (record { is = c.in-Some.ensures.least.0; first = c.in-Some.ensures.least.1 }) c.refuse_unheld.ensures

pub returns-in-Ok-clause-err : goal.returns-in-Ok-clause-err
returns-in-Ok-clause-err g c =
    let s = search_by c.args.directory.now c.args.plan in
    ends_held s c.args.plan c.in-Err-load_models.end _ _
    (ends_models s c.in-Ok.outline (g.F.Folder.view c.args.folder.now) (g.F.Folder.view c.load_outline.new.folder) c.in-Ok.ensures.ok c.in-Err-load_models.end (g.F.Folder.view c.load_models.new.folder) c.in-Err-load_models.ensures.err)

pub returns-clause-err : goal.returns-clause-err
returns-clause-err g c =
    let s = search_by c.args.directory.now c.args.plan in
    ends_held s c.args.plan c.in-Err.end _ _ (ends_outline s c.in-Err.end (g.F.Folder.view c.args.folder.now) (g.F.Folder.view c.load_outline.new.folder) c.in-Err.ensures.err)
