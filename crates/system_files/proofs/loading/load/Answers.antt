use Rattle.std.specs.Prelude.{IfErr, IfOk, Result, Ok, Err}
use Rattle.system_files.specs.declared.loaded.Loaded.{Loaded}
use Rattle.system_files.specs.declared.loading.LoadError.{LoadError}
use Rattle.system_files.specs.Loads.{EndsLoading, Loads}
use Rattle.system_files.specs.Order.{Found, search_of}
use Rattle.system_files.specs.Steps.{EndsModels, TakesModels}
use Rattle.system_files.proofs.EndLemmas.{ends_models, ends_outline, loads}
use Rattle.system_files.proofs.SoundLemmas.{outline_document, outline_named, outline_plain, outline_short, outline_whole}
use Rattle.system_files.proofs.loading.load.Goals as goal

ok_so : (r : Result Loaded LoadError) (P Q : Loaded → Type 0) → ((loaded : Loaded) → P loaded → Q loaded) → IfOk r P → IfOk r Q
ok_so (Ok loaded) P Q h p = h loaded p
ok_so (Err end) P Q h p = tt

err_so : (r : Result Loaded LoadError) (P Q : LoadError → Type 0) → ((end : LoadError) → P end → Q end) → IfErr r P → IfErr r Q
err_so (Ok loaded) P Q h p = tt
err_so (Err end) P Q h p = h end p

pub load_models-requires-clause-whole : goal.load_models-requires-clause-whole
load_models-requires-clause-whole g c =
    outline_whole c.nest_laws.ensures.document c.loading_laws.ensures.lone c.args.subject c.args.directory.now c.in-Ok.ensures.ok.reads c.in-Ok.outline c.in-Ok.ensures.ok.is

pub load_models-requires-clause-tree : goal.load_models-requires-clause-tree
load_models-requires-clause-tree g c =
    outline_named c.nest_laws.ensures.document c.loading_laws.ensures.lone_named c.args.subject c.args.directory.now c.in-Ok.ensures.ok.reads c.in-Ok.outline c.in-Ok.ensures.ok.is

pub load_models-requires-clause-document : goal.load_models-requires-clause-document
load_models-requires-clause-document g c = outline_document c.nest_laws.ensures.document c.args.subject c.args.directory.now c.in-Ok.ensures.ok.reads c.in-Ok.outline c.in-Ok.ensures.ok.is

pub load_models-requires-clause-short : goal.load_models-requires-clause-short
load_models-requires-clause-short g c =
    outline_short c.nest_laws.ensures.document c.args.subject c.args.directory.now c.in-Ok.ensures.ok.reads c.in-Ok.outline c.in-Ok.ensures.ok.is

pub load_models-requires-clause-plain : goal.load_models-requires-clause-plain
load_models-requires-clause-plain g c =
    outline_plain c.nest_laws.ensures.document c.args.subject c.args.directory.now c.in-Ok.ensures.ok.reads c.in-Ok.outline c.in-Ok.ensures.ok.is

pub returns-in-Ok-clause-ok : goal.returns-in-Ok-clause-ok
returns-in-Ok-clause-ok g c =
    let s = search_of c.args.subject c.args.directory.now c.args.resolution in
    let old = g.F.Folder.view c.args.folder.now in
    let mid = g.F.Folder.view c.load_outline.new.folder in
    let new = g.F.Folder.view c.load_models.new.folder in
    ok_so c.load_models.result (λ (loaded : Loaded). TakesModels c.args.resolution c.args.directory.now c.in-Ok.outline loaded mid new) (λ (loaded : Loaded). Loads s (Found loaded) old new)
    (λ loaded t. loads s c.in-Ok.outline old mid c.in-Ok.ensures.ok loaded new t) c.load_models.ensures.ok

pub returns-in-Ok-clause-err : goal.returns-in-Ok-clause-err
returns-in-Ok-clause-err g c =
    let s = search_of c.args.subject c.args.directory.now c.args.resolution in
    let old = g.F.Folder.view c.args.folder.now in
    let mid = g.F.Folder.view c.load_outline.new.folder in
    let new = g.F.Folder.view c.load_models.new.folder in
    err_so c.load_models.result (λ (end : LoadError). EndsModels c.args.resolution c.args.directory.now c.in-Ok.outline end mid new) (λ (end : LoadError). EndsLoading s end old new)
    (λ end h. ends_models s c.in-Ok.outline old mid c.in-Ok.ensures.ok end new h) c.load_models.ensures.err

pub returns-in-Err-clause-err : goal.returns-in-Err-clause-err
returns-in-Err-clause-err g c =
    let s = search_of c.args.subject c.args.directory.now c.args.resolution in
    ends_outline s c.in-Err.end (g.F.Folder.view c.args.folder.now) (g.F.Folder.view c.load_outline.new.folder) c.in-Err.ensures.err
