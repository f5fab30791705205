use Rattle.std.proofs.Common.{List, subst}
use Rattle.std.specs.Prelude.{IfErr, IfOk, Result, Ok, Err}
use Rattle.doc_tree.specs.declared.rule.NestingRule.TheVariants.{TooDeep}
use Rattle.nested_documents.specs.Nest.{IsNext}
use Rattle.nested_documents.specs.States.{gathered}
use Rattle.system_loading.specs.declared.documents.SystemDocument.{SystemDocument}
use Rattle.system_loading.specs.declared.outline.Outline.{Outline}
use Rattle.system_files.specs.declared.loading.LoadError.{LoadError}
use Rattle.system_files.specs.declared.subject.Subject.TheVariants as what
use Rattle.system_files.specs.Documents.{IsGathered}
use Rattle.system_files.specs.Steps.{EndsOutline, TakesOutline, TellsNesting}
use Rattle.system_files.proofs.GatherLemmas.{below_most, ends_deep, ends_here, ends_lacking, ends_more, gathers_more, one_more, takes_all}
use Rattle.system_files.proofs.documents.read_outline.Goals as goal

ok_so : (r : Result Outline LoadError) (P Q : Outline → Type 0) → ((o : Outline) → P o → Q o) → IfOk r P → IfOk r Q
ok_so (Ok o) P Q h p = h o p
ok_so (Err end) P Q h p = tt

err_so : (r : Result Outline LoadError) (P Q : LoadError → Type 0) → ((end : LoadError) → P end → Q end) → IfErr r P → IfErr r Q
err_so (Ok o) P Q h p = tt
err_so (Err end) P Q h p = h end p

pub documents-init : goal.documents-init
documents-init g c = c.in-Ok.ensures.ok

pub read_next-requires : goal.read_next-requires
read_next-requires g c = subst (IsNext (gathered c.documents.gathering.nest)) c.in-Ok-Document.field-0-is c.in-Ok-Document.ensures

pub returns-in-Err-read_next-clause-err : goal.returns-in-Err-read_next-clause-err
returns-in-Err-read_next-clause-err g c =
    let view = g.F.Folder.view in
    let now = c.documents.gathering in
    let comes = subst (IsNext (gathered now.nest)) c.in-Ok-Document.field-0-is c.in-Ok-Document.ensures in
    ends_more c.args.directory.now now.documents.items (gathered now.nest) (view c.args.folder.now) (view c.documents.folder) c.documents.invariant
    c.in-Ok-Document.path c.in-Ok-Document.setting c.in-Err-read_next.end (view c.read_next.new.folder) comes c.in-Err-read_next.ensures.err

pub documents-preserved : goal.documents-preserved
documents-preserved g c =
    let view = g.F.Folder.view in
    let now = c.documents.gathering in
    let more = c.in-Ok-read_next.more in
    let comes = subst (IsNext (gathered now.nest)) c.in-Ok-Document.field-0-is c.in-Ok-Document.ensures in
    gathers_more c.args.directory.now now.documents.items (gathered now.nest) (view c.args.folder.now) (view c.documents.folder) c.documents.invariant
    c.in-Ok-Document.path c.in-Ok-Document.setting more.documents.items (gathered more.nest) (view c.read_next.new.folder) comes c.in-Ok-read_next.ensures.ok

pub documents-smaller : goal.documents-smaller
documents-smaller g c =
    let now = c.documents.gathering in
    let comes = subst (IsNext (gathered now.nest)) c.in-Ok-Document.field-0-is c.in-Ok-Document.ensures in
    one_more (gathered now.nest) (gathered c.in-Ok-read_next.more.nest) c.in-Ok-read_next.ensures.ok.adds.added.documents
    (below_most (gathered now.nest) c.in-Ok-Document.path c.in-Ok-Document.setting comes)

pub finish-requires : goal.finish-requires
finish-requires g c = subst (IsNext (gathered c.documents.gathering.nest)) c.in-Ok-Nothing.field-0-is c.in-Ok-Nothing.ensures

pub returns-in-Ok-Nothing-clause-ok : goal.returns-in-Ok-Nothing-clause-ok
returns-in-Ok-Nothing-clause-ok g c =
    let old = g.F.Folder.view c.args.folder.now in
    let new = g.F.Folder.view c.documents.folder in
    let now = c.documents.gathering in
    let all = subst (IsNext (gathered now.nest)) c.in-Ok-Nothing.field-0-is c.in-Ok-Nothing.ensures in
    ok_so c.finish.result (IsGathered now.documents.items (gathered now.nest)) (λ (o : Outline). TakesOutline what.System c.args.directory.now o old new)
    (λ o is. takes_all c.args.directory.now now.documents.items (gathered now.nest) old new c.documents.invariant o all is) c.finish.ensures.ok

pub returns-in-Ok-Nothing-clause-err : goal.returns-in-Ok-Nothing-clause-err
returns-in-Ok-Nothing-clause-err g c =
    let old = g.F.Folder.view c.args.folder.now in
    let new = g.F.Folder.view c.documents.folder in
    let now = c.documents.gathering in
    let all = subst (IsNext (gathered now.nest)) c.in-Ok-Nothing.field-0-is c.in-Ok-Nothing.ensures in
    err_so c.finish.result _ (λ (end : LoadError). EndsOutline what.System c.args.directory.now end old new)
    (λ end lacks. ends_lacking c.args.directory.now now.documents.items (gathered now.nest) old new c.documents.invariant lacks.0 end all lacks.1 lacks.2) c.finish.ensures.err

pub returns-in-Ok-TooDeep-clause-err : goal.returns-in-Ok-TooDeep-clause-err
returns-in-Ok-TooDeep-clause-err g c =
    let now = c.documents.gathering in
    let place = c.in-Ok-TooDeep.place in
    let comes = subst (IsNext (gathered now.nest)) c.in-Ok-TooDeep.field-0-is c.in-Ok-TooDeep.ensures in
    ends_deep c.args.directory.now now.documents.items (gathered now.nest) (g.F.Folder.view c.args.folder.now) (g.F.Folder.view c.documents.folder) c.documents.invariant
    place c.refuse_nesting.result comes
    (subst (λ (documents : List SystemDocument). TellsNesting c.args.directory.now documents place TooDeep c.refuse_nesting.result) c.deref.ensures.value c.refuse_nesting.ensures)

pub returns-in-Err-next-clause-err : goal.returns-in-Err-next-clause-err
returns-in-Err-next-clause-err g c =
    let now = c.documents.gathering in
    ends_here c.args.directory.now now.documents.items (gathered now.nest) (g.F.Folder.view c.args.folder.now) (g.F.Folder.view c.documents.folder) c.documents.invariant
