use Rattle.std.proofs.Common.{List, ℕ, ◌∙◌, subst, sym}
use Rattle.std.specs.Prelude.{IfErr}
use Rattle.system_checkpoint.specs.First.{HasPlan}
use Rattle.checkpoint_loading.specs.declared.rest.HeldRun.{HeldRun}
use Rattle.checkpoint_loading.specs.declared.rest.RestEnd.{RestEnd}
use Rattle.checkpoint_loading.specs.Loading.{EndsRest, Loads, Question, Rests, TakesBytes}
use Rattle.checkpoint_loading.specs.Steps.{EndsSystem, TakesRest}
use Rattle.checkpoint_loading.proofs.LoadingLemmas.{LawsOfCheckpoints, bad_plan, ends_system, if_err_too, if_ok_too, lacks_bytes, lacks_there, takes_rest, takes_there}
use Rattle.checkpoint_loading.proofs.loading.load_rest.Goals as goal

pub returns-in-Ok-read_plan-clause-ok : goal.returns-in-Ok-read_plan-clause-ok
returns-in-Ok-read_plan-clause-ok g c =
    let q : Question = record { directory = c.args.directory.now; file = c.args.file.now } in
    let laws : LawsOfCheckpoints = record { one = c.plan_laws.ensures.one; begins = c.plan_laws.ensures.begins; lacks = c.plan_laws.ensures.lacks; breaks = c.plan_laws.ensures.breaks; keeps = c.checkpoint_laws.ensures.keeps } in
    let old = g.F.Folder.view c.args.folder.now in
    let mid = g.F.Folder.view c.read_bytes.new.folder in
    let new = g.F.Folder.view c.load_after.new.folder in
    let bytes = c.in-Ok-read_bytes.bytes in
    let plan = c.in-Ok-read_plan.plan in
    let takes = takes_there q.directory q.file c.in-Ok.named.path bytes old mid c.in-Ok.ensures c.in-Ok-read_bytes.ensures.ok.1 in
    let has = subst (λ (xs : List ℕ). HasPlan xs plan) c.as_slice.ensures c.in-Ok-read_plan.ensures in
    let rest = c.load_after.ensures.ok in
    if_ok_too c.load_after.result (λ (run : HeldRun). TakesRest q.directory plan bytes run mid new) (λ (run : HeldRun). Loads q (Rests run.loaded run.held) old new)
    (takes_rest laws q old new bytes plan mid takes has) rest

pub returns-in-Ok-read_plan-clause-err : goal.returns-in-Ok-read_plan-clause-err
returns-in-Ok-read_plan-clause-err g c =
    let q : Question = record { directory = c.args.directory.now; file = c.args.file.now } in
    let laws : LawsOfCheckpoints = record { one = c.plan_laws.ensures.one; begins = c.plan_laws.ensures.begins; lacks = c.plan_laws.ensures.lacks; breaks = c.plan_laws.ensures.breaks; keeps = c.checkpoint_laws.ensures.keeps } in
    let old = g.F.Folder.view c.args.folder.now in
    let mid = g.F.Folder.view c.read_bytes.new.folder in
    let new = g.F.Folder.view c.load_after.new.folder in
    let bytes = c.in-Ok-read_bytes.bytes in
    let plan = c.in-Ok-read_plan.plan in
    let takes = takes_there q.directory q.file c.in-Ok.named.path bytes old mid c.in-Ok.ensures c.in-Ok-read_bytes.ensures.ok.1 in
    let has = subst (λ (xs : List ℕ). HasPlan xs plan) c.as_slice.ensures c.in-Ok-read_plan.ensures in
    let ends = c.load_after.ensures.err in
    let there = subst (λ (path : List ℕ). IfErr c.load_after.result (λ (end : RestEnd). EndsSystem q.directory plan bytes path end mid new)) (c.in-Ok-read_bytes.ensures.ok.0 ∙ c.in-Ok.ensures) ends in
    if_err_too c.load_after.result (λ (end : RestEnd). EndsSystem q.directory plan bytes q.file end mid new) (λ (end : RestEnd). EndsRest q end old new)
    (ends_system laws q old new bytes plan mid takes has) there

pub returns-in-Ok-read_bytes-clause-err : goal.returns-in-Ok-read_bytes-clause-err
returns-in-Ok-read_bytes-clause-err g c =
    let q : Question = record { directory = c.args.directory.now; file = c.args.file.now } in
    let laws : LawsOfCheckpoints = record { one = c.plan_laws.ensures.one; begins = c.plan_laws.ensures.begins; lacks = c.plan_laws.ensures.lacks; breaks = c.plan_laws.ensures.breaks; keeps = c.checkpoint_laws.ensures.keeps } in
    let old = g.F.Folder.view c.args.folder.now in
    let new = g.F.Folder.view c.read_bytes.new.folder in
    let bytes = c.in-Ok-read_bytes.bytes in
    let takes = takes_there q.directory q.file c.in-Ok.named.path bytes old new c.in-Ok.ensures c.in-Ok-read_bytes.ensures.ok.1 in
    let named = c.in-Ok-read_bytes.ensures.ok.0 ∙ c.in-Ok.ensures in
    let at_got = subst (λ (xs : List ℕ). TakesBytes q xs old new) (sym c.as_slice.ensures) takes in
    subst (λ (end : RestEnd). EndsRest q end old new) (sym c.refuse.ensures)
    (bad_plan laws q old new c.as_slice.result.now c.in-Ok-read_bytes.named c.in-Err-read_plan.fault at_got named c.in-Err-read_plan.ensures)

pub returns-clause-err : goal.returns-clause-err
returns-clause-err g c =
    let q : Question = record { directory = c.args.directory.now; file = c.args.file.now } in
    let laws : LawsOfCheckpoints = record { one = c.plan_laws.ensures.one; begins = c.plan_laws.ensures.begins; lacks = c.plan_laws.ensures.lacks; breaks = c.plan_laws.ensures.breaks; keeps = c.checkpoint_laws.ensures.keeps } in
    let old = g.F.Folder.view c.args.folder.now in
    let new = g.F.Folder.view c.read_bytes.new.folder in
    lacks_bytes laws q old new c.in-Err.end (lacks_there q.directory q.file c.in-Ok.named.path c.in-Err.end old new c.in-Ok.ensures c.in-Err.ensures.err)
