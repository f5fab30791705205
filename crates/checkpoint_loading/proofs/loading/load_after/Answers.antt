use Rattle.checkpoint_loading.specs.Steps.{Unloaded}
use Rattle.checkpoint_loading.proofs.LoadingLemmas.{LawsOfCheckpoints, breaks_off, counts_by, holdable_by}
use Rattle.checkpoint_loading.proofs.loading.load_after.Goals as goal

pub returns-in-Ok-read_held-clause-holdable : goal.returns-in-Ok-read_held-clause-holdable
returns-in-Ok-read_held-clause-holdable g c =
    let laws : LawsOfCheckpoints = record { one = c.plan_laws.ensures.one; begins = c.plan_laws.ensures.begins; lacks = c.plan_laws.ensures.lacks; breaks = c.plan_laws.ensures.breaks; keeps = c.checkpoint_laws.ensures.keeps } in
    holdable_by laws c.args.bytes.now c.args.plan c.in-Ok.loaded.system c.in-Ok-read_held.held c.requires c.in-Ok-read_held.ensures c.in-Ok.ensures.holdable

pub returns-in-Ok-read_held-clause-counts : goal.returns-in-Ok-read_held-clause-counts
returns-in-Ok-read_held-clause-counts g c =
    let laws : LawsOfCheckpoints = record { one = c.plan_laws.ensures.one; begins = c.plan_laws.ensures.begins; lacks = c.plan_laws.ensures.lacks; breaks = c.plan_laws.ensures.breaks; keeps = c.checkpoint_laws.ensures.keeps } in
    counts_by laws c.args.bytes.now c.args.plan c.in-Ok.loaded.system c.in-Ok-read_held.held c.requires c.in-Ok-read_held.ensures c.in-Ok.ensures.counts

pub returns-in-Err-read_held-clause-err : goal.returns-in-Err-read_held-clause-err
returns-in-Err-read_held-clause-err g c =
    let old = g.F.Folder.view c.args.folder.now in
    let new = g.F.Folder.view c.load_held.new.folder in
    breaks_off c.args.directory.now c.args.plan c.args.bytes.now c.args.file c.in-Ok.loaded c.in-Err-read_held.fault c.refuse.result old new c.in-Ok.ensures.ok c.in-Err-read_held.ensures c.refuse.ensures

pub returns-in-Err-clause-err : goal.returns-in-Err-clause-err
returns-in-Err-clause-err g c = Unloaded c.in-Err.end c.in-Err.ensures.err c.leave_unloaded.ensures
