-- From what is loaded to a run that is held, or that goes on.
use Rattle.std.proofs.Common.{◌≡◌, inl, inr, ℕ, List, [], refl, sym, ◌∙◌, subst}
use Rattle.sim_base.specs.Folder.{FolderView}
use Rattle.sim_base.specs.declared.read_book.ReadNote.{ReadNote}
use Rattle.system_model.specs.declared.plan.Plan.{Plan}
use Rattle.system_model.specs.declared.system.System.{System}
use Rattle.system_checkpoint.specs.declared.snapshot.Snapshot.{Snapshot}
use Rattle.system_files.specs.declared.loaded.Loaded.{Loaded}
use Rattle.system_files.specs.declared.loading.LoadError.{LoadError}
use Rattle.system_files.specs.declared.loading.LoadError.TheVariants as e
use Rattle.system_files.specs.declared.named.FileFault.{FileFault}
use Rattle.system_files.specs.declared.named.FileFault.TheVariants.{Unread, Missing, TooBig, Broken}
use Rattle.system_files.specs.Files.{Faulty, Flaw}
use Rattle.system_files.specs.Holding.{ComesHeld, EndsHeld, FileFailsHeld, Holdable, LoadsHeld, Refused, Unheld}
use Rattle.system_files.specs.Loads.{AsksSome, ReadsSome, TakenBindings}
use Rattle.system_files.specs.Order.{Fails, Finding, Found, Search}
use Rattle.run_program.specs.declared.outcome.Outcome.{Outcome}
use Rattle.run_program.specs.declared.outcome.Outcome.TheVariants.{Words, Memory, File, Start, Ran, Checked, Untold}
use Rattle.run_program.specs.Facts.{StartFacts}
use Rattle.run_program.specs.Happened.{Scene}
use Rattle.run_program.specs.Held.{HoldFacts, LoadHeldFacts, RestFacts}
use Rattle.run_program.specs.Refusing.{TellsEnd, TellsFile}
use Rattle.run_program.specs.Runs.{HasFolders, Task}
use Rattle.run_program.proofs.Lines.{asks_some, has_folders}

-- ---- what is loaded

found_apart : (path : List ℕ) (flaw : Flaw) (loaded : Loaded) → Fails path flaw ≡ Found loaded → ⊥
found_apart path flaw loaded e = cc

found_same : (one other : Loaded) → Found one ≡ Found other → one ≡ other
found_same one other e = cc

-- a system whose run can be held has a folder for each component
pub held_folders : (s : Search) (plan : Plan) (reads : List ReadNote) (asked : List (List ℕ)) (loaded : Loaded) → ComesHeld s plan reads asked (Found loaded) → HasFolders loaded.folders loaded.system
held_folders s plan reads asked loaded comes = by (Found loaded) refl comes
  where
    by : (finding : Finding) → finding ≡ Found loaded → ComesHeld s plan reads asked finding → HasFolders loaded.folders loaded.system
    by finding e (Refused path a f flaw fails is) = absurd (found_apart path flaw loaded (sym is ∙ e))
    by finding e (Unheld o one node a f makes first is) = absurd (found_apart _ _ loaded (sym is ∙ e))
    by finding e (Holdable one a f comes can is) =
        subst (λ (x : Loaded). HasFolders x.folders x.system) (found_same one loaded (sym is ∙ e)) (has_folders s reads asked one comes)

-- ---- where memory runs out after the files

pub asks_held : (s : Search) (plan : Plan) (reads : List ReadNote) (asked : List (List ℕ)) (finding : Finding) → ComesHeld s plan reads asked finding → AsksSome s reads asked
asks_held s plan reads asked finding (Refused path a f flaw fails is) = asks_some s reads asked (Fails path flaw) fails
asks_held s plan reads asked finding (Unheld o one node a f makes first is) = TakenBindings o makes.shapes o.systems.bindings makes.given [] asked makes.reaches makes.asked_is
asks_held s plan reads asked finding (Holdable one a f comes can is) = asks_some s reads asked (Found one) comes

pub held_reads_some : (s : Search) (plan : Plan) (finding : Finding) (old new : FolderView) → LoadsHeld s plan finding old new → ReadsSome s old new
held_reads_some s plan finding old new l = record { reads = l.reads; asked = l.asked; some = asks_held s plan l.reads l.asked finding l.comes; asks = l.asks }

-- ---- where nothing is loaded

file_facts : (fault : FileFault) (o : Outcome) (s : Search) (plan : Plan) (path : List ℕ) (old new : FolderView) → FileFailsHeld s plan fault path old new → TellsFile path fault o → LoadHeldFacts o s plan old new
file_facts Unread o s plan path old new f tells = subst (λ (x : Outcome). LoadHeldFacts x s plan old new) (sym tells) f
file_facts Missing o s plan path old new f tells = subst (λ (x : Outcome). LoadHeldFacts x s plan old new) (sym tells) f
file_facts TooBig o s plan path old new f tells = subst (λ (x : Outcome). LoadHeldFacts x s plan old new) (sym tells) f
file_facts (Broken rule place ports) o s plan path old new f (inl tells) = subst (λ (x : Outcome). LoadHeldFacts x s plan old new) (sym tells) f
file_facts (Broken rule place ports) o s plan path old new f (inr tells) =
    subst (λ (x : Outcome). LoadHeldFacts x s plan old new) (sym tells) (held_reads_some s plan (Fails path (Faulty rule place ports)) old new f)

pub held_end_facts : (end : LoadError) (o : Outcome) (s : Search) (plan : Plan) (old new : FolderView) → EndsHeld s plan end old new → TellsEnd end o → LoadHeldFacts o s plan old new
held_end_facts (e.File file fault) o s plan old new ends tells = file_facts fault o s plan file.path old new ends tells
held_end_facts e.Memory o s plan old new ends tells = subst (λ (x : Outcome). LoadHeldFacts x s plan old new) (sym tells) ends

-- ---- where a peer isn't started

pub hold_unstarted : (o : Outcome) (task : Task) (system : System) (at : ℕ) (old new : Scene) → StartFacts o task system old new → HoldFacts o task system at old new
hold_unstarted Words task system at old new f = f
hold_unstarted Memory task system at old new f = f
hold_unstarted (File path fault) task system at old new f = f
hold_unstarted (Start name fault) task system at old new f = f
hold_unstarted (Ran e) task system at old new f = absurd f
hold_unstarted Checked task system at old new f = f
hold_unstarted Untold task system at old new f = f

pub rest_unstarted : (o : Outcome) (task : Task) (system : System) (held : Snapshot) (old new : Scene) → StartFacts o task system old new → RestFacts o task system held old new
rest_unstarted Words task system held old new f = f
rest_unstarted Memory task system held old new f = f
rest_unstarted (File path fault) task system held old new f = f
rest_unstarted (Start name fault) task system held old new f = f
rest_unstarted (Ran e) task system held old new f = absurd f
rest_unstarted Checked task system held old new f = f
rest_unstarted Untold task system held old new f = f
