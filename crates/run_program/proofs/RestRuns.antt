-- From what is kept of a run to the rest of it.
use Rattle.std.proofs.Common.{◌≡◌, inl, inr, ℕ, List, Option, Some, refl, sym, ◌∙◌, subst, arith}
use Rattle.sim_base.specs.Asking.{IsAnswerOf}
use Rattle.sim_base.specs.Folder.{FolderView, with_read}
use Rattle.sim_base.specs.Sink.{SinkView}
use Rattle.sim_base.specs.declared.folder.ReadFault.{ReadFault}
use Rattle.std.specs.Prelude.{IfSome, Result}
use Rattle.sim_base.specs.declared.numbers.PortId.{PortId}
use Rattle.doc_tree.specs.declared.place.Place.{Place}
use Rattle.doc_tree.specs.declared.rule.Rule.{Rule}
use Rattle.fmu_peer.specs.View.{View}
use Rattle.system_model.specs.declared.plan.Plan.{Plan}
use Rattle.system_model.specs.declared.system.System.{System}
use Rattle.system_model.specs.Bounds.{BindsParameters}
use Rattle.system_model.specs.Plans.{IsPlan}
use Rattle.system_model.specs.Sound.{IsSound}
use Rattle.trace_text.specs.Holding.{IsHoldable}
use Rattle.system_checkpoint.specs.declared.snapshot.Snapshot.{Snapshot}
use Rattle.system_checkpoint.specs.Spelling.{CanBeHeld}
use Rattle.system_files.specs.declared.loaded.Loaded.{Loaded}
use Rattle.system_files.specs.declared.named.FileFault.{FileFault}
use Rattle.system_files.specs.declared.named.FileFault.TheVariants.{Unread, Missing, TooBig, Broken}
use Rattle.system_files.specs.declared.named.NamedFile.{NamedFile}
use Rattle.system_files.specs.Files.{Absent, Faulty, Flaw, Long}
use Rattle.system_files.specs.Holding.{search_by}
use Rattle.system_files.specs.Order.{Fails}
use Rattle.checkpoint_loading.specs.declared.rest.RestEnd.TheVariants as R
use Rattle.checkpoint_loading.specs.Loading.{Comes, EndsRest, Finding, Lacks, Loads, LongFile, NoCheckpoint, NoFile, NoPlan, NoRest, NoSystem, Question, ReadsFew, Rests, SomeFiles, Whole}
use Rattle.calling_sequence.specs.Plans.{CountsBy}
use Rattle.calling_sequence.specs.Ready.{IsPlanOf}
use Rattle.calling_sequence.specs.declared.run_end.RunEnd.{RunEnd}
use Rattle.step_master.specs.declared.master.Master.{Master}
use Rattle.step_master.specs.Holding.{PreparesRest, RunsFrom}
use Rattle.step_master.specs.Sessions.{ResumedIsSession, ResumedSession}
use Rattle.step_master.specs.Master.{Closes}
use Rattle.step_master.specs.Standing.{IsReady, IsResumed, MayRun, standing}
use Rattle.step_master.specs.System.{ArePeersOf}
use Rattle.run_program.specs.declared.outcome.Outcome.{Outcome}
use Rattle.run_program.specs.declared.outcome.Outcome.TheVariants.{Memory}
use Rattle.run_program.specs.Held.{LoadRestFacts}
use Rattle.run_program.specs.Refusing.{TellsFile}
use Rattle.run_program.specs.Runs.{HasFolders}
use Rattle.run_program.proofs.HeldRuns.{asks_held, held_folders}
use Rattle.run_program.proofs.Running.{account_of}

-- ---- the plan of the rest

-- that of the checkpoint, with other workers and another link
abbrev pub plan_with : Snapshot → (workers link : ℕ) → Plan
plan_with held workers link = record held.plan { workers = workers; link = link }

module _ (system : System) (held : Snapshot) (workers link : ℕ) where
  pub rest_is_plan : CanBeHeld system held → IsPlan (plan_with held workers link)
  rest_is_plan can =
      let l = can.limits in
      let step = l.step.0 in
      let limit = l.limit.0 in
      let from = l.from in
      let before = l.before in
      record {
        step_above = omega (arith, step);
        step_within = l.step.1;
        ordered = omega (arith, from, before);
        stop_within = l.near;
        limit_above = omega (arith, limit);
        limit_within = l.limit.1;
      }

  pub rest_plan_of : IsPlanOf (plan_with held workers link) held
  rest_plan_of = record { resolution = refl; start = refl; step = refl; stop = refl; limit = refl }

  pub rest_holdable : IsHoldable system held.plan → IsHoldable system (plan_with held workers link)
  rest_holdable can = record { serializes = can.serializes; header = can.header }

-- ---- what is loaded

lacks_apart : (path : List ℕ) (flaw : Flaw) (loaded : Loaded) (held : Snapshot) → Lacks path flaw ≡ Rests loaded held → ⊥
lacks_apart path flaw loaded held e = cc

none_apart : (at : ℕ) (loaded : Loaded) (held : Snapshot) → NoCheckpoint at ≡ Rests loaded held → ⊥
none_apart at loaded held e = cc

rests_same : (one other : Loaded) (held kept : Snapshot) → Rests one held ≡ Rests other kept → one ≡ other
rests_same one other held kept e = cc

-- a system whose run goes on has a folder for each component
pub rest_folders : (q : Question) (loaded : Loaded) (held : Snapshot) (old new : FolderView) → Loads q (Rests loaded held) old new → HasFolders loaded.folders loaded.system
rest_folders q loaded held old new l = by (Rests loaded held) refl l.comes
  where
    by : (finding : Finding) → finding ≡ Rests loaded held → Comes q l.answer l.rest l.asked finding → HasFolders loaded.folders loaded.system
    by finding e (NoFile a f none asks is) = absurd (lacks_apart _ _ loaded held (sym is ∙ e))
    by finding e (LongFile n a f long far asks is) = absurd (lacks_apart _ _ loaded held (sym is ∙ e))
    by finding e (NoPlan bytes at a f read lacks asks is) = absurd (none_apart at loaded held (sym is ∙ e))
    by finding e (NoSystem bytes plan path flaw a f read has comes is) = absurd (lacks_apart path flaw loaded held (sym is ∙ e))
    by finding e (NoRest bytes plan one at a f read has comes bad is) = absurd (none_apart at loaded held (sym is ∙ e))
    by finding e (Whole bytes plan one kept a f read has comes whole is) =
        subst (λ (x : Loaded). HasFolders x.folders x.system) (rests_same one loaded kept held (sym is ∙ e)) (held_folders (search_by q.directory plan) plan l.rest a one comes)

-- ---- where nothing is loaded

lacks_same : (path told : List ℕ) (flaw other : Flaw) → Lacks path flaw ≡ Lacks told other → flaw ≡ other
lacks_same path told flaw other e = cc

absent_apart : (rule : Rule) (place : Place) (ports : List PortId) → Absent ≡ Faulty rule place ports → ⊥
absent_apart rule place ports e = cc

long_apart : (rule : Rule) (place : Place) (ports : List PortId) → Long ≡ Faulty rule place ports → ⊥
long_apart rule place ports e = cc

none_lacking : (at : ℕ) (path : List ℕ) (flaw : Flaw) → NoCheckpoint at ≡ Lacks path flaw → ⊥
none_lacking at path flaw e = cc

-- memory may run out where a file of the system that breaks a rule is told
broken_few : (q : Question) (path : List ℕ) (rule : Rule) (place : Place) (ports : List PortId) (old new : FolderView) → Loads q (Lacks path (Faulty rule place ports)) old new → ReadsFew q old new
broken_few q path rule place ports old new l = by (Lacks path (Faulty rule place ports)) refl l.comes
  where
    by : (finding : Finding) → finding ≡ Lacks path (Faulty rule place ports) → Comes q l.answer l.rest l.asked finding → ReadsFew q old new
    by finding e (NoFile a f none asks is) = absurd (absent_apart rule place ports (lacks_same _ _ _ _ (sym is ∙ e)))
    by finding e (LongFile n a f long far asks is) = absurd (long_apart rule place ports (lacks_same _ _ _ _ (sym is ∙ e)))
    by finding e (NoPlan bytes at a f read lacks asks is) = absurd (none_lacking at _ _ (sym is ∙ e))
    by finding e (NoSystem bytes plan told flaw a f read has comes is) =
        SomeFiles bytes plan l.mid
        (record {
          told = subst (λ (answer : Result (List ℕ) ReadFault). l.mid ≡ with_read old q.file answer) read.0 l.told;
          given = subst (λ (answer : Result (List ℕ) ReadFault). IfSome old.files (λ at. IsAnswerOf (at q.file) answer)) read.0 l.given;
          short = read.1;
        })
        has
        (record { reads = l.rest; asked = a; some = asks_held (search_by q.directory plan) plan l.rest a (Fails told flaw) comes; asks = l.asks })
    by finding e (NoRest bytes plan one at a f read has comes bad is) = absurd (none_lacking at _ _ (sym is ∙ e))
    by finding e (Whole bytes plan one kept a f read has comes whole is) = absurd (lacks_apart _ _ one kept (sym e ∙ is))

pub rest_end_facts : (file : NamedFile) (fault : FileFault) (o : Outcome) (q : Question) (old new : FolderView) → EndsRest q (R.File file fault) old new → TellsFile file.path fault o → LoadRestFacts o q old new
rest_end_facts file Unread o q old new f tells = subst (λ (x : Outcome). LoadRestFacts x q old new) (sym tells) f
rest_end_facts file Missing o q old new f tells = subst (λ (x : Outcome). LoadRestFacts x q old new) (sym tells) f
rest_end_facts file TooBig o q old new f tells = subst (λ (x : Outcome). LoadRestFacts x q old new) (sym tells) f
rest_end_facts file (Broken rule place ports) o q old new f (inl tells) = subst (λ (x : Outcome). LoadRestFacts x q old new) (sym tells) f
rest_end_facts file (Broken rule place ports) o q old new f (inr tells) = subst (λ (x : Outcome). LoadRestFacts x q old new) (sym tells) (broken_few q file.path rule place ports old new f)

pub memory_facts : (o : Outcome) (q : Question) (old new : FolderView) → ReadsFew q old new → o ≡ Memory → LoadRestFacts o q old new
memory_facts o q old new few is = subst (λ (x : Outcome). LoadRestFacts x q old new) (sym is) few

-- ---- a run that goes on

-- a master that was made for it binds no value but those of its system
resumed_binds : {L : Type 0} {g : _} (view : L → View) (m : Master L g) (system : System) (held : Snapshot) → IsReady view m → m.held ≡ Some held → m.experiment.system ≡ system → BindsParameters system m.experiment.bound
resumed_binds view m system held ready held_is system_is =
    let resumed : IsResumed view held m = subst (λ (h : Option Snapshot). MayRun view m h) held_is ready.begins in
    subst (λ (s : System). BindsParameters s m.experiment.bound) system_is resumed.may.ready.may.binds

pub rest_session : {L : Type 0} {g : _} (view : L → View) (laws : ResumedIsSession) (ready done : Master L g) (system : System) (held : Snapshot) (workers link : ℕ) (olds news : List View) (before after : SinkView) (end : RunEnd) →
    IsSound system → CountsBy system held.plan → ArePeersOf system olds → CanBeHeld system held → IsHoldable system held.plan → IsReady view ready → PreparesRest system (plan_with held workers link) held olds (standing view ready) →
    RunsFrom ready.held (standing view ready) (standing view done) before after end → Closes (standing view done).instances news →
    ResumedSession (account_of system ready.experiment.bound (plan_with held workers link) olds news before after (standing view done) end) held
rest_session view laws ready done system held workers link olds news before after end sound counts peers can holdable is prepared runs closes =
    laws (account_of system ready.experiment.bound (plan_with held workers link) olds news before after (standing view done) end) held (standing view ready) (standing view done) sound
    (resumed_binds view ready system held is prepared.held_is prepared.system_is) counts peers can (rest_holdable system held workers link holdable) refl prepared
    (subst (λ (h : Option Snapshot). RunsFrom h (standing view ready) (standing view done) before after end) prepared.held_is runs) closes refl
