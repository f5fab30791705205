-- What a run, a checkpoint and a resume come to where no put failed, for those who can't name an outcome.
use Rattle.std.proofs.Common.{◌≡◌, ◌≢◌, inl, inr, ℕ, List, Option, Some, None, refl, ap, ◌∙◌}
use Rattle.sim_base.specs.Sink.{SinkView}
use Rattle.fmu_peer.specs.Answer.{IsLink}
use Rattle.fmu_peer.specs.declared.ended.Why.{Why}
use Rattle.fmu_peer.specs.declared.ended.Why.TheVariants.{Link, Misreply, Refused}
use Rattle.system_checkpoint.specs.declared.snapshot.Snapshot.{Snapshot}
use Rattle.calling_sequence.specs.declared.run_end.RunEnd.{RunEnd}
use Rattle.calling_sequence.specs.declared.run_end.RunEnd.TheVariants as E
use Rattle.command_line.specs.Line.{CheckpointLine, ResumeLine}
use Rattle.system_files.specs.declared.loaded.Loaded.{Loaded}
use Rattle.system_files.specs.declared.named.FileFault.TheVariants.{Broken, Missing, TooBig, Unread}
use Rattle.system_files.specs.Files.{Absent, Faulty, Flaw, Long}
use Rattle.system_files.specs.Holding.{LoadsHeld}
use Rattle.system_files.specs.Loads.{FailsToRead}
use Rattle.system_files.specs.Order.{Fails, Found}
use Rattle.checkpoint_loading.specs.Loading.{FailsReading, Lacks, Loads, NoCheckpoint, Rests}
use Rattle.run_program.specs.declared.outcome.End.{End}
use Rattle.run_program.specs.declared.outcome.Outcome.{Outcome}
use Rattle.run_program.specs.declared.outcome.Outcome.TheVariants.{Checked, File, Memory, Ran, Start, Untold, Words}
use Rattle.run_program.specs.Facts.{Calm, task_of}
use Rattle.run_program.specs.Happened.{Happened, Scene}
use Rattle.run_program.specs.Held.{CheckpointFacts, HasGoneOn, HasHeld, HoldFacts, LoadHeldFacts, LoadRestFacts, NoneThere, NothingHeld, OfHeld, OfSystem, RestFacts, Resumed, ResumeFacts, RunsCheckpoint, RunsResume, Unloaded, question_of, rest_of, search_for}
use Rattle.run_program.specs.Message.{Reports, end_message, end_status, message, status_of, why_status}
use Rattle.run_program.specs.Rows.{ReportsEnd}
use Rattle.run_program.specs.Runs.{IsEndOf, Names, names_of}

-- ---- statuses

-- the status of a run's end
abbrev pub end_code : RunEnd → ℕ
end_code E.Stop = 0
end_code (E.Asked point) = 0
end_code (E.EventLimit point) = 8
end_code (E.FixedStep component at end) = 9
end_code (E.Range lost at) = 13
end_code (E.Bad bad) = why_status bad.why
end_code (E.Held point) = 0
end_code E.WriteFault = 10

told_code : (names : Names) (end : RunEnd) (told : End) → IsEndOf names end told → end_status told ≡ end_code end
told_code names E.Stop told is = ap end_status is
told_code names (E.Asked point) told is = ap end_status is
told_code names (E.EventLimit point) told is = ap end_status is
told_code names (E.FixedStep component at end) told is = ap end_status is.2
told_code names (E.Range lost at) told is = ap end_status is.2.2
told_code names (E.Bad bad) told is = ap end_status is.2
told_code names (E.Held point) told is = ap end_status is
told_code names E.WriteFault told is = ap end_status is

-- a call that was lost
pub link_code : (why : Why) → IsLink why → why_status why ≡ 5
link_code (Refused call status) h = absurd h
link_code (Misreply call reply) h = absurd h
link_code (Link call fault) h = refl

-- where no put failed the status is the one that is wanted
status_is : (line : Option (List ℕ)) (wanted status : ℕ) (old new : SinkView) → status ≢ 10 → Reports line wanted status old new → status ≡ wanted
status_is None wanted status old new never told = told.0
status_is (Some text) wanted status old new never (inl told) = told.0
status_is (Some text) wanted status old new never (inr cut) = absurd (never cut.0)

pub ended_code : (h : Happened) (names : Names) (end : RunEnd) → h.status ≢ 10 → ReportsEnd h names end → h.status ≡ end_code end
ended_code h names end never told = status_is (end_message told.0) (end_status told.0) h.status h.err h.err_after never told.2 ∙ told_code names end told.0 told.1

outcome_code : (o : Outcome) (h : Happened) → h.status ≢ 10 → Reports (message o) (status_of o) h.status h.err h.err_after → h.status ≡ status_of o
outcome_code o h never told = status_is (message o) (status_of o) h.status h.err h.err_after never told

-- ---- a checkpoint

pub data HoldsIn (h : Happened) (line : CheckpointLine) : Type 0 where
  OutOfMemory : h.status ≡ 11 → h.new.run.out ≡ h.old.run.out → HoldsIn h line
  NotStarted : h.status ≡ 5 → HoldsIn h line
  UnreadFile : (path : List ℕ) → FailsToRead (search_for line) path h.old.folder h.new.folder → HoldsIn h line
  NoSystem : (path : List ℕ) (flaw : Flaw) → LoadsHeld (search_for line) line.run.plan (Fails path flaw) h.old.folder h.new.folder → HoldsIn h line
  Ended : (loaded : Loaded) → LoadsHeld (search_for line) line.run.plan (Found loaded) h.old.folder h.new.folder → (end : RunEnd) → h.status ≡ end_code end →
      HasHeld (task_of line.run loaded) loaded.system line.at end h.old.run h.new.run → HoldsIn h line

unloaded : (o : Outcome) (h : Happened) (line : CheckpointLine) → h.status ≡ status_of o → Calm h.old.run h.new.run → LoadHeldFacts o (search_for line) line.run.plan h.old.folder h.new.folder → HoldsIn h line
unloaded Words h line e calm f = absurd f
unloaded Memory h line e calm f = OutOfMemory e (ap (λ (s : Scene). s.out) calm)
unloaded (File path Unread) h line e calm f = UnreadFile path f
unloaded (File path Missing) h line e calm f = NoSystem path Absent f
unloaded (File path TooBig) h line e calm f = NoSystem path Long f
unloaded (File path (Broken rule place ports)) h line e calm f = NoSystem path (Faulty rule place ports) f
unloaded (Start name fault) h line e calm f = absurd f
unloaded (Ran end) h line e calm f = absurd f
unloaded Checked h line e calm f = absurd f
unloaded Untold h line e calm f = absurd f

holds : (o : Outcome) (h : Happened) (line : CheckpointLine) (loaded : Loaded) → LoadsHeld (search_for line) line.run.plan (Found loaded) h.old.folder h.new.folder → h.status ≡ status_of o → HoldFacts o (task_of line.run loaded) loaded.system line.at h.old.run h.new.run → HoldsIn h line
holds Words h line loaded l e f = absurd f
holds Memory h line loaded l e f = OutOfMemory e f.out
holds (File path fault) h line loaded l e f = absurd f
holds (Start name fault) h line loaded l e f = NotStarted e
holds (Ran end) h line loaded l e f = Ended loaded l f.0 (e ∙ told_code (names_of loaded.system) f.0 end f.1) f.2
holds Checked h line loaded l e f = absurd f
holds Untold h line loaded l e f = absurd f

pub holds_in : (h : Happened) (line : CheckpointLine) → h.status ≢ 10 → RunsCheckpoint h line → HoldsIn h line
holds_in h line never c = by c.facts
  where
    by : CheckpointFacts c.outcome line h.old h.new → HoldsIn h line
    by (Unloaded calm f) = unloaded c.outcome h line (outcome_code c.outcome h never c.told) calm f
    by (OfSystem loaded l f) = holds c.outcome h line loaded l (outcome_code c.outcome h never c.told) f

-- ---- a resume

pub data GoesOnIn (h : Happened) (line : ResumeLine) : Type 0 where
  RestOutOfMemory : h.status ≡ 11 → h.new.run.out ≡ h.old.run.out → GoesOnIn h line
  RestNotStarted : h.status ≡ 5 → GoesOnIn h line
  UnreadRest : (path : List ℕ) → FailsReading (question_of line) path h.old.folder h.new.folder → GoesOnIn h line
  NoRest : (path : List ℕ) (flaw : Flaw) → Loads (question_of line) (Lacks path flaw) h.old.folder h.new.folder → GoesOnIn h line
  NoRestThere : (at : ℕ) → Loads (question_of line) (NoCheckpoint at) h.old.folder h.new.folder → GoesOnIn h line
  RestEnded : (loaded : Loaded) (held : Snapshot) → Loads (question_of line) (Rests loaded held) h.old.folder h.new.folder → (end : RunEnd) → h.status ≡ end_code end →
      HasGoneOn (rest_of line loaded held) loaded.system held end h.old.run h.new.run → GoesOnIn h line

nothing_held : (o : Outcome) (h : Happened) (line : ResumeLine) → h.status ≡ status_of o → Calm h.old.run h.new.run → LoadRestFacts o (question_of line) h.old.folder h.new.folder → GoesOnIn h line
nothing_held Words h line e calm f = absurd f
nothing_held Memory h line e calm f = RestOutOfMemory e (ap (λ (s : Scene). s.out) calm)
nothing_held (File path Unread) h line e calm f = UnreadRest path f
nothing_held (File path Missing) h line e calm f = NoRest path Absent f
nothing_held (File path TooBig) h line e calm f = NoRest path Long f
nothing_held (File path (Broken rule place ports)) h line e calm f = NoRest path (Faulty rule place ports) f
nothing_held (Start name fault) h line e calm f = absurd f
nothing_held (Ran end) h line e calm f = absurd f
nothing_held Checked h line e calm f = absurd f
nothing_held Untold h line e calm f = absurd f

goes_on : (o : Outcome) (h : Happened) (line : ResumeLine) (loaded : Loaded) (held : Snapshot) → Loads (question_of line) (Rests loaded held) h.old.folder h.new.folder → h.status ≡ status_of o → RestFacts o (rest_of line loaded held) loaded.system held h.old.run h.new.run → GoesOnIn h line
goes_on Words h line loaded held l e f = absurd f
goes_on Memory h line loaded held l e f = RestOutOfMemory e f.out
goes_on (File path fault) h line loaded held l e f = absurd f
goes_on (Start name fault) h line loaded held l e f = RestNotStarted e
goes_on (Ran end) h line loaded held l e f = RestEnded loaded held l f.0 (e ∙ told_code (names_of loaded.system) f.0 end f.1) f.2
goes_on Checked h line loaded held l e f = absurd f
goes_on Untold h line loaded held l e f = absurd f

pub goes_on_in : (h : Happened) (line : ResumeLine) → h.status ≢ 10 → RunsResume h line → GoesOnIn h line
goes_on_in h line never (NoneThere at calm l told) = NoRestThere at l
goes_on_in h line never (Resumed o f told) = by f
  where
    by : ResumeFacts o line h.old h.new → GoesOnIn h line
    by (NothingHeld calm f) = nothing_held o h line (outcome_code o h never told) calm f
    by (OfHeld loaded held l f) = goes_on o h line loaded held l (outcome_code o h never told) f
