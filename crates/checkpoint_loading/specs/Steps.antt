-- What is known once the file of the checkpoint is read.
use Rattle.std.specs.Prelude.{◌≡◌, ◌⊎◌, ℕ, ◌<◌, List, IfSome, Result, Err}
use Rattle.sim_base.specs.Asking.{IsAnswerOf}
use Rattle.sim_base.specs.Folder.{FolderView, with_read}
use Rattle.sim_base.specs.declared.folder.ReadFault.{ReadFault}
use Rattle.sim_base.specs.declared.folder.ReadFault.TheVariants as r
use Rattle.system_model.specs.declared.plan.Plan.{Plan}
use Rattle.system_files.specs.declared.loaded.Loaded.{Loaded}
use Rattle.system_files.specs.declared.loading.LoadError.{LoadError}
use Rattle.system_files.specs.declared.loading.LoadError.TheVariants as load
use Rattle.system_files.specs.declared.named.NamedFile.{NamedFile}
use Rattle.system_files.specs.declared.named.FileFault.{FileFault}
use Rattle.system_files.specs.declared.named.FileFault.TheVariants.{Unread, Missing, TooBig, Broken}
use Rattle.system_files.specs.Holding.{EndsHeld, LoadsHeld, search_by}
use Rattle.system_files.specs.Order.{Found}
use Rattle.system_checkpoint.specs.declared.snapshot.CheckpointFault.{CheckpointFault}
use Rattle.system_checkpoint.specs.declared.snapshot.CheckpointFault.TheVariants as F
use Rattle.system_checkpoint.specs.Whole.{Checkpoint, IsBad}
use Rattle.checkpoint_loading.specs.declared.rest.RestEnd.{RestEnd}
use Rattle.checkpoint_loading.specs.declared.rest.RestEnd.TheVariants as end
use Rattle.checkpoint_loading.specs.declared.rest.HeldRun.{HeldRun}
use Rattle.checkpoint_loading.specs.Loading.{Question, checkpoint_max, header_by}

-- the read of the checkpoint was answered so, and the folder tells it
pub record Reads (q : Question) (answer : Result (List ℕ) ReadFault) (old new : FolderView) : Type 0 where
  pub told : new ≡ with_read old q.file answer
  pub given : IfSome old.files (λ at. IsAnswerOf (at q.file) answer)

-- why its bytes weren't got
abbrev pub FaultAt : Question → FileFault → FolderView → FolderView → Type 0
FaultAt q Unread old new = new ≡ with_read old q.file (Err r.Failed)
FaultAt q Missing old new = Reads q (Err r.Missing) old new
FaultAt q TooBig old new = (n : ℕ) × (checkpoint_max < n) × Reads q (Err (r.TooBig n)) old new
FaultAt q (Broken rule place ports) old new = ⊥

abbrev pub LacksBytes : Question → RestEnd → FolderView → FolderView → Type 0
LacksBytes q (end.File file fault) old new = (file.path ≡ q.file) × FaultAt q fault old new
LacksBytes q (end.NoCheckpoint file at) old new = ⊥
LacksBytes q end.Memory old new = (new ≡ with_read old q.file (Err r.Memory)) ⊎ (new ≡ old)

-- the end at a file that wasn't answered
abbrev pub unread_end : NamedFile → ReadFault → RestEnd
unread_end file r.Failed = end.File file Unread
unread_end file r.Missing = end.File file Missing
unread_end file (r.TooBig n) = end.File file TooBig
unread_end file r.Memory = end.Memory

-- the end at the files of the system
abbrev pub end_of : LoadError → RestEnd
end_of (load.File file fault) = end.File file fault
end_of load.Memory = end.Memory

-- the files of the system were read, and with it the bytes are the checkpoint of this run
pub record TakesRest (directory : List ℕ) (plan : Plan) (bytes : List ℕ) (run : HeldRun)
    (old new : FolderView) : Type 0 where
  pub loads : LoadsHeld (search_by directory plan) plan (Found run.loaded) old new
  pub is : Checkpoint run.loaded.system (header_by run.loaded.system plan) run.held bytes

-- the end at a file that holds no checkpoint
abbrev pub end_at : NamedFile → CheckpointFault → RestEnd
end_at file (F.Bad at) = end.NoCheckpoint file at
end_at file F.Memory = end.Memory

-- no system is loaded, or the bytes are no checkpoint of it, which this byte shows, or memory runs out
pub data EndsSystem (directory : List ℕ) (plan : Plan) (bytes path : List ℕ) (ended : RestEnd)
    (old new : FolderView) : Type 0 where
  Unloaded : (load : LoadError) → EndsHeld (search_by directory plan) plan load old new →
      ended ≡ end_of load → EndsSystem directory plan bytes path ended old new
  NoRestThere : (loaded : Loaded) (file : NamedFile) (at : ℕ) →
      LoadsHeld (search_by directory plan) plan (Found loaded) old new →
      IsBad loaded.system (header_by loaded.system plan) bytes at →
      file.path ≡ path → ended ≡ end.NoCheckpoint file at →
      EndsSystem directory plan bytes path ended old new
  AfterSystem : (loaded : Loaded) →
      LoadsHeld (search_by directory plan) plan (Found loaded) old new → ended ≡ end.Memory →
      EndsSystem directory plan bytes path ended old new
