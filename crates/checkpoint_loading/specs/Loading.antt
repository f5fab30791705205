-- What a run goes on from: the file of a checkpoint is read first, then the files of the system (FMI 3.0, 2.4; SSP 1.0, SystemStructure.ssd), with the plan that the checkpoint begins with, and then the rest of the checkpoint by that system.
use Rattle.std.specs.Prelude.{◌≡◌, ℕ, ◌<◌, ◌≤◌, ◌^◌, List, [], IfSome, Result, Ok, Err, length}
use Rattle.sim_base.specs.Asking.{Asks, IsAnswerOf}
use Rattle.sim_base.specs.Folder.{FolderView, with_read}
use Rattle.sim_base.specs.declared.folder.ReadFault.{ReadFault}
use Rattle.sim_base.specs.declared.folder.ReadFault.TheVariants as r
use Rattle.sim_base.specs.declared.read_book.ReadNote.{ReadNote}
use Rattle.system_model.specs.declared.plan.Plan.{Plan}
use Rattle.system_model.specs.declared.system.System.{System}
use Rattle.system_model.specs.Text.{header_text}
use Rattle.system_loading.specs.Assembly.{HaveSameParts}
use Rattle.system_files.specs.declared.loaded.Loaded.{Loaded}
use Rattle.system_files.specs.declared.named.FileFault.TheVariants.{Unread, Missing, TooBig, Broken}
use Rattle.system_files.specs.Files.{Absent, AreSteady, Faulty, Flaw, Long}
use Rattle.system_files.specs.Holding.{ComesHeld, LoadsHeld, search_by}
use Rattle.system_files.specs.Loads.{FailsToRead, ReadsSome}
use Rattle.system_files.specs.Order.{AreAlike, Fails, Found}
use Rattle.system_checkpoint.specs.declared.snapshot.Snapshot.{Snapshot}
use Rattle.system_checkpoint.specs.First.{HasNone, HasPlan}
use Rattle.system_checkpoint.specs.Whole.{Checkpoint, IsBad}
use Rattle.checkpoint_loading.specs.declared.rest.RestEnd.{RestEnd}
use Rattle.checkpoint_loading.specs.declared.rest.RestEnd.TheVariants as end

-- the directory of the system, and the path of the checkpoint's file
pub record Question : Type 0 where
  pub directory : List ℕ
  pub file : List ℕ

-- the most bytes of a checkpoint's file: 512 MiB
abbrev pub checkpoint_max : ℕ
checkpoint_max = 2 ^ 29

-- the header that a trace of the system has by the plan
abbrev pub header_by : System → Plan → List ℕ
header_by system plan = header_text system plan.resolution plan.start plan.stop

-- the read of the checkpoint got these bytes
abbrev pub IsRead : Result (List ℕ) ReadFault → List ℕ → Type 0
IsRead answer bytes = (answer ≡ Ok bytes) × (length bytes ≤ checkpoint_max)

-- ---- what it comes to

-- a file that isn't taken; or no checkpoint of the system, which this byte of the file shows, or its length; or a system and what is kept of its run
pub data Finding : Type 0 where
  Lacks : List ℕ → Flaw → Finding
  NoCheckpoint : ℕ → Finding
  Rests : Loaded → Snapshot → Finding

-- by what the read of the checkpoint got and those of the system's files, these of the system are asked for, and it comes to this
pub data Comes (q : Question) (answer : Result (List ℕ) ReadFault) (rest : List ReadNote) : List
    (List ℕ) → Finding → Type 0 where
  -- there is no file of the checkpoint
  NoFile : (asked : List (List ℕ)) (finding : Finding) → answer ≡ Err r.Missing → asked ≡ [] →
      finding ≡ Lacks q.file Absent → Comes q answer rest asked finding
  -- it is too long
  LongFile : (n : ℕ) (asked : List (List ℕ)) (finding : Finding) → answer ≡ Err (r.TooBig n) →
      checkpoint_max < n → asked ≡ [] → finding ≡ Lacks q.file Long →
      Comes q answer rest asked finding
  -- it begins with no plan
  NoPlan : (bytes : List ℕ) (at : ℕ) (asked : List (List ℕ)) (finding : Finding) →
      IsRead answer bytes → HasNone bytes at → asked ≡ [] → finding ≡ NoCheckpoint at →
      Comes q answer rest asked finding
  -- a file of the system isn't taken, or its run can't be held
  NoSystem : (bytes : List ℕ) (plan : Plan) (path : List ℕ) (flaw : Flaw) (asked : List (List ℕ))
      (finding : Finding) → IsRead answer bytes → HasPlan bytes plan →
      ComesHeld (search_by q.directory plan) plan rest asked (Fails path flaw) →
      finding ≡ Lacks path flaw → Comes q answer rest asked finding
  -- it is no checkpoint of that system
  NoRest : (bytes : List ℕ) (plan : Plan) (loaded : Loaded) (at : ℕ) (asked : List (List ℕ))
      (finding : Finding) → IsRead answer bytes → HasPlan bytes plan →
      ComesHeld (search_by q.directory plan) plan rest asked (Found loaded) →
      IsBad loaded.system (header_by loaded.system plan) bytes at →
      finding ≡ NoCheckpoint at → Comes q answer rest asked finding
  -- it is one, and keeps this
  Whole : (bytes : List ℕ) (plan : Plan) (loaded : Loaded) (held : Snapshot)
      (asked : List (List ℕ)) (finding : Finding) → IsRead answer bytes → HasPlan bytes plan →
      ComesHeld (search_by q.directory plan) plan rest asked (Found loaded) →
      Checkpoint loaded.system (header_by loaded.system plan) held bytes →
      finding ≡ Rests loaded held → Comes q answer rest asked finding

-- ---- in one way

-- the same file with the same flaw, of a loop with any of its ports; the same byte; or the same system but for the orders of its ports, with the same values of parameters, and the same of its run
abbrev pub Agree : Finding → Finding → Type 0
Agree (Lacks path flaw) (Lacks other another) = (path ≡ other) × AreAlike flaw another
Agree (NoCheckpoint at) (NoCheckpoint other) = at ≡ other
Agree (Rests one held) (Rests other kept) =
    (HaveSameParts one.system other.system × (one.bound ≡ other.bound) ×
    (one.folders ≡ other.folders)) × (held ≡ kept)
Agree _ _ = ⊥

-- the checkpoint was read, and then these files of the system, no read failed, and it comes to this; and where no file of the system was read with two answers, to nothing else
pub record Loads (q : Question) (finding : Finding) (old new : FolderView) : Type 0 where
  pub answer : Result (List ℕ) ReadFault
  pub mid : FolderView
  pub told : mid ≡ with_read old q.file answer
  pub given : IfSome old.files (λ at. IsAnswerOf (at q.file) answer)
  pub rest : List ReadNote
  pub asked : List (List ℕ)
  pub comes : Comes q answer rest asked finding
  pub only : AreSteady rest → (others : List (List ℕ)) (other : Finding) →
      Comes q answer rest others other → (asked ≡ others) × Agree finding other
  pub asks : Asks rest asked mid new

-- ---- where it comes to nothing

-- the read of the checkpoint got these bytes
pub record TakesBytes (q : Question) (bytes : List ℕ) (old new : FolderView) : Type 0 where
  pub told : new ≡ with_read old q.file (Ok bytes)
  pub given : IfSome old.files (λ at. IsAnswerOf (at q.file) (Ok bytes))
  pub short : length bytes ≤ checkpoint_max

-- the read of the checkpoint failed, or that of a file of the system
pub data FailsReading (q : Question) (path : List ℕ) (old new : FolderView) : Type 0 where
  OfCheckpoint : path ≡ q.file → new ≡ with_read old path (Err r.Failed) →
      FailsReading q path old new
  OfSystem : (bytes : List ℕ) (plan : Plan) (mid : FolderView) → TakesBytes q bytes old mid →
      HasPlan bytes plan → FailsToRead (search_by q.directory plan) path mid new →
      FailsReading q path old new

-- memory ran out: no file was read, or the checkpoint alone, or with it some files of the system or all, and no read failed
pub data ReadsFew (q : Question) (old new : FolderView) : Type 0 where
  Nothing : new ≡ old → ReadsFew q old new
  Unkept : new ≡ with_read old q.file (Err r.Memory) → ReadsFew q old new
  TheCheckpoint : (bytes : List ℕ) → TakesBytes q bytes old new → ReadsFew q old new
  SomeFiles : (bytes : List ℕ) (plan : Plan) (mid : FolderView) → TakesBytes q bytes old mid →
      HasPlan bytes plan → ReadsSome (search_by q.directory plan) mid new → ReadsFew q old new
  AllFiles : (bytes : List ℕ) (plan : Plan) (loaded : Loaded) (mid : FolderView) →
      TakesBytes q bytes old mid → HasPlan bytes plan →
      LoadsHeld (search_by q.directory plan) plan (Found loaded) mid new → ReadsFew q old new

-- why there is nothing to go on from
abbrev pub EndsRest : Question → RestEnd → FolderView → FolderView → Type 0
EndsRest q (end.File file Unread) old new = FailsReading q file.path old new
EndsRest q (end.File file Missing) old new = Loads q (Lacks file.path Absent) old new
EndsRest q (end.File file TooBig) old new = Loads q (Lacks file.path Long) old new
EndsRest q (end.File file (Broken rule place ports)) old new =
    Loads q (Lacks file.path (Faulty rule place ports)) old new
EndsRest q (end.NoCheckpoint file at) old new =
    (file.path ≡ q.file) × Loads q (NoCheckpoint at) old new
EndsRest q end.Memory old new = ReadsFew q old new
