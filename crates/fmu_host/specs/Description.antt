-- What the read of an FMU's description comes to (FMI 3.0, 2.4 and 2.5.1).
use Rattle.std.specs.Prelude.{◌≡◌, ◌⊎◌, ℕ, ◌^◌, ◌<◌, ◌≤◌, List, ◌++◌, length, IfSome, Result, Ok, Err, codes}
use Rattle.sim_base.specs.Asking.{IsAnswerOf}
use Rattle.sim_base.specs.Folder.{FolderView, with_read}
use Rattle.sim_base.specs.declared.folder.ReadFault.{ReadFault}
use Rattle.sim_base.specs.declared.folder.ReadFault.TheVariants as r
use Rattle.value_types.specs.declared.shape.Shape.{Shape}
use Rattle.doc_tree.specs.declared.place.Place.{Place}
use Rattle.doc_tree.specs.declared.rule.Rule.{Rule}
use Rattle.system_loading.specs.Readings.{BreaksAlone, BreaksModel, IsModel, SaysAlone}
use Rattle.system_loading.specs.declared.fault.Fault.{Fault}
use Rattle.system_loading.specs.declared.fault.Fault.TheVariants as f
use Rattle.fmu_host.specs.Line.{Line}
use Rattle.fmu_host.specs.declared.hosting.HostEnd.{HostEnd}
use Rattle.fmu_host.specs.declared.hosting.HostEnd.TheVariants.{NoWords, Unread, Missing, TooBig, Broken, Unknown, Served, Memory}

-- where the description stands in the directory of its FMU (FMI 3.0, 2.5.1)
abbrev pub path_of : Line → List ℕ
path_of line = line.directory ++ codes "/modelDescription.xml"

-- it was read, once and nothing else, with this answer; which is of the file there, where the folder tells its files
pub record Reads (line : Line) (answer : Result (List ℕ) ReadFault) (old new : FolderView) : Type 0 where
  pub told : new ≡ with_read old (path_of line) answer
  pub given : IfSome old.files (λ at. IsAnswerOf (at (path_of line)) answer)

-- it was read, or nothing was
abbrev pub MayRead : Line → FolderView → FolderView → Type 0
MayRead line old new =
    ((answer : Result (List ℕ) ReadFault) × Reads line answer old new) ⊎ (new ≡ old)

-- bytes were read, of which there are 16 MiB at most
pub record ReadsBytes (line : Line) (bytes : List ℕ) (old new : FolderView) : Type 0 where
  pub reads : Reads line (Ok bytes) old new
  pub within : length bytes ≤ 2 ^ 24

-- a description of this shape was read
pub record IsRead (line : Line) (shape : Shape) (old new : FolderView) : Type 0 where
  pub bytes : List ℕ
  pub got : ReadsBytes line bytes old new
  pub says : SaysAlone (IsModel line.resolution bytes) (BreaksModel line.resolution bytes) shape

-- a file was read that breaks a rule, this one first and at this place
pub record ReadsBroken (line : Line) (old new : FolderView) : Type 0 where
  pub bytes : List ℕ
  pub rule : Rule
  pub place : Place
  pub got : ReadsBytes line bytes old new
  pub breaks : BreaksAlone (IsModel line.resolution bytes)
      (BreaksModel line.resolution bytes) rule place

-- a file was found that is longer
abbrev pub ReadsLong : Line → FolderView → FolderView → Type 0
ReadsLong line old new = (n : ℕ) × (2 ^ 24 < n) × Reads line (Err (r.TooBig n)) old new

-- why none was read
abbrev pub LacksShape : HostEnd → Line → FolderView → FolderView → Type 0
LacksShape NoWords line old new = ⊥
LacksShape Unread line old new = Reads line (Err r.Failed) old new
LacksShape Missing line old new = Reads line (Err r.Missing) old new
LacksShape TooBig line old new = ReadsLong line old new
LacksShape Broken line old new = ReadsBroken line old new
LacksShape Unknown line old new = ⊥
LacksShape (Served end) line old new = ⊥
LacksShape Memory line old new = MayRead line old new

-- the end at a description that wasn't read
abbrev pub unread_end : ReadFault → HostEnd
unread_end r.Failed = Unread
unread_end r.Missing = Missing
unread_end (r.TooBig length) = TooBig
unread_end r.Memory = Memory

-- the end at one that was read and gives no shape
abbrev pub refused_end : Fault → HostEnd
refused_end (f.Broken rule place) = Broken
refused_end f.Memory = Memory
