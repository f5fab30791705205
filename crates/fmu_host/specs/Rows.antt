-- When each status comes. An `exact` row speaks of what the read of the description got, and holds unless memory runs out.
use Rattle.std.specs.Prelude.{◌≡◌, ◌⊎◌, ℕ, ◌-◌, ◌^◌, ◌<◌, ◌≤◌, List, Some, None, Result, Ok, Err}
use Rattle.sim_base.specs.Causes.{Rose}
use Rattle.sim_base.specs.Folder.{with_read}
use Rattle.sim_base.specs.declared.folder.ReadFault.{ReadFault}
use Rattle.sim_base.specs.declared.folder.ReadFault.TheVariants as r
use Rattle.value_types.specs.declared.shape.Shape.{Shape}
use Rattle.doc_tree.specs.declared.place.Place.{Place}
use Rattle.doc_tree.specs.declared.rule.Rule.{Rule}
use Rattle.system_loading.specs.Readings.{BreaksModel, IsModel}
use Rattle.fmi_calls.specs.Next.{fresh}
use Rattle.fmi_calls.specs.declared.call.Call.{Call}
use Rattle.bench_fmus.specs.BuiltIn.{first_state, machine_of}
use Rattle.bench_fmus.specs.declared.model.Model.{Model}
use Rattle.bench_fmus.specs.Models.{behaviour_of, model_named}
use Rattle.host_serving.specs.declared.serving.ServeEnd.{ServeEnd}
use Rattle.host_serving.specs.declared.serving.ServeEnd.TheVariants as E
use Rattle.host_serving.specs.Told.{Comes, with_pieces}
use Rattle.fmu_host.specs.Description.{IsRead, MayRead, Reads, ReadsBroken, ReadsLong, path_of}
use Rattle.fmu_host.specs.Facts.{ServesShape}
use Rattle.fmu_host.specs.Happened.{Happened}
use Rattle.fmu_host.specs.Line.{IsLine, IsNoLine, Line}

-- the arguments are a command line, and this holds of it
abbrev pub OnLine : Happened → (Line → Type 0) → Type 0
OnLine h P = (line : Line) × IsLine h.words line × P line

-- this status, or out of memory
abbrev pub OrMemory : Happened → ℕ → Type 0
OrMemory h status = (h.status ≡ status) ⊎ (h.status ≡ 11)

-- no call was taken, and no reply put
abbrev pub IsUnserved : Happened → Type 0
IsUnserved h = h.new.link ≡ h.old.link

-- ---- what the folder tells

-- the arguments are this command line, and the folder tells one read more, that of the description, with this answer
pub record Tells (h : Happened) (line : Line) (answer : Result (List ℕ) ReadFault) : Type 0 where
  pub is : IsLine h.words line
  pub told : h.new.folder ≡ with_read h.old.folder (path_of line) answer

-- it is a description of this shape
pub record TellsShape (h : Happened) (line : Line) (shape : Shape) : Type 0 where
  pub bytes : List ℕ
  pub tells : Tells h line (Ok bytes)
  pub is : IsModel line.resolution bytes shape

-- ---- what the input tells

-- the count of the input rose, or that of the output
abbrev pub LosesLink : Happened → Type 0
LosesLink h =
    Rose h.old.link.input.faults h.new.link.input.faults ⊎
    Rose h.old.link.output.faults h.new.link.output.faults

-- the shape names a machine, and the input tells its bytes: in the machine's first state they come to these pieces, for so many calls, fewer than are counted, and to this end. No count rose
pub record TellsCalls (h : Happened) (shape : Shape) (pieces : List (List ℕ)) (count : ℕ)
    (end : ServeEnd) : Type 0 where
  pub model : Model
  pub named : model_named shape.identifier ≡ Some model
  pub bytes : List ℕ
  pub told : h.old.link.input.left ≡ Some bytes
  pub come : Comes shape (machine_of (behaviour_of model) shape) (fresh shape)
      (first_state shape.variables) bytes pieces count end
  pub few : count < 2 ^ 64 - 1
  pub calm : LosesLink h → ⊥

-- the status of each end
abbrev pub serve_status : ServeEnd → ℕ
serve_status E.Freed = 0
serve_status E.Ended = 0
serve_status (E.BadFrame at) = 1
serve_status (E.NotPermitted call) = 6
serve_status E.Failed = 10
serve_status E.TooMany = 9
serve_status E.Memory = 11

-- these pieces were put, and the status is that of this end
pub record Answers (h : Happened) (pieces : List (List ℕ)) (end : ServeEnd) : Type 0 where
  pub output : h.new.link.output ≡ with_pieces h.old.link.output pieces
  pub status : h.status ≡ serve_status end

-- ---- the statuses

-- the shape was read, and the machine that it names was served to such an end
pub record Ends (h : Happened) (P : ServeEnd → Type 0) (line : Line) : Type 0 where
  pub shape : Shape
  pub read : IsRead line shape h.old.folder h.new.folder
  pub end : ServeEnd
  pub so : P end
  pub serves : ServesShape end shape h.old.link h.new.link

-- between two frames, or after FreeInstance
abbrev pub IsDone : ServeEnd → Type 0
IsDone end = (end ≡ E.Freed) ⊎ (end ≡ E.Ended)

-- at bytes that are no frame
abbrev pub IsBadFrame : ServeEnd → Type 0
IsBadFrame end = (at : ℕ) × (end ≡ E.BadFrame at)

-- at a call that isn't permitted
abbrev pub IsUnpermitted : ServeEnd → Type 0
IsUnpermitted end = (call : Call) × (end ≡ E.NotPermitted call)

-- 2: exactly where the arguments are no command line; then nothing is done
pub record WordsRow (h : Happened) : Type 0 where
  pub when : h.status ≡ 2 → IsNoLine h.words × (h.new ≡ h.old)
  pub exact : IsNoLine h.words → OrMemory h 2

-- 3: exactly where the read failed, or there is no description, or it is longer than 16 MiB
pub data LacksFile (h : Happened) (line : Line) : Type 0 where
  ByFault : Reads line (Err r.Failed) h.old.folder h.new.folder →
      Rose h.old.folder.faults h.new.folder.faults → LacksFile h line
  ByAbsence : Reads line (Err r.Missing) h.old.folder h.new.folder → LacksFile h line
  ByLength : ReadsLong line h.old.folder h.new.folder → LacksFile h line

pub record FileRow (h : Happened) : Type 0 where
  pub when : h.status ≡ 3 → OnLine h (LacksFile h) × IsUnserved h
  pub failed : (line : Line) → Tells h line (Err r.Failed) → OrMemory h 3
  pub missing : (line : Line) → Tells h line (Err r.Missing) → OrMemory h 3
  pub big : (line : Line) (n : ℕ) → Tells h line (Err (r.TooBig n)) → OrMemory h 3

-- 4: exactly where the description breaks a rule
pub record RuleRow (h : Happened) : Type 0 where
  pub when : h.status ≡ 4 →
      OnLine h (λ line. ReadsBroken line h.old.folder h.new.folder) × IsUnserved h
  pub exact : (line : Line) (bytes : List ℕ) (rule : Rule) (place : Place) →
      Tells h line (Ok bytes) → BreaksModel line.resolution bytes rule place → OrMemory h 4

-- 5: exactly where the description names no built-in machine
pub record UnknownRow (h : Happened) : Type 0 where
  pub when : h.status ≡ 5 →
      OnLine h (λ line. (shape : Shape) × IsRead line shape h.old.folder h.new.folder ×
      (model_named shape.identifier ≡ None)) × IsUnserved h
  pub exact : (line : Line) (shape : Shape) → TellsShape h line shape →
      model_named shape.identifier ≡ None → OrMemory h 5

-- 0, 1, 6, 9 and 10: the machine that the description names was served, and this is how that ended; at 10 a count rose. Where none rises, what the input tells decides: 0 exactly where the permitted calls end with it or with FreeInstance, 1 at bytes that are no frame, 6 at a call that isn't permitted; and the output gets the frames of the machine's replies, alone or in batches, those and no others
pub record ServedRow (h : Happened) : Type 0 where
  pub done : h.status ≡ 0 → OnLine h (Ends h IsDone)
  pub bad : h.status ≡ 1 → OnLine h (Ends h IsBadFrame)
  pub unpermitted : h.status ≡ 6 → OnLine h (Ends h IsUnpermitted)
  pub many : h.status ≡ 9 → OnLine h (Ends h (λ end. end ≡ E.TooMany))
  pub failed : h.status ≡ 10 → OnLine h (Ends h (λ end. end ≡ E.Failed)) × LosesLink h
  pub exact : (line : Line) (shape : Shape) (model : Model) → TellsShape h line shape →
      model_named shape.identifier ≡ Some model →
      (h.status ≡ 11) ⊎ ((end : ServeEnd) × (h.status ≡ serve_status end) ×
      ServesShape end shape h.old.link h.new.link)
  pub told : (line : Line) (shape : Shape) (pieces : List (List ℕ)) (count : ℕ)
      (end : ServeEnd) → TellsShape h line shape → TellsCalls h shape pieces count end →
      Answers h pieces end ⊎ (h.status ≡ 11)

-- memory ran out: before a call was taken, when the description was read or not yet; or after the calls that were served
pub data LacksMemory (h : Happened) (line : Line) : Type 0 where
  BeforeCalls : MayRead line h.old.folder h.new.folder → IsUnserved h → LacksMemory h line
  AfterCalls : Ends h (λ end. end ≡ E.Memory) line → LacksMemory h line

-- 11: nothing was done, or this
pub record MemoryRow (h : Happened) : Type 0 where
  pub when : h.status ≡ 11 → (h.new ≡ h.old) ⊎ OnLine h (LacksMemory h)

-- no other status comes
abbrev pub IsStatus : ℕ → Type 0
IsStatus n = (n ≤ 6) ⊎ ((9 ≤ n) × (n ≤ 11))

pub record KeepsRows (h : Happened) : Type 0 where
  pub words : WordsRow h
  pub file : FileRow h
  pub rule : RuleRow h
  pub unknown : UnknownRow h
  pub served : ServedRow h
  pub memory : MemoryRow h
  pub known : IsStatus h.status
