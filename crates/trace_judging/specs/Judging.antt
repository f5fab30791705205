-- What the check of a trace comes to: the file of the trace is read first, then those of the system (FMI 3.0, 2.4; SSP 1.0, SystemStructure.ssd), and then the rules of traces decide.
use Rattle.std.specs.Prelude.{◌≡◌, ℕ, List, [], ◌∷◌, ◌++◌, Err}
use Rattle.sim_base.specs.Asking.{Asks, paths_read}
use Rattle.sim_base.specs.Folder.{FolderView, with_read}
use Rattle.sim_base.specs.declared.folder.ReadFault.TheVariants as r
use Rattle.sim_base.specs.declared.read_book.ReadNote.{ReadNote}
use Rattle.doc_tree.specs.declared.place.Place.{Place}
use Rattle.doc_tree.specs.declared.rule.Rule.{Rule}
use Rattle.system_model.specs.declared.system.System.{System}
use Rattle.trace_reading.specs.declared.trace.Trace.{Trace}
use Rattle.trace_reading.specs.Faults.{IsFirstFault}
use Rattle.trace_reading.specs.Form.{IsTextOf}
use Rattle.trace_check.specs.declared.verdict.Verdict.{Verdict}
use Rattle.trace_check.specs.declared.verdict.Verdict.TheVariants.{Yes, No}
use Rattle.trace_check.specs.Rules.{IsFirst, KeepsRules}
use Rattle.system_files.specs.declared.loaded.Loaded.{Loaded}
use Rattle.system_files.specs.declared.loading.LoadError.{LoadError}
use Rattle.system_files.specs.declared.loading.LoadError.TheVariants as end
use Rattle.system_files.specs.declared.named.FileFault.TheVariants.{Unread, Missing, TooBig, Broken}
use Rattle.system_files.specs.declared.subject.Subject.TheVariants as what
use Rattle.system_files.specs.Files.{Absent, AreSteady, Faulty, Flaw, HasFile, LacksFile, Long}
use Rattle.system_files.specs.Loads.{FailsToRead, Loads, ReadsSome}
use Rattle.system_files.specs.Order.{AreAlike, Comes, Fails, Found, Search, search_of}
use Rattle.system_files.specs.Steps.{TakesFile}

-- the directory of the system, and the path of the trace's file
pub record Question : Type 0 where
  pub directory : List ℕ
  pub file : List ℕ

-- a read of the file got the text of the trace
abbrev pub HoldsTrace : Question → List ReadNote → Trace → Type 0
HoldsTrace q reads t = HasFile IsTextOf reads q.file t

-- the files of the system, a second of which has as many counts as in the trace
abbrev pub search_for : Question → Trace → Search
search_for q t = search_of what.System q.directory t.resolution

-- ---- what it comes to

-- a file that isn't taken, or the verdict
pub data Judgement : Type 0 where
  Lacks : List ℕ → Flaw → Judgement
  Gives : Verdict → Judgement

-- the verdict on a trace, by the rules that it keeps or breaks
abbrev pub IsVerdict : System → Trace → Verdict → Type 0
IsVerdict system t Yes = KeepsRules system t
IsVerdict system t (No line rule) = IsFirst system t line rule

-- the bytes of the trace's file break no rule of documents
abbrev pub NoRule : List ℕ → Rule → Place → Type 0
NoRule bytes rule place = ⊥

-- these files are asked for, and by what the read of the trace got, and those of the system, it comes to this
pub data Judges (q : Question) (first rest : List ReadNote) : List (List ℕ) → Judgement → Type 0 where
  -- the trace isn't there, or is too long
  NoTrace : (flaw : Flaw) (asked : List (List ℕ)) (j : Judgement) →
      LacksFile NoRule first q.file flaw → asked ≡ q.file ∷ [] → j ≡ Lacks q.file flaw →
      Judges q first rest asked j
  -- its first line out of form breaks rule 1
  OutOfForm : (n : ℕ) (asked : List (List ℕ)) (j : Judgement) →
      HasFile IsFirstFault first q.file n → asked ≡ q.file ∷ [] → j ≡ Gives (No n 1) →
      Judges q first rest asked j
  -- a file of the system isn't taken
  NoSystem : (t : Trace) (path : List ℕ) (flaw : Flaw) (others asked : List (List ℕ))
      (j : Judgement) → HoldsTrace q first t →
      Comes (search_for q t) rest others (Fails path flaw) →
      asked ≡ q.file ∷ others → j ≡ Lacks path flaw → Judges q first rest asked j
  -- the trace keeps the rules of the system, or breaks one first
  ByRules : (t : Trace) (loaded : Loaded) (verdict : Verdict) (others asked : List (List ℕ))
      (j : Judgement) → HoldsTrace q first t →
      Comes (search_for q t) rest others (Found loaded) →
      IsVerdict loaded.system t verdict → asked ≡ q.file ∷ others → j ≡ Gives verdict →
      Judges q first rest asked j

-- ---- in one way

-- the same file with the same flaw, of a loop with any of its ports, or the same verdict
abbrev pub Agree : Judgement → Judgement → Type 0
Agree (Lacks path flaw) (Lacks other another) = (path ≡ other) × AreAlike flaw another
Agree (Gives one) (Gives other) = one ≡ other
Agree (Lacks path flaw) (Gives other) = ⊥
Agree (Gives one) (Lacks path flaw) = ⊥

-- the trace was read, and then these files of the system, no read failed, and it comes to this; and where no file of the system was read with two answers, to nothing else
pub record Judged (q : Question) (j : Judgement) (old new : FolderView) : Type 0 where
  pub first : List ReadNote
  pub once : paths_read first ≡ q.file ∷ []
  pub rest : List ReadNote
  pub asked : List (List ℕ)
  pub judges : Judges q first rest asked j
  pub only : AreSteady rest → (others : List (List ℕ)) (other : Judgement) →
      Judges q first rest others other → (asked ≡ others) × Agree j other
  pub asks : Asks (first ++ rest) asked old new

-- ---- where it comes to nothing

-- the text of the trace was read
abbrev pub TakesTrace : Question → Trace → FolderView → FolderView → Type 0
TakesTrace q t old new = TakesFile IsTextOf q.file t old new

-- the read of the trace failed, or that of a file of the system
pub data FailsReading (q : Question) (path : List ℕ) (old new : FolderView) : Type 0 where
  OfTrace : path ≡ q.file → new ≡ with_read old path (Err r.Failed) →
      FailsReading q path old new
  OfSystem : (t : Trace) (mid : FolderView) → TakesTrace q t old mid →
      FailsToRead (search_for q t) path mid new → FailsReading q path old new

-- memory ran out: no file was read, or the trace alone, or with it some files of the system or all, and no read failed
pub data ReadsFew (q : Question) (old new : FolderView) : Type 0 where
  Nothing : new ≡ old → ReadsFew q old new
  TheTrace : (reads : List ReadNote) → Asks reads (q.file ∷ []) old new → ReadsFew q old new
  SomeFiles : (t : Trace) (mid : FolderView) → TakesTrace q t old mid →
      ReadsSome (search_for q t) mid new → ReadsFew q old new
  AllFiles : (t : Trace) (loaded : Loaded) (mid : FolderView) → TakesTrace q t old mid →
      Loads (search_for q t) (Found loaded) mid new → ReadsFew q old new

-- why there is no verdict
abbrev pub LacksVerdict : Question → LoadError → FolderView → FolderView → Type 0
LacksVerdict q (end.File file Unread) old new = FailsReading q file.path old new
LacksVerdict q (end.File file Missing) old new = Judged q (Lacks file.path Absent) old new
LacksVerdict q (end.File file TooBig) old new = Judged q (Lacks file.path Long) old new
LacksVerdict q (end.File file (Broken rule place ports)) old new =
    Judged q (Lacks file.path (Faulty rule place ports)) old new
LacksVerdict q end.Memory old new = ReadsFew q old new
