-- When each status comes, and what stands then.
use Rattle.std.specs.Prelude.{◌≡◌, ◌⊎◌, ℕ, ◌+◌, ◌<◌, ◌≤◌, List, [], ◌∷◌, ◌++◌, length, map, All, Some, None, IsSomeAnd, codes, slice_index_or, unwrap_or}
use Rattle.std.specs.List.{slice_get}
use Rattle.sim_base.specs.Asking.{AreUnfailed, with_reads}
use Rattle.sim_base.specs.Causes.{Rose}
use Rattle.sim_base.specs.Sink.{with_piece}
use Rattle.sim_base.specs.declared.numbers.CompId.{CompId}
use Rattle.sim_base.specs.declared.numbers.PortId.{PortId}
use Rattle.sim_base.specs.declared.read_book.ReadNote.{ReadNote}
use Rattle.value_types.specs.declared.shape.Shape.{Shape}
use Rattle.doc_tree.specs.declared.place.Place.{Place}
use Rattle.doc_tree.specs.declared.rule.Rule.{Rule}
use Rattle.fmu_peer.specs.declared.peer.Exchange.{Exchange}
use Rattle.fmu_peer.specs.declared.ended.Why.{Why}
use Rattle.fmu_peer.specs.declared.ended.Why.TheVariants.{Refused, Misreply, Link}
use Rattle.fmu_peer.specs.Talk as T
use Rattle.fmu_peer.specs.Answer.{IsLink, IsWhy}
use Rattle.fmu_peer.specs.Machine.{Machine}
use Rattle.fmu_peer.specs.View.{Origin, View}
use Rattle.system_model.specs.declared.system.Component.{Component}
use Rattle.system_model.specs.declared.system.System.{System}
use Rattle.run_model.specs.Run.{Run}
use Rattle.run_model.specs.Behaved.{WellBehaved}
use Rattle.slot_calls.specs.declared.bad_answer.BadAnswer.{BadAnswer}
use Rattle.calling_sequence.specs.declared.run_end.RunEnd.{RunEnd}
use Rattle.calling_sequence.specs.declared.run_end.RunEnd.TheVariants as E
use Rattle.slot_calls.specs.SavedStates.{IsOfClosing, Talk}
use Rattle.session_laws.specs.Traced.{IsRunOf}
use Rattle.bench_fmus.specs.declared.model.Model.{Model}
use Rattle.bench_fmus.specs.Models.{model_named}
use Rattle.bench_fmus.specs.Spawners.{StartsBuiltIns}
use Rattle.built_in_laws.specs.BuiltInRuns.{IsBuiltIn}
use Rattle.built_in_laws.specs.Clocks.{TellsTimings}
use Rattle.command_line.specs.Line.{IsLine, Line, RunLine, built_in_host, run_in}
use Rattle.run_program.specs.declared.outcome.End.{End}
use Rattle.run_program.specs.declared.outcome.StartCause.TheVariants.{Failed, Unknown}
use Rattle.system_files.specs.declared.loaded.Loaded.{Loaded}
use Rattle.system_files.specs.declared.named.FileFault.TheVariants.{Unread, Missing, TooBig, Broken}
use Rattle.system_files.specs.Files.{Absent, AreSteady, Faulty, Long}
use Rattle.system_files.specs.Loads.{FailsToRead, Loads, ReadsSome}
use Rattle.system_files.specs.Order.{Agree, Comes, Fails, Finding, Found}
use Rattle.run_program.specs.Facts.{Calm, FailsToTell, LoadsLine, TellsSize, search_for, task_of}
use Rattle.run_program.specs.Happened.{Happened, Scene}
use Rattle.run_program.specs.Peers.{AreKnown, AreStarted, IsFirstUnknown}
use Rattle.run_program.specs.Message.{CutsShort, Reports, bad_message, end_message, end_status, file_message, start_message, why_status}
use Rattle.event_iteration.specs.declared.lost.LostValue.{LostValue}
use Rattle.run_program.specs.Runs.{FailsToStart, HasRun, IsEndOf, IsUnasked, Names, Task, Traces, names_of}

-- ---- what err holds

-- one put more with this line, and no other
abbrev pub Says : Happened → List ℕ → Type 0
Says h text = h.err_after ≡ with_piece h.err text

-- nothing more
abbrev pub IsSilent : Happened → Type 0
IsSilent h = h.err_after ≡ h.err

-- this line couldn't be put
abbrev pub IsMute : Happened → List ℕ → Type 0
IsMute h text = (h.status ≡ 10) × CutsShort text h.err h.err_after

-- this status with this line, unless the line couldn't be put
abbrev pub Answers : Happened → ℕ → List ℕ → Type 0
Answers h status text = ((h.status ≡ status) × Says h text) ⊎ IsMute h text

-- the line for out of memory
abbrev pub memory_line : List ℕ
memory_line = codes "memory\n"

-- out of memory, or this status with this line
abbrev pub AnswersOr11 : Happened → ℕ → List ℕ → Type 0
AnswersOr11 h status text = Answers h 11 memory_line ⊎ Answers h status text

-- ---- which files are read

-- the arguments are a command line, and this holds of it
abbrev pub OnLine : Happened → (Line → Type 0) → Type 0
OnLine h P = (line : Line) × IsLine h.words line × P line

-- the arguments are no command line
abbrev pub IsNoLine : Happened → Type 0
IsNoLine h = (line : Line) → IsLine h.words line → ⊥

-- the folder tells these reads more, none of them failed, and no path was read with two answers
pub record ReadsAlike (h : Happened) (reads : List ReadNote) : Type 0 where
  pub told : h.new.folder ≡ with_reads h.old.folder reads
  pub unfailed : AreUnfailed reads
  pub steady : AreSteady reads

-- and by what these reads got the order of reading comes to this
pub record IsToFind (h : Happened) (line : Line) (finding : Finding) : Type 0 where
  pub reads : List ReadNote
  pub alike : ReadsAlike h reads
  pub asked : List (List ℕ)
  pub comes : Comes (search_for line) reads asked finding

-- no read failed
abbrev pub IsUnfailed : Happened → Type 0
IsUnfailed h =
    (reads : List ReadNote) × (h.new.folder ≡ with_reads h.old.folder reads) × AreUnfailed reads

-- the files are asked for in their order, each once: to an end, or to one whose read fails, which is answered, or until memory runs out
pub data ReadsFiles (h : Happened) (line : Line) : Type 0 where
  Whole : (finding : Finding) → Loads (search_for line) finding h.old.folder h.new.folder →
      ReadsFiles h line
  Failing : (path : List ℕ) → FailsToRead (search_for line) path h.old.folder h.new.folder →
      Answers h 3 (file_message path Unread) → ReadsFiles h line
  OutOfMemory : ReadsSome (search_for line) h.old.folder h.new.folder →
      Answers h 11 memory_line → ReadsFiles h line

-- without a line no file is asked for
pub record ReadingRow (h : Happened) : Type 0 where
  pub none : IsNoLine h → h.new.folder ≡ h.old.folder
  pub some : (line : Line) → IsLine h.words line → ReadsFiles h line

-- the line asks for a run of what was loaded
pub record IsOfRun (h : Happened) (line : Line) : Type 0 where
  pub asked : RunLine
  pub is_asked : run_in line ≡ Some asked
  pub loaded : Loaded
  pub loads : LoadsLine line loaded h.old.folder h.new.folder

-- ---- the statuses

-- at the stop, or where a component asked for it
abbrev pub IsFinished : RunEnd → Type 0
IsFinished E.Stop = Unit {0}
IsFinished (E.Asked point) = Unit {0}
IsFinished (E.EventLimit point) = ⊥
IsFinished (E.FixedStep component at end) = ⊥
IsFinished (E.Range lost at) = ⊥
IsFinished (E.Bad bad) = ⊥
IsFinished (E.Held point) = ⊥
IsFinished E.WriteFault = ⊥

-- the status and the line of a run's end, which names one of these components: 0 and no line at the stop and where a component asked for it, else the end's own, unless the line couldn't be put
abbrev pub ReportsEnd : Happened → Names → RunEnd → Type 0
ReportsEnd h names end =
    (told : End) × IsEndOf names end told ×
    Reports (end_message told) (end_status told) h.status h.err h.err_after

-- the run of the line's system came to this end, whose status and line these are
pub record RunsTo (h : Happened) (line : Line) (end : RunEnd) : Type 0 where
  pub it : IsOfRun h line
  pub run : HasRun (task_of it.asked it.loaded) it.loaded.system end h.old.run h.new.run
  pub reports : ReportsEnd h (names_of it.loaded.system) end

-- the line asks for a check of what was loaded, and this holds of it
abbrev pub OnCheck : Happened → Line → (Loaded → Scene → Scene → Type 0) → Type 0
OnCheck h line P =
    (loaded : Loaded) × (run_in line ≡ None) × LoadsLine line loaded h.old.folder h.new.folder ×
    P loaded h.old.run h.new.run

-- 0: the run came to its end, or the size of the system was told, and err holds what it held
pub data HasEnded (h : Happened) (line : Line) : Type 0 where
  Ended : (end : RunEnd) → IsFinished end → RunsTo h line end → HasEnded h line
  Told : OnCheck h line TellsSize → IsSilent h → HasEnded h line

pub record EndRow (h : Happened) : Type 0 where
  pub when : h.status ≡ 0 → OnLine h (HasEnded h)

-- 2: exactly where the arguments are no command line
pub record WordsRow (h : Happened) : Type 0 where
  pub when : h.status ≡ 2 → IsNoLine h × (h.new ≡ h.old) × Says h (codes "words\n")
  pub exact : IsNoLine h → AnswersOr11 h 2 (codes "words\n")

-- 3: `read` only where the read of that file failed and no other, `missing` and `big` exactly where the first file that isn't taken is so
pub data LacksFile (h : Happened) (line : Line) : Type 0 where
  IsUnread : (path : List ℕ) → FailsToRead (search_for line) path h.old.folder h.new.folder →
      Says h (file_message path Unread) → LacksFile h line
  IsMissing : (path : List ℕ) → Loads (search_for line) (Fails path Absent) h.old.folder
      h.new.folder → Says h (file_message path Missing) → LacksFile h line
  IsTooBig : (path : List ℕ) → Loads (search_for line) (Fails path Long) h.old.folder h.new.folder →
      Says h (file_message path TooBig) → LacksFile h line

pub record FileRow (h : Happened) : Type 0 where
  pub when : h.status ≡ 3 → OnLine h (λ line. Calm h.old.run h.new.run × LacksFile h line)
  pub missing : (line : Line) (path : List ℕ) → IsLine h.words line →
      IsToFind h line (Fails path Absent) → AnswersOr11 h 3 (file_message path Missing)
  pub big : (line : Line) (path : List ℕ) → IsLine h.words line →
      IsToFind h line (Fails path Long) → AnswersOr11 h 3 (file_message path TooBig)

-- 4: exactly where the files break a rule, the first of which is told with its file and place; of a loop the ports of one are told
abbrev pub BreaksRule : Happened → Line → Type 0
BreaksRule h line = (path : List ℕ) × (rule : Rule) × (place : Place) × (ports : List PortId)
    × Loads (search_for line) (Fails path (Faulty rule place ports)) h.old.folder h.new.folder ×
    Says h (file_message path (Broken rule place ports))

-- the status is 4, with the line of this rule, or of a loop with the ports of one
abbrev pub TellsRule : Happened → Line → List ℕ → Rule → Place → Type 0
TellsRule h line path rule place =
    (ports : List PortId) × IsToFind h line (Fails path (Faulty rule place ports)) ×
    AnswersOr11 h 4 (file_message path (Broken rule place ports))

pub record RuleRow (h : Happened) : Type 0 where
  pub when : h.status ≡ 4 → OnLine h (λ line. Calm h.old.run h.new.run × BreaksRule h line)
  pub exact : (line : Line) (path : List ℕ) (rule : Rule) (place : Place) (ports : List PortId) →
      IsLine h.words line →
      IsToFind h line (Fails path (Faulty rule place ports)) → TellsRule h line path rule place

-- the run was broken off by an answer that isn't good, which this holds of
abbrev pub BreaksOffBy : Happened → Line → (Why → Type 0) → Type 0
BreaksOffBy h line P = (bad : BadAnswer) × P bad.why × RunsTo h line (E.Bad bad)

-- the talks that these peers tell
abbrev pub talks_of : List View → List Talk
talks_of peers = map (λ (v : View). record {
  shape = v.fixed.shape;
  exchanges = unwrap_or v.talk [];
}) peers

-- why is the first answer of the talk's run that isn't good: the calls before it got good ones, and its own is none of the closing's, among the talks of all
pub record IsFirstBadOf (talks : List Talk) (shape : Shape) (why : Why)
    (talk : List Exchange) : Type 0 where
  pub prefix : List Exchange
  pub last : Exchange
  pub rest : List Exchange
  pub is : talk ≡ prefix ++ last ∷ rest
  pub good : T.AllGood shape prefix
  pub bad : IsWhy shape why last
  pub of_run : IsOfClosing talks shape prefix last.call rest → ⊥

-- these peers were taken back, each tells its talk, and no put on out failed
pub record TellPeers (h : Happened) (peers : List View)
    (talks : List (List Exchange)) : Type 0 where
  pub retired : h.new.run.spawner.retired ≡ h.old.run.spawner.retired ++ peers
  pub talks_are : map (λ (v : View). v.talk) peers ≡ map (λ (talk : List Exchange). Some talk) talks
  pub quiet : Rose h.old.run.out.faults h.new.run.out.faults → ⊥

-- of these peers the one at a place, of this name, had this first answer that isn't good, and those before it had none
pub record IsLeastBadOf (peers : List View) (talks : List (List Exchange)) (name : List ℕ)
    (why : Why) : Type 0 where
  pub place : ℕ
  pub peer : View
  pub talk : List Exchange
  pub here : slice_get peers place ≡ Some peer
  pub told : slice_get talks place ≡ Some talk
  pub named : IsSomeAnd peer.fixed.origin (λ (o : Origin). o.name ≡ name)
  pub first : IsFirstBadOf (talks_of peers) peer.fixed.shape why talk
  pub before : (k : ℕ) (v : View) (es : List Exchange) (other : Why) → k < place →
      slice_get peers k ≡ Some v → slice_get talks k ≡ Some es →
      IsFirstBadOf (talks_of peers) v.fixed.shape other es → ⊥

-- the status and the line are those of the first answer that isn't good, of the least component
abbrev pub DecidesBy : Happened → (Why → Type 0) → Type 0
DecidesBy h P =
    (peers : List View) (talks : List (List Exchange)) (name : List ℕ) (why : Why) → P why →
    TellPeers h peers talks → IsLeastBadOf peers talks name why →
    Answers h (why_status why) (bad_message name why)

abbrev pub IsRefusedWhy : Why → Type 0
IsRefusedWhy (Refused call status) = Unit {0}
IsRefusedWhy (Misreply call reply) = ⊥
IsRefusedWhy (Link call fault) = ⊥

abbrev pub IsMisreplyWhy : Why → Type 0
IsMisreplyWhy (Refused call status) = ⊥
IsMisreplyWhy (Misreply call reply) = Unit {0}
IsMisreplyWhy (Link call fault) = ⊥

-- 5: `link` only where the spawner's count or the peer's rose, `unknown` exactly where the spawner doesn't know the identifier of a component, the first of which is named
pub data LosesPeer (h : Happened) (line : Line) : Type 0 where
  NotStarted : (it : IsOfRun h line) (name : List ℕ) →
      FailsToStart (task_of it.asked it.loaded) it.loaded.system name Failed h.old.run h.new.run →
      Rose h.old.run.spawner.faults h.new.run.spawner.faults →
      Says h (start_message name Failed) → LosesPeer h line
  NotKnown : (it : IsOfRun h line) (name : List ℕ) →
      FailsToStart (task_of it.asked it.loaded) it.loaded.system name Unknown h.old.run h.new.run →
      Says h (start_message name Unknown) → LosesPeer h line
  NotAnswering : BreaksOffBy h line IsLink → LosesPeer h line

pub record LinkRow (h : Happened) : Type 0 where
  pub when : h.status ≡ 5 → OnLine h (LosesPeer h)
  pub unknown : (line : Line) (asked : RunLine) (loaded : Loaded) (place : ℕ) (c : Component) →
      IsLine h.words line → run_in line ≡ Some asked → IsToFind h line (Found loaded) →
      IsFirstUnknown asked.host h.old.run.spawner loaded.system.components place c →
      (Rose h.old.run.spawner.faults h.new.run.spawner.faults → ⊥) →
      AnswersOr11 h 5 (start_message c.name Unknown)
  pub lost : DecidesBy h IsLink

-- 6: exactly where the first answer that isn't good is a refusal
pub record RefusalRow (h : Happened) : Type 0 where
  pub when : h.status ≡ 6 → OnLine h (λ line. BreaksOffBy h line IsRefusedWhy)
  pub exact : DecidesBy h IsRefusedWhy

-- 7: exactly where the first answer that isn't good is an invalid reply
pub record MisreplyRow (h : Happened) : Type 0 where
  pub when : h.status ≡ 7 → OnLine h (λ line. BreaksOffBy h line IsMisreplyWhy)
  pub exact : DecidesBy h IsMisreplyWhy

-- 8: the run ended at a point whose instants reach their limit
pub record LimitRow (h : Happened) : Type 0 where
  pub when : h.status ≡ 8 →
      OnLine h (λ line. (point : ℕ) × RunsTo h line (E.EventLimit point))

-- 9: the run ended before a step whose size a component can't take, the least of those, with the point that the step would go to
pub record FixedRow (h : Happened) : Type 0 where
  pub when : h.status ≡ 9 → OnLine h (λ line. (component : CompId) × (at : ℕ) × (end : ℕ) ×
      RunsTo h line (E.FixedStep component at end))

-- 13: the run ended where a value of a source is lost on its way to an input, the least of those
pub record RangeRow (h : Happened) : Type 0 where
  pub when : h.status ≡ 13 → OnLine h (λ line. (lost : LostValue) × (at : ℕ) ×
      RunsTo h line (E.Range lost at))

-- 10: only where a sink's count rose, and always where one is higher than before
pub record WriteRow (h : Happened) : Type 0 where
  pub when : h.status ≡ 10 → (Says h (codes "write\n") ×
      Rose h.old.run.out.faults h.new.run.out.faults) ⊎ ((text : List ℕ) × IsMute h text)
  pub higher : (h.old.run.out.faults < h.new.run.out.faults) ⊎
      (h.err.faults < h.err_after.faults) → h.status ≡ 10

-- there are none, or they were started for the first components of what a line asks to be run: each by its host, by its component's name and shape, in the folder of its FMU
pub data AreStartedFor (h : Happened) (peers : List View) : Type 0 where
  Nobody : peers ≡ [] → AreStartedFor h peers
  ForRun : (line : Line) → IsLine h.words line → (it : IsOfRun h line) →
      AreStarted it.asked.host it.loaded.folders it.loaded.system.components peers →
      AreStartedFor h peers

-- each peer that was started was taken back, and none of them was called
pub record IsUncalled (h : Happened) : Type 0 where
  pub peers : List View
  pub whose : AreStartedFor h peers
  pub unasked : All IsUnasked peers
  pub started : h.new.run.spawner.started ≡ h.old.run.spawner.started + length peers
  pub retired : h.new.run.spawner.retired ≡ h.old.run.spawner.retired ++ peers

-- and nothing was put
pub record IsIdle (h : Happened) : Type 0 where
  pub uncalled : IsUncalled h
  pub out : h.new.run.out ≡ h.old.run.out

-- 11: no read and no start failed, no peer was called, and nothing was put
pub record MemoryRow (h : Happened) : Type 0 where
  pub when : h.status ≡ 11 → IsIdle h × (h.new.run.spawner.faults ≡ h.old.run.spawner.faults) ×
      IsUnfailed h × Says h memory_line

-- the statuses that can come
abbrev pub IsStatus : ℕ → Type 0
IsStatus n = (n ≡ 0) ⊎ (((2 ≤ n) × (n ≤ 11)) ⊎ (n ≡ 13))

-- no other status comes, and err holds what it held or one line more, or a prefix of one
pub record StatusRow (h : Happened) : Type 0 where
  pub known : IsStatus h.status
  pub line : IsSilent h ⊎ ((text : List ℕ) × (Says h text ⊎ IsMute h text))

-- ---- the run

-- the built-in machine of each component's identifier can tell what it is asked of the Clocks there, with the values that the component's parameters are bound to: of a sampler its interval is at least one count and its shift whole, of every other no Clock is a fixed one with supportsFraction
abbrev pub TellTimings : Loaded → Type 0
TellTimings loaded =
    (i : ℕ) (c : Component) (model : Model) → slice_get loaded.system.components i ≡ Some c →
    model_named c.shape.identifier ≡ Some model →
    TellsTimings model c.shape (slice_index_or loaded.bound.components i [])

-- the machines that these peers tell are built-in ones, and behave well along the run of them
pub record HasBuiltIns (task : Task) (system : System) (olds : List View) : Type 0 where
  pub run : Run
  pub of : IsRunOf system task.bound olds run
  pub plan_is : run.plan ≡ task.plan
  pub built_in : (i : ℕ) (c : Component) (m : Machine) → slice_get system.components i ≡ Some c →
      slice_get run.machines i ≡ Some m → IsBuiltIn c.shape m
  pub behaved : WellBehaved run

-- a run of what the files say, but for the orders of its ports, with its trace and the status of its end; where the line asks for the host `builtin`, and the spawner starts the built-in machines by it, these are the machines of the run, and they behave well, but for what they are asked of Clocks
pub record RunsLoaded (h : Happened) (asked : RunLine) (loaded : Loaded) : Type 0 where
  pub made : Loaded
  pub agree : Agree (Found made) (Found loaded)
  pub end : RunEnd
  pub traces : Traces (task_of asked made) made.system end h.old.run h.new.run
  pub reports : ReportsEnd h (names_of made.system) end
  pub built_in : asked.host ≡ built_in_host →
      StartsBuiltIns built_in_host h.old.run.spawner → TellTimings loaded →
      HasBuiltIns (task_of asked made) made.system traces.account.olds

-- the trace: where the files say a system, the identifiers are known and no start failed, that of its run; or nothing where memory runs out
pub record TraceRow (h : Happened) : Type 0 where
  pub when : (line : Line) (asked : RunLine) (loaded : Loaded) → IsLine h.words line →
      run_in line ≡ Some asked → IsToFind h line (Found loaded) →
      AreKnown asked.host h.old.run.spawner loaded.system.components →
      (Rose h.old.run.spawner.faults h.new.run.spawner.faults → ⊥) →
      (Answers h 11 memory_line × IsIdle h) ⊎ RunsLoaded h asked loaded

-- ---- a check

-- the line of the size, or a prefix of it where its put failed and the status is 10
pub data WritesSize (h : Happened) (loaded : Loaded) : Type 0 where
  Sized : (h.status ≡ 0) → TellsSize loaded h.old.run h.new.run → WritesSize h loaded
  Cut : (h.status ≡ 10) → FailsToTell loaded h.old.run h.new.run → WritesSize h loaded

-- the size: where the files say a system, or nothing where memory runs out
pub record CheckRow (h : Happened) : Type 0 where
  pub when : (line : Line) (loaded : Loaded) → IsLine h.words line → run_in line ≡ None →
      IsToFind h line (Found loaded) →
      (Answers h 11 memory_line × IsIdle h) ⊎ WritesSize h loaded

-- ---- the peers

-- each peer that was started was taken back once: uncalled, or after a run in which its talk is legal, lean and closed, and puts and end are those of the run, and the status that of its end; a check starts none, and puts the size
pub data PeerRow (h : Happened) : Type 0 where
  Idle : IsIdle h → PeerRow h
  Checked : (line : Line) → IsLine h.words line → OnCheck h line TellsSize ⊎
      OnCheck h line FailsToTell → PeerRow h
  Ran : (line : Line) → IsLine h.words line → (end : RunEnd) → RunsTo h line end → PeerRow h

-- ---- all of it

-- what holds of each call of the program whose arguments don't ask for the check of a trace
pub record KeepsSystemRows (h : Happened) : Type 0 where
  pub ended : EndRow h
  pub words : WordsRow h
  pub file : FileRow h
  pub rule : RuleRow h
  pub link : LinkRow h
  pub refusal : RefusalRow h
  pub misreply : MisreplyRow h
  pub limit : LimitRow h
  pub fixed : FixedRow h
  pub range : RangeRow h
  pub write : WriteRow h
  pub memory : MemoryRow h
  pub status : StatusRow h
  pub reading : ReadingRow h
  pub peer : PeerRow h
  pub trace : TraceRow h
  pub check : CheckRow h
