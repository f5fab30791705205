-- Where a status has to come.
use Rattle.std.proofs.Common.{◌≡◌, ◌⊎◌, inl, inr, ℕ, ◌<◌, true, false, Bool, List, [], ◌∷◌, ◌++◌, length, Option, Some, None, refl, sym, ap, ◌∙◌, subst, arith, take, append_assoc}
use Rattle.std.specs.Prelude.{Err}
use Rattle.std.proofs.lemmas.List.{append_cancel_left, get_or_push, length_push}
use Rattle.std.specs.List.{slice_get}
use Rattle.std.proofs.lemmas.Option.{same_Some}
use Rattle.sim_base.specs.Asking.{AreUnfailed, with_reads}
use Rattle.sim_base.specs.Causes.{Rose}
use Rattle.sim_base.specs.Folder.{FolderView}
use Rattle.sim_base.specs.declared.folder.ReadFault.TheVariants as r
use Rattle.sim_base.specs.declared.numbers.PortId.{PortId}
use Rattle.sim_base.specs.declared.read_book.ReadNote.{ReadNote}
use Rattle.doc_tree.specs.declared.place.Place.{Place}
use Rattle.doc_tree.specs.declared.rule.Rule.{Rule}
use Rattle.calling_sequence.specs.declared.run_end.RunEnd.{RunEnd}
use Rattle.fmu_peer.specs.Start.{SpawnerView}
use Rattle.system_model.specs.declared.system.Component.{Component}
use Rattle.system_model.specs.declared.system.System.{System}
use Rattle.command_line.specs.Line.{IsLine, Line, RunLine, run_in}
use Rattle.system_files.specs.declared.loaded.Loaded.{Loaded}
use Rattle.system_files.specs.declared.named.FileFault.{FileFault}
use Rattle.system_files.specs.declared.named.FileFault.TheVariants.{Unread, Missing, TooBig, Broken}
use Rattle.system_files.specs.Files.{Absent, AreSteady, Faulty, Long}
use Rattle.system_files.specs.Loads.{FailsToRead, FileFails, Loads, Nothing, ReadsSome}
use Rattle.system_files.specs.Order.{Agree, Comes, Fails, Finding, Found}
use Rattle.system_files.proofs.AskLemmas.{none_here}
use Rattle.run_program.specs.declared.outcome.Outcome.{Outcome}
use Rattle.run_program.specs.declared.outcome.Outcome.TheVariants.{Words, Memory, File, Start, Ran, Checked, Untold}
use Rattle.run_program.specs.declared.outcome.StartCause.TheVariants.{Failed, Unknown}
use Rattle.run_program.specs.Message.{Reports, status_of, file_message, start_message}
use Rattle.run_program.specs.Facts.{LineFacts, LoadFacts, LoadsLine, OfSystem, RunFacts, SystemFacts, Unloaded, WithLine, WithoutLine, search_for, task_of}
use Rattle.run_program.specs.Happened.{Happened, Outside, Scene}
use Rattle.run_program.specs.Peers.{AreKnown, IsFirstUnknown}
use Rattle.run_program.specs.Runs.{Broke, FailsToStart, HasRun, Task, Went}
use Rattle.run_program.specs.Rows.{Answers, AnswersOr11, Failing, IsToFind, OutOfMemory, ReadsAlike, ReadsFiles, TellsRule, Whole, memory_line}
use Rattle.run_program.proofs.PeerLemmas.{all_got, compare, slice_get-take_prefix}
use Rattle.run_program.proofs.When.{HasFacts, HasPut, by_run, start_rose}

-- ---- the line that the arguments are

reads_none : (line : Line) (old new : FolderView) → new ≡ old → ReadsSome (search_for line) old new
reads_none line old new same = record { reads = []; asked = []; some = Nothing [] refl; asks = none_here old new same }

pub of_line : (o : Outcome) (h : Happened) → HasFacts o h → (line : Line) → IsLine h.words line → LineFacts o line h.old h.new
of_line o h (WithLine r) line is = subst (λ (l : Line). LineFacts o l h.old h.new) (r.only line is) r.facts
of_line Words h (WithoutLine w) line is = absurd (w.why line is)
of_line Memory h (WithoutLine w) line is =
    Unloaded (ap (λ (s : Outside). s.run) w.same) (reads_none line h.old.folder h.new.folder (ap (λ (s : Outside). s.folder) w.same))
of_line (File path fault) h (WithoutLine w) line is = absurd w.why
of_line (Start component fault) h (WithoutLine w) line is = absurd w.why
of_line (Ran end) h (WithoutLine w) line is = absurd w.why
of_line Checked h (WithoutLine w) line is = absurd w.why
of_line Untold h (WithoutLine w) line is = absurd w.why

-- ---- the answers

pub answers : (text : List ℕ) (w : ℕ) (h : Happened) → Reports (Some text) w h.status h.err h.err_after → Answers h w text
answers text w h (inl p) = inl p
answers text w h (inr p) = inr p

pub memory_or : (o : Outcome) (n : ℕ) (text : List ℕ) (h : Happened) → HasPut o h → o ≡ Memory → AnswersOr11 h n text
memory_or o n text h p e = inl (answers memory_line 11 h (subst (λ (x : Outcome). HasPut x h) e p))

-- ---- the files

-- what was loaded is what is to be found, but for the orders of its ports
pub record LoadsAlike (line : Line) (h : Happened) (o : Outcome) (loaded : Loaded) : Type 0 where
  pub made : Loaded
  pub agree : Agree (Found made) (Found loaded)
  pub loads : LoadsLine line made h.old.folder h.new.folder
  pub facts : SystemFacts line o made h.old.run h.new.run

-- the outcome where the files come to this
abbrev pub Suits : Finding → Line → Outcome → Happened → Type 0
Suits (Fails path Absent) line o h = o ≡ File path Missing
Suits (Fails path Long) line o h = o ≡ File path TooBig
Suits (Fails path (Faulty rule place ports)) line o h = (loop : List PortId) × (o ≡ File path (Broken rule place loop)) × IsToFind h line (Fails path (Faulty rule place loop))
Suits (Found loaded) line o h = LoadsAlike line h o loaded

-- the reads of the loading are those that are told
same_reads : (old new : FolderView) (some reads : List ReadNote) → new ≡ with_reads old some → new ≡ with_reads old reads → some ≡ reads
same_reads old new some reads one other = append_cancel_left old.reads some reads (ap (λ (v : FolderView). v.reads) (sym one ∙ other))

-- what was found is what is to be found
found_is : (line : Line) (h : Happened) (alone found : Finding) → IsToFind h line found → Loads (search_for line) alone h.old.folder h.new.folder → Agree alone found
found_is line h alone found to_find loads =
    let same = same_reads h.old.folder h.new.folder loads.reads to_find.reads loads.asks.told to_find.alike.told in
    (loads.comes.only (subst AreSteady (sym same) to_find.alike.steady) to_find.asked found
    (subst (λ (reads : List ReadNote). Comes (search_for line) reads to_find.asked found) (sym same) to_find.comes)).1

-- it is to be found too
finds_too : (line : Line) (h : Happened) (alone found : Finding) → IsToFind h line found → Loads (search_for line) alone h.old.folder h.new.folder → IsToFind h line alone
finds_too line h alone found to_find loads = record {
  reads = to_find.reads;
  alike = to_find.alike;
  asked = loads.asked;
  comes = subst (λ (reads : List ReadNote). Comes (search_for line) reads loads.asked alone)
      (same_reads h.old.folder h.new.folder loads.reads to_find.reads loads.asks.told to_find.alike.told) loads.comes.comes;
}

missing_suits : (path : List ℕ) (line : Line) (h : Happened) (found : Finding) → Agree (Fails path Absent) found → Suits found line (File path Missing) h
missing_suits path line h (Fails other Absent) a = ap (λ (p : List ℕ). File p Missing) a.0
missing_suits path line h (Fails other Long) a = absurd a.1
missing_suits path line h (Fails other (Faulty rule place ports)) a = absurd a.1
missing_suits path line h (Found loaded) a = absurd a

long_suits : (path : List ℕ) (line : Line) (h : Happened) (found : Finding) → Agree (Fails path Long) found → Suits found line (File path TooBig) h
long_suits path line h (Fails other Absent) a = absurd a.1
long_suits path line h (Fails other Long) a = ap (λ (p : List ℕ). File p TooBig) a.0
long_suits path line h (Fails other (Faulty rule place ports)) a = absurd a.1
long_suits path line h (Found loaded) a = absurd a

abbrev broken_at : Rule → Place → List PortId → List ℕ → Outcome
broken_at rule place ports path = File path (Broken rule place ports)

broken_suits : (path : List ℕ) (rule : Rule) (place : Place) (ports : List PortId) (line : Line) (h : Happened) (found : Finding) →
    Agree (Fails path (Faulty rule place ports)) found → IsToFind h line (Fails path (Faulty rule place ports)) → Suits found line (File path (Broken rule place ports)) h
broken_suits path rule place ports line h (Fails other Absent) a to_find = absurd a.1
broken_suits path rule place ports line h (Fails other Long) a to_find = absurd a.1
broken_suits path rule place ports line h (Fails other (Faulty another at loop)) a to_find = (
  ports,
  ap (broken_at rule place ports) a.0 ∙ ap (λ (r : Rule). broken_at r place ports other) a.1.0 ∙ ap (λ (p : Place). broken_at another p ports other) a.1.1,
  subst (λ (p : Place). IsToFind h line (Fails other (Faulty another p ports))) a.1.1
      (subst (λ (r : Rule). IsToFind h line (Fails other (Faulty r place ports))) a.1.0
      (subst (λ (x : List ℕ). IsToFind h line (Fails x (Faulty rule place ports))) a.0 to_find)),
)
broken_suits path rule place ports line h (Found loaded) a to_find = absurd a

-- the read of a file failed
last_unfailed : (reads : List ReadNote) (read : ReadNote) → AreUnfailed (reads ++ read ∷ []) → read.answer ≡ Err r.Failed → ⊥
last_unfailed reads read all =
    subst (λ (x : ReadNote). x.answer ≡ Err r.Failed → ⊥) (get_or_push reads read read (length reads) refl) (all (length reads) read (omega (arith, length_push reads read)))

failed_more : {A : Type 0} (line : Line) (path : List ℕ) (h : Happened) (reads : List ReadNote) → FailsToRead (search_for line) path h.old.folder h.new.folder → ReadsAlike h reads → A
failed_more line path h reads f alike =
    let read : ReadNote = record { path = path; answer = Err r.Failed } in
    let old = h.old.folder.reads in
    let after : h.new.folder.reads ≡ (old ++ f.reads) ++ read ∷ [] =
    ap (λ (v : FolderView). v.reads) f.told ∙ ap (λ (v : FolderView). v.reads ++ read ∷ []) f.asks.told in
    let same : f.reads ++ read ∷ [] ≡ reads =
    append_cancel_left old (f.reads ++ read ∷ []) reads (sym (append_assoc old f.reads (read ∷ [])) ∙ sym after ∙ ap (λ (v : FolderView). v.reads) alike.told) in
    absurd (last_unfailed f.reads read (subst AreUnfailed (sym same) alike.unfailed) refl)

file_suits : (fault : FileFault) (path : List ℕ) (line : Line) (h : Happened) (found : Finding) → FileFails (search_for line) fault path h.old.folder h.new.folder →
    IsToFind h line found → Suits found line (File path fault) h
file_suits Unread path line h found f to_find = failed_more line path h to_find.reads f to_find.alike
file_suits Missing path line h found f to_find = missing_suits path line h found (found_is line h (Fails path Absent) found to_find f)
file_suits TooBig path line h found f to_find = long_suits path line h found (found_is line h (Fails path Long) found to_find f)
file_suits (Broken rule place ports) path line h found f to_find =
    let alone = Fails path (Faulty rule place ports) in
    broken_suits path rule place ports line h found (found_is line h alone found to_find f) (finds_too line h alone found to_find f)

unloaded_suits : (o : Outcome) (line : Line) (h : Happened) (found : Finding) → LoadFacts o line h.old.folder h.new.folder → IsToFind h line found → (o ≡ Memory) ⊎ Suits found line o h
unloaded_suits Words line h found f to_find = absurd f
unloaded_suits Memory line h found f to_find = inl refl
unloaded_suits (File path fault) line h found f to_find = inr (file_suits fault path line h found f to_find)
unloaded_suits (Start component fault) line h found f to_find = absurd f
unloaded_suits (Ran e) line h found f to_find = absurd f
unloaded_suits Checked line h found f to_find = absurd f
unloaded_suits Untold line h found f to_find = absurd f

loaded_suits : (o : Outcome) (line : Line) (h : Happened) (made : Loaded) (found : Finding) → LoadsLine line made h.old.folder h.new.folder → SystemFacts line o made h.old.run h.new.run →
    Agree (Found made) found → Suits found line o h
loaded_suits o line h made (Fails path Absent) loads f a = absurd a
loaded_suits o line h made (Fails path Long) loads f a = absurd a
loaded_suits o line h made (Fails path (Faulty rule place ports)) loads f a = absurd a
loaded_suits o line h made (Found loaded) loads f a = record { made = made; agree = a; loads = loads; facts = f }

pub suits : (o : Outcome) (line : Line) (h : Happened) (found : Finding) → LineFacts o line h.old h.new → IsToFind h line found → (o ≡ Memory) ⊎ Suits found line o h
suits o line h found (Unloaded calm f) to_find = unloaded_suits o line h found f to_find
suits o line h found (OfSystem made loads f) to_find = inr (loaded_suits o line h made found loads f (found_is line h (Found made) found to_find loads))

-- a file that isn't taken has its line
pub file_exact : (fault : FileFault) (path : List ℕ) (n : ℕ) (o : Outcome) (h : Happened) → status_of (File path fault) ≡ n → HasPut o h →
    (o ≡ Memory) ⊎ (o ≡ File path fault) → AnswersOr11 h n (file_message path fault)
file_exact fault path n o h is p (inl e) = memory_or o n (file_message path fault) h p e
file_exact fault path n o h is p (inr e) =
    inr (answers (file_message path fault) n h (subst (λ (w : ℕ). Reports (Some (file_message path fault)) w h.status h.err h.err_after) is (subst (λ (x : Outcome). HasPut x h) e p)))

pub rule_exact : (path : List ℕ) (rule : Rule) (place : Place) (ports : List PortId) (o : Outcome) (line : Line) (h : Happened) → HasPut o h → IsToFind h line (Fails path (Faulty rule place ports)) →
    (o ≡ Memory) ⊎ Suits (Fails path (Faulty rule place ports)) line o h → TellsRule h line path rule place
rule_exact path rule place ports o line h p to_find (inl e) = (ports, to_find, memory_or o 4 (file_message path (Broken rule place ports)) h p e)
rule_exact path rule place ports o line h p to_find (inr s) = (s.0, s.2, file_exact (Broken rule place s.0) path 4 o h refl p (inr s.1))

-- ---- the peer

pub known_unknown : {A : Type 0} (b : Bool) → b ≡ true → b ≡ false → A
known_unknown b knows lacks = absurd (apart (sym knows ∙ lacks))
  where
    apart : true ≡ false → ⊥
    apart e = cc

pub run_known : (task : Task) (system : System) (end : RunEnd) (old new : Scene) → HasRun task system end old new → AreKnown task.host old.spawner system.components
run_known task system end old new (Went g) = g.traces.peers.known
run_known task system end old new (Broke bad is f) = f.traces.peers.known

-- of the first component that isn't known there is one
first_place : (host : List ℕ) (spawner : SpawnerView) (cs : List Component) (i j : ℕ) (c d : Component) → slice_get cs i ≡ Some c → spawner.knows host c.shape.identifier ≡ false → AreKnown host spawner (take j cs) → i < j → ⊥
first_place host spawner cs i j c d here unknown before less =
    known_unknown (spawner.knows host c.shape.identifier)
    (all_got (λ (x : Component). spawner.knows host x.shape.identifier ≡ true) (take j cs) i c before (slice_get-take_prefix cs j i less ∙ here)) unknown

one_unknown : (host : List ℕ) (spawner : SpawnerView) (cs : List Component) (i j : ℕ) (c d : Component) → IsFirstUnknown host spawner cs i c → IsFirstUnknown host spawner cs j d → c ≡ d
one_unknown host spawner cs i j c d a b = by (compare i j)
  where
    by : (i < j) ⊎ ((i ≡ j) ⊎ (j < i)) → c ≡ d
    by (inl less) = absurd (first_place host spawner cs i j c d a.here a.unknown b.before less)
    by (inr (inl same)) = same_Some c d (sym a.here ∙ ap (slice_get cs) same ∙ b.here)
    by (inr (inr more)) = absurd (first_place host spawner cs j i d c b.here b.unknown a.before more)

start_unknown : (task : Task) (system : System) (name : List ℕ) (old new : Scene) → (f : FailsToStart task system name Unknown old new) → IsFirstUnknown task.host old.spawner system.components f.place f.component
start_unknown task system name old new f = record { here = f.here; unknown = f.noted.1; before = f.known }

unknown_run : (o : Outcome) (task : Task) (system : System) (h : Happened) (place : ℕ) (c : Component) → RunFacts o task system h.old.run h.new.run → HasPut o h →
    IsFirstUnknown task.host h.old.run.spawner system.components place c → (Rose h.old.run.spawner.faults h.new.run.spawner.faults → ⊥) → AnswersOr11 h 5 (start_message c.name Unknown)
unknown_run Words task system h place c f p lacks quiet = absurd f
unknown_run Memory task system h place c f p lacks quiet = memory_or Memory 5 (start_message c.name Unknown) h p refl
unknown_run (File path fault) task system h place c f p lacks quiet = absurd f
unknown_run (Start name Failed) task system h place c f p lacks quiet = absurd (quiet (start_rose task system name h.old.run h.new.run f))
unknown_run (Start name Unknown) task system h place c f p lacks quiet =
    let same : f.component ≡ c = one_unknown task.host h.old.run.spawner system.components f.place place f.component c (start_unknown task system name h.old.run h.new.run f) lacks in
    let is : name ≡ c.name = f.name_is ∙ ap (λ (x : Component). x.name) same in
    inr (answers (start_message c.name Unknown) 5 h (subst (λ (x : List ℕ). Reports (Some (start_message x Unknown)) 5 h.status h.err h.err_after) is p))
unknown_run (Ran e) task system h place c f p lacks quiet =
    known_unknown (h.old.run.spawner.knows task.host c.shape.identifier)
    (all_got (λ (x : Component). h.old.run.spawner.knows task.host x.shape.identifier ≡ true) system.components place c (run_known task system f.0 h.old.run h.new.run f.2) lacks.here) lacks.unknown
unknown_run Checked task system h place c f p lacks quiet = absurd f
unknown_run Untold task system h place c f p lacks quiet = absurd f

pub asked_unasked : {A : Type 0} (asked : RunLine) (one : Option RunLine) → one ≡ Some asked → one ≡ None → A
asked_unasked asked one some none = absurd (apart (sym none ∙ some))
  where
    apart : None ≡ Some asked → ⊥
    apart e = cc

pub unknown_exact : (o : Outcome) (line : Line) (asked : RunLine) (loaded : Loaded) (place : ℕ) (c : Component) (h : Happened) → HasPut o h → run_in line ≡ Some asked →
    (o ≡ Memory) ⊎ LoadsAlike line h o loaded → IsFirstUnknown asked.host h.old.run.spawner loaded.system.components place c →
    (Rose h.old.run.spawner.faults h.new.run.spawner.faults → ⊥) → AnswersOr11 h 5 (start_message c.name Unknown)
unknown_exact o line asked loaded place c h p is_asked (inl e) lacks quiet = memory_or o 5 (start_message c.name Unknown) h p e
unknown_exact o line asked loaded place c h p is_asked (inr s) lacks quiet =
    by_run o line h s.made s.loads s.facts
    (λ it same f. unknown_run o (task_of it.asked it.loaded) it.loaded.system h place c f p
    (subst (λ (cs : List Component). IsFirstUnknown it.asked.host h.old.run.spawner cs place c) (sym (ap (λ (x : Loaded). x.system.components) same ∙ s.agree.0.0))
    (subst (λ (x : RunLine). IsFirstUnknown x.host h.old.run.spawner loaded.system.components place c) (same_Some asked it.asked (sym is_asked ∙ it.is_asked)) lacks)) quiet)
    (λ none f. asked_unasked asked (run_in line) is_asked none)

-- ---- the reading

file_read : (fault : FileFault) (path : List ℕ) (line : Line) (h : Happened) → FileFails (search_for line) fault path h.old.folder h.new.folder →
    Reports (Some (file_message path fault)) (status_of (File path fault)) h.status h.err h.err_after → ReadsFiles h line
file_read Unread path line h f p = Failing path f (answers (file_message path Unread) 3 h p)
file_read Missing path line h f p = Whole (Fails path Absent) f
file_read TooBig path line h f p = Whole (Fails path Long) f
file_read (Broken rule place ports) path line h f p = Whole (Fails path (Faulty rule place ports)) f

unloaded_reads : (o : Outcome) (line : Line) (h : Happened) → LoadFacts o line h.old.folder h.new.folder → HasPut o h → ReadsFiles h line
unloaded_reads Words line h f p = absurd f
unloaded_reads Memory line h f p = OutOfMemory f (answers memory_line 11 h p)
unloaded_reads (File path fault) line h f p = file_read fault path line h f p
unloaded_reads (Start component fault) line h f p = absurd f
unloaded_reads (Ran e) line h f p = absurd f
unloaded_reads Checked line h f p = absurd f
unloaded_reads Untold line h f p = absurd f

pub reading_some : (o : Outcome) (line : Line) (h : Happened) → LineFacts o line h.old h.new → HasPut o h → ReadsFiles h line
reading_some o line h (Unloaded calm f) p = unloaded_reads o line h f p
reading_some o line h (OfSystem made loads f) p = Whole (Found made) loads
