-- The rows of the check of a trace, and those of a system beside them.
use Rattle.std.proofs.Common.{◌≡◌, ◌∙◌, ℕ, List, [], inl, inr, refl, sym, ap, subst}
use Rattle.command_line.specs.Line.{Asked, IsAsked, IsLine, Line, OfBench, OfCheckpoint, OfResume, OfSystem, OfTrace, TraceLine}
use Rattle.built_in_laws.specs.BuiltInRuns.{BuiltInsBehaveWell}
use Rattle.system_files.specs.declared.loading.LoadError.{LoadError}
use Rattle.system_files.specs.declared.loading.LoadError.TheVariants as end
use Rattle.system_files.specs.declared.named.FileFault.{FileFault}
use Rattle.system_files.specs.declared.named.FileFault.TheVariants.{Unread, Missing, TooBig, Broken}
use Rattle.sim_base.specs.Folder.{FolderView}
use Rattle.system_files.specs.Files.{Absent, Faulty, Long}
use Rattle.system_files.specs.Loads as loads
use Rattle.system_files.specs.Loads.{ReadsSome}
use Rattle.system_files.specs.Order.{Search}
use Rattle.system_files.proofs.AskLemmas.{none_here}
use Rattle.checkpoint_loading.specs.Loading as rest
use Rattle.trace_judging.specs.Judging.{Lacks, LacksVerdict, Nothing}
use Rattle.run_program.specs.declared.outcome.Outcome.{Outcome}
use Rattle.run_program.specs.declared.outcome.Outcome.TheVariants.{Words, Memory, File}
use Rattle.run_program.specs.Bench.{RunsBench}
use Rattle.run_program.specs.Facts.{LacksLine, LineFacts, WithLine, WithoutLine}
use Rattle.run_program.specs.Happened.{Happened, Outside}
use Rattle.run_program.specs.Held.{NothingHeld, Resumed, RunsCheckpoint, RunsResume}
use Rattle.run_program.specs.Held as held
use Rattle.run_program.specs.Message.{file_message, file_status}
use Rattle.run_program.specs.Refusing.{TellsEnd}
use Rattle.run_program.specs.Rows.{Answers, KeepsSystemRows, memory_line}
use Rattle.run_program.specs.TraceCheck.{ChecksTrace, EndsCheck, FailsToRead, ForBench, ForCheckpoint, ForResume, ForTrace, IsOfOther, IsUntold, Judges, KeepsRows, OutOfMemory, question_of}
use Rattle.run_program.proofs.Exactly.{answers}
use Rattle.run_program.proofs.PeerLemmas.{none_begun}
use Rattle.run_program.proofs.Rows.{keeps_rows}
use Rattle.run_program.proofs.When.{HasPut}

-- ---- one command

-- what a command does that arguments ask for
abbrev pub RowsOf : Happened → Asked → Type 0
RowsOf h (OfSystem line) = KeepsSystemRows h
RowsOf h (OfTrace line) = ChecksTrace h line
RowsOf h (OfBench line) = RunsBench h line
RowsOf h (OfCheckpoint line) = RunsCheckpoint h line
RowsOf h (OfResume line) = RunsResume h line

-- arguments that ask for this and for nothing else
pub of_one : (h : Happened) (asked : Asked) → IsAsked h.words asked → ((other : Asked) → IsAsked h.words other → asked ≡ other) → RowsOf h asked → KeepsRows h
of_one h asked is only rows = record {
  system = by asked is rows;
  trace_check = λ line other. subst (RowsOf h) (only (OfTrace line) other) rows;
  bench = λ line other. subst (RowsOf h) (only (OfBench line) other) rows;
  checkpoint = λ line other. subst (RowsOf h) (only (OfCheckpoint line) other) rows;
  resume = λ line other. subst (RowsOf h) (only (OfResume line) other) rows;
}
  where
    by : (one : Asked) → IsAsked h.words one → RowsOf h one → (IsOfOther h → ⊥) → KeepsSystemRows h
    by (OfSystem line) it does none = does
    by (OfTrace line) it does none = absurd (none (ForTrace line it))
    by (OfBench line) it does none = absurd (none (ForBench line it))
    by (OfCheckpoint line) it does none = absurd (none (ForCheckpoint line it))
    by (OfResume line) it does none = absurd (none (ForResume line it))

-- arguments that are no command line
pub of_none : (h : Happened) → ((asked : Asked) → IsAsked h.words asked → ⊥) → KeepsSystemRows h → KeepsRows h
of_none h none rows = record {
  system = λ others. rows;
  trace_check = λ line is. absurd (none (OfTrace line) is);
  bench = λ line is. absurd (none (OfBench line) is);
  checkpoint = λ line is. absurd (none (OfCheckpoint line) is);
  resume = λ line is. absurd (none (OfResume line) is);
}

one_line : (one other : Line) → OfSystem one ≡ OfSystem other → one ≡ other
one_line one other e = cc

pub system_rows : BuiltInsBehaveWell → (o : Outcome) (h : Happened) (line : Line) → IsLine h.words line → ((asked : Asked) → IsAsked h.words asked → OfSystem line ≡ asked) →
    LineFacts o line h.old h.new → HasPut o h → KeepsRows h
system_rows behave o h line is only facts p =
    of_one h (OfSystem line) is only (keeps_rows behave o h (WithLine (record { line = line; is = is; only = λ other it. one_line line other (only (OfSystem other) it); facts = facts })) p)

pub no_line_rows : BuiltInsBehaveWell → (o : Outcome) (h : Happened) → o ≡ Words → h.new ≡ h.old → ((asked : Asked) → IsAsked h.words asked → ⊥) → HasPut o h → KeepsRows h
no_line_rows behave o h e same none p =
    of_none h none (keeps_rows behave o h (WithoutLine (record { why = subst (λ (x : Outcome). LacksLine x h.words) (sym e) (λ line is. none (OfSystem line) is); same = same })) p)

-- ---- no verdict

flaw_told : (fault : FileFault) (path : List ℕ) (h : Happened) (o : Outcome) → o ≡ File path fault → IsUntold h → HasPut o h → IsUntold h × Answers h (file_status fault) (file_message path fault)
flaw_told fault path h o e bare p = (bare, answers (file_message path fault) (file_status fault) h (subst (λ (x : Outcome). HasPut x h) e p))

answers_memory : (h : Happened) (o : Outcome) → o ≡ Memory → HasPut o h → Answers h 11 memory_line
answers_memory h o e p = answers memory_line 11 h (subst (λ (x : Outcome). HasPut x h) e p)

pub refused : (h : Happened) (line : TraceLine) (ended : LoadError) (o : Outcome) → LacksVerdict (question_of line) ended h.old.folder h.new.folder → TellsEnd ended o → IsUntold h → HasPut o h → EndsCheck h line
refused h line (end.File file Unread) o f tells bare p = FailsToRead file.path f bare (flaw_told Unread file.path h o tells bare p).1
refused h line (end.File file Missing) o f tells bare p = Judges (Lacks file.path Absent) f (bare, inr (flaw_told Missing file.path h o tells bare p).1)
refused h line (end.File file TooBig) o f tells bare p = Judges (Lacks file.path Long) f (bare, inr (flaw_told TooBig file.path h o tells bare p).1)
refused h line (end.File file (Broken rule place ports)) o f (inl tells) bare p =
    Judges (Lacks file.path (Faulty rule place ports)) f (bare, inr (flaw_told (Broken rule place ports) file.path h o tells bare p).1)
refused h line (end.File file (Broken rule place ports)) o f (inr tells) bare p = Judges (Lacks file.path (Faulty rule place ports)) f (bare, inl (answers_memory h o tells p))
refused h line end.Memory o f tells bare p = OutOfMemory f bare (answers_memory h o tells p)

-- no file is read
none_read : (s : Search) (old new : FolderView) → new ≡ old → ReadsSome s old new
none_read s old new same = record { reads = []; asked = []; some = loads.Nothing [] refl; asks = none_here old new same }

-- memory ran out when the arguments were read
pub unread_rows : BuiltInsBehaveWell → (o : Outcome) (h : Happened) → o ≡ Memory → h.new ≡ h.old → HasPut o h → KeepsRows h
unread_rows behave o h e same p = record {
  system = λ others. keeps_rows behave o h (WithoutLine (record { why = subst (λ (x : Outcome). LacksLine x h.words) (sym e) tt; same = same })) p;
  trace_check = λ line is. record {
    calm = ap (λ (s : Outside). s.run.spawner) same;
    ends = OutOfMemory (Nothing (ap (λ (s : Outside). s.folder) same)) (ap (λ (s : Outside). s.run.out) same) (answers_memory h o e p);
  };
  bench = λ line is. record {
    files = ap (λ (s : Outside). s.folder) same;
    outcome = Memory;
    facts = record { peers = []; are = tt; told = ap (λ (s : Outside). s.run.spawner) same ∙ none_begun h.old.run.spawner; out = ap (λ (s : Outside). s.run.out) same };
    told = subst (λ (x : Outcome). HasPut x h) e p;
  };
  checkpoint = λ line is. record {
    outcome = Memory;
    facts = held.Unloaded (ap (λ (s : Outside). s.run) same) (none_read (held.search_for line) h.old.folder h.new.folder (ap (λ (s : Outside). s.folder) same));
    told = subst (λ (x : Outcome). HasPut x h) e p;
  };
  resume = λ line is. Resumed Memory (NothingHeld (ap (λ (s : Outside). s.run) same) (rest.Nothing (ap (λ (s : Outside). s.folder) same)))
      (subst (λ (x : Outcome). HasPut x h) e p);
}
