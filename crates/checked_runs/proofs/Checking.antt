-- The check of a run's own trace comes to `yes`.
use Rattle.std.proofs.Common.{◌≡◌, ◌⊎◌, inl, inr, ℕ, List, [], ◌∷◌, ◌++◌, length, refl, sym, ap, ◌∙◌, subst, arith, append_assoc, append-nil}
use Rattle.std.specs.Prelude.{Contains, Result, Ok, Err}
use Rattle.std.proofs.lemmas.List.{append_cancel_left, get_or_push, length_push}
use Rattle.std.proofs.lemmas.List.Elements.{Contains-push_cases}
use Rattle.sim_base.specs.Asking.{AreUnfailed, paths_read, with_reads}
use Rattle.sim_base.specs.Folder.{FolderView, with_read}
use Rattle.sim_base.specs.ReadNotes.{read_of}
use Rattle.sim_base.specs.declared.folder.ReadFault.{ReadFault}
use Rattle.sim_base.specs.declared.folder.ReadFault.TheVariants as f
use Rattle.sim_base.specs.declared.read_book.ReadNote.{ReadNote}
use Rattle.system_model.specs.declared.plan.EndKind.{EndKind}
use Rattle.system_model.specs.declared.plan.Plan.{Plan}
use Rattle.system_model.specs.declared.system.System.{System}
use Rattle.system_model.specs.Text.{Instant, trace_text}
use Rattle.run_model.specs.Run.{Run}
use Rattle.trace_reading.specs.declared.trace.Trace.{Trace}
use Rattle.trace_reading.specs.Faults.{IsFirstFault}
use Rattle.trace_reading.specs.Form.{IsTextOf}
use Rattle.trace_reading.specs.Written.{IsWritable, trace_told}
use Rattle.trace_check.specs.declared.verdict.Verdict.{Verdict}
use Rattle.trace_check.specs.declared.verdict.Verdict.TheVariants.{Yes, No}
use Rattle.trace_laws.specs.Laws.{HasNoFault, IsReadByRules, IsToldInForm}
use Rattle.command_line.specs.Line.{RunLine, TraceLine}
use Rattle.command_line.specs.Line as lines
use Rattle.system_loading.specs.Assembly.{HaveSameParts}
use Rattle.system_files.specs.declared.loaded.Loaded.{Loaded}
use Rattle.system_files.specs.declared.subject.Subject.TheVariants as what
use Rattle.system_files.specs.declared.named.FileFault.TheVariants.{TooBig}
use Rattle.system_files.specs.Files.{Absent, AreSteady, Faulty, Flaw, HasFile, Holds, LacksFile, Long}
use Rattle.system_files.specs.Order.{Agree, Comes, Fails, Finding, Found, Search, search_of}
use Rattle.system_files.proofs.ComesLemmas.{more_comes}
use Rattle.trace_judging.specs.Judging.{ByRules, FailsReading, Gives, Judged, Judgement, Judges, Lacks, NoRule, NoSystem, NoTrace, OfSystem, OfTrace, OutOfForm, Question, IsVerdict, search_for}
use Rattle.run_program.specs.Facts.{LoadsLine}
use Rattle.run_program.specs.Happened.{Happened}
use Rattle.run_program.specs.Message.{file_message}
use Rattle.run_program.specs.Rows.{Answers, Says, memory_line}
use Rattle.run_program.specs.TraceCheck as check
use Rattle.run_program.specs.TraceCheck.{EndsCheck, FailsToRead, OutOfMemory, Tells, question_of}
use Rattle.run_program.proofs.When.{cut_short_rose}
use Rattle.checked_runs.specs.Laws.{AnswersYes, HasTrace, IsCheckOf}

-- ---- the reads of a check

none_read : (read : ReadNote) → Contains [] read → ⊥
none_read read h = let below = h.1 in omega (arith, below)

alone : (one : ReadNote) (path : List ℕ) (answer : Result (List ℕ) ReadFault) → Holds (one ∷ []) path answer → one.answer ≡ answer
alone one path answer h = elim (Contains-push_cases [] one (record { path = path; answer = answer }) h) [
  | inl none ↦ absurd (none_read (record { path = path; answer = answer }) none)
  | inr same ↦ ap (λ (read : ReadNote). read.answer) same
]

pub heads : (x y : ReadNote) (xs ys : List ReadNote) → x ∷ xs ≡ y ∷ ys → x ≡ y
heads x y xs ys e = cc

pub tails : (x y : ReadNote) (xs ys : List ReadNote) → x ∷ xs ≡ y ∷ ys → xs ≡ ys
tails x y xs ys e = cc

pub record IsParted (first rest : List ReadNote) (read : ReadNote) (later : List ReadNote) : Type 0 where
  pub first_is : first ≡ read ∷ []
  pub rest_is : rest ≡ later

parted : (first rest later : List ReadNote) (read : ReadNote) (path : List ℕ) → paths_read first ≡ path ∷ [] → first ++ rest ≡ read ∷ later → IsParted first rest read later
parted [] rest later read path once e = absurd (cc)
parted (x ∷ []) rest later read path once e = record { first_is = ap (λ (y : ReadNote). y ∷ []) (heads x read rest later e); rest_is = tails x read rest later e }
parted (x ∷ y ∷ xs) rest later read path once e = absurd (cc)

-- the read of a file got this
got : {A : Type 0} (Says : List ℕ → A → Type 0) (path : List ℕ) (a : A) (first : List ReadNote) (read : ReadNote) (bytes : List ℕ) → first ≡ read ∷ [] → read.answer ≡ Ok bytes →
    HasFile Says first path a → Says bytes a
got Says path a first read bytes is answer h =
    subst (λ (b : List ℕ). Says b a) (same h.2.0 h.2.1) h.2.3
  where
    held : read.answer ≡ h.0
    held = alone read path h.0 (subst (λ (reads : List ReadNote). Holds reads path h.0) is h.1)

    same : (b : List ℕ) → h.0 ≡ Ok b → b ≡ bytes
    same b e = let t = held in cc (t, answer, e)

lacking : (path : List ℕ) (flaw : Flaw) (first : List ReadNote) (read : ReadNote) (bytes : List ℕ) → first ≡ read ∷ [] → read.answer ≡ Ok bytes → LacksFile NoRule first path flaw → ⊥
lacking path Absent first read bytes is answer h = let t = alone read path h.0 (subst (λ (reads : List ReadNote). Holds reads path h.0) is h.1) in let e = h.2 in cc (t, answer, e)
lacking path Long first read bytes is answer h = let t = alone read path h.0 (subst (λ (reads : List ReadNote). Holds reads path h.0) is h.1) in let e = h.2.1 in cc (t, answer, e)
lacking path (Faulty rule place ports) first read bytes is answer h = h.2.1.3

-- a read that failed is none of reads of which none did
last_unfailed : (reads : List ReadNote) (read : ReadNote) → AreUnfailed (reads ++ read ∷ []) → read.answer ≡ Err f.Failed → ⊥
last_unfailed reads read all =
    subst (λ (x : ReadNote). x.answer ≡ Err f.Failed → ⊥) (get_or_push reads read read (length reads) refl) (all (length reads) read (omega (arith, length_push reads read)))

pub none_failed : (old mid new : FolderView) (some told : List ReadNote) (path : List ℕ) → mid ≡ with_reads old some → new ≡ with_read mid path (Err f.Failed) → new ≡ with_reads old told →
    AreUnfailed told → ⊥
none_failed old mid new some told path m failed is unfailed =
    let read = read_of path (Err f.Failed) in
    let after : new.reads ≡ (old.reads ++ some) ++ read ∷ [] = ap (λ (v : FolderView). v.reads) failed ∙ ap (λ (v : FolderView). v.reads ++ read ∷ []) m in
    let same : some ++ read ∷ [] ≡ told =
    append_cancel_left old.reads (some ++ read ∷ []) told (sym (append_assoc old.reads some (read ∷ [])) ∙ sym after ∙ ap (λ (v : FolderView). v.reads) is) in
    last_unfailed some read (subst AreUnfailed (sym same) unfailed) refl

pub both_read : (old mid new : FolderView) (some more : List ReadNote) → mid ≡ with_reads old some → new ≡ with_reads mid more → new ≡ with_reads old (some ++ more)
both_read old mid new some more m n =
    n ∙ ap (λ (v : FolderView). with_reads v more) m ∙ ap (λ (reads : List ReadNote). record old { reads = reads }) (append_assoc old.reads some more)

no_failure : (q : Question) (path : List ℕ) (old new : FolderView) (told : List ReadNote) → FailsReading q path old new → new ≡ with_reads old told → AreUnfailed told → ⊥
no_failure q path old new told (OfTrace is failed) n unfailed = none_failed old old new [] told path (none old) failed n unfailed
  where
    none : (v : FolderView) → v ≡ with_reads v []
    none v = ap (λ (reads : List ReadNote). record v { reads = reads }) (sym (append-nil v.reads))
no_failure q path old new told (OfSystem t mid takes fails) n unfailed =
    none_failed old fails.mid new (takes.reads ++ fails.reads) told path (both_read old mid fails.mid takes.reads fails.reads takes.asks.told fails.asks.told) fails.told n unfailed

-- ---- out of memory

module _ (k : Happened) (line : TraceLine) (asked : RunLine) (answer : Result (List ℕ) ReadFault) (reads : List ReadNote) (c : IsCheckOf k line asked answer reads) where
  -- a line on err was put
  put_so : (n : ℕ) (text : List ℕ) → Answers k n text → (k.status ≡ n) × Says k text
  put_so n text (inl p) = p
  put_so n text (inr mute) = absurd (c.err (cut_short_rose text k.err k.err_after mute.1))

  first_read : (j : Judgement) (judged : Judged (question_of line) j k.old.folder k.new.folder) → IsParted judged.first judged.rest (read_of line.file answer) c.later
  first_read j judged =
      parted judged.first judged.rest c.later (read_of line.file answer) line.file judged.once
      (append_cancel_left k.old.folder.reads (judged.first ++ judged.rest) (read_of line.file answer ∷ c.later) (ap (λ (v : FolderView). v.reads) (sym judged.asks.told ∙ c.told)))

-- ---- the whole text

pub record Texts : Type 0 where
  pub one : (bytes : List ℕ) (t u : Trace) → IsTextOf bytes t → IsTextOf bytes u → t ≡ u
  pub written : (system : System) (plan : Plan) (instants : List Instant) (kind : EndKind) (point : ℕ) → IsWritable system plan instants point →
      IsTextOf (trace_text system plan instants kind point) (trace_told system plan instants kind point)
  pub form : IsToldInForm
  pub fault : HasNoFault
  pub read : IsReadByRules

module _ (laws : Texts) (h k : Happened) (asked : RunLine) (loaded : Loaded) (line : TraceLine) (r : Run) (is : List Instant) (kind : EndKind) (point : ℕ)
    (loading : LoadsLine (lines.Run asked) loaded h.old.folder h.new.folder) (steady : AreSteady loading.reads) (has : HasTrace asked loaded r is kind point)
    (c : IsCheckOf k line asked (Ok (trace_text r.system r.plan is kind point)) loading.reads) where
  abbrev bytes : List ℕ
  bytes = trace_text r.system r.plan is kind point

  abbrev told : Trace
  told = trace_told r.system r.plan is kind point

  -- the trace that is read is that of the run
  same_trace : (t : Trace) → IsTextOf bytes t → told ≡ t
  same_trace t text = laws.one bytes told t (laws.written r.system r.plan is kind point (laws.form r is kind point has.trace)) text

  same_search : (t : Trace) → IsTextOf bytes t → search_for (question_of line) t ≡ search_of what.System asked.directory asked.plan.resolution
  same_search t text =
      ap (λ (u : Trace). search_of what.System line.directory u.resolution) (sym (same_trace t text))
      ∙ ap (λ (p : Plan). search_of what.System line.directory p.resolution) has.plan_is
      ∙ ap (λ (d : List ℕ). search_of what.System d asked.plan.resolution) c.directory

  -- what the files of the check come to agrees with what was loaded
  agrees : (t : Trace) (rest : List ReadNote) (others : List (List ℕ)) (finding : Finding) → IsTextOf bytes t → rest ≡ c.later → Comes (search_for (question_of line) t) rest others finding →
      Agree (Found loaded) finding
  agrees t rest others finding text is comes =
      (loading.comes.only steady others finding
      (subst (λ (s : Search). Comes s loading.reads others finding) (same_search t text)
      (more_comes c.later loading.reads c.same (search_for (question_of line) t) others finding
      (subst (λ (reads : List ReadNote). Comes (search_for (question_of line) t) reads others finding) is comes)))).1

  ends_yes : (verdict : Verdict) (t : Trace) (other : Loaded) → IsTextOf bytes t → HaveSameParts loaded.system other.system → Tells k (Gives verdict) →
      ((l rule : ℕ) → verdict ≡ No l rule → ⊥) → AnswersYes k
  ends_yes Yes t other text parts (inl told) never = inl told
  ends_yes Yes t other text parts (inr cut) never = absurd (c.out (cut_short_rose _ k.old.run.out k.new.run.out cut.0))
  ends_yes (No l rule) t other text parts tells never = absurd (never l rule refl)

  judged_yes : (j : Judgement) (judged : Judged (question_of line) j k.old.folder k.new.folder) → Tells k j → AnswersYes k
  judged_yes j judged tells = by judged.asked j judged.judges tells
    where
      p : IsParted judged.first judged.rest (read_of line.file (Ok bytes)) c.later
      p = first_read k line asked (Ok bytes) loading.reads c j judged

      by : (paths : List (List ℕ)) (x : Judgement) → Judges (question_of line) judged.first judged.rest paths x → Tells k x → AnswersYes k
      by paths x (NoTrace flaw a y lacks asks e) tells = absurd (lacking line.file flaw judged.first (read_of line.file (Ok bytes)) bytes p.first_is refl lacks)
      by paths x (OutOfForm n a y fault asks e) tells =
          absurd (laws.fault r is kind point has.trace bytes refl n (got IsFirstFault line.file n judged.first (read_of line.file (Ok bytes)) bytes p.first_is refl fault))
      by paths x (NoSystem t path flaw others a y holds comes asks e) tells =
          absurd (agrees t judged.rest others (Fails path flaw) (got IsTextOf line.file t judged.first (read_of line.file (Ok bytes)) bytes p.first_is refl holds) p.rest_is comes)
      by paths x (ByRules t other verdict others a y holds comes verdict_is asks e) tells =
          let text = got IsTextOf line.file t judged.first (read_of line.file (Ok bytes)) bytes p.first_is refl holds in
          let parts = (agrees t judged.rest others (Found other) text p.rest_is comes).0 in
          let keeps = laws.read r is kind point has.trace bytes refl t text other.system (has.parts.0 ∙ parts.0) (has.parts.1 ∙ parts.1) in
          ends_yes verdict t other text parts (subst (Tells k) e tells)
          (λ l rule v. let first = subst (IsVerdict other.system t) v verdict_is in keeps l rule first.breaks)

  pub checked : AnswersYes k
  checked = by c.checks.ends
    where
      by : EndsCheck k line → AnswersYes k
      by (check.Judges j judged tells) = judged_yes j judged tells
      by (FailsToRead path fails bare answers) = absurd (no_failure (question_of line) path k.old.folder k.new.folder (read_of line.file (Ok bytes) ∷ c.later) fails c.told c.unfailed)
      by (OutOfMemory few bare answers) = inr (put_so k line asked (Ok bytes) loading.reads c 11 memory_line answers).0

-- ---- a file past its limit

module _ (k : Happened) (line : TraceLine) (asked : RunLine) (reads : List ReadNote) (n : ℕ) (c : IsCheckOf k line asked (Err (f.TooBig n)) reads) where
  -- the read got no file
  nothing_said : {A : Type 0} (P : List ℕ → A → Type 0) (a : A) (first : List ReadNote) → first ≡ read_of line.file (Err (f.TooBig n)) ∷ [] → HasFile P first line.file a → ⊥
  nothing_said P a first is h =
      let t = alone (read_of line.file (Err (f.TooBig n))) line.file h.0 (subst (λ (rs : List ReadNote). Holds rs line.file h.0) is h.1) in
      let e = h.2.1 in cc (t, e)

  long_alone : (flaw : Flaw) (first : List ReadNote) → first ≡ read_of line.file (Err (f.TooBig n)) ∷ [] → LacksFile NoRule first line.file flaw → flaw ≡ Long
  long_alone Absent first is h =
      let t = alone (read_of line.file (Err (f.TooBig n))) line.file h.0 (subst (λ (rs : List ReadNote). Holds rs line.file h.0) is h.1) in
      let e = h.2 in absurd (cc (t, e))
  long_alone Long first is h = refl
  long_alone (Faulty rule place ports) first is h = absurd (h.2.1.3)

  abbrev IsTold : Type 0
  IsTold = ((k.status ≡ 3) × Says k (file_message line.file TooBig)) ⊎ (k.status ≡ 11)

  told_long : Tells k (Lacks line.file Long) → IsTold
  told_long (bare, inl memory) = inr (put_so k line asked (Err (f.TooBig n)) reads c 11 memory_line memory).0
  told_long (bare, inr long) = inl (put_so k line asked (Err (f.TooBig n)) reads c 3 (file_message line.file TooBig) long)

  judged_long : (j : Judgement) (judged : Judged (question_of line) j k.old.folder k.new.folder) → Tells k j → IsTold
  judged_long j judged tells = by judged.asked j judged.judges tells
    where
      p : IsParted judged.first judged.rest (read_of line.file (Err (f.TooBig n))) c.later
      p = first_read k line asked (Err (f.TooBig n)) reads c j judged

      by : (paths : List (List ℕ)) (x : Judgement) → Judges (question_of line) judged.first judged.rest paths x → Tells k x → IsTold
      by paths x (NoTrace flaw a y lacks asks e) tells =
          told_long (subst (λ (w : Flaw). Tells k (Lacks line.file w)) (long_alone flaw judged.first p.first_is lacks) (subst (Tells k) e tells))
      by paths x (OutOfForm m a y fault asks e) tells = absurd (nothing_said IsFirstFault m judged.first p.first_is fault)
      by paths x (NoSystem t path flaw others a y holds comes asks e) tells = absurd (nothing_said IsTextOf t judged.first p.first_is holds)
      by paths x (ByRules t other verdict others a y holds comes verdict_is asks e) tells = absurd (nothing_said IsTextOf t judged.first p.first_is holds)

  pub long : IsTold
  long = by c.checks.ends
    where
      by : EndsCheck k line → IsTold
      by (check.Judges j judged tells) = judged_long j judged tells
      by (FailsToRead path fails bare answers) = absurd (no_failure (question_of line) path k.old.folder k.new.folder (read_of line.file (Err (f.TooBig n)) ∷ c.later) fails c.told c.unfailed)
      by (OutOfMemory few bare answers) = inr (put_so k line asked (Err (f.TooBig n)) reads c 11 memory_line answers).0
