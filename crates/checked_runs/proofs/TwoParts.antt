-- What `checkpoint` and then `resume` put is what `run` puts.
use Rattle.std.proofs.Common.{◌≡◌, ◌⊎◌, inl, inr, ℕ, ◌≤◌, true, List, [], ◌∷◌, ◌++◌, length, map, refl, sym, ap, ◌∙◌, subst, arith, append_assoc, append-nil}
use Rattle.std.specs.Prelude.{Err, Ok}
use Rattle.std.proofs.lemmas.List.{append_cancel_left, map-append}
use Rattle.std.proofs.lemmas.List.Elements.{All-cons}
use Rattle.sim_base.specs.Asking.{AreUnfailed, with_reads}
use Rattle.sim_base.specs.Folder.{FolderView}
use Rattle.sim_base.specs.ReadNotes.{read_of}
use Rattle.sim_base.specs.Sink.{SinkView, with_piece}
use Rattle.sim_base.specs.declared.folder.ReadFault.TheVariants as f
use Rattle.sim_base.specs.declared.read_book.ReadNote.{ReadNote}
use Rattle.system_model.specs.declared.plan.EndKind.{EndKind}
use Rattle.system_model.specs.declared.plan.EndKind.TheVariants as K
use Rattle.system_model.specs.declared.plan.Plan.{Plan}
use Rattle.system_model.specs.declared.system.Component.{Component}
use Rattle.system_model.specs.declared.system.Port.{Port}
use Rattle.system_model.specs.declared.system.System.{System}
use Rattle.system_model.specs.Text.{Instant, end_text}
use Rattle.fmu_peer.specs.Start.{SpawnerView}
use Rattle.fmu_peer.specs.View.{View}
use Rattle.slot_calls.specs.declared.bad_answer.BadAnswer.{BadAnswer}
use Rattle.system_files.specs.Holding.{search_by}
use Rattle.run_model.specs.Behaved.{WellBehaved}
use Rattle.run_model.specs.Laws.{OneTrace}
use Rattle.run_model.specs.Run.{Run, Situation}
use Rattle.run_model.specs.Trace.{IsTrace}
use Rattle.run_rest.specs.Held.{Held, HeldAt}
use Rattle.run_rest.specs.Laws.{Splits, StepsInTwo, StepsWithin}
use Rattle.held_laws.specs.Laws.{StepsOn}
use Rattle.trace_text.specs.Holding.{IsHoldable}
use Rattle.system_checkpoint.specs.declared.snapshot.Snapshot.{Snapshot}
use Rattle.system_checkpoint.specs.First.{HasPlan}
use Rattle.system_checkpoint.specs.Plans.{BeginsWithPlan, HasOnePlan}
use Rattle.system_checkpoint.specs.Spelling.{AllBy, CanBeHeld, FitsFile, HasArming, HasEvent, HasTimes, IsState, IsWord, KeepsOne, SpellsAll, SpellsFew}
use Rattle.system_checkpoint.specs.Whole.{Checkpoint, is_asked, may_be_armed}
use Rattle.calling_sequence.specs.declared.run_end.RunEnd.{RunEnd}
use Rattle.calling_sequence.specs.declared.run_end.RunEnd.TheVariants as E
use Rattle.calling_sequence.specs.Ends.{header_of, pieces_of, text_of, trace_pieces}
use Rattle.calling_sequence.specs.Holding.{PutsPiece}
use Rattle.calling_sequence.specs.Puts.{with_pieces}
use Rattle.machine_courses.specs.Held.{EndsEarly, KeepsRun, checkpoint_of, ends_before, packings_of}
use Rattle.machine_courses.specs.Outcomes.{PutsTraceIn, rest_after}
use Rattle.step_master.specs.Sessions.{Account}
use Rattle.session_laws.specs.Traced as T
use Rattle.session_laws.specs.Traced.{HoldsWell, TracesWellIn, output_of}
use Rattle.alike_runs.specs.Alike.{AreAlike}
use Rattle.alike_runs.proofs.Alike.{behave_alike, by_parts, held_alike, puts_alike, read_back_alike, takes_alike, trace_alike}
use Rattle.command_line.specs.Line.{CheckpointLine, ResumeLine}
use Rattle.command_line.specs.Line as lines
use Rattle.system_loading.specs.Assembly.{HaveSameParts}
use Rattle.system_files.specs.declared.loaded.Loaded.{Loaded}
use Rattle.system_files.specs.Files.{AreSteady, Flaw}
use Rattle.system_files.specs.Holding.{ComesHeld, LoadsHeld}
use Rattle.system_files.proofs.MoreLemmas.{AreAmong}
use Rattle.system_files.specs.Order.{Agree, Comes, Fails, Finding, Found, Search}
use Rattle.checkpoint_loading.specs.Loading as Q
use Rattle.checkpoint_loading.specs.Loading.{FailsReading, IsRead, checkpoint_max, Lacks, Loads, NoCheckpoint, Rests, header_by}
use Rattle.run_program.specs.Facts.{search_for, task_of}
use Rattle.run_program.specs.Happened.{Happened}
use Rattle.run_program.specs.Held.{BrokeOff, GoesOn, HasGoneOn, HasHeld, Holds, WentBack, WentOn, question_of, rest_of}
use Rattle.run_program.specs.Held as held
use Rattle.run_program.specs.Message.{why_status}
use Rattle.run_program.specs.Runs.{Fails as FailsToRun, RunsPeers, Task, TracesOnce}
use Rattle.run_program.proofs.Commands as C
use Rattle.run_program.proofs.Commands.{Ended, GoesOnIn, HoldsIn, NoRest, NoRestThere, NoSystem, NotStarted, RestEnded, RestNotStarted, RestOutOfMemory, UnreadFile, UnreadRest, end_code, goes_on_in, holds_in, link_code}
use Rattle.checked_runs.specs.TwoParts.{AtNone, AtStep, IsCheckpoint, IsCutAfter, IsParted, IsResume, IsRun, Joins, PutsStates, OutOfMemory, Puts, RunsInParts, RunsOut, Shared, TakesStates, checkpoint_line, checkpoint_text, rest_pieces, run_in}
use Rattle.checked_runs.proofs.Checking.{both_read, heads, none_failed, tails}
use Rattle.checked_runs.proofs.Later.{is_cut}
use Rattle.checked_runs.proofs.OneRun.{Ran, back, has_run, kind_code, of_parts, tells, with_loaded}
use Rattle.checked_runs.proofs.SameFiles.{found_held, none_held, none_lacks, none_unread, only_run, same_reads, steady_too, unfailed_too}

pub record Laws : Type 0 where
  pub one : OneTrace
  pub steps : StepsOn
  pub splits : Splits
  pub two : StepsInTwo
  pub all : SpellsAll
  pub keeps : KeepsOne
  pub few : SpellsFew
  pub fits : FitsFile
  pub one_plan : HasOnePlan
  pub begins : BeginsWithPlan

-- ---- texts

-- the text of a trace is that of its front and of its rest
pieces_parted : (system : System) (plan : Plan) (prefix later : List Instant) (kind : EndKind) (point : ℕ) → trace_pieces system plan (prefix ++ later) kind point ≡ pieces_of system plan prefix ++ rest_pieces later kind point
pieces_parted system plan prefix later kind point =
    ap (λ (texts : List (List ℕ)). (header_of system plan ∷ texts) ++ end_text kind point ∷ []) (map-append text_of prefix later)
    ∙ append_assoc (header_of system plan ∷ map text_of prefix) (map text_of later) (end_text kind point ∷ [])

-- alike runs have the same text, and the same checkpoint
pieces_alike : (r q : Run) → AreAlike r q → (is : List Instant) (pieces : List (List ℕ)) (kind : EndKind) (point : ℕ) → pieces ≡ trace_pieces r.system r.plan is kind point → pieces ≡ trace_pieces q.system q.plan is kind point
pieces_alike r q same is pieces kind point =
    by_parts (λ (x : Run). pieces ≡ trace_pieces x.system x.plan is kind point) (λ cs ps bound ms plan one other e. e) r q same

text_alike : (r q : Run) → AreAlike r q → (z : Situation) (bytes : List ℕ) → bytes ≡ checkpoint_text r z → bytes ≡ checkpoint_text q z
text_alike r q same z bytes = by_parts (λ (x : Run). bytes ≡ checkpoint_text x z) (λ cs ps bound ms plan one other e. e) r q same

kept_alike : (r q : Run) → AreAlike r q → (z : Situation) (held : Snapshot) → held ≡ checkpoint_of r z → held ≡ checkpoint_of q z
kept_alike r q same z held = by_parts (λ (x : Run). held ≡ checkpoint_of x z) (λ cs ps bound ms plan one other e. e) r q same

-- what can be held of one system can be of each of the same parts
can_too : (one other : System) (held : Snapshot) → HaveSameParts one other → CanBeHeld one held → CanBeHeld other held
can_too one other held same can = record {
  limits = can.limits;
  states = subst (λ (cs : List Component). AllBy IsState cs held.states) same.0 can.states;
  words = subst (λ (ps : List Port). AllBy IsWord ps held.words) same.1 can.words;
  times = subst (λ (ps : List Port). AllBy (λ (port : Port). HasTimes (is_asked port.role)) ps held.times) same.1 can.times;
  armings = subst (λ (ps : List Port). AllBy (λ (port : Port). HasArming held (may_be_armed port.role)) ps held.armings) same.1 can.armings;
  events = subst (λ (cs : List Component). AllBy (HasEvent held) cs held.events) same.0 can.events;
}

header_too : (one other : System) (plan : Plan) → HaveSameParts one other → header_by one plan ≡ header_by other plan
header_too one other plan same =
    ap (λ (cs : List Component). header_by (record one { components = cs }) plan) same.0
    ∙ ap (λ (ps : List Port). header_by (record one { components = other.components; ports = ps }) plan) same.1

held_at : (r q : Run) → AreAlike r q → (at : ℕ) (prefix : List Instant) (z : Situation) → HeldAt r at prefix z → HeldAt q at prefix z
held_at r q same at prefix z h = record { held = held_alike r q same prefix z h.held; reached = h.reached; first = h.first }

-- what two calls put of one trace
module _ (laws : Laws) (h : Happened) (x : Shared) (run : IsRun h x) (keeps : PutsStates (run_in x)) (can : IsHoldable x.loaded.system x.asked.plan) where
  came : Ran h x
  came = has_run h x run keeps.well

  -- the run of what the call loaded
  abbrev r : Run
  r = run_in (with_loaded x came.made)

  alike : AreAlike (run_in x) r
  alike = of_parts x came.made came.parts came.bound

  well : WellBehaved r
  well = behave_alike (run_in x) r alike keeps.well

  steps : StepsWithin r
  steps = laws.steps r well

  only : (others : List (List ℕ)) (other : Finding) → Comes (search_for (lines.Run x.asked)) x.reads others other → Agree (Found x.loaded) other
  only = only_run h x run

  -- all of the run's text
  wrote : Puts h (trace_pieces x.loaded.system x.asked.plan came.is came.kind came.point)
  wrote =
      came.out ∙ ap (with_pieces h.old.run.out) (pieces_alike r (run_in x) (back alike refl) came.is (trace_pieces r.system r.plan came.is came.kind came.point) came.kind came.point refl)

  one_end : (is : List Instant) (kind : EndKind) (point : ℕ) → IsTrace r is kind point → (came.is ≡ is) × (came.kind ≡ kind) × (came.point ≡ point)
  one_end is kind point trace = laws.one r came.sound came.machines_are came.is is came.kind kind came.point point came.trace trace

  wrote_so : (is : List Instant) (kind : EndKind) (point : ℕ) → (came.is ≡ is) × (came.kind ≡ kind) × (came.point ≡ point) → Puts h (trace_pieces x.loaded.system x.asked.plan is kind point)
  wrote_so is kind point same =
      subst (λ (js : List Instant). Puts h (trace_pieces x.loaded.system x.asked.plan js kind point)) same.0
      (subst (λ (k : EndKind). Puts h (trace_pieces x.loaded.system x.asked.plan came.is k point)) same.1
      (subst (λ (p : ℕ). Puts h (trace_pieces x.loaded.system x.asked.plan came.is came.kind p)) same.2 wrote))

  -- ---- the rest of the run

  module _ (prefix : List Instant) (z : Situation) (held_there : Held r prefix z) where
    joins : (j : Happened) (later : List Instant) (kind : EndKind) (point : ℕ) → IsTrace r (prefix ++ later) kind point → Puts j (rest_pieces later kind point) → j.status ≡ kind_code kind → Joins h j (run_in x) prefix z.t
    joins j later kind point trace puts status =
        let same = one_end (prefix ++ later) kind point trace in
        let parted = laws.splits r came.sound came.machines_are prefix (prefix ++ later) kind point z held_there trace in
        let rest : later ≡ parted.0 = append_cancel_left prefix later parted.0 parted.1 in
        record {
          later = later;
          kind = kind;
          point = point;
          cut = subst (λ (is : List Instant). IsCutAfter prefix is z.t) (sym rest) (is_cut r steps laws.two prefix z held_there parted.0 kind point parted.2);
          whole = wrote_so (prefix ++ later) kind point same ∙ ap (with_pieces h.old.run.out) (pieces_parted x.loaded.system x.asked.plan prefix later kind point);
          rest = puts;
          status = status ∙ sym (ap kind_code same.1) ∙ sym came.status;
        }

  -- ---- a resume

  module _ (prefix : List Instant) (z : Situation) (there : Held (run_in x) prefix z) (begun : x.asked.plan.start ≤ z.t) (kept : CanBeHeld x.loaded.system (checkpoint_of (run_in x) z))
      (j : Happened) (rest : ResumeLine) (c : IsResume j x (checkpoint_text (run_in x) z) rest) (takes : TakesStates (run_in x) rest.link) where
    abbrev line : ResumeLine
    line = record rest { directory = x.asked.directory }

    abbrev bytes : List ℕ
    bytes = checkpoint_text (run_in x) z

    abbrev snapshot : Snapshot
    snapshot = checkpoint_of (run_in x) z

    abbrev kept_plan : Plan
    kept_plan = record x.asked.plan { workers = 1; link = 1 }

    abbrev s : Search
    s = search_for (lines.Run x.asked)

    kept_can : IsHoldable x.loaded.system kept_plan
    kept_can = record { serializes = can.serializes; header = can.header }

    -- over each system of the same parts the bytes are the checkpoint
    is_checkpoint : (system : System) → HaveSameParts x.loaded.system system → Checkpoint system (header_by system kept_plan) snapshot bytes
    is_checkpoint system same =
        subst (λ (text : List ℕ). Checkpoint system text snapshot bytes) (header_too x.loaded.system system kept_plan same)
        (laws.all system (header_by x.loaded.system kept_plan) snapshot (let short = can.header in omega (arith, short)) (can_too x.loaded.system system snapshot same kept))

    has_plan : HasPlan bytes kept_plan
    has_plan = laws.begins x.loaded.system (header_by x.loaded.system kept_plan) snapshot bytes (is_checkpoint x.loaded.system (refl, refl))

    few : (length x.loaded.system.components ≤ 256) × (length x.loaded.system.ports ≤ 65536)
    few = (
      subst (λ (cs : List Component). length cs ≤ 256) (sym came.parts.0) came.sound.components.few,
      subst (λ (ps : List Port). length ps ≤ 65536) (sym came.parts.1) came.sound.ports.few,
    )

    -- the file has room for it
    short : length bytes ≤ checkpoint_max
    short =
        let header = length (header_by x.loaded.system kept_plan) in
        let most = laws.few x.loaded.system (header_by x.loaded.system kept_plan) snapshot kept in
        let fits = laws.fits (length x.loaded.system.components) (length x.loaded.system.ports) header few.0 few.1 can.header in
        omega (arith, most, fits)

    -- ---- what the files come to

    abbrev all_reads : List ReadNote
    all_reads = read_of rest.file (Ok bytes) ∷ c.rereads.later

    all_unfailed : AreUnfailed all_reads
    all_unfailed = All-cons (λ (read : ReadNote). read.answer ≡ Err f.Failed → ⊥) (read_of rest.file (Ok bytes)) c.rereads.later (λ e. cc e) (unfailed_too c.rereads.later x.reads c.rereads.same run.alike.unfailed)

    module _ (finding : Q.Finding) (l : Loads (question_of line) finding j.old.folder j.new.folder) where
      lists : read_of rest.file l.answer ∷ l.rest ≡ all_reads
      lists =
          append_cancel_left j.old.folder.reads (read_of rest.file l.answer ∷ l.rest) all_reads
          (sym (append_assoc j.old.folder.reads (read_of rest.file l.answer ∷ []) l.rest)
          ∙ ap (λ (v : FolderView). v.reads ++ l.rest) (sym l.told)
          ∙ ap (λ (v : FolderView). v.reads) (sym l.asks.told ∙ c.rereads.told))

      answer_is : l.answer ≡ Ok bytes
      answer_is = ap (λ (read : ReadNote). read.answer) (heads (read_of rest.file l.answer) (read_of rest.file (Ok bytes)) l.rest c.rereads.later lists)

      among : AreAmong l.rest x.reads
      among = subst (λ (rs : List ReadNote). AreAmong rs x.reads) (sym (tails (read_of rest.file l.answer) (read_of rest.file (Ok bytes)) l.rest c.rereads.later lists)) c.rereads.same

      steady : AreSteady l.rest
      steady = steady_too x.reads run.alike.steady l.rest among

      same_bytes : (other : List ℕ) → IsRead l.answer other → other ≡ bytes
      same_bytes other read = let told = sym read.0 ∙ answer_is in cc told

      same_plan : (other : List ℕ) (plan : Plan) → IsRead l.answer other → HasPlan other plan → plan ≡ kept_plan
      same_plan other plan read has = laws.one_plan bytes plan kept_plan (subst (λ (b : List ℕ). HasPlan b plan) (same_bytes other read) has) has_plan

      abbrev ComesSo : List (List ℕ) → Plan → Finding → Type 0
      ComesSo asked plan to = ComesHeld (search_by x.asked.directory plan) plan l.rest asked to

      same_system : (asked : List (List ℕ)) (plan : Plan) (loaded : Loaded) → plan ≡ kept_plan → ComesSo asked plan (Found loaded) → Agree (Found x.loaded) (Found loaded)
      same_system asked plan loaded is comes =
          found_held s x.reads run.alike.steady x.loaded only kept_plan kept_can loaded l.rest asked among (subst (λ (p : Plan). ComesSo asked p (Found loaded)) is comes)

      -- a system there, with the plan, would be gone on with
      whole : (asked : List (List ℕ)) (loaded : Loaded) → ComesSo asked kept_plan (Found loaded) → Q.Comes (question_of line) l.answer l.rest asked (Rests loaded snapshot)
      whole asked loaded comes =
          Q.Whole bytes kept_plan loaded snapshot asked (Rests loaded snapshot) (answer_is, short) has_plan comes (is_checkpoint loaded.system (same_system asked kept_plan loaded refl comes).0) refl

      -- it comes to what was held, and to nothing else
      abbrev ComesTo : Q.Finding → Type 0
      ComesTo to = (loaded : Loaded) × (to ≡ Rests loaded snapshot) × Agree (Found x.loaded) (Found loaded)

      comes_to : (asked : List (List ℕ)) (to : Q.Finding) → finding ≡ to → Q.Comes (question_of line) l.answer l.rest asked to → ComesTo to
      comes_to asked to e (Q.NoFile _ _ missing a is) = absurd (let told = sym missing ∙ answer_is in cc told)
      comes_to asked to e (Q.LongFile n _ _ long past a is) = absurd (let told = sym long ∙ answer_is in cc told)
      comes_to asked to e (Q.NoPlan other at _ _ read none a is) = absurd (none.none kept_plan (subst (λ (b : List ℕ). HasPlan b kept_plan) (sym (same_bytes other read)) has_plan))
      comes_to asked to e (Q.NoSystem other plan path flaw _ _ read has comes is) =
          absurd (none_lacks s x.reads run.alike.steady x.loaded only kept_plan kept_can path flaw l.rest asked among
          (subst (λ (p : Plan). ComesSo asked p (Fails path flaw)) (same_plan other plan read has) comes)
          (λ others other there. subst (λ (to : Q.Finding). Q.Agree to (Rests other snapshot)) (e ∙ is) (l.only steady others (Rests other snapshot) (whole others other there)).1))
      comes_to asked to e (Q.NoRest other plan loaded at _ _ read has comes bad is) =
          let same : plan ≡ kept_plan = same_plan other plan read has in
          let parts = (same_system asked plan loaded same comes).0 in
          absurd (bad.none snapshot
          (subst (λ (b : List ℕ). Checkpoint loaded.system (header_by loaded.system plan) snapshot b) (sym (same_bytes other read))
          (subst (λ (p : Plan). Checkpoint loaded.system (header_by loaded.system p) snapshot bytes) (sym same) (is_checkpoint loaded.system parts))))
      comes_to asked to e (Q.Whole other plan loaded held _ _ read has comes checkpoint is) =
          let same : plan ≡ kept_plan = same_plan other plan read has in
          let agree = same_system asked plan loaded same comes in
          let there : Checkpoint loaded.system (header_by loaded.system kept_plan) held (bytes ++ []) =
          subst (λ (b : List ℕ). Checkpoint loaded.system (header_by loaded.system kept_plan) held b) (same_bytes other read ∙ sym (append-nil bytes))
          (subst (λ (p : Plan). Checkpoint loaded.system (header_by loaded.system p) held other) same checkpoint) in
          let kept_is : snapshot ≡ held = (laws.keeps loaded.system (header_by loaded.system kept_plan) snapshot held bytes [] (is_checkpoint loaded.system agree.0) there).0 in
          (loaded, is ∙ ap (Rests loaded) (sym kept_is), agree)

      pub goes_on : ComesTo finding
      goes_on = comes_to l.asked finding refl l.comes

    lacks_none : (path : List ℕ) (flaw : Flaw) → Loads (question_of line) (Lacks path flaw) j.old.folder j.new.folder → ⊥
    lacks_none path flaw l = let to = goes_on (Lacks path flaw) l in let e = to.1 in cc e

    breaks_none : (at : ℕ) → Loads (question_of line) (NoCheckpoint at) j.old.folder j.new.folder → ⊥
    breaks_none at l = let to = goes_on (NoCheckpoint at) l in let e = to.1 in cc e

    nothing_more : (v : FolderView) → v ≡ with_reads v []
    nothing_more v = ap (λ (reads : List ReadNote). record v { reads = reads }) (sym (append-nil v.reads))

    fails_none : (path : List ℕ) → FailsReading (question_of line) path j.old.folder j.new.folder → ⊥
    fails_none path (Q.OfCheckpoint is failed) = none_failed j.old.folder j.old.folder j.new.folder [] all_reads path (nothing_more j.old.folder) failed c.rereads.told all_unfailed
    fails_none path (Q.OfSystem other plan mid got has fails) =
        none_failed j.old.folder fails.mid j.new.folder ((read_of rest.file (Ok other) ∷ []) ++ fails.reads) all_reads path
        (both_read j.old.folder mid fails.mid (read_of rest.file (Ok other) ∷ []) fails.reads got.told fails.asks.told) fails.told c.rereads.told all_unfailed

    -- ---- what is run

    abbrev ComesOut : Type 0
    ComesOut = RunsOut j ⊎ Joins h j (run_in x) prefix z.t

    module _ (loaded : Loaded) (agree : Agree (Found x.loaded) (Found loaded)) where
      -- the run that was held, of what this call loaded
      abbrev own : Run
      own = run_in (with_loaded x loaded)

      abbrev task : Task
      task = rest_of line loaded snapshot

      own_alike : AreAlike (run_in x) own
      own_alike = of_parts x loaded agree.0 agree.1

      own_tells : (olds news : List View) (after : SpawnerView) → RunsPeers task loaded.system olds news j.old.run.spawner after → T.AreMachinesOf olds x.machines
      own_tells olds news after p = tells x j.old.run.spawner rest.host loaded.folders loaded.system.components olds agree.0.0 c.starts p.each p.are p.made

      went_back : (end : RunEnd) → j.status ≡ end_code end → (g : GoesOn task loaded.system snapshot end j.old.run j.new.run) → ComesOut
      went_back end e g = by end told e
        where
          told : TracesWellIn g.account own (rest_after prefix) end
          told =
              g.well own prefix z refl refl (own_tells g.account.olds g.account.news j.new.run.spawner g.is.peers) (behave_alike (run_in x) own own_alike keeps.well)
              (read_back_alike (run_in x) own own_alike (packings_of (run_in x)) keeps.read_back) (λ i. takes_alike (run_in x) own own_alike task.plan i (takes.takes i))
              (held_alike (run_in x) own own_alike prefix z there) begun (kept_alike (run_in x) own own_alike z snapshot refl)

          put : (kind : EndKind) (point : ℕ) → PutsTraceIn own (rest_after prefix) (output_of g.account) kind point → j.status ≡ kind_code kind → ComesOut
          put kind point p status =
              inr (joins prefix z (held_alike (run_in x) r alike prefix z there) j p.is kind point
              (trace_alike (run_in x) r alike (prefix ++ p.is) kind point (trace_alike own (run_in x) (back own_alike refl) (prefix ++ p.is) kind point p.trace))
              (sym g.is.after_is ∙ p.text.put ∙ ap (λ (s : SinkView). with_pieces s (rest_pieces p.is kind point)) g.is.before_is) status)

          by : (end : RunEnd) → TracesWellIn g.account own (rest_after prefix) end → j.status ≡ end_code end → ComesOut
          by E.Stop w e = put K.Stop x.asked.plan.stop w e
          by (E.Asked point) w e = put K.Asked point w e
          by (E.EventLimit point) w e = put K.Limit point w e
          by (E.FixedStep component at to) w e = put K.Fixed at w.0 e
          by (E.Range lost at) w e = put K.Range at w.0 e
          by (E.Bad bad) w e = absurd (c.loses.peers (e ∙ link_code bad.why w.0))
          by (E.Held point) w e = absurd w
          by E.WriteFault w e = absurd (c.loses.puts e)

      abbrev with_link : Run
      with_link = record (run_in x) { plan = record x.asked.plan { link = rest.link } }

      abbrev made : Run
      made = record { system = loaded.system; bound = loaded.bound; machines = x.machines; plan = task.plan }

      -- an instance that isn't made is lost
      broke_off : (bad : BadAnswer) → j.status ≡ why_status bad.why → FailsToRun task loaded.system bad j.old.run j.new.run → ComesOut
      broke_off bad e fails = absurd (c.loses.peers (e ∙ link_code bad.why lost.0))
        where
          lost : TracesOnce fails.traces.account made (E.Bad bad)
          lost =
              fails.traces.well made (record { system_is = refl; bound_is = refl; tell = own_tells fails.traces.account.olds fails.traces.account.news j.new.run.spawner fails.traces.peers }) refl
              (behave_alike with_link made (record { components = agree.0.0; ports = agree.0.1; bound = agree.1; machines = refl; plan = refl }) takes.well)

      ended : (end : RunEnd) → j.status ≡ end_code end → HasGoneOn task loaded.system snapshot end j.old.run j.new.run → ComesOut
      ended end e (WentBack g) = went_back end e g
      ended end e (held.BrokeOff bad is fails) = broke_off bad (e ∙ ap end_code is) fails

    rests_same : (one other : Loaded) (held kept : Snapshot) → Rests one held ≡ Rests other kept → (one ≡ other) × (held ≡ kept)
    rests_same one other held kept e = (cc e, cc e)

    pub resumes : ComesOut
    resumes = by (goes_on_in j line c.loses.puts (c.keeps.resume line c.line))
      where
        by : GoesOnIn j line → ComesOut
        by (RestOutOfMemory e same) = inl (e, same)
        by (RestNotStarted e) = absurd (c.loses.peers e)
        by (UnreadRest path f) = absurd (fails_none path f)
        by (NoRest path flaw l) = absurd (lacks_none path flaw l)
        by (NoRestThere at l) = absurd (breaks_none at l)
        by (RestEnded loaded held l end e g) =
            let to = goes_on (Rests loaded held) l in
            let same = rests_same loaded to.0 held snapshot to.1 in
            ended loaded (subst (λ (y : Loaded). Agree (Found x.loaded) (Found y)) (sym same.0) to.2) end e
            (subst (λ (y : Snapshot). HasGoneOn (rest_of line loaded y) loaded.system y end j.old.run j.new.run) same.1 g)

  -- ---- a checkpoint

  module _ (k : Happened) (at : ℕ) (c : IsCheckpoint k x at) where
    abbrev asks : CheckpointLine
    asks = checkpoint_line x.asked c.workers at

    abbrev held_plan : Plan
    held_plan = record x.asked.plan { workers = c.workers }

    held_can : IsHoldable x.loaded.system held_plan
    held_can = record { serializes = can.serializes; header = can.header }

    reads_them : (some : List ReadNote) → k.new.folder ≡ with_reads k.old.folder some → AreAmong some x.reads
    reads_them some told = subst (λ (rs : List ReadNote). AreAmong rs x.reads) (same_reads k.old.folder k.new.folder c.rereads.later some c.rereads.told told) c.rereads.same

    none_faulty : (path : List ℕ) (flaw : Flaw) → LoadsHeld (held.search_for asks) held_plan (Fails path flaw) k.old.folder k.new.folder → ⊥
    none_faulty path flaw l = none_held (search_for (lines.Run x.asked)) x.reads run.alike.steady x.loaded only held_plan held_can path flaw k.old.folder k.new.folder l (reads_them l.reads l.asks.told)

    begins : x.asked.plan.start ≤ at
    begins = c.line.asks.1.2.0

    module _ (loaded : Loaded) (agree : Agree (Found x.loaded) (Found loaded)) where
      abbrev held_run : Run
      held_run = record { system = loaded.system; bound = loaded.bound; machines = x.machines; plan = held_plan }

      abbrev held_task : Task
      held_task = task_of asks.run loaded

      to_held : AreAlike (run_in x) held_run
      to_held = record { components = agree.0.0; ports = agree.0.1; bound = agree.1; machines = refl; plan = refl }

      from_held : AreAlike held_run (run_in x)
      from_held = record { components = sym agree.0.0; ports = sym agree.0.1; bound = sym agree.1; machines = refl; plan = refl }

      held_well : WellBehaved held_run
      held_well = behave_alike (run_in x) held_run to_held keeps.well

      held_tells : (olds news : List View) (after : SpawnerView) → RunsPeers held_task loaded.system olds news k.old.run.spawner after → T.IsRunOf loaded.system loaded.bound olds held_run
      held_tells olds news after p = record {
        system_is = refl;
        bound_is = refl;
        tell = tells x k.old.run.spawner x.asked.host loaded.folders loaded.system.components olds agree.0.0 c.starts p.each p.are p.made;
      }

      module _ (end : RunEnd) (e : k.status ≡ end_code end) (g : Holds held_task loaded.system at end k.old.run k.new.run) where
        abbrev a : Account
        a = g.account

        is_run : T.IsRunOf loaded.system loaded.bound a.olds held_run
        is_run = held_tells a.olds a.news k.new.run.spawner g.is.peers

        module _ (there : a.after ≡ with_piece a.before g.session.piece) where
          out : Puts k (g.session.piece ∷ [])
          out = sym g.is.after_is ∙ there ∙ ap (λ (s : SinkView). with_piece s g.session.piece) g.is.before_is

          puts_so : (piece : List ℕ) → g.session.piece ≡ piece → Puts k (piece ∷ [])
          puts_so piece same = out ∙ ap (with_piece k.old.run.out) same

          early : (o : RunEnd) (kind : EndKind) (point : ℕ) → g.session.outcome ≡ o → ends_before o ≡ true → EndsEarly held_run kind point g.session.piece → k.status ≡ kind_code kind → IsParted h k x at
          early o kind point is before w status =
              let same = one_end w.is kind point (trace_alike (run_in x) r alike w.is kind point (trace_alike held_run (run_in x) from_held w.is kind point w.trace)) in
              AtNone
              (λ prefix z there. g.none held_run is_run refl (laws.steps held_run held_well) (ap ends_before is ∙ before) prefix z (held_at (run_in x) held_run to_held at prefix z there))
              (record { is = w.is; kind = kind; point = point; whole = wrote_so w.is kind point same; line = puts_so (end_text kind point) w.put; status = status ∙ sym (ap kind_code same.1) ∙ sym came.status })

          at_step : (point : ℕ) → KeepsRun held_run at point g.session.piece → k.status ≡ 0 → IsParted h k x at
          at_step point w status =
              let there : HeldAt (run_in x) at w.is w.z = held_at held_run (run_in x) from_held at w.is w.z w.held in
              let kept : CanBeHeld x.loaded.system (checkpoint_of (run_in x) w.z) =
              can_too loaded.system x.loaded.system (checkpoint_of (run_in x) w.z) (sym agree.0.0, sym agree.0.1)
              (subst (CanBeHeld loaded.system) (kept_alike held_run (run_in x) from_held w.z (checkpoint_of held_run w.z) refl) w.can) in
              AtStep w.is w.z there status (puts_so (checkpoint_text (run_in x) w.z) (text_alike held_run (run_in x) from_held w.z g.session.piece w.put))
              (λ j rest again takes. resumes w.is w.z there.held (let reached = there.reached in let first = begins in omega (arith, reached, first)) kept j rest again takes)

          by_outcome : (o : RunEnd) → g.session.outcome ≡ o → HoldsWell a held_run at o g.session.piece → k.status ≡ end_code o → IsParted h k x at
          by_outcome E.Stop is w status = early E.Stop K.Stop x.asked.plan.stop is refl w status
          by_outcome (E.Asked point) is w status = early (E.Asked point) K.Asked point is refl w status
          by_outcome (E.EventLimit point) is w status = early (E.EventLimit point) K.Limit point is refl w status
          by_outcome (E.FixedStep component point to) is w status = early (E.FixedStep component point to) K.Fixed point is refl w.0 status
          by_outcome (E.Range lost point) is w status = early (E.Range lost point) K.Range point is refl w.0 status
          by_outcome (E.Held point) is w status = at_step point w status
          by_outcome (E.Bad bad) is w status = absurd (c.loses.peers (status ∙ link_code bad.why w.0))
          by_outcome E.WriteFault is w status = absurd w

        went_on : IsParted h k x at
        went_on = by g.session.puts
          where
            by : PutsPiece g.session.outcome g.session.piece a.before a.after a.end → IsParted h k x at
            by (inl (same, there)) =
                by_outcome there g.session.outcome refl (g.well held_run is_run refl held_well (λ i. puts_alike (run_in x) held_run to_held i (keeps.puts i)))
                (e ∙ ap end_code (sym g.is.end_is ∙ same))
            by (inr (same, cut)) = absurd (c.loses.puts (e ∙ ap end_code (sym g.is.end_is ∙ same)))

      -- an instance that isn't made is lost
      broken : (bad : BadAnswer) → k.status ≡ why_status bad.why → FailsToRun held_task loaded.system bad k.old.run k.new.run → IsParted h k x at
      broken bad e fails =
          let lost : TracesOnce fails.traces.account held_run (E.Bad bad) =
          fails.traces.well held_run (held_tells fails.traces.account.olds fails.traces.account.news k.new.run.spawner fails.traces.peers) refl held_well in
          absurd (c.loses.peers (e ∙ link_code bad.why lost.0))

      ended_so : (end : RunEnd) → k.status ≡ end_code end → HasHeld held_task loaded.system at end k.old.run k.new.run → IsParted h k x at
      ended_so end e (WentOn g) = went_on end e g
      ended_so end e (BrokeOff bad is fails) = broken bad (e ∙ ap end_code is) fails

    parted : IsParted h k x at
    parted = by (holds_in k asks c.loses.puts (c.keeps.checkpoint asks c.line))
      where
        by : HoldsIn k asks → IsParted h k x at
        by (C.OutOfMemory e same) = OutOfMemory (e, same)
        by (NotStarted e) = absurd (c.loses.peers e)
        by (UnreadFile path f) =
            absurd (none_unread (search_for (lines.Run x.asked)) path k.old.folder k.new.folder c.rereads.later f c.rereads.told (unfailed_too c.rereads.later x.reads c.rereads.same run.alike.unfailed))
        by (NoSystem path flaw l) = absurd (none_faulty path flaw l)
        by (Ended loaded l end e g) =
            ended_so loaded (found_held (search_for (lines.Run x.asked)) x.reads run.alike.steady x.loaded only held_plan held_can loaded l.reads l.asked (reads_them l.reads l.asks.told) l.comes) end e g

pub runs_in_parts : Laws → RunsInParts
runs_in_parts laws h k x at run checkpoint can keeps = parted laws h x run keeps can k at checkpoint
