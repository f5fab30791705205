-- What holds of each status, from what holds of each outcome.
use Rattle.std.proofs.Common.{◌≡◌, ◌⊎◌, inl, inr, ℕ, ◌+◌, List, [], ◌++◌, Option, Some, None, refl, sym, ap, ◌∙◌, subst, arith, codes}
use Rattle.std.proofs.lemmas.List.{append-nil}
use Rattle.std.proofs.lemmas.List.Elements.{All-nil}
use Rattle.sim_base.specs.Causes.{Rose, one_more}
use Rattle.sim_base.specs.Sink.{SinkView}
use Rattle.sim_base.specs.declared.numbers.CompId.{CompId}
use Rattle.fmu_peer.specs.declared.ended.Why.{Why}
use Rattle.fmu_peer.specs.declared.ended.Why.TheVariants.{Refused, Misreply, Link}
use Rattle.fmu_peer.specs.Start.{SpawnerView}
use Rattle.fmu_peer.specs.View.{View}
use Rattle.slot_calls.specs.declared.bad_answer.BadAnswer.{BadAnswer}
use Rattle.calling_sequence.specs.declared.run_end.RunEnd.{RunEnd}
use Rattle.calling_sequence.specs.declared.run_end.RunEnd.TheVariants as E
use Rattle.system_model.specs.declared.system.System.{System}
use Rattle.command_line.specs.Line.{Line, IsLine, RunLine, run_in}
use Rattle.run_program.specs.declared.outcome.Outcome.{Outcome}
use Rattle.run_program.specs.declared.outcome.Outcome.TheVariants.{Words, Memory, File, Start, Ran, Checked, Untold}
use Rattle.system_files.specs.declared.named.FileFault.{FileFault}
use Rattle.system_files.specs.declared.named.FileFault.TheVariants.{Unread, Missing, TooBig, Broken}
use Rattle.run_program.specs.declared.outcome.StartCause.{StartCause}
use Rattle.run_program.specs.declared.outcome.StartCause.TheVariants.{Failed, Unknown}
use Rattle.run_program.specs.declared.outcome.End.{End}
use Rattle.run_program.specs.declared.outcome.End.TheVariants as O
use Rattle.run_program.specs.Message.{Reports, CutsShort, message, status_of, file_message, start_message, end_message}
use Rattle.system_files.specs.declared.loaded.Loaded.{Loaded}
use Rattle.system_files.specs.Loads.{FileFails}
use Rattle.run_program.specs.Facts.{Calm, CheckFacts, Facts, LineFacts, LoadFacts, LoadedFacts, LoadsLine, OfSystem, RunFacts, Unloaded, WithLine, WithoutLine, search_for, task_of}
use Rattle.run_program.specs.Happened.{Happened, Outside, Scene}
use Rattle.run_program.specs.Peers.{AreStarted, with_all_started}
use Rattle.run_program.specs.Rows.{AreStartedFor, Ended, ForRun, IsOfRun, IsUncalled, IsUnfailed, Nobody, Told, Says, IsIdle, IsSilent, IsMute, memory_line, OnLine, IsNoLine, HasEnded, LacksFile, IsUnread, IsMissing, IsTooBig, BreaksRule, BreaksOffBy, LosesPeer, NotStarted, NotKnown, NotAnswering, IsRefusedWhy, IsMisreplyWhy, RunsTo}
use Rattle.event_iteration.specs.declared.lost.LostValue.{LostValue}
use Rattle.run_program.specs.Runs.{FailsToStart, IsEndOf, NotesUnstarted, TakesBack, Task, names_of}
use Rattle.system_files.proofs.AskLemmas.{none_here}
use Rattle.run_program.proofs.Outs.{tells_out}
use Rattle.run_program.proofs.PeerLemmas.{unasked}
use Rattle.run_program.proofs.Statuses.{Status, Done, WrongWords, NoFile, BrokenRule, NoPeer, Refusal, WrongReply, ManyInstants, FixedSize, OutOfRange, Unwritten, NoMemory, number, of_file, of_end, of_outcome, numbered, same_number}
use Rattle.fmu_peer.specs.Answer.{IsLink}

abbrev pub HasFacts : Outcome → Happened → Type 0
HasFacts o h = Facts o h.words h.old h.new

abbrev pub HasPut : Outcome → Happened → Type 0
HasPut o h = Reports (message o) (status_of o) h.status h.err h.err_after

-- err holds the line, if there is one
abbrev pub Put : Happened → Option (List ℕ) → Type 0
Put h None = IsSilent h
Put h (Some text) = Says h text

-- the status is the outcome's, with its line, or 10, and the line couldn't be put
pub said : (m : Option (List ℕ)) (w : ℕ) (h : Happened) → Reports m w h.status h.err h.err_after → ((h.status ≡ w) × Put h m) ⊎ ((text : List ℕ) × IsMute h text)
said None w h p = inl p
said (Some text) w h (inl p) = inl p
said (Some text) w h (inr p) = inr (text, p)

-- a put that failed raised the count
pub cut_short_rose : (text : List ℕ) (old new : SinkView) → CutsShort text old new → Rose old.faults new.faults
cut_short_rose text old new c = raised old.faults new.faults (ap (λ (v : SinkView). v.faults) c.1)
  where
    raised : (before after : ℕ) → after ≡ one_more before → Rose before after
    raised before after e = omega arith

abbrev pub WhenIs : Status → Happened → Type 0
WhenIs Done h = OnLine h (HasEnded h)
WhenIs WrongWords h = IsNoLine h × (h.new ≡ h.old) × Says h (codes "words\n")
WhenIs NoFile h = OnLine h (λ line. Calm h.old.run h.new.run × LacksFile h line)
WhenIs BrokenRule h = OnLine h (λ line. Calm h.old.run h.new.run × BreaksRule h line)
WhenIs NoPeer h = OnLine h (LosesPeer h)
WhenIs Refusal h = OnLine h (λ line. BreaksOffBy h line IsRefusedWhy)
WhenIs WrongReply h = OnLine h (λ line. BreaksOffBy h line IsMisreplyWhy)
WhenIs ManyInstants h = OnLine h (λ line. (point : ℕ) × RunsTo h line (E.EventLimit point))
WhenIs FixedSize h = OnLine h (λ line. (component : CompId) × (at : ℕ) × (end : ℕ) × RunsTo h line (E.FixedStep component at end))
WhenIs OutOfRange h = OnLine h (λ line. (lost : LostValue) × (at : ℕ) × RunsTo h line (E.Range lost at))
WhenIs Unwritten h = Says h (codes "write\n") × Rose h.old.run.out.faults h.new.run.out.faults
WhenIs NoMemory h = IsIdle h × (h.new.run.spawner.faults ≡ h.old.run.spawner.faults) × IsUnfailed h × Says h memory_line

file_when : (fault : FileFault) (path : List ℕ) (line : Line) (h : Happened) → IsLine h.words line → Calm h.old.run h.new.run →
    FileFails (search_for line) fault path h.old.folder h.new.folder → Says h (file_message path fault) → WhenIs (of_file fault) h
file_when Unread path line h is calm f says = (line, is, (calm, IsUnread path f says))
file_when Missing path line h is calm f says = (line, is, (calm, IsMissing path f says))
file_when TooBig path line h is calm f says = (line, is, (calm, IsTooBig path f says))
file_when (Broken rule place ports) path line h is calm f says = (line, is, (calm, (path, rule, place, ports, f, says)))

-- ---- peers that weren't called

-- where the spawner tells what it told, no peer was started
pub same_uncalled : (h : Happened) → h.new.run.spawner ≡ h.old.run.spawner → IsUncalled h
same_uncalled h same = record {
  peers = [];
  whose = Nobody refl;
  unasked = All-nil _;
  started = ap (λ (s : SpawnerView). s.started) same ∙ omega arith;
  retired = ap (λ (s : SpawnerView). s.retired) same ∙ sym (append-nil h.old.run.spawner.retired);
}

calm_idle : (h : Happened) → Calm h.old.run h.new.run → IsIdle h
calm_idle h calm = record {
  uncalled = same_uncalled h (ap (λ (s : Scene). s.spawner) calm);
  out = ap (λ (s : Scene). s.out) calm;
}

-- peers that are started for a task are started for the line
abbrev pub Fits : Task → System → Happened → Type 0
Fits task system h = (peers : List View) → AreStarted task.host task.folders system.components peers → AreStartedFor h peers

pub for_run : (line : Line) (h : Happened) → IsLine h.words line → (it : IsOfRun h line) → Fits (task_of it.asked it.loaded) it.loaded.system h
for_run line h is it = λ peers are. ForRun line is it are

pub taken_idle : (task : Task) (system : System) (h : Happened) → Fits task system h → TakesBack task system h.old.run h.new.run → IsIdle h
taken_idle task system h how t = record {
  uncalled = record {
    peers = t.peers;
    whose = how t.peers t.are;
    unasked = unasked task.host task.folders system.components t.peers t.are;
    started = ap (λ (s : SpawnerView). s.started) t.told;
    retired = ap (λ (s : SpawnerView). s.retired) t.told;
  };
  out = t.out;
}

pub noted_failure : (host : List ℕ) (cause : StartCause) (c : _) (s t : SpawnerView) → NotesUnstarted host cause c s t → (t.started ≡ s.started) × (t.retired ≡ s.retired)
noted_failure host Failed c s t n = (ap (λ (x : SpawnerView). x.started) n, ap (λ (x : SpawnerView). x.retired) n)
noted_failure host Unknown c s t n = (ap (λ (x : SpawnerView). x.started) n.0, ap (λ (x : SpawnerView). x.retired) n.0)

pub unstarted_idle : (task : Task) (system : System) (name : List ℕ) (cause : StartCause) (h : Happened) → Fits task system h → FailsToStart task system name cause h.old.run h.new.run → IsIdle h
unstarted_idle task system name cause h how f =
    let n = noted_failure task.host cause f.component (with_all_started h.old.run.spawner f.place) f.failed f.noted in
    record {
      uncalled = record {
        peers = f.peers;
        whose = how f.peers f.are;
        unasked = unasked task.host task.folders system.components f.peers f.are;
        started = ap (λ (s : SpawnerView). s.started) f.told ∙ n.0 ∙ ap (λ (k : ℕ). h.old.run.spawner.started + k) (sym f.each);
        retired = ap (λ (s : SpawnerView). s.retired) f.told ∙ ap (λ (vs : List View). vs ++ f.peers) n.1;
      };
      out = f.out;
    }

-- nothing was read
unread : (h : Happened) → h.new ≡ h.old → IsUnfailed h
unread h same = let none = none_here h.old.folder h.new.folder (ap (λ (s : Outside). s.folder) same) in ([], none.told, none.unfailed)

-- where memory runs out nothing was called, and no read failed
abbrev pub IsOutOfMemory : Happened → Type 0
IsOutOfMemory h = IsIdle h × (h.new.run.spawner.faults ≡ h.old.run.spawner.faults) × IsUnfailed h

pub idle_out_of_memory : (line : Line) (h : Happened) → IsLine h.words line → LineFacts Memory line h.old h.new → IsOutOfMemory h
idle_out_of_memory line h is (Unloaded calm some) = (calm_idle h calm, ap (λ (s : Scene). s.spawner.faults) calm, (some.reads, some.asks.told, some.asks.unfailed))
idle_out_of_memory line h is (OfSystem loaded loads facts) = by (run_in line) refl facts
  where
    by : (asked : Option RunLine) → run_in line ≡ asked → LoadedFacts asked Memory loaded h.old.run h.new.run → IsOutOfMemory h
    by (Some asked) e back = (
      taken_idle (task_of asked loaded) loaded.system h (for_run line h is (record { asked = asked; is_asked = e; loaded = loaded; loads = loads })) back,
      ap (λ (s : SpawnerView). s.faults) back.told,
      (loads.reads, loads.asks.told, loads.asks.unfailed),
    )
    by None e back = absurd back

pub same_idle : (h : Happened) → h.new ≡ h.old → IsIdle h
same_idle h same = calm_idle h (ap (λ (s : Outside). s.run) same)

pub line_idle : (h : Happened) → Calm h.old.run h.new.run → IsIdle h
line_idle h calm = calm_idle h calm

-- a start that failed raised the count
pub start_rose : (task : Task) (system : System) (name : List ℕ) (old new : Scene) → FailsToStart task system name Failed old new → Rose old.spawner.faults new.spawner.faults
start_rose task system name old new f = raised old.spawner.faults new.spawner.faults (ap (λ (s : SpawnerView). s.faults) f.told ∙ ap (λ (s : SpawnerView). s.faults) f.noted)
  where
    raised : (before after : ℕ) → after ≡ one_more before → Rose before after
    raised before after e = omega arith

-- ---- each outcome

start_when : (cause : StartCause) (name : List ℕ) (line : Line) (h : Happened) → IsLine h.words line → (it : IsOfRun h line) →
    FailsToStart (task_of it.asked it.loaded) it.loaded.system name cause h.old.run h.new.run → Says h (start_message name cause) → WhenIs NoPeer h
start_when Failed name line h is it f says =
    (line, is, NotStarted it name f (start_rose (task_of it.asked it.loaded) it.loaded.system name h.old.run h.new.run f) says)
start_when Unknown name line h is it f says = (line, is, NotKnown it name f says)

bad_when : (why : Why) (line : Line) (h : Happened) → IsLine h.words line → (bad : BadAnswer) → bad.why ≡ why → RunsTo h line (E.Bad bad) → WhenIs (of_end (O.Bad [] why)) h
bad_when (Refused call status) line h is bad e to = (line, is, (bad, subst IsRefusedWhy (sym e) tt, to))
bad_when (Misreply call reply) line h is bad e to = (line, is, (bad, subst IsMisreplyWhy (sym e) tt, to))
bad_when (Link call fault) line h is bad e to = (line, is, NotAnswering (bad, subst IsLink (sym e) tt, to))

run_when : (end : RunEnd) (e : End) (line : Line) (h : Happened) → IsLine h.words line → (to : RunsTo h line end) → IsEndOf (names_of to.it.loaded.system) end e → Put h (end_message e) → WhenIs (of_end e) h
run_when E.Stop e line h is to named says = subst (λ (x : End). WhenIs (of_end x) h) (sym named) (line, is, Ended E.Stop tt to)
run_when (E.Asked point) e line h is to named says = subst (λ (x : End). WhenIs (of_end x) h) (sym named) (line, is, Ended (E.Asked point) tt to)
run_when (E.EventLimit point) e line h is to named says = subst (λ (x : End). WhenIs (of_end x) h) (sym named) (line, is, (point, to))
run_when (E.FixedStep component at end) e line h is to named says = subst (λ (x : End). WhenIs (of_end x) h) (sym named.2) (line, is, (component, at, end, to))
run_when (E.Range lost at) e line h is to named says = subst (λ (x : End). WhenIs (of_end x) h) (sym named.2.2) (line, is, (lost, at, to))
run_when (E.Bad bad) e line h is to named says = subst (λ (x : End). WhenIs (of_end x) h) (sym named.2) (bad_when bad.why line h is bad refl to)
run_when (E.Held point) e line h is to named says = absurd (tells_out (task_of to.it.asked to.it.loaded) to.it.loaded.system (E.Held point) h.old.run h.new.run to.run)
run_when E.WriteFault e line h is to named says =
    subst (λ (x : End). WhenIs (of_end x) h) (sym named) (
      subst (λ (x : End). Put h (end_message x)) named says,
      tells_out (task_of to.it.asked to.it.loaded) to.it.loaded.system E.WriteFault h.old.run h.new.run to.run,
    )

-- what is loaded is run
run_case : (o : Outcome) (line : Line) (h : Happened) → IsLine h.words line → (it : IsOfRun h line) → RunFacts o (task_of it.asked it.loaded) it.loaded.system h.old.run h.new.run →
    HasPut o h → Put h (message o) → WhenIs (of_outcome o) h
run_case Words line h is it f p says = absurd f
run_case Memory line h is it f p says = (
  taken_idle (task_of it.asked it.loaded) it.loaded.system h (for_run line h is it) f,
  ap (λ (s : SpawnerView). s.faults) f.told,
  (it.loads.reads, it.loads.asks.told, it.loads.asks.unfailed),
  says,
)
run_case (File path fault) line h is it f p says = absurd f
run_case (Start name cause) line h is it f p says = start_when cause name line h is it f says
run_case (Ran e) line h is it f p says = run_when f.0 e line h is (record { it = it; run = f.2; reports = (e, f.1, p) }) f.1 says
run_case Checked line h is it f p says = absurd f
run_case Untold line h is it f p says = absurd f

-- or checked
check_case : (o : Outcome) (line : Line) (h : Happened) (loaded : Loaded) → IsLine h.words line → run_in line ≡ None → LoadsLine line loaded h.old.folder h.new.folder →
    CheckFacts o loaded h.old.run h.new.run → Put h (message o) → WhenIs (of_outcome o) h
check_case Words line h loaded is none loads f says = absurd f
check_case Memory line h loaded is none loads f says = absurd f
check_case (File path fault) line h loaded is none loads f says = absurd f
check_case (Start name cause) line h loaded is none loads f says = absurd f
check_case (Ran e) line h loaded is none loads f says = absurd f
check_case Checked line h loaded is none loads f says = (line, is, Told (loaded, none, loads, f) says)
check_case Untold line h loaded is none loads f says = (says, cut_short_rose _ h.old.run.out h.new.run.out f.out)

-- by whether the line asks for a run
pub by_run : {A : Type 0} (o : Outcome) (line : Line) (h : Happened) (loaded : Loaded) → LoadsLine line loaded h.old.folder h.new.folder →
    LoadedFacts (run_in line) o loaded h.old.run h.new.run →
    ((it : IsOfRun h line) → it.loaded ≡ loaded → RunFacts o (task_of it.asked it.loaded) it.loaded.system h.old.run h.new.run → A) →
    (run_in line ≡ None → CheckFacts o loaded h.old.run h.new.run → A) → A
by_run {A} o line h loaded loads facts on_run on_check = by (run_in line) refl facts
  where
    by : (asked : Option RunLine) → run_in line ≡ asked → LoadedFacts asked o loaded h.old.run h.new.run → A
    by (Some asked) e f = on_run (record { asked = asked; is_asked = e; loaded = loaded; loads = loads }) refl f
    by None e f = on_check e f

unloaded_when : (o : Outcome) (line : Line) (h : Happened) → IsLine h.words line → Calm h.old.run h.new.run → LoadFacts o line h.old.folder h.new.folder → Put h (message o) → WhenIs (of_outcome o) h
unloaded_when Words line h is calm f says = absurd f
unloaded_when Memory line h is calm f says = let i = idle_out_of_memory line h is (Unloaded calm f) in (i.0, i.1, i.2, says)
unloaded_when (File path fault) line h is calm f says = file_when fault path line h is calm f says
unloaded_when (Start name cause) line h is calm f says = absurd f
unloaded_when (Ran e) line h is calm f says = absurd f
unloaded_when Checked line h is calm f says = absurd f
unloaded_when Untold line h is calm f says = absurd f

line_when : (o : Outcome) (line : Line) (h : Happened) → IsLine h.words line → LineFacts o line h.old h.new → HasPut o h → Put h (message o) → WhenIs (of_outcome o) h
line_when o line h is (Unloaded calm f) p says = unloaded_when o line h is calm f says
line_when o line h is (OfSystem loaded loads f) p says =
    by_run o line h loaded loads f (λ it same g. run_case o line h is it g p says) (λ none g. check_case o line h loaded is none loads g says)

outcome_when : (o : Outcome) (h : Happened) → HasFacts o h → HasPut o h → Put h (message o) → WhenIs (of_outcome o) h
outcome_when o h (WithLine r) p says = line_when o r.line h r.is r.facts p says
outcome_when Words h (WithoutLine w) p says = (w.why, w.same, says)
outcome_when Memory h (WithoutLine w) p says =
    (same_idle h w.same, ap (λ (s : Outside). s.run.spawner.faults) w.same, unread h w.same, says)
outcome_when (File path fault) h (WithoutLine w) p says = absurd w.why
outcome_when (Start name cause) h (WithoutLine w) p says = absurd w.why
outcome_when (Ran e) h (WithoutLine w) p says = absurd w.why
outcome_when Checked h (WithoutLine w) p says = absurd w.why
outcome_when Untold h (WithoutLine w) p says = absurd w.why

-- a status other than 10 is the outcome's
pub when_is : (s : Status) (o : Outcome) (h : Happened) → HasFacts o h → HasPut o h → (number s ≡ 10 → ⊥) → h.status ≡ number s → WhenIs s h
when_is s o h f p other is = choose (said (message o) (status_of o) h p)
  where
    choose : ((h.status ≡ status_of o) × Put h (message o)) ⊎ ((text : List ℕ) × IsMute h text) → WhenIs s h
    choose (inl q) =
        subst (λ (c : Status). WhenIs c h) (same_number (of_outcome o) s (sym (numbered o) ∙ sym q.0 ∙ is)) (outcome_when o h f p q.1)
    choose (inr q) = absurd (other (sym is ∙ q.1.0))

-- at 10 the text couldn't be put, or the line
pub when_unwritten : (o : Outcome) (h : Happened) → HasFacts o h → HasPut o h → h.status ≡ 10 → WhenIs Unwritten h ⊎ ((text : List ℕ) × IsMute h text)
when_unwritten o h f p is = choose (said (message o) (status_of o) h p)
  where
    choose : ((h.status ≡ status_of o) × Put h (message o)) ⊎ ((text : List ℕ) × IsMute h text) → WhenIs Unwritten h ⊎ ((text : List ℕ) × IsMute h text)
    choose (inl q) =
        inl (subst (λ (c : Status). WhenIs c h) (same_number (of_outcome o) Unwritten (sym (numbered o) ∙ sym q.0 ∙ is)) (outcome_when o h f p q.1))
    choose (inr q) = inr q
