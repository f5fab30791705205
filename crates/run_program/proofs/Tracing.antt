-- The run of what is loaded, and the size of it, where the file is taken and the identifier is known.
use Rattle.std.proofs.Common.{◌≡◌, ◌⊎◌, inl, inr, ℕ, true, List, [], Some, None, sym, ap, ap₂, ◌∙◌, subst}
use Rattle.std.proofs.lemmas.Option.{same_Some}
use Rattle.sim_base.specs.Causes.{Rose}
use Rattle.sim_base.specs.Sink.{with_piece}
use Rattle.system_model.specs.declared.bound.Bound.{Bound}
use Rattle.system_model.specs.declared.system.Component.{Component}
use Rattle.system_model.specs.declared.system.Port.{Port}
use Rattle.built_in_laws.specs.BuiltInRuns.{BuiltInsBehaveWell}
use Rattle.calling_sequence.specs.declared.run_end.RunEnd.{RunEnd}
use Rattle.command_line.specs.Line.{IsLine, Line, RunLine, run_in}
use Rattle.system_loading.specs.Assembly.{HaveSameParts}
use Rattle.system_files.specs.declared.loaded.Loaded.{Loaded}
use Rattle.system_files.specs.Order.{Agree, Found}
use Rattle.run_program.specs.declared.outcome.Outcome.{Outcome}
use Rattle.run_program.specs.declared.outcome.Outcome.TheVariants.{Words, Memory, File, Start, Ran, Checked, Untold}
use Rattle.run_program.specs.declared.outcome.StartCause.TheVariants.{Failed, Unknown}
use Rattle.run_program.specs.declared.outcome.End.{End}
use Rattle.run_program.specs.Message.{CutsShort, size_text}
use Rattle.run_program.specs.Facts.{CheckFacts, LineFacts, RunFacts, task_of}
use Rattle.run_program.specs.Peers.{AreKnown}
use Rattle.run_program.specs.Happened.{Happened}
use Rattle.run_program.specs.Rows.{Answers, Cut, IsIdle, RunsLoaded, Sized, WritesSize, memory_line}
use Rattle.run_program.specs.Runs.{HasRun, IsEndOf, names_of}
use Rattle.run_program.proofs.BuiltIns.{built_ins, traced}
use Rattle.run_program.proofs.Exactly.{LoadsAlike, answers, asked_unasked, known_unknown}
use Rattle.run_program.proofs.PeerLemmas.{all_got}
use Rattle.run_program.proofs.When.{Fits, HasPut, by_run, for_run, idle_out_of_memory, start_rose, taken_idle}

-- ---- the trace

out_of_memory : (o : Outcome) (line : Line) (h : Happened) → IsLine h.words line → LineFacts o line h.old h.new → HasPut o h → o ≡ Memory → Answers h 11 memory_line × IsIdle h
out_of_memory o line h is f p e =
    (answers memory_line 11 h (subst (λ (x : Outcome). HasPut x h) e p), (idle_out_of_memory line h is (subst (λ (x : Outcome). LineFacts x line h.old h.new) e f)).0)

run_loaded : (behave : BuiltInsBehaveWell) (end : RunEnd) (e : End) (asked : RunLine) (made loaded : Loaded) (h : Happened) → Agree (Found made) (Found loaded) → IsEndOf (names_of made.system) end e →
    HasRun (task_of asked made) made.system end h.old.run h.new.run → HasPut (Ran e) h → RunsLoaded h asked loaded
run_loaded behave end e asked made loaded h agree named run p =
    let t = traced (task_of asked made) made.system end h.old.run h.new.run run in
    record {
      made = made;
      agree = agree;
      end = end;
      traces = t;
      reports = (e, named, p);
      built_in = λ host starts timings. built_ins behave (task_of asked made) made.system end h.old.run h.new.run t host starts loaded agree.0.0 agree.1 timings;
    }

abbrev RunsOr11 : Happened → RunLine → Loaded → Type 0
RunsOr11 h asked loaded = (Answers h 11 memory_line × IsIdle h) ⊎ RunsLoaded h asked loaded

trace_run : (behave : BuiltInsBehaveWell) (o : Outcome) (asked : RunLine) (made loaded : Loaded) (h : Happened) → Agree (Found made) (Found loaded) → Fits (task_of asked made) made.system h →
    RunFacts o (task_of asked made) made.system h.old.run h.new.run → HasPut o h → AreKnown asked.host h.old.run.spawner made.system.components →
    (Rose h.old.run.spawner.faults h.new.run.spawner.faults → ⊥) → RunsOr11 h asked loaded
trace_run behave Words asked made loaded h agree how f p knows calm = absurd f
trace_run behave Memory asked made loaded h agree how f p knows calm = inl (answers memory_line 11 h p, taken_idle (task_of asked made) made.system h how f)
trace_run behave (File path fault) asked made loaded h agree how f p knows calm = absurd f
trace_run behave (Start name Failed) asked made loaded h agree how f p knows calm = absurd (calm (start_rose (task_of asked made) made.system name h.old.run h.new.run f))
trace_run behave (Start name Unknown) asked made loaded h agree how f p knows calm =
    known_unknown (h.old.run.spawner.knows asked.host f.component.shape.identifier)
    (all_got (λ (c : Component). h.old.run.spawner.knows asked.host c.shape.identifier ≡ true) made.system.components f.place f.component knows f.here) f.noted.1
trace_run behave (Ran e) asked made loaded h agree how f p knows calm = inr (run_loaded behave f.0 e asked made loaded h agree f.1 f.2 p)
trace_run behave Checked asked made loaded h agree how f p knows calm = absurd f
trace_run behave Untold asked made loaded h agree how f p knows calm = absurd f

pub trace_exact : (behave : BuiltInsBehaveWell) (o : Outcome) (line : Line) (asked : RunLine) (loaded : Loaded) (h : Happened) → IsLine h.words line → LineFacts o line h.old h.new → HasPut o h → run_in line ≡ Some asked →
    AreKnown asked.host h.old.run.spawner loaded.system.components → (Rose h.old.run.spawner.faults h.new.run.spawner.faults → ⊥) → (o ≡ Memory) ⊎ LoadsAlike line h o loaded → RunsOr11 h asked loaded
trace_exact behave o line asked loaded h is f p is_asked knows calm (inl e) = inl (out_of_memory o line h is f p e)
trace_exact behave o line asked loaded h is f p is_asked knows calm (inr s) =
    by_run o line h s.made s.loads s.facts
    (λ it same g. subst (λ (x : RunLine). RunsOr11 h x loaded) (same_Some it.asked asked (sym it.is_asked ∙ is_asked))
    (trace_run behave o it.asked it.loaded loaded h (subst (λ (x : Loaded). Agree (Found x) (Found loaded)) (sym same) s.agree) (for_run line h is it) g p
    (subst (AreKnown it.asked.host h.old.run.spawner) (sym (ap (λ (x : Loaded). x.system.components) same ∙ s.agree.0.0))
    (subst (λ (x : RunLine). AreKnown x.host h.old.run.spawner loaded.system.components) (same_Some asked it.asked (sym is_asked ∙ it.is_asked)) knows)) calm))
    (λ none g. asked_unasked asked (run_in line) is_asked none)

-- ---- the size

unwritten_status : (h : Happened) → HasPut Untold h → h.status ≡ 10
unwritten_status h (inl p) = p.0
unwritten_status h (inr p) = p.0

check_size : (o : Outcome) (loaded : Loaded) (h : Happened) → CheckFacts o loaded h.old.run h.new.run → HasPut o h → WritesSize h loaded
check_size Words loaded h f p = absurd f
check_size Memory loaded h f p = absurd f
check_size (File path fault) loaded h f p = absurd f
check_size (Start name cause) loaded h f p = absurd f
check_size (Ran e) loaded h f p = absurd f
check_size Checked loaded h f p = Sized p.0 f
check_size Untold loaded h f p = Cut (unwritten_status h p) f

-- the size, by components and ports
abbrev size_by : ℕ → List Component → List Port → List ℕ
size_by unreached components ports = size_text (record { components = components; ports = ports; instant_order = []; initial_order = [] }) unreached

abbrev size_of : Loaded → List ℕ
size_of loaded = size_text loaded.system loaded.bound.unreached

-- the size of a system is that of each with its components, ports and values of parameters
same_size : (one other : Loaded) → HaveSameParts one.system other.system → one.bound ≡ other.bound → size_of one ≡ size_of other
unfolding size_text
same_size one other same bound = ap₂ (size_by one.bound.unreached) same.0 same.1 ∙ ap (λ (b : Bound). size_text other.system b.unreached) bound

size_writes : (one other : Loaded) (h : Happened) → HaveSameParts one.system other.system → one.bound ≡ other.bound → WritesSize h one → WritesSize h other
size_writes one other h same bound (Sized status t) = Sized status (record { spawner = t.spawner; out = t.out ∙ ap (with_piece h.old.run.out) (same_size one other same bound) })
size_writes one other h same bound (Cut status t) =
    Cut status (record { spawner = t.spawner; out = subst (λ (x : List ℕ). CutsShort x h.old.run.out h.new.run.out) (same_size one other same bound) t.out })

pub check_exact : (o : Outcome) (line : Line) (loaded : Loaded) (h : Happened) → IsLine h.words line → LineFacts o line h.old h.new → HasPut o h → run_in line ≡ None →
    (o ≡ Memory) ⊎ LoadsAlike line h o loaded → (Answers h 11 memory_line × IsIdle h) ⊎ WritesSize h loaded
check_exact o line loaded h is f p none (inl e) = inl (out_of_memory o line h is f p e)
check_exact o line loaded h is f p none (inr s) =
    by_run o line h s.made s.loads s.facts
    (λ it same g. asked_unasked it.asked (run_in line) it.is_asked none)
    (λ unplanned g. inr (size_writes s.made loaded h s.agree.0 s.agree.1 (check_size o s.made h g p)))
