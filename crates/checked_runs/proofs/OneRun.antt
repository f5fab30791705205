-- What a call of `run` comes to where its peers tell machines.
use Rattle.std.proofs.Common.{◌≡◌, ◌⊎◌, inl, inr, ℕ, ◌<◌, List, [], Option, Some, None, length, refl, sym, ap, ◌∙◌, arith}
use Rattle.std.specs.Prelude.{IfSome, option_map, slice_get}
use Rattle.std.proofs.lemmas.Option.{none-some as none_some, slice_get_cases, slice_get_within}
use Rattle.sim_base.specs.Sink.{SinkView}
use Rattle.value_types.specs.declared.shape.Shape.{Shape}
use Rattle.fmu_peer.specs.Machine.{Machine}
use Rattle.fmu_peer.specs.Start.{SpawnerView}
use Rattle.fmu_peer.specs.View.{View}
use Rattle.system_model.specs.declared.plan.EndKind.{EndKind}
use Rattle.system_model.specs.declared.plan.EndKind.TheVariants as K
use Rattle.system_model.specs.declared.plan.Plan.{Plan}
use Rattle.system_model.specs.declared.system.Component.{Component}
use Rattle.system_model.specs.Sound.{IsSound}
use Rattle.system_model.specs.Text.{Instant}
use Rattle.run_model.specs.Behaved.{WellBehaved}
use Rattle.run_model.specs.Machines.{AreMachines}
use Rattle.run_model.specs.Run.{Run}
use Rattle.run_model.specs.Trace.{IsTrace}
use Rattle.calling_sequence.specs.declared.run_end.RunEnd.{RunEnd}
use Rattle.calling_sequence.specs.declared.run_end.RunEnd.TheVariants as E
use Rattle.calling_sequence.specs.Ends.{trace_pieces}
use Rattle.calling_sequence.specs.Puts.{with_pieces}
use Rattle.machine_courses.specs.Outcomes.{PutsTrace}
use Rattle.session_laws.specs.Traced as T
use Rattle.session_laws.specs.Traced.{output_of}
use Rattle.alike_runs.specs.Alike.{AreAlike}
use Rattle.alike_runs.proofs.Alike.{behave_alike}
use Rattle.command_line.specs.Line as lines
use Rattle.system_loading.specs.Assembly.{HaveSameParts}
use Rattle.system_files.specs.declared.loaded.Loaded.{Loaded}
use Rattle.run_program.specs.Happened.{Happened}
use Rattle.run_program.specs.Peers.{AreMade, AreStarted}
use Rattle.run_program.specs.Rows as rows
use Rattle.run_program.specs.Rows.{Answers, RunsLoaded}
use Rattle.run_program.specs.Runs.{HasOneTrace, TracesOnce, names_of}
use Rattle.run_program.proofs.CallerLemmas.{first_state, system_rows}
use Rattle.run_program.proofs.Commands.{end_code, ended_code, link_code}
use Rattle.checked_runs.specs.TwoParts.{IsRun, Puts, Shared, StartsMachines, run_in}
use Rattle.checked_runs.proofs.SameFiles.{unanswered}

-- ---- statuses

-- the status of an end line
abbrev pub kind_code : EndKind → ℕ
kind_code K.Stop = 0
kind_code K.Asked = 0
kind_code K.Limit = 8
kind_code K.Fixed = 9
kind_code K.Range = 13
kind_code K.Fault = 5

-- ---- machines

made_is : (make : Option (Shape → Machine)) (shape : Shape) (v : View) (m : Machine) → IfSome make (λ (f : Shape → Machine). v.fixed.machine ≡ Some (f shape)) → option_map (λ (f : Shape → Machine). f shape) make ≡ Some m → v.fixed.machine ≡ Some m
made_is None shape v m is e = absurd (none_some m e)
made_is (Some f) shape v m is e = is ∙ e

-- the peers that are started tell the machines
pub tells : (x : Shared) (spawner : SpawnerView) (host : List ℕ) (folders : List (List ℕ)) (components : List Component) (olds : List View) → x.loaded.system.components ≡ components → StartsMachines spawner host x →
    length olds ≡ length components → AreStarted host folders components olds → AreMade host spawner components olds → T.AreMachinesOf olds x.machines
tells x spawner host folders components olds same starts all are made = record {
  count = starts.count ∙ ap length same ∙ sym all;
  each = λ i v m at there.
      let inside = slice_get_within olds i v at in
      let c = got components i (omega (arith, inside, all)) in
      let is : v.fixed.machine ≡ Some m =
      made_is (spawner.makes host c.0.shape.identifier) c.0.shape v m (made i c.0 v c.1 at)
      (starts.each i c.0 m (ap (λ (cs : List Component). slice_get cs i) same ∙ c.1) there) in
      (is, first_state host folders components olds i v are at ∙ ap (option_map (λ (n : Machine). n.first)) is);
}
  where
    got : (cs : List Component) (i : ℕ) → i < length cs → (c : Component) × (slice_get cs i ≡ Some c)
    got cs i within = elim (slice_get_cases cs i).1 [
      | inl there ↦ (there.0, there.2)
      | inr past ↦ absurd (let far = past.0 in omega (arith, within, far))
    ]

-- ---- the run

abbrev pub with_loaded : Shared → Loaded → Shared
with_loaded x loaded = record x { loaded = loaded }

-- the run of what a call loaded is that of the files
pub of_parts : (x : Shared) (made : Loaded) → HaveSameParts x.loaded.system made.system → x.loaded.bound ≡ made.bound → AreAlike (run_in x) (run_in (with_loaded x made))
of_parts x made parts bound = record { components = parts.0; ports = parts.1; bound = bound; machines = refl; plan = refl }

pub back : {r q : Run} → AreAlike r q → r.plan ≡ q.plan → AreAlike q r
back {r} {q} same plan = record { components = sym same.components; ports = sym same.ports; bound = sym same.bound; machines = sym same.machines; plan = ap (λ (p : Plan). record p { workers = r.plan.workers }) (sym plan) }

-- what was made of the files, and the trace of its run, which was put
pub record Ran (h : Happened) (x : Shared) : Type 0 where
  pub made : Loaded
  pub parts : HaveSameParts x.loaded.system made.system
  pub bound : x.loaded.bound ≡ made.bound
  pub sound : IsSound made.system
  pub machines_are : AreMachines (run_in (with_loaded x made))
  pub is : List Instant
  pub kind : EndKind
  pub point : ℕ
  pub trace : IsTrace (run_in (with_loaded x made)) is kind point
  pub out : Puts h (trace_pieces made.system x.asked.plan is kind point)
  pub status : h.status ≡ kind_code kind

module _ (h : Happened) (x : Shared) (run : IsRun h x) (well : WellBehaved (run_in x)) (l : RunsLoaded h x.asked x.loaded) where
  abbrev own : Run
  own = run_in (with_loaded x l.made)

  parts : HaveSameParts x.loaded.system l.made.system
  parts = (sym l.agree.0.0, sym l.agree.0.1)

  is_run : T.IsRunOf l.made.system l.made.bound l.traces.account.olds own
  is_run = record {
    system_is = refl;
    bound_is = refl;
    tell = tells x h.old.run.spawner x.asked.host l.made.folders l.made.system.components l.traces.account.olds parts.0 run.starts l.traces.peers.each l.traces.peers.are l.traces.peers.made;
  }

  ended : h.status ≡ end_code l.end
  ended = ended_code h (names_of l.made.system) l.end run.loses.puts l.reports

  ran : (kind : EndKind) (point : ℕ) → HasOneTrace own → PutsTrace own (output_of l.traces.account) kind point → h.status ≡ kind_code kind → Ran h x
  ran kind point one p status = record {
    made = l.made;
    parts = parts;
    bound = sym l.agree.1;
    sound = l.traces.sound;
    machines_are = one.machines;
    is = p.is;
    kind = kind;
    point = point;
    trace = p.trace;
    out = sym l.traces.after_is ∙ p.text.put ∙ ap (λ (s : SinkView). with_pieces s (trace_pieces l.made.system x.asked.plan p.is kind point)) l.traces.before_is;
    status = status;
  }

  by_end : (end : RunEnd) → TracesOnce l.traces.account own end → h.status ≡ end_code end → Ran h x
  by_end E.Stop w e = ran K.Stop x.asked.plan.stop w.0 w.1 e
  by_end (E.Asked point) w e = ran K.Asked point w.0 w.1 e
  by_end (E.EventLimit point) w e = ran K.Limit point w.0 w.1 e
  by_end (E.FixedStep component at end) w e = ran K.Fixed at w.0 w.1.0 e
  by_end (E.Range lost at) w e = ran K.Range at w.0 w.1.0 e
  by_end (E.Bad bad) w e = absurd (run.loses.peers (e ∙ link_code bad.why w.0))
  by_end (E.Held point) w e = absurd w.1
  by_end E.WriteFault w e = absurd (run.loses.puts e)

  came : Ran h x
  came = by_end l.end (l.traces.well own is_run refl (behave_alike (run_in x) own (of_parts x l.made parts (sym l.agree.1)) well)) ended

pub has_run : (h : Happened) (x : Shared) → IsRun h x → WellBehaved (run_in x) → Ran h x
has_run h x run well = by
    ((system_rows h (lines.Run x.asked) run.keeps run.line).trace.when (lines.Run x.asked) x.asked x.loaded run.line refl (record { reads = x.reads; alike = run.alike; asked = run.paths; comes = run.comes }) run.known run.all_started)
  where
    by : (Answers h 11 rows.memory_line × rows.IsIdle h) ⊎ RunsLoaded h x.asked x.loaded → Ran h x
    by (inl few) = absurd (unanswered h 11 rows.memory_line run.loses run.memory few.0)
    by (inr l) = came h x run well l
