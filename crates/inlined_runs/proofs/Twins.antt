-- Two calls of the program that come to the same.
use Rattle.std.proofs.Common.{◌≡◌, ◌⊎◌, inl, inr, ℕ, List, [], ◌∷◌, Option, Some, None, length, map, refl, sym, ◌∙◌, ap, subst, arith}
use Rattle.std.specs.Prelude.{All, slice_get, codes}
use Rattle.std.proofs.lemmas.List.{append_cancel_left, length-map}
use Rattle.std.proofs.lemmas.Option.{get_or_from_slice_get, same_Some, slice_get-map, slice_get_within}
use Rattle.std.specs.Option.{option_map}
use Rattle.sim_base.specs.Causes.{Rose}
use Rattle.sim_base.specs.Sink.{SinkView, with_piece}
use Rattle.fmu_peer.specs.Machine.{Machine}
use Rattle.fmu_peer.specs.Start.{SpawnerView}
use Rattle.fmu_peer.specs.View.{Fixed, View}
use Rattle.system_model.specs.declared.plan.EndKind.{EndKind}
use Rattle.system_model.specs.declared.plan.EndKind.TheVariants as K
use Rattle.system_model.specs.declared.plan.Plan.{Plan}
use Rattle.system_model.specs.declared.system.Component.{Component}
use Rattle.system_model.specs.declared.system.Port.{Port}
use Rattle.system_model.specs.declared.system.System.{System}
use Rattle.system_model.specs.Sound.{IsSound}
use Rattle.system_model.specs.Text.{Instant}
use Rattle.run_model.specs.Behaved.{WellBehaved}
use Rattle.run_model.specs.Laws.{OneTrace}
use Rattle.run_model.specs.Machines.{AreMachines}
use Rattle.run_model.specs.Run.{Run}
use Rattle.run_model.specs.Trace.{IsTrace}
use Rattle.calling_sequence.specs.declared.run_end.RunEnd.{RunEnd}
use Rattle.calling_sequence.specs.declared.run_end.RunEnd.TheVariants as E
use Rattle.calling_sequence.specs.Ends.{trace_pieces}
use Rattle.calling_sequence.specs.Puts.{with_pieces}
use Rattle.event_iteration.specs.declared.lost.LostValue.{LostValue}
use Rattle.machine_courses.specs.Prefixes.{LacksStepAt, LosesAt}
use Rattle.machine_courses.specs.Outcomes.{PutsTrace}
use Rattle.session_laws.specs.Traced.{IsRunOf, SomeFaultCounted, output_of}
use Rattle.session_laws.specs.Traced as T
use Rattle.command_line.specs.Line.{Asked, IsLine, Line, RunLine, run_in}
use Rattle.command_line.specs.Line as L
use Rattle.system_loading.specs.Assembly.{HaveSameParts}
use Rattle.system_files.specs.declared.loaded.Loaded.{Loaded}
use Rattle.system_files.specs.Order.{Found}
use Rattle.run_program.specs.Happened.{Happened}
use Rattle.run_program.specs.Message.{Reports, end_message, end_status, fixed_message, limit_message, range_message, size_text}
use Rattle.run_program.specs.Peers.{AreKnown, AreStarted, IsFirstUnknown}
use Rattle.run_program.specs.Rows as rows
use Rattle.run_program.specs.Rows.{Answers, AnswersOr11, HasEnded, IsSilent, IsToFind, KeepsSystemRows, ReportsEnd, RunsLoaded, WritesSize, memory_line}
use Rattle.run_program.specs.Runs.{HasOneTrace, TracesOnce, names_of, port_name}
use Rattle.run_program.specs.TraceCheck.{KeepsRows}
use Rattle.alike_runs.specs.Alike.{AreAlike, BehaveAlike, TraceAlike}
use Rattle.run_program.proofs.CallerLemmas.{first_state, system_rows}
use Rattle.inlined_runs.specs.Shorts.{FixedOnce, LostOnce}
use Rattle.inlined_runs.specs.Twins.{AnswerAlike, AreMachinesOf, IsUnhindered, RunAlike, TellAlike, ToldUnknown, run_of}
use Rattle.alike_runs.proofs.Alike.{lacks_alike, loses_alike}

-- ---- lists

all_at : {X : Type 0} (P : X → Type 0) (xs : List X) (k : ℕ) (x : X) → All P xs → slice_get xs k ≡ Some x → P x
all_at P xs k x all here = subst P (get_or_from_slice_get xs k x x here) (all k x (slice_get_within xs k x here))

-- ---- the machines of peers

abbrev machine_of : View → Option Machine
machine_of v = v.fixed.machine

abbrev fixed_of : View → Fixed
fixed_of v = v.fixed

fused : (vs : List View) → map machine_of vs ≡ map (λ (f : Fixed). f.machine) (map fixed_of vs)
fused [] = refl
fused (v ∷ vs) = ap (λ (ms : List (Option Machine)). v.fixed.machine ∷ ms) (fused vs)

-- peers that tell these machines when they are taken back told them from the start
tell_machines : (host : List ℕ) (folders : List (List ℕ)) (cs : List Component) (olds news : List View) (machines : List Machine) → AreStarted host folders cs olds →
    map fixed_of news ≡ map fixed_of olds → map machine_of news ≡ map (λ (m : Machine). Some m) machines → T.AreMachinesOf olds machines
tell_machines host folders cs olds news machines are stay tell = record {
  count = sym (length-map machines (λ (m : Machine). Some m)) ∙ ap length (sym told) ∙ length-map olds machine_of;
  each = λ i v m at there.
      let is : v.fixed.machine ≡ Some m =
      same_Some v.fixed.machine (Some m)
      (sym (slice_get-map machine_of olds i ∙ ap (option_map machine_of) at) ∙ ap (λ (ms : List (Option Machine)). slice_get ms i) told
      ∙ slice_get-map (λ (x : Machine). Some x) machines i ∙ ap (option_map (λ (x : Machine). Some x)) there) in
      (is, first_state host folders cs olds i v are at ∙ ap (option_map (λ (x : Machine). x.first)) is);
}
  where
    told : map machine_of olds ≡ map (λ (m : Machine). Some m) machines
    told = fused olds ∙ ap (map (λ (f : Fixed). f.machine)) (sym stay) ∙ sym (fused news) ∙ tell

none_rose : (olds news : List View) → All (λ (v : View). v.faults ≡ 0) news → SomeFaultCounted olds news → ⊥
none_rose olds news quiet x =
    let none : x.new.faults ≡ 0 = all_at (λ (v : View). v.faults ≡ 0) news x.place x.new quiet x.after in
    let rose : Rose x.old.faults x.new.faults = x.rose in
    omega (arith, none, rose)

-- ---- what a call came to

-- the status and the line by the end of the trace
abbrev pub IsTold : Happened → Run → EndKind → ℕ → Type 0
IsTold h r K.Stop point = (h.status ≡ 0) × (h.err_after ≡ h.err)
IsTold h r K.Asked point = (h.status ≡ 0) × (h.err_after ≡ h.err)
IsTold h r K.Limit point = (h.status ≡ 8) × (h.err_after ≡ with_piece h.err (limit_message point))
IsTold h r K.Fixed point =
    (i : ℕ) × (e : ℕ) × (name : List ℕ) × LacksStepAt r i point e × (slice_get (names_of r.system).components i ≡ Some name)
    × (h.status ≡ 9) × (h.err_after ≡ with_piece h.err (fixed_message name point e))
IsTold h r K.Range point =
    (lost : LostValue) × (port : _) × (name : List ℕ) × LosesAt r lost point × (slice_get (names_of r.system).ports lost.port.0 ≡ Some port)
    × (slice_get (names_of r.system).components port.component.0 ≡ Some name) × (h.status ≡ 13) × (h.err_after ≡ with_piece h.err (range_message name port.name lost.value))
IsTold h r K.Fault point = ⊥

-- the trace of the run was put, and its end told
pub record Came (h : Happened) (r : Run) : Type 0 where
  pub is : List Instant
  pub kind : EndKind
  pub point : ℕ
  pub trace : IsTrace r is kind point
  pub out : h.new.run.out ≡ with_pieces h.old.run.out (trace_pieces r.system r.plan is kind point)
  pub told : IsTold h r kind point

-- the system that was made, and what is known of its run
pub record Ran (h : Happened) (asked : RunLine) (loaded : Loaded) (machines : List Machine) : Type 0 where
  pub made : Loaded
  pub parts : HaveSameParts made.system loaded.system
  pub bound : made.bound ≡ loaded.bound
  pub sound : IsSound made.system
  pub machines_are : AreMachines (run_of asked made machines)
  pub came : Came h (run_of asked made machines)

of_same : (asked : RunLine) (one other : Loaded) (machines : List Machine) → HaveSameParts one.system other.system → one.bound ≡ other.bound → AreAlike (run_of asked one machines) (run_of asked other machines)
of_same asked one other machines parts bound = record { components = parts.0; ports = parts.1; bound = bound; machines = refl; plan = refl }

turned : (one other : System) → HaveSameParts one other → HaveSameParts other one
turned one other parts = (sym parts.0, sym parts.1)

module _ (h : Happened) (asked : RunLine) (loaded : Loaded) (machines : List Machine) (x : RunsLoaded h asked loaded) (tell : AreMachinesOf h machines) (hinders : IsUnhindered h)
    (well : WellBehaved (run_of asked loaded machines)) (behave : BehaveAlike) where
  abbrev own : Run
  own = run_of asked x.made machines

  news_are : x.traces.account.news ≡ tell.peers
  news_are =
      append_cancel_left h.old.run.spawner.retired x.traces.account.news tell.peers
      (sym (ap (λ (s : SpawnerView). s.retired) x.traces.peers.told) ∙ tell.retired)

  is_run : IsRunOf x.made.system x.made.bound x.traces.account.olds own
  is_run = record {
    system_is = refl;
    bound_is = refl;
    tell = tell_machines asked.host x.made.folders x.made.system.components x.traces.account.olds x.traces.account.news machines x.traces.peers.are x.traces.same (ap (map machine_of) news_are ∙ tell.tell);
  }

  own_well : WellBehaved own
  own_well = behave (run_of asked loaded machines) own (of_same asked loaded x.made machines (turned x.made.system loaded.system x.agree.0) (sym x.agree.1)) well

  quiet : SomeFaultCounted x.traces.account.olds x.traces.account.news → ⊥
  quiet = none_rose x.traces.account.olds x.traces.account.news (subst (All (λ (v : View). v.faults ≡ 0)) (sym news_are) tell.answer)

  put : (kind : EndKind) (point : ℕ) (p : PutsTrace own (output_of x.traces.account) kind point) → h.new.run.out ≡ with_pieces h.old.run.out (trace_pieces x.made.system asked.plan p.is kind point)
  put kind point p =
      sym x.traces.after_is ∙ p.text.put ∙ ap (λ (s : SinkView). with_pieces s (trace_pieces x.made.system asked.plan p.is kind point)) x.traces.before_is

  ran : (kind : EndKind) (point : ℕ) → HasOneTrace own → PutsTrace own (output_of x.traces.account) kind point → IsTold h own kind point → Ran h asked loaded machines
  ran kind point one p told = record {
    made = x.made;
    parts = x.agree.0;
    bound = x.agree.1;
    sound = x.traces.sound;
    machines_are = one.machines;
    came = record { is = p.is; kind = kind; point = point; trace = p.trace; out = put kind point p; told = told };
  }

  abbrev Puts : Option (List ℕ) → ℕ → Type 0
  Puts line status = Reports line status h.status h.err h.err_after

  of_end : (end : RunEnd) → TracesOnce x.traces.account own end → ReportsEnd h (names_of x.made.system) end → Ran h asked loaded machines
  of_end E.Stop w told = ran K.Stop asked.plan.stop w.0 w.1 (subst (λ e. Puts (end_message e) (end_status e)) told.1 told.2)
  of_end (E.Asked point) w told = ran K.Asked point w.0 w.1 (subst (λ e. Puts (end_message e) (end_status e)) told.1 told.2)
  of_end (E.EventLimit point) w told = by (subst (λ e. Puts (end_message e) (end_status e)) told.1 told.2)
    where
      by : Puts (Some (limit_message point)) 8 → Ran h asked loaded machines
      by (inl said) = ran K.Limit point w.0 w.1 said
      by (inr cut) = absurd (hinders.puts cut.0)
  of_end (E.FixedStep component at end) w told = by (subst (λ e. Puts (end_message e) (end_status e)) told.1.2 told.2)
    where
      by : Puts (Some (fixed_message told.1.0 at end)) 9 → Ran h asked loaded machines
      by (inl said) = ran K.Fixed at w.0 w.1.0 (component.0, end, told.1.0, w.1.1, told.1.1, said.0, said.1)
      by (inr cut) = absurd (hinders.puts cut.0)
  of_end (E.Range lost at) w told = by (subst (λ e. Puts (end_message e) (end_status e)) told.1.2.2 told.2)
    where
      by : Puts (Some (range_message told.1.2.0 told.1.0.name lost.value)) 13 → Ran h asked loaded machines
      by (inl said) = ran K.Range at w.0 w.1.0 (lost, told.1.0, told.1.2.0, w.1.1, told.1.1, told.1.2.1, said.0, said.1)
      by (inr cut) = absurd (hinders.puts cut.0)
  of_end (E.Bad bad) w told = absurd (quiet w.1)
  of_end (E.Held point) w told = absurd w.1
  of_end E.WriteFault w told = by (subst (λ e. Puts (end_message e) (end_status e)) told.1 told.2)
    where
      by : Puts (Some (codes "write\n")) 10 → Ran h asked loaded machines
      by (inl said) = absurd (hinders.puts said.0)
      by (inr cut) = absurd (hinders.puts cut.0)

  pub ran_to : Ran h asked loaded machines
  ran_to = of_end x.end (x.traces.well own is_run refl own_well) x.reports

-- ---- two of them

pieces_same : (r q : Run) (is : List Instant) (kind : EndKind) (point : ℕ) → AreAlike r q → trace_pieces r.system r.plan is kind point ≡ trace_pieces q.system q.plan is kind point
pieces_same r q is kind point same =
    ap (λ (cs : List Component). trace_pieces (record r.system { components = cs }) r.plan is kind point) same.components
    ∙ ap (λ (ps : List Port). trace_pieces (record r.system { components = q.system.components; ports = ps }) r.plan is kind point) same.ports
    ∙ ap (λ (plan : Plan). trace_pieces q.system plan is kind point) same.plan

moved_told : (h : Happened) (r q : Run) (kind : EndKind) (point : ℕ) → AreAlike r q → IsTold h r kind point → IsTold h q kind point
moved_told h r q K.Stop point same told = told
moved_told h r q K.Asked point same told = told
moved_told h r q K.Limit point same told = told
moved_told h r q K.Fixed point same told = (
  told.0,
  told.1,
  told.2,
  lacks_alike r q same told.0 point told.1 told.3,
  subst (λ (cs : List Component). slice_get (map (λ (c : Component). c.name) cs) told.0 ≡ Some told.2) same.components told.4,
  told.5,
  told.6,
)
moved_told h r q K.Range point same told = (
  told.0,
  told.1,
  told.2,
  loses_alike r q same told.0 point told.3,
  subst (λ (ps : List Port). slice_get (map port_name ps) told.0.port.0 ≡ Some told.1) same.ports told.4,
  subst (λ (cs : List Component). slice_get (map (λ (c : Component). c.name) cs) told.1.component.0 ≡ Some told.2) same.components told.5,
  told.6,
  told.7,
)
moved_told h r q K.Fault point same told = told

moved : TraceAlike → (h : Happened) (r q : Run) → AreAlike r q → Came h r → Came h q
moved trace h r q same x = record {
  is = x.is;
  kind = x.kind;
  point = x.point;
  trace = trace r q same x.is x.kind x.point x.trace;
  out = x.out ∙ ap (with_pieces h.old.run.out) (pieces_same r q x.is x.kind x.point same);
  told = moved_told h r q x.kind x.point same x.told;
}

abbrev SaidAlike : Happened → Happened → Type 0
SaidAlike h k = (h.status ≡ k.status) × (h.err_after ≡ k.err_after)

told_alike : FixedOnce → LostOnce → (h k : Happened) (r : Run) → IsSound r.system → AreMachines r → h.err ≡ k.err → (kind : EndKind) (point : ℕ) → IsTold h r kind point → IsTold k r kind point → SaidAlike h k
told_alike once lost h k r sound machines err K.Stop point x y = (x.0 ∙ sym y.0, x.1 ∙ err ∙ sym y.1)
told_alike once lost h k r sound machines err K.Asked point x y = (x.0 ∙ sym y.0, x.1 ∙ err ∙ sym y.1)
told_alike once lost h k r sound machines err K.Limit point x y = (x.0 ∙ sym y.0, x.1 ∙ ap (λ (s : SinkView). with_piece s (limit_message point)) err ∙ sym y.1)
told_alike once lost h k r sound machines err K.Fixed point x y = (
  x.5 ∙ sym y.5,
  x.6 ∙ ap (λ (s : SinkView). with_piece s (fixed_message x.2 point x.1)) err ∙ ap (λ (name : List ℕ). with_piece k.err (fixed_message name point x.1)) names
      ∙ ap (λ (e : ℕ). with_piece k.err (fixed_message y.2 point e)) step.2 ∙ sym y.6,
)
  where
    step : (x.0 ≡ y.0) × (point ≡ point) × (x.1 ≡ y.1)
    step = once r sound machines x.0 y.0 point point x.1 y.1 x.3 y.3

    names : x.2 ≡ y.2
    names = same_Some x.2 y.2 (sym x.4 ∙ ap (slice_get (names_of r.system).components) step.0 ∙ y.4)
told_alike once lost h k r sound machines err K.Range point x y = (
  x.6 ∙ sym y.6,
  x.7 ∙ ap (λ (s : SinkView). with_piece s (range_message x.2 x.1.name x.0.value)) err ∙ ap (λ (name : List ℕ). with_piece k.err (range_message name x.1.name x.0.value)) names
      ∙ ap (λ port. with_piece k.err (range_message y.2 port.name x.0.value)) ports ∙ ap (λ (v : LostValue). with_piece k.err (range_message y.2 y.1.name v.value)) value.0 ∙ sym y.7,
)
  where
    value : (x.0 ≡ y.0) × (point ≡ point)
    value = lost r sound machines x.0 y.0 point point x.3 y.3

    ports : x.1 ≡ y.1
    ports = same_Some x.1 y.1 (sym x.4 ∙ ap (λ (v : LostValue). slice_get (names_of r.system).ports v.port.0) value.0 ∙ y.4)

    names : x.2 ≡ y.2
    names = same_Some x.2 y.2 (sym x.5 ∙ ap (λ port. slice_get (names_of r.system).components port.component.0) ports ∙ y.5)
told_alike once lost h k r sound machines err K.Fault point x y = absurd x

came_alike : OneTrace → FixedOnce → LostOnce → (h k : Happened) (r : Run) → IsSound r.system → AreMachines r → h.old.run.out ≡ k.old.run.out → h.err ≡ k.err → Came h r → Came k r → AnswerAlike h k
came_alike trace once lost h k r sound machines out err x y = record {
  status = said.0;
  out =
      x.out ∙ ap (λ (s : SinkView). with_pieces s (trace_pieces r.system r.plan x.is x.kind x.point)) out
      ∙ ap (λ (is : List Instant). with_pieces k.old.run.out (trace_pieces r.system r.plan is x.kind x.point)) one.0
      ∙ ap (λ (kind : EndKind). with_pieces k.old.run.out (trace_pieces r.system r.plan y.is kind x.point)) one.1
      ∙ ap (λ (point : ℕ). with_pieces k.old.run.out (trace_pieces r.system r.plan y.is y.kind point)) one.2 ∙ sym y.out;
  err = said.1;
}
  where
    one : (x.is ≡ y.is) × (x.kind ≡ y.kind) × (x.point ≡ y.point)
    one = trace r sound machines x.is y.is x.kind y.kind x.point y.point x.trace y.trace

    said : SaidAlike h k
    said =
        told_alike once lost h k r sound machines err x.kind x.point x.told
        (subst (λ (kind : EndKind). IsTold k r kind x.point) (sym one.1) (subst (λ (point : ℕ). IsTold k r y.kind point) (sym one.2) y.told))

pub record Laws : Type 0 where
  pub one : OneTrace
  pub trace : TraceAlike
  pub behave : BehaveAlike
  pub fixed : FixedOnce
  pub lost : LostOnce

-- a call of which nothing fails answers neither that memory ran out nor that a put failed
hindered : (h : Happened) (text : List ℕ) → IsUnhindered h → Answers h 11 text → ⊥
hindered h text hinders (inl few) = hinders.memory few.0
hindered h text hinders (inr mute) = hinders.puts mute.0

pub runs_alike : Laws → RunAlike
runs_alike laws h k line asked loaded machines twins find asks known hinders hinders_too tell tell_too well = alike (by_row h twins.keeps.0 twins.is.0 find.0 known hinders tell) (by_row k twins.keeps.1 twins.is.1 find.1 (subst (λ (s : SpawnerView). AreKnown asked.host s loaded.system.components) twins.spawner known) hinders_too tell_too)
  where
    by_row : (c : Happened) → KeepsRows c → IsLine c.words line → IsToFind c line (Found loaded) → AreKnown asked.host c.old.run.spawner loaded.system.components → IsUnhindered c → AreMachinesOf c machines →
        Ran c asked loaded machines
    by_row c keeps is finds knows free tells = by ((system_rows c line keeps is).trace.when line asked loaded is asks finds knows free.starts)
      where
        by : (Answers c 11 memory_line × rows.IsIdle c) ⊎ RunsLoaded c asked loaded → Ran c asked loaded machines
        by (inl few) = absurd (hindered c memory_line free few.0)
        by (inr x) = ran_to c asked loaded machines x tells free well laws.behave

    alike : Ran h asked loaded machines → Ran k asked loaded machines → AnswerAlike h k
    alike x y =
        came_alike laws.one laws.fixed laws.lost h k (run_of asked x.made machines) x.sound x.machines_are twins.out twins.err x.came
        (moved laws.trace k (run_of asked y.made machines) (run_of asked x.made machines)
        (of_same asked y.made x.made machines (y.parts.0 ∙ sym x.parts.0, y.parts.1 ∙ sym x.parts.1) (y.bound ∙ sym x.bound)) y.came)

-- ---- no run

-- the status with its line, where nothing fails
answered : (h : Happened) (status : ℕ) (text : List ℕ) → IsUnhindered h → AnswersOr11 h status text → (h.status ≡ status) × (h.err_after ≡ with_piece h.err text)
answered h status text hinders (inl few) = absurd (hindered h memory_line hinders few)
answered h status text hinders (inr (inl said)) = said
answered h status text hinders (inr (inr mute)) = absurd (hinders.puts mute.0)

said_alike : (h k : Happened) (status : ℕ) (text : List ℕ) → h.err ≡ k.err → IsUnhindered h → IsUnhindered k → AnswersOr11 h status text → AnswersOr11 k status text → SaidAlike h k
said_alike h k status text err hinders hinders_too one other =
    let x = answered h status text hinders one in
    let y = answered k status text hinders_too other in
    (x.0 ∙ sym y.0, x.1 ∙ ap (λ (s : SinkView). with_piece s text) err ∙ sym y.1)

pub unknown_alike : ToldUnknown
unknown_alike h k line asked loaded place c twins find asks first hinders hinders_too =
    said_alike h k 5 _ twins.err hinders hinders_too
    ((system_rows h line twins.keeps.0 twins.is.0).link.unknown line asked loaded place c twins.is.0 asks find.0 first hinders.starts)
    ((system_rows k line twins.keeps.1 twins.is.1).link.unknown line asked loaded place c twins.is.1 asks find.1
    (subst (λ (s : SpawnerView). IsFirstUnknown asked.host s loaded.system.components place c) twins.spawner first) hinders_too.starts)

-- at status 0 nothing is put on err
silent : (h : Happened) (line : Line) → HasEnded h line → IsSilent h
silent h line (rows.Told told is) = is
silent h line (rows.Ended end finished runs) = by end finished runs.reports
  where
    by : (e : RunEnd) → rows.IsFinished e → ReportsEnd h (names_of runs.it.loaded.system) e → IsSilent h
    by E.Stop finishes told = (subst (λ t. Reports (end_message t) (end_status t) h.status h.err h.err_after) told.1 told.2).1
    by (E.Asked point) finishes told = (subst (λ t. Reports (end_message t) (end_status t) h.status h.err h.err_after) told.1 told.2).1
    by (E.EventLimit point) never told = absurd never
    by (E.FixedStep component at e) never told = absurd never
    by (E.Range lost at) never told = absurd never
    by (E.Bad bad) never told = absurd never
    by (E.Held point) never told = absurd never
    by E.WriteFault never told = absurd never

pub record Sized (h : Happened) (loaded : Loaded) : Type 0 where
  pub status : h.status ≡ 0
  pub out : h.new.run.out ≡ with_piece h.old.run.out (size_text loaded.system loaded.bound.unreached)
  pub err : h.err_after ≡ h.err

sized : (h : Happened) (line : Line) (loaded : Loaded) → KeepsRows h → IsLine h.words line → IsToFind h line (Found loaded) → run_in line ≡ None → IsUnhindered h → Sized h loaded
sized h line loaded keeps is finds asks hinders = by (all.check.when line loaded is asks finds)
  where
    all : KeepsSystemRows h
    all = system_rows h line keeps is

    by : (Answers h 11 memory_line × rows.IsIdle h) ⊎ WritesSize h loaded → Sized h loaded
    by (inl few) = absurd (hindered h memory_line hinders few.0)
    by (inr (rows.Sized zero_is tells)) = let ended = all.ended.when zero_is in record { status = zero_is; out = tells.out; err = silent h ended.0 ended.2 }
    by (inr (rows.Cut ten cut)) = absurd (hinders.puts ten)

pub sizes_alike : TellAlike
sizes_alike h k line loaded twins find asks hinders hinders_too =
    let x = sized h line loaded twins.keeps.0 twins.is.0 find.0 asks hinders in
    let y = sized k line loaded twins.keeps.1 twins.is.1 find.1 asks hinders_too in
    record {
      status = x.status ∙ sym y.status;
      out = x.out ∙ ap (λ (s : SinkView). with_piece s (size_text loaded.system loaded.bound.unreached)) twins.out ∙ sym y.out;
      err = x.err ∙ twins.err ∙ sym y.err;
    }
