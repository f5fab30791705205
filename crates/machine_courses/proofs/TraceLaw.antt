-- Machines that behave well get no bad answer: of a log of them the text of their trace is put, but for a call or a put that failed.
use Rattle.std.proofs.Common.{◌≡◌, ◌⊎◌, ℕ, true, false, List, [], ◌∷◌, ◌++◌, inl, inr, refl, sym, ap, ◌∙◌, append_assoc, length, map, subst}
use Rattle.std.specs.Prelude.{◌==◌}
use Rattle.std.proofs.lemmas.List.{length-map, map-append}
use Rattle.value_types.specs.declared.shape.Shape.{Shape}
use Rattle.fmi_calls.specs.declared.call.Call.TheVariants as C
use Rattle.fmu_peer.specs.declared.ended.Why.{Why}
use Rattle.fmu_peer.specs.Machine.{Machine, MachineState}
use Rattle.fmu_peer.specs.Mode.{instantiate_of}
use Rattle.system_model.specs.declared.plan.EndKind.{EndKind}
use Rattle.system_model.specs.declared.plan.Plan.{Plan}
use Rattle.system_model.specs.declared.system.System.{System}
use Rattle.system_model.specs.Bounds.{BindsParameters}
use Rattle.system_model.specs.Ports.{port_numbers}
use Rattle.system_model.specs.Sound.{IsSound}
use Rattle.system_model.specs.Text.{Instant, end_text}
use Rattle.run_model.specs.AfterInstant as F
use Rattle.run_model.specs.Behaved.{Departed, WellBehaved}
use Rattle.run_model.specs.Initial as I
use Rattle.run_model.specs.Machines.{AreMachines}
use Rattle.run_model.specs.Run.{Run}
use Rattle.run_model.specs.Stepping.{departing}
use Rattle.slot_calls.specs.declared.bad_answer.BadAnswer.{BadAnswer}
use Rattle.slot_calls.specs.Log.{Sent, component_calls}
use Rattle.slot_calls.specs.Replies.{AreReplies, states_by}
use Rattle.slot_calls.specs.Stage.{StopsAt, everyone, shapes_of}
use Rattle.step_agreement.specs.Agreement.{Fails}
use Rattle.step_agreement.specs.OverMachines.{IgnoreSlots}
use Rattle.event_iteration.specs.Explains.{ExplainsUntil}
use Rattle.event_iteration.specs.Instants.{in_instant}
use Rattle.event_iteration.specs.Settings.{entered_step}
use Rattle.run_model.specs.Trace.{IsTrace}
use Rattle.event_iteration.proofs.ByLog.{AreAll, configured_all, initialized_all, made_all, replies_first, replies_then}
use Rattle.calling_sequence.specs.declared.run_end.RunEnd.{RunEnd}
use Rattle.calling_sequence.specs.declared.run_end.RunEnd.TheVariants as E
use Rattle.calling_sequence.specs.Course.{Agreed, Before, Configured, CourseIn, Departing, Entered, Extent, Found, Left, Leaving, Made, Place, Read, Rearmed, Restored, Saved, InstantDone, Short, Stepped, Timed, Way, Whole, first_of, part_at}
use Rattle.calling_sequence.specs.Ends.{AwaitsIn, Badly, EndLine, EndsBy, FinishesIn, Header, Shown, Well, header_of, kind_of_end, pieces_in, point_of, text_of}
use Rattle.calling_sequence.specs.Parts.{Falls}
use Rattle.system_model.specs.Plans.{IsPlan}
use Rattle.calling_sequence.specs.Puts.{PutsPrefixOf, with_pieces}
use Rattle.machine_courses.specs.Laws.{TraceByLog, UnmadeByLog}
use Rattle.machine_courses.specs.Outcomes.{IsLost, Output, PutsPrefixOfTraceIn, PutsRun, Stretch, TracesWell, pieces_up_to, pieces_with_end, whole_of}
use Rattle.machine_courses.proofs.Following.{reached_by}
use Rattle.machine_courses.proofs.Prefixes.{none, prefix_at, stands_in}
use Rattle.machine_courses.proofs.Initially.{lost_binding, lost_finding, lost_timing}
use Rattle.machine_courses.proofs.Instants.{lost_found, lost_rearming, lost_updating}
use Rattle.machine_courses.proofs.Lost.{lost_after, lost_stops}
use Rattle.machine_courses.proofs.Places.{At, Goes, gone}
use Rattle.machine_courses.proofs.Rest.{whole}
use Rattle.machine_courses.proofs.Rows.{agrees_here, goes_all, inside, ticks_at, walk_at}
use Rattle.machine_courses.proofs.RunLaw.{made_replies, puts_run, trace_at}
use Rattle.machine_courses.proofs.StepCalls.{lost_agreeing, lost_entering, lost_freeing, lost_leaving, lost_saving, lost_setting}
use Rattle.machine_courses.proofs.Steps.{after_step, agreed, saved}

-- nothing that isn't sent is answered badly
none_falls : (shapes : List Shape) (bad : BadAnswer) (log : List Sent) → StopsAt shapes [] bad log → ⊥
none_falls shapes bad log s = by s.prefix (s.calls_are ∙ ap (λ (l : List Sent). component_calls l ++ s.left) s.log_is) where
  by : (prefix : List Sent) → [] ≡ component_calls (prefix ++ s.last ∷ []) ++ s.left → ⊥
  by [] e = absurd (cc)
  by (x ∷ prefix) e = absurd (cc)

-- the pieces of a trace, after those of a prefix
pieces_after : (part : Stretch) (is : List Instant) (i : Instant) (rest : List Instant) (kind : EndKind) (point : ℕ) →
    pieces_with_end part ((is ++ i ∷ []) ++ rest) kind point ≡ pieces_up_to part is ++ text_of i ∷ (map text_of rest ++ end_text kind point ∷ [])
pieces_after part is i rest kind point =
    ap (λ (xs : List Instant). pieces_with_end part xs kind point) (append_assoc is (i ∷ []) rest)
    ∙ ap (λ (ps : List (List ℕ)). (part.head ++ ps) ++ end_text kind point ∷ []) (map-append text_of is (i ∷ rest))
    ∙ append_assoc part.head (map text_of is ++ text_of i ∷ map text_of rest) (end_text kind point ∷ [])
    ∙ ap (λ (ps : List (List ℕ)). part.head ++ ps) (append_assoc (map text_of is) (text_of i ∷ map text_of rest) (end_text kind point ∷ []))
    ∙ sym (append_assoc part.head (map text_of is) (text_of i ∷ (map text_of rest ++ end_text kind point ∷ [])))

module _ (r : Run) (sound : IsSound r.system) (plan : IsPlan r.plan) (machines : AreMachines r) (ignore : IgnoreSlots r) (binds : BindsParameters r.system r.bound) (well : WellBehaved r) where
  abbrev count : ℕ
  count = length r.system.components

  abbrev first : List MachineState
  first = I.instantiated r

  -- the run departs there
  departed : (w : Way) (is : List Instant) (g : Goes r w is) → Departed r (gone r w is g)
  departed w is g = record {
    s = g.sees.z;
    values = w.s.values;
    reached = reached_by r g.sees.z g.sees.earlier g.sees.at.came;
    solves = g.sees.solves;
    done = g.done;
    is = refl;
    before_stop = g.step.bound.before_stop;
  }

  -- a row a part: its bad answer was lost
  lost : (p : Place) (is : List Instant) (ss : List MachineState) → At r p is ss → (bad : BadAnswer) (log : List Sent) → Falls r.system (part_at r.system r.bound r.plan p) bad log → AreReplies r ss log → IsLost count log bad.why
  lost Made is ss (at_none, at) bad log falls replies = lost_binding r sound machines well bad log binds (inside r log ss first at replies) falls
  lost Configured is ss (at_none, at) bad log falls replies =
      lost_stops r (I.configured r) (configured_all r machines) bad log (inside r log ss (I.configured r) at replies) everyone (λ (shape : Shape). C.EnterInitialization r.plan.start r.plan.stop) falls (λ i c m z fmu asked. (well i).before.enter c m z fmu)
  lost Entered is ss (at_none, at) bad log (values, falls) replies = lost_finding r sound machines well bad log values falls (inside r log ss (I.initializing r) at replies)
  lost (Found values) is ss (at_none, (at, same)) bad log falls replies = lost_timing r sound machines well bad log at.initial at.solves (inside r log ss (I.initialized r at.initial) at.states replies) falls
  lost (Timed timers) is ss (at_none, (at, kept), timers_are) bad log falls replies =
      lost_stops r (I.initialized r at.initial) (initialized_all r machines at.initial) bad log (inside r log ss (I.initialized r at.initial) at.states replies) everyone (λ (shape : Shape). C.ExitInitialization) falls
      (λ i c m z fmu asked. ((well i).initially at.initial at.solves).exit c m z fmu)
  lost (Before s ticks) is ss c bad log (values, falls) replies =
      lost_found r sound machines well c.z (reached_by r c.z is c.at.came) bad log ticks (ticks_at r s ticks is ss c) values
      (walk_at r s ticks is ss c (λ n before. ExplainsUntil r.system (in_instant ticks (n == 0)) before (port_numbers r.system.instant_order) bad values log) falls) (inside r log ss c.z.states c.states replies)
  lost (Read s) is ss (f, timers) bad log (values, falls) replies =
      lost_rearming r sound machines well f.z (reached_by r f.z is f.at.came) bad log s.values f.solves (inside r log ss (F.written r f.z s.values) f.states replies) values falls
  lost (Rearmed s) is ss (f, kept, timers) bad log falls replies =
      lost_updating r sound machines well f.z (reached_by r f.z is f.at.came) bad log s.values f.solves (inside r log ss (F.written r f.z s.values) f.states replies) falls
  lost (InstantDone s again asked) is ss x bad log falls replies = absurd (none_falls (shapes_of r.system) bad log falls)
  lost (Leaving w) is ss (g, at) bad log falls replies =
      let z = gone r w is g in
      lost_leaving r sound machines well z (goes_all r sound plan machines ignore w is g) (departed w is g) bad log (inside r log ss z.states at replies) falls
  lost (Left w) is ss (g, at) bad log (values, falls) replies =
      let z = gone r w is g in
      lost_setting r sound machines well z (goes_all r sound plan machines ignore w is g) (departed w is g) bad log (inside r log ss (entered_step r z) at replies) values falls
  lost (Departing w) is ss (g, at) bad log falls replies =
      let z = gone r w is g in
      lost_saving r sound machines well z (goes_all r sound plan machines ignore w is g) (departed w is g) bad log (inside r log ss (departing r z) at replies) falls
  lost (Saved w) is ss (g, at) bad log falls replies =
      let z = gone r w is g in
      lost_agreeing r sound machines well z (goes_all r sound plan machines ignore w is g) (departed w is g) bad log ignore w.to g.step.bound (inside r log ss (saved r z) at replies) (agrees_here r sound plan machines ignore w is g log (Fails bad) falls)
  lost (Short w component end) is ss (g, lacks) bad log falls replies = absurd (none_falls (shapes_of r.system) bad log falls)
  lost (Agreed w point asked) is ss (l, at) bad log falls replies =
      let z = gone r w is l.goes in
      lost_freeing r sound machines well z (goes_all r sound plan machines ignore w is l.goes) (departed w is l.goes) bad log l.asks point l.made (inside r log ss (agreed r z l.asks) at replies) falls
  lost (Restored s) is ss x bad log falls replies = absurd (none_falls (shapes_of r.system) bad log falls)
  lost (Stepped s true) is ss x bad log falls replies = absurd (none_falls (shapes_of r.system) bad log falls)
  lost (Stepped s false) is ss x bad log falls replies =
      let g = x.lands.goes in
      let z = gone r x.w is g in
      lost_entering r sound machines well z (goes_all r sound plan machines ignore x.w is g) (departed x.w is g) bad log x.lands.asks s.t x.lands.made (sym x.lands.asked_is) (inside r log ss (after_step r z x.lands.asks) x.states replies) falls

  -- of a stretch of the run: along a course from its first place on, whose log leads the machines from these states
  module _ (part : Stretch) (extent : Extent) (base : List MachineState) (all_base : AreAll r base) (begins : At r (first_of extent) part.after base) where
    lost_by : (p : Place) (bad : BadAnswer) (prefix more : List Sent) (is : List Instant) → CourseIn r.system r.bound r.plan extent p prefix is → Falls r.system (part_at r.system r.bound r.plan p) bad more → AreReplies r base (prefix ++ more) → IsLost count (prefix ++ more) bad.why
    lost_by p bad prefix more is course falls replies =
        let at = stands_in r sound plan machines ignore extent part.after base all_base begins p prefix is course (replies_first r base prefix more replies) in
        lost_after count prefix more bad.why (lost p (part.after ++ is) (states_by r base prefix) at.at bad more falls (replies_then r base prefix more at.good replies))

    pub lost_end : (bad : BadAnswer) (point : ℕ) (log : List Sent) (is : List Instant) → FinishesIn r.system r.bound r.plan extent (E.Bad bad) point log is → AreReplies r base log → IsLost count log bad.why
    lost_end bad _ _ _ (Well p _ log is course ends may) replies = elim ends [ ]
    lost_end _ _ _ _ (Badly p bad prefix more is course falls) replies = lost_by p bad prefix more is course falls replies

    module _ (o : Output) where
      abbrev Cut : List Sent → Type 0
      Cut log = ((why : Why) × IsLost count log why) ⊎ PutsPrefixOfTraceIn r part o

      pub cut_shown : (p : Place) (log : List Sent) (is : List Instant) (i : Instant) → CourseIn r.system r.bound r.plan extent p log (is ++ i ∷ []) → AreReplies r base log → PutsPrefixOf (with_pieces o.before (pieces_up_to part is)) (text_of i) o.after → Cut log
      cut_shown p log is i course replies cut =
          let at = stands_in r sound plan machines ignore extent part.after base all_base begins p log (is ++ i ∷ []) course replies in
          let w = whole r sound plan machines well (part.after ++ (is ++ i ∷ [])) (prefix_at r sound plan machines ignore p (part.after ++ (is ++ i ∷ [])) (states_by r base log) at.at) in
          inr (record {
            is = (is ++ i ∷ []) ++ w.rest;
            kind = w.kind;
            point = w.point;
            trace = subst (λ (js : List Instant). IsTrace r js w.kind w.point) (append_assoc part.after (is ++ i ∷ []) w.rest) w.trace;
            pieces = pieces_up_to part is;
            piece = text_of i;
            rest = map text_of w.rest ++ end_text w.kind w.point ∷ [];
            are = pieces_after part is i w.rest w.kind w.point;
            cut = cut;
          })

      pub cut_end : (end : RunEnd) (point : ℕ) (log : List Sent) (is : List Instant) → FinishesIn r.system r.bound r.plan extent end point log is → AreReplies r base log → PutsPrefixOf (with_pieces o.before (pieces_up_to part is)) (end_text (kind_of_end end) point) o.after → Cut log
      cut_end _ _ _ _ (Well p end log is course ends may) replies cut =
          let at = stands_in r sound plan machines ignore extent part.after base all_base begins p log is course replies in
          inr (record {
            is = is;
            kind = kind_of_end end;
            point = point_of r.plan p;
            trace = trace_at r sound plan machines ignore end p ends (part.after ++ is) (states_by r base log) at.at;
            pieces = pieces_up_to part is;
            piece = end_text (kind_of_end end) (point_of r.plan p);
            rest = [];
            are = refl;
            cut = cut;
          })
      cut_end _ _ _ _ (Badly p bad prefix more is course falls) replies cut = inl (bad.why, lost_by p bad prefix more is course falls replies)

  -- a whole run
  module _ (o : Output) where
    abbrev w : Stretch
    w = whole_of r

    abbrev from_made : At r Made [] first
    from_made = (refl, refl)

    cut_by : (x : Extent) (log : List Sent) (is : List Instant) (pieces : List (List ℕ)) (piece : List ℕ) → x ≡ Whole → AwaitsIn r.system r.bound r.plan x log is pieces piece → AreReplies r first log → PutsPrefixOf (with_pieces o.before pieces) piece o.after → Cut w Whole first (made_all r machines) from_made o log
    cut_by _ _ _ _ _ same Header replies cut =
        let t = whole r sound plan machines well [] (none r sound plan machines ignore [] refl) in
        inr (record { is = t.rest; kind = t.kind; point = t.point; trace = t.trace; pieces = []; piece = header_of r.system r.plan; rest = map text_of t.rest ++ end_text t.kind t.point ∷ []; are = refl; cut = cut })
    cut_by _ _ _ _ _ same (Shown x p log is i puts_them shows course) replies cut =
        cut_shown w Whole first (made_all r machines) from_made o p log is i (subst (λ (y : Extent). CourseIn r.system r.bound r.plan y p log (is ++ i ∷ [])) same course) replies
        (subst (λ (y : Extent). PutsPrefixOf (with_pieces o.before (pieces_in r.system r.plan y is)) (text_of i) o.after) same cut)
    cut_by _ _ _ _ _ same (EndLine x end point log is finishes) replies cut =
        cut_end w Whole first (made_all r machines) from_made o end point log is (subst (λ (y : Extent). FinishesIn r.system r.bound r.plan y end point log is) same finishes) replies
        (subst (λ (y : Extent). PutsPrefixOf (with_pieces o.before (pieces_in r.system r.plan y is)) (end_text (kind_of_end end) point) o.after) same cut)

    traces_well : (end : RunEnd) (log : List Sent) (is : List Instant) → EndsBy r.system r.bound r.plan log is end o.before o.after → AreReplies r first log → PutsRun r o end → TracesWell r log o end
    traces_well E.Stop log is ends replies puts = puts
    traces_well (E.Asked at) log is ends replies puts = puts
    traces_well (E.EventLimit at) log is ends replies puts = puts
    traces_well (E.FixedStep component at end) log is ends replies puts = puts
    traces_well (E.Range lost at) log is ends replies puts = puts
    traces_well (E.Held at) log is ends replies puts = absurd ends
    traces_well (E.Bad bad) log is (point, f, put) replies puts = lost_end w Whole first (made_all r machines) from_made bad point log is f replies
    traces_well E.WriteFault log is x replies puts = cut_by Whole log is x.pieces x.piece refl x.awaits replies x.cuts

pub trace_by_log : TraceByLog
trace_by_log r made log is end o binds well c =
    let replies = made_replies r made log c.making c.replies in
    traces_well r c.sound c.plan c.machines c.ignore binds well o end log is c.ends replies (puts_run r c.sound c.plan c.machines c.ignore o end log is c.ends replies c.counted)

pub unmade_by_log : UnmadeByLog
unmade_by_log r bad log machines well replies stops =
    lost_stops r (I.first_states r) (record { machines = machines; states = length-map r.machines (λ (m : Machine). m.first) ∙ machines }) bad log replies everyone (instantiate_of r.plan.link) stops (λ i c m z fmu asked. (well i).before.instantiate c m z fmu)
