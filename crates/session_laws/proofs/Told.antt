-- What the histories of told machines say of their run.
use Rattle.std.proofs.Common.{◌≡◌, ℕ, ◌<◌, inl, inr, Bool, true, List, ◌∷◌, ◌++◌, Some, refl, sym, ap, ◌∙◌, subst, append_assoc, arith, length}
use Rattle.std.specs.Prelude.{◌||◌, ◌==◌}
use Rattle.std.specs.List.{list_any, slice_get}
use Rattle.std.specs.Option.{option_map}
use Rattle.std.proofs.lemmas.List.{length-map}
use Rattle.std.proofs.lemmas.List.Folds.{list_any-append}
use Rattle.std.proofs.Math.Bool.{or-true}
use Rattle.std.proofs.lemmas.Option.{get_or_from_slice_get, same_Some, slice_get-map, slice_get_within}
use Rattle.fmu_peer.specs.declared.ended.Why.{Why}
use Rattle.fmu_peer.specs.declared.peer.Exchange.{Exchange}
use Rattle.fmu_peer.specs.Answer.{IsLink}
use Rattle.fmu_peer.specs.Machine.{Machine}
use Rattle.fmu_peer.specs.View.{View}
use Rattle.system_model.specs.declared.bound.Bound.{Bound}
use Rattle.system_model.specs.declared.plan.Plan.{Plan}
use Rattle.system_model.specs.declared.system.Component.{Component}
use Rattle.system_model.specs.declared.system.System.{System}
use Rattle.system_model.specs.Bounds.{BindsParameters}
use Rattle.system_model.specs.Sound.{IsSound}
use Rattle.run_model.specs.Initial.{first_states}
use Rattle.run_model.specs.Machines.{AreMachines}
use Rattle.run_model.specs.Run.{Run}
use Rattle.slot_calls.specs.Log.{Sent, part}
use Rattle.slot_calls.specs.Replies.{AreReplies, RepliesBy}
use Rattle.slot_calls.specs.Stage.{IsAnswered, shapes_of}
use Rattle.slot_calls.proofs.CallerLemmas.{part_append, same, takes, replies_prefix}
use Rattle.step_agreement.specs.OverMachines.{IgnoreSlots}
use Rattle.calling_sequence.specs.declared.run_end.RunEnd.{RunEnd}
use Rattle.calling_sequence.specs.declared.run_end.RunEnd.TheVariants as E
use Rattle.calling_sequence.specs.Calls.{making}
use Rattle.calling_sequence.specs.Ends.{EndsBy}
use Rattle.system_model.specs.Plans.{IsPlan}
use Rattle.machine_courses.specs.Laws as Machines
use Rattle.machine_courses.specs.Laws.{RunByLog, TraceByLog, UnmadeByLog}
use Rattle.machine_courses.specs.Outcomes.{IsLost}
use Rattle.machine_courses.specs.Outcomes as Outcomes
use Rattle.step_master.specs.Sessions.{Account, FailedStart, Session}
use Rattle.step_master.specs.Histories.{ArePeerHistories, IsPeerHistory, PeerHistory, is_unanswered, talk_in}
use Rattle.step_master.specs.System.{MachinesMatchShapes}
use Rattle.step_master.proofs.CallerLemmas.{got}
use Rattle.session_laws.specs.Traced.{AreMachinesOf, IsRunOf, SomeFaultCounted, ToldFailedStart, ToldRun, ToldTrace, TracesWell, output_of}

-- ---- what the histories tell of the machines

module _ (system : System) (olds news : List View) (log : List Sent) (histories : List PeerHistory) (are : ArePeerHistories system olds news log histories) where
  len_histories : length histories ≡ length system.components
  len_histories = sym (length-map histories (λ (l : PeerHistory). l.source)) ∙ ap length are.sources_are ∙ length-map system.components (λ (d : Component). d.source.0)

  len_olds : length olds ≡ length system.components
  len_olds = sym (ap length are.olds_are) ∙ length-map histories (λ (l : PeerHistory). l.old) ∙ len_histories

  -- the history of a component
  history_at : (k : ℕ) → k < length system.components → (history : PeerHistory) × (slice_get histories k ≡ Some history) × IsPeerHistory history × (slice_get olds k ≡ Some history.old) × (slice_get news k ≡ Some history.new)
  history_at k inside =
      let x = got histories k (let e = len_histories in omega (arith, e, inside)) in
      let history = x.0 in (
        history,
        x.1,
        subst IsPeerHistory (get_or_from_slice_get histories k history history x.1) (are.each k history (slice_get_within histories k history x.1)),
        ap (λ (vs : List View). slice_get vs k) (sym are.olds_are) ∙ slice_get-map (λ (y : PeerHistory). y.old) histories k ∙ ap (option_map (λ (y : PeerHistory). y.old)) x.1,
        ap (λ (vs : List View). slice_get vs k) (sym are.news_are) ∙ slice_get-map (λ (y : PeerHistory). y.new) histories k ∙ ap (option_map (λ (y : PeerHistory). y.new)) x.1,
      )

  -- a call that got no reply raised its peer's count
  pub rose_of : (why : Why) → IsLost (length system.components) log why → SomeFaultCounted olds news
  rose_of why lost =
      let k = lost.last.component in
      let found = history_at k lost.within in
      let history : PeerHistory = found.0 in
      let run_is : history.run ≡ part k lost.prefix ++ (lost.last.exchange ∷ part k lost.back) =
      are.runs_are k history found.1 ∙ ap (part k) lost.is ∙ part_append k lost.prefix (lost.last ∷ lost.back)
      ∙ ap (λ (es : List Exchange). part k lost.prefix ++ es) (takes (k == k) lost.last.exchange (part k lost.back) (same k k refl)) in
      let some : list_any is_unanswered (talk_in history) ≡ true =
      list_any-append is_unanswered history.run history.closing
      ∙ ap (λ (b : Bool). b || list_any is_unanswered history.closing)
      (ap (list_any is_unanswered) run_is ∙ list_any-append is_unanswered (part k lost.prefix) (lost.last.exchange ∷ part k lost.back)
      ∙ ap (λ (b : Bool). list_any is_unanswered (part k lost.prefix) || (b || list_any is_unanswered (part k lost.back))) lost.unanswered)
      ∙ ap (λ (b : Bool). b || list_any is_unanswered history.closing) (or-true (list_any is_unanswered (part k lost.prefix))) in
      record { place = k; old = history.old; new = history.new; before = found.3; after = found.4; rose = found.2.counts.rose some }

module _ (r : Run) (olds news : List View) (log : List Sent) (histories : List PeerHistory) (are : ArePeerHistories r.system olds news log histories) (tell : AreMachinesOf olds r.machines) where
  -- they are machines of their shapes
  are_machines : MachinesMatchShapes r.system olds → AreMachines r
  are_machines theirs = record {
    count = tell.count ∙ len_olds r.system olds news log histories are;
    each = λ i c m at_c at_m.
        let found = history_at r.system olds news log histories are i (slice_get_within r.system.components i c at_c) in
        let its = theirs i c found.0.old m at_c found.3 (tell.each i found.0.old m found.3 at_m).0 in
        (its.0, its.1);
  }

  -- they answer the same whatever state is saved
  ignore_slots : MachinesMatchShapes r.system olds → IgnoreSlots r
  ignore_slots theirs i m at_m =
      let all = tell.count in
      let told = len_olds r.system olds news log histories are in
      let within = slice_get_within r.machines i m at_m in
      let inside : i < length r.system.components = omega (arith, all, told, within) in
      let c = got r.system.components i inside in
      let found = history_at r.system olds news log histories are i inside in
      (theirs i c.0 found.0.old m c.1 found.3 (tell.each i found.0.old m found.3 at_m).0).2

  -- the replies of each are its own
  pub log_replies : AreReplies r (first_states r) log
  log_replies i c m s fmu =
      let found = history_at r.system olds news log histories are i (slice_get_within r.system.components i c fmu.component) in
      let told = tell.each i found.0.old m found.3 fmu.machine in
      let first : m.first ≡ s = same_Some m.first s (sym (slice_get-map (λ (n : Machine). n.first) r.machines i ∙ ap (option_map (λ (n : Machine). n.first)) fmu.machine) ∙ fmu.state) in
      subst (RepliesBy m s) (are.runs_are i found.0 found.1)
      (replies_prefix m s found.0.run found.0.closing (found.2.replies m s told.0 (told.1 ∙ ap Some first)))

-- ---- the laws, from those of a log

module _ (a : Account) (r : Run) (sound : IsSound a.system) (plan : IsPlan a.plan) (run : IsRunOf a.system a.bound a.olds r) (plan_is : r.plan ≡ a.plan) (session : Session a) where
  own_histories : ArePeerHistories r.system a.olds a.news (session.made ++ session.log) session.histories
  own_histories = subst (λ (s : System). ArePeerHistories s a.olds a.news (session.made ++ session.log) session.histories) (sym run.system_is) session.are

  own_run : Machines.IsRunOf r session.made session.log session.is a.end (output_of a)
  own_run = record {
    sound = subst IsSound (sym run.system_is) sound;
    plan = subst IsPlan (sym plan_is) plan;
    machines = are_machines r a.olds a.news (session.made ++ session.log) session.histories own_histories run.tell (subst (λ (s : System). MachinesMatchShapes s a.olds) (sym run.system_is) session.machines);
    ignore = ignore_slots r a.olds a.news (session.made ++ session.log) session.histories own_histories run.tell (subst (λ (s : System). MachinesMatchShapes s a.olds) (sym run.system_is) session.machines);
    making = subst (λ (s : System). IsAnswered (shapes_of s) (making r.plan.link s) session.made) (sym run.system_is)
        (subst (λ (p : Plan). IsAnswered (shapes_of a.system) (making p.link a.system) session.made) (sym plan_is) session.making);
    replies = log_replies r a.olds a.news (session.made ++ session.log) session.histories own_histories run.tell;
    ends = subst (λ (s : System). EndsBy s r.bound r.plan session.log session.is a.end a.before a.after) (sym run.system_is)
        (subst (λ (b : Bound). EndsBy a.system b r.plan session.log session.is a.end a.before a.after) (sym run.bound_is)
        (subst (λ (p : Plan). EndsBy a.system a.bound p session.log session.is a.end a.before a.after) (sym plan_is) session.text));
    counted = session.counted;
  }

  -- a call of the run that got no reply
  lost_after : (why : Why) → IsLost (length r.system.components) session.log why → IsLost (length r.system.components) (session.made ++ session.log) why
  lost_after why lost = record {
    link = lost.link;
    prefix = session.made ++ lost.prefix;
    last = lost.last;
    back = lost.back;
    is = ap (λ (l : List Sent). session.made ++ l) lost.is ∙ sym (append_assoc session.made lost.prefix (lost.last ∷ lost.back));
    within = lost.within;
    unanswered = lost.unanswered;
  }

  rose : (why : Why) → IsLost (length r.system.components) session.log why → SomeFaultCounted a.olds a.news
  rose why lost = rose_of r.system a.olds a.news (session.made ++ session.log) session.histories own_histories why (lost_after why lost)

  traces : (end : RunEnd) → Outcomes.TracesWell r session.log (output_of a) end → TracesWell a r end
  traces (E.Bad bad) lost = (lost.link, rose bad.why lost)
  traces E.WriteFault (inl (why, lost)) = inl (rose why lost)
  traces E.WriteFault (inr cuts) = inr cuts
  traces end h = h

pub told_run : RunByLog → ToldRun
told_run law a r sound plan run plan_is session = law r session.made session.log session.is a.end (output_of a) (own_run a r sound plan run plan_is session)

pub told_trace : TraceByLog → ToldTrace
told_trace law a r sound binds plan run plan_is well session =
    traces a r sound plan run plan_is session a.end
    (law r session.made session.log session.is a.end (output_of a)
    (subst (λ (s : System). BindsParameters s r.bound) (sym run.system_is) (subst (BindsParameters a.system) (sym run.bound_is) binds))
    well (own_run a r sound plan run plan_is session))

pub told_failed_start : UnmadeByLog → ToldFailedStart
told_failed_start law system bound olds news bad r sound run well u = by (subst (λ (s : System). FailedStart s r.plan.link olds bad news) (sym run.system_is) u) where
  by : FailedStart r.system r.plan.link olds bad news → IsLink bad.why × SomeFaultCounted olds news
  by u =
      let lost = law r bad u.log (run.tell.count ∙ len_olds r.system olds news u.log u.histories u.are) well (log_replies r olds news u.log u.histories u.are run.tell) u.stops in
      (lost.link, rose_of r.system olds news u.log u.histories u.are bad.why lost)
