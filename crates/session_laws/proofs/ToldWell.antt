-- Of machines that behave well nothing but a call that failed breaks off a run that is held, or one that is resumed, or a put.
use Rattle.std.proofs.Common.{◌≡◌, ℕ, ◌<◌, ◌≤◌, true, inl, inr, List, [], ◌++◌, Option, Some, Ok, refl, sym, ap, ◌∙◌, subst, arith, length, get_or, map}
use Rattle.std.specs.Prelude.{All}
use Rattle.std.specs.List.{slice_get}
use Rattle.std.specs.Option.{option_map}
use Rattle.std.proofs.lemmas.Option.{get_or_from_slice_get, same_Some, slice_get-map}
use Rattle.sim_base.specs.Causes.{Rose}
use Rattle.value_types.specs.declared.shape.Shape.{Shape}
use Rattle.fmi_calls.specs.declared.call.Call.{Call}
use Rattle.fmi_calls.specs.declared.call.Call.TheVariants as C
use Rattle.fmi_calls.specs.declared.call.Grade.TheVariants as G
use Rattle.fmi_calls.specs.declared.call.Reply.{Reply}
use Rattle.fmi_calls.specs.Worth.{grade_of}
use Rattle.fmu_peer.specs.declared.ended.Why.{Why}
use Rattle.fmu_peer.specs.declared.ended.Why.TheVariants.{Refused, Misreply, Link}
use Rattle.fmu_peer.specs.Answer.{AnsweredWith, Fails, FailsWith, IsLink}
use Rattle.fmu_peer.specs.CloseAll.{Instance}
use Rattle.fmu_peer.specs.Machine.{Machine, MachineState, SavedMachine, after, kept, taken_in}
use Rattle.fmu_peer.specs.View.{AnswersAs, Asked, AskedWith, Fixed, TakesIn, View, without_machine}
use Rattle.system_model.specs.declared.plan.Plan.{Plan}
use Rattle.system_model.specs.declared.plan.EndKind.TheVariants as K
use Rattle.system_model.specs.declared.system.Component.{Component}
use Rattle.system_model.specs.declared.system.System.{System}
use Rattle.system_model.specs.Bounds.{BindsParameters}
use Rattle.system_model.specs.Plans.{IsPlan}
use Rattle.system_model.specs.Sound.{IsSound}
use Rattle.system_model.proofs.CallerLemmas.{all_at}
use Rattle.system_model.specs.Text.{Instant, end_text}
use Rattle.run_model.specs.Behaved.{Departed, IsAnsweredWell, WellBehaved}
use Rattle.run_model.specs.Initial as I
use Rattle.run_model.specs.Run.{IsFmu, Run, Situation}
use Rattle.run_model.proofs.CallerLemmas.{fmu_before}
use Rattle.run_rest.specs.Held.{Held}
use Rattle.run_rest.specs.Packing.{ReadsBack}
use Rattle.run_rest.specs.Parted.{entering_step}
use Rattle.run_rest.proofs.CallerLemmas.{held_departed}
use Rattle.system_checkpoint.specs.declared.snapshot.Snapshot.{Snapshot}
use Rattle.slot_calls.specs.declared.bad_answer.BadAnswer.{BadAnswer}
use Rattle.slot_calls.specs.Keeping.{AreRestoredUntil, Unfreed, Unrestored, Untaken, WasNotRestored}
use Rattle.slot_calls.specs.Log.{Sent, Told}
use Rattle.slot_calls.specs.Stage.{IsAnswered, StopsAt, shapes_of}
use Rattle.slot_calls.proofs.CallerLemmas.{shapes_same}
use Rattle.event_iteration.proofs.ByLog.{fmu_of, made_all}
use Rattle.calling_sequence.specs.declared.experiment.Experiment.{Experiment}
use Rattle.calling_sequence.specs.declared.run_end.RunEnd.{RunEnd}
use Rattle.calling_sequence.specs.declared.run_end.RunEnd.TheVariants as E
use Rattle.calling_sequence.specs.Calls.{making, restoring}
use Rattle.calling_sequence.specs.Course.{Spot}
use Rattle.calling_sequence.specs.Holding.{Back, NotBack, PutsPiece, ResumesSlots, spot_in}
use Rattle.calling_sequence.specs.Ready.{CanKeep}
use Rattle.machine_courses.specs.Held as M
use Rattle.machine_courses.specs.Held.{GoesAs, checkpoint_of, packings_of}
use Rattle.machine_courses.specs.Kept.{TakesIn as TakesInWell, TakesState, taking_in}
use Rattle.machine_courses.specs.Laws.{HeldWellByLog, RestWellByLog, SnapshotsStand}
use Rattle.machine_courses.specs.Outcomes.{IsLost, rest_after}
use Rattle.machine_courses.specs.Outcomes as O
use Rattle.machine_courses.proofs.KeptCalls.{enter, keeps_well}
use Rattle.machine_courses.proofs.Lost.{link_lost, lost_after}
use Rattle.machine_courses.proofs.RestLaw.{entering_all_held}
use Rattle.step_master.specs.Sessions.{Account, experiment_in, resumed_log}
use Rattle.step_master.specs.Histories.{ArePeerHistories, PeerHistory}
use Rattle.step_master.specs.FreshInstances.{fresh_instances}
use Rattle.step_master.specs.System.{ArePeersOf, MachinesMatchShapes}
use Rattle.session_laws.specs.Traced.{AreMachinesOf, HoldsWell, SomeFaultCounted, ToldHeldWell, ToldRestWell, TracesWellIn, output_of}
use Rattle.step_master.proofs.CallerLemmas.{can_keep, fresh_shapes, got, length_fresh, unmapped}
use Rattle.session_laws.proofs.Told.{rose_of}
use Rattle.session_laws.proofs.ToldRests.{is_plan_of, is_rest, machines_of, own_held, packed_at, plan_back, starts_at}
use Rattle.session_laws.proofs.ToldStates.{Tells, told_after}

-- ---- a run that is held

held_so : (a : Account) (r : Run) (at : ℕ) (log : List Sent) → ((why : Why) → IsLost (length r.system.components) log why → SomeFaultCounted a.olds a.news) → (end : RunEnd) (piece : List ℕ) → M.HoldsWell r at log end piece → HoldsWell a r at end piece
held_so a r at log rose (E.Bad bad) piece lost = (lost.link, rose bad.why lost)
held_so a r at log rose end piece holds = holds

pub told_held_well : HeldWellByLog → ToldHeldWell
told_held_well law a at r sound binds plan can run plan_is well puts h =
    let system = sym run.system_is in
    let own = own_held a at r sound plan run plan_is h in
    let histories : ArePeerHistories r.system a.olds a.news (h.made ++ h.log) h.histories = subst (λ (s : System). ArePeerHistories s a.olds a.news (h.made ++ h.log) h.histories) system h.are in
    let keep : CanKeep r.system r.plan = subst (λ (s : System). CanKeep s r.plan) system (subst (CanKeep a.system) (sym plan_is) (can_keep a.system a.plan sound can)) in
    held_so a r at h.log (λ why lost. rose_of r.system a.olds a.news (h.made ++ h.log) h.histories histories why (lost_after (length r.system.components) h.made h.log why lost)) h.outcome h.piece
    (law r at h.made h.log h.outcome h.piece (subst (λ (s : System). BindsParameters s r.bound) system (subst (BindsParameters a.system) (sym run.bound_is) binds)) well keep puts own)

-- ---- an answer that a machine gives well isn't bad

module _ (m : Machine) where
  link_by : (v w : View) (call : Call) (why : Why) (s : MachineState) → Tells m v s → grade_of v.fixed.shape call (m.look s call) ≡ G.Good → Fails v call why w → IsLink why
  link_by v w call why s t good fails = by why fails where
    looked : (reply : Reply) → Asked v call (Ok reply) w → grade_of v.fixed.shape call reply ≡ G.Good
    looked reply asked =
        let here : AnswersAs (Some m) (Some s) call (Ok reply) w.state =
        subst (λ (o : Option MachineState). AnswersAs (Some m) o call (Ok reply) w.state) t.state (subst (λ (o : Option Machine). AnswersAs o v.state call (Ok reply) w.state) t.machine asked.state) in
        ap (grade_of v.fixed.shape call) here.0 ∙ good

    by : (x : Why) → Fails v call x w → IsLink x
    by (Refused c status) (reply, of, status_is, grade, asked) = absurd (let wrong = sym grade ∙ looked reply asked in cc)
    by (Misreply c reply) (of, grade, asked) = absurd (let wrong = sym grade ∙ looked reply asked in cc)
    by (Link c fault) f = tt

  link_with : (v w : View) (call : Call) (bytes : List ℕ) (why : Why) (s : MachineState) → Tells m v s → grade_of v.fixed.shape call (m.look_at s call bytes) ≡ G.Good → FailsWith v call bytes why w → IsLink why
  link_with v w call bytes why s t good fails = by why fails where
    looked : (reply : Reply) → AskedWith v call bytes (Ok reply) w → grade_of v.fixed.shape call reply ≡ G.Good
    looked reply asked =
        let here : TakesIn (Some m) (Some s) call bytes (Ok reply) w.state =
        subst (λ (o : Option MachineState). TakesIn (Some m) o call bytes (Ok reply) w.state) t.state (subst (λ (o : Option Machine). TakesIn o v.state call bytes (Ok reply) w.state) t.machine asked.state) in
        ap (grade_of v.fixed.shape call) here.0 ∙ good

    by : (x : Why) → FailsWith v call bytes x w → IsLink x
    by (Refused c status) (reply, of, status_is, grade, asked) = absurd (let wrong = sym grade ∙ looked reply asked in cc)
    by (Misreply c reply) (of, grade, asked) = absurd (let wrong = sym grade ∙ looked reply asked in cc)
    by (Link c fault) f = tt

  -- bytes that were taken in
  tells_taken : (v w : View) (call : Call) (bytes : List ℕ) (reply : Reply) (s : MachineState) → AnsweredWith v call bytes reply w → Tells m v s → Tells m w (taken_in m s bytes)
  tells_taken v w call bytes reply s answered t =
      let here : TakesIn (Some m) (Some s) call bytes (Ok reply) w.state =
      subst (λ (o : Option MachineState). TakesIn (Some m) o call bytes (Ok reply) w.state) t.state (subst (λ (o : Option Machine). TakesIn o v.state call bytes (Ok reply) w.state) t.machine answered.asked.state) in
      record { machine = ap (λ (f : Fixed). f.machine) answered.asked.fixed ∙ t.machine; state = here.1 }

  -- a machine that takes bytes in well, goes back and frees well, does so, or a call failed
  module _ (shape : Shape) (point stop : ℕ) (bytes : List ℕ) (s u : MachineState) (takes : TakesInWell shape m s bytes point stop) (read : m.packing.unpack bytes ≡ Some (kept u))
      (frees : (v : MachineState) → v.numbers ≡ u.numbers → length v.values ≡ length u.values → IsAnsweredWell shape m v C.Free) where
    link_back : (why : Why) (v w : View) → v.fixed.shape ≡ shape → Tells m v s → WasNotRestored point stop bytes why v w → IsLink why
    link_back why v w is t (Untaken failed) =
        link_with v w (taking_in bytes point stop) bytes why s t (ap (λ (d : Shape). grade_of d (taking_in bytes point stop) (m.look_at s (taking_in bytes point stop) bytes)) is ∙ takes.takes) failed.fails
    link_back why v w is t (Unrestored taken in_reply answered failed) =
        let same : taken.fixed.shape ≡ shape = ap (λ (f : Fixed). f.shape) answered.asked.fixed ∙ is in
        link_by taken w C.Restore why (taken_in m s bytes) (tells_taken v taken (taking_in bytes point stop) bytes in_reply s answered t)
        (ap (λ (d : Shape). grade_of d C.Restore (m.look (taken_in m s bytes) C.Restore)) same ∙ takes.goes_back) failed.fails
    link_back why v w is t (Unfreed taken back in_reply back_reply answered restored failed) =
        let same : taken.fixed.shape ≡ shape = ap (λ (f : Fixed). f.shape) answered.asked.fixed ∙ is in
        let same_back : back.fixed.shape ≡ shape = ap (λ (f : Fixed). f.shape) restored.asked.fixed ∙ same in
        let there : MachineState = after m (taken_in m s bytes) C.Restore in
        let is_there : there ≡ record u { slot = Some (kept u) } = ap (λ (o : Option SavedMachine). after m (record s { slot = o }) C.Restore) read in
        link_by back w C.Free why there (told_after m taken back C.Restore back_reply (taken_in m s bytes) restored.asked (tells_taken v taken (taking_in bytes point stop) bytes in_reply s answered t))
        (ap (λ (d : Shape). grade_of d C.Free (m.look there C.Free)) same_back ∙ frees there (ap (λ (x : MachineState). x.numbers) is_there) (ap (λ (x : MachineState). length x.values) is_there)) failed.fails

-- ---- a run that is resumed

-- a count rises whether or not the machine is told
rose_bare : (olds news : List View) → SomeFaultCounted (map without_machine olds) (map without_machine news) → SomeFaultCounted olds news
rose_bare olds news x =
    let old = unmapped without_machine olds x.place x.old x.before in
    let new = unmapped without_machine news x.place x.new x.after in
    record {
      place = x.place;
      old = old.0;
      new = new.0;
      before = old.1;
      after = new.1;
      rose = subst (λ (n : ℕ). Rose n new.0.faults) (ap (λ (v : View). v.faults) old.2) (subst (Rose x.old.faults) (ap (λ (v : View). v.faults) new.2) x.rose);
    }

rest_so : (a : Account) (r : Run) (prefix : List Instant) (log : List Sent) → ((why : Why) → IsLost (length r.system.components) log why → SomeFaultCounted a.olds a.news) → (end : RunEnd) → O.TracesWellIn r (rest_after prefix) log (output_of a) end → TracesWellIn a r (rest_after prefix) end
rest_so a r prefix log rose (E.Bad bad) lost = (lost.link, rose bad.why lost)
rest_so a r prefix log rose E.WriteFault (inl (why, lost)) = inl (rose why lost)
rest_so a r prefix log rose E.WriteFault (inr cuts) = inr cuts
rest_so a r prefix log rose end puts = puts

module _ (stand : SnapshotsStand) (r : Run) (a : Account) (prefix : List Instant) (z : Situation) (sound : IsSound r.system) (plan : IsPlan r.plan) (same : GoesAs a.plan r.plan) (tell : AreMachinesOf a.olds r.machines) (packings : ReadsBack r (packings_of r))
    (held : Held r prefix z) (begun : r.plan.start ≤ z.t) (peers : ArePeersOf r.system a.olds) (theirs : MachinesMatchShapes r.system a.olds) (made : List Sent) (starts lasts : List Instance) (told : Told made (fresh_instances r.system.components a.olds) starts)
    (making_is : IsAnswered (shapes_of r.system) (making a.plan.link r.system) made) (well : WellBehaved r) (saves : All (λ (c : Component). c.shape.can_save_state ≡ true) r.system.components) (takes : (i : ℕ) → TakesState r a.plan i) where
  abbrev h : Snapshot
  h = checkpoint_of r z

  abbrev s : Spot
  s = spot_in r.system h

  abbrev ours : Run
  ours = record r { plan = a.plan }

  abbrev count : ℕ
  count = length r.system.components

  abbrev there : List MachineState
  there = entering_step r z

  departed : Departed r z
  departed = held_departed held

  -- an answer on the way back that isn't good is that of a call that failed
  not_back : (stop : ℕ) → stop ≡ a.plan.stop → (bad : BadAnswer) → AreRestoredUntil s.t stop h.states bad starts lasts → IsLink bad.why
  not_back stop stop_is bad until =
      let k = bad.component.0 in
      let within : k < count = (let w = until.within in let e = told.len in let f = length_fresh r.system.components a.olds (sym peers.len) in let g = peers.len in omega (arith, w, e, f, g)) in
      let c = got r.system.components k within in
      let start = fmu_of ours (I.instantiated ours) (made_all ours (machines_of ours a.olds peers tell theirs)) k c.0 c.1 in
      let m = start.0 in
      let state = start.1 in
      let at = starts_at ours a.olds peers tell made starts told making_is k c.0 m state start.2 in
      let x = at.0 in
      let mine = fmu_of r there (entering_all_held r sound plan (machines_of r a.olds peers tell theirs) prefix z held) k c.0 c.1 in
      let same_m : mine.0 ≡ m = same_Some mine.0 m (sym mine.2.machine ∙ start.2.machine) in
      let u = mine.1 in
      let fmu : IsFmu r there k c.0 m u = record { component = c.1; machine = start.2.machine; state = mine.2.state } in
      let first : IsFmu r (I.instantiated ours) k c.0 m state = record { component = c.1; machine = start.2.machine; state = start.2.state } in
      let bytes = m.packing.pack (kept u) in
      let at_packing : slice_get (packings_of r) k ≡ Some m.packing = slice_get-map (λ (n : Machine). n.packing) r.machines k ∙ ap (option_map (λ (n : Machine). n.packing)) fmu.machine in
      let packed_is : get_or h.states k [] ≡ bytes =
      get_or_from_slice_get h.states k bytes [] (packed_at (packings_of r) (map kept there) k m.packing (kept u) at_packing (slice_get-map kept there k ∙ ap (option_map kept) fmu.state)) in
      let not : WasNotRestored s.t stop bytes bad.why x.view (get_or lasts k x).view =
      subst (λ (b : List ℕ). WasNotRestored s.t stop b bad.why x.view (get_or lasts k x).view) packed_is
      (subst (λ (d : Instance). WasNotRestored s.t stop (get_or h.states k []) bad.why d.view (get_or lasts k x).view) (get_or_from_slice_get starts k x x at.1) (until.there x)) in
      let read : m.packing.unpack bytes ≡ Some (kept u) = packings.each k m.packing at_packing z u departed fmu.state in
      let shape_is : x.view.fixed.shape ≡ c.0.shape =
      same_Some x.view.fixed.shape c.0.shape
      (sym (slice_get-map (λ (i : Instance). i.view.fixed.shape) starts k ∙ ap (option_map (λ (i : Instance). i.view.fixed.shape)) at.1)
      ∙ ap (λ (l : List Shape). slice_get l k) (shapes_same made (fresh_instances r.system.components a.olds) starts told ∙ fresh_shapes r.system a.olds peers)
      ∙ slice_get-map (λ (d : Component). d.shape) r.system.components k ∙ ap (option_map (λ (d : Component). d.shape)) c.1) in
      let before = fmu_before r z.states enter k c.0 m u fmu in
      link_back m c.0.shape s.t stop bytes state u
      (subst (λ (n : ℕ). TakesInWell c.0.shape m state bytes z.t n) (sym stop_is) (takes k z c.0 m state u departed first fmu)) read
      (λ v numbers values. keeps_well r well z departed saves k c.0 m before.before before.fmu C.Free v (numbers ∙ ap (λ (y : MachineState). y.numbers) before.is) (values ∙ ap (λ (y : MachineState). length y.values) before.is)
      (can k c.0 c.1))
      bad.why x.view (get_or lasts k x).view shape_is (record { machine = at.2; state = at.3 }) not
    where
      can : (k : ℕ) (c : Component) → slice_get r.system.components k ≡ Some c → c.shape.can_save_state ≡ true
      can k c at = all_at (λ (d : Component). d.shape.can_save_state ≡ true) r.system.components k c saves at

  lost_back : (e : Experiment) → e.system ≡ r.system → e.plan ≡ a.plan → (bad : BadAnswer) (log : List Sent) → StopsAt (shapes_of e.system) (restoring s.t e.plan.stop (map length h.states)) bad log → AreRestoredUntil s.t e.plan.stop h.states bad starts lasts →
      IsLost count log bad.why
  lost_back e system_is plan_is bad log stops until =
      let link = not_back e.plan.stop (ap (λ (p : Plan). p.stop) plan_is) bad until in
      let k = bad.component.0 in
      let within : k < count = (let w = until.within in let l = told.len in let f = length_fresh r.system.components a.olds (sym peers.len) in let g = peers.len in omega (arith, w, l, f, g)) in
      let c = got r.system.components k within in
      record {
        link = link;
        prefix = stops.prefix;
        last = stops.last;
        back = [];
        is = stops.log_is;
        within = subst (λ (n : ℕ). n < count) (sym stops.first.component) within;
        unanswered = link_lost (get_or (shapes_of e.system) stops.last.component c.0.shape) bad.why stops.last.exchange link (stops.first.why c.0.shape);
      }

  module _ (rest_well : RestWellByLog) (binds : BindsParameters r.system r.bound) (log : List Sent) (histories : List PeerHistory) (are : ArePeerHistories r.system (map without_machine a.olds) (map without_machine a.news) (made ++ log) histories) where
    -- a call of the run that got no reply raised its peer's count
    rose : (why : Why) → IsLost count log why → SomeFaultCounted a.olds a.news
    rose why lost = rose_bare a.olds a.news (rose_of r.system (map without_machine a.olds) (map without_machine a.news) (made ++ log) histories are why (lost_after count made log why lost))

    well_of : (e : Experiment) → e.system ≡ r.system → e.plan ≡ a.plan → (resumes : ResumesSlots e s h.states starts lasts a.before a.after a.instants a.end) → log ≡ resumed_log resumes → TracesWellIn a r (rest_after prefix) a.end
    well_of e system_is plan_is (Back mids back told_back answered restored runs) log_is =
        rest_so a r prefix runs.log (λ why lost. rose why (subst (λ (l : List Sent). IsLost count l why) (sym log_is) (lost_after count back runs.log why lost))) a.end
        (rest_well r prefix z s e.bound a.plan runs.log runs.is a.end (output_of a) binds well
        (is_rest stand r a prefix z sound plan same tell packings held begun peers theirs made starts lasts told making_is e system_is plan_is mids restored runs))
    well_of e system_is plan_is (NotBack bad back told_back stops until none puts) log_is = unput a.end puts where
      lost : IsLost count log bad.why
      lost = subst (λ (l : List Sent). IsLost count l bad.why) (sym log_is) (lost_back e system_is plan_is bad back stops until)

      unput : (end : RunEnd) → PutsPiece (E.Bad bad) (end_text K.Fault s.t) a.before a.after end → TracesWellIn a r (rest_after prefix) end
      unput end (inl (is, put)) = subst (TracesWellIn a r (rest_after prefix)) (sym is) (lost.link, rose bad.why lost)
      unput end (inr (is, cut)) = subst (TracesWellIn a r (rest_after prefix)) (sym is) (inl (rose bad.why lost))

-- the run goes on from what was held, as its account has it
record GoesOn (a : Account) (system : System) (held : Snapshot) (made log : List Sent) (starts lasts : List Instance) : Type 0 where
  resumes : ResumesSlots (experiment_in a) (spot_in system held) held.states starts lasts a.before a.after a.instants a.end
  log_is : log ≡ resumed_log resumes

pub told_rest_well : RestWellByLog → SnapshotsStand → ToldRestWell
told_rest_well rest_well stand a r prefix z held sound binds plan can system_is plan_of tell well packings takes at begun held_is l =
    let system = sym system_is in
    let same = plan_back r a.plan z held held_is plan_of in
    let there : GoesOn a r.system (checkpoint_of r z) l.made l.log l.starts l.lasts =
    subst (λ (c : Snapshot). GoesOn a r.system c l.made l.log l.starts l.lasts) held_is
    (subst (λ (s : System). GoesOn a s held l.made l.log l.starts l.lasts) system (record { resumes = l.resumes; log_is = l.log_is })) in
    well_of stand r a prefix z (subst IsSound system sound) (is_plan_of a.plan r.plan same plan) same tell packings at begun
    (subst (λ (s : System). ArePeersOf s a.olds) system l.peers) (subst (λ (s : System). MachinesMatchShapes s a.olds) system l.machines) l.made l.starts l.lasts
    (subst (λ (s : System). Told l.made (fresh_instances s.components a.olds) l.starts) system l.told)
    (subst (λ (s : System). IsAnswered (shapes_of s) (making a.plan.link s) l.made) system l.making) well
    (subst (λ (s : System). All (λ (c : Component). c.shape.can_save_state ≡ true) s.components) system (can_keep a.system a.plan sound can).saves) takes
    rest_well (subst (λ (s : System). BindsParameters s r.bound) system binds) l.log l.histories
    (subst (λ (s : System). ArePeerHistories s (map without_machine a.olds) (map without_machine a.news) (l.made ++ l.log) l.histories) system l.are)
    (experiment_in a) system refl there.resumes there.log_is
