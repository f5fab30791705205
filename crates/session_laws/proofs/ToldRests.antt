-- What the histories of told machines say of their run that was held, and of one that was resumed.
use Rattle.std.proofs.Common.{◌≡◌, ℕ, zero, suc, ◌<◌, ◌≤◌, false, inl, inr, List, [], ◌∷◌, ◌++◌, Option, Some, None, refl, sym, ap, ap₂, ◌∙◌, subst, append-nil, arith, length, get_or, map}
use Rattle.std.specs.Prelude.{All}
use Rattle.std.specs.List.{slice_get}
use Rattle.std.specs.Option.{option_map}
use Rattle.std.proofs.lemmas.List.{length-map}
use Rattle.std.proofs.lemmas.List.Elements.{All-append}
use Rattle.std.proofs.lemmas.Option.{get_or_from_slice_get, same_Some, slice_get-map, slice_get_within}
use Rattle.fmu_peer.specs.CloseAll.{Instance}
use Rattle.fmu_peer.specs.Machine.{Machine, MachineState, Packing, SavedMachine, kept}
use Rattle.fmu_peer.specs.View.{View}
use Rattle.system_model.specs.declared.bound.Bound.{Bound}
use Rattle.system_model.specs.declared.plan.Plan.{Plan}
use Rattle.system_model.specs.declared.plan.EndKind.TheVariants as K
use Rattle.system_model.specs.declared.system.System.{System}
use Rattle.system_model.specs.Plans.{IsPlan}
use Rattle.system_model.specs.Sound.{IsSound}
use Rattle.system_model.specs.Text.{Instant, end_text}
use Rattle.run_model.specs.Initial as I
use Rattle.run_model.specs.Machines.{AreMachines}
use Rattle.run_model.specs.Run.{Run, Situation}
use Rattle.run_rest.specs.Held.{Held}
use Rattle.run_rest.specs.Packing.{ReadsBack, packed}
use Rattle.run_rest.specs.Parted.{entering_step}
use Rattle.run_rest.proofs.CallerLemmas.{AreEmpty, empty_held, held_departed}
use Rattle.system_checkpoint.specs.declared.snapshot.Snapshot.{Snapshot}
use Rattle.system_checkpoint.specs.Spelling.{CanBeHeld, spelling}
use Rattle.slot_calls.specs.Log.{Sent, Told, part}
use Rattle.slot_calls.specs.Replies.{state_by, states_by}
use Rattle.slot_calls.specs.Keeping.{AreRestored, IsPackedIn, IsPackedOf, WasRestored}
use Rattle.slot_calls.specs.Stage.{IsAnswered, IsGoodOf, everyone, shapes_of}
use Rattle.step_agreement.specs.OverMachines.{IgnoreSlots}
use Rattle.event_iteration.specs.Machines.{AreAt}
use Rattle.event_iteration.proofs.ByLog.{AreAll, all_on, fmu_of, made_all, replies_first, stage_states}
use Rattle.event_iteration.proofs.Fmus.{are_replies, told_at}
use Rattle.run_model.proofs.CallerLemmas.{fmu_before}
use Rattle.fmu_peer.specs.Mode.{instantiate_of}
use Rattle.calling_sequence.specs.declared.experiment.Experiment.{Experiment}
use Rattle.calling_sequence.specs.declared.run_end.RunEnd.{RunEnd}
use Rattle.calling_sequence.specs.declared.run_end.RunEnd.TheVariants as E
use Rattle.calling_sequence.specs.Calls.{making}
use Rattle.calling_sequence.specs.Course.{FromHeld, InstantDone, Spot, UpToHeld}
use Rattle.calling_sequence.specs.Ends.{EndsIn, RunsIn, header_of}
use Rattle.calling_sequence.specs.Holding as Q
use Rattle.calling_sequence.specs.Holding.{ArePacked, ComesToHold, HoldsWith, PutsPiece, ResumesSlots, kept_at, spot_in}
use Rattle.calling_sequence.specs.Ready.{IsPlanOf}
use Rattle.machine_courses.specs.Prefixes.{After, IsPrefix}
use Rattle.machine_courses.proofs.Prefixes.{stands_in}
use Rattle.machine_courses.proofs.RestLaw.{came_of, none_lost_done}
use Rattle.machine_courses.specs.Held as M
use Rattle.machine_courses.specs.Held.{GoesAs, HoldsBy, HoldsRun, IsHeldRunOf, IsRestOf, StandsAs, checkpoint_of, packings_of}
use Rattle.machine_courses.specs.Laws.{EarlyHasNone, HeldByLog, RestByLog, SnapshotsStand}
use Rattle.machine_courses.specs.Outcomes.{PutsRunIn, rest_after}
use Rattle.step_master.specs.Sessions.{Account, HeldSession, experiment_in}
use Rattle.step_master.specs.Histories.{ArePeerHistories}
use Rattle.step_master.specs.FreshInstances.{fresh_instances}
use Rattle.step_master.specs.System.{ArePeersOf, MachinesMatchShapes}
use Rattle.session_laws.specs.Traced.{AreMachinesOf, IsRunOf, ToldHeld, ToldNone, ToldRest, output_of}
use Rattle.step_master.proofs.CallerLemmas.{got, length_fresh, views_fresh}
use Rattle.session_laws.proofs.Told.{log_replies}
use Rattle.session_laws.proofs.ToldStates.{Tells, told_back}

abbrev make_experiment : System → Bound → Plan → Experiment
make_experiment system bound plan = record { system = system; bound = bound; plan = plan }

-- ---- the bytes of states

pub packed_at : (packings : List Packing) (saved : List SavedMachine) (i : ℕ) (packing : Packing) (s : SavedMachine) → slice_get packings i ≡ Some packing → slice_get saved i ≡ Some s → slice_get (packed packings saved) i ≡ Some (packing.pack s)
packed_at [] saved i packing s at is = absurd (cc)
packed_at (p ∷ packings) [] i packing s at is = absurd (cc)
packed_at (p ∷ packings) (x ∷ saved) zero packing s at is = ap₂ (λ (q : Packing) (y : SavedMachine). Some (q.pack y)) (same_Some p packing at) (same_Some x s is)
packed_at (p ∷ packings) (x ∷ saved) (suc i) packing s at is = packed_at packings saved i packing s at is

pub packed_length : (packings : List Packing) (saved : List SavedMachine) → length packings ≡ length saved → length (packed packings saved) ≡ length saved
packed_length [] [] e = refl
packed_length [] (x ∷ saved) e = absurd (omega (arith, e))
packed_length (p ∷ packings) [] e = absurd (omega (arith, e))
packed_length (p ∷ packings) (x ∷ saved) e = ap suc (packed_length packings saved (omega (arith, e)))

pub same_lists : {A : Type 0} (xs ys : List A) → length xs ≡ length ys → ((i : ℕ) (y : A) → slice_get ys i ≡ Some y → slice_get xs i ≡ Some y) → xs ≡ ys
same_lists [] [] len all = refl
same_lists [] (y ∷ ys) len all = absurd (omega (arith, len))
same_lists (x ∷ xs) [] len all = absurd (omega (arith, len))
same_lists {A} (x ∷ xs) (y ∷ ys) len all =
    ap₂ (λ (z : A) (zs : List A). z ∷ zs) (same_Some x y (all 0 y refl)) (same_lists xs ys (omega (arith, len)) (λ i z is. all (suc i) z is))

empty_at : (ss : List MachineState) → AreEmpty ss → (i : ℕ) (s : MachineState) → slice_get ss i ≡ Some s → s.slot ≡ None
empty_at [] empty i s is = absurd (cc)
empty_at (x ∷ ss) empty zero s is = ap (λ (y : MachineState). y.slot) (sym (same_Some x s is)) ∙ empty.0
empty_at (x ∷ ss) empty (suc i) s is = empty_at ss empty.1 i s is

-- ---- where the instances stand

-- after good answers they are in the states after them
at_after : (r : Run) (ss : List MachineState) (olds news : List Instance) → AreAt r ss olds → (log : List Sent) → Told log olds news → All (IsGoodOf (shapes_of r.system)) log → AreAt r (states_by r ss log) news
at_after r ss olds news at log told good i c m z fmu =
    let old = fmu_before r ss (λ j d n s. state_by n s (part j log)) i c m z fmu in
    let b = told_at r ss olds news at log told good i c m old.before old.fmu in
    (b.instance, b.is, b.machine, b.state ∙ ap (λ (s : MachineState). Some s) (sym old.is))

module _ (r : Run) (olds : List View) (peers : ArePeersOf r.system olds) (tell : AreMachinesOf olds r.machines) where
  abbrev fresh_slots : List Instance
  fresh_slots = fresh_instances r.system.components olds

  view_at : (k : ℕ) → k < length r.system.components → (v : View) × (slice_get olds k ≡ Some v)
  view_at k w = got olds k (let e = peers.len in omega (arith, e, w))

  pub machines_of : MachinesMatchShapes r.system olds → AreMachines r
  machines_of theirs = record {
    count = tell.count ∙ peers.len;
    each = λ i c m at_c at_m.
        let v = view_at i (slice_get_within r.system.components i c at_c) in
        let its = theirs i c v.0 m at_c v.1 (tell.each i v.0 m v.1 at_m).0 in
        (its.0, its.1);
  }

  ignores : MachinesMatchShapes r.system olds → IgnoreSlots r
  ignores theirs i m at_m =
      let all = tell.count in
      let told = peers.len in
      let within = slice_get_within r.machines i m at_m in
      let inside : i < length r.system.components = omega (arith, all, told, within) in
      let c = got r.system.components i inside in
      let v = view_at i inside in
      (theirs i c.0 v.0 m c.1 v.1 (tell.each i v.0 m v.1 at_m).0).2

  fresh_at : AreAt r (I.first_states r) fresh_slots
  fresh_at i c m s fmu =
      let inside = slice_get_within r.system.components i c fmu.component in
      let v = view_at i inside in
      let x = got fresh_slots i (let e = length_fresh r.system.components olds (sym peers.len) in let f = peers.len in omega (arith, e, f, inside)) in
      let same : x.0.view ≡ v.0 = same_Some x.0.view v.0
      (sym (slice_get-map (λ (y : Instance). y.view) fresh_slots i ∙ ap (option_map (λ (y : Instance). y.view)) x.1) ∙ ap (λ (vs : List View). slice_get vs i) (views_fresh r.system.components olds peers.len) ∙ v.1) in
      let first : m.first ≡ s = same_Some m.first s (sym (slice_get-map (λ (n : Machine). n.first) r.machines i ∙ ap (option_map (λ (n : Machine). n.first)) fmu.machine) ∙ fmu.state) in
      let told = tell.each i v.0 m v.1 fmu.machine in
      (x.0, x.1, ap (λ (w : View). w.fixed.machine) same ∙ told.0, ap (λ (w : View). w.state) same ∙ told.1 ∙ ap (λ (y : MachineState). Some y) first)

  module _ (made : List Sent) (starts : List Instance) (told : Told made fresh_slots starts) (making_is : IsAnswered (shapes_of r.system) (making r.plan.link r.system) made) where
    pub starts_at : AreAt r (I.instantiated r) starts
    starts_at = subst (λ (ss : List MachineState). AreAt r ss starts) (stage_states r (I.first_states r) everyone (instantiate_of r.plan.link) made making_is)
        (at_after r (I.first_states r) fresh_slots starts fresh_at made told making_is.good)

    -- ---- a run that was held

    module _ (theirs : MachinesMatchShapes r.system olds) (log : List Sent) (mids : List Instance) (told_mids : Told log starts mids) (good : All (IsGoodOf (shapes_of r.system)) log) (states : List (List ℕ)) (packs : ArePacked mids states) where
      abbrev ss : List MachineState
      ss = states_by r (I.instantiated r) log

      all_there : AreAll r ss
      all_there = all_on r (I.instantiated r) (made_all r (machines_of theirs)) (λ i c m s. state_by m s (part i log))

      len_packed : length (packed (packings_of r) (map kept ss)) ≡ length r.system.components
      len_packed =
          packed_length (packings_of r) (map kept ss) (length-map r.machines (λ (m : Machine). m.packing) ∙ all_there.machines ∙ sym (length-map ss kept ∙ all_there.states))
          ∙ length-map ss kept ∙ all_there.states

      len_mids : length mids ≡ length r.system.components
      len_mids = told_mids.len ∙ told.len ∙ length_fresh r.system.components olds (sym peers.len) ∙ peers.len

      pub packed_states : states ≡ packed (packings_of r) (map kept ss)
      packed_states = same_lists states (packed (packings_of r) (map kept ss)) (packs.len ∙ len_mids ∙ sym len_packed) (λ i bytes is.
          let inside : i < length r.system.components = (let w = slice_get_within (packed (packings_of r) (map kept ss)) i bytes is in let e = len_packed in omega (arith, w, e)) in
          let c = got r.system.components i inside in
          let fmu = fmu_of r ss all_there i c.0 c.1 in
          let m = fmu.0 in
          let s = fmu.1 in
          let here = at_after r (I.instantiated r) starts mids starts_at log told_mids good i c.0 m s fmu.2 in
          let mine : bytes ≡ m.packing.pack (kept s) = same_Some bytes (m.packing.pack (kept s))
          (sym is ∙ packed_at (packings_of r) (map kept ss) i m.packing (kept s)
          (slice_get-map (λ (n : Machine). n.packing) r.machines i ∙ ap (option_map (λ (n : Machine). n.packing)) fmu.2.machine) (slice_get-map kept ss i ∙ ap (option_map kept) fmu.2.state)) in
          let own = got states i (let e = packs.len in let f = len_mids in omega (arith, e, f, inside)) in
          let told_bytes : own.0 ≡ m.packing.pack (kept s) =
          subst (λ (b : List ℕ). b ≡ m.packing.pack (kept s)) (get_or_from_slice_get states i own.0 [] own.1)
          (subst (λ (o : Option MachineState). IsPackedIn (Some m) o (get_or states i [])) here.3
          (subst (λ (o : Option Machine). IsPackedIn o here.0.view.state (get_or states i [])) here.2
          (subst (λ (y : Instance). IsPackedOf y.view (get_or states i [])) (get_or_from_slice_get mids i here.0 here.0 here.1) (packs.each i here.0 (let f = len_mids in omega (arith, f, inside)))))) in
          own.1 ∙ ap (λ (b : List ℕ). Some b) (told_bytes ∙ sym mine))

    -- by the log that was told
    module _ (sound : IsSound r.system) (plan : IsPlan r.plan) (theirs : MachinesMatchShapes r.system olds) where
      course_good : (at : ℕ) (s : Spot) (prefix entered : List Sent) (is : List Instant) (mids : List Instance) → ComesToHold (M.experiment_of r) at s prefix is → Told (prefix ++ entered) starts mids → All (IsGoodOf (shapes_of r.system)) prefix
      course_good at s prefix entered is mids comes told_mids =
          let base = I.instantiated r in
          (stands_in r sound plan (machines_of theirs) (ignores theirs) (UpToHeld at) [] base (made_all r (machines_of theirs)) (refl, refl) (InstantDone s false false) prefix is comes.course
          (replies_first r base prefix entered (are_replies r base starts mids starts_at (prefix ++ entered) told_mids))).good

      pub holds_by : (at : ℕ) (end : RunEnd) (log : List Sent) (piece : List ℕ) → HoldsWith (M.experiment_of r) at starts end log piece → HoldsBy r at end log piece
      holds_by at _ _ _ (Q.Early end point log is f) = M.Early end point log is f
      holds_by at _ _ _ (Q.BadlyHeld s bad prefix more is comes stops) = M.BadlyHeld s bad prefix more is comes stops
      holds_by at _ _ _ (Q.WellHeld s prefix entered keeping is mids states comes into told_mids packs keeps can) =
          let good = All-append (IsGoodOf (shapes_of r.system)) prefix entered (course_good at s prefix entered is mids comes told_mids) into.good in
          let same = packed_states theirs (prefix ++ entered) mids told_mids good states packs in
          subst (λ (bytes : List (List ℕ)). HoldsBy r at (E.Held s.t) ((prefix ++ entered) ++ keeping) (spelling (header_of r.system r.plan) (kept_at (M.experiment_of r) s bytes)))
          (sym same) (M.WellHeld s prefix entered keeping is comes into keeps (subst (λ (bytes : List (List ℕ)). CanBeHeld r.system (kept_at (M.experiment_of r) s bytes)) same can))

-- ---- a run that is resumed, whatever its workers and its link

module _ (r : Run) (own : Plan) (olds : List View) (peers : ArePeersOf r.system olds) (tell : AreMachinesOf olds r.machines) (made : List Sent) (starts : List Instance) (told : Told made (fresh_instances r.system.components olds) starts)
    (making_is : IsAnswered (shapes_of r.system) (making own.link r.system) made) (theirs : MachinesMatchShapes r.system olds) (packings : ReadsBack r (packings_of r)) (prefix : List Instant) (z : Situation) (held : Held r prefix z) (point stop : ℕ)
    (mids : List Instance) (restored : AreRestored point stop (packed (packings_of r) (map kept (entering_step r z))) starts mids) where
  abbrev ours : Run
  ours = record r { plan = own }

  abbrev saved : List (List ℕ)
  saved = packed (packings_of r) (map kept (entering_step r z))

  -- each is where the run was held
  pub back_at : AreAt r (entering_step r z) mids
  back_at i c m u fmu =
      let inside = slice_get_within r.system.components i c fmu.component in
      let start = fmu_of ours (I.instantiated ours) (made_all ours (machines_of ours olds peers tell theirs)) i c fmu.component in
      let same_m : start.0 ≡ m = same_Some start.0 m (sym start.2.machine ∙ fmu.machine) in
      let at = starts_at ours olds peers tell made starts told making_is i c start.0 start.1 start.2 in
      let x = at.0 in
      let wide = slice_get_within starts i x at.1 in
      let y = got mids i (let e = restored.len in omega (arith, e, wide)) in
      let bytes = m.packing.pack (kept u) in
      let packed_is : get_or saved i [] ≡ bytes =
      get_or_from_slice_get saved i bytes []
      (packed_at (packings_of r) (map kept (entering_step r z)) i m.packing (kept u)
      (slice_get-map (λ (n : Machine). n.packing) r.machines i ∙ ap (option_map (λ (n : Machine). n.packing)) fmu.machine) (slice_get-map kept (entering_step r z) i ∙ ap (option_map kept) fmu.state)) in
      let back : WasRestored point stop bytes x.view y.0.view =
      subst (λ (b : List ℕ). WasRestored point stop b x.view y.0.view) packed_is
      (subst (λ (d : Instance). WasRestored point stop (get_or saved i []) d.view y.0.view) (get_or_from_slice_get starts i x x at.1)
      (subst (λ (d : Instance). WasRestored point stop (get_or saved i []) (get_or starts i x).view d.view) (get_or_from_slice_get mids i y.0 x y.1) (restored.each i x wide))) in
      let read : m.packing.unpack bytes ≡ Some (kept u) =
      packings.each i m.packing (slice_get-map (λ (n : Machine). n.packing) r.machines i ∙ ap (option_map (λ (n : Machine). n.packing)) fmu.machine) z u (held_departed held) fmu.state in
      let tells : Tells m x.view start.1 = record { machine = at.2 ∙ ap (λ (n : Machine). Some n) same_m; state = at.3 } in
      let t = told_back m point stop bytes x.view y.0.view start.1 u back (empty_at (entering_step r z) (empty_held (machines_of r olds peers tell theirs) held) i u fmu.state) read tells in
      (y.0, y.1, t.machine, t.state)

-- ---- the laws, from those of a log

same_run : (s t : System) (x y : Bound) (p q : Plan) → s ≡ t → x ≡ y → p ≡ q → make_experiment s x p ≡ make_experiment t y q
same_run s t x y p q system bound plan = ap (λ (u : System). make_experiment u x p) system ∙ ap (λ (u : Bound). make_experiment t u p) bound ∙ ap (make_experiment t y) plan

prefix_held : (r : Run) (prefix : List Instant) (z : Situation) → Held r prefix z → IsPrefix r prefix
prefix_held r prefix z held =
    After held.s held.values held.before (came_of r held.s held.before held.comes) held.solves
    (none_lost_done r held.s held.values held.done) held.instants

-- a run that was held is one of these machines
pub own_held : (a : Account) (at : ℕ) (r : Run) → IsSound a.system → IsPlan a.plan → IsRunOf a.system a.bound a.olds r → r.plan ≡ a.plan → (h : HeldSession a at) → IsHeldRunOf r at h.made h.log h.outcome h.piece
own_held a at r sound plan run plan_is h =
    let system = sym run.system_is in
    let e : experiment_in a ≡ M.experiment_of r = sym (same_run r.system a.system r.bound a.bound r.plan a.plan run.system_is run.bound_is plan_is) in
    let peers : ArePeersOf r.system a.olds = subst (λ (s : System). ArePeersOf s a.olds) system h.peers in
    let theirs : MachinesMatchShapes r.system a.olds = subst (λ (s : System). MachinesMatchShapes s a.olds) system h.machines in
    let told : Told h.made (fresh_instances r.system.components a.olds) h.starts = subst (λ (s : System). Told h.made (fresh_instances s.components a.olds) h.starts) system h.told in
    let making_is : IsAnswered (shapes_of r.system) (making r.plan.link r.system) h.made =
    subst (λ (s : System). IsAnswered (shapes_of s) (making r.plan.link s) h.made) system (subst (λ (p : Plan). IsAnswered (shapes_of a.system) (making p.link a.system) h.made) (sym plan_is) h.making) in
    let own_sound : IsSound r.system = subst IsSound system sound in
    let own_plan : IsPlan r.plan = subst IsPlan (sym plan_is) plan in
    let histories : ArePeerHistories r.system a.olds a.news (h.made ++ h.log) h.histories = subst (λ (s : System). ArePeerHistories s a.olds a.news (h.made ++ h.log) h.histories) system h.are in
    record {
      sound = own_sound;
      plan = own_plan;
      machines = machines_of r a.olds peers run.tell theirs;
      ignore = ignores r a.olds peers run.tell theirs;
      making = making_is;
      replies = log_replies r a.olds a.news (h.made ++ h.log) h.histories histories run.tell;
      holds = holds_by r a.olds peers run.tell h.made h.starts told making_is own_sound own_plan theirs at h.outcome h.log h.piece
          (subst (λ (x : Experiment). HoldsWith x at h.starts h.outcome h.log h.piece) e h.holds);
    }

pub told_held : HeldByLog → ToldHeld
told_held law a at r sound plan run plan_is h = law r at h.made h.log h.outcome h.piece (own_held a at r sound plan run plan_is h)

pub told_none : EarlyHasNone → ToldNone
told_none law a at r sound plan run plan_is steps h before = law r at h.made h.log h.outcome h.piece steps (own_held a at r sound plan run plan_is h) before

-- ---- what was resumed with their checkpoint

abbrev make_plan : (resolution start step stop limit workers link : ℕ) → Plan
make_plan resolution start step stop limit workers link = record { resolution = resolution; start = start; step = step; stop = stop; limit = limit; workers = workers; link = link }

-- the plan of a checkpoint is that of its run, but for the workers and the link
pub plan_back : (r : Run) (own : Plan) (z : Situation) (held : Snapshot) → held ≡ checkpoint_of r z → IsPlanOf own held → GoesAs own r.plan
plan_back r own z held is same =
    let p = r.plan in
    ap (λ (n : ℕ). make_plan n own.start own.step own.stop own.limit p.workers p.link) (same.resolution ∙ ap (λ (h : Snapshot). h.plan.resolution) is)
    ∙ ap (λ (n : ℕ). make_plan p.resolution n own.step own.stop own.limit p.workers p.link) (same.start ∙ ap (λ (h : Snapshot). h.plan.start) is)
    ∙ ap (λ (n : ℕ). make_plan p.resolution p.start n own.stop own.limit p.workers p.link) (same.step ∙ ap (λ (h : Snapshot). h.plan.step) is)
    ∙ ap (λ (n : ℕ). make_plan p.resolution p.start p.step n own.limit p.workers p.link) (same.stop ∙ ap (λ (h : Snapshot). h.plan.stop) is)
    ∙ ap (λ (n : ℕ). make_plan p.resolution p.start p.step p.stop n p.workers p.link) (same.limit ∙ ap (λ (h : Snapshot). h.plan.limit) is)

pub is_plan_of : (own plan : Plan) → GoesAs own plan → IsPlan own → IsPlan plan
is_plan_of own plan same is = subst IsPlan same (record {
  step_above = is.step_above;
  step_within = is.step_within;
  ordered = is.ordered;
  stop_within = is.stop_within;
  limit_above = is.limit_above;
  limit_within = is.limit_within;
})

module _ (stand : SnapshotsStand) (r : Run) (a : Account) (prefix : List Instant) (z : Situation) (sound : IsSound r.system) (plan : IsPlan r.plan) (same : GoesAs a.plan r.plan) (tell : AreMachinesOf a.olds r.machines) (packings : ReadsBack r (packings_of r))
    (held : Held r prefix z) (begun : r.plan.start ≤ z.t) (peers : ArePeersOf r.system a.olds) (theirs : MachinesMatchShapes r.system a.olds) (made : List Sent) (starts lasts : List Instance) (told : Told made (fresh_instances r.system.components a.olds) starts)
    (making_is : IsAnswered (shapes_of r.system) (making a.plan.link r.system) made) where
  abbrev h : Snapshot
  h = checkpoint_of r z

  abbrev s : Spot
  s = spot_in r.system h

  -- so it goes on after the way back
  pub is_rest : (e : Experiment) → e.system ≡ r.system → e.plan ≡ a.plan → (mids : List Instance) → AreRestored s.t e.plan.stop h.states starts mids → (runs : RunsIn e.system e.bound e.plan (FromHeld s) mids lasts a.before a.after a.instants a.end) →
      IsRestOf r prefix z s e.bound a.plan runs.log runs.is a.end (output_of a)
  is_rest e system_is plan_is mids restored runs =
      let at = back_at r a.plan a.olds peers tell made starts told making_is theirs packings prefix z held s.t e.plan.stop mids restored in
      record {
        sound = sound;
        plan = plan;
        same = same;
        machines = machines_of r a.olds peers tell theirs;
        ignore = ignores r a.olds peers tell theirs;
        held = held;
        begun = begun;
        stands = stand r sound plan (machines_of r a.olds peers tell theirs) prefix z held;
        replies = are_replies r (entering_step r z) mids lasts at runs.log runs.told;
        ends = subst (λ (x : System). EndsIn x e.bound a.plan (FromHeld s) runs.log runs.is a.end a.before a.after) system_is
            (subst (λ (p : Plan). EndsIn e.system e.bound p (FromHeld s) runs.log runs.is a.end a.before a.after) plan_is runs.ends);
        counted = runs.counted_is;
      }

  rest_of : RestByLog → (e : Experiment) → e.system ≡ r.system → e.plan ≡ a.plan → ResumesSlots e s h.states starts lasts a.before a.after a.instants a.end → PutsRunIn r (rest_after prefix) (output_of a) a.end
  rest_of rest e system_is plan_is (Q.Back mids log told_back_log answered restored runs) = rest r prefix z s e.bound a.plan runs.log runs.is a.end (output_of a) (is_rest e system_is plan_is mids restored runs)
  rest_of rest e system_is plan_is (Q.NotBack bad log told_back_log stops restored none puts) = unput a.end puts where
    is_all : IsPrefix r (prefix ++ [])
    is_all = subst (IsPrefix r) (sym (append-nil prefix)) (prefix_held r prefix z held)

    unput : (end : RunEnd) → PutsPiece (E.Bad bad) (end_text K.Fault s.t) a.before a.after end → PutsRunIn r (rest_after prefix) (output_of a) end
    unput end (inl (is, put)) = subst (PutsRunIn r (rest_after prefix) (output_of a)) (sym is) (record { is = []; point = s.t; prefix = is_all; text = record { counted = none; put = put } })
    unput end (inr (is, cut)) = subst (PutsRunIn r (rest_after prefix) (output_of a)) (sym is)
        (record { is = []; prefix = is_all; counted = none; cut = inr (end_text K.Fault s.t, inr (K.Fault, s.t, refl), cut) })

pub told_rest : RestByLog → SnapshotsStand → ToldRest
told_rest rest stand a r prefix z held sound plan system_is plan_of tell packings at begun held_is l =
    let system = sym system_is in
    let same = plan_back r a.plan z held held_is plan_of in
    rest_of stand r a prefix z (subst IsSound system sound) (is_plan_of a.plan r.plan same plan) same tell packings at begun
    (subst (λ (s : System). ArePeersOf s a.olds) system l.peers) (subst (λ (s : System). MachinesMatchShapes s a.olds) system l.machines) l.made l.starts l.lasts
    (subst (λ (s : System). Told l.made (fresh_instances s.components a.olds) l.starts) system l.told)
    (subst (λ (s : System). IsAnswered (shapes_of s) (making a.plan.link s) l.made) system l.making)
    rest (experiment_in a) system refl
    (subst (λ (c : Snapshot). ResumesSlots (experiment_in a) (spot_in r.system c) c.states l.starts l.lasts a.before a.after a.instants a.end) held_is
    (subst (λ (s : System). ResumesSlots (experiment_in a) (spot_in s held) held.states l.starts l.lasts a.before a.after a.instants a.end) system l.resumes))
