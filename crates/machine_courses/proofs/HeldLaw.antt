-- A run of told machines that is held is held where their run is, and keeps its snapshot.
use Rattle.std.proofs.Common.{◌≡◌, ℕ, suc, ◌<◌, ◌≤◌, ℤ, Bool, true, false, List, [], ◌∷◌, ◌++◌, Option, refl, sym, ap, ap₂, ◌∙◌, subst, append-nil, arith, map}
use Rattle.std.specs.Prelude.{All}
use Rattle.std.proofs.lemmas.List.Elements.{All-append, All-cons, All-nil, All-weaker}
use Rattle.fmi_calls.specs.declared.call.Call.TheVariants as C
use Rattle.value_types.specs.declared.shape.Shape.{Shape}
use Rattle.value_types.specs.Values.{word_of}
use Rattle.fmu_peer.specs.Machine.{MachineState, kept}
use Rattle.system_model.specs.declared.bound.Bound.{Bound}
use Rattle.system_model.specs.declared.plan.Plan.{Plan}
use Rattle.system_model.specs.declared.plan.EndKind.TheVariants as K
use Rattle.system_model.specs.declared.system.System.{System}
use Rattle.system_model.specs.Plans.{IsPlan}
use Rattle.system_model.specs.Sound.{IsSound}
use Rattle.system_model.specs.Text.{Instant, end_text}
use Rattle.std.specs.Option.{option_map}
use Rattle.run_model.specs.Initial as I
use Rattle.run_model.specs.Machines.{AreMachines}
use Rattle.run_model.specs.Run.{Run, Situation, Timer}
use Rattle.run_rest.specs.Held as R
use Rattle.run_rest.specs.Held.{HeldAt}
use Rattle.run_rest.specs.Packing.{packed}
use Rattle.run_rest.specs.Parted.{entering_step}
use Rattle.run_rest.specs.Snapshot.{time_up_to}
use Rattle.system_checkpoint.specs.declared.snapshot.Arming.{Arming}
use Rattle.system_checkpoint.specs.declared.snapshot.ClockTimes.{ClockTimes}
use Rattle.system_checkpoint.specs.declared.snapshot.Snapshot.{Snapshot}
use Rattle.system_checkpoint.specs.Spelling.{CanBeHeld, spelling}
use Rattle.slot_calls.specs.Log.{Sent}
use Rattle.slot_calls.specs.Replies.{AreReplies, states_by}
use Rattle.slot_calls.specs.Stage.{IsAnswered, has_events, shapes_of}
use Rattle.step_agreement.specs.OverMachines.{IgnoreSlots}
use Rattle.event_iteration.proofs.ByLog.{made_all, replies_first, stage_states, states_on}
use Rattle.calling_sequence.specs.declared.run_end.RunEnd.{RunEnd}
use Rattle.calling_sequence.specs.declared.run_end.RunEnd.TheVariants as E
use Rattle.calling_sequence.specs.Calls as Calls
use Rattle.calling_sequence.specs.Course.{Again, Agreed, Agreeing, Arrives, Binds, CourseIn, Departing, Enters, Exits, Finds, Frees, GoesOn, IsWithin, LeadsTo, Leaves, Leaving, Left, Place, Reads, Rearming, Restored, Resumes, Saved, Saves, InstantDone, Sets, Short, Spot, Stopping, Times, Updates, UpToHeld, part_at, shown}
use Rattle.calling_sequence.specs.Ends.{AtLimit, AtShort, AtStop, Badly, ByStep, ByUpdate, EndsAt, FinishesIn, LostAtFirst, LostThere, Unfit, UnfitAtFirst, Well, header_of, kind_of_end, point_of}
use Rattle.calling_sequence.specs.Holding.{ComesToHold, arming_of, by_port, kept_at, times_of}
use Rattle.calling_sequence.specs.Parts.{Does}
use Rattle.calling_sequence.proofs.CourseInduction.{along}
use Rattle.machine_courses.specs.Prefixes.{AtFirst, CameTo, Onward}
use Rattle.machine_courses.specs.Held.{BadlyHeld, Early, EndsEarly, HoldsBy, HoldsRun, KeepsRun, WellHeld, checkpoint_of, experiment_of, packings_of, spot_of}
use Rattle.machine_courses.specs.Laws.{HeldByLog}
use Rattle.machine_courses.proofs.Prefixes.{stands_in}
use Rattle.machine_courses.proofs.Places.{At, Says, over}
use Rattle.machine_courses.proofs.Rows.{follows}
use Rattle.machine_courses.proofs.RunLaw.{lacks_at, loses_at_first, loses_there, made_replies, short_at, trace_at}
use Rattle.machine_courses.proofs.Words.{armings_alike, same_alike, times_alike}

-- ---- the first such point

-- a step begins below it
abbrev pub Below : ℕ → Place → Type 0
Below at (Leaving w) = w.s.t < at
Below at (Left w) = w.s.t < at
Below at (Departing w) = w.s.t < at
Below at (Saved w) = w.s.t < at
Below at (Short w component end) = w.s.t < at
Below at (Agreed w point asked) = w.s.t < at
Below at (Restored s) = s.t < at
Below at p = Unit {0}

-- the instants from it on are at this point
abbrev pub AllAt : (at t : ℕ) → List Instant → Type 0
AllAt at t is = All (λ (i : Instant). at ≤ i.t → i.t ≡ t) is

pub record IsFirst (plan : Plan) (at : ℕ) (p : Place) (is : List Instant) : Type 0 where
  pub all : AllAt at (point_of plan p) is
  pub below : Below at p

module _ (system : System) (bound : Bound) (plan : Plan) (at : ℕ) where
  -- the point stays
  still : (t u : ℕ) (is : List Instant) → t ≡ u → AllAt at t is → AllAt at u (is ++ [])
  still t u is same all = subst (AllAt at u) (sym (append-nil is)) (subst (λ (v : ℕ). AllAt at v is) same all)

  -- each instant was below
  past : (t u : ℕ) (is : List Instant) → t < at → AllAt at t is → AllAt at u (is ++ [])
  past t u is below all =
      subst (AllAt at u) (sym (append-nil is))
      (All-weaker (λ (i : Instant). at ≤ i.t → i.t ≡ t) (λ (i : Instant). at ≤ i.t → i.t ≡ u) (λ i one from. absurd (let there = one from in omega (arith, there, from, below))) is all)

  first_on : (p q : Place) (values : List (Option ℤ)) (prefix more : List Sent) (is : List Instant) → CourseIn system bound plan (UpToHeld at) p prefix is → IsFirst plan at p is → Does system (part_at system bound plan p) values more → LeadsTo system plan p values more q → IsWithin (UpToHeld at) q → IsFirst plan at q (is ++ shown q)
  first_on _ _ values prefix more is course f does (Binds v l) within = record { all = still plan.start plan.start is refl f.all; below = tt }
  first_on _ _ values prefix more is course f does (Enters v l) within = record { all = still plan.start plan.start is refl f.all; below = tt }
  first_on _ _ values prefix more is course f does (Finds v l) within = record { all = still plan.start plan.start is refl f.all; below = tt }
  first_on _ _ values prefix more is course f does (Times found v l timers none are) within = record { all = still plan.start plan.start is refl f.all; below = tt }
  first_on _ _ values prefix more is course f does (Exits timers v l s ticks is_is begins) within = record { all = still plan.start s.t is (sym (ap (λ (u : Spot). u.t) is_is)) f.all; below = tt }
  first_on _ _ values prefix more is course f does (Reads s ticks v l len) within = record { all = still s.t s.t is refl f.all; below = tt }
  first_on _ _ values prefix more is course f does (Rearming s v next l none rearms) within = record { all = still s.t s.t is refl f.all; below = tt }
  first_on _ _ values prefix more is course f does (Updates s v l events again asked are goes asks) within = record {
    all =
        let i : Instant = record { t = s.t; n = s.n; values = s.values } in
        let P : Instant → Type 0 = λ (j : Instant). at ≤ j.t → j.t ≡ s.t in
        All-append P is (i ∷ []) f.all (All-cons P i [] (λ from. refl) (All-nil P));
    below = tt;
  }
  first_on _ _ values prefix more is course f does (Again s v l ticks other begins) within = record { all = still s.t s.t is refl f.all; below = tt }
  first_on _ _ values prefix more is course f does (GoesOn w v l step) within = record { all = still w.s.t w.s.t is refl f.all; below = within }
  first_on _ _ values prefix more is course f does (Leaves w v l) within = record { all = still w.s.t w.s.t is refl f.all; below = f.below }
  first_on _ _ values prefix more is course f does (Sets w v l) within = record { all = still w.s.t w.s.t is refl f.all; below = f.below }
  first_on _ _ values prefix more is course f does (Saves w v l) within = record { all = still w.s.t w.s.t is refl f.all; below = f.below }
  first_on _ _ values prefix more is course f does (Agreeing w v l point asked agrees asks) within = record { all = still w.s.t w.s.t is refl f.all; below = f.below }
  first_on _ _ values prefix more is course f does (Stopping w v l component end agrees) within = record { all = still w.s.t w.s.t is refl f.all; below = f.below }
  first_on _ _ values prefix more is course f does (Frees w point asked v l) within = record { all = past w.s.t point is f.below f.all; below = tt }
  first_on _ _ values prefix more is course f does (Arrives s v l ticks begins) within = record { all = still s.t s.t is refl f.all; below = tt }
  first_on _ _ values prefix more is course f does (Resumes w v l step) within = record { all = still w.s.t w.s.t is refl f.all; below = f.below }

  pub first_at : (p : Place) (log : List Sent) (is : List Instant) → CourseIn system bound plan (UpToHeld at) p log is → IsFirst plan at p is
  first_at = along system bound plan (UpToHeld at) (λ p log is. IsFirst plan at p is) (record { all = All-nil (λ (i : Instant). at ≤ i.t → i.t ≡ plan.start); below = tt }) first_on

-- ---- where the run is held

pub comes_of : (r : Run) (z : Situation) (is : List Instant) → CameTo r z is → R.Comes r is z
comes_of r _ _ (AtFirst s is initial solves kept begins none) = R.AtFirst s is initial solves kept begins none
comes_of r _ _ (Onward s is before values earlier came solves leads is_is) = R.Onward earlier before values is s (comes_of r before earlier came) solves leads is_is

module _ (r : Run) (sound : IsSound r.system) (plan : IsPlan r.plan) (machines : AreMachines r) (ignore : IgnoreSlots r) (at : ℕ) where
  abbrev base : List MachineState
  base = I.instantiated r

  pub stood : (p : Place) (log : List Sent) (is : List Instant) → CourseIn r.system r.bound r.plan (UpToHeld at) p log is → AreReplies r base log → At r p is (states_by r base log)
  stood p log is course replies = (stands_in r sound plan machines ignore (UpToHeld at) [] base (made_all r machines) (refl, refl) p log is course replies).at

  module _ (s : Spot) (prefix : List Sent) (is : List Instant) (comes : ComesToHold (experiment_of r) at s prefix is) (replies : AreReplies r base prefix) where
    says : Says r s false false is (states_by r base prefix)
    says = stood (InstantDone s false false) prefix is comes.course replies

    abbrev z : Situation
    z = over r s is says.sees

    held : HeldAt r at is z
    held = record {
      held = record {
        before = says.sees.earlier;
        s = says.sees.z;
        values = s.values;
        comes = comes_of r says.sees.z says.sees.earlier says.sees.at.came;
        solves = says.sees.solves;
        done = follows r sound plan machines ignore s false false is (states_by r base prefix) says;
        stands = refl;
        early = (let point = says.sees.at.point in let early = comes.early in omega (arith, point, early));
        instants = says.sees.is_is;
      };
      reached = (let point = says.sees.at.point in let reached = comes.reached in omega (arith, point, reached));
      first = All-weaker (λ (i : Instant). at ≤ i.t → i.t ≡ s.t) (λ (i : Instant). at ≤ i.t → i.t ≡ z.t) (λ i one from. one from ∙ sym says.sees.at.point) is
          (first_at r.system r.bound r.plan at (InstantDone s false false) prefix is comes.course).all;
    }

    -- what is kept of it is the checkpoint
    make : ℕ → List (Option ClockTimes) → List Arming → List (Option ℕ) → List (List ℕ) → Snapshot
    make t times armings events states = record {
      plan = record r.plan { workers = 1; link = 1 };
      point = t;
      states = states;
      words = map (option_map word_of) s.values;
      times = times;
      armings = armings;
      events = events;
    }

    keeps : (states : List (List ℕ)) → kept_at (experiment_of r) s states ≡ kept_at (experiment_of r) (spot_of z) states
    unfolding make
    keeps states =
        let ports = r.system.ports in
        let stop = r.plan.stop in
        ap₂ (λ (t : ℕ) (times : List (Option ClockTimes)). make t times (by_port (arming_of stop) ports s.timers) (map (time_up_to stop) s.events) states)
        (sym says.sees.at.point) (sym (times_alike stop ports z.timers s.timers says.sees.timers))
        ∙ ap₂ (λ (armings : List Arming) (events : List (Option ℕ)). make z.t (by_port times_of ports z.timers) armings events states)
        (sym (armings_alike stop ports z.timers s.timers says.sees.timers)) (sym (same_alike (time_up_to stop) z.events s.events says.sees.events))

    into : (entered : List Sent) → IsAnswered (shapes_of r.system) (Calls.entering_step r.system) entered → states_by r base (prefix ++ entered) ≡ entering_step r z
    into entered answered =
        states_on r base prefix entered
        ∙ ap (λ (ss : List MachineState). states_by r ss entered) says.states
        ∙ stage_states r z.states has_events (λ (shape : Shape). C.EnterStep) entered answered

    abbrev at_log : List Sent → Snapshot
    at_log entered = kept_at (experiment_of r) s (packed (packings_of r) (map kept (states_by r base (prefix ++ entered))))

    kept_is : (entered : List Sent) → IsAnswered (shapes_of r.system) (Calls.entering_step r.system) entered → at_log entered ≡ checkpoint_of r z
    kept_is entered answered =
        ap (λ (ss : List MachineState). kept_at (experiment_of r) s (packed (packings_of r) (map kept ss))) (into entered answered)
        ∙ keeps (packed (packings_of r) (map kept (entering_step r z)))

    keeps_run : (entered : List Sent) → IsAnswered (shapes_of r.system) (Calls.entering_step r.system) entered → CanBeHeld r.system (at_log entered) →
        KeepsRun r at s.t (spelling (header_of r.system r.plan) (at_log entered))
    keeps_run entered answered can = record {
      is = is;
      z = z;
      held = held;
      there = says.sees.at.point;
      can = subst (CanBeHeld r.system) (kept_is entered answered) can;
      put = ap (spelling (header_of r.system r.plan)) (kept_is entered answered);
    }

  -- ---- where it ends before

  early_at : (end : RunEnd) (p : Place) → (ends : EndsAt r.system r.plan end p) → (is : List Instant) (ss : List MachineState) → At r p is ss → EndsEarly r (kind_of_end end) (point_of r.plan p) (end_text (kind_of_end end) (point_of r.plan p))
  early_at end p ends is ss x = record { is = is; trace = trace_at r sound plan machines ignore end p ends is ss x; put = refl }

  early : (end : RunEnd) (p : Place) → (ends : EndsAt r.system r.plan end p) → (is : List Instant) (ss : List MachineState) → At r p is ss → HoldsRun r at end (end_text (kind_of_end end) (point_of r.plan p))
  early _ _ (AtStop s at_stop) is ss x = subst (λ (t : ℕ). EndsEarly r K.Stop t (end_text K.Stop s.t)) at_stop (early_at E.Stop (InstantDone s false false) (AtStop s at_stop) is ss x)
  early _ _ (ByUpdate s again) is ss x = early_at (E.Asked s.t) (InstantDone s again true) (ByUpdate s again) is ss x
  early end p (ByStep s) is ss x = early_at end p (ByStep s) is ss x
  early _ _ (AtLimit s limit) is ss x = early_at (E.EventLimit s.t) (InstantDone s true false) (AtLimit s limit) is ss x
  early end p (Unfit s component to bound unfit) is ss x =
      (early_at end p (Unfit s component to bound unfit) is ss x, lacks_at r sound plan machines ignore s is x.sees (follows r sound plan machines ignore s false false is ss x) component.0 to bound unfit)
  early end p (UnfitAtFirst s component to bound unfit) is ss x =
      (early_at end p (UnfitAtFirst s component to bound unfit) is ss x, lacks_at r sound plan machines ignore (record s { n = x.n }) is x.sees x.done component.0 to bound unfit)
  early end p (AtShort w component to) is ss (g, lacking) = (early_at end p (AtShort w component to) is ss (g, lacking), short_at r sound plan machines ignore w is g component.0 to lacking)
  early end p (LostAtFirst values lost first) is ss (none, x) = (early_at end p (LostAtFirst values lost first) is ss (none, x), loses_at_first r sound plan machines ignore values is ss none x lost first)
  early end p (LostThere s lost first) is ss (f, timers) = (early_at end p (LostThere s lost first) is ss (f, timers), loses_there r sound plan machines ignore s is ss f lost first)

  finished : (end : RunEnd) (point : ℕ) (log : List Sent) (is : List Instant) → FinishesIn r.system r.bound r.plan (UpToHeld at) end point log is → AreReplies r base log → HoldsRun r at end (end_text (kind_of_end end) point)
  finished _ _ _ _ (Well p end log is course ends may) replies = early end p ends is (states_by r base log) (stood p log is course replies)
  finished _ _ _ _ (Badly p bad prefix more is course falls) replies = (point_of r.plan p, refl)

  holds : (end : RunEnd) (log : List Sent) (piece : List ℕ) → HoldsBy r at end log piece → AreReplies r base log → HoldsRun r at end piece
  holds _ _ _ (Early end point log is f) replies = finished end point log is f replies
  holds _ _ _ (BadlyHeld s bad prefix more is comes stops) replies = (s.t, refl)
  holds _ _ _ (WellHeld s prefix entered keeping is comes into_step answered can) replies =
      keeps_run s prefix is comes (replies_first r base prefix entered (replies_first r base (prefix ++ entered) keeping replies)) entered into_step can

pub held_by_log : HeldByLog
held_by_log r at made log end piece c = holds r c.sound c.plan c.machines c.ignore at end log piece c.holds (made_replies r made log c.making c.replies)
