-- The calls of one component along a run: each is one of a run, and none stands twice where it isn't needed.
use Rattle.std.proofs.Common.{◌≡◌, ℕ, zero, suc, ◌<◌, ◌≤◌, ◌==◌, Bool, true, false, List, [], ◌∷◌, ◌++◌, ◌⊎◌, inl, inr, Option, Some, ℤ, refl, sym, ap, ◌∙◌, subst, append_assoc, append-nil, arith, length}
use Rattle.std.specs.Prelude.{None, if◌then◌else◌}
use Rattle.std.specs.List.{slice_get}
use Rattle.std.specs.Option.{option_map, option_map_or}
use Rattle.std.proofs.lemmas.List.Elements.{All-cons, All-nil}
use Rattle.std.proofs.lemmas.Option.{slice_get-map, slice_get_within}
use Rattle.value_types.specs.declared.shape.Shape.{Shape}
use Rattle.fmi_calls.specs.declared.call.Call.{Call}
use Rattle.fmi_calls.specs.declared.call.Call.TheVariants as C
use Rattle.fmi_calls.specs.declared.call.Kind.{Kind}
use Rattle.fmi_calls.specs.declared.call.Kind.TheVariants as K
use Rattle.fmi_calls.specs.KindFacts.{IsRunCall, may_repeat, moves_on}
use Rattle.fmu_peer.specs.declared.peer.Exchange.{Exchange}
use Rattle.fmu_peer.specs.Lean.{SizesFall}
use Rattle.fmu_peer.specs.Mode.{instantiate_of}
use Rattle.system_model.specs.declared.bound.Bound.{Bound}
use Rattle.system_model.specs.declared.plan.Plan.{Plan}
use Rattle.system_model.specs.declared.system.Component.{Component}
use Rattle.system_model.specs.declared.system.System.{System}
use Rattle.system_model.specs.Bounds.{BindsParameters}
use Rattle.system_model.specs.Sound.{IsSound}
use Rattle.system_model.specs.Text.{Instant}
use Rattle.system_model.specs.EarlyReturn.{early_count}
use Rattle.run_model.specs.Stepping.{asked_first}
use Rattle.slot_calls.specs.declared.bad_answer.BadAnswer.{BadAnswer}
use Rattle.slot_calls.specs.Log.{ComponentCall, Sent, component_calls, part}
use Rattle.slot_calls.specs.Stage.{IsAnswered, StopsAt, everyone, has_events, shapes_of, to_each, to_those}
use Rattle.slot_calls.proofs.CallerLemmas.{other}
use Rattle.event_iteration.specs.WalkCalls.{Prefix, UsesAre, WalksBy, Whole, has_events_at, initial_span, instant_span, interval_span, own, step_span, timing_span}
use Rattle.event_iteration.proofs.ByLog.{Differ, each_call_once, own_append}
use Rattle.step_agreement.specs.Agreement.{Fails, Meets, Outcome, Stand, Unfit, are_at, stand_by, stands_by}
use Rattle.fmu_peer.specs.Talk.{calls_in}
use Rattle.step_agreement.specs.Saving.{is_saved}
use Rattle.step_agreement.proofs.CallerLemmas.{Alternates, all_there, alternates_from}
use Rattle.rollback.specs.StepsBy.{all_at}
use Rattle.calling_sequence.specs.Calls.{entering_step, keeping, leaving, making, restoring}
use Rattle.calling_sequence.specs.Course.{Again, Agreed, Agreeing, Before, Configured, Course, CourseIn, Departing, Entered, Exits, Extent, Found, FromHeld, GoesOn, InstantDone, LeadsTo, Leaves, Leaving, Left, Made, Place, Read, Rearmed, Restored, Resumes, Saved, Saves, Sets, Short, Spot, Stepped, Stopping, Timed, Way, Whole, first_of, part_at}
use Rattle.calling_sequence.specs.Holding.{holding}
use Rattle.calling_sequence.specs.Parts.{Agreement, AllAgree, Calls, Does, Falls, Part, Round, Walk}
use Rattle.calling_sequence.proofs.CourseInduction.{along}
use Rattle.course_laws.specs.Laws.{AreNeeded, NoCallTwice}
use Rattle.course_laws.specs.Runs.{BackBadly, BackFalling, BackStands, Comes, ComesAnyhow, Falling, Holding, HoldingBadly, MayBack, Stands, Unmade, Wholly}
use Rattle.course_laws.proofs.BoundSets.{binding_new, setting_span}
use Rattle.course_laws.proofs.LastSteps.{ends_from, falls_from, stand_after}
use Rattle.course_laws.proofs.Once.{IsBefore, IsBelow, IsSeen, CallsSince, Keep, Limit, NamesNone, NamesPort, called, differ_by, named, needed, needed_prefix, open_by, Open, switched, weaker}
use Rattle.course_laws.proofs.OwnCalls.{own_calls, own_log, own_there}
use Rattle.course_laws.proofs.Triples.{own_keeping, own_restoring}
use Rattle.course_laws.proofs.RoundCalls.{IsSomehow, free_runs, freed_kept, rounds_so, save_runs}

-- ---- of which kinds the calls are that name no port, since the last that moved the FMU on

abbrev made_kinds : Kind → Bool
made_kinds K.Instantiate = true
made_kinds kind = false

abbrev initial_kinds : Kind → Bool
initial_kinds K.EnterInitialization = true
initial_kinds kind = false

abbrev stepped_kinds : Kind → Bool
stepped_kinds K.DoStep = true
stepped_kinds K.Restore = true
stepped_kinds K.Free = true
stepped_kinds kind = false

abbrev point_kinds : Kind → Bool
point_kinds K.ExitInitialization = true
point_kinds K.EnterEvent = true
point_kinds K.Update = true
point_kinds kind = stepped_kinds kind

-- where a run is resumed, too
abbrev leaving_kinds : Kind → Bool
leaving_kinds K.EnterStep = true
leaving_kinds K.Instantiate = true
leaving_kinds K.Deserialize = true
leaving_kinds kind = point_kinds kind

-- on the way back to a state
abbrev back_kinds : Kind → Bool
back_kinds K.Instantiate = true
back_kinds K.Deserialize = true
back_kinds kind = false

abbrev saved_kinds : Kind → Bool
saved_kinds K.Save = true
saved_kinds kind = leaving_kinds kind

-- where a state is kept
abbrev kept_kinds : Kind → Bool
kept_kinds K.Serialize = true
kept_kinds kind = saved_kinds kind

saved_kept : (kind : Kind) → saved_kinds kind ≡ true → kept_kinds kind ≡ true
saved_kept K.Serialize is = refl
saved_kept kind is = is

made_back : (kind : Kind) → made_kinds kind ≡ true → back_kinds kind ≡ true
made_back K.Instantiate is = refl
made_back kind is = absurd (cc)

back_leaving : (kind : Kind) → back_kinds kind ≡ true → leaving_kinds kind ≡ true
back_leaving K.Instantiate is = refl
back_leaving K.Deserialize is = refl
back_leaving kind is = absurd (cc)

leaving_saved : (kind : Kind) → leaving_kinds kind ≡ true → saved_kinds kind ≡ true
leaving_saved K.Save is = refl
leaving_saved kind is = is

stepped_at_point : (kind : Kind) → stepped_kinds kind ≡ true → point_kinds kind ≡ true
stepped_at_point K.DoStep is = refl
stepped_at_point K.Restore is = refl
stepped_at_point K.Free is = refl
stepped_at_point kind is = absurd (cc)

point_leaving : (kind : Kind) → point_kinds kind ≡ true → leaving_kinds kind ≡ true
point_leaving K.EnterStep is = refl
point_leaving K.Instantiate is = refl
point_leaving K.Deserialize is = refl
point_leaving kind is = is

later_before : (t u : ℕ) → t ≤ u → (c : Call) → IsBefore t c → IsBefore u c
later_before t u high (C.DoStep at size) before = omega (arith, high, before)
later_before t u high c before = tt

-- more kinds, later steps, and later uses
more_by : (l m : Limit) → ((kind : Kind) → l.kinds kind ≡ true → m.kinds kind ≡ true) → l.t ≤ m.t → l.below ≤ m.below → Keep l m
more_by l m kinds late high c (NamesNone u is before) = NamesNone u (kinds _ is) (later_before l.t m.t late c before)
more_by l m kinds late high c (NamesPort u less) = NamesPort u (omega (arith, less, high))

more_seen : (l m : Limit) → ((kind : Kind) → l.kinds kind ≡ true → m.kinds kind ≡ true) → l.t ≡ m.t → l.below ≤ m.below → Keep l m
more_seen l m kinds same high = more_by l m kinds (omega (arith, same)) high

abbrev limit : (Kind → Bool) → ℕ → ℕ → Limit
limit kinds t below = record { kinds = kinds; t = t; below = below; kept = None }

-- what of an FMU its calls go by: event mode, and whether its state is saved in steps
record Traits : Type 0 where
  events : Bool
  saved : Bool

-- after its Save, if there was one, no step was made
abbrev kept_by : Bool → Open
kept_by saved = if saved then Some None else None

-- with event mode or without, after the Updates of an instant
abbrev below_seen : Bool → ℕ
below_seen e = (instant_span false e).from

-- at a place
abbrev limit_at : Traits → Place → Limit
limit_at e Made = limit made_kinds 0 1
limit_at e Configured = limit made_kinds 0 3
limit_at e Entered = limit initial_kinds 0 1
limit_at e (Found values) = limit initial_kinds 0 3
limit_at e (Timed timers) = limit initial_kinds 0 4
limit_at e (Before s ticks) = limit point_kinds s.t (instant_span (s.n == 0) e.events).from
limit_at e (Read s) = limit point_kinds s.t (instant_span (s.n == 0) e.events).below
limit_at e (Rearmed s) = limit point_kinds s.t (interval_span e.events).below
limit_at e (InstantDone s again asked) = limit point_kinds s.t (below_seen e.events)
limit_at e (Leaving w) = limit point_kinds w.s.t (below_seen e.events)
limit_at e (Left w) = limit leaving_kinds w.s.t (below_seen e.events)
limit_at e (Departing w) = limit leaving_kinds w.s.t (step_span e.events).below
limit_at e (Saved w) = record (limit saved_kinds w.s.t (step_span e.events).below) { kept = kept_by e.saved }
limit_at e (Short w component end) = limit saved_kinds (suc w.s.t) (step_span e.events).below
limit_at e (Agreed w point asked) = limit stepped_kinds point 1
limit_at e (Stepped s asked) = limit stepped_kinds s.t 1
limit_at e (Restored s) = limit leaving_kinds s.t (below_seen e.events)

-- and after what is sent from there
abbrev limit_after : Traits → Plan → Place → Limit
limit_after e plan Made = limit_at e Configured
limit_after e plan Configured = limit_at e Entered
limit_after e plan Entered = limit_at e (Found [])
limit_after e plan (Found values) = limit initial_kinds 0 4
limit_after e plan (Timed timers) = limit point_kinds plan.start (instant_span true e.events).from
limit_after e plan (Before s ticks) = limit_at e (Read s)
limit_after e plan (Read s) = limit_at e (Rearmed s)
limit_after e plan (Rearmed s) = limit point_kinds s.t (below_seen e.events)
limit_after e plan (InstantDone s again asked) = limit point_kinds s.t (below_seen e.events)
limit_after e plan (Leaving w) = limit_at e (Left w)
limit_after e plan (Left w) = limit_at e (Departing w)
limit_after e plan (Departing w) = limit_at e (Saved w)
limit_after e plan (Saved w) = limit saved_kinds (suc w.s.t) (step_span e.events).below
limit_after e plan (Short w component end) = limit_at e (Short w component end)
limit_after e plan (Agreed w point asked) = limit stepped_kinds point 1
limit_after e plan (Stepped s asked) = limit point_kinds s.t (instant_span true e.events).from
limit_after e plan (Restored s) = limit_at e (Restored s)

-- the bound of a step is a later point
abbrev pub IsLater : Place → Type 0
IsLater (Leaving w) = w.s.t < w.to
IsLater (Left w) = w.s.t < w.to
IsLater (Departing w) = w.s.t < w.to
IsLater (Saved w) = w.s.t < w.to
IsLater p = Unit {0}

pub later_on : (system : System) (plan : Plan) (p q : Place) (values : List (Option ℤ)) (log : List Sent) → LeadsTo system plan p values log q → IsLater p → IsLater q
later_on system plan _ _ _ _ (GoesOn w values log step) later = step.bound.bound.later
later_on system plan _ _ _ _ (Resumes w values log step) later = step.bound.bound.later
later_on system plan _ _ _ _ (Leaves w values log) later = later
later_on system plan _ _ _ _ (Sets w values log) later = later
later_on system plan _ _ _ _ (Saves w values log) later = later
later_on system plan _ _ _ _ leads later = tt

-- ---- spans one after the other

read_asked : (is_first e : Bool) → ((instant_span is_first e).below ≤ (interval_span e).from) × ((interval_span e).from ≤ (interval_span e).below)
read_asked is_first true = (omega arith, omega arith)
read_asked true false = (omega arith, omega arith)
read_asked false false = (omega arith, omega arith)

instant_on : (is_first e : Bool) → (instant_span is_first e).from ≤ (instant_span is_first e).below
instant_on is_first true = omega arith
instant_on true false = omega arith
instant_on false false = omega arith

left_set : (e : Bool) → (below_seen e ≤ (step_span e).from) × ((step_span e).from ≤ (step_span e).below)
left_set true = (omega arith, omega arith)
left_set false = (omega arith, omega arith)

asked_seen : (e : Bool) → e ≡ false → (interval_span e).below ≤ below_seen e
asked_seen true is = absurd (cc)
asked_seen false is = omega arith

stepped_seen : (e : Bool) → 1 ≤ (instant_span true e).from
stepped_seen true = omega arith
stepped_seen false = omega arith

seen_some : (e : Bool) → 1 ≤ below_seen e
seen_some true = omega arith
seen_some false = omega arith

-- the one at a place
pub some_at : (cs : List Component) (k : ℕ) → k < length cs → (c : Component) × (slice_get cs k ≡ Some c)
some_at [] k w = absurd (omega (arith, w))
some_at (c ∷ cs) zero w = (c, refl)
some_at (c ∷ cs) (suc k) w = some_at cs k (omega (arith, w))

-- ---- along a course

module _ (system : System) (sound : IsSound system) (k : ℕ) (c : Component) (of : slice_get system.components k ≡ Some c) where
  abbrev e : Traits
  e = record { events = has_events_at system k; saved = is_saved (early_count (shapes_of system)) c.shape }

  uses : UsesAre system
  uses = each_call_once system sound

  abbrev mine : List Sent → List Call
  mine log = own k (component_calls log)

  own_each : (call : Shape → Call) → own k (to_each call (shapes_of system)) ≡ call c.shape ∷ []
  own_each call = own_there everyone call system k c of

  made_so : (link : ℕ) → CallsSince (limit_at e Made) (own k (making link system))
  made_so link =
      let call = instantiate_of link c.shape in
      subst (CallsSince (limit_at e Made)) (sym (own_each (instantiate_of link))) (record {
        runs = All-cons IsRunCall call [] refl (All-nil IsRunCall);
        once = ((λ once. All-nil _), tt);
        seen = All-cons (IsSeen (limit_at e Made)) call [] (NamesNone refl refl tt) (All-nil (IsSeen (limit_at e Made)));
        below = (tt, tt);
        kept = refl;
      })

  -- what a part adds to the calls
  abbrev Adds : Part → List Call → Limit → Type 0
  Adds (Calls cs) calls l = CallsSince l (calls ++ own k cs)
  Adds (Round cs) calls l = CallsSince l (calls ++ own k cs)
  Adds (Walk rules before order) calls l = (log : List Sent) → WalksBy system rules before order log → CallsSince l (calls ++ mine log)
  Adds (Agreement t step b) calls l = (log : List Sent) (o : Outcome) → AllAgree system t step b log o → AreNeeded (calls ++ mine log)

  -- and what then holds of them
  abbrev AddedBy : Part → List Call → Limit → Type 0
  AddedBy (Agreement t step b) calls l = Unit {0}
  AddedBy part calls l = CallsSince l calls

  -- the calls up to a place; in a step some size may be kept
  abbrev AtPlace : Place → List Call → Type 0
  AtPlace (Short w component end) calls = IsSomehow (limit_at e (Saved w)) (limit_at e (Short w component end)) calls
  AtPlace (Agreed w point asked) calls = IsSomehow (limit_at e (Saved w)) (limit_at e (Agreed w point asked)) calls
  AtPlace p calls = CallsSince (limit_at e p) calls

  -- those of an agreement
  module _ (t step b : ℕ) (later : t < b) (log : List Sent) (o : Outcome) (agrees : AllAgree system t step b log o) where
    stand : (s : Stand) × (slice_get (all_at t (shapes_of system)) k ≡ Some s) × (s.point ≡ t)
    stand =
        let shape_is : slice_get (shapes_of system) k ≡ Some c.shape = slice_get-map (λ (x : Component). x.shape) system.components k ∙ ap (option_map (λ (x : Component). x.shape)) of in
        (record { shape = c.shape; point = t; ask = t }, slice_get-map (λ (z : Shape). record { shape = z; point = t; ask = t }) (shapes_of system) k ∙ ap (option_map (λ (z : Shape). record { shape = z; point = t; ask = t })) shape_is, refl)

    alternate : Alternates t false (mine log)
    alternate = subst (Alternates t false) (own_calls k log) (alternates_from t step (asked_first (early_count (shapes_of system))) k b (all_at t (shapes_of system)) log o agrees stand.0 stand.1 stand.2)

    fall : SizesFall None (mine log)
    fall = subst (SizesFall None) (own_calls k log) (falls_from t step (shapes_of system) b later log o agrees k stand.0 stand.1)

    -- where all are past t a step of it was made
    begun : (m : ℕ) → are_at m (stands_by t (all_at t (shapes_of system)) log) ≡ true → t < m → mine log ≡ [] → ⊥
    begun m there after none =
        let empty : part k log ≡ [] = no_exchange (part k log) (own_calls k log ∙ none) in
        let now : (stand_by t stand.0 (part k log)).point ≡ m = all_there m (stands_by t (all_at t (shapes_of system)) log) there k (stand_by t stand.0 (part k log)) (stand_after t (all_at t (shapes_of system)) log k stand.0 stand.1) in
        let still : (stand_by t stand.0 (part k log)).point ≡ stand.0.point = ap (λ (es : List Exchange). (stand_by t stand.0 es).point) empty in
        let home = stand.2 in
        absurd (omega (arith, now, still, home, after)) where
          no_exchange : (es : List Exchange) → calls_in es ≡ [] → es ≡ []
          no_exchange [] h = refl
          no_exchange (x ∷ es) h = absurd (cc)

    module _ (calls : List Call) (w : Way) (at : w.s.t ≡ t) (so : CallsSince (limit_at e (Saved w)) calls) where
      kept_is : (x : Bool) → e.saved ≡ x → ((limit_at e (Saved w)).kept ≡ None) ⊎ ((limit_at e (Saved w)).kept ≡ Some None)
      kept_is true is = inr (ap kept_by is)
      kept_is false is = inl (ap kept_by is)

      own_alternate : Alternates w.s.t false (mine log)
      own_alternate = subst (λ (n : ℕ). Alternates n false (mine log)) (sym at) alternate

      -- whatever the agreement comes to
      anyhow : IsSomehow (limit_at e (Saved w)) (limit saved_kinds (suc w.s.t) (step_span e.events).below) (calls ++ mine log)
      anyhow = rounds_so (limit_at e (Saved w)) (limit saved_kinds (suc w.s.t) (step_span e.events).below) calls (mine log) so own_alternate fall refl refl (omega arith)
          (inr (λ x. more_by (limit_at e (Saved w)) (record (limit saved_kinds (suc w.s.t) (step_span e.events).below) { kept = x }) (λ kind is. is) (omega arith) (omega arith))) (kept_is e.saved refl)

      -- where it meets
      met : (m : ℕ) → t < m → (mine log ≡ [] → ⊥) → IsSomehow (limit_at e (Saved w)) (limit stepped_kinds m 1) (calls ++ mine log)
      met m after some = rounds_so (limit_at e (Saved w)) (limit stepped_kinds m 1) calls (mine log) so own_alternate fall refl refl (omega (arith, after, at)) (inl some) (kept_is e.saved refl)

  module _ (bound : Bound) (plan : Plan) (binds : BindsParameters system bound) where
    -- one call to those whose shape passes a test
    to_some : (test : Shape → Bool) (l m : Limit) (calls : List Call) → CallsSince l calls → (call : Call) → IsRunCall call → (may_repeat call ≡ false → (c : Call) → IsSeen l c → Differ c call) → IsSeen m call → (moves_on call ≡ false → Keep l m) →
        IsBelow call l.kept → (test c.shape ≡ false → Keep l m) → (if test c.shape then open_by call l.kept else l.kept) ≡ m.kept → CallsSince m (calls ++ own k (to_those test (λ (shape : Shape). call) (shapes_of system)))
    to_some test l m calls so call run other is stays below h kept =
        subst (λ (cs : List Call). CallsSince m (calls ++ cs)) (sym (own_there test (λ (shape : Shape). call) system k c of)) (switched l m calls so (test c.shape) call run other is stays below h kept)

    -- to each one that moves it on
    to_all : (l m : Limit) (calls : List Call) → CallsSince l calls → (call : Call) → IsRunCall call → ((c : Call) → IsSeen l c → Differ c call) → moves_on call ≡ true → IsSeen m call → IsBelow call l.kept → open_by call l.kept ≡ m.kept →
        CallsSince m (calls ++ own k (to_each (λ (shape : Shape). call) (shapes_of system)))
    to_all l m calls so call run other moves is below kept = to_some everyone l m calls so call run (λ once. other) is (λ none. absurd (let wrong : true ≡ false = sym moves ∙ none in cc)) below (λ none. absurd (cc)) kept

    has_its : has_events_at system k ≡ c.shape.has_event_mode
    has_its = ap (λ (o : Option Component). option_map_or (λ (x : Component). x.shape.has_event_mode) o false) of

    same_open : (b : Bool) (o : Open) → (if b then o else o) ≡ o
    same_open true o = refl
    same_open false o = refl

    -- or to those with event mode
    to_events : (l m : Limit) (calls : List Call) → CallsSince l calls → (call : Call) → IsRunCall call → (may_repeat call ≡ false → (c : Call) → IsSeen l c → Differ c call) → moves_on call ≡ true → IsSeen m call → (e.events ≡ false → Keep l m) →
        IsBelow call l.kept → open_by call l.kept ≡ l.kept → l.kept ≡ m.kept → CallsSince m (calls ++ own k (to_those has_events (λ (shape : Shape). call) (shapes_of system)))
    to_events l m calls so call run other moves is h below same kept =
        to_some has_events l m calls so call run other is (λ none. absurd (let wrong : true ≡ false = sym moves ∙ none in cc)) below (λ none. h (has_its ∙ none))
        (ap (λ (o : Open). if c.shape.has_event_mode then o else l.kept) same ∙ same_open c.shape.has_event_mode l.kept ∙ kept)

    -- from before an end that nothing is sent from there is nothing to say
    abbrev AddsAt : Place → List Call → Type 0
    AddsAt (Short w component end) calls = Unit {0}
    AddsAt p calls = Adds (part_at system bound plan p) calls (limit_after e plan p)

    adds : (p : Place) (calls : List Call) → IsLater p → AtPlace p calls → AddsAt p calls
    adds Made calls later so = named (limit_at e Made) setting_span calls _ so (omega arith) (omega arith) (binding_new system bound k binds)
    adds Configured calls later so =
        let enter = C.EnterInitialization plan.start plan.stop in
        to_all (limit_at e Configured) (limit_at e Entered) calls so enter refl (differ_by (limit_at e Configured) enter refl refl) refl (NamesNone refl refl tt) tt refl
    adds Entered calls later so = λ log walks. named (limit_at e Entered) (initial_span e.events) calls (mine log) so (omega arith) (omega arith) (uses.initial _ log walks k)
    adds (Found values) calls later so = named (limit_at e (Found values)) timing_span calls _ so (omega arith) (omega arith) (uses.timing k)
    adds (Timed timers) calls later so =
        let l = limit_at e (Timed timers) in
        to_all l (limit_after e plan (Timed timers)) calls so C.ExitInitialization refl (differ_by l C.ExitInitialization refl refl) refl (NamesNone refl refl tt) tt refl
    adds (Before s ticks) calls later so = λ log walks.
        named (limit_at e (Before s ticks)) (instant_span (s.n == 0) e.events) calls (mine log) so (omega arith) (instant_on (s.n == 0) e.events) (uses.instant ticks (s.n == 0) _ log walks k)
    adds (Read s) calls later so = λ log walks. let r = read_asked (s.n == 0) e.events in named (limit_at e (Read s)) (interval_span e.events) calls (mine log) so r.0 r.1 (uses.interval s.values _ log walks k)
    adds (Rearmed s) calls later so =
        let l = limit_at e (Rearmed s) in
        let m = limit_after e plan (Rearmed s) in
        to_events l m calls so C.Update refl (λ once. absurd (let wrong : true ≡ false = once in cc)) refl (NamesNone refl refl tt) (λ none. more_seen l m (λ kind is. is) refl (asked_seen e.events none)) tt refl refl
    adds (InstantDone s again asked) calls later so = subst (CallsSince (limit_at e (InstantDone s again asked))) (sym (append-nil calls)) so
    adds (Leaving w) calls later so =
        let l = limit_at e (Leaving w) in
        let m = limit_at e (Left w) in
        to_events l m calls so C.EnterStep refl (λ once. differ_by l C.EnterStep refl refl) refl (NamesNone refl refl tt) (λ none. more_seen l m point_leaving refl (omega arith)) tt refl refl
    adds (Left w) calls later so = λ log walks. let r = left_set e.events in named (limit_at e (Left w)) (step_span e.events) calls (mine log) so r.0 r.1 (uses.step w.s.values _ log walks k)
    adds (Departing w) calls later so =
        let l = limit_at e (Departing w) in
        let m = limit_at e (Saved w) in
        to_some (is_saved (early_count (shapes_of system))) l m calls so C.Save save_runs (λ once. differ_by l C.Save refl refl) (NamesNone refl refl tt) (λ stays. more_seen l m leaving_saved refl (omega arith)) tt (λ none. more_seen l m leaving_saved refl (omega arith)) refl
    adds (Saved w) calls later so = λ log o agrees.
        let some = anyhow w.s.t plan.step w.to later log o agrees calls w refl so in
        needed (record (limit saved_kinds (suc w.s.t) (step_span e.events).below) { kept = some.kept }) (calls ++ mine log) some.so
    adds (Short w i x) calls later some = tt
    adds (Agreed w m asked) calls later some =
        let l = record (limit_at e (Agreed w m asked)) { kept = some.kept } in
        let n = limit stepped_kinds m 1 in
        to_some (is_saved (early_count (shapes_of system))) l n calls some.so C.Free free_runs (λ once. absurd (let wrong : true ≡ false = once in cc)) (NamesNone refl refl tt) (λ stays. more_seen l n (λ kind is. is) refl (omega arith)) tt (λ none. more_seen l n (λ kind is. is) refl (omega arith)) (freed_kept e.saved some.kept some.kept_so)
    adds (Stepped s true) calls later so =
        let l = limit_at e (Stepped s true) in
        let m = limit_after e plan (Stepped s true) in
        subst (CallsSince m) (sym (append-nil calls)) (weaker l m calls so (more_seen l m stepped_at_point refl (stepped_seen e.events)) refl)
    adds (Stepped s false) calls later so =
        let l = limit_at e (Stepped s false) in
        let m = limit_after e plan (Stepped s false) in
        to_events l m calls so C.EnterEvent refl (λ once. differ_by l C.EnterEvent refl refl) refl (NamesNone refl refl tt) (λ none. more_seen l m stepped_at_point refl (stepped_seen e.events)) tt refl refl
    adds (Restored s) calls later so = subst (CallsSince (limit_at e (Restored s))) (sym (append-nil calls)) so

    added : (part : Part) (l : Limit) (calls : List Call) → Adds part calls l → (values : List (Option ℤ)) (log : List Sent) → Does system part values log → AddedBy part (calls ++ mine log) l
    added (Calls cs) l calls a values log does = subst (λ (x : List Call). CallsSince l (calls ++ x)) (sym (ap (own k) does.calls_are)) a
    added (Round cs) l calls a values log does = subst (λ (x : List Call). CallsSince l (calls ++ x)) (sym (ap (own k) does.calls_are)) a
    added (Walk rules before order) l calls a values log does = a log (Whole values log does)
    added (Agreement t step b) l calls a values log does = tt

    -- up to one of the calls
    stopped : (l : Limit) (calls : List Call) (cs : List ComponentCall) (bad : BadAnswer) (log : List Sent) → CallsSince l (calls ++ own k cs) → StopsAt (shapes_of system) cs bad log → AreNeeded (calls ++ mine log)
    stopped l calls cs bad log so stops =
        needed_prefix l calls (mine log) (own k stops.left) (subst (λ (x : List Call). CallsSince l (calls ++ x)) (ap (own k) stops.calls_are ∙ own_append k (component_calls log) stops.left) so)

    fallen : (part : Part) (l : Limit) (calls : List Call) → Adds part calls l → (bad : BadAnswer) (log : List Sent) → Falls system part bad log → AreNeeded (calls ++ mine log)
    fallen (Calls cs) l calls a bad log falls = stopped l calls cs bad log a falls
    fallen (Round cs) l calls a bad log falls = needed l (calls ++ mine log) (subst (λ (x : List Call). CallsSince l (calls ++ x)) (sym (ap (own k) falls.calls_are)) a)
    fallen (Walk rules before order) l calls a bad log (values, falls) = needed l (calls ++ mine log) (a log (Prefix bad values log falls))
    fallen (Agreement t step b) l calls a bad log agrees = a log (Fails bad) agrees

    none_stops : (bad : BadAnswer) (log : List Sent) → StopsAt (shapes_of system) [] bad log → ⊥
    none_stops bad log stops = by stops.prefix (stops.calls_are ∙ ap (λ (l : List Sent). component_calls l ++ stops.left) stops.log_is) where
      by : (prefix : List Sent) → [] ≡ component_calls (prefix ++ stops.last ∷ []) ++ stops.left → ⊥
      by [] is = absurd (cc)
      by (s ∷ prefix) is = absurd (cc)

    fallen_at : (p : Place) (calls : List Call) → AddsAt p calls → (bad : BadAnswer) (log : List Sent) → Falls system (part_at system bound plan p) bad log → AreNeeded (calls ++ mine log)
    fallen_at (Short w i x) calls a bad log falls = absurd (none_stops bad log falls)
    fallen_at p calls a bad log falls = fallen (part_at system bound plan p) (limit_after e plan p) calls a bad log falls

    leads_so : (calls : List Call) (p q : Place) (values : List (Option ℤ)) (log : List Sent) → LeadsTo system plan p values log q → IsLater p → AtPlace p calls → AddsAt p calls → Does system (part_at system bound plan p) values log → AtPlace q (calls ++ mine log)
    leads_so calls _ _ _ _ (Exits timers values log s ticks is begins) later at a does =
        subst (λ (z : Spot). CallsSince (limit_at e (Before z ticks)) (calls ++ mine log)) (sym is) (added (Calls (leaving system)) (limit_after e plan (Timed timers)) calls a values log does)
    leads_so calls _ _ _ _ (Again s values log ticks below begins) later at a does =
        subst (λ (b : Bool). CallsSince (limit point_kinds s.t (instant_span b e.events).from) (calls ++ mine log)) (sym (other (suc s.n) 0 (λ same. absurd (omega (arith, same))))) (added (Calls []) (limit_after e plan (InstantDone s true false)) calls a values log does)
    leads_so calls _ _ _ _ (Agreeing w values log m asked agrees is) later at a does =
        let ends = ends_from w.s.t plan.step (shapes_of system) w.to later log (Meets m) agrees in
        met w.s.t plan.step w.to later log (Meets m) agrees calls w refl at m ends.2 (begun w.s.t plan.step w.to later log (Meets m) agrees m ends.1 ends.2)
    leads_so calls _ _ _ _ (Stopping w values log i x agrees) later at a does = anyhow w.s.t plan.step w.to later log (Unfit i x) agrees calls w refl at
    leads_so calls p q values log leads later at a does = added (part_at system bound plan p) (limit_after e plan p) calls a values log does

    -- from the first place of a course on, after these calls
    module _ (extent : Extent) (base : List Call) (start : IsLater (first_of extent) × AtPlace (first_of extent) base) where
      abbrev up_to : List Sent → List Call
      up_to log = base ++ mine log

      up_to_on : (a b : List Sent) → up_to a ++ mine b ≡ up_to (a ++ b)
      up_to_on a b = append_assoc base (mine a) (mine b) ∙ ap (λ (l : List Call). base ++ l) (sym (own_log k a b))

      course_so : (p : Place) (log : List Sent) (is : List Instant) → CourseIn system bound plan extent p log is → IsLater p × AtPlace p (up_to log)
      course_so = along system bound plan extent (λ p log is. IsLater p × AtPlace p (up_to log)) (start.0, subst (AtPlace (first_of extent)) (sym (append-nil base)) start.1)
          (λ p q values prefix more is course so does leads within. (
            later_on system plan p q values more leads so.0,
            subst (AtPlace q) (up_to_on prefix more) (leads_so (up_to prefix) p q values more leads so.0 so.1 (adds p (up_to prefix) so.0 so.1) does),
          ))

      falls_needed : (p : Place) (prefix more : List Sent) (is : List Instant) (bad : BadAnswer) → CourseIn system bound plan extent p prefix is → Falls system (part_at system bound plan p) bad more → AreNeeded (up_to (prefix ++ more))
      falls_needed p prefix more is bad course falls =
          let so = course_so p prefix is course in
          subst AreNeeded (up_to_on prefix more) (fallen_at p (up_to prefix) (adds p (up_to prefix) so.0 so.1) bad more falls)

    needed_at : (p : Place) (calls : List Call) → AtPlace p calls → AreNeeded calls
    needed_at (Short w i x) calls some = needed _ calls some.so
    needed_at (Agreed w m asked) calls some = needed _ calls some.so
    needed_at p calls so = needed (limit_at e p) calls so

    -- from instances that were made
    begins : IsLater Made × AtPlace Made (own k (making plan.link system))
    begins = (tt, made_so plan.link)

    -- ---- where the state is kept

    module _ (s : Spot) (calls : List Call) (so : CallsSince (limit_at e (InstantDone s false false)) calls) where
      abbrev under : (Kind → Bool) → Open → Limit
      under kinds kept = record (limit kinds s.t (below_seen e.events)) { kept = kept }

      kept_so : CallsSince (under kept_kinds None) (((calls ++ own k (entering_step system)) ++ C.Save ∷ C.Serialize ∷ []) ++ C.Free ∷ [])
      kept_so =
          let entered = to_events (limit_at e (InstantDone s false false)) (under leaving_kinds None) calls so C.EnterStep refl (λ once. differ_by (limit_at e (InstantDone s false false)) C.EnterStep refl refl) refl (NamesNone refl refl tt)
          (λ none. more_seen (limit_at e (InstantDone s false false)) (under leaving_kinds None) point_leaving refl (omega arith)) tt refl refl in
          let there = calls ++ own k (entering_step system) in
          let saved = called (under leaving_kinds None) (under saved_kinds (Some None)) there entered C.Save refl (λ once. differ_by (under leaving_kinds None) C.Save refl refl) (NamesNone refl refl tt)
          (λ stays. more_seen (under leaving_kinds None) (under saved_kinds (Some None)) leaving_saved refl (omega arith)) tt refl in
          let packed = called (under saved_kinds (Some None)) (under kept_kinds (Some None)) (there ++ C.Save ∷ []) saved C.Serialize refl (λ once. differ_by (under saved_kinds (Some None)) C.Serialize refl refl) (NamesNone refl refl tt)
          (λ stays. more_seen (under saved_kinds (Some None)) (under kept_kinds (Some None)) saved_kept refl (omega arith)) tt refl in
          called (under kept_kinds (Some None)) (under kept_kinds None) (there ++ C.Save ∷ C.Serialize ∷ [])
          (subst (CallsSince (under kept_kinds (Some None))) (append_assoc there (C.Save ∷ []) (C.Serialize ∷ [])) packed) C.Free refl
          (λ once. absurd (let wrong : true ≡ false = once in cc)) (NamesNone refl refl tt) (λ stays. more_seen (under kept_kinds (Some None)) (under kept_kinds None) (λ kind is. is) refl (omega arith)) tt refl

      holding_so : CallsSince (under kept_kinds None) (calls ++ own k (holding system))
      holding_so =
          let there = own k (entering_step system) in
          let three = C.Save ∷ C.Serialize ∷ C.Free ∷ [] in
          let within = slice_get_within system.components k c of in
          subst (CallsSince (under kept_kinds None))
          (append_assoc (calls ++ there) (C.Save ∷ C.Serialize ∷ []) (C.Free ∷ []) ∙ append_assoc calls there three
          ∙ ap (λ (l : List Call). calls ++ l) (ap (λ (l : List Call). there ++ l) (sym (own_keeping system k within)) ∙ sym (own_append k (entering_step system) (keeping system)))) kept_so

    -- ---- where it is gone back to

    module _ (s : Spot) (sizes : List ℕ) (may : MayBack system s sizes) where
      abbrev on_way : (Kind → Bool) → Limit
      on_way kinds = limit kinds s.t (below_seen e.events)

      back_so : CallsSince (limit_at e (Restored s)) (own k (making plan.link system) ++ own k (restoring s.t plan.stop sizes))
      back_so =
          let made = own k (making plan.link system) in
          let inside : k < length sizes = (let many = may.each in let within = slice_get_within system.components k c of in omega (arith, many, within)) in
          let one = own_restoring s.t plan.stop sizes k inside in
          let take = C.Deserialize one.0 s.t plan.stop in
          let low = seen_some e.events in
          let taken = called (limit_at e Made) (on_way back_kinds) made (made_so plan.link) take refl (λ once. differ_by (limit_at e Made) take refl refl) (NamesNone refl refl tt)
          (λ stays. more_by (limit_at e Made) (on_way back_kinds) made_back (omega arith) low) tt refl in
          let back = called (on_way back_kinds) (on_way leaving_kinds) (made ++ take ∷ []) taken C.Restore refl (λ once. differ_by (on_way back_kinds) C.Restore refl refl) (NamesNone refl refl tt)
          (λ stays. more_seen (on_way back_kinds) (on_way leaving_kinds) back_leaving refl (omega arith)) tt refl in
          let freed = called (on_way leaving_kinds) (on_way leaving_kinds) (made ++ take ∷ C.Restore ∷ []) (subst (CallsSince (on_way leaving_kinds)) (append_assoc made (take ∷ []) (C.Restore ∷ [])) back) C.Free refl
          (λ once. absurd (let wrong : true ≡ false = once in cc)) (NamesNone refl refl tt) (λ stays. more_seen (on_way leaving_kinds) (on_way leaving_kinds) (λ kind is. is) refl (omega arith)) tt refl in
          subst (CallsSince (limit_at e (Restored s))) (append_assoc made (take ∷ C.Restore ∷ []) (C.Free ∷ []) ∙ ap (λ (l : List Call). made ++ l) (sym one.1)) freed

module _ (system : System) (sound : IsSound system) (k : ℕ) (c : Component) (of : slice_get system.components k ≡ Some c) where
  -- the calls from the first on
  abbrev all : List Sent → List Call
  all log = own k (component_calls log)

  after_made : (link : ℕ) (made log : List Sent) → IsAnswered (shapes_of system) (making link system) made → AreNeeded (own k (making link system) ++ all log) → AreNeeded (all (made ++ log))
  after_made link made log answered so = subst AreNeeded (ap (λ (cs : List Call). cs ++ all log) (sym (ap (own k) answered.calls_are)) ∙ sym (own_log k made log)) so

  whole_needed : (bad : Option BadAnswer) (log : List Sent) → Comes system bad log → AreNeeded (all log)
  whole_needed _ _ (Unmade link bad log stops) =
      let l = limit_at (e system sound k c of) Made in
      needed_prefix l [] (all log) (own k stops.left) (subst (CallsSince l) (ap (own k) stops.calls_are ∙ own_append k (component_calls log) stops.left) (made_so system sound k c of link))
  whole_needed _ _ (Stands bound plan p made log is binds counts answered course halts) =
      after_made plan.link made log answered
      (needed_at system sound k c of bound plan binds p _ (course_so system sound k c of bound plan binds Whole (own k (making plan.link system)) (begins system sound k c of bound plan binds) p log is course).1)
  whole_needed _ _ (Falling bound plan p bad made prefix more is binds counts answered course falls) =
      after_made plan.link made (prefix ++ more) answered
      (falls_needed system sound k c of bound plan binds Whole (own k (making plan.link system)) (begins system sound k c of bound plan binds) p prefix more is bad course falls)

  -- what is sent after a course is the calls of a list, or a prefix of them
  module _ (l : Limit) (calls : List Call) (cs : List ComponentCall) (so : CallsSince l (calls ++ own k cs)) (log : List Sent) where
    whole_list : IsAnswered (shapes_of system) cs log → AreNeeded (calls ++ all log)
    whole_list answered = needed l (calls ++ all log) (subst (λ (x : List Call). CallsSince l (calls ++ x)) (sym (ap (own k) answered.calls_are)) so)

    prefix_list : (bad : BadAnswer) → StopsAt (shapes_of system) cs bad log → AreNeeded (calls ++ all log)
    prefix_list bad stops = needed_prefix l calls (all log) (own k stops.left) (subst (λ (x : List Call). CallsSince l (calls ++ x)) (ap (own k) stops.calls_are ∙ own_append k (component_calls log) stops.left) so)

  module _ (bound : Bound) (plan : Plan) (binds : BindsParameters system bound) where
    abbrev made_calls : List Call
    made_calls = own k (making plan.link system)

    seen_so : (s : Spot) (prefix : List Sent) (is : List Instant) → Course system bound plan (InstantDone s false false) prefix is → CallsSince (limit_at (e system sound k c of) (InstantDone s false false)) (made_calls ++ all prefix)
    seen_so s prefix is course = (course_so system sound k c of bound plan binds Whole made_calls (begins system sound k c of bound plan binds) (InstantDone s false false) prefix is course).1

    -- after the calls of a point that is done
    after_prefix : (made prefix kept : List Sent) → IsAnswered (shapes_of system) (making plan.link system) made → AreNeeded ((made_calls ++ all prefix) ++ all kept) → AreNeeded (all (made ++ (prefix ++ kept)))
    after_prefix made prefix kept answered so =
        after_made plan.link made (prefix ++ kept) answered
        (subst AreNeeded (append_assoc made_calls (all prefix) (all kept) ∙ ap (λ (l : List Call). made_calls ++ l) (sym (own_log k prefix kept))) so)

    -- from the states on that were gone back to
    module _ (s : Spot) (sizes : List ℕ) (may : MayBack system s sizes) (made back : List Sent) (answered : IsAnswered (shapes_of system) (making plan.link system) made) (went : IsAnswered (shapes_of system) (restoring s.t plan.stop sizes) back) where
      abbrev back_calls : List Call
      back_calls = made_calls ++ own k (restoring s.t plan.stop sizes)

      resumes_so : IsLater (Restored s) × AtPlace system sound k c of (Restored s) back_calls
      resumes_so = (tt, back_so system sound k c of bound plan binds s sizes may)

      after_back : (log : List Sent) → AreNeeded (back_calls ++ all log) → AreNeeded (all (made ++ (back ++ log)))
      after_back log so =
          after_made plan.link made (back ++ log) answered
          (subst AreNeeded (append_assoc made_calls (own k (restoring s.t plan.stop sizes)) (all log)
          ∙ ap (λ (l : List Call). made_calls ++ l) (ap (λ (l : List Call). l ++ all log) (sym (ap (own k) went.calls_are)) ∙ sym (own_log k back log))) so)

  comes_needed : (bad : Option BadAnswer) (log : List Sent) → ComesAnyhow system bad log → AreNeeded (all log)
  comes_needed _ _ (Wholly bad log comes) = whole_needed bad log comes
  comes_needed _ _ (Holding bound plan s made prefix kept is binds counts answered course keeps) =
      let calls = own k (making plan.link system) ++ all prefix in
      let so = holding_so system sound k c of bound plan binds s calls (seen_so bound plan binds s prefix is course) in
      after_prefix bound plan binds made prefix kept answered (whole_list _ calls (holding system) so kept keeps)
  comes_needed _ _ (HoldingBadly bound plan s bad made prefix kept is binds counts answered course stops) =
      let calls = own k (making plan.link system) ++ all prefix in
      let so = holding_so system sound k c of bound plan binds s calls (seen_so bound plan binds s prefix is course) in
      after_prefix bound plan binds made prefix kept answered (prefix_list _ calls (holding system) so kept bad stops)
  comes_needed _ _ (BackBadly bound plan s sizes bad made back binds counts may answered stops) =
      after_made plan.link made back answered (prefix_list _ (own k (making plan.link system)) (restoring s.t plan.stop sizes) (back_so system sound k c of bound plan binds s sizes may) back bad stops)
  comes_needed _ _ (BackStands bound plan s sizes p made back log is binds counts may answered went course halts) =
      let start = resumes_so bound plan binds s sizes may made back answered went in
      after_back bound plan binds s sizes may made back answered went log
      (needed_at system sound k c of bound plan binds p _ (course_so system sound k c of bound plan binds (FromHeld s) _ start p log is course).1)
  comes_needed _ _ (BackFalling bound plan s sizes p bad made back prefix more is binds counts may answered went course falls) =
      let start = resumes_so bound plan binds s sizes may made back answered went in
      after_back bound plan binds s sizes may made back answered went (prefix ++ more)
      (falls_needed system sound k c of bound plan binds (FromHeld s) _ start p prefix more is bad course falls)

pub no_call_twice : NoCallTwice
no_call_twice system bad log sound comes k within =
    let c = some_at system.components k within in
    subst AreNeeded (sym (own_calls k log)) (comes_needed system sound k c.0 c.1 bad log comes)
