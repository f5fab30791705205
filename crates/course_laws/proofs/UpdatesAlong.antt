-- The Updates along the course of a run, and the timers that its Clocks have there.
use Rattle.std.proofs.Common.{◌≡◌, ℕ, suc, ◌<◌, ℤ, Bool, true, false, List, [], ◌++◌, Option, Some, refl, sym, ap, ◌∙◌, subst, append_assoc, append-nil, arith, length}
use Rattle.std.specs.Prelude.{All}
use Rattle.std.specs.List.{slice_get}
use Rattle.std.proofs.lemmas.List.Elements.{All-weaker}
use Rattle.fmi_calls.specs.declared.call.Call.{Call}
use Rattle.fmi_calls.specs.declared.call.Call.TheVariants as C
use Rattle.fmi_calls.specs.declared.call.Kind.{Kind}
use Rattle.fmi_calls.specs.declared.call.Kind.TheVariants as K
use Rattle.fmi_calls.specs.Kinds.{kind_of}
use Rattle.fmu_peer.specs.Mode.{instantiate_of}
use Rattle.system_model.specs.declared.bound.Bound.{Bound}
use Rattle.system_model.specs.declared.plan.Plan.{Plan}
use Rattle.system_model.specs.declared.system.Component.{Component}
use Rattle.system_model.specs.declared.system.System.{System}
use Rattle.system_model.specs.Bounds.{BindsParameters}
use Rattle.system_model.specs.Sound.{IsSound}
use Rattle.system_model.specs.Text.{Instant}
use Rattle.system_model.proofs.CallerLemmas.{all_at}
use Rattle.slot_calls.specs.declared.bad_answer.BadAnswer.{BadAnswer}
use Rattle.slot_calls.specs.Log.{ComponentCall, Sent, component_calls}
use Rattle.slot_calls.specs.Stage.{IsAnswered, everyone, shapes_of}
use Rattle.event_iteration.specs.Clocks.{AreTicks}
use Rattle.event_iteration.specs.Intervals.{is_some_armed}
use Rattle.event_iteration.specs.WalkCalls.{own, use_in}
use Rattle.calling_sequence.specs.Calls.{making, restoring}
use Rattle.calling_sequence.specs.Course.{Again, Agreed, Agreeing, Arrives, Before, Binds, Configured, Course, CourseIn, Departing, Entered, Enters, Exits, Extent, Finds, Found, FromHeld, Frees, GoesOn, LeadsTo, Leaves, Leaving, Left, Made, Place, Read, Reads, Rearmed, Rearming, Restored, Resumes, Saved, Saves, InstantDone, Sets, Short, Spot, Stepped, Stopping, Timed, Times, Updates, Whole, first_of, part_at}
use Rattle.calling_sequence.specs.Holding.{holding}
use Rattle.calling_sequence.specs.Parts.{Calls, Does, Falls}
use Rattle.calling_sequence.specs.Plans.{CountsBy}
use Rattle.calling_sequence.proofs.CourseInduction.{along}
use Rattle.course_laws.specs.Laws.{UpdatesAskedFor}
use Rattle.course_laws.specs.Runs.{AreArmable, BackBadly, BackFalling, BackStands, Comes, ComesAnyhow, Falling, Holding, HoldingBadly, Stands, Unmade, Wholly}
use Rattle.course_laws.proofs.ArmedClocks.{AreTaken, first_armable, instant_takes, rearmed_armable, rearmed_armed}
use Rattle.course_laws.proofs.Sorts.{IsOf, back_all, does_all, falls_all, holding_all, is_of_rounds, sort_at, sorts_are, those}
use Rattle.course_laws.proofs.UpdateMarks.{IsNoUpdate, IsQuiet, quiet_no}
use Rattle.course_laws.proofs.UpdateTables.{AreAskedFor, marks_in, talks_needed}
use Rattle.course_laws.proofs.UpdatesNeeded.{Asked, SomeArmed, Talks, Throughout, arm, asks, calm, leave, nothing_yet, quiet, still, still_asked, stopped, updated}

-- ---- the calls of parts

-- a call that names a port is none of those that begin or end a stay in Event Mode
use_quiet : (c : Call) → 0 < use_in c → IsQuiet c
use_quiet C.Update h = absurd (omega (arith, h))
use_quiet C.EnterStep h = absurd (omega (arith, h))
use_quiet C.ExitInitialization h = absurd (omega (arith, h))
use_quiet c h = tt

-- nor is a call of another kind
abbrev is_quiet : Kind → Bool
is_quiet K.Update = false
is_quiet K.EnterStep = false
is_quiet K.ExitInitialization = false
is_quiet kind = true

quiet_kind : (kind : Kind) (c : Call) → kind_of c ≡ kind → is_quiet kind ≡ true → IsQuiet c
quiet_kind kind C.Update is so = absurd (let wrong : false ≡ true = ap is_quiet is ∙ so in cc)
quiet_kind kind C.EnterStep is so = absurd (let wrong : false ≡ true = ap is_quiet is ∙ so in cc)
quiet_kind kind C.ExitInitialization is so = absurd (let wrong : false ≡ true = ap is_quiet is ∙ so in cc)
quiet_kind kind c is so = tt

-- nor is a call of an agreement
rounds_quiet : (c : Call) → is_of_rounds (kind_of c) ≡ true → IsQuiet c
rounds_quiet C.Update is = absurd (cc)
rounds_quiet C.EnterStep is = absurd (cc)
rounds_quiet C.ExitInitialization is = absurd (cc)
rounds_quiet c is = tt

abbrev is_other : Kind → Bool
is_other K.Update = false
is_other kind = true

no_update_kind : (kind : Kind) (c : Call) → kind_of c ≡ kind → is_other kind ≡ true → IsNoUpdate c
no_update_kind kind C.Update is other = absurd (let wrong : false ≡ true = ap is_other is ∙ other in cc)
no_update_kind kind c is other = tt

-- ---- along a course

module _ (system : System) (sound : IsSound system) (bound : Bound) (plan : Plan) (binds : BindsParameters system bound) (counts : CountsBy system plan) where
  -- of the calls that are sent from a place; Updates are told apart
  abbrev calls_from : Place → Call → Type 0
  calls_from (Timed timers) c = IsNoUpdate c
  calls_from (Leaving w) c = IsNoUpdate c
  calls_from (Rearmed s) c = Unit {0}
  calls_from p c = IsQuiet c

  calls_are : (p : Place) (c : Call) → IsOf (sort_at p) c → calls_from p c
  calls_are Configured c is = quiet_kind K.EnterInitialization c is refl
  calls_are (Timed timers) c is = no_update_kind K.ExitInitialization c is refl
  calls_are (Rearmed s) c is = tt
  calls_are (Leaving w) c is = no_update_kind K.EnterStep c is refl
  calls_are (Departing w) c is = quiet_kind K.Save c is refl
  calls_are (Saved w) c is = rounds_quiet c is
  calls_are (Agreed w m asked) c is = quiet_kind K.Free c is refl
  calls_are (Stepped s asked) c is = quiet_kind K.EnterEvent c is refl
  calls_are p c is = use_quiet c is

  -- ---- the timers of the Clocks

  abbrev TimersAt : Place → Type 0
  TimersAt (Timed timers) = AreArmable system timers
  TimersAt (Before s ticks) = AreArmable system s.timers × AreTicks system plan.start s.timers s.t s.n ticks
  TimersAt (Read s) = AreArmable system s.timers × AreTaken system s.t s.values s.timers
  TimersAt (Rearmed s) = AreArmable system s.timers
  TimersAt (InstantDone s again asked) = AreArmable system s.timers
  TimersAt (Leaving w) = AreArmable system w.s.timers
  TimersAt (Left w) = AreArmable system w.s.timers
  TimersAt (Departing w) = AreArmable system w.s.timers
  TimersAt (Saved w) = AreArmable system w.s.timers
  TimersAt (Short w i e) = AreArmable system w.s.timers
  TimersAt (Agreed w m asked) = AreArmable system w.s.timers
  TimersAt (Stepped s asked) = AreArmable system s.timers
  TimersAt (Restored s) = AreArmable system s.timers
  TimersAt p = Unit {0}

  -- a second has a count, where there is a component
  above : (i : ℕ) (c : Component) → slice_get system.components i ≡ Some c → 0 < plan.resolution
  above i c of =
      let mine = all_at (λ (x : Component). x.shape.resolution ≡ plan.resolution) system.components i c counts of in
      let its = all_at (λ (x : Component). x.shape.resolution ≡ sound.components.per_second) system.components i c sound.components.resolutions of in
      subst (λ (x : ℕ). 0 < x) (sym its ∙ mine) sound.components.above

  counting : (i : ℕ) (c : Component) → slice_get system.components i ≡ Some c → c.shape.resolution ≡ plan.resolution
  counting i c of = all_at (λ (x : Component). x.shape.resolution ≡ plan.resolution) system.components i c counts of

  timers_on : (p q : Place) (values : List (Option ℤ)) (more : List Sent) → Does system (part_at system bound plan p) values more → LeadsTo system plan p values more q → TimersAt p → TimersAt q
  timers_on _ _ _ _ does (Times found values log timers kept is) at = subst (AreArmable system) (sym is) (first_armable system plan.resolution plan.start log)
  timers_on _ _ _ _ does (Exits timers values log s ticks is begins) at = (subst (λ (z : Spot). AreArmable system z.timers) (sym is) at, begins.are_ticks)
  timers_on _ _ _ _ does (Reads s ticks values log places) at = (at.0, instant_takes system sound plan.start s.t s.n s.timers ticks s.values values log at.1 does)
  timers_on _ _ _ _ does (Rearming s values next log kept rearms) at = rearmed_armable system sound plan.resolution s.t s.values s.timers next log rearms at.0
  timers_on _ _ _ _ does (Again s values log ticks below begins) at = (at, begins.are_ticks)
  timers_on _ _ _ _ does (Arrives s values log ticks begins) at = (at, begins.are_ticks)
  timers_on _ _ _ _ does leads at = at

  -- ---- the Updates

  -- besides, at a place
  abbrev Besides : Place → List Sent → ℕ → Bool → Type 0
  Besides (Before s ticks) log m flag = flag ≡ true → Asked system log m
  Besides (Read s) log m flag = flag ≡ true → Asked system log m
  Besides (Rearmed s) log m flag = (flag ≡ true → Asked system log m) × (is_some_armed s.t s.timers ≡ true → SomeArmed system log)
  Besides (InstantDone s again asked) log m flag = (flag ≡ true) × (again ≡ true → asked ≡ false → Asked system log m)
  Besides (Leaving w) log m flag = flag ≡ true
  Besides p log m flag = flag ≡ false

  record IsAt (p : Place) (log : List Sent) : Type 0 where
    m : ℕ
    flag : Bool
    talks : Talks system log m flag
    besides : Besides p log m flag

  no_of_quiet : (log : List Sent) → Throughout system IsQuiet log → Throughout system IsNoUpdate log
  no_of_quiet log all i = All-weaker IsQuiet IsNoUpdate quiet_no (own i (component_calls log)) (all i)

  module _ (prefix : List Sent) where
    -- after calls that neither are Updates nor begin or end a stay
    onward : (p q : Place) (log : List Sent) → Throughout system IsQuiet log → (a : IsAt p prefix) → Besides q (prefix ++ log) a.m a.flag → IsAt q (prefix ++ log)
    onward p q log all a besides = record { m = a.m; flag = a.flag; talks = quiet system prefix log a.m a.flag a.talks all; besides = besides }

    -- what the last instant asks for stands
    asked_on : (p : Place) (log : List Sent) → Throughout system IsQuiet log → (a : IsAt p prefix) → Asked system prefix a.m → Asked system (prefix ++ log) a.m
    asked_on p log all a asked = still_asked system prefix log a.m a.flag a.talks.table (no_of_quiet log all) asked

    on : (p q : Place) (values : List (Option ℤ)) (more : List Sent) → TimersAt p → IsAt p prefix → Does system (part_at system bound plan p) values more → Throughout system (calls_from p) more → LeadsTo system plan p values more q → IsAt q (prefix ++ more)
    on _ _ _ _ timers a does all (Binds values log) = onward Made Configured log all a a.besides
    on _ _ _ _ timers a does all (Enters values log) = onward Configured Entered log all a a.besides
    on _ _ _ _ timers a does all (Finds values log) = onward Entered (Found values) log all a a.besides
    on _ _ _ _ timers a does all (Times found values log told kept is) = onward (Found found) (Timed told) log all a a.besides
    on _ _ _ _ timers a does all (Exits told values log s ticks is begins) =
        record { m = a.m; flag = false; talks = calm system prefix log a.m (subst (Talks system prefix a.m) a.besides a.talks) all; besides = λ wrong. absurd (cc) }
    on _ _ _ _ timers a does all (Reads s ticks values log places) = onward (Before s ticks) (Read (record s { values = values })) log all a (λ is. asked_on (Before s ticks) log all a (a.besides is))
    on _ _ _ _ timers a does all (Rearming s values next log kept rearms) = onward (Read s) (Rearmed (record s { timers = next })) log all a (
      λ is. asked_on (Read s) log all a (a.besides is),
      λ some. let x = rearmed_armed system sound plan.resolution s.t s.values s.timers next log rearms timers.0 above counting timers.1 some in arm system prefix log x.component x.event all x.arms,
    )
    on _ _ _ _ timers a does all (Updates s values log events again asked events_are again_is asked_is) = record {
      m = suc a.m;
      flag = true;
      talks = updated system prefix log a.m a.flag a.talks does.calls_are a.besides.0;
      besides = (refl, λ once ends. asks system prefix log a.m a.flag a.talks does.calls_are (is_some_armed s.t s.timers) (sym again_is ∙ once) a.besides.1 (sym asked_is ∙ ends));
    }
    on _ _ _ _ timers a does all (Again s values log ticks below begins) = onward (InstantDone s true false) (Before (record s { n = suc s.n }) ticks) log all a (λ is. asked_on (InstantDone s true false) log all a (a.besides.1 refl refl))
    on _ _ _ _ timers a does all (GoesOn w values log step) = onward (InstantDone w.s false false) (Leaving w) log all a a.besides.0
    on _ _ _ _ timers a does all (Leaves w values log) =
        record { m = a.m; flag = false; talks = leave system prefix log a.m (subst (Talks system prefix a.m) a.besides a.talks) all does.calls_are; besides = refl }
    on _ _ _ _ timers a does all (Sets w values log) = onward (Left w) (Departing w) log all a a.besides
    on _ _ _ _ timers a does all (Saves w values log) = onward (Departing w) (Saved w) log all a a.besides
    on _ _ _ _ timers a does all (Agreeing w values log m asked agrees is) = onward (Saved w) (Agreed w m asked) log all a a.besides
    on _ _ _ _ timers a does all (Stopping w values log i e agrees) = onward (Saved w) (Short w i e) log all a a.besides
    on _ _ _ _ timers a does all (Frees w m asked values log) = onward (Agreed w m asked) (Stepped (record w.s { t = m; n = 0 }) asked) log all a a.besides
    on _ _ _ _ timers a does all (Resumes w values log step) = onward (Restored w.s) (Left w) log all a a.besides
    on _ _ _ _ timers a does all (Arrives s values log ticks begins) =
        onward (Stepped s false) (Before (record s { n = 0 }) ticks) log all a (λ is. absurd (let wrong : true ≡ false = sym is ∙ a.besides in cc))

    abbrev AreAsked : List Sent → Type 0
    AreAsked log = AreAskedFor (length system.components) (marks_in log)

    fallen : (p : Place) (bad : BadAnswer) (log : List Sent) → IsAt p prefix → Falls system (part_at system bound plan p) bad log → Throughout system (calls_from p) log → AreAsked (prefix ++ log)
    fallen (Rearmed s) bad log a falls all = stopped system prefix log a.m a.flag a.talks bad falls a.besides.0
    fallen (Timed timers) bad log a falls all = (still system prefix log a.m a.flag a.talks.table all).needed
    fallen (Leaving w) bad log a falls all = (still system prefix log a.m a.flag a.talks.table all).needed
    fallen p bad log a falls all = (still system prefix log a.m a.flag a.talks.table (no_of_quiet log all)).needed

  module _ (made : List Sent) (answered : component_calls made ≡ making plan.link system) where
    -- after the calls that made the instances
    made_at : IsAt Made made
    made_at = record {
      m = 0;
      flag = false;
      talks = quiet system [] made 0 false (nothing_yet system) (λ i. subst (λ (l : List ComponentCall). All IsQuiet (own i l)) (sym answered) (those system IsQuiet everyone (instantiate_of plan.link) (λ s. tt) i));
      besides = refl;
    }

  -- from the first place of a course on, after this log
  module _ (extent : Extent) (before : List Sent) (timers : TimersAt (first_of extent)) (start : IsAt (first_of extent) before) where
    course_at : (p : Place) (log : List Sent) (is : List Instant) → CourseIn system bound plan extent p log is → TimersAt p × IsAt p (before ++ log)
    course_at = along system bound plan extent (λ p log is. TimersAt p × IsAt p (before ++ log)) (timers, subst (IsAt (first_of extent)) (sym (append-nil before)) start)
        (λ p q values prefix more is course at does leads within. (
          timers_on p q values more does leads at.0,
          subst (IsAt q) (append_assoc before prefix more) (on (before ++ prefix) p q values more at.0 at.1 does (λ i. All-weaker (IsOf (sort_at p)) (calls_from p) (calls_are p) (own i (component_calls more)) (does_all system (IsOf (sort_at p)) (part_at system bound plan p) (sorts_are system sound bound plan binds p) values more does i)) leads),
        ))

    falls_asked : (p : Place) (bad : BadAnswer) (prefix more : List Sent) (is : List Instant) → CourseIn system bound plan extent p prefix is → Falls system (part_at system bound plan p) bad more → AreAskedFor (length system.components) (marks_in (before ++ (prefix ++ more)))
    falls_asked p bad prefix more is course falls = subst (λ (l : List Sent). AreAskedFor (length system.components) (marks_in l)) (append_assoc before prefix more)
        (fallen (before ++ prefix) p bad more (course_at p prefix is course).1 falls (λ i. All-weaker (IsOf (sort_at p)) (calls_from p) (calls_are p) (own i (component_calls more)) (falls_all system (IsOf (sort_at p)) (part_at system bound plan p) (sorts_are system sound bound plan binds p) bad more falls i)))

  -- where states were gone back to no Update stands yet
  back_at : (s : Spot) (sizes : List ℕ) (made back : List Sent) → component_calls made ≡ making plan.link system → IsAnswered (shapes_of system) (restoring s.t plan.stop sizes) back → IsAt (Restored s) (made ++ back)
  unfolding made_at
  back_at s sizes made back answered went =
      let start = made_at made answered in
      record {
        m = 0;
        flag = false;
        talks = quiet system made back 0 false start.talks (does_all system IsQuiet (Calls (restoring s.t plan.stop sizes)) (back_all IsQuiet s.t plan.stop sizes (λ size. tt) tt tt) [] back went);
        besides = refl;
      }

  -- and none is sent where the state of each is kept
  keeps_asked : (s : Spot) (made prefix kept : List Sent) (is : List Instant) → component_calls made ≡ making plan.link system → Course system bound plan (InstantDone s false false) prefix is → Throughout system IsNoUpdate kept → AreAskedFor (length system.components) (marks_in (made ++ (prefix ++ kept)))
  keeps_asked s made prefix kept is answered course none =
      let a = (course_at Whole made tt (made_at made answered) (InstantDone s false false) prefix is course).1 in
      subst (λ (l : List Sent). AreAskedFor (length system.components) (marks_in l)) (append_assoc made prefix kept) (still system (made ++ prefix) kept a.m a.flag a.talks.table none).needed

-- calls that make no Updates
holds_none : (system : System) (i : ℕ) → All IsNoUpdate (own i (holding system))
holds_none system = holding_all system IsNoUpdate tt tt tt tt

whole_asked : (system : System) (bad : Option BadAnswer) (log : List Sent) → IsSound system → Comes system bad log → AreAskedFor (length system.components) (marks_in log)
whole_asked system _ _ sound (Unmade link bad log stops) =
    let q = falls_all system IsQuiet (Calls (making link system)) (those system IsQuiet everyone (instantiate_of link) (λ s. tt)) bad log stops in
    (quiet system [] log 0 false (nothing_yet system) q).table.needed
whole_asked system _ _ sound (Stands bound plan p made log is binds counts answered course halts) =
    (course_at system sound bound plan binds counts Whole made tt (made_at system sound bound plan binds counts made answered.calls_are) p log is course).1.talks.table.needed
whole_asked system _ _ sound (Falling bound plan p bad made prefix more is binds counts answered course falls) =
    falls_asked system sound bound plan binds counts Whole made tt (made_at system sound bound plan binds counts made answered.calls_are) p bad prefix more is course falls

comes_asked : (system : System) (bad : Option BadAnswer) (log : List Sent) → IsSound system → ComesAnyhow system bad log → AreAskedFor (length system.components) (marks_in log)
unfolding made_at
comes_asked system _ _ sound (Wholly bad log comes) = whole_asked system bad log sound comes
comes_asked system _ _ sound (Holding bound plan s made prefix kept is binds counts answered course keeps) =
    keeps_asked system sound bound plan binds counts s made prefix kept is answered.calls_are course (does_all system IsNoUpdate (Calls (holding system)) (holds_none system) [] kept keeps)
comes_asked system _ _ sound (HoldingBadly bound plan s bad made prefix kept is binds counts answered course stops) =
    keeps_asked system sound bound plan binds counts s made prefix kept is answered.calls_are course (falls_all system IsNoUpdate (Calls (holding system)) (holds_none system) bad kept stops)
comes_asked system _ _ sound (BackBadly bound plan s sizes bad made back binds counts may answered stops) =
    let a = made_at system sound bound plan binds counts made answered.calls_are in
    (quiet system made back 0 false a.talks (falls_all system IsQuiet (Calls (restoring s.t plan.stop sizes)) (back_all IsQuiet s.t plan.stop sizes (λ size. tt) tt tt) bad back stops)).table.needed
comes_asked system _ _ sound (BackStands bound plan s sizes p made back log is binds counts may answered went course halts) =
    subst (λ (l : List Sent). AreAskedFor (length system.components) (marks_in l)) (append_assoc made back log)
    (course_at system sound bound plan binds counts (FromHeld s) (made ++ back) may.armable (back_at system sound bound plan binds counts s sizes made back answered.calls_are went) p log is course).1.talks.table.needed
comes_asked system _ _ sound (BackFalling bound plan s sizes p bad made back prefix more is binds counts may answered went course falls) =
    subst (λ (l : List Sent). AreAskedFor (length system.components) (marks_in l)) (append_assoc made back (prefix ++ more))
    (falls_asked system sound bound plan binds counts (FromHeld s) (made ++ back) may.armable (back_at system sound bound plan binds counts s sizes made back answered.calls_are went) p bad prefix more is course falls)

pub updates_asked_for : UpdatesAskedFor
updates_asked_for system bad log talks sound comes are = talks_needed (length system.components) log talks are (comes_asked system bad log sound comes)
