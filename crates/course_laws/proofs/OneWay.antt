-- Each instance is led through Initialization Mode, or its state is taken in.
use Rattle.std.proofs.Common.{◌≡◌, ℕ, Bool, true, false, List, [], ◌++◌, Option, ℤ, refl, sym, ap, ◌∙◌, subst, arith}
use Rattle.std.specs.Prelude.{All}
use Rattle.std.proofs.lemmas.List.Elements.{All-append, All-nil, All-weaker}
use Rattle.fmi_calls.specs.declared.call.Call.{Call}
use Rattle.fmi_calls.specs.declared.call.Call.TheVariants as C
use Rattle.fmi_calls.specs.declared.call.Kind.{Kind}
use Rattle.fmi_calls.specs.declared.call.Kind.TheVariants as K
use Rattle.fmi_calls.specs.Kinds.{kind_of}
use Rattle.fmu_peer.specs.Mode.{instantiate_of}
use Rattle.fmu_peer.specs.Talk.{calls_in}
use Rattle.system_model.specs.declared.bound.Bound.{Bound}
use Rattle.system_model.specs.declared.plan.Plan.{Plan}
use Rattle.system_model.specs.declared.system.System.{System}
use Rattle.system_model.specs.Bounds.{BindsParameters}
use Rattle.system_model.specs.Sound.{IsSound}
use Rattle.system_model.specs.Text.{Instant}
use Rattle.slot_calls.specs.declared.bad_answer.BadAnswer.{BadAnswer}
use Rattle.slot_calls.specs.Log.{Sent, component_calls, part}
use Rattle.slot_calls.specs.Stage.{IsAnswered, everyone, shapes_of}
use Rattle.event_iteration.specs.WalkCalls.{own}
use Rattle.calling_sequence.specs.Calls.{making, restoring}
use Rattle.calling_sequence.specs.Course.{Binds, Configured, CourseIn, Entered, Enters, Exits, Extent, Finds, Found, FromHeld, LeadsTo, Made, Place, Timed, Times, Whole, first_of, part_at}
use Rattle.calling_sequence.specs.Holding.{holding}
use Rattle.calling_sequence.specs.Parts.{Calls, Falls}
use Rattle.calling_sequence.proofs.CourseInduction.{along}
use Rattle.course_laws.specs.Laws.{GoesOneWay, GoesWith}
use Rattle.course_laws.specs.Runs.{BackBadly, BackFalling, BackStands, Comes, Falling, Holding, HoldingBadly, Stands, Unmade, Wholly}
use Rattle.course_laws.proofs.OwnCalls.{own_calls, own_log}
use Rattle.course_laws.proofs.Sorts.{IsOf, Only, Rounds, Sort, Uses, back_all, does_all, falls_all, holding_all, is_of_rounds, sort_at, sorts_are, those}
use Rattle.course_laws.proofs.UpdatesNeeded.{Throughout}

-- ---- by the sort of a call

abbrev fits : Bool → Sort → Bool
fits false (Only K.Deserialize) = false
fits true (Only K.EnterInitialization) = false
fits resumed sort = true

rounds_fit : (resumed : Bool) (c : Call) → is_of_rounds (kind_of c) ≡ true → GoesWith resumed c
rounds_fit resumed (C.EnterInitialization start stop) is = absurd (cc)
rounds_fit resumed (C.Deserialize size point stop) is = absurd (cc)
rounds_fit resumed c is = tt

goes_of : (resumed : Bool) (sort : Sort) → fits resumed sort ≡ true → (c : Call) → IsOf sort c → GoesWith resumed c
goes_of resumed Uses so (C.EnterInitialization start stop) is = absurd (omega (arith, is))
goes_of resumed Uses so (C.Deserialize size point stop) is = absurd (omega (arith, is))
goes_of false (Only kind) so (C.EnterInitialization start stop) is = refl
goes_of true (Only kind) so (C.EnterInitialization start stop) is = absurd (let wrong : false ≡ true = ap (λ (k : Kind). fits true (Only k)) is ∙ so in cc)
goes_of false (Only kind) so (C.Deserialize size point stop) is = absurd (let wrong : false ≡ true = ap (λ (k : Kind). fits false (Only k)) is ∙ so in cc)
goes_of true (Only kind) so (C.Deserialize size point stop) is = refl
goes_of resumed Rounds so c is = rounds_fit resumed c is
goes_of resumed Uses so c is = tt
goes_of resumed (Only kind) so c is = tt

-- ---- along a course

-- after Initialization Mode
abbrev IsAfter : Place → Type 0
IsAfter Made = ⊥
IsAfter Configured = ⊥
IsAfter Entered = ⊥
IsAfter (Found values) = ⊥
IsAfter (Timed timers) = ⊥
IsAfter p = Unit {0}

after_on : (system : System) (plan : Plan) (p q : Place) (values : List (Option ℤ)) (log : List Sent) → LeadsTo system plan p values log q → IsAfter p → IsAfter q
after_on system plan _ _ _ _ (Binds values log) is = absurd is
after_on system plan _ _ _ _ (Enters values log) is = absurd is
after_on system plan _ _ _ _ (Finds values log) is = absurd is
after_on system plan _ _ _ _ (Times found values log timers kept told) is = absurd is
after_on system plan _ _ _ _ (Exits timers values log s ticks first begins) is = absurd is
after_on system plan _ _ _ _ leads is = tt

whole_fits : (p : Place) → fits false (sort_at p) ≡ true
whole_fits Configured = refl
whole_fits p = refl

after_fits : (p : Place) → IsAfter p → fits true (sort_at p) ≡ true
after_fits Made is = absurd is
after_fits Configured is = absurd is
after_fits p is = refl

module _ (system : System) (resumed : Bool) where
  goes_on : (prefix more : List Sent) → Throughout system (GoesWith resumed) prefix → Throughout system (GoesWith resumed) more → Throughout system (GoesWith resumed) (prefix ++ more)
  goes_on prefix more f m i = subst (All (GoesWith resumed)) (sym (own_log i prefix more)) (All-append (GoesWith resumed) (own i (component_calls prefix)) (own i (component_calls more)) (f i) (m i))

  made_goes : (link i : ℕ) → All (GoesWith resumed) (own i (making link system))
  made_goes link = those system (GoesWith resumed) everyone (instantiate_of link) (λ s. tt)

  made_all : (link : ℕ) (made : List Sent) → IsAnswered (shapes_of system) (making link system) made → Throughout system (GoesWith resumed) made
  made_all link made answered = does_all system (GoesWith resumed) (Calls (making link system)) (made_goes link) [] made answered

  module _ (sound : IsSound system) (bound : Bound) (plan : Plan) (binds : BindsParameters system bound) (extent : Extent) (Is : Place → Type 0) (begins : Is (first_of extent)) (on : (p q : Place) (values : List (Option ℤ)) (log : List Sent) → LeadsTo system plan p values log q → Is p → Is q) (fit : (p : Place) → Is p → fits resumed (sort_at p) ≡ true) where
    goes_sort : (p : Place) → Is p → (log : List Sent) → Throughout system (IsOf (sort_at p)) log → Throughout system (GoesWith resumed) log
    goes_sort p is log all i = All-weaker (IsOf (sort_at p)) (GoesWith resumed) (goes_of resumed (sort_at p) (fit p is)) (own i (component_calls log)) (all i)

    course_goes : (p : Place) (log : List Sent) (is : List Instant) → CourseIn system bound plan extent p log is → Is p × Throughout system (GoesWith resumed) log
    course_goes = along system bound plan extent (λ p log is. Is p × Throughout system (GoesWith resumed) log) (begins, λ i. All-nil (GoesWith resumed))
        (λ p q values prefix more is course at does leads within. (
          on p q values more leads at.0,
          goes_on prefix more at.1 (goes_sort p at.0 more (does_all system (IsOf (sort_at p)) (part_at system bound plan p) (sorts_are system sound bound plan binds p) values more does)),
        ))

    fallen_goes : (p : Place) (bad : BadAnswer) (prefix more : List Sent) (is : List Instant) → CourseIn system bound plan extent p prefix is → Falls system (part_at system bound plan p) bad more → Throughout system (GoesWith resumed) (prefix ++ more)
    fallen_goes p bad prefix more is course falls =
        let at = course_goes p prefix is course in
        goes_on prefix more at.1 (goes_sort p at.0 more (falls_all system (IsOf (sort_at p)) (part_at system bound plan p) (sorts_are system sound bound plan binds p) bad more falls))

-- ---- each run

abbrev Anywhere : Place → Type 0
Anywhere p = Unit {0}

module _ (system : System) (sound : IsSound system) where
  whole_course : (bound : Bound) (plan : Plan) (binds : BindsParameters system bound) (p : Place) (log : List Sent) (is : List Instant) → CourseIn system bound plan Whole p log is → Throughout system (GoesWith false) log
  whole_course bound plan binds p log is course = (course_goes system false sound bound plan binds Whole Anywhere tt (λ p q values l leads at. tt) (λ p at. whole_fits p) p log is course).1

  whole_goes : (bad : Option BadAnswer) (log : List Sent) → Comes system bad log → Throughout system (GoesWith false) log
  whole_goes _ _ (Unmade link bad log stops) = falls_all system (GoesWith false) (Calls (making link system)) (made_goes system false link) bad log stops
  whole_goes _ _ (Stands bound plan p made log is binds counts answered course halts) = goes_on system false made log (made_all system false plan.link made answered) (whole_course bound plan binds p log is course)
  whole_goes _ _ (Falling bound plan p bad made prefix more is binds counts answered course falls) =
      goes_on system false made (prefix ++ more) (made_all system false plan.link made answered)
      (fallen_goes system false sound bound plan binds Whole Anywhere tt (λ p q values l leads at. tt) (λ p at. whole_fits p) p bad prefix more is course falls)

  by_parts : (resumed : Bool) (log : List Sent) → Throughout system (GoesWith resumed) log → (k : ℕ) → All (GoesWith resumed) (calls_in (part k log))
  by_parts resumed log all k = subst (All (GoesWith resumed)) (sym (own_calls k log)) (all k)

  holds_goes : (i : ℕ) → All (GoesWith false) (own i (holding system))
  holds_goes = holding_all system (GoesWith false) tt tt tt tt

  backs_goes : (point stop : ℕ) (sizes : List ℕ) (i : ℕ) → All (GoesWith true) (own i (restoring point stop sizes))
  backs_goes point stop sizes = back_all (GoesWith true) point stop sizes (λ size. refl) tt tt

pub goes_one_way : GoesOneWay
goes_one_way system _ _ sound (Wholly bad log comes) = (false, by_parts system sound false log (whole_goes system sound bad log comes))
goes_one_way system _ _ sound (Holding bound plan s made prefix kept is binds counts answered course keeps) = (
  false,
  by_parts system sound false (made ++ (prefix ++ kept))
      (goes_on system false made (prefix ++ kept) (made_all system false plan.link made answered)
      (goes_on system false prefix kept (whole_course system sound bound plan binds _ prefix is course) (does_all system (GoesWith false) (Calls (holding system)) (holds_goes system sound) [] kept keeps))),
)
goes_one_way system _ _ sound (HoldingBadly bound plan s bad made prefix kept is binds counts answered course stops) = (
  false,
  by_parts system sound false (made ++ (prefix ++ kept))
      (goes_on system false made (prefix ++ kept) (made_all system false plan.link made answered)
      (goes_on system false prefix kept (whole_course system sound bound plan binds _ prefix is course) (falls_all system (GoesWith false) (Calls (holding system)) (holds_goes system sound) bad kept stops))),
)
goes_one_way system _ _ sound (BackBadly bound plan s sizes bad made back binds counts may answered stops) = (
  true,
  by_parts system sound true (made ++ back)
      (goes_on system true made back (made_all system true plan.link made answered) (falls_all system (GoesWith true) (Calls (restoring s.t plan.stop sizes)) (backs_goes system sound s.t plan.stop sizes) bad back stops)),
)
goes_one_way system _ _ sound (BackStands bound plan s sizes p made back log is binds counts may answered went course halts) = (
  true,
  by_parts system sound true (made ++ (back ++ log))
      (goes_on system true made (back ++ log) (made_all system true plan.link made answered)
      (goes_on system true back log (does_all system (GoesWith true) (Calls (restoring s.t plan.stop sizes)) (backs_goes system sound s.t plan.stop sizes) [] back went)
      (course_goes system true sound bound plan binds (FromHeld s) IsAfter tt (after_on system plan) after_fits p log is course).1)),
)
goes_one_way system _ _ sound (BackFalling bound plan s sizes p bad made back prefix more is binds counts may answered went course falls) = (
  true,
  by_parts system sound true (made ++ (back ++ (prefix ++ more)))
      (goes_on system true made (back ++ (prefix ++ more)) (made_all system true plan.link made answered)
      (goes_on system true back (prefix ++ more) (does_all system (GoesWith true) (Calls (restoring s.t plan.stop sizes)) (backs_goes system sound s.t plan.stop sizes) [] back went)
      (fallen_goes system true sound bound plan binds (FromHeld s) IsAfter tt (after_on system plan) after_fits p bad prefix more is course falls))),
)
