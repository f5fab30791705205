-- The answers of a run: all are good, or up to the first that isn't.
use Rattle.std.proofs.Common.{ℕ, suc, ◌+◌, ◌<◌, ◌≤◌, ◌≡◌, ◌∙◌, ℤ, Bool, true, false, List, [], ◌∷◌, ◌++◌, Option, Some, refl, arith, length, subst, ap, append_assoc}
use Rattle.std.specs.Prelude.{All}
use Rattle.std.specs.List.{slice_get}
use Rattle.std.proofs.lemmas.List.{length-map}
use Rattle.std.proofs.lemmas.List.Elements.{All-append, All-cons, All-nil}
use Rattle.std.proofs.lemmas.Option.{slice_get_within}
use Rattle.std.proofs.lemmas.Slice.Zip.{AllZip-long}
use Rattle.value_types.specs.declared.shape.Shape.{Shape}
use Rattle.fmi_calls.specs.declared.call.Call.{Call}
use Rattle.fmi_calls.specs.declared.call.Call.TheVariants as C
use Rattle.fmu_peer.specs.Mode.{instantiate_of}
use Rattle.system_model.specs.declared.bound.Bound.{Bound}
use Rattle.system_model.specs.declared.bound.BoundValue.{BoundValue}
use Rattle.system_model.specs.declared.plan.Plan.{Plan}
use Rattle.system_model.specs.declared.system.Component.{Component}
use Rattle.system_model.specs.declared.system.Port.{Port}
use Rattle.system_model.specs.declared.system.Role.{Role}
use Rattle.system_model.specs.declared.system.Role.TheVariants.{TimeClock}
use Rattle.system_model.specs.declared.system.System.{System}
use Rattle.system_model.specs.declared.system.Timing.TheVariants.{Answered, Changing}
use Rattle.system_model.specs.Bounds.{AreParameterValues, BindsParameters}
use Rattle.system_model.specs.Sound.{IsSound}
use Rattle.system_model.specs.Text.{Instant}
use Rattle.system_model.proofs.CallerLemmas.{place_of}
use Rattle.run_model.specs.Initial.{set_call}
use Rattle.system_model.specs.EarlyReturn.{early_count}
use Rattle.run_model.specs.Stepping.{asked_first}
use Rattle.slot_calls.specs.declared.bad_answer.BadAnswer.{BadAnswer}
use Rattle.slot_calls.specs.Log.{Sent}
use Rattle.slot_calls.specs.Stage.{IsGoodOf, everyone, has_events, shapes_of, to_those}
use Rattle.slot_calls.proofs.CallerLemmas.{those_within}
use Rattle.step_agreement.specs.Agreement.{Fails, Meets, Outcome, Stand, Unfit, to_some}
use Rattle.step_agreement.specs.Saving.{IsGoodOutcome}
use Rattle.step_agreement.proofs.CallerLemmas.{HasAlong, IsAlong, along_agreement}
use Rattle.rollback.specs.StepsBy.{all_at}
use Rattle.event_iteration.specs.Intervals.{timing_calls_in, timing_calls_of}
use Rattle.event_iteration.proofs.ByLog.{last_alone_is_bad}
use Rattle.calling_sequence.specs.Calls.{binding_from, entering_step, keeping, making, restoring, sets_of}
use Rattle.calling_sequence.specs.Course.{Agreed, Before, Configured, CourseIn, Departing, Entered, Extent, Found, FromHeld, Left, Leaving, Made, Place, Read, Rearmed, Restored, Saved, InstantDone, Short, Spot, Stepped, Timed, Whole, part_at}
use Rattle.calling_sequence.specs.Holding.{holding}
use Rattle.calling_sequence.proofs.Sizes.{shapes_all}
use Rattle.calling_sequence.specs.Parts.{Agreement, AllAgree, Calls, Does, EndsBadly, Falls, Part, Round, Walk}
use Rattle.calling_sequence.proofs.CourseInduction.{along}
use Rattle.course_laws.specs.Laws.{AnswersAre, FirstBadAnswer}
use Rattle.course_laws.specs.Runs.{BackBadly, BackFalling, BackStands, Comes, Falling, Holding, HoldingBadly, MayBack, Stands, Unmade, Wholly}
use Rattle.course_laws.proofs.Triples.{keeping_to, restoring_to}
use Rattle.course_laws.proofs.Goods.{AreInOrder, IsToOne, fails_badly, first_of_parts, good_part, in_order_from, more_badly, stops_badly, to_ones, walks_badly}

-- ---- calls to components that are there

module _ (n : ℕ) where
  sets_to_one : (i : ℕ) (values : List BoundValue) → i < n → All (IsToOne n) (sets_of i values)
  sets_to_one i [] w = All-nil (IsToOne n)
  sets_to_one i (b ∷ values) w = All-cons (IsToOne n) (record { component = i; call = set_call b }) (sets_of i values) w (sets_to_one i values w)

  binding_to_one : (i : ℕ) (lists : List (List BoundValue)) → i + length lists ≤ n → All (IsToOne n) (binding_from i lists)
  binding_to_one i [] w = All-nil (IsToOne n)
  binding_to_one i (values ∷ lists) w = All-append (IsToOne n) (sets_of i values) (binding_from (i + 1) lists) (sets_to_one i values (omega (arith, w))) (binding_to_one (i + 1) lists (omega (arith, w)))

  timing_to_one : (role : Role) (port : Port) → port.component.0 < n → All (IsToOne n) (timing_calls_of role port)
  timing_to_one (TimeClock Changing) port w = All-cons (IsToOne n) (record { component = port.component.0; call = C.GetShift port.reference }) [] w (All-nil (IsToOne n))
  timing_to_one (TimeClock Answered) port w =
      All-cons (IsToOne n) (record { component = port.component.0; call = C.GetInterval port.reference }) (record { component = port.component.0; call = C.GetShift port.reference } ∷ []) w
      (All-cons (IsToOne n) (record { component = port.component.0; call = C.GetShift port.reference }) [] w (All-nil (IsToOne n)))
  timing_to_one role port w = All-nil (IsToOne n)

  timings_to_one : (ports : List Port) → ((j : ℕ) (port : Port) → slice_get ports j ≡ Some port → port.component.0 < n) → All (IsToOne n) (timing_calls_in ports)
  timings_to_one [] inside = All-nil (IsToOne n)
  timings_to_one (port ∷ ports) inside =
      All-append (IsToOne n) (timing_calls_of port.role port) (timing_calls_in ports) (timing_to_one port.role port (inside 0 port refl)) (timings_to_one ports (λ j x at. inside (suc j) x at))

module _ (system : System) where
  abbrev ss : List Shape
  ss = shapes_of system

  shapes_len : length ss ≡ length system.components
  shapes_len = length-map system.components (λ (c : Component). c.shape)

  abbrev Good : List Sent → Type 0
  Good log = All (IsGoodOf ss) log

  -- what is sent is to components that are there, in a round one after the other
  abbrev IsPlaced : Part → Type 0
  IsPlaced (Calls calls) = All (IsToOne (length ss)) calls
  IsPlaced (Round calls) = All (IsToOne (length ss)) calls × AreInOrder 0 calls
  IsPlaced (Walk rules before order) = Unit {0}
  IsPlaced (Agreement t step b) = Unit {0}

  those : (test : Shape → Bool) (call : Shape → Call) → All (IsToOne (length ss)) (to_those test call ss)
  those test call = those_within test call (length ss) 0 ss (omega arith)

  -- an agreement, whose rounds are sent whole
  along_steps : (t : ℕ) → IsAlong t ss Good (λ (bad : BadAnswer) (log : List Sent). EndsBadly ss bad log)
  along_steps t = record {
    none = All-nil (IsGoodOf ss);
    joined = λ prefix back f b. All-append (IsGoodOf ss) prefix back f b;
    after = λ bad prefix back f b. more_badly ss bad prefix back f b;
    well = λ test call stands log is same a. a.good;
    badly = λ test call stands bad log is same f.
        let len = length-map stands (λ (s : Stand). s.shape) in
        let all = ap length same in
        fails_badly ss bad [] log (All-nil (IsGoodOf ss)) (to_some test call stands) (to_ones test (λ x. call) (length ss) 0 stands (omega (arith, len, all))) (in_order_from test (λ x. call) 0 0 stands (omega arith)) f;
  }

  pub agreement_has : (t step b : ℕ) (log : List Sent) (o : Outcome) → AllAgree system t step b log o → HasAlong Good (λ (bad : BadAnswer) (l : List Sent). EndsBadly ss bad l) o log
  agreement_has t step b log o agrees = along_agreement t step (asked_first (early_count ss)) ss Good (λ (bad : BadAnswer) (l : List Sent). EndsBadly ss bad l) (along_steps t) b (all_at t ss) log o (shapes_all t ss) agrees

  agreement_good : (log : List Sent) (o : Outcome) → IsGoodOutcome o → HasAlong Good (λ (bad : BadAnswer) (l : List Sent). EndsBadly ss bad l) o log → Good log
  agreement_good log (Meets m) is h = h
  agreement_good log (Unfit i e) is h = h
  agreement_good log (Fails bad) is h = absurd is

  pub part_good : (part : Part) (values : List (Option ℤ)) (log : List Sent) → Does system part values log → Good log
  part_good (Calls calls) values log does = does.good
  part_good (Round calls) values log does = does.good
  part_good (Walk rules before order) values log does = (last_alone_is_bad system rules before order values log).good does
  part_good (Agreement t step b) values log (o, is, agrees) = agreement_good log o is (agreement_has t step b log o agrees)

  part_badly : (part : Part) (bad : BadAnswer) (prefix more : List Sent) → IsPlaced part → Good prefix → Falls system part bad more → EndsBadly ss bad (prefix ++ more)
  part_badly (Calls calls) bad prefix more placed good falls = stops_badly ss bad prefix more good calls placed falls
  part_badly (Round calls) bad prefix more placed good falls = fails_badly ss bad prefix more good calls placed.0 placed.1 falls
  part_badly (Walk rules before order) bad prefix more placed good (values, falls) = walks_badly ss bad prefix more good ((last_alone_is_bad system rules before order values more).bad bad falls)
  part_badly (Agreement t step b) bad prefix more placed good agrees = more_badly ss bad prefix more good (agreement_has t step b more (Fails bad) agrees)

  module _ (bound : Bound) (plan : Plan) (sound : IsSound system) (binds : BindsParameters system bound) where
    part_placed : (p : Place) → IsPlaced (part_at system bound plan p)
    part_placed Made = binding_to_one (length ss) 0 bound.components
        (let a = AllZip-long (λ (c : Component) (values : List BoundValue). AreParameterValues c.shape values) system.components bound.components binds in let b = shapes_len in omega (arith, a, b))
    part_placed Configured = those _ _
    part_placed Entered = tt
    part_placed (Found values) = timings_to_one (length ss) system.ports (λ j port at.
        let placed = place_of system sound j port at in
        let w = slice_get_within system.components port.component.0 placed.component placed.is.of in
        let e = shapes_len in
        omega (arith, w, e))
    part_placed (Timed timers) = those _ _
    part_placed (Before s ticks) = tt
    part_placed (Read s) = tt
    part_placed (Rearmed s) = those _ _
    part_placed (InstantDone s again asked) = All-nil (IsToOne (length ss))
    part_placed (Leaving w) = those _ _
    part_placed (Left w) = tt
    part_placed (Departing w) = (those _ _, in_order_from _ _ 0 0 ss (omega arith))
    part_placed (Saved w) = tt
    part_placed (Short w i e) = All-nil (IsToOne (length ss))
    part_placed (Agreed w m asked) = (those _ _, in_order_from _ _ 0 0 ss (omega arith))
    part_placed (Stepped s true) = All-nil (IsToOne (length ss))
    part_placed (Stepped s false) = those _ _
    part_placed (Restored s) = All-nil (IsToOne (length ss))

    pub course_good : (extent : Extent) (p : Place) (log : List Sent) (is : List Instant) → CourseIn system bound plan extent p log is → Good log
    course_good extent = along system bound plan extent (λ p log is. Good log) (All-nil (IsGoodOf ss))
        (λ p q values prefix more is course good does leads within. All-append (IsGoodOf ss) prefix more good (part_good (part_at system bound plan p) values more does))

whole_answers : (system : System) (bad : Option BadAnswer) (log : List Sent) → IsSound system → Comes system bad log → AnswersAre (shapes_of system) bad log
whole_answers system _ _ sound (Unmade link bad log stops) =
    first_of_parts (shapes_of system) bad log (stops_badly (shapes_of system) bad [] log (All-nil (IsGoodOf (shapes_of system))) (making link system) (those system everyone (instantiate_of link)) stops)
whole_answers system _ _ sound (Stands bound plan p made log is binds counts answered course halts) =
    good_part (shapes_of system) (made ++ log) (All-append (IsGoodOf (shapes_of system)) made log answered.good (course_good system bound plan sound binds Whole p log is course))
whole_answers system _ _ sound (Falling bound plan p bad made prefix more is binds counts answered course falls) =
    first_of_parts (shapes_of system) bad (made ++ (prefix ++ more)) (subst (EndsBadly (shapes_of system) bad) (append_assoc made prefix more)
    (part_badly system (part_at system bound plan p) bad (made ++ prefix) more (part_placed system bound plan sound binds p)
    (All-append (IsGoodOf (shapes_of system)) made prefix answered.good (course_good system bound plan sound binds Whole p prefix is course)) falls))

-- where a state is kept, and where one is gone back to
pub holding_placed : (system : System) → All (IsToOne (length (shapes_of system))) (holding system)
holding_placed system = All-append (IsToOne (length (shapes_of system))) (entering_step system) (keeping system) (those system has_events (λ shape. C.EnterStep)) (keeping_to system)

back_placed : (system : System) (s : Spot) (stop : ℕ) (sizes : List ℕ) → MayBack system s sizes → All (IsToOne (length (shapes_of system))) (restoring s.t stop sizes)
back_placed system s stop sizes may = restoring_to (length (shapes_of system)) s.t stop sizes (let many = may.each in let len = shapes_len system in omega (arith, many, len))

pub first_bad_answer : FirstBadAnswer
first_bad_answer system _ _ sound (Wholly bad log comes) = whole_answers system bad log sound comes
first_bad_answer system _ _ sound (Holding bound plan s made prefix kept is binds counts answered course keeps) =
    let G = IsGoodOf (shapes_of system) in
    good_part (shapes_of system) (made ++ (prefix ++ kept)) (All-append G made (prefix ++ kept) answered.good (All-append G prefix kept (course_good system bound plan sound binds Whole (InstantDone s false false) prefix is course) keeps.good))
first_bad_answer system _ _ sound (HoldingBadly bound plan s bad made prefix kept is binds counts answered course stops) =
    first_of_parts (shapes_of system) bad (made ++ (prefix ++ kept)) (subst (EndsBadly (shapes_of system) bad) (append_assoc made prefix kept)
    (stops_badly (shapes_of system) bad (made ++ prefix) kept
    (All-append (IsGoodOf (shapes_of system)) made prefix answered.good (course_good system bound plan sound binds Whole (InstantDone s false false) prefix is course)) (holding system) (holding_placed system) stops))
first_bad_answer system _ _ sound (BackBadly bound plan s sizes bad made back binds counts may answered stops) =
    first_of_parts (shapes_of system) bad (made ++ back) (stops_badly (shapes_of system) bad made back answered.good (restoring s.t plan.stop sizes) (back_placed system s plan.stop sizes may) stops)
first_bad_answer system _ _ sound (BackStands bound plan s sizes p made back log is binds counts may answered went course halts) =
    let G = IsGoodOf (shapes_of system) in
    good_part (shapes_of system) (made ++ (back ++ log)) (All-append G made (back ++ log) answered.good (All-append G back log went.good (course_good system bound plan sound binds (FromHeld s) p log is course)))
first_bad_answer system _ _ sound (BackFalling bound plan s sizes p bad made back prefix more is binds counts may answered went course falls) =
    let G = IsGoodOf (shapes_of system) in
    let before = All-append G made back answered.good went.good in
    let all = All-append G (made ++ back) prefix before (course_good system bound plan sound binds (FromHeld s) p prefix is course) in
    first_of_parts (shapes_of system) bad (made ++ (back ++ (prefix ++ more)))
    (subst (EndsBadly (shapes_of system) bad) (append_assoc (made ++ back) prefix more ∙ append_assoc made back (prefix ++ more))
    (part_badly system (part_at system bound plan p) bad ((made ++ back) ++ prefix) more (part_placed system bound plan sound binds p) all falls))
