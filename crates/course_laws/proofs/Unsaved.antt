-- Where at most one FMU might return early: no call of a run saves a state, goes back to one or frees one.
use Rattle.std.proofs.Common.{◌≡◌, ℕ, ◌+◌, ◌<◌, ◌≤◌, ℤ, Bool, true, false, List, [], ◌∷◌, ◌++◌, inl, inr, nat_lt, Option, Result, refl, sym, ap, ◌∙◌, subst, arith, get_or}
use Rattle.std.specs.Prelude.{All, if◌then◌else◌}
use Rattle.std.proofs.lemmas.Bool.Decides.{nat_tests}
use Rattle.std.proofs.lemmas.List.Elements.{All-append, All-head, All-nil, All-tail, All-weaker}
use Rattle.value_types.specs.declared.shape.Shape.{Shape}
use Rattle.fmi_calls.specs.declared.call.Call.{Call}
use Rattle.fmi_calls.specs.declared.call.Call.TheVariants as C
use Rattle.fmi_calls.specs.declared.call.Kind.{Kind}
use Rattle.fmi_calls.specs.declared.call.Kind.TheVariants as K
use Rattle.fmi_calls.specs.declared.call.Reply.{Reply}
use Rattle.fmu_peer.specs.declared.peer.Exchange.{Exchange}
use Rattle.fmu_peer.specs.declared.peer.PeerFault.{PeerFault}
use Rattle.fmu_peer.specs.Mode.{instantiate_of}
use Rattle.fmu_peer.specs.Talk.{calls_in}
use Rattle.system_model.specs.declared.bound.Bound.{Bound}
use Rattle.system_model.specs.declared.plan.Plan.{Plan}
use Rattle.system_model.specs.declared.system.System.{System}
use Rattle.system_model.specs.Bounds.{BindsParameters}
use Rattle.system_model.specs.EarlyReturn.{early_count}
use Rattle.system_model.specs.Sound.{IsSound}
use Rattle.system_model.specs.Text.{Instant}
use Rattle.slot_calls.specs.declared.bad_answer.BadAnswer.{BadAnswer}
use Rattle.slot_calls.specs.Log.{ComponentCall, Sent, component_calls}
use Rattle.slot_calls.specs.SavedStates.{saved_after, saved_by}
use Rattle.slot_calls.specs.Stage.{IsAnswered, everyone, shapes_of, to_those_from}
use Rattle.step_agreement.specs.Agreement.{Fails, Outcome}
use Rattle.step_agreement.specs.Saving.{is_saved}
use Rattle.step_agreement.proofs.CallerLemmas.{IsOfRound}
use Rattle.event_iteration.specs.WalkCalls.{own}
use Rattle.calling_sequence.specs.Calls.{making}
use Rattle.calling_sequence.specs.Course.{Agreed, CourseIn, Departing, Extent, Place, Saved, Whole, first_of, part_at}
use Rattle.calling_sequence.specs.Parts.{Agreement, AllAgree, Calls, Does, Falls, Part, Round, Walk}
use Rattle.calling_sequence.proofs.CourseInduction.{along}
use Rattle.course_laws.specs.Laws.{IsStateless, NothingSaved}
use Rattle.course_laws.specs.Runs.{Comes, Falling, Stands, Unmade}
use Rattle.course_laws.proofs.CallsOnce.{IsLater, later_on}
use Rattle.course_laws.proofs.LastSteps.{back_from}
use Rattle.course_laws.proofs.OwnCalls.{own_calls, own_log}
use Rattle.course_laws.proofs.Sorts.{IsOf, IsThroughout, Only, Rounds, Sort, Uses, agreement_so, does_all, falls_all, own_sent, sort_at, sorts_are, those}
use Rattle.course_laws.proofs.UpdatesNeeded.{Throughout}

-- ---- what they leave

-- such a call leaves no state where none is saved
unsaved_call : (shape : Shape) (c : Call) → IsStateless c → (r : Result Reply PeerFault) → saved_by shape c r false ≡ false
unsaved_call shape C.Save is r = absurd is
unsaved_call shape C.Free is r = absurd is
unsaved_call shape (C.Deserialize size point stop) is r = absurd is
unsaved_call shape c is r = refl

pub never_held : (shape : Shape) (es : List Exchange) → All IsStateless (calls_in es) → saved_after shape false es ≡ false
never_held shape [] all = refl
never_held shape (e ∷ es) all =
    ap (λ (b : Bool). saved_after shape b es) (unsaved_call shape e.call (All-head IsStateless e.call (calls_in es) all) e.result) ∙ never_held shape es (All-tail IsStateless e.call (calls_in es) all)

-- ---- by the sort of a call

abbrev is_stateless : Sort → Bool
is_stateless (Only K.Save) = false
is_stateless (Only K.Restore) = false
is_stateless (Only K.Free) = false
is_stateless (Only K.Serialize) = false
is_stateless (Only K.Deserialize) = false
is_stateless Rounds = false
is_stateless sort = true

stateless_of : (sort : Sort) → is_stateless sort ≡ true → (c : Call) → IsOf sort c → IsStateless c
stateless_of Uses plain C.Save is = absurd (omega (arith, is))
stateless_of Uses plain C.Restore is = absurd (omega (arith, is))
stateless_of Uses plain C.Free is = absurd (omega (arith, is))
stateless_of Uses plain C.Serialize is = absurd (omega (arith, is))
stateless_of Uses plain (C.Deserialize size point stop) is = absurd (omega (arith, is))
stateless_of (Only kind) plain C.Save is = absurd (let wrong : false ≡ true = ap (λ (k : Kind). is_stateless (Only k)) is ∙ plain in cc)
stateless_of (Only kind) plain C.Restore is = absurd (let wrong : false ≡ true = ap (λ (k : Kind). is_stateless (Only k)) is ∙ plain in cc)
stateless_of (Only kind) plain C.Free is = absurd (let wrong : false ≡ true = ap (λ (k : Kind). is_stateless (Only k)) is ∙ plain in cc)
stateless_of (Only kind) plain C.Serialize is = absurd (let wrong : false ≡ true = ap (λ (k : Kind). is_stateless (Only k)) is ∙ plain in cc)
stateless_of (Only kind) plain (C.Deserialize size point stop) is = absurd (let wrong : false ≡ true = ap (λ (k : Kind). is_stateless (Only k)) is ∙ plain in cc)
stateless_of Rounds plain c is = absurd (cc)
stateless_of sort plain c is = tt

-- one of an agreement in which nobody is put back
round_stateless : (t : ℕ) (c : Call) → IsOfRound t c → (c ≡ C.Restore → ⊥) → IsStateless c
round_stateless t c (inl is) never = absurd (never is)
round_stateless t c (inr (size, is)) never = subst IsStateless (sym is) tt

to_none : (test : Shape → Bool) (call : Shape → Call) → ((s : Shape) → test s ≡ false) → (k : ℕ) (xs : List Shape) → to_those_from k test call xs ≡ []
to_none test call none k [] = refl
to_none test call none k (x ∷ xs) = ap (λ (b : Bool). if b then record { component = k; call = call x } ∷ to_those_from (k + 1) test call xs else to_those_from (k + 1) test call xs) (none x) ∙ to_none test call none (k + 1) xs

not_more : (n : ℕ) → n ≤ 1 → nat_lt 1 n ≡ false
not_more n few = grind (arith, nat_tests)

module _ (system : System) where
  stateless_on : (prefix more : List Sent) → Throughout system IsStateless prefix → Throughout system IsStateless more → Throughout system IsStateless (prefix ++ more)
  stateless_on prefix more f m i = subst (All IsStateless) (sym (own_log i prefix more)) (All-append IsStateless (own i (component_calls prefix)) (own i (component_calls more)) (f i) (m i))

  made_stateless : (link i : ℕ) → All IsStateless (own i (making link system))
  made_stateless link = those system IsStateless everyone (instantiate_of link) (λ s. tt)

  made_all : (link : ℕ) (made : List Sent) → IsAnswered (shapes_of system) (making link system) made → Throughout system IsStateless made
  made_all link made answered i = subst (λ (cs : List ComponentCall). All IsStateless (own i cs)) (sym answered.calls_are) (made_stateless link i)

  weaken : (P Q : Call → Type 0) → ((c : Call) → P c → Q c) → (part : Part) → IsThroughout system P part → IsThroughout system Q part
  weaken P Q h (Calls calls) all = λ i. All-weaker P Q h (own i calls) (all i)
  weaken P Q h (Round calls) all = λ i. All-weaker P Q h (own i calls) (all i)
  weaken P Q h (Walk rules before order) all = λ log walks i. All-weaker P Q h (own i (component_calls log)) (all log walks i)
  weaken P Q h (Agreement t step b) all = λ call is. h call (all call is)

  -- ---- along a course

  module _ (sound : IsSound system) (few : early_count (shapes_of system) ≤ 1) where
    none_to : (call : Call) (i : ℕ) → All IsStateless (own i (to_those_from 0 (is_saved (early_count (shapes_of system))) (λ (z : Shape). call) (shapes_of system)))
    none_to call i =
        subst (λ (l : List ComponentCall). All IsStateless (own i l))
        (sym (to_none (is_saved (early_count (shapes_of system))) (λ (z : Shape). call) (λ s. not_more (early_count (shapes_of system)) few) 0 (shapes_of system))) (All-nil IsStateless)

    agreement_stateless : (t step b : ℕ) → t < b → (log : List Sent) (o : Outcome) → AllAgree system t step b log o → Throughout system IsStateless log
    agreement_stateless t step b later log o agrees =
        let rounds = agreement_so system (IsOfRound t) t step b (λ c is. is) log o agrees in
        let backs = back_from t step (shapes_of system) b later log o agrees in
        own_sent system IsStateless log (λ k d w. round_stateless t (get_or log k d).exchange.call (rounds k d w) (λ back. absurd (let two = backs k d w back in omega (arith, two, few))))

    module _ (bound : Bound) (plan : Plan) (binds : BindsParameters system bound) where
      -- an agreement is looked at as a whole
      abbrev AtPart : Place → Type 0
      AtPart (Saved w) = Unit {0}
      AtPart p = IsThroughout system IsStateless (part_at system bound plan p)

      at_part : (p : Place) → AtPart p
      at_part (Departing w) = none_to C.Save
      at_part (Saved w) = tt
      at_part (Agreed w m asked) = none_to C.Free
      at_part p = weaken (IsOf (sort_at p)) IsStateless (stateless_of (sort_at p) refl) (part_at system bound plan p) (sorts_are system sound bound plan binds p)

      does_stateless : (p : Place) → IsLater p → (values : List (Option ℤ)) (more : List Sent) → Does system (part_at system bound plan p) values more → Throughout system IsStateless more
      does_stateless (Saved w) later values more (o, is, agrees) = agreement_stateless w.s.t plan.step w.to later more o agrees
      does_stateless p later values more does = does_all system IsStateless (part_at system bound plan p) (at_part p) values more does

      falls_stateless : (p : Place) → IsLater p → (bad : BadAnswer) (more : List Sent) → Falls system (part_at system bound plan p) bad more → Throughout system IsStateless more
      falls_stateless (Saved w) later bad more agrees = agreement_stateless w.s.t plan.step w.to later more (Fails bad) agrees
      falls_stateless p later bad more falls = falls_all system IsStateless (part_at system bound plan p) (at_part p) bad more falls

      pub course_stateless : (extent : Extent) (p : Place) (log : List Sent) (is : List Instant) → IsLater (first_of extent) → CourseIn system bound plan extent p log is → IsLater p × Throughout system IsStateless log
      course_stateless extent p log is later course = along system bound plan extent (λ p log is. IsLater p × Throughout system IsStateless log) (later, λ i. All-nil IsStateless)
          (λ p q values prefix more is course at does leads within. (
            later_on system plan p q values more leads at.0,
            stateless_on prefix more at.1 (does_stateless p at.0 values more does),
          )) p log is course

      pub fallen_stateless : (extent : Extent) (p : Place) (bad : BadAnswer) (prefix more : List Sent) (is : List Instant) → IsLater (first_of extent) → CourseIn system bound plan extent p prefix is → Falls system (part_at system bound plan p) bad more → Throughout system IsStateless (prefix ++ more)
      fallen_stateless extent p bad prefix more is later course falls =
          let at = course_stateless extent p prefix is later course in
          stateless_on prefix more at.1 (falls_stateless p at.0 bad more falls)

      pub made_stateless_on : (p : Place) (made log : List Sent) (is : List Instant) → IsAnswered (shapes_of system) (making plan.link system) made → CourseIn system bound plan Whole p log is → Throughout system IsStateless (made ++ log)
      made_stateless_on p made log is answered course = stateless_on made log (made_all plan.link made answered) (course_stateless Whole p log is tt course).1

    pub comes_stateless : (bad : Option BadAnswer) (log : List Sent) → Comes system bad log → Throughout system IsStateless log
    comes_stateless _ _ (Unmade link bad log stops) = falls_all system IsStateless (Calls (making link system)) (made_stateless link) bad log stops
    comes_stateless _ _ (Stands bound plan p made log is binds counts answered course halts) = made_stateless_on bound plan binds p made log is answered course
    comes_stateless _ _ (Falling bound plan p bad made prefix more is binds counts answered course falls) =
        stateless_on made (prefix ++ more) (made_all plan.link made answered) (fallen_stateless bound plan binds Whole p bad prefix more is tt course falls)

pub nothing_saved : NothingSaved
nothing_saved system bad log sound comes few k = subst (All IsStateless) (sym (own_calls k log)) (comes_stateless system sound few bad log comes k)
