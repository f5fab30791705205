-- Of which sort the calls are that are sent from a place, and what holds of each call of a part.
use Rattle.std.proofs.Common.{◌≡◌, ℕ, ◌<◌, ◌==◌, ℤ, Bool, true, false, List, [], ◌∷◌, inl, inr, Option, refl, sym, ap, ◌∙◌, subst, arith}
use Rattle.std.specs.Prelude.{All, if◌then◌else◌}
use Rattle.std.proofs.lemmas.List.Elements.{All-append, All-cons, All-head, All-map, All-nil, All-tail, All-weaker}
use Rattle.value_types.specs.declared.shape.Shape.{Shape}
use Rattle.fmi_calls.specs.declared.call.Call.{Call}
use Rattle.fmi_calls.specs.declared.call.Call.TheVariants as C
use Rattle.fmi_calls.specs.declared.call.Kind.{Kind}
use Rattle.fmi_calls.specs.declared.call.Kind.TheVariants as K
use Rattle.fmi_calls.specs.Kinds.{kind_of}
use Rattle.system_model.specs.declared.bound.Bound.{Bound}
use Rattle.system_model.specs.declared.plan.Plan.{Plan}
use Rattle.system_model.specs.declared.system.System.{System}
use Rattle.system_model.specs.Bounds.{BindsParameters}
use Rattle.system_model.specs.Sound.{IsSound}
use Rattle.system_model.specs.EarlyReturn.{early_count}
use Rattle.run_model.specs.Stepping.{asked_first}
use Rattle.slot_calls.specs.declared.bad_answer.BadAnswer.{BadAnswer}
use Rattle.slot_calls.specs.Log.{ComponentCall, Sent, component_call, component_calls}
use Rattle.slot_calls.specs.Stage.{has_events, shapes_of, to_those}
use Rattle.slot_calls.proofs.CallerLemmas.{those_calls}
use Rattle.step_agreement.specs.Agreement.{Fails, Meets, Outcome, Unfit}
use Rattle.step_agreement.proofs.CallerLemmas.{HasAlong, IsAlong, IsOfRound, along_agreement, round_calls}
use Rattle.rollback.specs.StepsBy.{all_at}
use Rattle.event_iteration.specs.WalkCalls.{AreNew, IsUse, Prefix, Span, UsesAre, WalkUses, WalksBy, Whole, has_events_at, initial_span, instant_span, interval_span, own, step_span, use_in}
use Rattle.event_iteration.specs.Turns.{Rules}
use Rattle.event_iteration.proofs.ByLog.{each_call_once, own_append}
use Rattle.calling_sequence.specs.Calls.{entering_step, keeping, restoring}
use Rattle.calling_sequence.specs.Holding.{holding}
use Rattle.calling_sequence.specs.Course.{Agreed, Before, Configured, Departing, Entered, Found, Left, Leaving, Made, Place, Read, Rearmed, Restored, Saved, InstantDone, Short, Stepped, Timed, part_at}
use Rattle.calling_sequence.proofs.Sizes.{shapes_all}
use Rattle.calling_sequence.specs.Parts.{Agreement, AllAgree, Calls, Does, Falls, Part, Round, Walk}
use Rattle.course_laws.proofs.BoundSets.{binding_new, setting_span}
use Rattle.course_laws.proofs.Triples.{keeping_all, restoring_all}
use Rattle.course_laws.proofs.Once.{prefix_all}
use Rattle.course_laws.proofs.UpdatesNeeded.{Throughout}

-- calls that name ports, those of one kind, or those of an agreement
pub data Sort : Type 0 where
  Uses : Sort
  Only : (kind : Kind) → Sort
  Rounds : Sort

abbrev pub is_of_rounds : Kind → Bool
is_of_rounds K.DoStep = true
is_of_rounds K.Restore = true
is_of_rounds kind = false

abbrev pub IsOf : Sort → Call → Type 0
IsOf Uses c = 0 < use_in c
IsOf (Only kind) c = kind_of c ≡ kind
IsOf Rounds c = is_of_rounds (kind_of c) ≡ true

-- what is sent from a place; from the place after an instant nothing is
abbrev pub sort_at : Place → Sort
sort_at Configured = Only K.EnterInitialization
sort_at (Timed timers) = Only K.ExitInitialization
sort_at (Rearmed s) = Only K.Update
sort_at (Leaving w) = Only K.EnterStep
sort_at (Departing w) = Only K.Save
sort_at (Saved w) = Rounds
sort_at (Agreed w m asked) = Only K.Free
sort_at (Stepped s asked) = Only K.EnterEvent
sort_at p = Uses

-- what holds of each call holds of those to one
own_all : (P : Call → Type 0) (i : ℕ) (calls : List ComponentCall) → All (λ (a : ComponentCall). P a.call) calls → All P (own i calls)
own_all P i [] all = All-nil P
own_all P i (a ∷ calls) all = by (a.component == i) (own_all P i calls (All-tail (λ (x : ComponentCall). P x.call) a calls all)) where
  by : (b : Bool) → All P (own i calls) → All P (if b then a.call ∷ own i calls else own i calls)
  by true rest = All-cons P a.call (own i calls) (All-head (λ (x : ComponentCall). P x.call) a calls all) rest
  by false rest = rest

-- this holds of each call of a part
abbrev pub IsThroughout : System → (Call → Type 0) → Part → Type 0
IsThroughout system P (Calls calls) = (i : ℕ) → All P (own i calls)
IsThroughout system P (Round calls) = (i : ℕ) → All P (own i calls)
IsThroughout system P (Walk rules before order) = (log : List Sent) → WalksBy system rules before order log → Throughout system P log
IsThroughout system P (Agreement t step b) = (call : Call) → IsOfRound t call → P call

-- where states are gone back to
pub back_all : (P : Call → Type 0) (point stop : ℕ) (sizes : List ℕ) → ((size : ℕ) → P (C.Deserialize size point stop)) → P C.Restore → P C.Free → (i : ℕ) → All P (own i (restoring point stop sizes))
back_all P point stop sizes takes restore free i = own_all P i (restoring point stop sizes) (restoring_all P point stop takes restore free sizes)

module _ (system : System) (P : Call → Type 0) where
  pub those : (test : Shape → Bool) (call : Shape → Call) → ((s : Shape) → P (call s)) → (i : ℕ) → All P (own i (to_those test call (shapes_of system)))
  those test call h i = own_all P i (to_those test call (shapes_of system)) (those_calls test call P (λ s passes. h s) 0 (shapes_of system))

  -- where the state of each is kept
  pub holding_all : P C.EnterStep → P C.Save → P C.Serialize → P C.Free → (i : ℕ) → All P (own i (holding system))
  holding_all enter save serialize free i =
      subst (All P) (sym (own_append i (entering_step system) (keeping system)))
      (All-append P (own i (entering_step system)) (own i (keeping system)) (those has_events (λ (shape : Shape). C.EnterStep) (λ s. enter) i) (own_all P i (keeping system) (keeping_all P save serialize free system)))

  -- the calls of an agreement
  pub own_sent : (log : List Sent) → All (λ (s : Sent). P s.exchange.call) log → (i : ℕ) → All P (own i (component_calls log))
  own_sent log all i = own_all P i (component_calls log) (All-map (λ (a : ComponentCall). P a.call) component_call log all)

  abbrev AllSo : List Sent → Type 0
  AllSo log = All (λ (s : Sent). P s.exchange.call) log

  along_rounds : (t : ℕ) → ((call : Call) → IsOfRound t call → P call) → IsAlong t (shapes_of system) AllSo (λ (bad : BadAnswer). AllSo)
  along_rounds t all = record {
    none = All-nil (λ (s : Sent). P s.exchange.call);
    joined = λ prefix back f b. All-append (λ (s : Sent). P s.exchange.call) prefix back f b;
    after = λ bad prefix back f b. All-append (λ (s : Sent). P s.exchange.call) prefix back f b;
    well = λ test call stands l is same a. round_calls P test call (all call is) stands l a.calls_are;
    badly = λ test call stands bad l is same f. round_calls P test call (all call is) stands l f.calls_are;
  }

  all_along : (log : List Sent) (o : Outcome) → HasAlong AllSo (λ (bad : BadAnswer). AllSo) o log → AllSo log
  all_along log (Meets m) h = h
  all_along log (Unfit i e) h = h
  all_along log (Fails bad) h = h

  pub agreement_so : (t step b : ℕ) → ((call : Call) → IsOfRound t call → P call) → (log : List Sent) (o : Outcome) → AllAgree system t step b log o → All (λ (s : Sent). P s.exchange.call) log
  agreement_so t step b all log o agrees =
      all_along log o (along_agreement t step (asked_first (early_count (shapes_of system))) (shapes_of system) AllSo (λ (bad : BadAnswer). AllSo) (along_rounds t all) b (all_at t (shapes_of system)) log o (shapes_all t (shapes_of system)) agrees)

  agreement_all : (t step b : ℕ) → ((call : Call) → IsOfRound t call → P call) → (log : List Sent) (o : Outcome) → AllAgree system t step b log o → Throughout system P log
  agreement_all t step b all log o agrees = own_sent log (agreement_so t step b all log o agrees)

  pub does_all : (part : Part) → IsThroughout system P part → (values : List (Option ℤ)) (log : List Sent) → Does system part values log → Throughout system P log
  does_all (Calls calls) all values log does = λ i. subst (λ (l : List ComponentCall). All P (own i l)) (sym does.calls_are) (all i)
  does_all (Round calls) all values log does = λ i. subst (λ (l : List ComponentCall). All P (own i l)) (sym does.calls_are) (all i)
  does_all (Walk rules before order) all values log does = all log (Whole values log does)
  does_all (Agreement t step b) all values log (o, is, agrees) = agreement_all t step b all log o agrees

  pub falls_all : (part : Part) → IsThroughout system P part → (bad : BadAnswer) (log : List Sent) → Falls system part bad log → Throughout system P log
  falls_all (Calls calls) all bad log falls = λ i. prefix_all P (own i (component_calls log)) (own i falls.left) (subst (All P) (ap (own i) falls.calls_are ∙ own_append i (component_calls log) falls.left) (all i))
  falls_all (Round calls) all bad log falls = λ i. subst (λ (l : List ComponentCall). All P (own i l)) (sym falls.calls_are) (all i)
  falls_all (Walk rules before order) all bad log (values, falls) = all log (Prefix bad values log falls)
  falls_all (Agreement t step b) all bad log agrees = agreement_all t step b all log (Fails bad) agrees

module _ (system : System) (sound : IsSound system) (bound : Bound) (plan : Plan) (binds : BindsParameters system bound) where
  uses : UsesAre system
  uses = each_call_once system sound

  name_ports : (span : Span) (calls : List Call) → AreNew span calls → All (IsOf Uses) calls
  name_ports span calls new = All-weaker (IsUse span) (IsOf Uses) (λ c u. let n = new.names in let f = u.from in omega (arith, n, f)) calls new.uses

  walk_sort : (rules : Rules) (before : List (Option ℤ)) (order : List ℕ) (span : Bool → Span) → WalkUses system rules order span → IsThroughout system (IsOf Uses) (Walk rules before order)
  walk_sort rules before order span are log walks i = name_ports (span (has_events_at system i)) (own i (component_calls log)) (are before log walks i)

  of_rounds : (t : ℕ) (call : Call) → IsOfRound t call → IsOf Rounds call
  of_rounds t call (inl is) = subst (IsOf Rounds) (sym is) refl
  of_rounds t call (inr (size, is)) = subst (IsOf Rounds) (sym is) refl

  pub sorts_are : (p : Place) → IsThroughout system (IsOf (sort_at p)) (part_at system bound plan p)
  sorts_are Made = λ i. name_ports setting_span _ (binding_new system bound i binds)
  sorts_are Configured = those system (IsOf (Only K.EnterInitialization)) _ _ (λ s. refl)
  sorts_are Entered = walk_sort _ _ _ initial_span uses.initial
  sorts_are (Found values) = λ i. name_ports _ _ (uses.timing i)
  sorts_are (Timed timers) = those system (IsOf (Only K.ExitInitialization)) _ _ (λ s. refl)
  sorts_are (Before s ticks) = walk_sort _ _ _ (instant_span (s.n == 0)) (uses.instant ticks (s.n == 0))
  sorts_are (Read s) = walk_sort _ _ _ interval_span (uses.interval s.values)
  sorts_are (Rearmed s) = those system (IsOf (Only K.Update)) _ _ (λ s. refl)
  sorts_are (InstantDone s again asked) = λ i. All-nil (IsOf Uses)
  sorts_are (Leaving w) = those system (IsOf (Only K.EnterStep)) _ _ (λ s. refl)
  sorts_are (Left w) = walk_sort _ _ _ step_span (uses.step w.s.values)
  sorts_are (Departing w) = those system (IsOf (Only K.Save)) _ _ (λ s. refl)
  sorts_are (Saved w) = λ call is. of_rounds w.s.t call is
  sorts_are (Short w i e) = λ i. All-nil (IsOf Uses)
  sorts_are (Agreed w m asked) = those system (IsOf (Only K.Free)) _ _ (λ s. refl)
  sorts_are (Stepped s true) = λ i. All-nil (IsOf (Only K.EnterEvent))
  sorts_are (Stepped s false) = those system (IsOf (Only K.EnterEvent)) _ _ (λ s. refl)
  sorts_are (Restored s) = λ i. All-nil (IsOf Uses)
