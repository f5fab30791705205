-- The instants of a course of told machines: a prefix of their run, and with its end their trace.
use Rattle.std.proofs.Common.{◌≡◌, ℕ, ℤ, List, [], ◌∷◌, ◌++◌, Option, refl, sym, ap, ◌∙◌, subst, append_assoc, append-nil, false}
use Rattle.std.specs.Prelude.{All}
use Rattle.std.proofs.lemmas.List.Elements.{All-append, All-nil}
use Rattle.fmu_peer.specs.Machine.{MachineState}
use Rattle.system_model.specs.declared.plan.EndKind.{EndKind}
use Rattle.system_model.specs.Sound.{IsSound}
use Rattle.system_model.specs.Text.{Instant}
use Rattle.std.specs.List.{list_any}
use Rattle.run_model.specs.Equations.{Solves, is_bad}
use Rattle.run_model.specs.Initial as I
use Rattle.run_model.specs.Machines.{AreMachines}
use Rattle.run_model.specs.Run.{Run, Situation}
use Rattle.run_model.specs.Stepping.{Ends, EndsBefore}
use Rattle.run_model.specs.Trace.{Continues, Further, IsTrace, Last, Leads, Runs, Unwritten, instant_of}
use Rattle.system_model.specs.EarlyReturn.{early_count}
use Rattle.run_model.specs.Stepping.{asked_first}
use Rattle.slot_calls.specs.Log.{Sent}
use Rattle.slot_calls.specs.Replies.{AreReplies, states_by}
use Rattle.slot_calls.specs.Stage.{IsGoodOf, shapes_of}
use Rattle.slot_calls.specs.declared.bad_answer.BadAnswer.{BadAnswer}
use Rattle.step_agreement.specs.Agreement.{Fails, Meets, Outcome, Unfit}
use Rattle.step_agreement.specs.OverMachines.{IgnoreSlots}
use Rattle.step_agreement.specs.Saving.{IsGoodOutcome}
use Rattle.step_agreement.proofs.CallerLemmas.{HasAlong, IsAlong, along_agreement}
use Rattle.rollback.specs.StepsBy.{all_at}
use Rattle.event_iteration.proofs.ByLog.{AreAll, IsRead, last_alone_is_bad, made_all, reads_stay, replies_first, replies_then, states_on}
use Rattle.calling_sequence.specs.Course.{Agreed, Before, Configured, Course, CourseIn, Departing, Entered, Extent, Found, Left, Leaving, Made, Place, Read, Rearmed, Restored, Saved, InstantDone, Short, Spot, Stepped, Timed, Whole, first_of, part_at, shown}
use Rattle.calling_sequence.specs.Parts.{Agreement, Calls, Does, Part, Round, Walk}
use Rattle.system_model.specs.Plans.{IsPlan}
use Rattle.calling_sequence.proofs.CourseInduction.{along}
use Rattle.machine_courses.specs.Prefixes as S
use Rattle.machine_courses.specs.Prefixes.{After, AtFirst, CameTo, IsPrefix, Onward}
use Rattle.machine_courses.proofs.Places.{At, IsSpotOf, IsWithin, Sees}
use Rattle.machine_courses.proofs.Rows.{row}
use Rattle.machine_courses.proofs.Steps.{shapes_at}

-- ---- lists

-- all but the last
abbrev prefix_of : {A : Type 0} → List A → List A
prefix_of [] = []
prefix_of (x ∷ []) = []
prefix_of (x ∷ (y ∷ ys)) = x ∷ prefix_of (y ∷ ys)

prefix_is : {A : Type 0} (xs : List A) (x : A) → prefix_of (xs ++ x ∷ []) ≡ xs
prefix_is [] x = refl
prefix_is (y ∷ []) x = refl
prefix_is (y ∷ (z ∷ zs)) x = ap (λ (l : List _). y ∷ l) (prefix_is (z ∷ zs) x)

same_prefix : {A : Type 0} (xs ys : List A) (x y : A) → xs ++ x ∷ [] ≡ ys ++ y ∷ [] → xs ≡ ys
same_prefix xs ys x y e = sym (prefix_is xs x) ∙ ap prefix_of e ∙ prefix_is ys y

none_after : {A : Type 0} (xs : List A) (x : A) → xs ++ x ∷ [] ≡ [] → ⊥
none_after [] x e = absurd (cc)
none_after (y ∷ ys) x e = absurd (cc)

-- ---- prefixes

-- without its last instant
pub prefix_before : (r : Run) (is : List Instant) (i : Instant) → IsPrefix r (is ++ i ∷ []) → IsPrefix r is
prefix_before r is i (S.Nothing e) = absurd (none_after is i e)
prefix_before r is i (S.Before s came) = by s (is ++ i ∷ []) came refl where
  by : (z : Situation) (js : List Instant) → CameTo r z js → js ≡ is ++ i ∷ [] → IsPrefix r is
  by _ _ (AtFirst z js initial solves kept begins none) e = absurd (none_after is i (sym e ∙ none))
  by _ _ (Onward z js before values earlier came solves leads js_is) e =
      S.Before before (subst (CameTo r before) (sym (same_prefix is earlier i (instant_of before values) (sym e ∙ js_is))) came)
prefix_before r is i (After s values earlier came solves kept e) = S.Before s (subst (CameTo r s) (sym (same_prefix is earlier i (instant_of s values) e)) came)

-- the run so far, whose points are within those of the plan: before an instant, or after one
pub data Prefix (r : Run) (is : List Instant) : Type 0 where
  Nowhere : is ≡ [] → Prefix r is
  Ahead : (z : Situation) → CameTo r z is → IsWithin r.plan z.t z.n → Prefix r is
  Past : (z : Situation) (values : List (Option ℤ)) (earlier : List Instant) → CameTo r z earlier → IsWithin r.plan z.t z.n → Solves r z values → list_any (is_bad values) r.system.ports ≡ false → is ≡ earlier ++ instant_of z values ∷ [] → Prefix r is

pub is_prefix : (r : Run) (is : List Instant) → Prefix r is → IsPrefix r is
is_prefix r is (Nowhere none) = S.Nothing none
is_prefix r is (Ahead z came within) = S.Before z came
is_prefix r is (Past z values earlier came within solves kept is_is) = After z values earlier came solves kept is_is

-- a trace is a prefix and what continues it
pub traced_on : (r : Run) (kind : EndKind) (end : ℕ) (s : Situation) (earlier rest : List Instant) → CameTo r s earlier → Continues r s rest kind end → IsTrace r (earlier ++ rest) kind end
traced_on r kind end _ _ rest (AtFirst s is initial solves kept begins none) on =
    subst (λ (xs : List Instant). IsTrace r (xs ++ rest) kind end) (sym none) (Runs initial solves kept (subst (λ (z : Situation). Continues r z rest kind end) begins on))
traced_on r kind end _ _ rest (Onward s is before values earlier came solves leads is_is) on =
    let more = traced_on r kind end before earlier (instant_of before values ∷ rest) came (Further before values (instant_of before values ∷ rest) kind end s rest solves leads refl on) in
    subst (λ (xs : List Instant). IsTrace r xs kind end) (sym (append_assoc earlier (instant_of before values ∷ []) rest) ∙ ap (λ (xs : List Instant). xs ++ rest) (sym is_is)) more

-- where a value is lost in an instant
pub trace_lost : (r : Run) (z : Situation) (is : List Instant) (V : List (Option ℤ)) (kind : EndKind) (end : ℕ) → CameTo r z is → Solves r z V → Leads r z V (EndsBefore kind end) → IsTrace r is kind end
trace_lost r z is V kind end came solves leads =
    subst (λ (xs : List Instant). IsTrace r xs kind end) (append-nil is) (traced_on r kind end z is [] came (Unwritten z V [] kind end solves leads refl))

pub trace_seen : (r : Run) (s : Spot) (is : List Instant) (x : Sees r s is) (kind : EndKind) (end : ℕ) → Leads r x.z s.values (Ends kind end) → IsTrace r is kind end
trace_seen r s is x kind end leads =
    subst (λ (xs : List Instant). IsTrace r xs kind end) (sym x.is_is)
    (traced_on r kind end x.z x.earlier (instant_of x.z s.values ∷ []) x.at.came (Last x.z s.values (instant_of x.z s.values ∷ []) kind end x.solves leads refl))

module _ (r : Run) (sound : IsSound r.system) (plan : IsPlan r.plan) (machines : AreMachines r) (ignore : IgnoreSlots r) where
  -- ---- all along

  -- after these instants and from these states on, the log is good, and leads the machines there
  pub record Stands (prefix : List Instant) (base : List MachineState) (p : Place) (log : List Sent) (is : List Instant) : Type 0 where
    pub good : All (IsGoodOf (shapes_of r.system)) log
    pub at : At r p (prefix ++ is) (states_by r base log)

  abbrev Good : List Sent → Type 0
  Good log = All (IsGoodOf (shapes_of r.system)) log

  abbrev Any : BadAnswer → List Sent → Type 0
  Any bad log = Unit {0}

  good_rounds : (t : ℕ) → IsAlong t (shapes_of r.system) Good Any
  good_rounds t = record {
    none = All-nil (IsGoodOf (shapes_of r.system));
    joined = λ prefix back f b. All-append (IsGoodOf (shapes_of r.system)) prefix back f b;
    after = λ bad prefix back f b. tt;
    well = λ test call stands log is same a. a.good;
    badly = λ test call stands bad log is same f. tt;
  }

  does_good : (part : Part) (values : List (Option ℤ)) (log : List Sent) → Does r.system part values log → All (IsGoodOf (shapes_of r.system)) log
  does_good (Calls calls) values log does = does.good
  does_good (Round calls) values log does = does.good
  does_good (Walk rules before order) values log does = (last_alone_is_bad r.system rules before order values log).good does
  does_good (Agreement t step bound) values log (outcome, good, agrees) = all_good t outcome log good
      (along_agreement t step (asked_first (early_count (shapes_of r.system))) (shapes_of r.system) Good Any (good_rounds t) bound (all_at t (shapes_of r.system)) log outcome (shapes_at t (shapes_of r.system)) agrees) where
        all_good : (t : ℕ) (o : Outcome) (log : List Sent) → IsGoodOutcome o → HasAlong Good Any o log → All (IsGoodOf (shapes_of r.system)) log
        all_good t (Meets point) log good has = has
        all_good t (Unfit i e) log good has = has
        all_good t (Fails bad) log good has = absurd good

  module _ (extent : Extent) (prefix : List Instant) (base : List MachineState) (all : AreAll r base) (begins : At r (first_of extent) prefix base) where
    pub stands_in : (p : Place) (log : List Sent) (is : List Instant) → CourseIn r.system r.bound r.plan extent p log is → AreReplies r base log → Stands prefix base p log is
    stands_in p log is course = along r.system r.bound r.plan extent (λ q l js. AreReplies r base l → Stands prefix base q l js)
        (λ replies. record {
          good = All-nil GoodSent;
          at = subst (λ (js : List Instant). At r (first_of extent) js (states_by r base [])) (sym (append-nil prefix)) (subst (At r (first_of extent) prefix) (sym (reads_stay r base all [] (All-nil IsRead))) begins);
        })
        (λ q next values before more js course old_stands does leads within replies.
        let old = old_stands (replies_first r base before more replies) in
        let after = replies_then r base before more old.good replies in
        record {
          good = All-append GoodSent before more old.good (does_good (part_at r.system r.bound r.plan q) values more does);
          at = subst (λ (ks : List Instant). At r next ks (states_by r base (before ++ more))) (append_assoc prefix js (shown next))
              (subst (At r next ((prefix ++ js) ++ shown next)) (sym (states_on r base before more)) (row r sound plan machines ignore q next values more leads (prefix ++ js) (states_by r base before) old.at does after));
        })
        p log is course
      where
        GoodSent : Sent → Type 0
        GoodSent = IsGoodOf (shapes_of r.system)

  -- of a whole run
  pub stands : (p : Place) (log : List Sent) (is : List Instant) → Course r.system r.bound r.plan p log is → AreReplies r (I.instantiated r) log → Stands [] (I.instantiated r) p log is
  stands = stands_in Whole [] (I.instantiated r) (made_all r machines) (refl, refl)

  -- ---- the instants so far

  pub none : (is : List Instant) → is ≡ [] → Prefix r is
  none is e = Nowhere e

  here : (s : Spot) (is : List Instant) (z : Situation) → IsSpotOf r s is z → IsWithin r.plan z.t z.n
  here s is z at = subst (λ (t : ℕ). IsWithin r.plan t z.n) (sym at.point) (subst (IsWithin r.plan s.t) (sym at.number) at.within)

  ahead : (s : Spot) (is : List Instant) (z : Situation) → IsSpotOf r s is z → Prefix r is
  ahead s is z at = Ahead z at.came (here s is z at)

  past : (s : Spot) (is : List Instant) → Sees r s is → Prefix r is
  past s is x = Past x.z s.values x.earlier x.at.came (here s x.earlier x.z x.at) x.solves x.kept x.is_is

  pub prefix_at : (p : Place) (is : List Instant) (ss : List MachineState) → At r p is ss → Prefix r is
  prefix_at Made is ss at = none is at.0
  prefix_at Configured is ss at = none is at.0
  prefix_at Entered is ss at = none is at.0
  prefix_at (Found values) is ss at = none is at.0
  prefix_at (Timed timers) is ss at = none is at.0
  prefix_at (Before s ticks) is ss c = ahead s is c.z c.at
  prefix_at (Read s) is ss (f, timers) = ahead s is f.z f.at
  prefix_at (Rearmed s) is ss (f, kept, timers) = ahead s is f.z f.at
  prefix_at (InstantDone s again asked) is ss x = past s is x.sees
  prefix_at (Leaving w) is ss (g, at) = past (record w.s { n = g.n }) is g.sees
  prefix_at (Left w) is ss (g, at) = past (record w.s { n = g.n }) is g.sees
  prefix_at (Departing w) is ss (g, at) = past (record w.s { n = g.n }) is g.sees
  prefix_at (Saved w) is ss (g, at) = past (record w.s { n = g.n }) is g.sees
  prefix_at (Short w component end) is ss (g, lacks) = past (record w.s { n = g.n }) is g.sees
  prefix_at (Agreed w point asked) is ss (l, at) = past (record w.s { n = l.goes.n }) is l.goes.sees
  prefix_at (Restored s) is ss x = past (record s { n = x.n }) is x.sees
  prefix_at (Stepped s asked) is ss x = past (record x.w.s { n = x.lands.goes.n }) is x.lands.goes.sees
