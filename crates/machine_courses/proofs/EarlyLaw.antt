-- A held run that ended before had no point to be held at.
use Rattle.std.proofs.Common.{◌≡◌, ℕ, ◌<◌, ◌≤◌, ℤ, Bool, true, false, List, [], ◌∷◌, ◌++◌, Option, refl, sym, ap, ◌∙◌, subst, append_assoc, arith}
use Rattle.std.specs.Prelude.{All}
use Rattle.std.proofs.lemmas.List.Elements.{All-head, All-tail}
use Rattle.system_model.specs.declared.plan.EndKind.{EndKind}
use Rattle.system_model.specs.declared.plan.EndKind.TheVariants as K
use Rattle.system_model.specs.Plans.{IsPlan}
use Rattle.system_model.specs.Sound.{IsSound}
use Rattle.system_model.specs.Text.{Instant}
use Rattle.system_model.proofs.CallerLemmas.{true_false}
use Rattle.run_model.specs.AfterInstant as F
use Rattle.run_model.specs.Behaved.{Departed}
use Rattle.run_model.specs.Initial as I
use Rattle.run_model.specs.Machines.{AreMachines}
use Rattle.run_model.specs.Run.{Run, Situation}
use Rattle.run_model.specs.Stepping as P
use Rattle.run_model.specs.Trace.{Continues, Further, IsTrace, Last, LeadsBy, Unwritten, instant_of}
use Rattle.run_model.proofs.CallerLemmas.{ends_or_goes, situation_of}
use Rattle.run_rest.specs.Held.{Held, HeldAt}
use Rattle.run_rest.specs.Laws.{Splits, StepsInTwo, StepsWithin}
use Rattle.run_rest.specs.Parted.{DepartsFrom, at_step, ready}
use Rattle.run_rest.specs.Rest.{NoneLeft, Rest, SomeLeft}
use Rattle.run_rest.proofs.CallerLemmas.{held_departed}
use Rattle.slot_calls.specs.Log.{Sent}
use Rattle.slot_calls.specs.Replies.{AreReplies, states_by}
use Rattle.step_agreement.specs.OverMachines.{IgnoreSlots}
use Rattle.calling_sequence.specs.declared.run_end.RunEnd.{RunEnd}
use Rattle.calling_sequence.specs.declared.run_end.RunEnd.TheVariants as E
use Rattle.calling_sequence.specs.Course.{Place, UpToHeld}
use Rattle.calling_sequence.specs.Ends.{AtLimit, AtShort, AtStop, Badly, ByStep, ByUpdate, EndsAt, FinishesIn, LostAtFirst, LostThere, MayEnd, Unfit, UnfitAtFirst, Well, kind_of_end, point_of}
use Rattle.machine_courses.specs.Held.{BadlyHeld, Early, HoldsBy, WellHeld, ends_before}
use Rattle.machine_courses.specs.Laws.{EarlyHasNone}
use Rattle.machine_courses.proofs.HeldLaw.{AllAt, IsFirst, first_at, stood}
use Rattle.machine_courses.proofs.RunLaw.{made_replies, trace_at}

all_back : {X : Type 0} (Q : X → Type 0) (xs ys : List X) → All Q (xs ++ ys) → All Q ys
all_back Q [] ys all = all
all_back Q (x ∷ xs) ys all = all_back Q xs ys (All-tail Q x (xs ++ ys) all)

abbrev kind_in : P.Next → EndKind
kind_in (P.Ends kind end) = kind
kind_in (P.EndsBefore kind end) = kind
kind_in (P.GoesOn z) = K.Stop

abbrev end_in : P.Next → ℕ
end_in (P.Ends kind end) = end
end_in (P.EndsBefore kind end) = end
end_in (P.GoesOn z) = 0

module _ (r : Run) (steps : StepsWithin r) where
  -- a step comes later
  later : (z next : Situation) (n : P.Next) → Departed r z → P.Departs r z n → n ≡ P.GoesOn next → z.t < next.t
  later z next _ departed (P.AtStop n at a) e = absurd (true_false (ap ends_or_goes (sym a ∙ e)))
  later z next _ departed (P.WhereAsked n kept q step asks a) e = absurd (true_false (ap ends_or_goes (sym a ∙ e)))
  later z next _ departed (P.WhereFixed n i f lacks a) e = absurd (true_false (ap ends_or_goes (sym a ∙ e)))
  later z next _ departed (P.ByStep n kept q step asks a) e =
      let same : q ≡ next.t = ap (λ (x : P.Next). (situation_of x next).t) (sym a ∙ e) in
      let after = (steps z kept q departed step).0 in
      omega (arith, after, same)

  -- none ends the run where it begins, but for a size that isn't taken
  no_end : (z : Situation) (n : P.Next) (kind : EndKind) (end : ℕ) → Departed r z → z.t < r.plan.stop → (kind ≡ K.Fixed → ⊥) → end ≡ z.t → P.Departs r z n → n ≡ P.Ends kind end → ⊥
  no_end z _ kind end departed early other here (P.AtStop n at a) e = absurd (omega (arith, early, at))
  no_end z _ kind end departed early other here (P.WhereAsked n kept q step asks a) e =
      let same : q ≡ end = ap end_in (sym a ∙ e) in
      let after = (steps z kept q departed step).0 in
      absurd (omega (arith, same, here, after))
  no_end z _ kind end departed early other here (P.WhereFixed n i f lacks a) e = other (ap kind_in (sym e ∙ a))
  no_end z _ kind end departed early other here (P.ByStep n kept q step asks a) e = absurd (true_false (ap ends_or_goes (sym e ∙ a)))

  unwritten_departs : (z : Situation) (n : P.Next) (kind : EndKind) (end : ℕ) → P.Departs r z n → n ≡ P.EndsBefore kind end → ⊥
  unwritten_departs z _ kind end (P.AtStop n at a) e = absurd (let same = sym a ∙ e in cc)
  unwritten_departs z _ kind end (P.WhereAsked n kept q step asks a) e = absurd (let same = sym a ∙ e in cc)
  unwritten_departs z _ kind end (P.WhereFixed n i f lacks a) e = absurd (let same = sym a ∙ e in cc)
  unwritten_departs z _ kind end (P.ByStep n kept q step asks a) e = absurd (let same = sym a ∙ e in cc)

  unwritten_at : (f : F.Following) (s : Situation) (V : List (Option ℤ)) (kind : EndKind) (end : ℕ) → LeadsBy f r s V (P.EndsBefore kind end) → end ≡ s.t
  unwritten_at F.OutOfRange s V kind end a = ap end_in a
  unwritten_at F.Ended s V kind end a = absurd (cc)
  unwritten_at F.AtLimit s V kind end a = absurd (cc)
  unwritten_at F.Again s V kind end a = absurd (cc)
  unwritten_at F.Done s V kind end a = absurd (unwritten_departs (F.updated r s V) (P.EndsBefore kind end) kind end a refl)

  -- an instant from `at` on is at the point of the end, where all are
  head_at : (at end : ℕ) (s : Situation) (V : List (Option ℤ)) (more is : List Instant) → at ≤ s.t → is ≡ instant_of s V ∷ more → AllAt at end is → s.t ≡ end
  head_at at end s V more is from e all = All-head (λ (i : Instant). at ≤ i.t → i.t ≡ end) (instant_of s V) more (subst (AllAt at end) e all) from

  -- and so is what continues a run
  next_at : (at end : ℕ) (next : Situation) (rest : List Instant) (kind : EndKind) → at ≤ next.t → AllAt at end rest → Continues r next rest kind end → next.t ≡ end
  next_at at _ _ _ _ from all (Last s V is kind end solves leads e) = head_at at end s V [] is from e all
  next_at at _ _ _ _ from all (Unwritten s V is kind end solves leads e) = sym (unwritten_at (F.following r s V) s V kind end leads)
  next_at at _ _ _ _ from all (Further s V is kind end next rest solves leads e more) = head_at at end s V rest is from e all

  -- where the instants from `at` on are all at the end's point, the run came to no point to be held at
  never : Splits → StepsInTwo → IsSound r.system → AreMachines r → (at : ℕ) (is : List Instant) (kind : EndKind) (end : ℕ) → IsTrace r is kind end → AllAt at end is → (kind ≡ K.Fixed → ⊥) → (js : List Instant) (z : Situation) → HeldAt r at js z → ⊥
  never splits two sound machines at is kind end trace all other js z h =
      let held = h.held in
      let departed = held_departed held in
      let parted = splits r sound machines js is kind end z held trace in
      let rest = parted.0 in
      let whole : is ≡ held.before ++ (instant_of held.s held.values ∷ rest) =
      parted.1 ∙ ap (λ (l : List Instant). l ++ rest) held.instants ∙ append_assoc held.before (instant_of held.s held.values ∷ []) rest in
      let beyond : AllAt at end (instant_of held.s held.values ∷ rest) =
      all_back (λ (i : Instant). at ≤ i.t → i.t ≡ end) held.before (instant_of held.s held.values ∷ rest) (subst (AllAt at end) whole all) in
      let same : z.t ≡ held.s.t = ap (λ (u : Situation). u.t) held.stands in
      let here : held.s.t ≡ end = head_at at end held.s held.values rest (instant_of held.s held.values ∷ rest) (let reached = h.reached in omega (arith, reached, same)) refl beyond in
      by rest parted.2 (All-tail (λ (i : Instant). at ≤ i.t → i.t ≡ end) (instant_of held.s held.values) rest beyond) (sym here ∙ sym same)
    where
      by : (rest : List Instant) → Rest r (at_step r z) rest kind end → AllAt at end rest → end ≡ z.t → ⊥
      by rest (NoneLeft departs none) all here = no_end z (P.Ends kind end) kind end (held_departed h.held) h.held.early other here ((two r z (P.Ends kind end)).1 departs) refl
      by rest (SomeLeft next departs more) all here =
          let after = later z next (P.GoesOn next) (held_departed h.held) ((two r z (P.GoesOn next)).1 departs) refl in
          let there = next_at at end next rest kind (let reached = h.reached in omega (arith, reached, after)) all more in
          absurd (omega (arith, after, there, here))

-- ---- by the end

-- each instant from `at` on is at this point, which is below it: there is none
none_there : (r : Run) (at end : ℕ) (is : List Instant) (kind : EndKind) (point : ℕ) → Splits → IsSound r.system → AreMachines r → IsTrace r is kind point → AllAt at end is → end < at → (js : List Instant) (z : Situation) → HeldAt r at js z → ⊥
none_there r at end is kind point splits sound machines trace all below js z h =
    let held = h.held in
    let parted = splits r sound machines js is kind point z held trace in
    let rest = parted.0 in
    let whole : is ≡ held.before ++ (instant_of held.s held.values ∷ rest) =
    parted.1 ∙ ap (λ (l : List Instant). l ++ rest) held.instants ∙ append_assoc held.before (instant_of held.s held.values ∷ []) rest in
    let same : z.t ≡ held.s.t = ap (λ (u : Situation). u.t) held.stands in
    let from : at ≤ held.s.t = (let reached = h.reached in omega (arith, reached, same)) in
    let here : held.s.t ≡ end = All-head (λ (i : Instant). at ≤ i.t → i.t ≡ end) (instant_of held.s held.values) rest
    (all_back (λ (i : Instant). at ≤ i.t → i.t ≡ end) held.before (instant_of held.s held.values ∷ rest) (subst (AllAt at end) whole all)) from in
    absurd (omega (arith, from, here, below))

module _ (splits : Splits) (two : StepsInTwo) (r : Run) (steps : StepsWithin r) (sound : IsSound r.system) (plan : IsPlan r.plan) (machines : AreMachines r) (ignore : IgnoreSlots r) (at : ℕ) where
  abbrev None : Type 0
  None = (js : List Instant) (z : Situation) → HeldAt r at js z → ⊥

  ended : (end : RunEnd) (p : Place) → EndsAt r.system r.plan end p → MayEnd (UpToHeld at) end → (is : List Instant) → IsFirst r.plan at p is → IsTrace r is (kind_of_end end) (point_of r.plan p) → None
  ended _ _ (AtStop s stop) may is first trace = never r steps splits two sound machines at is K.Stop s.t trace first.all (λ e. cc)
  ended _ _ (ByUpdate s again) may is first trace = never r steps splits two sound machines at is K.Asked s.t trace first.all (λ e. cc)
  ended _ _ (ByStep s) may is first trace = never r steps splits two sound machines at is K.Asked s.t trace first.all (λ e. cc)
  ended _ _ (AtLimit s limit) may is first trace = never r steps splits two sound machines at is K.Limit s.t trace first.all (λ e. cc)
  ended _ _ (LostAtFirst values lost least) may is first trace = never r steps splits two sound machines at is K.Range r.plan.start trace first.all (λ e. cc)
  ended _ _ (LostThere s lost least) may is first trace = never r steps splits two sound machines at is K.Range s.t trace first.all (λ e. cc)
  ended _ _ (Unfit s component to bound unfit) may is first trace = none_there r at s.t is K.Fixed s.t splits sound machines trace first.all may
  ended _ _ (UnfitAtFirst s component to bound unfit) may is first trace = none_there r at s.t is K.Fixed s.t splits sound machines trace first.all first.below
  ended _ _ (AtShort w component to) may is first trace = none_there r at w.s.t is K.Fixed w.s.t splits sound machines trace first.all first.below

  none_held : (end : RunEnd) (log : List Sent) (piece : List ℕ) → HoldsBy r at end log piece → AreReplies r (I.instantiated r) log → ends_before end ≡ true → None
  none_held _ _ _ (Early _ point log is f) replies before = by f replies before where
    by : {end : RunEnd} {point : ℕ} {log : List Sent} {is : List Instant} → FinishesIn r.system r.bound r.plan (UpToHeld at) end point log is → AreReplies r (I.instantiated r) log → ends_before end ≡ true → None
    by (Well p end log is course ends may) replies before =
        ended end p ends may is (first_at r.system r.bound r.plan at p log is course)
        (trace_at r sound plan machines ignore end p ends is (states_by r (I.instantiated r) log) (stood r sound plan machines ignore at p log is course replies))
    by (Badly p bad prefix more is course falls) replies before = absurd (true_false (sym before))
  none_held _ _ _ (BadlyHeld s bad prefix more is comes stops) replies before = absurd (true_false (sym before))
  none_held _ _ _ (WellHeld s prefix entered keeping is comes into keeps can) replies before = absurd (true_false (sym before))

pub early_has_none : Splits → StepsInTwo → EarlyHasNone
early_has_none splits two r at made log end piece steps c before =
    none_held splits two r steps c.sound c.plan c.machines c.ignore at end log piece c.holds (made_replies r made log c.making c.replies) before
