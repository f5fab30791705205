-- What is left of a run at a step is later than the point of that step.
use Rattle.std.proofs.Common.{◌≡◌, ℕ, ◌<◌, ◌≤◌, ℤ, List, [], Option, refl, sym, ap, ◌∙◌, subst, arith}
use Rattle.std.specs.Prelude.{All}
use Rattle.std.proofs.lemmas.List.Elements.{All-cons, All-nil}
use Rattle.system_model.specs.declared.plan.EndKind.{EndKind}
use Rattle.system_model.specs.Text.{Instant}
use Rattle.system_model.proofs.CallerLemmas.{true_false}
use Rattle.run_model.specs.AfterInstant.{Again, AtLimit, Done, Ended, Following, OutOfRange, following, updated}
use Rattle.run_model.specs.Behaved.{Departed, Onward, Reached}
use Rattle.run_model.specs.Equations.{Solves}
use Rattle.run_model.specs.Run.{Run, Situation}
use Rattle.run_model.specs.Stepping.{AtStop, ByStep, Departs, GoesOn, IsStep, Next, WhereAsked, WhereFixed}
use Rattle.run_model.specs.Trace.{Continues, Further, Last, Leads, LeadsBy, Unwritten, instant_of}
use Rattle.run_model.proofs.CallerLemmas.{ends_or_goes, situation_of}
use Rattle.run_rest.specs.Held.{Held}
use Rattle.run_rest.specs.Laws.{StepsInTwo, StepsWithin}
use Rattle.run_rest.specs.Parted.{at_step}
use Rattle.run_rest.specs.Rest.{NoneLeft, Rest, SomeLeft}
use Rattle.run_rest.proofs.CallerLemmas.{held_departed}
use Rattle.checked_runs.specs.TwoParts.{IsCutAfter}

module _ (r : Run) (steps : StepsWithin r) where
  -- a step comes later
  departs_later : {n : Next} (z next : Situation) → ((kept : List ℕ) (q : ℕ) → IsStep r z kept q → z.t < q) → Departs r z n → n ≡ GoesOn next → z.t < next.t
  departs_later z next leads (AtStop n at a) e = absurd (true_false (ap ends_or_goes (sym a ∙ e)))
  departs_later z next leads (WhereAsked n kept q step asks a) e = absurd (true_false (ap ends_or_goes (sym a ∙ e)))
  departs_later z next leads (WhereFixed n i f lacks a) e = absurd (true_false (ap ends_or_goes (sym a ∙ e)))
  departs_later z next leads (ByStep n kept q step asks a) e =
      let same : q ≡ next.t = ap (λ (x : Next). (situation_of x next).t) (sym a ∙ e) in
      let after = leads kept q step in
      omega (arith, after, same)

  -- no instant leads to an earlier one
  rises : (s next : Situation) (V : List (Option ℤ)) → Reached r s → Solves r s V → Leads r s V (GoesOn next) → s.t ≤ next.t
  rises s next V reached solves leads = by (following r s V) refl leads
    where
      by : (f : Following) → following r s V ≡ f → LeadsBy f r s V (GoesOn next) → s.t ≤ next.t
      by OutOfRange e a = absurd (true_false (sym (ap ends_or_goes a)))
      by Ended e a = absurd (true_false (sym (ap ends_or_goes a)))
      by AtLimit e a = absurd (true_false (sym (ap ends_or_goes a)))
      by Again e a = (let same : next.t ≡ s.t = ap (λ (x : Next). (situation_of x next).t) a in omega (arith, same))
      by Done e a =
          let z : Situation = updated r s V in
          let after : s.t < next.t = departs_later z next
          (λ kept q step. (steps z kept q (record { s = s; values = V; reached = reached; solves = solves; done = e; is = refl; before_stop = step.before_stop }) step).0) a refl in
          omega (arith, after)

  abbrev AllLater : ℕ → List Instant → Type 0
  AllLater t is = All (λ (i : Instant). t < i.t) is

  all_later : (t : ℕ) {s : Situation} {is : List Instant} {kind : EndKind} {end : ℕ} → Reached r s → t < s.t → Continues r s is kind end → AllLater t is
  all_later t reached from (Last s V is kind end solves leads e) =
      subst (AllLater t) (sym e) (All-cons (λ (i : Instant). t < i.t) (instant_of s V) [] from (All-nil (λ (i : Instant). t < i.t)))
  all_later t reached from (Unwritten s V is kind end solves leads e) = subst (AllLater t) (sym e) (All-nil (λ (i : Instant). t < i.t))
  all_later t reached from (Further s V is kind end next rest solves leads e more) =
      let up = rises s next V reached solves leads in
      subst (AllLater t) (sym e) (All-cons (λ (i : Instant). t < i.t) (instant_of s V) rest from (all_later t (Onward s V next reached solves leads) (omega (arith, from, up)) more))

  module _ (two : StepsInTwo) (prefix : List Instant) (z : Situation) (h : Held r prefix z) where
    abbrev d : Departed r z
    d = held_departed h

    reached_next : (next : Situation) → Departs r z (GoesOn next) → Reached r next
    reached_next next departs =
        Onward d.s d.values next d.reached d.solves
        (subst (λ (f : Following). LeadsBy f r d.s d.values (GoesOn next)) (sym d.done) (subst (λ (y : Situation). Departs r y (GoesOn next)) d.is departs))

    rest_later : (is : List Instant) (kind : EndKind) (end : ℕ) → Rest r (at_step r z) is kind end → AllLater z.t is
    rest_later is kind end (NoneLeft departs none) = subst (AllLater z.t) (sym none) (All-nil (λ (i : Instant). z.t < i.t))
    rest_later is kind end (SomeLeft next departs more) =
        let there : Departs r z (GoesOn next) = (two r z (GoesOn next)).1 departs in
        all_later z.t (reached_next next there) (departs_later z next (λ kept q step. (steps z kept q d step).0) there refl) more

    -- the instants before end with one at the point
    pub is_cut : (later : List Instant) (kind : EndKind) (end : ℕ) → Rest r (at_step r z) later kind end → IsCutAfter prefix later z.t
    is_cut later kind end rest = record {
      before = h.before;
      last = instant_of h.s h.values;
      ends = h.instants;
      there = sym (ap (λ (y : Situation). y.t) h.stands);
      after = rest_later later kind end rest;
    }
