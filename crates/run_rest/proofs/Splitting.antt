-- A trace that comes to a step is the instants before it and a rest.
use Rattle.std.proofs.Common.{◌≡◌, ℕ, ℤ, Bool, true, false, List, [], ◌∷◌, ◌++◌, refl, sym, ap, ◌∙◌, subst, append_assoc}
use Rattle.std.specs.Prelude.{Option}
use Rattle.std.specs.List.{list_any}
use Rattle.system_model.specs.declared.plan.EndKind.{EndKind}
use Rattle.system_model.specs.Text.{Instant}
use Rattle.system_model.specs.Sound.{IsSound}
use Rattle.system_model.proofs.CallerLemmas.{true_false}
use Rattle.run_model.specs.Run.{Run, Situation}
use Rattle.run_model.specs.Equations.{Solves}
use Rattle.run_model.specs.Initial.{SolvesInitially, beginning, is_bad_initially}
use Rattle.run_model.specs.AfterInstant.{Done, following, updated}
use Rattle.run_model.specs.Stepping.{Next, Ends, EndsBefore, GoesOn, Departs, AtStop, WhereAsked, WhereFixed, ByStep}
use Rattle.run_model.specs.Trace.{Leads, LeadsBy, Continues, Last, Further, Unwritten, IsTrace, Fails, Runs, instant_of}
use Rattle.run_model.specs.Machines.{AreMachines}
use Rattle.run_model.specs.Behaved as B
use Rattle.run_model.specs.Laws.{OneNext, ReachesSituations, SolvedOnce, SolvedOnceInitially}
use Rattle.run_model.proofs.CallerLemmas.{ends_or_goes, situation_of}
use Rattle.run_rest.specs.Parted.{at_step}
use Rattle.run_rest.specs.Rest.{Rest, NoneLeft, SomeLeft}
use Rattle.run_rest.specs.Held.{Comes, AtFirst, Onward, Held}
use Rattle.run_rest.proofs.Parting.{enters, entered}

-- ---- what is known of runs

pub record Laws : Type 0 where
  pub solved : SolvedOnce
  pub initially : SolvedOnceInitially
  pub next : OneNext
  pub along : ReachesSituations

pub comes_reached : {r : Run} {is : List Instant} {s : Situation} → Comes r is s → B.Reached r s
comes_reached {r} (AtFirst s is W solves kept e none) = B.AtFirst s W solves kept e
comes_reached {r} (Onward is s V js next comes solves leads j) = B.Onward s V next (comes_reached comes) solves leads

pub held_departed : {r : Run} {is : List Instant} {z : Situation} → Held r is z → B.Departed r z
held_departed h = record { s = h.s; values = h.values; reached = comes_reached h.comes; solves = h.solves; done = h.done; is = h.stands; before_stop = h.early }

-- the values of an instant are one
pub same_values : (laws : Laws) (r : Run) → IsSound r.system → AreMachines r → (s : Situation) → B.Reached r s → (V W : List (Option ℤ)) → Solves r s V → Solves r s W → V ≡ W
same_values laws r sound machines s reached V W v w =
    let one = laws.solved r sound machines s (laws.along r sound machines s reached) in
    one.2 V v ∙ sym (one.2 W w)

pub same_initially : (laws : Laws) (r : Run) → IsSound r.system → AreMachines r → (V W : List (Option ℤ)) → SolvesInitially r V → SolvesInitially r W → V ≡ W
same_initially laws r sound machines V W v w =
    let one = laws.initially r sound machines in
    one.2 V v ∙ sym (one.2 W w)

-- two accounts of what follows in one situation are equal
pub outcome : {r : Run} {s z : Situation} {V W : List (Option ℤ)} {x y : Next} → Laws → IsSound r.system → AreMachines r → B.Reached r s → Solves r s V → Solves r z W → Leads r s V x → Leads r z W y → s ≡ z →
    (V ≡ W) × (x ≡ y)
outcome {r} {s} {z} {V} {W} {x} {y} laws sound machines reached v w leads leads2 e =
    let same : V ≡ W = same_values laws r sound machines s reached V W v (subst (λ (u : Situation). Solves r u W) (sym e) w) in
    (same, laws.next r s V x y leads (subst (λ (u : Situation). Leads r u V y) (sym e) (subst (λ U. Leads r z U y) (sym same) leads2)))

-- ---- along a trace

-- the rest of a trace from a situation
pub record From (r : Run) (prefix : List Instant) (s : Situation) (is : List Instant) (k : EndKind) (p : ℕ) : Type 0 where
  pub rest : List Instant
  pub split : is ≡ prefix ++ rest
  pub continues : Continues r s rest k p

further : {r : Run} {s z : Situation} {V : List (Option ℤ)} {next : Situation} (prefix : List Instant) {js is rest : List Instant} {k : EndKind} {p : ℕ} → Laws → IsSound r.system → AreMachines r → B.Reached r s →
    Solves r s V → Leads r s V (GoesOn next) → js ≡ prefix ++ instant_of s V ∷ [] → is ≡ prefix ++ rest → Continues r z rest k p → s ≡ z → From r js next is k p
further {r} {s} {V = V} {next = next} prefix laws sound machines reached v leads j split (Last z W rest k p w leads2 i) e =
    absurd (true_false (sym (ap ends_or_goes (outcome laws sound machines reached v w leads leads2 e).1)))
further {r} {s} {V = V} {next = next} prefix laws sound machines reached v leads j split (Unwritten z W rest k p w leads2 i) e =
    absurd (true_false (sym (ap ends_or_goes (outcome laws sound machines reached v w leads leads2 e).1)))
further {r} {s} {V = V} {next = next} prefix laws sound machines reached v leads j split (Further z W rest k p next2 after w leads2 i more) e =
    let same = outcome laws sound machines reached v w leads leads2 e in
    let first : instant_of z W ≡ instant_of s V = ap (λ (u : Situation). instant_of u W) (sym e) ∙ ap (instant_of s) (sym same.0) in
    record {
      rest = after;
      split = split ∙ ap (λ xs. prefix ++ xs) (i ∙ ap (λ x. x ∷ after) first) ∙ sym (append_assoc prefix (instant_of s V ∷ []) after) ∙ ap (λ xs. xs ++ after) (sym j);
      continues = subst (λ (u : Situation). Continues r u after k p) (sym (ap (λ n. situation_of n next) same.1)) more;
    }

along : {r : Run} {prefix is : List Instant} {s : Situation} {k : EndKind} {p : ℕ} → Laws → IsSound r.system → AreMachines r → Comes r prefix s → IsTrace r is k p → From r prefix s is k p
along {r} {is = is} {k = k} {p = p} laws sound machines (AtFirst s prefix W solves kept e none) (Fails U solves2 bad empty ranged start) =
    let same : U ≡ W = same_initially laws r sound machines U W solves2 solves in
    absurd (true_false (sym (subst (λ (V : List (Option ℤ)). list_any (is_bad_initially r.system V) r.system.ports ≡ true) same bad) ∙ kept))
along {r} {is = is} {k = k} {p = p} laws sound machines (AtFirst s prefix W solves kept e none) (Runs U solves2 kept2 x) =
    let same : U ≡ W = same_initially laws r sound machines U W solves2 solves in
    record {
      rest = is;
      split = ap (λ xs. xs ++ is) (sym none);
      continues = subst (λ (u : Situation). Continues r u is k p) (ap (beginning r) same ∙ sym e) x;
    }
along {r} laws sound machines (Onward before s V prefix next comes solves leads j) trace =
    let here = along laws sound machines comes trace in
    further before laws sound machines (comes_reached comes) solves leads j here.split here.continues refl

-- ---- at a step

departs_of : (r : Run) (s : Situation) (V : List (Option ℤ)) (next : Next) → following r s V ≡ Done → Leads r s V next → Departs r (updated r s V) next
departs_of r s V next done leads = subst (λ f. LeadsBy f r s V next) done leads

pub leads_of : (r : Run) (s : Situation) (V : List (Option ℤ)) (next : Next) → following r s V ≡ Done → Departs r (updated r s V) next → Leads r s V next
leads_of r s V next done d = subst (λ f. LeadsBy f r s V next) (sym done) d

-- a step ends no run before its instant
abbrev is_end_before : Next → Bool
is_end_before (Ends kind point) = false
is_end_before (EndsBefore kind point) = true
is_end_before (GoesOn s) = false

no_end_before : {r : Run} {s : Situation} {next : Next} {k : EndKind} {p : ℕ} → Departs r s next → next ≡ EndsBefore k p → ⊥
no_end_before (AtStop next at a) e = true_false (sym (ap is_end_before (sym a ∙ e)))
no_end_before (WhereAsked next kept point step asks a) e = true_false (sym (ap is_end_before (sym a ∙ e)))
no_end_before (WhereFixed next i f lacks a) e = true_false (sym (ap is_end_before (sym a ∙ e)))
no_end_before (ByStep next kept point step asks a) e = true_false (sym (ap is_end_before (sym a ∙ e)))

-- what is left where the values lead to a step
record Left (r : Run) (s : Situation) (V : List (Option ℤ)) (all : List Instant) (k : EndKind) (p : ℕ) : Type 0 where
  pub rest : List Instant
  pub split : all ≡ instant_of s V ∷ rest
  pub left : Rest r (at_step r (updated r s V)) rest k p

left : {r : Run} {s z : Situation} {V : List (Option ℤ)} {all : List Instant} {k : EndKind} {p : ℕ} → ((W : List (Option ℤ)) → Solves r s W → W ≡ V) → following r s V ≡ Done → Continues r z all k p → s ≡ z → Left r s V all k p
left {r} {s} {V = V} same done (Last z W all k p w leads i) e =
    let of : W ≡ V = same W (subst (λ (u : Situation). Solves r u W) (sym e) w) in
    let leads_here : Leads r s V (Ends k p) = subst (λ U. Leads r s U (Ends k p)) of (subst (λ (u : Situation). Leads r u W (Ends k p)) (sym e) leads) in
    record {
      rest = [];
      split = i ∙ ap (λ (u : Situation). instant_of u W ∷ []) (sym e) ∙ ap (λ U. instant_of s U ∷ []) of;
      left = NoneLeft (enters (departs_of r s V (Ends k p) done leads_here)) refl;
    }
left {r} {s} {V = V} same done (Unwritten z W all k p w leads i) e =
    let of : W ≡ V = same W (subst (λ (u : Situation). Solves r u W) (sym e) w) in
    let leads_here : Leads r s V (EndsBefore k p) = subst (λ U. Leads r s U (EndsBefore k p)) of (subst (λ (u : Situation). Leads r u W (EndsBefore k p)) (sym e) leads) in
    absurd (no_end_before (departs_of r s V (EndsBefore k p) done leads_here) refl)
left {r} {s} {V = V} same done (Further z W all k p next after w leads i more) e =
    let of : W ≡ V = same W (subst (λ (u : Situation). Solves r u W) (sym e) w) in
    let leads_here : Leads r s V (GoesOn next) = subst (λ U. Leads r s U (GoesOn next)) of (subst (λ (u : Situation). Leads r u W (GoesOn next)) (sym e) leads) in
    record {
      rest = after;
      split = i ∙ ap (λ (u : Situation). instant_of u W ∷ after) (sym e) ∙ ap (λ U. instant_of s U ∷ after) of;
      left = SomeLeft next (enters (departs_of r s V (GoesOn next) done leads_here)) more;
    }

pub splits : (laws : Laws) (r : Run) → IsSound r.system → AreMachines r → (prefix is : List Instant) (k : EndKind) (p : ℕ) (z : Situation) → Held r prefix z → IsTrace r is k p →
    (rest : List Instant) × (is ≡ prefix ++ rest) × Rest r (at_step r z) rest k p
splits laws r sound machines prefix is k p z held trace =
    let here = along laws sound machines held.comes trace in
    let at : Left r held.s held.values here.rest k p = left (λ W w. same_values laws r sound machines held.s (comes_reached held.comes) W held.values w held.solves) held.done here.continues refl in (
      at.rest,
      here.split ∙ ap (λ xs. held.before ++ xs) at.split ∙ sym (append_assoc held.before (instant_of held.s held.values ∷ []) at.rest) ∙ ap (λ xs. xs ++ at.rest) (sym held.instants),
      subst (λ (u : Situation). Rest r (at_step r u) at.rest k p) (sym held.stands) at.left,
    )

-- ---- the other way

joined : {r : Run} {prefix : List Instant} {s : Situation} (rest : List Instant) {k : EndKind} {p : ℕ} → Comes r prefix s → Continues r s rest k p → IsTrace r (prefix ++ rest) k p
joined {r} rest {k} {p} (AtFirst s prefix W solves kept e none) x =
    Runs W solves kept (subst (λ xs. Continues r (beginning r W) (xs ++ rest) k p) (sym none) (subst (λ (u : Situation). Continues r u rest k p) e x))
joined {r} rest {k} {p} (Onward before s V prefix next comes solves leads j) x =
    let all : prefix ++ rest ≡ before ++ instant_of s V ∷ rest = ap (λ xs. xs ++ rest) j ∙ append_assoc before (instant_of s V ∷ []) rest in
    subst (λ xs. IsTrace r xs k p) (sym all) (joined (instant_of s V ∷ rest) comes (Further s V (instant_of s V ∷ rest) k p next rest solves leads refl x))

continued : {r : Run} {s : Situation} {V : List (Option ℤ)} {rest : List Instant} {k : EndKind} {p : ℕ} → Solves r s V → following r s V ≡ Done → Rest r (at_step r (updated r s V)) rest k p → Continues r s (instant_of s V ∷ rest) k p
continued {r} {s} {V} {rest} {k} {p} solves done (NoneLeft d none) = Last s V (instant_of s V ∷ rest) k p solves (leads_of r s V (Ends k p) done (entered d)) (ap (λ xs. instant_of s V ∷ xs) none)
continued {r} {s} {V} {rest} {k} {p} solves done (SomeLeft next d more) = Further s V (instant_of s V ∷ rest) k p next rest solves (leads_of r s V (GoesOn next) done (entered d)) refl more

pub joins : (r : Run) (prefix rest : List Instant) (k : EndKind) (p : ℕ) (z : Situation) → Held r prefix z → Rest r (at_step r z) rest k p → IsTrace r (prefix ++ rest) k p
joins r prefix rest k p z held left =
    let here : Rest r (at_step r (updated r held.s held.values)) rest k p = subst (λ (u : Situation). Rest r (at_step r u) rest k p) held.stands left in
    let all : prefix ++ rest ≡ held.before ++ instant_of held.s held.values ∷ rest = ap (λ xs. xs ++ rest) held.instants ∙ append_assoc held.before (instant_of held.s held.values ∷ []) rest in
    subst (λ xs. IsTrace r xs k p) (sym all) (joined (instant_of held.s held.values ∷ rest) held.comes (continued held.solves held.done here))
