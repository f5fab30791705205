-- From a point on a run is held in one way at most.
use Rattle.std.proofs.Common.{◌≡◌, ℕ, suc, ℤ, ◌<◌, ◌≤◌, ◌+◌, List, [], ◌∷◌, ◌++◌, length, sym, ap, ◌∙◌, subst, arith, inl, inr}
use Rattle.std.specs.Prelude.{Option, Contains}
use Rattle.std.proofs.lemmas.List.{length-append}
use Rattle.std.proofs.lemmas.List.Elements.{All-contains, Contains-append_left, Contains-push}
use Rattle.std.proofs.lemmas.Bool.{cases_lt}
use Rattle.system_model.specs.Text.{Instant}
use Rattle.system_model.specs.Sound.{IsSound}
use Rattle.run_model.specs.Run.{Run, Situation}
use Rattle.run_model.specs.Equations.{Solves}
use Rattle.run_model.specs.Initial.{beginning}
use Rattle.run_model.specs.AfterInstant.{Done, following, updated}
use Rattle.run_model.specs.Stepping.{GoesOn}
use Rattle.run_model.specs.Trace.{Leads, instant_of}
use Rattle.run_model.specs.Machines.{AreMachines}
use Rattle.run_model.proofs.CallerLemmas.{situation_of}
use Rattle.run_rest.specs.Held.{Comes, AtFirst, Onward, Held, HeldAt}
use Rattle.run_rest.specs.Laws.{StepsWithin}
use Rattle.run_rest.proofs.Climbing.{Climbs, climbs, rises}
use Rattle.run_rest.proofs.Splitting.{Laws, comes_reached, outcome, same_initially, same_values}

pushed : (is js : List Instant) (i : Instant) → js ≡ is ++ i ∷ [] → length js ≡ suc (length is)
pushed is js i e = let l : length (is ++ i ∷ []) ≡ length is + length (i ∷ []) = length-append is (i ∷ []) in ap (λ (xs : List Instant). length xs) e ∙ l ∙ omega arith

-- after equally many instants the run stands in one place
come_same : {r : Run} {is js : List Instant} {s z : Situation} → Laws → IsSound r.system → AreMachines r → Comes r is s → Comes r js z → length is ≡ length js → (is ≡ js) × (s ≡ z)
come_same {r} laws sound machines (AtFirst s is W solves kept e none) (AtFirst z js U solves2 kept2 f none2) len =
    (none ∙ sym none2, e ∙ ap (beginning r) (same_initially laws r sound machines W U solves solves2) ∙ sym f)
come_same {r} laws sound machines (AtFirst s is W solves kept e none) (Onward before z U js next comes solves2 leads2 j) len =
    let l = pushed before js (instant_of z U) j in let k : length is ≡ 0 = ap (λ (xs : List Instant). length xs) none in absurd (omega (arith, l, k, len))
come_same {r} laws sound machines (Onward before s V is next comes solves leads i) (AtFirst z js U solves2 kept2 f none2) len =
    let l = pushed before is (instant_of s V) i in let k : length js ≡ 0 = ap (λ (xs : List Instant). length xs) none2 in absurd (omega (arith, l, k, len))
come_same {r} laws sound machines (Onward before s V is next comes solves leads i) (Onward before2 z U js next2 comes2 solves2 leads2 j) len =
    let l = pushed before is (instant_of s V) i in
    let m = pushed before2 js (instant_of z U) j in
    let so_far = come_same laws sound machines comes comes2 (omega (arith, l, m, len)) in
    let out = outcome laws sound machines (comes_reached comes) solves solves2 leads leads2 so_far.1 in
    (i ∙ ap (λ xs. xs ++ instant_of s V ∷ []) so_far.0 ∙ ap (λ (u : Situation). before2 ++ instant_of u V ∷ []) so_far.1 ∙ ap (λ W. before2 ++ instant_of z W ∷ []) out.0 ∙ sym j, ap (λ n. situation_of n next) out.1)

-- ---- on the way

-- what the run passed on its way
record Passed (r : Run) (s : Situation) (js : List Instant) (z : Situation) : Type 0 where
  pub values : List (Option ℤ)
  pub next : Situation
  pub solves : Solves r s values
  pub leads : Leads r s values (GoesOn next)
  pub within : Contains js (instant_of s values)
  pub later : next.t ≤ z.t

passed : {r : Run} {is js : List Instant} {s z : Situation} → Laws → IsSound r.system → AreMachines r → StepsWithin r → Comes r is s → Comes r js z → length is < length js → Passed r s js z
passed {r} {is} {s = s} laws sound machines steps comes (AtFirst z js U solves kept f none) len = let k : length js ≡ 0 = ap (λ (xs : List Instant). length xs) none in absurd (omega (arith, k, len))
passed {r} {is} {s = s} laws sound machines steps comes (Onward before y U js next comes2 solves leads j) len =
    (elim (cases_lt (length is) (length before)) as (λ c. Passed r s js next) [
      | inl shorter ↦
          let old = passed laws sound machines steps comes comes2 shorter in
          let up : y.t ≤ next.t = rises next steps (comes_reached comes2) solves leads in
          let before_it : old.next.t ≤ y.t = old.later in
          record { values = old.values; next = old.next; solves = old.solves; leads = old.leads; within = subst (λ xs. Contains xs (instant_of s old.values)) (sym j) (Contains-append_left before (instant_of y U ∷ []) (instant_of s old.values) old.within); later = omega (arith, up, before_it) }
      | inr longer ↦
          let l = pushed before js (instant_of y U) j in
          let same = come_same laws sound machines comes comes2 (omega (arith, l, len, longer)) in
          record {
            values = U;
            next = next;
            solves = subst (λ (u : Situation). Solves r u U) (sym same.1) solves;
            leads = subst (λ (u : Situation). Leads r u U (GoesOn next)) (sym same.1) leads;
            within = subst (λ (u : Situation). Contains js (instant_of u U)) (sym same.1) (subst (λ xs. Contains xs (instant_of y U)) (sym j) (Contains-push before (instant_of y U)));
            later = omega arith;
          }
    ])

-- ---- where it is held

is_equal : {r : Run} {is js : List Instant} {y z : Situation} → Laws → IsSound r.system → AreMachines r → (a : Held r is y) (b : Held r js z) → length a.before ≡ length b.before → (is ≡ js) × (y ≡ z)
is_equal {r} laws sound machines a b len =
    let so_far = come_same laws sound machines a.comes b.comes len in
    let values : a.values ≡ b.values = same_values laws r sound machines a.s (comes_reached a.comes) a.values b.values a.solves (subst (λ (u : Situation). Solves r u b.values) (sym so_far.1) b.solves) in (
      a.instants ∙ ap (λ xs. xs ++ instant_of a.s a.values ∷ []) so_far.0 ∙ ap (λ (u : Situation). b.before ++ instant_of u a.values ∷ []) so_far.1 ∙ ap (λ W. b.before ++ instant_of b.s W ∷ []) values ∙ sym b.instants,
      a.stands ∙ ap (λ (u : Situation). updated r u a.values) so_far.1 ∙ ap (updated r b.s) values ∙ sym b.stands,
    )

-- no other comes first
is_first : {r : Run} {at : ℕ} {is js : List Instant} {y z : Situation} → Laws → IsSound r.system → AreMachines r → StepsWithin r → (a : HeldAt r at is y) (b : HeldAt r at js z) → length a.held.before < length b.held.before → ⊥
is_first {r} {at} {is} {js} {y} {z} laws sound machines steps a b len =
    let on = passed laws sound machines steps a.held.comes b.held.comes len in
    let values : on.values ≡ a.held.values = same_values laws r sound machines a.held.s (comes_reached a.held.comes) on.values a.held.values on.solves a.held.solves in
    let done : following r a.held.s on.values ≡ Done = ap (following r a.held.s) values ∙ a.held.done in
    let up : a.held.s.t < on.next.t = (subst (λ f. Climbs r.plan.stop f a.held.s on.next) done (climbs on.next steps (comes_reached a.held.comes) on.solves on.leads)).0 in
    let here : y.t ≡ a.held.s.t = ap (λ (u : Situation). u.t) a.held.stands in
    let there : z.t ≡ b.held.s.t = ap (λ (u : Situation). u.t) b.held.stands in
    let within : Contains js (instant_of a.held.s on.values) = subst (λ xs. Contains xs (instant_of a.held.s on.values)) (sym b.held.instants) (Contains-append_left b.held.before (instant_of b.held.s b.held.values ∷ []) (instant_of a.held.s on.values) on.within) in
    let from : at ≤ a.held.s.t = let low : at ≤ y.t = a.reached in omega (arith, low, here) in
    let same : a.held.s.t ≡ z.t = All-contains (λ (i : Instant). at ≤ i.t → i.t ≡ z.t) js (instant_of a.held.s on.values) b.first within from in
    let last : on.next.t ≤ b.held.s.t = on.later in
    omega (arith, up, same, there, last)

pub held_once : (laws : Laws) (r : Run) → IsSound r.system → AreMachines r → StepsWithin r → (at : ℕ) (is js : List Instant) (y z : Situation) → HeldAt r at is y → HeldAt r at js z → (is ≡ js) × (y ≡ z)
held_once laws r sound machines steps at is js y z a b =
    (elim (cases_lt (length a.held.before) (length b.held.before)) as (λ c. (is ≡ js) × (y ≡ z)) [
      | inl shorter ↦ absurd (is_first laws sound machines steps a b shorter)
      | inr not_shorter ↦ (elim (cases_lt (length b.held.before) (length a.held.before)) as (λ c. (is ≡ js) × (y ≡ z)) [
        | inl longer ↦ absurd (is_first laws sound machines steps b a longer)
        | inr not_longer ↦ is_equal laws sound machines a.held b.held (omega (arith, not_shorter, not_longer))
      ])
    ])
