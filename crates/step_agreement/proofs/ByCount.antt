-- An agreed step by the number of FMUs that might return early: where one alone might it is asked first, and else all are.
use Rattle.std.proofs.Common.{◌≡◌, ◌≢◌, inl, inr, ℕ, ◌-◌, ◌<◌, ◌≤◌, ◌==◌, Bool, true, false, List, [], ◌++◌, Option, Some, None, refl, sym, ap, ◌∙◌, subst, arith, nat_lt}
use Rattle.std.specs.Prelude.{All, if◌then◌else◌}
use Rattle.std.specs.List.{slice_get}
use Rattle.std.specs.Option.{option_map, option_map_or}
use Rattle.std.proofs.lemmas.Bool.Decides.{nat_tests}
use Rattle.std.proofs.lemmas.List.Elements.{All-append, All-nil, All-weaker}
use Rattle.std.proofs.lemmas.Option.{slice_get-map}
use Rattle.value_types.specs.declared.shape.Shape.{Shape}
use Rattle.fmu_peer.specs.Lean.{SizesFall}
use Rattle.system_model.specs.EarlyReturn.{early_count}
use Rattle.system_model.proofs.CallerLemmas.{counts_two}
use Rattle.run_model.specs.Stepping.{asked_first}
use Rattle.slot_calls.specs.Log.{ComponentCall, Sent, part}
use Rattle.slot_calls.specs.Stage.{FailsIn}
use Rattle.step_agreement.specs.Agreement.{Agrees, FirstMeet, FirstStops, GoesAnew, InBack, InStep, IsUnfit, Meets, NextMeet, NextStops, Outcome, Stand, Stops, are_at, comes_first, ends_elsewhere, everyone, is_elsewhere, shapes_in, stand_by, stands_by, stepping}
use Rattle.step_agreement.specs.Falling.{SizesFallAlong}
use Rattle.fmu_peer.specs.Talk.{calls_in}
use Rattle.step_agreement.specs.Saving.{AreAllAt, GoesBackSaved, OnlySavedGoBack, is_saved}
use Rattle.step_agreement.proofs.Agreed.{stands_on}
use Rattle.step_agreement.proofs.Apart.{AreGoodSteps, EndsSo, IsGoodStep, all_end_so, good_asks, no_asking}
use Rattle.step_agreement.proofs.Falling.{Below, all_fall, asks_fall, split_calls, stops_fall, whole}
use Rattle.step_agreement.proofs.GoingBack.{all_first, same_shapes}
use Rattle.step_agreement.proofs.Lists.{Each}
use Rattle.step_agreement.proofs.OneFirst as O
use Rattle.step_agreement.proofs.OneFirst.{IsNoBack, OneEarlyIn, all_meet, elsewhere_waits, none_back, none_goes_back, one_first}
use Rattle.step_agreement.proofs.Tracks.{shape_kept, stand_here}
use Rattle.step_agreement.proofs.Underway.{IsKept, all_meet_within, all_put_back_saved, saved_in}

equal : (a b : ℕ) → (a == b) ≡ true → a ≡ b
equal a b q = grind (arith, nat_tests)

unequal : (a b : ℕ) → (a == b) ≡ false → a ≢ b
unequal a b q = grind (arith, nat_tests)

is_more : (a b : ℕ) → nat_lt a b ≡ true → a < b
is_more a b h = grind (arith, nat_tests)

-- ---- who comes first

pub first_one : (early : ℕ) → (early == 1) ≡ true → asked_first early ≡ one_first
first_one early h = ap {B = Shape → Bool} (λ (x : Bool) (shape : Shape). if x then shape.might_return_early else true) h

pub first_all : (early : ℕ) → (early == 1) ≡ false → asked_first early ≡ all_first
first_all early h = ap {B = Shape → Bool} (λ (x : Bool) (shape : Shape). if x then shape.might_return_early else true) h

-- where they are one, no two might return early
pub one_alone : (stands : List Stand) → early_count (shapes_in stands) ≡ 1 → OneEarlyIn stands
one_alone stands is i j r s at there a b = by (i == j) refl where
  shape_at : (k : ℕ) (x : Stand) → slice_get stands k ≡ Some x → slice_get (shapes_in stands) k ≡ Some x.shape
  shape_at k x h = slice_get-map (λ (y : Stand). y.shape) stands k ∙ ap (option_map (λ (y : Stand). y.shape)) h

  by : (x : Bool) → (i == j) ≡ x → i ≡ j
  by true h = equal i j h
  by false h = absurd (let two = counts_two (shapes_in stands) i j r.shape s.shape (unequal i j h) (shape_at i r at) (shape_at j s there) a b in omega (arith, two, is))

-- one comes first alone, or all do
module _ (t step b : ℕ) (stands : List Stand) (log : List Sent) (outcome : Outcome) where
  pub either : {X : Type 0} → Agrees t step (asked_first (early_count (shapes_in stands))) b stands log outcome → (early_count (shapes_in stands) ≡ 1 → OneEarlyIn stands → Agrees t step one_first b stands log outcome → X) →
      (early_count (shapes_in stands) ≢ 1 → Agrees t step all_first b stands log outcome → X) → X
  either {X} agrees one all = by (early_count (shapes_in stands) == 1) refl where
    by : (x : Bool) → (early_count (shapes_in stands) == 1) ≡ x → X
    by true h =
        let is = equal (early_count (shapes_in stands)) 1 h in
        one is (one_alone stands is) (subst (λ (first : Shape → Bool). Agrees t step first b stands log outcome) (first_one (early_count (shapes_in stands)) h) agrees)
    by false h = all (unequal (early_count (shapes_in stands)) 1 h) (subst (λ (first : Shape → Bool). Agrees t step first b stands log outcome) (first_all (early_count (shapes_in stands)) h) agrees)

-- ---- sizes

module _ (t step i : ℕ) where
  none_left : (x : Bool) (e : ℕ) (last : Option ℕ) → SizesFall (if x then Some e else last) []
  none_left true e last = tt
  none_left false e last = tt

  one_falls : (b : ℕ) (stands : List Stand) (log : List Sent) (outcome : Outcome) → t < b → Each (λ (s : Stand). s.point ≡ t) stands → OneEarlyIn stands → Agrees t step one_first b stands log outcome → (s : Stand) → slice_get stands i ≡ Some s → SizesFall None (calls_in (part i log))
  one_falls _ _ _ _ later home alone (FirstStops b stands log outcome stops) s at = stops_fall t step one_first i everyone (comes_first one_first) b stands log outcome stops s at None (λ h. tt)
  one_falls _ _ _ _ later home alone (FirstMeet b stands log outcome m asks m_is there is) s at =
      whole t step one_first i None (calls_in (part i log)) (asks_fall t step one_first i everyone (comes_first one_first) b stands log asks s at None (λ h. tt) [] (none_left s.shape.might_return_early (b - t) None))
  one_falls _ _ _ _ later home alone (NextStops b stands log outcome m prefix back mids asks mids_are m_is apart stops is) s at =
      let y = stand_by t s (part i prefix) in
      let y_at = ap (λ (ss : List Stand). slice_get ss i) mids_are ∙ stand_here t stands prefix i s at in
      subst (SizesFall None) (sym (ap (λ (l : List Sent). calls_in (part i l)) is ∙ split_calls i prefix back))
      (asks_fall t step one_first i everyone (comes_first one_first) b stands prefix asks s at None (λ h. tt) (calls_in (part i back))
      (stops_fall t step one_first i (ends_elsewhere t b m) (is_elsewhere m) m mids back outcome stops y y_at (if s.shape.might_return_early then Some (b - t) else None)
      (λ h. below s b m (sym (ap (λ (z : Shape). z.might_return_early) (shape_kept t s (part i prefix))) ∙ (elsewhere_waits t step b later stands home alone prefix asks mids mids_are m m_is i y y_at h).1)))) where
        below : (s : Stand) (b m : ℕ) → s.shape.might_return_early ≡ false → Below (if s.shape.might_return_early then Some (b - t) else None) (m - t)
        below s b m h = subst (λ (x : Bool). Below (if x then Some (b - t) else None) (m - t)) (sym h) tt
  one_falls _ _ _ _ later home alone (NextMeet b stands log outcome m prefix back mids asks mids_are m_is apart asks2 there met is) s at =
      let y = stand_by t s (part i prefix) in
      let y_at = ap (λ (ss : List Stand). slice_get ss i) mids_are ∙ stand_here t stands prefix i s at in
      let last : Option ℕ = if s.shape.might_return_early then Some (b - t) else None in
      subst (SizesFall None) (sym (ap (λ (l : List Sent). calls_in (part i l)) is ∙ split_calls i prefix back))
      (asks_fall t step one_first i everyone (comes_first one_first) b stands prefix asks s at None (λ h. tt) (calls_in (part i back))
      (whole t step one_first i last (calls_in (part i back)) (asks_fall t step one_first i (ends_elsewhere t b m) (is_elsewhere m) m mids back asks2 y y_at last
      (λ h. below s b m (sym (ap (λ (z : Shape). z.might_return_early) (shape_kept t s (part i prefix))) ∙ (elsewhere_waits t step b later stands home alone prefix asks mids mids_are m m_is i y y_at h).1)) []
      (none_left (is_elsewhere m y) (m - t) last)))) where
        below : (s : Stand) (b m : ℕ) → s.shape.might_return_early ≡ false → Below (if s.shape.might_return_early then Some (b - t) else None) (m - t)
        below s b m h = subst (λ (x : Bool). Below (if x then Some (b - t) else None) (m - t)) (sym h) tt
  one_falls _ _ _ _ later home alone (GoesAnew b stands log outcome m c prefix back rest mids lasts asks mids_are m_is apart asks2 lasts_are after c_is more is) s at =
      absurd (all_meet t step b later stands home alone prefix asks mids mids_are m m_is back asks2 (ap (are_at m) (sym lasts_are) ∙ after))

pub sizes_fall_along : SizesFallAlong
sizes_fall_along t step b stands log outcome later home agrees i s at =
    either t step b stands log outcome agrees (λ is alone one. one_falls t step i b stands log outcome later home alone one s at) (λ several all. all_fall t step all_first i b stands log outcome later (λ j y h. refl) all s at)

-- ---- who is put back

pub puts_back_saved : (t step b : ℕ) (stands : List Stand) (log : List Sent) (outcome : Outcome) → t < b → AreAllAt t stands → Agrees t step (asked_first (early_count (shapes_in stands))) b stands log outcome → All (IsKept (shapes_in stands)) log
puts_back_saved t step b stands log outcome later home agrees =
    either t step b stands log outcome agrees
    (λ is alone one. All-weaker IsNoBack (IsKept (shapes_in stands)) (λ s no h. absurd (no h)) log (none_goes_back t step b stands log outcome later home alone one))
    (λ several all. all_put_back_saved t step b stands log outcome later several (λ i s at h away. absurd (away (home i s at))) all)

pub only_saved_go_back : OnlySavedGoBack
only_saved_go_back t step b stands log outcome later home agrees =
    All-weaker (IsKept (shapes_in stands)) (GoesBackSaved stands) (λ s kept h. two (shapes_in stands) s.component (kept h)) log (puts_back_saved t step b stands log outcome later home agrees) where
      two : (shapes : List Shape) (i : ℕ) → saved_in shapes i ≡ true → 1 < early_count shapes
      two shapes i h = by (slice_get shapes i) h where
        by : (o : Option Shape) → option_map_or (λ (shape : Shape). is_saved (early_count shapes) shape) o false ≡ true → 1 < early_count shapes
        by None k = absurd (cc)
        by (Some shape) k = is_more 1 (early_count shapes) k

-- ---- where they meet

module _ (t step : ℕ) where
  same_point : (x y : ℕ) → Meets x ≡ Meets y → x ≡ y
  same_point x y h = cc

  not_met : (p : ℕ) (outcome : Outcome) (sized test : Stand → Bool) (e : ℕ) (stands : List Stand) (log : List Sent) → outcome ≡ Meets p → Stops t step sized test e stands log outcome → ⊥
  not_met p outcome sized test e stands log at (IsUnfit i unfit none is) = absurd (let wrong = sym at ∙ is in cc)
  not_met p outcome sized test e stands log at (InBack bad fits fails is) = absurd (let wrong = sym at ∙ is in cc)
  not_met p outcome sized test e stands log at (InStep bad backs steps fits back fails log_is is) = absurd (let wrong = sym at ∙ is in cc)

  one_meets_within : (b : ℕ) (stands : List Stand) (log : List Sent) (outcome : Outcome) (p : ℕ) → outcome ≡ Meets p → t < b → Each (λ (s : Stand). s.point ≡ t) stands → OneEarlyIn stands → Agrees t step one_first b stands log outcome → p ≤ b
  one_meets_within _ _ _ _ p at later home alone (FirstStops b stands log outcome stops) = absurd (not_met p outcome everyone (comes_first one_first) b stands log at stops)
  one_meets_within _ _ _ _ p at later home alone (FirstMeet b stands log outcome m asks m_is there is) =
      let same : m ≡ p = same_point m p (sym is ∙ at) in let l = O.m_within t step b later stands home alone log asks (stands_by t stands log) refl m m_is in omega (arith, same, l)
  one_meets_within _ _ _ _ p at later home alone (NextStops b stands log outcome m prefix back mids asks mids_are m_is apart stops whole) = absurd (not_met p outcome (ends_elsewhere t b m) (is_elsewhere m) m mids back at stops)
  one_meets_within _ _ _ _ p at later home alone (NextMeet b stands log outcome m prefix back mids asks mids_are m_is apart asks2 there is whole) =
      let same : m ≡ p = same_point m p (sym is ∙ at) in let l = O.m_within t step b later stands home alone prefix asks mids mids_are m m_is in omega (arith, same, l)
  one_meets_within _ _ _ _ p at later home alone (GoesAnew b stands log outcome m c prefix back rest mids lasts asks mids_are m_is apart asks2 lasts_are after c_is more whole) =
      absurd (all_meet t step b later stands home alone prefix asks mids mids_are m m_is back asks2 (ap (are_at m) (sym lasts_are) ∙ after))

-- the point where all meet is at most the bound
pub meets_within : (t step b : ℕ) (stands : List Stand) (log : List Sent) (p : ℕ) → t < b → AreAllAt t stands → Agrees t step (asked_first (early_count (shapes_in stands))) b stands log (Meets p) → p ≤ b
meets_within t step b stands log p later home agrees =
    either t step b stands log (Meets p) agrees (λ is alone one. one_meets_within t step b stands log (Meets p) p refl later home alone one) (λ several all. all_meet_within t step b stands log (Meets p) p refl later all)

-- ---- how it ends

module _ (t step : ℕ) (shapes : List Shape) (one : early_count shapes ≡ 1) where
  -- after well answered rounds, one of those that stand at t
  stops_one : (sized test : Stand → Bool) (e : ℕ) (mids : List Stand) → shapes_in mids ≡ shapes → ((i : ℕ) (s : Stand) → slice_get mids i ≡ Some s → test s ≡ true → s.point ≡ t) → (stands : List Stand) (prefix back : List Sent) (outcome : Outcome) → AreGoodSteps t shapes prefix →
      Stops t step sized test e mids back outcome → EndsSo t step shapes stands (prefix ++ back) outcome
  stops_one sized test e mids same home stands prefix back outcome good (IsUnfit i unfit none is) =
      subst (EndsSo t step shapes stands (prefix ++ back)) (sym is) (All-append (IsGoodStep t shapes) prefix back good (subst (AreGoodSteps t shapes) (sym none) (All-nil (IsGoodStep t shapes))), inr (inr one))
  stops_one sized test e mids same home stands prefix back outcome good (InBack bad fits fails is) =
      absurd (no_asking (shapes_in mids) bad back (subst (λ (calls : List ComponentCall). FailsIn (shapes_in mids) calls bad back) (none_back t step sized test e mids home) fails))
  stops_one sized test e mids same home stands prefix back outcome good (InStep bad backs steps fits backed fails log_is is) =
      let none : backs ≡ [] = O.no_log t step sized test e mids home backs (backed.calls_are ∙ none_back t step sized test e mids home) in
      subst (EndsSo t step shapes stands (prefix ++ back)) (sym is) (record {
        prefix = prefix;
        more = steps;
        log_is = ap (λ (l : List Sent). prefix ++ l) (log_is ∙ ap (λ (l : List Sent). l ++ steps) none);
        good = good;
        test = test;
        there = mids;
        by = inl (e - t, subst (λ (ss : List Shape). FailsIn ss (stepping t e test mids) bad steps) same fails);
      })

  one_ends_so : (b : ℕ) (stands : List Stand) (log : List Sent) (outcome : Outcome) → t < b → shapes_in stands ≡ shapes → Each (λ (s : Stand). s.point ≡ t) stands → OneEarlyIn stands → Agrees t step one_first b stands log outcome → EndsSo t step shapes stands log outcome
  one_ends_so _ _ _ _ later same home alone (FirstStops b stands log outcome stops) = stops_one everyone (comes_first one_first) b stands same (λ i s at h. home i s at) stands [] log outcome (All-nil (IsGoodStep t shapes)) stops
  one_ends_so _ _ _ _ later same home alone (FirstMeet b stands log outcome m asks m_is there is) =
      subst (EndsSo t step shapes stands log) (sym is) (
        good_asks t step shapes everyone (comes_first one_first) b stands same log asks,
        there,
        O.m_later t step b later stands home alone log asks (stands_by t stands log) refl m m_is,
      )
  one_ends_so _ _ _ _ later same home alone (NextStops b stands log outcome m prefix back mids asks mids_are m_is apart stops whole) =
      subst (λ (l : List Sent). EndsSo t step shapes stands l outcome) (sym whole)
      (stops_one (ends_elsewhere t b m) (is_elsewhere m) m mids (ap shapes_in mids_are ∙ same_shapes t step stands prefix ∙ same) (λ i y at h. (elsewhere_waits t step b later stands home alone prefix asks mids mids_are m m_is i y at h).0)
      stands prefix back outcome (good_asks t step shapes everyone (comes_first one_first) b stands same prefix asks) stops)
  one_ends_so _ _ _ _ later same home alone (NextMeet b stands log outcome m prefix back mids asks mids_are m_is apart asks2 there is whole) =
      subst (EndsSo t step shapes stands log) (sym is) (
        subst (AreGoodSteps t shapes) (sym whole) (All-append (IsGoodStep t shapes) prefix back (good_asks t step shapes everyone (comes_first one_first) b stands same prefix asks)
            (good_asks t step shapes (ends_elsewhere t b m) (is_elsewhere m) m mids (ap shapes_in mids_are ∙ same_shapes t step stands prefix ∙ same) back asks2)),
        ap (are_at m) (ap (stands_by t stands) whole ∙ stands_on t stands prefix back ∙ ap (λ (ss : List Stand). stands_by t ss back) (sym mids_are)) ∙ there,
        O.m_later t step b later stands home alone prefix asks mids mids_are m m_is,
      )
  one_ends_so _ _ _ _ later same home alone (GoesAnew b stands log outcome m c prefix back rest mids lasts asks mids_are m_is apart asks2 lasts_are after c_is more whole) =
      absurd (all_meet t step b later stands home alone prefix asks mids mids_are m m_is back asks2 (ap (are_at m) (sym lasts_are) ∙ after))

pub ends_so : (t step b : ℕ) (stands : List Stand) (log : List Sent) (outcome : Outcome) → t < b → AreAllAt t stands → Agrees t step (asked_first (early_count (shapes_in stands))) b stands log outcome → EndsSo t step (shapes_in stands) stands log outcome
ends_so t step b stands log outcome later home agrees =
    either t step b stands log outcome agrees (λ is alone one. one_ends_so t step (shapes_in stands) is b stands log outcome later refl home alone one)
    (λ several all. all_end_so t step (shapes_in stands) b later stands log outcome refl (inl home) all)
