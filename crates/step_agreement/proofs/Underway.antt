-- An agreement between two askings: who is asked next, and for what; how it goes on from there; and who was put back so far, where all are asked first.
use Rattle.std.proofs.Common.{◌≡◌, ◌≢◌, ℕ, suc, ◌-◌, ◌<◌, ◌≤◌, ◌==◌, Bool, true, false, not, List, [], ◌∷◌, ◌++◌, Some, refl, sym, ap, ◌∙◌, subst, arith, append_assoc}
use Rattle.std.specs.Prelude.{All, ◌&&◌}
use Rattle.std.specs.List.{slice_get}
use Rattle.std.specs.Option.{option_map, option_map_or}
use Rattle.std.proofs.lemmas.Bool.Decides.{nat_tests}
use Rattle.std.proofs.lemmas.List.Elements.{All-append, All-nil, All-weaker}
use Rattle.std.proofs.lemmas.Option.{slice_get-map}
use Rattle.value_types.specs.declared.shape.Shape.{Shape}
use Rattle.fmi_calls.specs.declared.call.Call.TheVariants as C
use Rattle.system_model.specs.EarlyReturn.{early_count}
use Rattle.slot_calls.specs.Log.{ComponentCall, Sent, component_calls}
use Rattle.slot_calls.specs.Stage.{IsGoodOf}
use Rattle.slot_calls.proofs.CallerLemmas.{sent_all}
use Rattle.step_agreement.specs.Agreement.{Agrees, Asks, FirstMeet, FirstStops, GoesAnew, InBack, InStep, IsUnfit, Meets, NextMeet, NextStops, Outcome, Stand, Stops, are_at, comes_first, ends_elsewhere, everyone, is_away, is_elsewhere, putting_back, reached, shapes_in, stands_by, stands_from, stepping}
use Rattle.step_agreement.specs.Saving.{is_saved}
use Rattle.step_agreement.proofs.Agreed.{stands_on}
use Rattle.step_agreement.proofs.GoingBack.{all_first, c_before, c_later, elsewhere_saved, m_within, same_shapes, saved_beside_two, two_at_last}
use Rattle.step_agreement.proofs.Lists.{Each}
use Rattle.step_agreement.proofs.Machines.{NotBefore, asks_later, reached_later}
use Rattle.step_agreement.proofs.Turns.{IsTo, those_to}

unequal : (a b : ℕ) → (a == b) ≡ false → a ≢ b
unequal a b q = grind (arith, nat_tests)

-- those of some that are asked next, for an end; those whose size is looked at before; and where all stand
pub record Next : Type 0 where
  pub sized : Stand → Bool
  pub test : Stand → Bool
  pub e : ℕ
  pub stands : List Stand

module _ (t step : ℕ) (first : Shape → Bool) where
  -- those that come first are asked for the bound
  abbrev pub first_next : ℕ → List Stand → Next
  first_next b stands = record { sized = everyone; test = comes_first first; e = b; stands = stands }

  abbrev pub mids : List Stand → List Sent → List Stand
  mids stands prefix = stands_by t stands prefix

  -- the least end
  abbrev pub least_end : ℕ → List Stand → List Sent → ℕ
  least_end b stands prefix = reached t b (stands_by t stands prefix)

  -- the others are asked for it
  abbrev pub other_next : ℕ → List Stand → List Sent → Next
  other_next b stands prefix = record {
    sized = ends_elsewhere t b (least_end b stands prefix);
    test = is_elsewhere (least_end b stands prefix);
    e = least_end b stands prefix;
    stands = stands_by t stands prefix;
  }

  abbrev pub AsksNext : Next → List Sent → Type 0
  AsksNext next log = Asks t step next.sized next.test next.e next.stands log

  -- by this log, from the bound b on, all came to where these are asked next
  pub data Underway : ℕ → List Stand → List Sent → Next → Type 0 where
    Begins : (b : ℕ) (stands : List Stand) (log : List Sent) (next : Next) → log ≡ [] → next ≡ first_next b stands → Underway b stands log next
    Others : (b : ℕ) (stands : List Stand) (log : List Sent) (next : Next) → AsksNext (first_next b stands) log → are_at (least_end b stands log) (stands_by t stands log) ≡ false → next ≡ other_next b stands log → Underway b stands log next
    Anew : (b : ℕ) (stands : List Stand) (log : List Sent) (next : Next) (prefix back rest : List Sent) → AsksNext (first_next b stands) prefix → are_at (least_end b stands prefix) (stands_by t stands prefix) ≡ false →
        AsksNext (other_next b stands prefix) back → are_at (least_end b stands prefix) (stands_by t (stands_by t stands prefix) back) ≡ false →
        Underway (least_end (least_end b stands prefix) (stands_by t stands prefix) back) (stands_by t (stands_by t stands prefix) back) rest next → log ≡ prefix ++ (back ++ rest) → Underway b stands log next

  -- they were asked, and met, or they couldn't be, or one of them answered badly
  pub data Closes (next : Next) (log : List Sent) (outcome : Outcome) : Type 0 where
    Met : (point : ℕ) → AsksNext next log → outcome ≡ Meets point → Closes next log outcome
    Stopped : Stops t step next.sized next.test next.e next.stands log outcome → Closes next log outcome

  -- each agreement ends with an asking
  pub record Lasts (b : ℕ) (stands : List Stand) (log : List Sent) (outcome : Outcome) : Type 0 where
    pub prefix : List Sent
    pub more : List Sent
    pub next : Next
    pub log_is : log ≡ prefix ++ more
    pub under : Underway b stands prefix next
    pub closes : Closes next more outcome

  -- what is said of the least end and where they stand is said of these
  own : (b : ℕ) (stands : List Stand) (prefix : List Sent) (P : ℕ → List Stand → Type 0) (m : ℕ) (xs : List Stand) → xs ≡ stands_by t stands prefix → m ≡ reached t b xs → P m xs → P (least_end b stands prefix) (stands_by t stands prefix)
  own b stands prefix P m xs xs_is m_is h = subst (λ (ys : List Stand). P (reached t b ys) ys) xs_is (subst (λ (n : ℕ). P n xs) m_is h)

  pub lasts : (b : ℕ) (stands : List Stand) (log : List Sent) (outcome : Outcome) → Agrees t step first b stands log outcome → Lasts b stands log outcome
  lasts _ _ _ _ (FirstStops b stands log outcome h) = record { prefix = []; more = log; next = first_next b stands; log_is = refl; under = Begins b stands [] (first_next b stands) refl refl; closes = Stopped h }
  lasts _ _ _ _ (FirstMeet b stands log outcome m asks m_is there is) = record { prefix = []; more = log; next = first_next b stands; log_is = refl; under = Begins b stands [] (first_next b stands) refl refl; closes = Met m asks is }
  lasts _ _ _ _ (NextStops b stands log outcome m prefix back xs asks xs_is m_is apart h log_is) =
      let P : ℕ → List Stand → Type 0 = λ n ys. (are_at n ys ≡ false) × Stops t step (ends_elsewhere t b n) (is_elsewhere n) n ys back outcome in
      let so : P (least_end b stands prefix) (stands_by t stands prefix) = own b stands prefix P m xs xs_is m_is (apart, h) in
      record { prefix = prefix; more = back; next = other_next b stands prefix; log_is = log_is; under = Others b stands prefix (other_next b stands prefix) asks so.0 refl; closes = Stopped so.1 }
  lasts _ _ _ _ (NextMeet b stands log outcome m prefix back xs asks xs_is m_is apart asks2 there is log_is) =
      let P : ℕ → List Stand → Type 0 = λ n ys. (are_at n ys ≡ false) × Asks t step (ends_elsewhere t b n) (is_elsewhere n) n ys back in
      let so : P (least_end b stands prefix) (stands_by t stands prefix) = own b stands prefix P m xs xs_is m_is (apart, asks2) in
      record { prefix = prefix; more = back; next = other_next b stands prefix; log_is = log_is; under = Others b stands prefix (other_next b stands prefix) asks so.0 refl; closes = Met m so.1 is }
  lasts _ _ _ _ (GoesAnew b stands log outcome m c prefix back rest xs ys asks xs_is m_is apart asks2 ys_is after c_is more log_is) =
      let R : ℕ → List Stand → Type 0 = λ n zs. Lasts n zs rest outcome in
      let fell : R (reached t m (stands_by t xs back)) (stands_by t xs back) = subst (λ (zs : List Stand). R (reached t m zs) zs) ys_is (subst (λ (n : ℕ). R n ys) c_is (lasts c ys rest outcome more)) in
      let P : ℕ → List Stand → Type 0 = λ n zs. (are_at n zs ≡ false) × (Asks t step (ends_elsewhere t b n) (is_elsewhere n) n zs back × ((are_at n (stands_by t zs back) ≡ false) × R (reached t n (stands_by t zs back)) (stands_by t zs back))) in
      let so : P (least_end b stands prefix) (stands_by t stands prefix) = own b stands prefix P m xs xs_is m_is (apart, (asks2, (ap (are_at m) (sym ys_is) ∙ after, fell))) in
      let l = so.1.1.1 in
      record {
        prefix = prefix ++ (back ++ l.prefix);
        more = l.more;
        next = l.next;
        log_is = log_is ∙ ap (λ (x : List Sent). prefix ++ (back ++ x)) l.log_is ∙ ap (λ (x : List Sent). prefix ++ x) (sym (append_assoc back l.prefix l.more)) ∙ sym (append_assoc prefix (back ++ l.prefix) l.more);
        under = Anew b stands (prefix ++ (back ++ l.prefix)) l.next prefix back l.prefix asks so.0 so.1.0 so.1.1.0 l.under refl;
        closes = l.closes;
      }

module _ (t step : ℕ) where
  same_point : (x y : ℕ) → Meets x ≡ Meets y → x ≡ y
  same_point x y h = cc

  -- the point where all meet is at most the bound
  pub all_meet_within : (b : ℕ) (stands : List Stand) (log : List Sent) (outcome : Outcome) (p : ℕ) → outcome ≡ Meets p → t < b → Agrees t step all_first b stands log outcome → p ≤ b
  all_meet_within _ _ _ _ p at later (FirstStops b stands log outcome (IsUnfit i unfit none is)) = absurd (let wrong = sym at ∙ is in cc)
  all_meet_within _ _ _ _ p at later (FirstStops b stands log outcome (InBack bad fits fails is)) = absurd (let wrong = sym at ∙ is in cc)
  all_meet_within _ _ _ _ p at later (FirstStops b stands log outcome (InStep bad backs steps fits back fails log_is is)) = absurd (let wrong = sym at ∙ is in cc)
  all_meet_within _ _ _ _ p at later (FirstMeet b stands log outcome m asks m_is there is) =
      let same : m ≡ p = same_point m p (sym is ∙ at) in let l = m_within t step b later stands log asks in omega (arith, same, m_is, l)
  all_meet_within _ _ _ _ p at later (NextStops b stands log outcome m prefix back xs asks xs_is m_is apart (IsUnfit i unfit none is) log_is) = absurd (let wrong = sym at ∙ is in cc)
  all_meet_within _ _ _ _ p at later (NextStops b stands log outcome m prefix back xs asks xs_is m_is apart (InBack bad fits fails is) log_is) = absurd (let wrong = sym at ∙ is in cc)
  all_meet_within _ _ _ _ p at later (NextStops b stands log outcome m prefix back xs asks xs_is m_is apart (InStep bad backs steps fits back_good fails steps_is is) log_is) = absurd (let wrong = sym at ∙ is in cc)
  all_meet_within _ _ _ _ p at later (NextMeet b stands log outcome m prefix back xs asks xs_is m_is apart asks2 there is log_is) =
      let same : m ≡ p = same_point m p (sym is ∙ at) in let l = m_within t step b later stands prefix asks in let own_m = m_is ∙ ap (reached t b) xs_is in omega (arith, same, own_m, l)
  all_meet_within _ _ _ _ p at later (GoesAnew b stands log outcome m c prefix back rest xs ys asks xs_is m_is apart asks2 ys_is after c_is more log_is) =
      let P : ℕ → List Stand → Type 0 = λ n zs. Asks t step (ends_elsewhere t b n) (is_elsewhere n) n zs back × ((are_at n (stands_by t zs back) ≡ false) × (c ≡ reached t n (stands_by t zs back))) in
      let so : P (reached t b (stands_by t stands prefix)) (stands_by t stands prefix) = own t step all_first b stands prefix P m xs xs_is m_is (asks2, (ap (are_at m) (sym ys_is) ∙ after, c_is ∙ ap (reached t m) ys_is)) in
      let same = so.1.1 in
      let low = c_before t step b later stands prefix asks back so.0 so.1.0 in
      let above = c_later t step b later stands prefix asks back so.0 in
      let m_low = m_within t step b later stands prefix asks in
      let rest_within = all_meet_within c ys rest outcome p at (omega (arith, same, above)) more in
      omega (arith, same, low, m_low, rest_within)

-- ---- who is put back

-- whether the state of the i-th is saved, by their shapes
abbrev pub saved_in : List Shape → ℕ → Bool
saved_in shapes i = option_map_or (λ (shape : Shape). is_saved (early_count shapes) shape) (slice_get shapes i) false

-- a call puts back only one whose state is saved
abbrev pub IsKept : List Shape → Sent → Type 0
IsKept shapes s = s.exchange.call ≡ C.Restore → saved_in shapes s.component ≡ true

-- those that pass the test and are past t are saved
abbrev pub AreSaved : ℕ → (Stand → Bool) → List Stand → Type 0
AreSaved t test stands = (i : ℕ) (s : Stand) → slice_get stands i ≡ Some s → test s ≡ true → s.point ≢ t → is_saved (early_count (shapes_in stands)) s.shape ≡ true

module _ (t step : ℕ) where
  away_is : (test : Stand → Bool) (s : Stand) → is_away t test s ≡ true → (test s ≡ true) × (s.point ≢ t)
  away_is test s h = by (test s) (s.point == t) refl refl h where
    by : (x y : Bool) → test s ≡ x → (s.point == t) ≡ y → (x && not y) ≡ true → (test s ≡ true) × (s.point ≢ t)
    by true false a b k = (a, unequal s.point t b)
    by true true a b k = absurd (cc)
    by false y a b k = absurd (cc)

  pub saved_there : (stands : List Stand) (i : ℕ) (s : Stand) → slice_get stands i ≡ Some s → is_saved (early_count (shapes_in stands)) s.shape ≡ true → saved_in (shapes_in stands) i ≡ true
  saved_there stands i s at h =
      ap (λ o. option_map_or (λ (shape : Shape). is_saved (early_count (shapes_in stands)) shape) o false) (slice_get-map (λ (x : Stand). x.shape) stands i ∙ ap (option_map (λ (x : Stand). x.shape)) at) ∙ h

  module _ (test : Stand → Bool) (stands : List Stand) (saved : AreSaved t test stands) where
    kept_back : (log : List Sent) → component_calls log ≡ putting_back t test stands → All (IsKept (shapes_in stands)) log
    kept_back log is = sent_all (λ (a : ComponentCall). a.call ≡ C.Restore → saved_in (shapes_in stands) a.component ≡ true) log (putting_back t test stands) is
        (All-weaker (IsTo (is_away t test) (λ (s : Stand). C.Restore) 0 stands) (λ (a : ComponentCall). a.call ≡ C.Restore → saved_in (shapes_in stands) a.component ≡ true)
        (λ a to restore.
        let x = away_is test to.one to.asked in
        let at = to.at in
        let place : to.place ≡ a.component = omega (arith, at) in
        subst (λ (n : ℕ). saved_in (shapes_in stands) n ≡ true) place (saved_there stands to.place to.one to.is (saved to.place to.one to.is x.0 x.1)))
        (putting_back t test stands) (those_to (is_away t test) (λ (s : Stand). C.Restore) 0 stands))

    kept_steps : (e : ℕ) (log : List Sent) → component_calls log ≡ stepping t e test stands → All (IsKept (shapes_in stands)) log
    kept_steps e log is = sent_all (λ (a : ComponentCall). a.call ≡ C.Restore → saved_in (shapes_in stands) a.component ≡ true) log (stepping t e test stands) is
        (All-weaker (IsTo test (λ (s : Stand). C.DoStep t (e - t)) 0 stands) (λ (a : ComponentCall). a.call ≡ C.Restore → saved_in (shapes_in stands) a.component ≡ true)
        (λ a to restore. absurd (let wrong : C.Restore ≡ C.DoStep t (e - t) = sym restore ∙ to.call_is in cc))
        (stepping t e test stands) (those_to test (λ (s : Stand). C.DoStep t (e - t)) 0 stands))

    pub kept_asks : (sized : Stand → Bool) (e : ℕ) (log : List Sent) → Asks t step sized test e stands log → All (IsKept (shapes_in stands)) log
    kept_asks sized e log a =
        subst (λ (l : List Sent). All (IsKept (shapes_in stands)) l) (sym a.log_is)
        (All-append (IsKept (shapes_in stands)) a.backs a.steps (kept_back a.backs a.back.calls_are) (kept_steps e a.steps a.stepped.calls_are))

    pub kept_stops : (sized : Stand → Bool) (e : ℕ) (log : List Sent) (outcome : Outcome) → Stops t step sized test e stands log outcome → All (IsKept (shapes_in stands)) log
    kept_stops sized e log outcome (IsUnfit i unfit none is) = subst (λ (l : List Sent). All (IsKept (shapes_in stands)) l) (sym none) (All-nil (IsKept (shapes_in stands)))
    kept_stops sized e log outcome (InBack bad fits fails is) = kept_back log fails.calls_are
    kept_stops sized e log outcome (InStep bad backs steps fits back fails log_is is) =
        subst (λ (l : List Sent). All (IsKept (shapes_in stands)) l) (sym log_is)
        (All-append (IsKept (shapes_in stands)) backs steps (kept_back backs back.calls_are) (kept_steps e steps fails.calls_are))

  good_asks : (sized test : Stand → Bool) (e : ℕ) (stands : List Stand) (log : List Sent) → Asks t step sized test e stands log → All (IsGoodOf (shapes_in stands)) log
  good_asks sized test e stands log a = subst (λ (l : List Sent). All (IsGoodOf (shapes_in stands)) l) (sym a.log_is) (All-append (IsGoodOf (shapes_in stands)) a.backs a.steps a.back.good a.stepped.good)

  stands_none : (k : ℕ) (ss : List Stand) → stands_from t k ss [] ≡ ss
  stands_none k [] = refl
  stands_none k (s ∷ ss) = ap (λ (xs : List Stand). s ∷ xs) (stands_none (suc k) ss)

  elsewhere : (m p : ℕ) → not (p == m) ≡ true → p ≢ m
  elsewhere m p h = unequal p m (unnot (p == m) h) where
    unnot : (x : Bool) → not x ≡ true → x ≡ false
    unnot true k = absurd (cc)
    unnot false k = refl

  all_saved : (stands : List Stand) (test : Stand → Bool) → 1 < early_count (shapes_in stands) → AreSaved t test stands
  all_saved stands test many i s at h away = saved_beside_two (early_count (shapes_in stands)) s.shape many

  -- who was put back so far was saved, and so are those who are next
  record AreKept (stands : List Stand) (log : List Sent) (next : Next) : Type 0 where
    shapes : shapes_in next.stands ≡ shapes_in stands
    saved : AreSaved t next.test next.stands
    kept : All (IsKept (shapes_in stands)) log

  are_kept : (b : ℕ) (stands : List Stand) (log : List Sent) (next : Next) → t < b → early_count (shapes_in stands) ≢ 1 → AreSaved t everyone stands → Underway t step all_first b stands log next → AreKept stands log next
  are_kept _ _ _ _ later many saved (Begins b stands log next none is) =
      subst (λ (l : List Sent). AreKept stands l next) (sym none) (subst (AreKept stands []) (sym is) (record { shapes = refl; saved = saved; kept = All-nil (IsKept (shapes_in stands)) }))
  are_kept _ _ _ _ later many saved (Others b stands log next asks apart is) =
      subst (AreKept stands log) (sym is) (record {
        shapes = same_shapes t step stands log;
        saved = λ i s at h away. elsewhere_saved t step b later stands log asks i s at (elsewhere (reached t b (stands_by t stands log)) s.point h) (subst (λ (ss : List Shape). early_count ss ≢ 1) (sym (same_shapes t step stands log)) many);
        kept = kept_asks everyone stands saved everyone b log asks;
      })
  are_kept _ _ _ _ later many saved (Anew b stands log next prefix back rest asks apart asks2 after more log_is) =
      let first_shapes = same_shapes t step stands prefix in
      let shapes = same_shapes t step (stands_by t stands prefix) back ∙ first_shapes in
      let m = reached t b (stands_by t stands prefix) in
      let many_mids = subst (λ (ss : List Shape). early_count ss ≢ 1) (sym first_shapes) many in
      let many_lasts = subst (λ (ss : List Shape). early_count ss ≢ 1) (sym shapes) many in
      let two : 1 < early_count (shapes_in (stands_by t (stands_by t stands prefix) back)) = subst (λ (ss : List Shape). 1 < early_count ss) (sym (same_shapes t step (stands_by t stands prefix) back)) (two_at_last t step b later stands prefix asks back asks2 after) in
      let u = are_kept (reached t m (stands_by t (stands_by t stands prefix) back)) (stands_by t (stands_by t stands prefix) back) rest next (c_later t step b later stands prefix asks back asks2) many_lasts (all_saved (stands_by t (stands_by t stands prefix) back) everyone two) more in
      record {
        shapes = u.shapes ∙ shapes;
        saved = u.saved;
        kept = subst (λ (l : List Sent). All (IsKept (shapes_in stands)) l) (sym log_is)
            (All-append (IsKept (shapes_in stands)) prefix (back ++ rest) (kept_asks everyone stands saved everyone b prefix asks)
            (All-append (IsKept (shapes_in stands)) back rest
            (subst (λ (ss : List Shape). All (IsKept ss) back) first_shapes
            (kept_asks (is_elsewhere m) (stands_by t stands prefix) (λ i s at h away. elsewhere_saved t step b later stands prefix asks i s at (elsewhere m s.point h) many_mids) (ends_elsewhere t b m) m back asks2))
            (subst (λ (ss : List Shape). All (IsKept ss) rest) shapes u.kept)));
      }

  -- whatever it comes to, it puts back only those whose states are saved
  pub all_put_back_saved : (b : ℕ) (stands : List Stand) (log : List Sent) (outcome : Outcome) → t < b → early_count (shapes_in stands) ≢ 1 → AreSaved t everyone stands → Agrees t step all_first b stands log outcome → All (IsKept (shapes_in stands)) log
  all_put_back_saved b stands log outcome later many saved agrees = by (lasts t step all_first b stands log outcome agrees) where
    closed : (next : Next) (more : List Sent) → AreSaved t next.test next.stands → Closes t step all_first next more outcome → All (IsKept (shapes_in next.stands)) more
    closed next more so (Met p asks is) = kept_asks next.test next.stands so next.sized next.e more asks
    closed next more so (Stopped stops) = kept_stops next.test next.stands so next.sized next.e more outcome stops

    by : Lasts t step all_first b stands log outcome → All (IsKept (shapes_in stands)) log
    by l =
        let u = are_kept b stands l.prefix l.next later many saved l.under in
        subst (λ (x : List Sent). All (IsKept (shapes_in stands)) x) (sym l.log_is)
        (All-append (IsKept (shapes_in stands)) l.prefix l.more u.kept (subst (λ (ss : List Shape). All (IsKept ss) l.more) u.shapes (closed l.next l.more u.saved l.closes)))

-- ---- between two askings

module _ (t step : ℕ) (first : Shape → Bool) where
  -- where an agreement stands between two askings
  pub record IsUnder (stands : List Stand) (log : List Sent) (next : Next) : Type 0 where
    pub later : t < next.e
    pub shapes : shapes_in next.stands ≡ shapes_in stands
    pub stands_are : next.stands ≡ stands_by t stands log
    pub good : All (IsGoodOf (shapes_in stands)) log

  pub is_under : (b : ℕ) (stands : List Stand) (log : List Sent) (next : Next) → t < b → Each (NotBefore t) stands → Underway t step first b stands log next → IsUnder stands log next
  is_under _ _ _ _ later low (Begins b stands log next none is) =
      subst (λ (l : List Sent). IsUnder stands l next) (sym none) (subst (IsUnder stands []) (sym is) (record { later = later; shapes = refl; stands_are = sym (stands_none t step 0 stands); good = All-nil (IsGoodOf (shapes_in stands)) }))
  is_under _ _ _ _ later low (Others b stands log next asks apart is) =
      subst (IsUnder stands log) (sym is) (record {
        later = reached_later t b (stands_by t stands log) later (asks_later t step everyone (comes_first first) b stands log asks low);
        shapes = same_shapes t step stands log;
        stands_are = refl;
        good = good_asks t step everyone (comes_first first) b stands log asks;
      })
  is_under _ _ _ _ later low (Anew b stands log next prefix back rest asks apart asks2 after more log_is) =
      let first_shapes = same_shapes t step stands prefix in
      let shapes = same_shapes t step (stands_by t stands prefix) back ∙ first_shapes in
      let m = reached t b (stands_by t stands prefix) in
      let low_mids = asks_later t step everyone (comes_first first) b stands prefix asks low in
      let m_after = reached_later t b (stands_by t stands prefix) later low_mids in
      let low_lasts = asks_later t step (ends_elsewhere t b m) (is_elsewhere m) m (stands_by t stands prefix) back asks2 low_mids in
      let u = is_under (reached t m (stands_by t (stands_by t stands prefix) back)) (stands_by t (stands_by t stands prefix) back) rest next (reached_later t m (stands_by t (stands_by t stands prefix) back) m_after low_lasts) low_lasts more in
      record {
        later = u.later;
        shapes = u.shapes ∙ shapes;
        stands_are = u.stands_are ∙ sym (ap (stands_by t stands) log_is ∙ stands_on t stands prefix (back ++ rest) ∙ stands_on t (stands_by t stands prefix) back rest);
        good = subst (λ (l : List Sent). All (IsGoodOf (shapes_in stands)) l) (sym log_is)
            (All-append (IsGoodOf (shapes_in stands)) prefix (back ++ rest) (good_asks t step everyone (comes_first first) b stands prefix asks)
            (All-append (IsGoodOf (shapes_in stands)) back rest
            (subst (λ (ss : List Shape). All (IsGoodOf ss) back) first_shapes (good_asks t step (ends_elsewhere t b m) (is_elsewhere m) m (stands_by t stands prefix) back asks2))
            (subst (λ (ss : List Shape). All (IsGoodOf ss) rest) shapes u.good)));
      }
