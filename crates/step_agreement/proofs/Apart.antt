-- How the FMUs stand at the end of an agreement, whatever is answered: all at one point where they meet, and apart where it stops.
use Rattle.std.proofs.Common.{◌≡◌, ◌⊎◌, inl, inr, ℕ, zero, suc, ◌+◌, ◌-◌, ◌<◌, ◌==◌, Bool, true, false, not, List, [], ◌∷◌, ◌++◌, Some, refl, sym, ap, ap₂, ◌∙◌, subst, arith, append_assoc, get_or, length}
use Rattle.std.specs.Prelude.{All, ◌&&◌, if◌then◌else◌}
use Rattle.std.specs.List.{slice_get}
use Rattle.std.proofs.lemmas.List.{get_or_default, length-map}
use Rattle.std.proofs.lemmas.List.Elements.{All-append, All-cons, All-nil}
use Rattle.std.proofs.lemmas.Bool.Decides.{nat_tests}
use Rattle.std.proofs.lemmas.Option.{none-some as none_some, same_Some}
use Rattle.value_types.specs.declared.shape.Shape.{Shape}
use Rattle.fmi_calls.specs.declared.call.Call.{Call}
use Rattle.fmi_calls.specs.declared.call.Call.TheVariants as C
use Rattle.system_model.specs.EarlyReturn.{early_count}
use Rattle.slot_calls.specs.Log.{ComponentCall, Sent, component_call, component_calls, part}
use Rattle.slot_calls.specs.Stage.{FailsIn, IsAnswered, IsGoodOf}
use Rattle.slot_calls.specs.declared.bad_answer.BadAnswer.{BadAnswer}
use Rattle.step_agreement.specs.Agreement.{Agrees, Asks, Fails, FirstMeet, FirstStops, GoesAnew, InBack, InStep, IsUnfit, Meets, NextMeet, NextStops, Outcome, Stand, Stops, Unfit, are_at, comes_first, ends_elsewhere, everyone, is_away, is_elsewhere, reached, shapes_in, stand_by, stands_by, stands_from, to_some, to_some_from}
use Rattle.slot_calls.proofs.CallerLemmas.{map_at}
use Rattle.step_agreement.proofs.Agreed.{stands_on}
use Rattle.step_agreement.proofs.RoundInduction.{IsAlong, IsOfRound, asked}
use Rattle.step_agreement.proofs.Falling.{own_stays}
use Rattle.step_agreement.proofs.GoingBack.{Least, c_later, counts_as, first_end, last_later, least, m_later, same_shapes}
use Rattle.step_agreement.proofs.Lists.{Each, all_each, each_all}
use Rattle.step_agreement.proofs.Moves.{own, same_number}

equal : (a b : ℕ) → (a == b) ≡ true → a ≡ b
equal a b q = grind (arith, nat_tests)

stands_none : (t k : ℕ) (ss : List Stand) → stands_from t k ss [] ≡ ss
stands_none t k [] = refl
stands_none t k (s ∷ ss) = ap (λ (xs : List Stand). s ∷ xs) (stands_none t (suc k) ss)

-- each answer is good, and each call one of a round
abbrev pub IsGoodStep : ℕ → List Shape → Sent → Type 0
IsGoodStep t shapes s = IsGoodOf shapes s × IsOfRound t s.exchange.call

abbrev pub AreGoodSteps : ℕ → List Shape → List Sent → Type 0
AreGoodSteps t shapes log = All (IsGoodStep t shapes) log

-- ---- rounds that are answered well

one_more : (P : Call → Type 0) (a : ComponentCall) (rest : List ComponentCall) (b : Bool) → P a.call → All (λ (x : ComponentCall). P x.call) rest → All (λ (x : ComponentCall). P x.call) (if b then a ∷ rest else rest)
one_more P a rest true is all = All-cons (λ (x : ComponentCall). P x.call) a rest is all
one_more P a rest false is all = all

calls_of : {A : Type 0} (P : Call → Type 0) (test : A → Bool) (call : Call) → P call → (k : ℕ) (xs : List A) → All (λ (a : ComponentCall). P a.call) (to_some_from k test call xs)
calls_of P test call is k [] = All-nil (λ (a : ComponentCall). P a.call)
calls_of P test call is k (x ∷ xs) = one_more P (record { component = k; call = call }) (to_some_from (k + 1) test call xs) (test x) is (calls_of P test call is (k + 1) xs)

-- what holds of a round's call holds of each that was sent
pub round_calls : {A : Type 0} (P : Call → Type 0) (test : A → Bool) (call : Call) → P call → (xs : List A) (log : List Sent) → component_calls log ≡ to_some test call xs → All (λ (s : Sent). P s.exchange.call) log
round_calls P test call is xs log calls_are = λ k d w.
    let s = get_or log k d in
    let at : component_call s ≡ get_or (component_calls log) k (component_call s) = map_at component_call log k s (component_call s) w (get_or_default log k d s w) in
    let within : k < length (component_calls log) = let m = length-map log component_call in omega (arith, m, w) in
    subst (λ (a : ComponentCall). P a.call) (sym at) (subst (All (λ (a : ComponentCall). P a.call)) (sym calls_are) (calls_of P test call is 0 xs) k (component_call s) within)

-- in a round of no calls none is answered badly
pub no_asking : (shapes : List Shape) (bad : BadAnswer) (log : List Sent) → FailsIn shapes [] bad log → ⊥
no_asking shapes bad log f = by f.prefix (sym f.calls_are ∙ ap component_calls f.log_is) where
  by : (prefix : List Sent) → [] ≡ component_calls (prefix ++ f.last ∷ f.back) → ⊥
  by [] e = absurd (cc)
  by (s ∷ prefix) e = absurd (cc)

module _ (t : ℕ) (shapes : List Shape) where
  good_round : (test : Stand → Bool) (call : Call) (stands : List Stand) (log : List Sent) → IsOfRound t call → shapes_in stands ≡ shapes → IsAnswered shapes (to_some test call stands) log → AreGoodSteps t shapes log
  good_round test call stands log is same a = λ k d w. (a.good k d w, round_calls (IsOfRound t) test call is stands log a.calls_are k d w)

  pub good_along : IsAlong t shapes (AreGoodSteps t shapes) (λ (bad : BadAnswer) (log : List Sent). Unit {0})
  good_along = record {
    none = All-nil (IsGoodStep t shapes);
    joined = λ prefix back f b. All-append (IsGoodStep t shapes) prefix back f b;
    after = λ bad prefix back f b. tt;
    well = good_round;
    badly = λ test call stands bad log is same f. tt;
  }

-- ---- where they stand

abbrev all_first : Shape → Bool
all_first shape = true

-- each is past t, and all not at one point
pub record AreApart (t : ℕ) (stands : List Stand) : Type 0 where
  pub after : Each (λ (s : Stand). t < s.point) stands
  pub apart : (m : ℕ) → are_at m stands ≡ true → ⊥

pub all_there : (m : ℕ) (stands : List Stand) → are_at m stands ≡ true → Each (λ (s : Stand). s.point ≡ m) stands
all_there m stands h j y at = equal y.point m (all_each (λ (s : Stand). s.point == m) stands h j y at)

pub there_all : (m : ℕ) (stands : List Stand) → Each (λ (s : Stand). s.point ≡ m) stands → are_at m stands ≡ true
there_all m stands h = each_all (λ (s : Stand). s.point == m) stands (λ j y at. same_number y.point m (h j y at))

-- one after a log
stand_after : (t : ℕ) (stands : List Stand) (log : List Sent) (k : ℕ) (s : Stand) → slice_get stands k ≡ Some s → slice_get (stands_by t stands log) k ≡ Some (stand_by t s (part k log))
stand_after t stands log k s at = let place : 0 + k ≡ k = omega arith in from 0 stands k at ∙ ap (λ (n : ℕ). Some (stand_by t s (part n log))) place where
  from : (i : ℕ) (ss : List Stand) (j : ℕ) → slice_get ss j ≡ Some s → slice_get (stands_from t i ss log) j ≡ Some (stand_by t s (part (i + j) log))
  from i [] j is = absurd (none_some s is)
  from i (x ∷ ss) zero is = let place : i ≡ i + 0 = omega arith in ap Some (ap₂ (λ (y : Stand) (n : ℕ). stand_by t y (part n log)) (same_Some x s is) place)
  from i (x ∷ ss) (suc j) is = let place : suc i + j ≡ i + suc j = omega arith in from (suc i) ss j is ∙ ap (λ (n : ℕ). Some (stand_by t s (part n log))) place

apart_by : (t b : ℕ) (stands : List Stand) (prefix : List Sent) (mids : List Stand) (m : ℕ) → mids ≡ stands_by t stands prefix → m ≡ reached t b mids → are_at m mids ≡ false → are_at (reached t b (stands_by t stands prefix)) (stands_by t stands prefix) ≡ false
apart_by t b stands prefix mids m mids_is m_is apart = ap₂ are_at (sym (m_is ∙ ap (reached t b) mids_is)) (sym mids_is) ∙ apart

module _ (t step b : ℕ) (later : t < b) (stands : List Stand) (prefix : List Sent) (asks : Asks t step everyone (comes_first (λ (shape : Shape). true)) b stands prefix) where
  abbrev mid : List Stand
  mid = stands_by t stands prefix

  abbrev m : ℕ
  m = reached t b (stands_by t stands prefix)

  module _ (apart : are_at (reached t b (stands_by t stands prefix)) (stands_by t stands prefix) ≡ false) where
    -- one at the least end
    at_least : (x : Stand) × (k : ℕ) × (slice_get (stands_by t stands prefix) k ≡ Some x) × (x.point ≡ reached t b (stands_by t stands prefix))
    at_least = by (least t step b later stands prefix asks) where
      by : Least t step b later stands prefix asks → (x : Stand) × (k : ℕ) × (slice_get (stands_by t stands prefix) k ≡ Some x) × (x.point ≡ reached t b (stands_by t stands prefix))
      by (inl none) = absurd (let wrong : true ≡ false = sym (ap (are_at m) none.1) ∙ apart in cc)
      by (inr one) = (one.0, one.1.0, one.1.1, sym (one.2 ∙ counts_as t step b later stands prefix asks one.1.0 one.0 one.1.1))

    pub mids_apart : AreApart t (stands_by t stands prefix)
    mids_apart = record {
      after = λ j y at. (first_end t step b later stands prefix asks j y at).later;
      apart = λ n h.
          let x = at_least in
          let same : n ≡ m = sym (all_there n mid h x.1 x.0 x.2) ∙ x.3 in
          let wrong : true ≡ false = sym h ∙ ap (λ (k : ℕ). are_at k mid) same ∙ apart in
          absurd (cc);
    }

    pub ends_apart : (back : List Sent) (asks2 : Asks t step (ends_elsewhere t b m) (is_elsewhere m) m mid back) → are_at m (stands_by t mid back) ≡ false → AreApart t (stands_by t mid back)
    ends_apart back asks2 still = record {
      after = λ j y at. last_later t step b later stands prefix asks back asks2 j y at;
      apart = λ n h.
          let x = at_least in
          let stays : stand_by t x.0 (part x.1 back) ≡ x.0 =
          own_stays t step all_first x.1 m (is_elsewhere m x.0) x.0 (part x.1 back) (own t step (ends_elsewhere t b m) (is_elsewhere m) m mid back asks2 x.1 x.0 x.2) (ap not (same_number x.0.point m x.3)) in
          let there : slice_get (stands_by t mid back) x.1 ≡ Some x.0 = stand_after t mid back x.1 x.0 x.2 ∙ ap Some stays in
          let same : n ≡ m = sym (all_there n (stands_by t mid back) h x.1 x.0 there) ∙ x.3 in
          let wrong : true ≡ false = sym h ∙ ap (λ (k : ℕ). are_at k (stands_by t mid back)) same ∙ still in
          absurd (cc);
    }

-- ---- how it ends

module _ (t step : ℕ) (shapes : List Shape) where
  -- a round with a bad answer after others that were answered well: of steps, or of Restores while all stand apart
  pub record IsBroken (bad : BadAnswer) (stands : List Stand) (log : List Sent) : Type 0 where
    pub prefix : List Sent
    pub more : List Sent
    pub log_is : log ≡ prefix ++ more
    pub good : AreGoodSteps t shapes prefix
    pub test : Stand → Bool
    pub there : List Stand
    pub by : ((size : ℕ) × FailsIn shapes (to_some test (C.DoStep t size) there) bad more)
        ⊎ (AreApart t (stands_by t stands prefix) × FailsIn shapes (to_some test C.Restore there) bad more)

  -- where it can't go on, all stand apart, if not one alone might return early
  abbrev pub EndsSo : List Stand → List Sent → Outcome → Type 0
  EndsSo stands log (Meets m) = AreGoodSteps t shapes log × (are_at m (stands_by t stands log) ≡ true) × (t < m)
  EndsSo stands log (Unfit i e) = AreGoodSteps t shapes log × ((log ≡ []) ⊎ (AreApart t (stands_by t stands log) ⊎ (early_count shapes ≡ 1)))
  EndsSo stands log (Fails bad) = IsBroken bad stands log

  -- all stand at t, or apart after it
  abbrev pub Begins : List Stand → Type 0
  Begins stands = Each (λ (s : Stand). s.point ≡ t) stands ⊎ AreApart t stands

  -- after further rounds that were answered well
  further : (stands mids : List Stand) (prefix rest : List Sent) (outcome : Outcome) → AreGoodSteps t shapes prefix → mids ≡ stands_by t stands prefix → AreApart t mids → EndsSo mids rest outcome → EndsSo stands (prefix ++ rest) outcome
  further stands mids prefix rest (Meets m) good is apart (rest_good, there, later) = (
    All-append (IsGoodStep t shapes) prefix rest good rest_good,
    ap (are_at m) (stands_on t stands prefix rest ∙ ap (λ (xs : List Stand). stands_by t xs rest) (sym is)) ∙ there,
    later,
  )
  further stands mids prefix rest (Unfit i e) good is apart (rest_good, ends) = (All-append (IsGoodStep t shapes) prefix rest good rest_good, inr (by ends)) where
    whole : stands_by t mids rest ≡ stands_by t stands (prefix ++ rest)
    whole = ap (λ (xs : List Stand). stands_by t xs rest) is ∙ sym (stands_on t stands prefix rest)

    by : (rest ≡ []) ⊎ (AreApart t (stands_by t mids rest) ⊎ (early_count shapes ≡ 1)) → AreApart t (stands_by t stands (prefix ++ rest)) ⊎ (early_count shapes ≡ 1)
    by (inl none) = inl (subst (AreApart t) (sym (stands_none t 0 mids) ∙ ap (stands_by t mids) (sym none) ∙ whole) apart)
    by (inr (inl ends_apart)) = inl (subst (AreApart t) whole ends_apart)
    by (inr (inr one)) = inr one
  further stands mids prefix rest (Fails bad) good is apart r = record {
    prefix = prefix ++ r.prefix;
    more = r.more;
    log_is = ap (λ (l : List Sent). prefix ++ l) r.log_is ∙ sym (append_assoc prefix r.prefix r.more);
    good = All-append (IsGoodStep t shapes) prefix r.prefix good r.good;
    test = r.test;
    there = r.there;
    by = by r.by;
  } where
    by : ((size : ℕ) × FailsIn shapes (to_some r.test (C.DoStep t size) r.there) bad r.more) ⊎ (AreApart t (stands_by t mids r.prefix) × FailsIn shapes (to_some r.test C.Restore r.there) bad r.more) →
        ((size : ℕ) × FailsIn shapes (to_some r.test (C.DoStep t size) r.there) bad r.more) ⊎ (AreApart t (stands_by t stands (prefix ++ r.prefix)) × FailsIn shapes (to_some r.test C.Restore r.there) bad r.more)
    by (inl steps) = inl steps
    by (inr (still, fails)) = inr (subst (AreApart t) (ap (λ (xs : List Stand). stands_by t xs r.prefix) is ∙ sym (stands_on t stands prefix r.prefix)) still, fails)

  none_away : (test : Stand → Bool) (k : ℕ) (stands : List Stand) → Each (λ (s : Stand). s.point ≡ t) stands → to_some_from k (is_away t test) C.Restore stands ≡ []
  none_away test k [] home = refl
  none_away test k (s ∷ ss) home =
      ap (λ (x : Bool). if x then record { component = k; call = C.Restore } ∷ to_some_from (k + 1) (is_away t test) C.Restore ss else to_some_from (k + 1) (is_away t test) C.Restore ss)
      (off (test s) (s.point == t) (same_number s.point t (home 0 s refl))) ∙ none_away test (k + 1) ss (λ i x at. home (suc i) x at) where
        off : (x y : Bool) → y ≡ true → (x && not y) ≡ false
        off true true h = refl
        off true false h = absurd (cc)
        off false y h = refl

  module _ (sized test : Stand → Bool) (e : ℕ) (stands : List Stand) (same : shapes_in stands ≡ shapes) (begins : Begins stands) where
    stops : (log : List Sent) (outcome : Outcome) → Stops t step sized test e stands log outcome → EndsSo stands log outcome
    stops log outcome (IsUnfit i unfit none is) = subst (EndsSo stands log) (sym is) (subst (AreGoodSteps t shapes) (sym none) (All-nil (IsGoodStep t shapes)), inl none)
    stops log outcome (InBack bad fits fails is) = subst (EndsSo stands log) (sym is) (by begins (subst (λ (ss : List Shape). FailsIn ss (to_some (is_away t test) C.Restore stands) bad log) same fails)) where
      by : Begins stands → FailsIn shapes (to_some (is_away t test) C.Restore stands) bad log → IsBroken bad stands log
      by (inl home) f = absurd (no_asking shapes bad log (subst (λ (calls : List ComponentCall). FailsIn shapes calls bad log) (none_away test 0 stands home) f))
      by (inr apart) f = record {
        prefix = [];
        more = log;
        log_is = refl;
        good = All-nil (IsGoodStep t shapes);
        test = is_away t test;
        there = stands;
        by = inr (subst (AreApart t) (sym (stands_none t 0 stands)) apart, f);
      }
    stops log outcome (InStep bad backs steps fits back fails log_is is) = subst (EndsSo stands log) (sym is) (record {
      prefix = backs;
      more = steps;
      log_is = log_is;
      good = good_round t shapes (is_away t test) C.Restore stands backs (inl refl) same (subst (λ (ss : List Shape). IsAnswered ss (to_some (is_away t test) C.Restore stands) backs) same back);
      test = test;
      there = stands;
      by = inl (e - t, subst (λ (ss : List Shape). FailsIn ss (to_some test (C.DoStep t (e - t)) stands) bad steps) same fails);
    })

  pub good_asks : (sized test : Stand → Bool) (e : ℕ) (stands : List Stand) → shapes_in stands ≡ shapes → (log : List Sent) → Asks t step sized test e stands log → AreGoodSteps t shapes log
  good_asks sized test e stands same log asks = asked t step all_first shapes (AreGoodSteps t shapes) (λ (bad : BadAnswer) (l : List Sent). Unit {0}) (good_along t shapes) sized test e stands same log asks

  pub all_end_so : (b : ℕ) → t < b → (stands : List Stand) (log : List Sent) (outcome : Outcome) → shapes_in stands ≡ shapes → Begins stands → Agrees t step (λ (shape : Shape). true) b stands log outcome → EndsSo stands log outcome
  all_end_so _ later _ _ _ same begins (FirstStops b stands log outcome h) = stops everyone (comes_first all_first) b stands same begins log outcome h
  all_end_so _ later _ _ _ same begins (FirstMeet b stands log outcome m asks m_is there is) =
      subst (EndsSo stands log) (sym is) (good_asks everyone (comes_first all_first) b stands same log asks, there, subst (λ (n : ℕ). t < n) (sym m_is) (m_later t step b later stands log asks))
  all_end_so _ later _ _ _ same begins (NextStops b stands log outcome m prefix back mids asks mids_is m_is apart h log_is) =
      let are : AreApart t mids = subst (AreApart t) (sym mids_is) (mids_apart t step b later stands prefix asks (apart_by t b stands prefix mids m mids_is m_is apart)) in
      subst (λ (l : List Sent). EndsSo stands l outcome) (sym log_is)
      (further stands mids prefix back outcome (good_asks everyone (comes_first all_first) b stands same prefix asks) mids_is are
      (stops (ends_elsewhere t b m) (is_elsewhere m) m mids (ap shapes_in mids_is ∙ same_shapes t step stands prefix ∙ same) (inr are) back outcome h))
  all_end_so _ later _ _ _ same begins (NextMeet b stands log outcome m prefix back mids asks mids_is m_is apart next there is log_is) =
      let are : AreApart t mids = subst (AreApart t) (sym mids_is) (mids_apart t step b later stands prefix asks (apart_by t b stands prefix mids m mids_is m_is apart)) in
      let after : t < m = subst (λ (n : ℕ). t < n) (sym (m_is ∙ ap (reached t b) mids_is)) (m_later t step b later stands prefix asks) in
      subst (EndsSo stands log) (sym is)
      (subst (λ (l : List Sent). EndsSo stands l (Meets m)) (sym log_is)
      (further stands mids prefix back (Meets m) (good_asks everyone (comes_first all_first) b stands same prefix asks) mids_is are
      (good_asks (ends_elsewhere t b m) (is_elsewhere m) m mids (ap shapes_in mids_is ∙ same_shapes t step stands prefix ∙ same) back next, there, after)))
  all_end_so _ later _ _ _ same begins (GoesAnew b stands log outcome m c prefix back rest mids ends asks mids_is m_is apart next ends_is beyond c_is more log_is) =
      let same_mids : shapes_in mids ≡ shapes = ap shapes_in mids_is ∙ same_shapes t step stands prefix ∙ same in
      let same_ends : shapes_in ends ≡ shapes = ap shapes_in ends_is ∙ same_shapes t step mids back ∙ same_mids in
      let m_own : m ≡ reached t b (stands_by t stands prefix) = m_is ∙ ap (reached t b) mids_is in
      let first_apart = apart_by t b stands prefix mids m mids_is m_is apart in
      let own_next : Asks t step (ends_elsewhere t b (reached t b (stands_by t stands prefix))) (is_elsewhere (reached t b (stands_by t stands prefix))) (reached t b (stands_by t stands prefix)) (stands_by t stands prefix) back =
      subst (λ (xs : List Stand). Asks t step (ends_elsewhere t b (reached t b (stands_by t stands prefix))) (is_elsewhere (reached t b (stands_by t stands prefix))) (reached t b (stands_by t stands prefix)) xs back) mids_is
      (subst (λ (n : ℕ). Asks t step (ends_elsewhere t b n) (is_elsewhere n) n mids back) m_own next) in
      let ends_own : ends ≡ stands_by t (stands_by t stands prefix) back = ends_is ∙ ap (λ (xs : List Stand). stands_by t xs back) mids_is in
      let still : are_at (reached t b (stands_by t stands prefix)) (stands_by t (stands_by t stands prefix) back) ≡ false = ap₂ are_at (sym m_own) (sym ends_own) ∙ beyond in
      let are : AreApart t ends = subst (AreApart t) (sym ends_own) (ends_apart t step b later stands prefix asks first_apart back own_next still) in
      let c_own : c ≡ reached t (reached t b (stands_by t stands prefix)) (stands_by t (stands_by t stands prefix) back) = c_is ∙ ap₂ (reached t) m_own ends_own in
      let after : t < c = subst (λ (n : ℕ). t < n) (sym c_own) (c_later t step b later stands prefix asks back own_next) in
      subst (λ (l : List Sent). EndsSo stands l outcome) (append_assoc prefix back rest ∙ sym log_is)
      (further stands ends (prefix ++ back) rest outcome
      (All-append (IsGoodStep t shapes) prefix back (good_asks everyone (comes_first all_first) b stands same prefix asks) (good_asks (ends_elsewhere t b m) (is_elsewhere m) m mids same_mids back next))
      (ends_own ∙ sym (stands_on t stands prefix back)) are (all_end_so c after ends rest outcome same_ends (inr are) more))
