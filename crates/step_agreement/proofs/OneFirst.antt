-- An agreed step in which one FMU alone might return early, and is asked first: the others wait, and are asked for its end; none is put back, and all meet there.
use Rattle.std.proofs.Common.{◌≡◌, ◌≢◌, ◌⊎◌, inl, inr, ℕ, suc, ◌+◌, ◌-◌, ◌<◌, ◌≤◌, ◌==◌, Bool, true, false, not, List, [], ◌∷◌, ◌++◌, Some, refl, sym, ap, ◌∙◌, subst, arith, map}
use Rattle.std.specs.Prelude.{All, ◌&&◌, if◌then◌else◌}
use Rattle.std.specs.List.{slice_get}
use Rattle.std.proofs.lemmas.Bool.Decides.{nat_tests}
use Rattle.std.proofs.lemmas.List.Elements.{All-append, All-nil}
use Rattle.std.proofs.lemmas.Option.{same_Some}
use Rattle.value_types.specs.declared.shape.Shape.{Shape}
use Rattle.fmi_calls.specs.declared.call.Call.{Call}
use Rattle.fmi_calls.specs.declared.call.Call.TheVariants as C
use Rattle.run_model.specs.Steps.{least_or}
use Rattle.slot_calls.specs.Log.{ComponentCall, Sent, component_calls, part}
use Rattle.slot_calls.specs.Stage.{FailsIn, IsAnswered}
use Rattle.step_agreement.specs.Agreement.{Agrees, Asks, FirstMeet, FirstStops, GoesAnew, InBack, InStep, IsUnfit, NextMeet, NextStops, Outcome, Stand, Stops, are_at, comes_first, end_at, ends_elsewhere, everyone, is_away, is_elsewhere, putting_back, reached, shapes_in, stand_by, stands_by, to_some_from}
use Rattle.step_agreement.proofs.Apart.{no_asking, round_calls}
use Rattle.step_agreement.proofs.Falling.{own_stays, stood}
use Rattle.step_agreement.proofs.Lists.{Each, Holds, least_is, least_low, not_all}
use Rattle.step_agreement.proofs.Moves.{IsEnd, other_number, own, own_is_end, same_number}
use Rattle.step_agreement.proofs.Tracks.{shape_kept}

equal : (a b : ℕ) → (a == b) ≡ true → a ≡ b
equal a b q = grind (arith, nat_tests)

unequal : (a b : ℕ) → (a == b) ≡ false → a ≢ b
unequal a b q = grind (arith, nat_tests)

unnot : (x : Bool) → not x ≡ true → x ≡ false
unnot true h = absurd (cc)
unnot false h = refl

-- ---- askings of those that stand at t

abbrev pub IsNoBack : Sent → Type 0
IsNoBack s = s.exchange.call ≡ C.Restore → ⊥

no_back_step : (t size : ℕ) → C.DoStep t size ≡ C.Restore → ⊥
no_back_step t size e = cc

module _ (t step : ℕ) (sized test : Stand → Bool) (e : ℕ) (stands : List Stand) (home : (i : ℕ) (s : Stand) → slice_get stands i ≡ Some s → test s ≡ true → s.point ≡ t) where
  -- nobody goes back
  pub none_back : putting_back t test stands ≡ []
  none_back = by 0 stands home where
    off : (s : Stand) (x : Bool) → test s ≡ x → (test s ≡ true → s.point ≡ t) → is_away t test s ≡ false
    off s true is h = ap (λ (y : Bool). test s && not y) (same_number s.point t (h is)) ∙ ap (λ (y : Bool). y && false) is
    off s false is h = ap (λ (y : Bool). y && not (s.point == t)) is

    by : (k : ℕ) (ss : List Stand) → ((i : ℕ) (s : Stand) → slice_get ss i ≡ Some s → test s ≡ true → s.point ≡ t) → to_some_from k (is_away t test) C.Restore ss ≡ []
    by k [] h = refl
    by k (s ∷ ss) h =
        ap (λ (x : Bool). if x then record { component = k; call = C.Restore } ∷ to_some_from (k + 1) (is_away t test) C.Restore ss else to_some_from (k + 1) (is_away t test) C.Restore ss)
        (off s (test s) refl (h 0 s refl)) ∙ by (k + 1) ss (λ i x at. h (suc i) x at)

  pub no_log : (log : List Sent) → component_calls log ≡ [] → log ≡ []
  no_log [] is = refl
  no_log (s ∷ log) is = absurd (cc)

  backs_none : (backs : List Sent) → IsAnswered (shapes_in stands) (putting_back t test stands) backs → backs ≡ []
  backs_none backs back = no_log backs (back.calls_are ∙ none_back)

  steps_no_back : (steps : List Sent) → component_calls steps ≡ to_some_from 0 test (C.DoStep t (e - t)) stands → All IsNoBack steps
  steps_no_back steps is = round_calls (λ (c : Call). c ≡ C.Restore → ⊥) test (C.DoStep t (e - t)) (no_back_step t (e - t)) stands steps is

  after_none : (log backs steps : List Sent) → log ≡ backs ++ steps → IsAnswered (shapes_in stands) (putting_back t test stands) backs → log ≡ steps
  after_none log backs steps is back = is ∙ ap (λ (l : List Sent). l ++ steps) (backs_none backs back)

  pub asks_no_back : (log : List Sent) → Asks t step sized test e stands log → All IsNoBack log
  asks_no_back log a = subst (All IsNoBack) (sym (after_none log a.backs a.steps a.log_is a.back)) (steps_no_back a.steps a.stepped.calls_are)

  pub stops_no_back : (log : List Sent) (outcome : Outcome) → Stops t step sized test e stands log outcome → All IsNoBack log
  stops_no_back log outcome (IsUnfit i h none is) = subst (All IsNoBack) (sym none) (All-nil IsNoBack)
  stops_no_back log outcome (InBack bad fits fails is) = absurd (no_asking (shapes_in stands) bad log (subst (λ (calls : List ComponentCall). FailsIn (shapes_in stands) calls bad log) none_back fails))
  stops_no_back log outcome (InStep bad backs steps fits back fails log_is is) = subst (All IsNoBack) (sym (after_none log backs steps log_is back)) (steps_no_back steps fails.calls_are)

-- ---- one alone might return early

abbrev pub one_first : Shape → Bool
one_first shape = shape.might_return_early

-- no two of these might return early
abbrev pub OneEarlyIn : List Stand → Type 0
OneEarlyIn stands =
    (i j : ℕ) (r s : Stand) → slice_get stands i ≡ Some r → slice_get stands j ≡ Some s → r.shape.might_return_early ≡ true → s.shape.might_return_early ≡ true → i ≡ j

module _ (t step : ℕ) where
  stood_at : (stands : List Stand) (log : List Sent) (j : ℕ) (y : Stand) → slice_get (stands_by t stands log) j ≡ Some y → (s : Stand) × (slice_get stands j ≡ Some s) × (y ≡ stand_by t s (part j log))
  stood_at stands log j y at = stood t step one_first j stands log j y at

  -- after the first asking
  module _ (b : ℕ) (later : t < b) (stands : List Stand) (home : Each (λ (s : Stand). s.point ≡ t) stands) (alone : OneEarlyIn stands) (prefix : List Sent) (asks : Asks t step everyone (comes_first one_first) b stands prefix)
      (mids : List Stand) (mids_are : mids ≡ stands_by t stands prefix) (m : ℕ) (m_is : m ≡ reached t b mids) where
    was : (j : ℕ) (y : Stand) → slice_get mids j ≡ Some y → (s : Stand) × (slice_get stands j ≡ Some s) × (y ≡ stand_by t s (part j prefix))
    was j y at = stood_at stands prefix j y (ap (λ (ss : List Stand). slice_get ss j) (sym mids_are) ∙ at)

    shape_is : (j : ℕ) (y : Stand) (at : slice_get mids j ≡ Some y) → y.shape ≡ (was j y at).0.shape
    shape_is j y at = let w = was j y at in ap (λ (z : Stand). z.shape) w.2 ∙ shape_kept t w.0 (part j prefix)

    -- one that comes first
    asked_end : (j : ℕ) (y : Stand) → slice_get mids j ≡ Some y → one_first y.shape ≡ true → IsEnd y.shape t (b - t) y.point
    asked_end j y at h =
        let w = was j y at in
        let e = own_is_end t b (one_first w.0.shape) w.0 (part j prefix) (own t step everyone (comes_first one_first) b stands prefix asks j w.0 w.1) (ap one_first (sym (shape_is j y at)) ∙ h) in
        subst (λ (z : Shape). IsEnd z t (b - t) y.point) (sym (shape_is j y at)) (subst (λ (z : Stand). IsEnd w.0.shape t (b - t) z.point) (sym w.2) e)

    -- one that waits
    pub waits : (j : ℕ) (y : Stand) → slice_get mids j ≡ Some y → one_first y.shape ≡ false → y.point ≡ t
    waits j y at h =
        let w = was j y at in
        ap (λ (z : Stand). z.point) (w.2 ∙ own_stays t step one_first j b (one_first w.0.shape) w.0 (part j prefix) (own t step everyone (comes_first one_first) b stands prefix asks j w.0 w.1) (ap one_first (sym (shape_is j y at)) ∙ h)) ∙ home j w.0 w.1

    -- what it counts as, and that it is the bound where it may not end early
    end_by : (j : ℕ) (y : Stand) → slice_get mids j ≡ Some y → (x : Bool) → one_first y.shape ≡ x → (t < end_at t b y) × (end_at t b y ≤ b) × (y.shape.might_return_early ≡ false → end_at t b y ≡ b)
    end_by j y at true h =
        let e = asked_end j y at h in
        let l = e.later in let k = e.within in
        let d : end_at t b y ≡ y.point = ap (λ (z : Bool). if z then b else y.point) (other_number y.point t (omega (arith, l))) in
        (omega (arith, d, l), omega (arith, d, k, later), λ un. let u = e.whole un in omega (arith, d, u, later))
    end_by j y at false h =
        let d : end_at t b y ≡ b = ap (λ (z : Bool). if z then b else y.point) (same_number y.point t (waits j y at h)) in
        (omega (arith, d, later), omega (arith, d), λ un. d)

    m_low : Each (λ (y : Stand). m ≤ end_at t b y) mids
    m_low j y at = let l = least_low (end_at t b) b mids j y at in omega (arith, l, m_is)

    pub m_later : t < m
    m_later = by (least_is (end_at t b) b mids) where
      by : ((least_or b (map (end_at t b) mids) ≡ b) × (mids ≡ [])) ⊎ ((x : Stand) × Holds mids x × (least_or b (map (end_at t b) mids) ≡ end_at t b x)) → t < m
      by (inl none) = let e = none.0 in omega (arith, e, m_is, later)
      by (inr one) = let l = (end_by one.1.0 one.0 one.1.1 (one_first one.0.shape) refl).0 in let e = one.2 in omega (arith, e, m_is, l)

    pub m_within : m ≤ b
    m_within = by (least_is (end_at t b) b mids) where
      by : ((least_or b (map (end_at t b) mids) ≡ b) × (mids ≡ [])) ⊎ ((x : Stand) × Holds mids x × (least_or b (map (end_at t b) mids) ≡ end_at t b x)) → m ≤ b
      by (inl none) = let e = none.0 in omega (arith, e, m_is)
      by (inr one) = let l = (end_by one.1.0 one.0 one.1.1 (one_first one.0.shape) refl).1 in let e = one.2 in omega (arith, e, m_is, l)

    -- the one that might return early is at the least end
    pub early_at : (j : ℕ) (y : Stand) → slice_get mids j ≡ Some y → y.shape.might_return_early ≡ true → y.point ≡ m
    early_at j y at early = by (least_is (end_at t b) b mids) where
      own_end : (end_at t b y ≡ y.point) × (y.point ≤ b)
      own_end =
          let e = asked_end j y at early in let l = e.later in let k = e.within in
          (ap (λ (z : Bool). if z then b else y.point) (other_number y.point t (omega (arith, l))), omega (arith, k, later))

      at_bound : m ≡ b → y.point ≡ m
      at_bound is = let l = m_low j y at in let d = own_end.0 in let h = own_end.1 in omega (arith, is, l, d, h)

      which : (k : ℕ) (x : Stand) → slice_get mids k ≡ Some x → m ≡ end_at t b x → (z : Bool) → x.shape.might_return_early ≡ z → y.point ≡ m
      which k x x_at is true h =
          let u = was j y at in
          let v = was k x x_at in
          let place = alone j k u.0 v.0 u.1 v.1 (ap (λ (s : Shape). s.might_return_early) (sym (shape_is j y at)) ∙ early) (ap (λ (s : Shape). s.might_return_early) (sym (shape_is k x x_at)) ∙ h) in
          let same : y ≡ x = same_Some y x (sym at ∙ ap (slice_get mids) place ∙ x_at) in
          sym (is ∙ ap (end_at t b) (sym same) ∙ own_end.0)
      which k x x_at is false h = at_bound (is ∙ (end_by k x x_at (one_first x.shape) refl).2 h)

      by : ((least_or b (map (end_at t b) mids) ≡ b) × (mids ≡ [])) ⊎ ((x : Stand) × Holds mids x × (least_or b (map (end_at t b) mids) ≡ end_at t b x)) → y.point ≡ m
      by (inl none) = at_bound (m_is ∙ none.0)
      by (inr one) = which one.1.0 one.0 one.1.1 (m_is ∙ one.2) (one.0.shape.might_return_early) refl

    -- one that is elsewhere waits
    pub elsewhere_waits : (j : ℕ) (y : Stand) → slice_get mids j ≡ Some y → is_elsewhere m y ≡ true → (y.point ≡ t) × (y.shape.might_return_early ≡ false)
    elsewhere_waits j y at h = by y.shape.might_return_early refl where
      by : (x : Bool) → y.shape.might_return_early ≡ x → (y.point ≡ t) × (y.shape.might_return_early ≡ false)
      by true early = absurd (unequal y.point m (unnot (y.point == m) h) (early_at j y at early))
      by false un = (waits j y at un, un)

    -- the second asking
    module _ (back : List Sent) (asks2 : Asks t step (ends_elsewhere t b m) (is_elsewhere m) m mids back) where
      -- all are there then
      pub all_meet : are_at m (stands_by t mids back) ≡ false → ⊥
      all_meet after =
          let miss = not_all (λ (s : Stand). s.point == m) (stands_by t mids back) after in
          let w = stood_at mids back miss.0 miss.1 miss.2 in
          by miss.0 miss.1 w.0 w.1 w.2 (unequal miss.1.point m miss.3) (is_elsewhere m w.0) refl where
            unflip : (x : Bool) → not x ≡ false → x ≡ true
            unflip true k = refl
            unflip false k = absurd (cc)

            by : (j : ℕ) (z y : Stand) → slice_get mids j ≡ Some y → z ≡ stand_by t y (part j back) → z.point ≢ m → (x : Bool) → is_elsewhere m y ≡ x → ⊥
            by j z y at is ne true h =
                let e = own_is_end t m (is_elsewhere m y) y (part j back) (own t step (ends_elsewhere t b m) (is_elsewhere m) m mids back asks2 j y at) h in
                let u = e.whole (elsewhere_waits j y at h).1 in
                let l = m_later in
                ne (ap (λ (s : Stand). s.point) is ∙ omega (arith, u, l))
            by j z y at is ne false h =
                ne (ap (λ (s : Stand). s.point) (is ∙ own_stays t step one_first j m (is_elsewhere m y) y (part j back) (own t step (ends_elsewhere t b m) (is_elsewhere m) m mids back asks2 j y at) h) ∙ equal y.point m (unflip (y.point == m) h))

  -- none is put back
  pub none_goes_back : (b : ℕ) (stands : List Stand) (log : List Sent) (outcome : Outcome) → t < b → Each (λ (s : Stand). s.point ≡ t) stands → OneEarlyIn stands → Agrees t step one_first b stands log outcome → All IsNoBack log
  none_goes_back _ _ _ _ later home alone (FirstStops b stands log outcome stops) = stops_no_back t step everyone (comes_first one_first) b stands (λ i s at h. home i s at) log outcome stops
  none_goes_back _ _ _ _ later home alone (FirstMeet b stands log outcome m asks m_is there is) = asks_no_back t step everyone (comes_first one_first) b stands (λ i s at h. home i s at) log asks
  none_goes_back _ _ _ _ later home alone (NextStops b stands log outcome m prefix back mids asks mids_are m_is apart stops whole) =
      subst (All IsNoBack) (sym whole)
      (All-append IsNoBack prefix back (asks_no_back t step everyone (comes_first one_first) b stands (λ i s at h. home i s at) prefix asks)
      (stops_no_back t step (ends_elsewhere t b m) (is_elsewhere m) m mids (λ i y at h. (elsewhere_waits b later stands home alone prefix asks mids mids_are m m_is i y at h).0) back outcome stops))
  none_goes_back _ _ _ _ later home alone (NextMeet b stands log outcome m prefix back mids asks mids_are m_is apart asks2 there is whole) =
      subst (All IsNoBack) (sym whole)
      (All-append IsNoBack prefix back (asks_no_back t step everyone (comes_first one_first) b stands (λ i s at h. home i s at) prefix asks)
      (asks_no_back t step (ends_elsewhere t b m) (is_elsewhere m) m mids (λ i y at h. (elsewhere_waits b later stands home alone prefix asks mids mids_are m m_is i y at h).0) back asks2))
  none_goes_back _ _ _ _ later home alone (GoesAnew b stands log outcome m c prefix back rest mids lasts asks mids_are m_is apart asks2 lasts_are after c_is more whole) =
      absurd (all_meet b later stands home alone prefix asks mids mids_are m m_is back asks2 (ap (are_at m) (sym lasts_are) ∙ after))
