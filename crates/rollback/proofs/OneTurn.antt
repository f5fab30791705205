-- An agreement over slots of which one alone might return early: it is asked first, and then the others for its end. Where none might, all are asked once.
use Rattle.std.proofs.Common.{◌≡◌, ◌≢◌, ◌⊎◌, inl, inr, ℕ, zero, suc, ◌-◌, ◌<◌, ◌≤◌, ◌==◌, Bool, true, false, not, List, [], ◌∷◌, ◌++◌, Some, Result, Ok, Err, refl, sym, ap, ◌∙◌, subst, arith, length, get_or}
use Rattle.std.specs.Prelude.{All, if◌then◌else◌}
use Rattle.std.specs.List.{slice_get}
use Rattle.std.proofs.lemmas.Bool.Decides.{nat_tests}
use Rattle.std.proofs.lemmas.Option.{none-some as none_some, same_Some}
use Rattle.value_types.specs.declared.shape.Shape.{Shape}
use Rattle.fmu_peer.specs.declared.peer.Exchange.{Exchange}
use Rattle.fmu_peer.specs.declared.peer.Peer.{Ghosts}
use Rattle.fmu_peer.specs.declared.slot.Slot.{Slot}
use Rattle.fmu_peer.specs.View.{View}
use Rattle.system_model.specs.EarlyReturn.{early_count}
use Rattle.run_model.specs.Stepping.{asked_first}
use Rattle.slot_calls.specs.Log.{part}
use Rattle.slot_calls.specs.Slots.{instances}
use Rattle.slot_calls.specs.Stage.{everyone, shapes}
use Rattle.slot_calls.proofs.CallerLemmas.{part_append, told_on}
use Rattle.step_agreement.specs.Agreement.{Asks, FirstMeet, FirstStops, Meets, NextMeet, NextStops, Stand, are_at, comes_first, ends_elsewhere, is_elsewhere, reached, shapes_in, stands_by}
use Rattle.step_agreement.specs.Agreement as A
use Rattle.step_agreement.proofs.CallerLemmas.{OneEarlyIn, all_meet, all_whole, elsewhere_waits, first_all, first_one, m_whole, one_alone, one_first, one_later, one_waits, one_within, other_number, same_number, same_shapes, shape_kept}
use Rattle.rollback.specs.Asked.{AgreedOver, AskedOver, IsAt, IsHome, IsTested, MayGoBack, Moved, might_return_early, outcome_of}
use Rattle.rollback.specs.Places.{StandSo, at_rest, passes, stand_in, stands}
use Rattle.rollback.specs.Standing.{Placed, TakesSize}
use Rattle.rollback.specs.declared.places.Who.TheVariants as W
use Rattle.rollback.specs.declared.step_end.StepEnd.{StepEnd}
use Rattle.rollback.proofs.Moving.{lower, moved_both, moved_lower}
use Rattle.rollback.proofs.OneAsking.{fits_by}
use Rattle.rollback.proofs.Resting.{after_part, are_at_so, reached_so, shapes_own, shapes_so, stand_at, stands_own}
use Rattle.rollback.proofs.Turning.{unequal, are_all_at, least, there_by}

equal : (a b : ℕ) → (a == b) ≡ true → a ≡ b
equal a b q = grind (arith, nat_tests)

apart : (a b : ℕ) → (a == b) ≡ false → a ≢ b
apart a b q = grind (arith, nat_tests)

module _ {L : Type 0} {g : Ghosts L} (view : L → View) where
  -- each stands there
  stands_there : (t : ℕ) (slots : List (Slot L g)) → All (IsAt view t) slots → (i : ℕ) (s : Stand) → slice_get (stands view slots) i ≡ Some s → s.point ≡ t
  stands_there t [] home i s at = absurd (none_some s at)
  stands_there t (x ∷ slots) home zero s at = ap (λ (z : Stand). z.point) (sym (same_Some (stand_in view x) s at)) ∙ home 0 x (omega arith)
  stands_there t (x ∷ slots) home (suc i) s at = stands_there t slots (λ k d w. home (suc k) d (omega (arith, w))) i s at

  module _ (t step b : ℕ) (later : t < b) (olds : List (Slot L g)) (home : All (IsAt view t) olds) (one : early_count (shapes (instances view olds)) ≡ 1) where
    abbrev own : List Stand
    own = stands view olds

    own_so : StandSo view (stands view olds) olds
    own_so = stands_own view olds

    home_own : (i : ℕ) (s : Stand) → slice_get (stands view olds) i ≡ Some s → s.point ≡ t
    home_own = stands_there t olds home

    alone : OneEarlyIn (stands view olds)
    alone = one_alone (stands view olds) (ap early_count (shapes_own view olds) ∙ one)

    pub tested_first : All (IsTested view W.Everyone W.Early step (b - t)) olds
    tested_first = λ k d w h. inl refl

    pub home_first : All (IsHome view t W.Early) olds
    home_first = λ k d w h. home k d w

    -- it couldn't be asked
    pub one_stops : (news : List (Slot L g)) (end : StepEnd) → AskedOver {T = Unit {0}} view t step W.Everyone W.Early b olds news (Err end) → AgreedOver view might_return_early t step b olds news (Err end)
    one_stops news end a = record {
      log = a.log;
      told = a.told;
      says = record { from = a.says.0; comes = λ ss so. FirstStops b ss a.log (outcome_of end) (a.says.1 ss so) };
    }

    module _ (mids : List (Slot L g)) (len : length mids ≡ length olds) (first : AskedOver {T = Unit {0}} view t step W.Everyone W.Early b olds mids (Ok tt)) (m : ℕ) (m_is : m ≡ least view t b mids) where
      so_mid : (ss : List Stand) → StandSo view ss olds → StandSo view (stands_by t ss first.log) mids
      so_mid ss so = after_part view t first.log ss olds mids so len (λ i d w. (first.says.1 i d w).stand)

      m_at : (ss : List Stand) → StandSo view ss olds → m ≡ reached t b (stands_by t ss first.log)
      m_at ss so = m_is ∙ sym (reached_so view (stands_by t ss first.log) mids (so_mid ss so) t b)

      asks : Asks t step A.everyone (comes_first one_first) b (stands view olds) first.log
      asks = first.says.0 (stands view olds) own_so

      m_own : m ≡ reached t b (stands_by t (stands view olds) first.log)
      m_own = m_at (stands view olds) own_so

      pub later_one : t < m
      later_one = one_later t step b later (stands view olds) home_own alone first.log asks (stands_by t (stands view olds) first.log) refl m m_own

      within : m ≤ b
      within = one_within t step b later (stands view olds) home_own alone first.log asks (stands_by t (stands view olds) first.log) refl m m_own

      -- where one stands then
      module _ (k : ℕ) (d : Slot L g) (w : k < length mids) where
        here : k < length olds
        here = omega (arith, len, w)

        stand : (y : Stand) × (slice_get (stands_by t (stands view olds) first.log) k ≡ Some y) × (at_rest y ≡ stand_in view (get_or mids k d))
        stand = stand_at view (stands_by t (stands view olds) first.log) mids (so_mid (stands view olds) own_so) k d w

        point_is : stand.0.point ≡ (stand_in view (get_or mids k d)).point
        point_is = ap (λ (s : Stand). s.point) stand.2

        shape_same : (stand_in view (get_or mids k d)).shape ≡ (stand_in view (get_or olds k d)).shape
        shape_same = ap (λ (s : Stand). s.shape) (first.says.1 k d here).stand ∙ shape_kept t (stand_in view (get_or olds k d)) (part k first.log)

        -- one that wasn't asked stands at t
        waits : passes W.Early (stand_in view (get_or olds k d)) ≡ false → (stand_in view (get_or mids k d)).point ≡ t
        waits un =
            sym point_is
            ∙ one_waits t step b later (stands view olds) home_own alone first.log asks (stands_by t (stands view olds) first.log) refl m m_own k stand.0 stand.1
            (ap (λ (s : Stand). s.shape.might_return_early) stand.2 ∙ ap (λ (s : Shape). s.might_return_early) shape_same ∙ un)

        -- and one that is elsewhere does
        elsewhere_home : is_elsewhere m (stand_in view (get_or mids k d)) ≡ true → (stand_in view (get_or mids k d)).point ≡ t
        elsewhere_home h =
            sym point_is
            ∙ (elsewhere_waits t step b later (stands view olds) home_own alone first.log asks (stands_by t (stands view olds) first.log) refl m m_own k stand.0 stand.1 (ap (λ (n : ℕ). not (n == m)) point_is ∙ h)).0

      -- it is alone
      pub one_meets : are_all_at view m mids ≡ true → AgreedOver view might_return_early t step b olds mids (Ok m)
      one_meets there = record {
        log = first.log;
        told = first.told;
        says = record {
          comes = λ ss so. FirstMeet b ss first.log (Meets m) m (first.says.0 ss so) (m_at ss so) (are_at_so view (stands_by t ss first.log) mids (so_mid ss so) m ∙ there) refl;
          moved = λ i d w. subst (λ (x : Bool). Moved view t m step x (get_or olds i d) (part i first.log) (get_or mids i d)) (was_asked i d w)
              (moved_lower view t b m step within (passes W.Early (stand_in view (get_or olds i d))) (get_or olds i d) (get_or mids i d) (part i first.log) (first.says.1 i d w));
          there = there_by view m mids there;
          later = later_one;
          within = within;
        };
      } where
        was_asked : (i : ℕ) (d : Slot L g) → i < length olds → passes W.Early (stand_in view (get_or olds i d)) ≡ true
        was_asked i d w = by (passes W.Early (stand_in view (get_or olds i d))) refl where
          by : (x : Bool) → passes W.Early (stand_in view (get_or olds i d)) ≡ x → passes W.Early (stand_in view (get_or olds i d)) ≡ true
          by true h = h
          by false h =
              let inside : i < length mids = omega (arith, len, w) in
              absurd (let at = waits i d inside h in let met : (stand_in view (get_or mids i d)).point ≡ m = there_by view m mids there i d inside in let l = later_one in omega (arith, at, met, l))

      -- ---- the others

      pub placed_others : All (Placed view t m step) mids
      placed_others = λ k d w. lower view t b m step within (get_or mids k d) (first.says.1 k d (here k d w)).placed

      pub home_others : All (IsHome view t (W.Elsewhere m)) mids
      home_others = λ k d w h. elsewhere_home k d w h

      pub tested_others : All (IsTested view (W.EndElsewhere t b m) (W.Elsewhere m) step (m - t)) mids
      tested_others = λ k d w h. by k d w h (m == b) refl where
        by : (k : ℕ) (d : Slot L g) → k < length mids → is_elsewhere m (stand_in view (get_or mids k d)) ≡ true → (x : Bool) → (m == b) ≡ x →
            (ends_elsewhere t b m (stand_in view (get_or mids k d)) ≡ true) ⊎ TakesSize step (m - t) (stand_in view (get_or mids k d)).shape
        by k d w h true same =
            inr (subst (TakesSize step (m - t)) (sym (shape_same k d w))
            (subst (λ (n : ℕ). TakesSize step (n - t) (stand_in view (get_or olds k d)).shape) (sym (equal m b same)) (fits_by view step (b - t) W.Everyone olds asks.fits k d (here k d w) refl)))
        by k d w h false other =
            inl (ap (λ (n : ℕ). not ((if n == t then b else n) == m)) (elsewhere_home k d w h)
            ∙ ap (λ (x : Bool). not ((if x then b else t) == m)) (same_number t t refl)
            ∙ ap not (other_number b m (λ e. apart m b other (sym e))))

      module _ (after : are_all_at view m mids ≡ false) where
        after_at : (ss : List Stand) → StandSo view ss olds → are_at m (stands_by t ss first.log) ≡ false
        after_at ss so = are_at_so view (stands_by t ss first.log) mids (so_mid ss so) m ∙ after

        pub others_stop : (news : List (Slot L g)) (end : StepEnd) → AskedOver {T = Unit {0}} view t step (W.EndElsewhere t b m) (W.Elsewhere m) m mids news (Err end) → AgreedOver view might_return_early t step b olds news (Err end)
        others_stop news end a = record {
          log = first.log ++ a.log;
          told = told_on (instances view olds) (instances view mids) (instances view news) first.log a.log first.told a.told;
          says = record {
            from = a.says.0;
            comes = λ ss so. NextStops b ss (first.log ++ a.log) (outcome_of end) m first.log a.log (stands_by t ss first.log) (first.says.0 ss so) refl (m_at ss so) (after_at ss so)
                (a.says.1 (stands_by t ss first.log) (so_mid ss so)) refl;
          };
        }

        module _ (news : List (Slot L g)) (len2 : length news ≡ length mids) (next : AskedOver {T = Unit {0}} view t step (W.EndElsewhere t b m) (W.Elsewhere m) m mids news (Ok tt)) where
          so_new : (ss : List Stand) → StandSo view ss olds → StandSo view (stands_by t (stands_by t ss first.log) next.log) news
          so_new ss so = after_part view t next.log (stands_by t ss first.log) mids news (so_mid ss so) len2 (λ i d w. (next.says.1 i d w).stand)

          all_there : are_all_at view m news ≡ true
          all_there = by (are_all_at view m news) refl where
            by : (x : Bool) → are_all_at view m news ≡ x → are_all_at view m news ≡ true
            by true h = h
            by false h =
                absurd (all_meet t step b later (stands view olds) home_own alone first.log asks (stands_by t (stands view olds) first.log) refl m m_own next.log
                (next.says.0 (stands_by t (stands view olds) first.log) (so_mid (stands view olds) own_so))
                (are_at_so view (stands_by t (stands_by t (stands view olds) first.log) next.log) news (so_new (stands view olds) own_so) m ∙ h))

          either_asked : (i : ℕ) (d : Slot L g) → i < length mids → (x : Bool) → passes W.Early (stand_in view (get_or olds i d)) ≡ x → (passes W.Early (stand_in view (get_or olds i d)) ≡ true) ⊎ (passes (W.Elsewhere m) (stand_in view (get_or mids i d)) ≡ true)
          either_asked i d w true h = inl h
          either_asked i d w false h = inr (ap not (other_number (stand_in view (get_or mids i d)).point m (λ e. absurd (let at = waits i d w h in let l = later_one in omega (arith, at, e, l)))))

          -- all meet at its end
          pub others_meet : AgreedOver view might_return_early t step b olds news (Ok m)
          others_meet = record {
            log = first.log ++ next.log;
            told = told_on (instances view olds) (instances view mids) (instances view news) first.log next.log first.told next.told;
            says = record {
              comes = λ ss so. NextMeet b ss (first.log ++ next.log) (Meets m) m first.log next.log (stands_by t ss first.log) (first.says.0 ss so) refl (m_at ss so) (after_at ss so)
                  (next.says.0 (stands_by t ss first.log) (so_mid ss so)) (are_at_so view (stands_by t (stands_by t ss first.log) next.log) news (so_new ss so) m ∙ all_there) refl refl;
              moved = λ i d w.
                  let inside : i < length mids = omega (arith, len, w) in
                  subst (λ (es : List Exchange). Moved view t m step true (get_or olds i d) es (get_or news i d)) (sym (part_append i first.log next.log))
                  (moved_both view t b m step (passes W.Early (stand_in view (get_or olds i d))) (passes (W.Elsewhere m) (stand_in view (get_or mids i d))) (either_asked i d inside (passes W.Early (stand_in view (get_or olds i d))) refl)
                  (get_or olds i d) (get_or mids i d) (get_or news i d) (part i first.log) (part i next.log) (first.says.1 i d w) (next.says.1 i d inside));
              there = there_by view m news all_there;
              later = later_one;
              within = within;
            };
          }

  -- ---- none might return early

  module _ (t step b : ℕ) (later : t < b) (olds : List (Slot L g)) (none : early_count (shapes (instances view olds)) ≡ 0) where
    pub none_stops : (news : List (Slot L g)) (end : StepEnd) → AskedOver {T = Unit {0}} view t step W.Everyone W.Everyone b olds news (Err end) → AgreedOver view everyone t step b olds news (Err end)
    none_stops news end a = record {
      log = a.log;
      told = a.told;
      says = record { from = a.says.0; comes = λ ss so. FirstStops b ss a.log (outcome_of end) (a.says.1 ss so) };
    }

    -- all end at the bound
    pub none_meets : (news : List (Slot L g)) → length news ≡ length olds → AskedOver {T = Unit {0}} view t step W.Everyone W.Everyone b olds news (Ok tt) → AgreedOver view everyone t step b olds news (Ok b)
    none_meets news len a = record {
      log = a.log;
      told = a.told;
      says = record {
        comes = λ ss so. FirstMeet b ss a.log (Meets b) b (a.says.0 ss so) (sym (m_whole t step b later ss a.log (a.says.0 ss so) (counted ss so))) (all_whole t step b later ss a.log (a.says.0 ss so) (counted ss so)) refl;
        moved = a.says.1;
        there = there_by view b news
            (sym (are_at_so view (stands_by t (stands view olds) a.log) news (after_part view t a.log (stands view olds) olds news (stands_own view olds) len (λ i d w. (a.says.1 i d w).stand)) b)
            ∙ all_whole t step b later (stands view olds) a.log (a.says.0 (stands view olds) (stands_own view olds)) (counted (stands view olds) (stands_own view olds)));
        later = later;
        within = omega arith;
      };
    }
      where
        counted : (ss : List Stand) → StandSo view ss olds → early_count (shapes_in (stands_by t ss a.log)) ≡ 0
        counted ss so = ap early_count (same_shapes t step ss a.log ∙ shapes_so view ss olds so) ∙ none

  -- ---- by how many might return early

  pub agreed_one : (early t step b : ℕ) (olds news : List (Slot L g)) (result : Result ℕ StepEnd) → early ≡ 1 → AgreedOver view might_return_early t step b olds news result → AgreedOver view (asked_first early) t step b olds news result
  agreed_one early t step b olds news result h a = subst (λ (first : Shape → Bool). AgreedOver view first t step b olds news result) (sym (first_one early (same_number early 1 h))) a

  pub agreed_all : (early t step b : ℕ) (olds news : List (Slot L g)) (result : Result ℕ StepEnd) → early ≢ 1 → AgreedOver view everyone t step b olds news result → AgreedOver view (asked_first early) t step b olds news result
  agreed_all early t step b olds news result h a = subst (λ (first : Shape → Bool). AgreedOver view first t step b olds news result) (sym (first_all early (other_number early 1 h))) a

  -- none stands elsewhere at first
  pub begins_home : (t : ℕ) (olds : List (Slot L g)) → All (IsAt view t) olds → All (MayGoBack view t W.Everyone) olds
  begins_home t olds home = λ k d w h. absurd (unequal (stand_in view (get_or olds k d)).point t h (home k d w))
