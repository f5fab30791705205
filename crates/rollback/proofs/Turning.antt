-- A turn of an agreement over slots.
use Rattle.std.proofs.Common.{◌≡◌, ◌≢◌, inl, ℕ, zero, suc, is_some, ◌-◌, ◌<◌, ◌≤◌, ◌==◌, Bool, true, false, not, List, [], ◌∷◌, ◌++◌, Some, Ok, Err, refl, sym, ap, ap₂, ◌∙◌, subst, arith, append_assoc, length, get_or, map}
use Rattle.std.specs.Prelude.{All, ◌&&◌}
use Rattle.std.specs.List.{list_all, slice_get}
use Rattle.std.proofs.lemmas.Bool.Decides.{nat_tests}
use Rattle.fmu_peer.specs.declared.peer.Exchange.{Exchange}
use Rattle.fmu_peer.specs.declared.peer.Peer.{Ghosts}
use Rattle.fmu_peer.specs.declared.slot.Slot.{Slot}
use Rattle.fmu_peer.specs.View.{View}
use Rattle.system_model.specs.EarlyReturn.{early_count}
use Rattle.run_model.specs.Steps.{least_or}
use Rattle.slot_calls.specs.Log.{Sent, Told, part}
use Rattle.slot_calls.specs.Slots.{instances}
use Rattle.slot_calls.specs.Stage.{everyone, shapes}
use Rattle.slot_calls.proofs.CallerLemmas.{part_append, told_on}
use Rattle.step_agreement.specs.Agreement.{Agrees, Asks, FirstMeet, FirstStops, GoesAnew, Meets, NextMeet, NextStops, Stand, are_at, end_at, ends_elsewhere, is_elsewhere, reached, shapes_in, stands_by}
use Rattle.step_agreement.specs.Saving.{is_saved}
use Rattle.step_agreement.proofs.CallerLemmas.{c_before, c_later, counts_elsewhere, elsewhere_saved, m_later, m_within, same_shapes, saved_beside_two, shape_kept, stands_on, two_at_last}
use Rattle.rollback.specs.Asked.{AllMoved, AskedOver, IsAt, IsKept, IsSavedBy, IsTested, MayGoBack, Moved, TurnOver, outcome_of}
use Rattle.rollback.specs.Places.{StandSo, at_rest, passes, stand_in, stands}
use Rattle.rollback.specs.Standing.{Placed}
use Rattle.rollback.specs.declared.agreeing.Turned.TheVariants.{Anew, Met}
use Rattle.rollback.specs.declared.places.Who.TheVariants as W
use Rattle.rollback.specs.declared.step_end.StepEnd.{StepEnd}
use Rattle.rollback.proofs.Moving.{lower, moved_lower, moved_on}
use Rattle.rollback.proofs.Resting.{after_part, are_at_so, reached_so, shapes_own, stand_at, stands_own}

pub unequal : (a b : ℕ) → not (a == b) ≡ true → a ≢ b
unequal a b q = by (a == b) refl q where
  by : (x : Bool) → (a == b) ≡ x → not x ≡ true → a ≢ b
  by true e h = absurd (cc)
  by false e h = grind (arith, nat_tests)

equal : (a b : ℕ) → (a == b) ≡ true → a ≡ b
equal a b q = grind (arith, nat_tests)

both_first : (a b : Bool) → (a && b) ≡ true → a ≡ true
both_first true b h = refl
both_first false b h = absurd (cc)

pub both_second : (a b : Bool) → (a && b) ≡ true → b ≡ true
both_second true b h = h
both_second false b h = absurd (cc)

module _ {L : Type 0} {g : Ghosts L} (view : L → View) where
  there_step : (m : ℕ) (s : Slot L g) (slots : List (Slot L g)) → (stand_in view s).point ≡ m → All (IsAt view m) slots → (k : ℕ) (d : Slot L g) → k < length (s ∷ slots) → IsAt view m (get_or (s ∷ slots) k d)
  there_step m s slots here rest zero d w = here
  there_step m s slots here rest (suc k) d w = rest k d (omega (arith, w))

  pub there_by : (m : ℕ) (slots : List (Slot L g)) → list_all (λ (s : Slot L g). (stand_in view s).point == m) slots ≡ true → All (IsAt view m) slots
  there_by m [] h = λ k d w. absurd (omega (arith, w))
  there_by m (s ∷ slots) h =
      there_step m s slots (equal (stand_in view s).point m (both_first ((stand_in view s).point == m) (list_all (λ (x : Slot L g). (stand_in view x).point == m) slots) h))
      (there_by m slots (both_second ((stand_in view s).point == m) (list_all (λ (x : Slot L g). (stand_in view x).point == m) slots) h))

  abbrev pub least : ℕ → ℕ → List (Slot L g) → ℕ
  least t b slots = least_or b (map (λ (s : Slot L g). end_at t b (stand_in view s)) slots)

  abbrev pub are_all_at : ℕ → List (Slot L g) → Bool
  are_all_at m slots = list_all (λ (s : Slot L g). (stand_in view s).point == m) slots

  -- everyone is tested
  pub tested_all : (step size : ℕ) (olds : List (Slot L g)) → All (IsTested view W.Everyone W.Everyone step size) olds
  tested_all step size olds = λ k d w h. inl refl

  module _ (t step b : ℕ) (later : t < b) (olds : List (Slot L g)) (several : early_count (shapes (instances view olds)) ≢ 1) (saved : All (IsSavedBy view (early_count (shapes (instances view olds)))) olds) where
    -- it couldn't be asked
    pub first_stops : (news : List (Slot L g)) (end : StepEnd) → AskedOver {T = Unit {0}} view t step W.Everyone W.Everyone b olds news (Err end) → TurnOver view t step b olds news (Err end)
    first_stops news end a = record {
      log = a.log;
      told = a.told;
      says = record { from = a.says.0; comes = λ ss so. FirstStops b ss a.log (outcome_of end) (a.says.1 ss so) };
    }

    module _ (mids : List (Slot L g)) (len : length mids ≡ length olds) (first : AskedOver {T = Unit {0}} view t step W.Everyone W.Everyone b olds mids (Ok tt)) (m : ℕ) (m_is : m ≡ least t b mids) where
      so_mid : (ss : List Stand) → StandSo view ss olds → StandSo view (stands_by t ss first.log) mids
      so_mid ss so = after_part view t first.log ss olds mids so len (λ i d w. (first.says.1 i d w).stand)

      m_at : (ss : List Stand) → StandSo view ss olds → m ≡ reached t b (stands_by t ss first.log)
      m_at ss so = m_is ∙ sym (reached_so view (stands_by t ss first.log) mids (so_mid ss so) t b)

      own : List Stand
      own = stands view olds

      own_so : StandSo view (stands view olds) olds
      own_so = stands_own view olds

      asks : Asks t step (passes W.Everyone) (passes W.Everyone) b (stands view olds) first.log
      asks = first.says.0 (stands view olds) own_so

      m_own : m ≡ reached t b (stands_by t (stands view olds) first.log)
      m_own = m_at (stands view olds) own_so

      pub later_now : t < m
      later_now = subst (λ (n : ℕ). t < n) (sym m_own) (m_later t step b later (stands view olds) first.log asks)

      within : m ≤ b
      within = subst (λ (n : ℕ). n ≤ b) (sym m_own) (m_within t step b later (stands view olds) first.log asks)

      -- they met at once
      pub met_first : are_all_at m mids ≡ true → TurnOver view t step b olds mids (Ok (Met m))
      met_first there = record {
        log = first.log;
        told = first.told;
        says = record {
          comes = λ ss so. FirstMeet b ss first.log (Meets m) m (first.says.0 ss so) (m_at ss so) (are_at_so view (stands_by t ss first.log) mids (so_mid ss so) m ∙ there) refl;
          moved = λ i d w. moved_lower view t b m step within true (get_or olds i d) (get_or mids i d) (part i first.log) (first.says.1 i d w);
          there = there_by m mids there;
          later = later_now;
          within = within;
        };
      }

      -- ---- the second asking

      pub placed_now : All (Placed view t m step) mids
      placed_now = λ k d w. let here : k < length olds = omega (arith, len, w) in lower view t b m step within (get_or mids k d) (first.says.1 k d here).placed

      early_same : early_count (shapes_in (stands_by t (stands view olds) first.log)) ≡ early_count (shapes (instances view olds))
      early_same = ap early_count (same_shapes t step (stands view olds) first.log ∙ shapes_own view olds)

      -- one that doesn't stand there
      module _ (k : ℕ) (d : Slot L g) (w : k < length mids) (h : is_elsewhere m (stand_in view (get_or mids k d)) ≡ true) where
        here : k < length olds
        here = omega (arith, len, w)

        stand : (y : Stand) × (slice_get (stands_by t (stands view olds) first.log) k ≡ Some y) × (at_rest y ≡ stand_in view (get_or mids k d))
        stand = stand_at view (stands_by t (stands view olds) first.log) mids (so_mid (stands view olds) own_so) k d w

        elsewhere : stand.0.point ≢ reached t b (stands_by t (stands view olds) first.log)
        elsewhere e = unequal (stand_in view (get_or mids k d)).point m h (ap (λ (s : Stand). s.point) (sym stand.2) ∙ e ∙ sym m_own)

        counts : ends_elsewhere t b m (stand_in view (get_or mids k d)) ≡ true
        counts =
            subst (λ (n : ℕ). ends_elsewhere t b n (stand_in view (get_or mids k d)) ≡ true) (sym m_own)
            (subst (λ (s : Stand). ends_elsewhere t b (reached t b (stands_by t (stands view olds) first.log)) s ≡ true) stand.2
            (counts_elsewhere t step b later (stands view olds) first.log asks k stand.0 stand.1 elsewhere))

        shape_same : (stand_in view (get_or mids k d)).shape ≡ (stand_in view (get_or olds k d)).shape
        shape_same = ap (λ (s : Stand). s.shape) (first.says.1 k d here).stand ∙ shape_kept t (stand_in view (get_or olds k d)) (part k first.log)

        is_kept : is_some (get_or mids k d).saved ≡ true
        is_kept =
            (first.says.1 k d here).saved ∙ saved k d here
            ∙ ap₂ is_saved (sym early_same) (sym shape_same ∙ ap (λ (s : Stand). s.shape) (sym stand.2))
            ∙ elsewhere_saved t step b later (stands view olds) first.log asks k stand.0 stand.1 elsewhere (λ e. several (sym early_same ∙ e))

      pub tested_now : All (IsTested view (W.EndElsewhere t b m) (W.Elsewhere m) step (m - t)) mids
      tested_now = λ k d w h. inl (counts k d w h)

      pub back_now : All (MayGoBack view t (W.Elsewhere m)) mids
      back_now = λ k d w h. is_kept k d w (both_first (is_elsewhere m (stand_in view (get_or mids k d))) (not ((stand_in view (get_or mids k d)).point == t)) h)

      module _ (apart : are_all_at m mids ≡ false) where
        apart_at : (ss : List Stand) → StandSo view ss olds → are_at m (stands_by t ss first.log) ≡ false
        apart_at ss so = are_at_so view (stands_by t ss first.log) mids (so_mid ss so) m ∙ apart

        pub next_stops : (news : List (Slot L g)) (end : StepEnd) → AskedOver {T = Unit {0}} view t step (W.EndElsewhere t b m) (W.Elsewhere m) m mids news (Err end) → TurnOver view t step b olds news (Err end)
        next_stops news end a = record {
          log = first.log ++ a.log;
          told = told_on (instances view olds) (instances view mids) (instances view news) first.log a.log first.told a.told;
          says = record {
            from = a.says.0;
            comes = λ ss so. NextStops b ss (first.log ++ a.log) (outcome_of end) m first.log a.log (stands_by t ss first.log) (first.says.0 ss so) refl (m_at ss so) (apart_at ss so)
                (a.says.1 (stands_by t ss first.log) (so_mid ss so)) refl;
          };
        }

        module _ (news : List (Slot L g)) (len2 : length news ≡ length mids) (next : AskedOver {T = Unit {0}} view t step (W.EndElsewhere t b m) (W.Elsewhere m) m mids news (Ok tt)) where
          all : List Sent
          all = first.log ++ next.log

          told : Told (first.log ++ next.log) (instances view olds) (instances view news)
          told = told_on (instances view olds) (instances view mids) (instances view news) first.log next.log first.told next.told

          moved : (c : ℕ) → c ≤ m → AllMoved view t c step W.Everyone olds (first.log ++ next.log) news
          moved c below = λ i d w.
              let inside : i < length mids = omega (arith, len, w) in
              subst (λ (es : List Exchange). Moved view t c step true (get_or olds i d) es (get_or news i d)) (sym (part_append i first.log next.log))
              (moved_lower view t m c step below true (get_or olds i d) (get_or news i d) (part i first.log ++ part i next.log)
              (moved_on view t b m step (passes (W.Elsewhere m) (stand_in view (get_or mids i d))) (get_or olds i d) (get_or mids i d) (get_or news i d) (part i first.log) (part i next.log) (first.says.1 i d w) (next.says.1 i d inside)))

          so_new : (ss : List Stand) → StandSo view ss olds → StandSo view (stands_by t (stands_by t ss first.log) next.log) news
          so_new ss so = after_part view t next.log (stands_by t ss first.log) mids news (so_mid ss so) len2 (λ i d w. (next.says.1 i d w).stand)

          -- they met then
          pub met_next : are_all_at m news ≡ true → TurnOver view t step b olds news (Ok (Met m))
          met_next there = record {
            log = first.log ++ next.log;
            told = told;
            says = record {
              comes = λ ss so. NextMeet b ss (first.log ++ next.log) (Meets m) m first.log next.log (stands_by t ss first.log) (first.says.0 ss so) refl (m_at ss so) (apart_at ss so)
                  (next.says.0 (stands_by t ss first.log) (so_mid ss so)) (are_at_so view (stands_by t (stands_by t ss first.log) next.log) news (so_new ss so) m ∙ there) refl refl;
              moved = moved m (omega arith);
              there = there_by m news there;
              later = later_now;
              within = within;
            };
          }

          -- they didn't
          module _ (after : are_all_at m news ≡ false) (c : ℕ) (c_is : c ≡ least t m news) where
            abbrev mid : List Stand
            mid = stands_by t (stands view olds) first.log

            abbrev r : ℕ
            r = reached t b (stands_by t (stands view olds) first.log)

            asks2 : Asks t step (ends_elsewhere t b r) (is_elsewhere r) r mid next.log
            asks2 = subst (λ (n : ℕ). Asks t step (ends_elsewhere t b n) (is_elsewhere n) n mid next.log) m_own (next.says.0 mid (so_mid (stands view olds) own_so))

            after_at : (ss : List Stand) → StandSo view ss olds → are_at m (stands_by t (stands_by t ss first.log) next.log) ≡ false
            after_at ss so = are_at_so view (stands_by t (stands_by t ss first.log) next.log) news (so_new ss so) m ∙ after

            c_at : (ss : List Stand) → StandSo view ss olds → c ≡ reached t m (stands_by t (stands_by t ss first.log) next.log)
            c_at ss so = c_is ∙ sym (reached_so view (stands_by t (stands_by t ss first.log) next.log) news (so_new ss so) t m)

            c_own : c ≡ reached t r (stands_by t mid next.log)
            c_own = c_at (stands view olds) own_so ∙ ap (λ (n : ℕ). reached t n (stands_by t mid next.log)) m_own

            after_own : are_at r (stands_by t mid next.log) ≡ false
            after_own = ap (λ (n : ℕ). are_at n (stands_by t mid next.log)) (sym m_own) ∙ after_at (stands view olds) own_so

            pub next_later : t < c
            next_later = subst (λ (n : ℕ). t < n) (sym c_own) (c_later t step b later (stands view olds) first.log asks next.log asks2)

            next_before : c < m
            next_before =
                let l : reached t r (stands_by t mid next.log) < r = c_before t step b later (stands view olds) first.log asks next.log asks2 after_own in
                let p = c_own in let q = m_own in omega (arith, l, p, q)

            two : 1 < early_count (shapes (instances view olds))
            two = subst (λ (n : ℕ). 1 < n) early_same (two_at_last t step b later (stands view olds) first.log asks next.log asks2 after_own)

            kept : All IsKept news
            kept = λ k d w.
                let inside : k < length mids = omega (arith, len2, w) in
                let here : k < length olds = omega (arith, len, inside) in
                (next.says.1 k d inside).saved ∙ (first.says.1 k d here).saved ∙ saved k d here ∙ saved_beside_two (early_count (shapes (instances view olds))) (stand_in view (get_or olds k d)).shape two

            pub goes_anew : TurnOver view t step b olds news (Ok (Anew c))
            goes_anew = record {
              log = first.log ++ next.log;
              told = told;
              says = record {
                goes = λ ss rest outcome so h.
                    GoesAnew b ss ((first.log ++ next.log) ++ rest) outcome m c first.log next.log rest (stands_by t ss first.log) (stands_by t (stands_by t ss first.log) next.log) (first.says.0 ss so) refl (m_at ss so) (apart_at ss so)
                    (next.says.0 (stands_by t ss first.log) (so_mid ss so)) refl (after_at ss so) (c_at ss so)
                    (subst (λ (xs : List Stand). Agrees t step everyone c xs rest outcome) (stands_on t ss first.log next.log) h) (append_assoc first.log next.log rest);
                moved = moved c (let l = next_before in omega (arith, l));
                kept = kept;
                later = next_later;
                before = let l = next_before in let k = within in omega (arith, l, k);
              };
            }
