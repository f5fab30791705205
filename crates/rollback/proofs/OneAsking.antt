-- One asking over slots.
use Rattle.std.proofs.Common.{◌≡◌, ◌⊎◌, inl, inr, ℕ, ◌-◌, ◌<◌, ◌==◌, Bool, true, false, not, List, [], ◌++◌, Some, None, Result, Ok, Err, refl, sym, ap, ◌∙◌, subst, arith, length, get_or, position}
use Rattle.std.proofs.lemmas.Bool.{eq-eqb}
use Rattle.std.proofs.lemmas.List.Folds.{list_any_none}
use Rattle.std.specs.Prelude.{All, IsTrue, ◌&&◌, ◌||◌, if◌then◌else◌}
use Rattle.value_types.specs.declared.shape.Shape.{Shape}
use Rattle.std.proofs.lemmas.List.{get_or_default}
use Rattle.value_types.proofs.CallerLemmas.{position-map}
use Rattle.fmi_calls.specs.declared.call.Call.{Call}
use Rattle.fmi_calls.specs.declared.call.Call.TheVariants as C
use Rattle.fmu_peer.specs.declared.peer.Exchange.{Exchange}
use Rattle.fmu_peer.specs.declared.peer.Peer.{Ghosts}
use Rattle.fmu_peer.specs.declared.slot.Slot.{Slot}
use Rattle.fmu_peer.specs.View.{View}
use Rattle.slot_calls.specs.Log.{ComponentCall, Sent, part}
use Rattle.slot_calls.specs.Slots.{instances}
use Rattle.slot_calls.specs.Stage.{FailsIn, IsAnswered, shapes}
use Rattle.slot_calls.specs.declared.bad_answer.BadAnswer.{BadAnswer}
use Rattle.slot_calls.proofs.CallerLemmas.{part_append, shapes_same, told_none, told_on}
use Rattle.step_agreement.specs.Agreement.{Fails, InBack, InStep, IsUnfit, Stand, Stops, is_away, shapes_in, to_some, unfit}
use Rattle.step_agreement.proofs.CallerLemmas.{shape_kept}
use Rattle.rollback.specs.Asked.{AskedOver, InBacks, InSteps, IsFitting, IsHome, IsTested, MayGoBack, StaysMeant, Moved, RoundsFail, RoundsOver, SizesSay}
use Rattle.rollback.specs.Places.{CanDo, Sends, StandSo, is_sent, passes, stand_in, stands}
use Rattle.rollback.specs.Standing.{Placed, TakesSize}
use Rattle.rollback.specs.declared.asking.Turn.TheVariants as T
use Rattle.rollback.specs.declared.places.Who.{Who}
use Rattle.rollback.specs.declared.step_end.StepEnd.{StepEnd}
use Rattle.rollback.specs.declared.step_end.StepEnd.TheVariants.{Bad, FixedStep}
use Rattle.rollback.proofs.Moving.{WentBack, can_go_back, can_step, did_step, moved_by, went_back}
use Rattle.rollback.proofs.Sending.{sends_none}
use Rattle.rollback.proofs.Resting.{away_so, none_passes, passes_so, shapes_so, some_map, some_same, unfit_so}

-- one that is selected and stands at t isn't sent back
not_away : (t : ℕ) (asked : Who) (s : Stand) → (passes asked s ≡ true → s.point ≡ t) → is_sent asked (T.Back t) s ≡ false
not_away t asked s home = by (passes asked s) refl where
  by : (x : Bool) → passes asked s ≡ x → (x && not (s.point == t)) ≡ false
  by true h = ap not (eq-eqb s.point t (home h))
  by false h = refl

module _ {L : Type 0} {g : Ghosts L} (view : L → View) where
  -- ---- those that go back, and then the steps

  pub can_back : (t e step : ℕ) (asked : Who) (olds : List (Slot L g)) → All (Placed view t e step) olds → All (MayGoBack view t asked) olds → All (CanDo view asked (T.Back t)) olds
  can_back t e step asked olds placed may = λ k d w. can_go_back view t e step asked (get_or olds k d) (placed k d w) (may k d w)

  module _ (t e step : ℕ) (later : t < e) (asked : Who) (means : StaysMeant t asked) (olds mids : List (Slot L g)) (placed : All (Placed view t e step) olds) (may : All (MayGoBack view t asked) olds)
      (fitting : All (IsFitting view asked step (e - t)) olds) (len : length mids ≡ length olds) (back : Sends {T = Unit {0}} view asked (T.Back t) olds mids (Ok tt)) where
    went : (i : ℕ) (d : Slot L g) → i < length olds → WentBack view t e step asked (get_or olds i d) (get_or mids i d) (part i back.log)
    went i d w = went_back view t e step asked means (get_or olds i d) (get_or mids i d) (part i back.log) (placed i d w) (may i d w) (back.well i d w)

    takes : (i : ℕ) (d : Slot L g) → i < length olds → passes asked (stand_in view (get_or mids i d)) ≡ true → TakesSize step (e - t) (stand_in view (get_or mids i d)).shape × ((stand_in view (get_or mids i d)).point ≡ t)
    takes i d w h =
        let b = went i d w in
        let passed = sym b.same ∙ h in
        let shape = ap (λ (s : Stand). s.shape) b.stand ∙ shape_kept t (stand_in view (get_or olds i d)) (part i back.log) in
        (subst (TakesSize step (e - t)) (sym shape) (fitting i d w passed), b.home passed)

    pub can_next : All (CanDo view asked (T.Step t e)) mids
    can_next = λ k d w. let here : k < length olds = omega (arith, len, w) in can_step view t e step later asked (get_or mids k d) (went k d here).placed (takes k d here)

    same_calls : (call : Call) → to_some (passes asked) call (stands view mids) ≡ to_some (passes asked) call (stands view olds)
    same_calls call =
        some_map (λ (s : Slot L g). stand_in view s) (passes asked) call 0 mids
        ∙ some_same (λ (s : Slot L g). passes asked (stand_in view s)) (λ (s : Slot L g). passes asked (stand_in view s)) call 0 olds mids len (λ i d x w. same_at i d x w)
        ∙ sym (some_map (λ (s : Slot L g). stand_in view s) (passes asked) call 0 olds) where
          same_at : (i : ℕ) (d x : Slot L g) → i < length olds → passes asked (stand_in view (get_or mids i x)) ≡ passes asked (stand_in view (get_or olds i d))
          same_at i d x w = (let inside : i < length mids = omega (arith, len, w) in ap (λ (s : Slot L g). passes asked (stand_in view s)) (get_or_default mids i x d inside)) ∙ (went i d w).same

    same_view : shapes (instances view mids) ≡ shapes (instances view olds)
    same_view = shapes_same back.log (instances view olds) (instances view mids) back.told

    module _ (news : List (Slot L g)) where
      -- both were answered well
      module _ (s : Sends {T = Unit {0}} view asked (T.Step t e) mids news (Ok tt)) where
        moved_at : (i : ℕ) (d : Slot L g) → i < length olds → Moved view t e step (passes asked (stand_in view (get_or olds i d))) (get_or olds i d) (part i back.log ++ part i s.log) (get_or news i d)
        moved_at i d w =
            let inside : i < length mids = omega (arith, len, w) in
            moved_by view t e step asked (get_or olds i d) (get_or mids i d) (get_or news i d) (part i back.log) (part i s.log) (went i d w)
            (did_step view t e step later (get_or mids i d) (get_or news i d) (part i s.log) (went i d w).placed (passes asked (stand_in view (get_or mids i d))) (takes i d w) (s.well i d inside))

        pub all_good : RoundsOver {T = Unit {0}} view t step asked e olds news (Ok tt)
        all_good = record {
          log = back.log ++ s.log;
          told = told_on (instances view olds) (instances view mids) (instances view news) back.log s.log back.told s.told;
          says = (
            record {
              backs = back.log;
              steps = s.log;
              back = back.says;
              stepped = subst (λ (cs : List ComponentCall). IsAnswered (shapes (instances view olds)) cs s.log) (same_calls (C.DoStep t (e - t)))
                  (subst (λ (ss : List Shape). IsAnswered ss (to_some (passes asked) (C.DoStep t (e - t)) (stands view mids)) s.log) same_view s.says);
              log_is = refl;
            },
            λ i d w. subst (λ (es : List Exchange). Moved view t e step (passes asked (stand_in view (get_or olds i d))) (get_or olds i d) es (get_or news i d)) (sym (part_append i back.log s.log)) (moved_at i d w),
          );
        }

      -- a step wasn't
      pub bad_step : (bad : BadAnswer) → Sends {T = Unit {0}} view asked (T.Step t e) mids news (Err bad) → RoundsOver {T = Unit {0}} view t step asked e olds news (Err bad)
      bad_step bad s = record {
        log = back.log ++ s.log;
        told = told_on (instances view olds) (instances view mids) (instances view news) back.log s.log back.told s.told;
        says = InSteps back.log s.log back.says
            (subst (λ (cs : List ComponentCall). FailsIn (shapes (instances view olds)) cs bad s.log) (same_calls (C.DoStep t (e - t)))
            (subst (λ (ss : List Shape). FailsIn ss (to_some (passes asked) (C.DoStep t (e - t)) (stands view mids)) bad s.log) same_view s.says)) refl;
      }

      pub both_rounds : (r : Result (Unit {0}) BadAnswer) → Sends view asked (T.Step t e) mids news r → RoundsOver view t step asked e olds news r
      both_rounds (Ok x) s = all_good s
      both_rounds (Err bad) s = bad_step bad s

  -- one that goes back answered badly
  pub bad_back : (t e step : ℕ) (asked : Who) (olds news : List (Slot L g)) (bad : BadAnswer) → Sends {T = Unit {0}} view asked (T.Back t) olds news (Err bad) → RoundsOver {T = Unit {0}} view t step asked e olds news (Err bad)
  bad_back t e step asked olds news bad s = record { log = s.log; told = s.told; says = InBacks s.says }

  -- ---- where none goes back

  module _ (t e step : ℕ) (later : t < e) (asked : Who) (means : StaysMeant t asked) (olds : List (Slot L g)) (placed : All (Placed view t e step) olds) (home : All (IsHome view t asked) olds)
      (fitting : All (IsFitting view asked step (e - t)) olds) where
    stays : (k : ℕ) (d : Slot L g) → k < length olds → is_sent asked (T.Back t) (stand_in view (get_or olds k d)) ≡ false
    stays k d w = not_away t asked (stand_in view (get_or olds k d)) (home k d w)

    may_stay : All (MayGoBack view t asked) olds
    may_stay = λ k d w h. let no = stays k d w in absurd (let wrong : true ≡ false = sym h ∙ no in cc)

    no_back : Sends {T = Unit {0}} view asked (T.Back t) olds olds (Ok tt)
    no_back = sends_none view asked (T.Back t) olds (list_any_none (λ (s : Slot L g). is_sent asked (T.Back t) (stand_in view s)) olds stays)

    pub can_now : All (CanDo view asked (T.Step t e)) olds
    can_now = can_next t e step later asked means olds olds placed may_stay fitting refl no_back

    pub one_round : (news : List (Slot L g)) (r : Result (Unit {0}) BadAnswer) → Sends view asked (T.Step t e) olds news r → RoundsOver view t step asked e olds news r
    one_round news r s = both_rounds t e step later asked means olds olds placed may_stay fitting refl no_back news r s

  -- ---- with the size

  pub fits_by : (step size : ℕ) (who : Who) (olds : List (Slot L g)) → unfit step size (passes who) (stands view olds) ≡ None → (k : ℕ) (d : Slot L g) → k < length olds → passes who (stand_in view (get_or olds k d)) ≡ true → TakesSize step size (stand_in view (get_or olds k d)).shape
  fits_by step size who olds none k d w passed = by (size == step) refl where
    var_by : (p v : Bool) → p ≡ true → (p && not v) ≡ false → v ≡ true
    var_by true true h q = refl
    var_by true false h q = absurd (cc)
    var_by false v h q = absurd (cc)

    or_second : (v : Bool) → IsTrue (v || true)
    or_second true = refl
    or_second false = refl

    by : (x : Bool) → (size == step) ≡ x → TakesSize step size (stand_in view (get_or olds k d)).shape
    by true same = subst (λ (x : Bool). IsTrue ((stand_in view (get_or olds k d)).shape.has_variable_steps || x)) (sym same) (or_second (stand_in view (get_or olds k d)).shape.has_variable_steps)
    by false other =
        let position_none : position (λ (s : Stand). passes who s && not s.shape.has_variable_steps) (stands view olds) ≡ None = ap (λ (x : Bool). if x then None else position (λ (s : Stand). passes who s && not s.shape.has_variable_steps) (stands view olds)) (sym other) ∙ none in
        let nothing = none_passes (λ (s : Slot L g). passes who (stand_in view s) && not (stand_in view s).shape.has_variable_steps) olds
        (sym (position-map (λ (s : Slot L g). stand_in view s) (λ (s : Stand). passes who s && not s.shape.has_variable_steps) olds) ∙ position_none) k d w in
        subst (λ (v : Bool). IsTrue (v || size == step)) (sym (var_by (passes who (stand_in view (get_or olds k d))) (stand_in view (get_or olds k d)).shape.has_variable_steps passed nothing)) refl

  pub fitting_by : (step size : ℕ) (sized asked : Who) (olds : List (Slot L g)) → unfit step size (passes sized) (stands view olds) ≡ None → All (IsTested view sized asked step size) olds → All (IsFitting view asked step size) olds
  fitting_by step size sized asked olds none tested = λ k d w h. by k d w (tested k d w h) where
    by : (k : ℕ) (d : Slot L g) → k < length olds → (passes sized (stand_in view (get_or olds k d)) ≡ true) ⊎ TakesSize step size (stand_in view (get_or olds k d)).shape → TakesSize step size (stand_in view (get_or olds k d)).shape
    by k d w (inl passed) = fits_by step size sized olds none k d w passed
    by k d w (inr takes) = takes

  module _ (t step : ℕ) (sized asked : Who) (e : ℕ) (olds news : List (Slot L g)) where
    -- one doesn't take it
    unfit_at : (place : ℕ) → unfit step (e - t) (passes sized) (stands view olds) ≡ Some place → AskedOver {T = Unit {0}} view t step sized asked e olds olds (Err (FixedStep (record { 0 = place }) t e))
    unfit_at place some = record {
      log = [];
      told = told_none (instances view olds);
      says = (refl, λ ss so. IsUnfit place (unfit_so view ss olds so sized step (e - t) ∙ some) refl refl);
    }

    pub unfit_over : (end : StepEnd) → SizesSay {T = Unit {0}} view t step sized e olds (Err end) → AskedOver {T = Unit {0}} view t step sized asked e olds olds (Err end)
    unfit_over end (place, some, is) = subst (λ (x : StepEnd). AskedOver {T = Unit {0}} view t step sized asked e olds olds (Err x)) (sym is) (unfit_at place some)

    module _ (none : unfit step (e - t) (passes sized) (stands view olds) ≡ None) where
      fits : (ss : List Stand) → StandSo view ss olds → unfit step (e - t) (passes sized) ss ≡ None
      fits ss so = unfit_so view ss olds so sized step (e - t) ∙ none

      answered_so : (ss : List Stand) → StandSo view ss olds → (p : Stand → Bool) (call : Call) (log : List Sent) → to_some p call ss ≡ to_some p call (stands view olds) →
          IsAnswered (shapes (instances view olds)) (to_some p call (stands view olds)) log → IsAnswered (shapes_in ss) (to_some p call ss) log
      answered_so ss so p call log calls a =
          subst (λ (xs : List Shape). IsAnswered xs (to_some p call ss) log) (sym (shapes_so view ss olds so)) (subst (λ (cs : List ComponentCall). IsAnswered (shapes (instances view olds)) cs log) (sym calls) a)

      fails_so : (ss : List Stand) → StandSo view ss olds → (p : Stand → Bool) (call : Call) (bad : BadAnswer) (log : List Sent) → to_some p call ss ≡ to_some p call (stands view olds) →
          FailsIn (shapes (instances view olds)) (to_some p call (stands view olds)) bad log → FailsIn (shapes_in ss) (to_some p call ss) bad log
      fails_so ss so p call bad log calls a =
          subst (λ (xs : List Shape). FailsIn xs (to_some p call ss) bad log) (sym (shapes_so view ss olds so)) (subst (λ (cs : List ComponentCall). FailsIn (shapes (instances view olds)) cs bad log) (sym calls) a)

      pub asked_over : RoundsOver {T = Unit {0}} view t step asked e olds news (Ok tt) → AskedOver {T = Unit {0}} view t step sized asked e olds news (Ok tt)
      asked_over r = record {
        log = r.log;
        told = r.told;
        says = (
          λ ss so. record {
            backs = r.says.0.backs;
            steps = r.says.0.steps;
            fits = fits ss so;
            back = answered_so ss so (is_away t (passes asked)) C.Restore r.says.0.backs (away_so view ss olds so asked t C.Restore) r.says.0.back;
            stepped = answered_so ss so (passes asked) (C.DoStep t (e - t)) r.says.0.steps (passes_so view ss olds so asked (C.DoStep t (e - t))) r.says.0.stepped;
            log_is = r.says.0.log_is;
          },
          r.says.1,
        );
      }

      stops_by : (bad : BadAnswer) (log : List Sent) → RoundsFail (shapes (instances view olds)) (stands view olds) t e asked bad log → (ss : List Stand) → StandSo view ss olds → Stops t step (passes sized) (passes asked) e ss log (Fails bad)
      stops_by bad log (InBacks f) ss so = InBack bad (fits ss so) (fails_so ss so (is_away t (passes asked)) C.Restore bad log (away_so view ss olds so asked t C.Restore) f) refl
      stops_by bad log (InSteps backs steps a f is) ss so =
          InStep bad backs steps (fits ss so) (answered_so ss so (is_away t (passes asked)) C.Restore backs (away_so view ss olds so asked t C.Restore) a)
          (fails_so ss so (passes asked) (C.DoStep t (e - t)) bad steps (passes_so view ss olds so asked (C.DoStep t (e - t))) f) is refl

      pub fails_over : (bad : BadAnswer) → RoundsOver {T = Unit {0}} view t step asked e olds news (Err bad) → AskedOver {T = Unit {0}} view t step sized asked e olds news (Err (Bad bad))
      fails_over bad r = record { log = r.log; told = r.told; says = (tt, λ ss so. stops_by bad r.log r.says ss so) }
