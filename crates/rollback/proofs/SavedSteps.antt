-- The states that are saved for an agreed step, the agreement, and their end.
use Rattle.std.proofs.Common.{◌≡◌, ℕ, suc, ◌+◌, ◌-◌, ◌<◌, Bool, true, false, List, [], ◌∷◌, ◌++◌, Option, Some, None, Result, Ok, Err, refl, sym, ap, ap₂, ◌∙◌, subst, arith, append-nil, is_some, length, get_or}
use Rattle.std.specs.Prelude.{All, ◌||◌, count_by}
use Rattle.std.specs.List.{list_any}
use Rattle.std.proofs.lemmas.List.{length-map}
use Rattle.value_types.specs.declared.shape.Shape.{Shape}
use Rattle.fmi_calls.specs.declared.call.Call.{Call}
use Rattle.fmi_calls.specs.declared.call.Call.TheVariants as C
use Rattle.fmi_calls.specs.declared.call.Grade.{Grade}
use Rattle.fmi_calls.specs.declared.call.Grade.TheVariants as G
use Rattle.fmi_calls.specs.declared.call.Reply.{Reply}
use Rattle.fmi_calls.specs.Permission.{none_marked}
use Rattle.fmi_calls.specs.Worth.{grade_of}
use Rattle.fmu_peer.specs.declared.peer.Exchange.{Exchange}
use Rattle.fmu_peer.specs.declared.peer.Peer.{Ghosts}
use Rattle.fmu_peer.specs.declared.peer.PeerFault.{PeerFault}
use Rattle.fmu_peer.specs.declared.slot.Slot.{Slot}
use Rattle.fmu_peer.specs.CloseAll.{Instance, instance_in, peer_in}
use Rattle.fmu_peer.specs.View.{View}
use Rattle.system_model.specs.EarlyReturn.{early_count}
use Rattle.run_model.specs.Stepping.{asked_first}
use Rattle.slot_calls.specs.Log.{ComponentCall, Sent, part}
use Rattle.slot_calls.specs.SavedStates.{if_good, saved_by}
use Rattle.slot_calls.specs.Slots.{instances}
use Rattle.slot_calls.specs.Stage.{FailsIn, IsAnswered, shapes}
use Rattle.slot_calls.specs.declared.bad_answer.BadAnswer.{BadAnswer}
use Rattle.slot_calls.proofs.CallerLemmas.{shapes_same, told_none, told_on}
use Rattle.step_agreement.specs.Agreement as A
use Rattle.step_agreement.specs.Agreement.{Agrees, Fails, Meets, Outcome, Stand, Unfit, to_some, unfit}
use Rattle.step_agreement.specs.OverMachines.{asks_last}
use Rattle.step_agreement.specs.Saving.{is_saved}
use Rattle.step_agreement.proofs.CallerLemmas.{map_map, shape_kept}
use Rattle.rollback.specs.Asked.{AgreedOver, IsSavedBy, MayBeSaved, SizesSay, asks_in}
use Rattle.rollback.specs.Places.{CanDo, GoodSent, SentTo, Sends, StandSo, WasLeft, passes, stand_in, stands}
use Rattle.rollback.specs.Standing.{HasStepped, InStep, IsReady, Placed}
use Rattle.rollback.specs.StepsBy.{Done, FreesBadly, SavesBadly, StepsBadly, StepsOver, StopsShort, Unfitted, all_at, some_ask_from, to_saved}
use Rattle.rollback.specs.declared.asking.Turn.TheVariants as T
use Rattle.rollback.specs.declared.places.Who.TheVariants as W
use Rattle.rollback.specs.declared.step_end.StepEnd.{StepEnd}
use Rattle.rollback.specs.declared.step_end.StepEnd.TheVariants.{Bad, FixedStep}
use Rattle.rollback.proofs.Moving.{can_be_freed, can_be_saved, left_placed, led_of, placed_by, shape_by, token_of}
use Rattle.rollback.proofs.Resting.{count_map, some_map, unfit_so}
use Rattle.rollback.proofs.Standing.{now_freed, now_saved}

module _ {L : Type 0} {g : Ghosts L} (view : L → View) where
  abbrev pub early_in : List (Slot L g) → ℕ
  early_in slots = early_count (shapes (instances view slots))

  -- ---- which are selected

  -- as the code counts them
  pub early_counted : (slots : List (Slot L g)) → count_by (λ (s : Slot L g). (stand_in view s).shape.might_return_early) slots ≡ early_in slots
  early_counted slots =
      sym (count_map (λ (s : Slot L g). (stand_in view s).shape) (λ (s : Shape). s.might_return_early) slots)
      ∙ ap early_count (sym (map_map (λ (s : Slot L g). instance_in view s) (λ (i : Instance). i.view.fixed.shape) slots))

  -- the calls to all, where two or more might return early
  saved_calls : (slots : List (Slot L g)) (ss : List Shape) (early : ℕ) (call : Call) → shapes (instances view slots) ≡ ss → early ≡ early_count ss →
      to_some (passes (W.Saved early)) call (stands view slots) ≡ to_saved call ss
  saved_calls slots ss early call same counted =
      some_map (λ (s : Slot L g). stand_in view s) (passes (W.Saved early)) call 0 slots
      ∙ sym (some_map (λ (s : Slot L g). (stand_in view s).shape) (is_saved early) call 0 slots)
      ∙ ap (to_some (is_saved early) call) (sym (map_map (λ (s : Slot L g). instance_in view s) (λ (i : Instance). i.view.fixed.shape) slots) ∙ same)
      ∙ ap (λ (n : ℕ). to_some (is_saved n) call ss) counted

  -- ---- all at one point

  so_all : (t : ℕ) (slots : List (Slot L g)) → All (λ (s : Slot L g). (stand_in view s).point ≡ t) slots → StandSo view (all_at t (shapes (instances view slots))) slots
  so_all t [] at = refl
  so_all t (s ∷ slots) at =
      ap₂ (λ (n : ℕ) (xs : List Stand). record { shape = (stand_in view s).shape; point = n; ask = 0 } ∷ xs) (sym (at 0 s (omega arith)))
      (so_all t slots (λ k d w. at (suc k) d (omega (arith, w))))

  -- ---- saving

  module _ (t b step early : ℕ) (olds : List (Slot L g)) (ready : All (IsReady view t b step) olds) (early_is : early ≡ early_in olds) (may : All (MayBeSaved view (early_in olds)) olds) where
    pub can_save : All (CanDo view (W.Saved early) T.Save) olds
    can_save = λ k d w.
        let r = ready k d w in
        can_be_saved view t b step (W.Saved early) (get_or olds k d) r.placed r.unsaved
        (λ h. may k d w (ap (λ (n : ℕ). is_saved n (stand_in view (get_or olds k d)).shape) (sym early_is) ∙ h))

    -- where a state is saved
    record NowSaved (o p : Slot L g) : Type 0 where
      placed : Placed view t b step p
      saved : is_some p.saved ≡ is_saved early (stand_in view p).shape
      shape : (stand_in view p).shape ≡ (stand_in view o).shape
      at : (stand_in view p).point ≡ t

    good_save : (shape : Shape) (e : Exchange) (was : Bool) → (reply : Reply) → e.result ≡ Ok reply → grade_of shape C.Save reply ≡ G.Good → saved_by shape C.Save e.result was ≡ true
    good_save shape e was reply is good = ap (λ (r : Result Reply PeerFault). saved_by shape C.Save r was) is ∙ ap (λ (x : Grade). if_good x was) good

    saved_sent : (o p : Slot L g) (es : List Exchange) → IsReady view t b step o → is_saved early (stand_in view o).shape ≡ true → (stand_in view o).shape.can_save_state ≡ true → GoodSent view C.Save o es p → NowSaved o p
    saved_sent o p es r meant can s =
        let l = led_of view C.Save o p es s in
        let shape = shape_by (view (peer_in o.held)) (view (peer_in p.held)) s.exchange l in
        let n = now_saved t b step (is_some o.saved) (view (peer_in o.held)) r.placed.stands (view (peer_in p.held)) s.exchange l s.call_is r.at can in
        let token : is_some p.saved ≡ true =
        token_of view C.Save o p es s
        ∙ good_save (view (peer_in o.held)).fixed.shape s.exchange (is_some o.saved) l.reply l.is (ap (λ (c : Call). grade_of (view (peer_in o.held)).fixed.shape c l.reply) (sym s.call_is) ∙ l.good) in
        record {
          placed = placed_by view t b step true p token s.live n.0;
          saved = token ∙ sym meant ∙ ap (is_saved early) (sym shape);
          shape = shape;
          at = n.1;
        }

    saved_left : (o p : Slot L g) (es : List Exchange) → IsReady view t b step o → is_saved early (stand_in view o).shape ≡ false → WasLeft o es p → NowSaved o p
    saved_left o p es r unmeant w = record {
      placed = left_placed view t b step o p es w r.placed;
      saved = ap (λ (s : Slot L g). is_some s.saved) w.new_is ∙ r.unsaved ∙ sym unmeant ∙ ap (λ (s : Slot L g). is_saved early (stand_in view s).shape) (sym w.new_is);
      shape = ap (λ (s : Slot L g). (stand_in view s).shape) w.new_is;
      at = ap (λ (s : Slot L g). (stand_in view s).point) w.new_is ∙ r.at;
    }

    module _ (mids : List (Slot L g)) (len : length mids ≡ length olds) (sends : Sends {T = Unit {0}} view (W.Saved early) T.Save olds mids (Ok tt)) where
      now : (k : ℕ) (d : Slot L g) → k < length olds → NowSaved (get_or olds k d) (get_or mids k d)
      now k d w = by (is_saved early (stand_in view (get_or olds k d)).shape) refl (sends.well k d w) where
        by : (x : Bool) → is_saved early (stand_in view (get_or olds k d)).shape ≡ x → SentTo view C.Save x (get_or olds k d) (part k sends.log) (get_or mids k d) → NowSaved (get_or olds k d) (get_or mids k d)
        by true h s = saved_sent (get_or olds k d) (get_or mids k d) (part k sends.log) (ready k d w) h (may k d w (ap (λ (n : ℕ). is_saved n (stand_in view (get_or olds k d)).shape) (sym early_is) ∙ h)) s
        by false h s = saved_left (get_or olds k d) (get_or mids k d) (part k sends.log) (ready k d w) h s

      inside : (k : ℕ) → k < length mids → k < length olds
      inside k w = omega (arith, len, w)

      pub placed_mid : All (Placed view t b step) mids
      placed_mid = λ k d w. (now k d (inside k w)).placed

      shapes_mid : shapes (instances view mids) ≡ shapes (instances view olds)
      shapes_mid = shapes_same sends.log (instances view olds) (instances view mids) sends.told

      pub early_mid : early ≡ early_in mids
      early_mid = early_is ∙ ap early_count (sym shapes_mid)

      pub saved_mid : All (IsSavedBy view early) mids
      saved_mid = λ k d w. (now k d (inside k w)).saved

      pub at_mid : All (λ (s : Slot L g). (stand_in view s).point ≡ t) mids
      at_mid = λ k d w. (now k d (inside k w)).at

      so_mid : StandSo view (all_at t (shapes (instances view olds))) mids
      so_mid = subst (λ (ss : List Shape). StandSo view (all_at t ss) mids) shapes_mid (so_all t mids at_mid)

      -- who comes first is counted before the Saves
      by_count : (log : List Sent) (outcome : Outcome) → Agrees t step (asked_first early) b (all_at t (shapes (instances view olds))) log outcome → Agrees t step (asked_first (early_count (shapes (instances view olds)))) b (all_at t (shapes (instances view olds))) log outcome
      by_count log outcome h = subst (λ (n : ℕ). Agrees t step (asked_first n) b (all_at t (shapes (instances view olds))) log outcome) early_is h

      module _ (fits : unfit step (b - t) A.everyone (all_at t (shapes (instances view olds))) ≡ None) where
        saves_answered : IsAnswered (shapes (instances view olds)) (to_saved C.Save (shapes (instances view olds))) sends.log
        saves_answered = subst (λ (cs : List ComponentCall). IsAnswered (shapes (instances view olds)) cs sends.log) (saved_calls olds (shapes (instances view olds)) early C.Save refl early_is) sends.says

        -- the step isn't made
        pub agreement_stops : (news : List (Slot L g)) (end : StepEnd) → AgreedOver view (asked_first early) t step b mids news (Err end) → StepsOver view t step b olds news (Err end)
        agreement_stops news (FixedStep component at end) a = record {
          log = sends.log ++ a.log;
          told = told_on (instances view olds) (instances view mids) (instances view news) sends.log a.log sends.told a.told;
          steps = StopsShort component.0 end (record {
            fits = fits;
            saves = sends.log;
            agreed = a.log;
            saved = saves_answered;
            agrees = by_count a.log (Unfit component.0 end) (a.says.comes (all_at t (shapes (instances view olds))) so_mid);
            log_is = ap (λ (l : List Sent). sends.log ++ l) (sym (append-nil a.log));
          }) (ap (λ (n : ℕ). Err (FixedStep component n end)) a.says.from);
        }
        agreement_stops news (Bad bad) a = record {
          log = sends.log ++ a.log;
          told = told_on (instances view olds) (instances view mids) (instances view news) sends.log a.log sends.told a.told;
          steps = StepsBadly bad (record {
            fits = fits;
            saves = sends.log;
            agreed = a.log;
            saved = saves_answered;
            agrees = by_count a.log (Fails bad) (a.says.comes (all_at t (shapes (instances view olds))) so_mid);
            log_is = ap (λ (l : List Sent). sends.log ++ l) (sym (append-nil a.log));
          }) refl;
        }

        -- ---- the end of a step that is made

        module _ (after : List (Slot L g)) (len2 : length after ≡ length mids) (m : ℕ) (a : AgreedOver view (asked_first early) t step b mids after (Ok m)) where
          shapes_after : shapes (instances view after) ≡ shapes (instances view olds)
          shapes_after = shapes_same a.log (instances view mids) (instances view after) a.told ∙ shapes_mid

          inside2 : (k : ℕ) → k < length after → k < length mids
          inside2 k w = omega (arith, len2, w)

          shape_after : (k : ℕ) (d : Slot L g) → k < length mids → is_some (get_or after k d).saved ≡ is_saved early (stand_in view (get_or after k d)).shape
          shape_after k d w =
              let x = a.says.moved k d w in
              x.saved ∙ (now k d (inside k w)).saved ∙ ap (is_saved early) (sym (ap (λ (s : Stand). s.shape) x.stand ∙ shape_kept t (stand_in view (get_or mids k d)) (part k a.log)))

          pub can_free : All (CanDo view (W.Saved early) T.Free) after
          can_free = λ k d w. can_be_freed view t m step (W.Saved early) (get_or after k d) (a.says.moved k d (inside2 k w)).placed (λ h. shape_after k d (inside2 k w) ∙ h)

          frees_calls : to_some (passes (W.Saved early)) C.Free (stands view after) ≡ to_saved C.Free (shapes (instances view olds))
          frees_calls = saved_calls after (shapes (instances view olds)) early C.Free shapes_after early_is

          module _ (news : List (Slot L g)) where
            pub frees_bad : (bad : BadAnswer) → Sends {T = Unit {0}} view (W.Saved early) T.Free after news (Err bad) → StepsOver view t step b olds news (Err (Bad bad))
            frees_bad bad f = record {
              log = sends.log ++ (a.log ++ f.log);
              told = told_on (instances view olds) (instances view mids) (instances view news) sends.log (a.log ++ f.log) sends.told
                  (told_on (instances view mids) (instances view after) (instances view news) a.log f.log a.told f.told);
              steps = FreesBadly bad m f.log (record {
                fits = fits;
                saves = sends.log;
                agreed = a.log;
                saved = saves_answered;
                agrees = by_count a.log (Meets m) (a.says.comes (all_at t (shapes (instances view olds))) so_mid);
                log_is = refl;
              }) (subst (λ (ss : List Shape). FailsIn ss (to_saved C.Free (shapes (instances view olds))) bad f.log) shapes_after
                  (subst (λ (cs : List ComponentCall). FailsIn (shapes (instances view after)) cs bad f.log) frees_calls f.says)) refl;
            }

            module _ (len3 : length news ≡ length after) (f : Sends {T = Unit {0}} view (W.Saved early) T.Free after news (Ok tt)) where
              -- each has stepped there, and no state is saved
              at_end : (x : Bool) → x ≡ false → (v : View) → v.phase.point ≡ m → InStep t m step x v → InStep m m step x v × (none_marked v.phase.marks ≡ true)
              at_end x is v at h =
                  let unset : none_marked v.phase.marks ≡ true = h.unset (λ same. absurd (let later = a.says.later in omega (arith, later, same, at))) in (
                    record { state = h.state; stop = h.stop; sized = h.sized; full = h.full; saved = λ q. absurd (let wrong : true ≡ false = sym q ∙ is in cc); may_save = h.may_save; unset = λ away. unset },
                    unset,
                  )

              freed_sent : (o n : Slot L g) (es : List Exchange) → Placed view t m step o → (stand_in view o).point ≡ m → GoodSent view C.Free o es n → HasStepped view m step n
              freed_sent o n es p at s =
                  let l = led_of view C.Free o n es s in
                  let r = now_freed t m step (is_some o.saved) (view (peer_in o.held)) p.stands (view (peer_in n.held)) s.exchange l s.call_is in
                  let token : is_some n.saved ≡ false = token_of view C.Free o n es s in
                  let end = at_end false refl (view (peer_in n.held)) (r.1 ∙ at) r.0 in
                  record { ready = record { placed = placed_by view m m step false n token s.live end.0; unsaved = token; at = r.1 ∙ at }; unset = end.1 }

              freed_left : (o n : Slot L g) (es : List Exchange) → Placed view t m step o → (stand_in view o).point ≡ m → is_some o.saved ≡ false → WasLeft o es n → HasStepped view m step n
              freed_left o n es p at none w =
                  let end = at_end (is_some o.saved) none (view (peer_in o.held)) at p.stands in
                  subst (HasStepped view m step) (sym w.new_is) (record { ready = record { placed = record { live = p.live; stands = end.0 }; unsaved = none; at = at }; unset = end.1 })

              pub all_stepped : All (HasStepped view m step) news
              all_stepped = λ k d w. let here : k < length after = omega (arith, len3, w) in by k d here (is_saved early (stand_in view (get_or after k d)).shape) refl (f.well k d here) where
                by : (k : ℕ) (d : Slot L g) → k < length after → (x : Bool) → is_saved early (stand_in view (get_or after k d)).shape ≡ x → SentTo view C.Free x (get_or after k d) (part k f.log) (get_or news k d) → HasStepped view m step (get_or news k d)
                by k d w true h s = freed_sent (get_or after k d) (get_or news k d) (part k f.log) (a.says.moved k d (inside2 k w)).placed (a.says.there k d w) s
                by k d w false h s = freed_left (get_or after k d) (get_or news k d) (part k f.log) (a.says.moved k d (inside2 k w)).placed (a.says.there k d w) (shape_after k d (inside2 k w) ∙ h) s

              asked_from : (k : ℕ) (ss : List Shape) (slots : List (Slot L g)) → length slots ≡ length ss → ((i : ℕ) (d : Slot L g) → i < length slots → (get_or slots i d).answer ≡ Some (Ok (asks_last false (part (k + i) a.log)))) →
                  list_any (λ (s : Slot L g). asks_in s.answer) slots ≡ some_ask_from k ss a.log
              asked_from k [] [] len each = refl
              asked_from k [] (x ∷ slots) len each = absurd (omega (arith, len))
              asked_from k (s ∷ ss) [] len each = absurd (omega (arith, len))
              asked_from k (s ∷ ss) (x ∷ slots) len each =
                  let place : k + 0 ≡ k = omega arith in
                  ap₂ ◌||◌ (ap asks_in (each 0 x (omega arith)) ∙ ap (λ (n : ℕ). asks_last false (part n a.log)) place)
                  (asked_from (suc k) ss slots (omega (arith, len)) (λ i d w. let next : suc k + i ≡ k + suc i = omega arith in each (suc i) d (omega (arith, w)) ∙ ap (λ (n : ℕ). Some (Ok (asks_last false (part n a.log)))) (sym next)))

              asked_is : (asked : Bool) → asked ≡ list_any (λ (s : Slot L g). asks_in s.answer) after → asked ≡ some_ask_from 0 (shapes (instances view olds)) a.log
              asked_is asked is =
                  is ∙ asked_from 0 (shapes (instances view olds)) after (let x = length-map olds (λ (s : Slot L g). instance_in view s) in let y = length-map (instances view olds) (λ (i : Instance). i.view.fixed.shape) in omega (arith, x, y, len, len2))
                  (λ i d w. let place : 0 + i ≡ i = omega arith in (a.says.moved i d (inside2 i w)).tells refl false ∙ ap (λ (n : ℕ). Some (Ok (asks_last false (part n a.log)))) (sym place))

              pub done : (asked : Bool) → asked ≡ list_any (λ (s : Slot L g). asks_in s.answer) after → StepsOver view t step b olds news (Ok (record { point = m; asked = asked }))
              done asked is = record {
                log = sends.log ++ (a.log ++ f.log);
                told = told_on (instances view olds) (instances view mids) (instances view news) sends.log (a.log ++ f.log) sends.told
                    (told_on (instances view mids) (instances view after) (instances view news) a.log f.log a.told f.told);
                steps = Done m f.log (record {
                  fits = fits;
                  saves = sends.log;
                  agreed = a.log;
                  saved = saves_answered;
                  agrees = by_count a.log (Meets m) (a.says.comes (all_at t (shapes (instances view olds))) so_mid);
                  log_is = refl;
                }) (subst (λ (ss : List Shape). IsAnswered ss (to_saved C.Free (shapes (instances view olds))) f.log) shapes_after
                    (subst (λ (cs : List ComponentCall). IsAnswered (shapes (instances view after)) cs f.log) frees_calls f.says))
                    (ap (λ (x : Bool). Ok (record { point = m; asked = x })) (asked_is asked is));
              }

  -- ---- where nothing was saved

  module _ (t b step : ℕ) (olds : List (Slot L g)) (ready : All (IsReady view t b step) olds) where
    so_old : StandSo view (all_at t (shapes (instances view olds))) olds
    so_old = so_all t olds (λ k d w. (ready k d w).at)

    fits_of : (o : Option ℕ) → unfit step (b - t) (passes W.Everyone) (stands view olds) ≡ o → unfit step (b - t) A.everyone (all_at t (shapes (instances view olds))) ≡ o
    fits_of o is = unfit_so view (all_at t (shapes (instances view olds))) olds so_old W.Everyone step (b - t) ∙ is

    pub fits_all : unfit step (b - t) (passes W.Everyone) (stands view olds) ≡ None → unfit step (b - t) A.everyone (all_at t (shapes (instances view olds))) ≡ None
    fits_all is = fits_of None is

    unfit_at : (place : ℕ) → unfit step (b - t) (passes W.Everyone) (stands view olds) ≡ Some place → StepsOver view t step b olds olds (Err (FixedStep (record { 0 = place }) t b))
    unfit_at place is = record { log = []; told = told_none (instances view olds); steps = Unfitted place (fits_of (Some place) is) refl refl }

    pub unfitted : (end : StepEnd) → SizesSay {T = Unit {0}} view t step W.Everyone b olds (Err end) → StepsOver view t step b olds olds (Err end)
    unfitted end (place, some, is) = subst (λ (x : StepEnd). StepsOver view t step b olds olds (Err x)) (sym is) (unfit_at place some)

    pub saves_badly : (early : ℕ) → early ≡ early_in olds → (news : List (Slot L g)) (bad : BadAnswer) → unfit step (b - t) (passes W.Everyone) (stands view olds) ≡ None →
        Sends {T = Unit {0}} view (W.Saved early) T.Save olds news (Err bad) → StepsOver view t step b olds news (Err (Bad bad))
    saves_badly early early_is news bad is s = record {
      log = s.log;
      told = s.told;
      steps = SavesBadly bad (fits_all is) (subst (λ (cs : List ComponentCall). FailsIn (shapes (instances view olds)) cs bad s.log) (saved_calls olds (shapes (instances view olds)) early C.Save refl early_is) s.says) refl;
    }
