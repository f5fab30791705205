-- Turns of an agreement, one after the other.
use Rattle.std.proofs.Common.{◌≡◌, ◌≢◌, ℕ, suc, ◌<◌, ◌≤◌, Bool, true, List, [], ◌∷◌, ◌++◌, Some, Ok, Err, refl, sym, ap, ap₂, ◌∙◌, subst, arith, append_assoc, is_some, length, get_or}
use Rattle.std.specs.Prelude.{All}
use Rattle.fmu_peer.specs.declared.peer.Exchange.{Exchange}
use Rattle.fmu_peer.specs.declared.peer.Peer.{Ghosts}
use Rattle.fmu_peer.specs.declared.slot.Slot.{Slot}
use Rattle.fmu_peer.specs.View.{View}
use Rattle.system_model.specs.EarlyReturn.{early_count}
use Rattle.slot_calls.specs.Log.{Sent, Told, part}
use Rattle.slot_calls.specs.Slots.{instances}
use Rattle.slot_calls.specs.Stage.{everyone, shapes}
use Rattle.slot_calls.proofs.CallerLemmas.{part_append, shapes_same, told_none, told_on}
use Rattle.step_agreement.specs.Agreement.{Agrees, Meets, Stand, stand_by, stands_by, stands_from}
use Rattle.step_agreement.specs.OverMachines.{asks_last}
use Rattle.step_agreement.specs.Saving.{is_saved}
use Rattle.step_agreement.proofs.CallerLemmas.{asks_on, shape_kept, stand_on, stands_on}
use Rattle.rollback.specs.Asked.{AgreedOver, GoesOn, IsSavedBy, MayGoBack, Moved, TurnOver, outcome_of}
use Rattle.rollback.specs.Places.{StandSo, at_rest, stand_in}
use Rattle.rollback.specs.Standing.{Placed}
use Rattle.rollback.specs.declared.agreeing.Turned.TheVariants.{Anew, Met}
use Rattle.rollback.specs.declared.places.Who.TheVariants as W
use Rattle.rollback.specs.declared.step_end.StepEnd.{StepEnd}
use Rattle.rollback.proofs.Resting.{after_part, rest_by}

-- the FMU of a slot stands where these exchanges led, with the same state saved
pub record Follows {L : Type 0} {g : Ghosts L} (view : L → View) (t : ℕ) (old : Slot L g) (es : List Exchange) (new : Slot L g) : Type 0 where
  pub saved : is_some new.saved ≡ is_some old.saved
  pub stand : stand_in view new ≡ at_rest (stand_by t (stand_in view old) es)

-- the turns so far led on, and the bound is this now
pub record Going {L : Type 0} {g : Ghosts L} (view : L → View) (t step b : ℕ) (olds : List (Slot L g)) (c : ℕ) (news : List (Slot L g)) : Type 0 where
  pub log : List Sent
  pub len : length news ≡ length olds
  pub told : Told log (instances view olds) (instances view news)
  pub goes : GoesOn view t step b c olds log
  pub follows : (i : ℕ) (d : Slot L g) → i < length olds → Follows view t (get_or olds i d) (part i log) (get_or news i d)
  pub placed : All (Placed view t c step) news
  pub begin : All (MayGoBack view t W.Everyone) news
  pub saved : All (IsSavedBy view (early_count (shapes (instances view news)))) news
  pub several : early_count (shapes (instances view news)) ≢ 1
  pub later : t < c
  pub within : c ≤ b

stands_none : (t k : ℕ) (ss : List Stand) → stands_from t k ss [] ≡ ss
stands_none t k [] = refl
stands_none t k (s ∷ ss) = ap (λ (xs : List Stand). s ∷ xs) (stands_none t (suc k) ss)

module _ {L : Type 0} {g : Ghosts L} (view : L → View) (t step b : ℕ) where
  pub going_first : (olds : List (Slot L g)) → All (Placed view t b step) olds → All (MayGoBack view t W.Everyone) olds → All (IsSavedBy view (early_count (shapes (instances view olds)))) olds → early_count (shapes (instances view olds)) ≢ 1 → t < b → Going view t step b olds b olds
  going_first olds placed begin saved several later = record {
    log = [];
    len = refl;
    told = told_none (instances view olds);
    goes = λ ss rest outcome so h. subst (λ (xs : List Stand). Agrees t step everyone b xs rest outcome) (stands_none t 0 ss) h;
    follows = λ i d w. record { saved = refl; stand = refl };
    placed = placed;
    begin = begin;
    saved = saved;
    several = several;
    later = later;
    within = omega arith;
  }

  module _ (olds : List (Slot L g)) (c : ℕ) (mids : List (Slot L g)) (so_far : Going view t step b olds c mids) where
    so_mid : (ss : List Stand) → StandSo view ss olds → StandSo view (stands_by t ss so_far.log) mids
    so_mid ss so = after_part view t so_far.log ss olds mids so so_far.len (λ i d w. (so_far.follows i d w).stand)

    stand_now : (o p n : Slot L g) (es fs : List Exchange) → Follows view t o es p → stand_in view n ≡ at_rest (stand_by t (stand_in view p) fs) → stand_in view n ≡ at_rest (stand_by t (stand_in view o) (es ++ fs))
    stand_now o p n es fs f is =
        is ∙ ap (λ (z : Stand). at_rest (stand_by t z fs)) f.stand ∙ rest_by t (stand_by t (stand_in view o) es) fs ∙ ap at_rest (sym (stand_on t (stand_in view o) es fs))

    pub turn_stops : (news : List (Slot L g)) (end : StepEnd) → TurnOver view t step c mids news (Err end) → AgreedOver view everyone t step b olds news (Err end)
    turn_stops news end turn = record {
      log = so_far.log ++ turn.log;
      told = told_on (instances view olds) (instances view mids) (instances view news) so_far.log turn.log so_far.told turn.told;
      says = record { from = turn.says.from; comes = λ ss so. so_far.goes ss turn.log (outcome_of end) so (turn.says.comes (stands_by t ss so_far.log) (so_mid ss so)) };
    }

    module _ (news : List (Slot L g)) (len2 : length news ≡ length mids) where
      pub turn_meets : (m : ℕ) → TurnOver view t step c mids news (Ok (Met m)) → AgreedOver view everyone t step b olds news (Ok m)
      turn_meets m turn = record {
        log = so_far.log ++ turn.log;
        told = told_on (instances view olds) (instances view mids) (instances view news) so_far.log turn.log so_far.told turn.told;
        says = record {
          comes = λ ss so. so_far.goes ss turn.log (Meets m) so (turn.says.comes (stands_by t ss so_far.log) (so_mid ss so));
          moved = λ i d w. subst (λ (es : List Exchange). Moved view t m step true (get_or olds i d) es (get_or news i d)) (sym (part_append i so_far.log turn.log)) (moved i d w);
          there = turn.says.there;
          later = turn.says.later;
          within = let l = turn.says.within in let k = so_far.within in omega (arith, l, k);
        };
      } where
        moved : (i : ℕ) (d : Slot L g) → i < length olds → Moved view t m step true (get_or olds i d) (part i so_far.log ++ part i turn.log) (get_or news i d)
        moved i d w =
            let inside : i < length mids = (let l = so_far.len in omega (arith, l, w)) in
            let f = so_far.follows i d w in
            let k = turn.says.moved i d inside in
            record {
              placed = k.placed;
              saved = k.saved ∙ f.saved;
              stand = stand_now (get_or olds i d) (get_or mids i d) (get_or news i d) (part i so_far.log) (part i turn.log) f k.stand;
              keeps = λ a was. k.tells refl (asks_last a (part i so_far.log)) ∙ ap (λ (x : Bool). Some (Ok x)) (sym (asks_on a (part i so_far.log) (part i turn.log)));
              tells = λ h a. k.tells refl (asks_last a (part i so_far.log)) ∙ ap (λ (x : Bool). Some (Ok x)) (sym (asks_on a (part i so_far.log) (part i turn.log)));
            }

      pub turn_goes : (e : ℕ) → TurnOver view t step c mids news (Ok (Anew e)) → Going view t step b olds e news
      turn_goes e turn = record {
        log = so_far.log ++ turn.log;
        len = len2 ∙ so_far.len;
        told = told_on (instances view olds) (instances view mids) (instances view news) so_far.log turn.log so_far.told turn.told;
        goes = λ ss rest outcome so h.
            subst (λ (l : List Sent). Agrees t step everyone b ss l outcome) (sym (append_assoc so_far.log turn.log rest))
            (so_far.goes ss (turn.log ++ rest) outcome so
            (turn.says.goes (stands_by t ss so_far.log) rest outcome (so_mid ss so) (subst (λ (xs : List Stand). Agrees t step everyone e xs rest outcome) (stands_on t ss so_far.log turn.log) h)));
        follows = λ i d w.
            let inside : i < length mids = (let l = so_far.len in omega (arith, l, w)) in
            let f = so_far.follows i d w in
            let k = turn.says.moved i d inside in
            subst (λ (es : List Exchange). Follows view t (get_or olds i d) es (get_or news i d)) (sym (part_append i so_far.log turn.log))
            (record { saved = k.saved ∙ f.saved; stand = stand_now (get_or olds i d) (get_or mids i d) (get_or news i d) (part i so_far.log) (part i turn.log) f k.stand });
        placed = λ k d w. (turn.says.moved k d (omega (arith, len2, w))).placed;
        begin = λ k d w h. turn.says.kept k d w;
        saved = λ k d w.
            let inside : k < length mids = omega (arith, len2, w) in
            let x = turn.says.moved k d inside in
            let shape = ap (λ (s : Stand). s.shape) x.stand ∙ shape_kept t (stand_in view (get_or mids k d)) (part k turn.log) in
            let same = shapes_same turn.log (instances view mids) (instances view news) turn.told in
            x.saved ∙ so_far.saved k d inside ∙ ap₂ is_saved (ap early_count (sym same)) (sym shape);
        several = λ e. so_far.several (ap early_count (sym (shapes_same turn.log (instances view mids) (instances view news) turn.told)) ∙ e);
        later = turn.says.later;
        within = let l = turn.says.before in let k = so_far.within in omega (arith, l, k);
      }
