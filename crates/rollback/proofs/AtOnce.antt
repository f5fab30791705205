-- A step of the plan's size where none might return early: all are asked at once, and none is saved.
use Rattle.std.proofs.Common.{◌≡◌, ◌≢◌, ℕ, ◌-◌, ◌<◌, Bool, List, Option, Some, None, Ok, Err, refl, sym, ap, subst, arith, length}
use Rattle.std.specs.Prelude.{All, IfSome, if◌then◌else◌, position, ◌&&◌, not}
use Rattle.std.specs.List.{list_any}
use Rattle.fmu_peer.specs.declared.peer.Peer.{Ghosts}
use Rattle.fmu_peer.specs.declared.slot.Slot.{Slot}
use Rattle.fmu_peer.specs.View.{View}
use Rattle.run_model.specs.Stepping.{asked_first}
use Rattle.slot_calls.specs.Slots.{instances}
use Rattle.slot_calls.specs.Stage.{shapes}
use Rattle.slot_calls.specs.declared.bad_answer.BadAnswer.{BadAnswer}
use Rattle.step_agreement.specs.Agreement.{Stand, unfit}
use Rattle.step_agreement.specs.Agreement as A
use Rattle.step_agreement.proofs.CallerLemmas.{same_number}
use Rattle.rollback.specs.Asked.{AgreedOver, AskedOver, IsBadStep, MayBeSaved, asks_in}
use Rattle.rollback.specs.Places.{CanDo, Sends, passes, stands, told_by}
use Rattle.rollback.specs.Standing.{HasStepped, IsReady}
use Rattle.rollback.specs.StepsBy.{StepsOver, all_at, or_unmade}
use Rattle.rollback.specs.declared.asking.Turn.TheVariants as T
use Rattle.rollback.specs.declared.places.Who.TheVariants as W
use Rattle.rollback.specs.declared.step_end.Agreed.{Agreed}
use Rattle.rollback.specs.declared.step_end.StepEnd.{StepEnd}
use Rattle.rollback.specs.declared.step_end.StepEnd.TheVariants.{Bad}
use Rattle.rollback.proofs.OneAsking.{asked_over, can_now, fails_over, fitting_by, one_round}
use Rattle.rollback.proofs.OneTurn.{agreed_all, none_meets, none_stops}
use Rattle.rollback.proofs.SavedSteps.{agreement_stops, all_stepped, done, early_in, fits_all}
use Rattle.rollback.proofs.Sending.{none_meant, sends_none}
use Rattle.rollback.proofs.Turning.{tested_all}

-- where the step isn't made, nothing is told of its end
pub not_made : (o : Option Agreed) → o ≡ None → (P : Agreed → Type 0) → IfSome o P
not_made None is P = tt
not_made (Some x) is P = absurd (cc)

-- all take a step of the plan's size
plain_size : (step size : ℕ) → size ≡ step → (test : Stand → Bool) (ss : List Stand) → unfit step size test ss ≡ None
plain_size step size same test ss = ap (λ (b : Bool). if b then None else position (λ (s : Stand). test s && not s.shape.has_variable_steps) ss) (same_number size step same)

module _ {L : Type 0} {g : Ghosts L} (view : L → View) (t b step : ℕ) (later : t < b) (plain : b - t ≡ step) (olds : List (Slot L g)) (ready : All (IsReady view t b step) olds) (none : early_in view olds ≡ 0) (may : All (MayBeSaved view (early_in view olds)) olds) where
  fits : unfit step (b - t) (passes W.Everyone) (stands view olds) ≡ None
  fits = plain_size step (b - t) plain (passes W.Everyone) (stands view olds)

  pub can_step : All (CanDo view W.Everyone (T.Step t b)) olds
  can_step =
      can_now view t b step later W.Everyone tt olds (λ k d w. (ready k d w).placed) (λ k d w h. (ready k d w).at)
      (fitting_by view step (b - t) W.Everyone W.Everyone olds fits (tested_all view step (b - t) olds))

  unsaved : Sends {T = Unit {0}} view (W.Saved 0) T.Save olds olds (Ok tt)
  unsaved = sends_none view (W.Saved 0) T.Save olds (none_meant view 0 refl T.Save olds)

  fits_at : unfit step (b - t) A.everyone (all_at t (shapes (instances view olds))) ≡ None
  fits_at = fits_all view t b step olds ready fits

  not_one : (early : ℕ) → early ≡ 0 → early ≢ 1
  not_one early is = λ one. absurd (omega (arith, is, one))

  module _ (news : List (Slot L g)) (len : length news ≡ length olds) where
    module _ (sends : Sends {T = Unit {0}} view W.Everyone (T.Step t b) olds news (Ok tt)) where
      asked : AskedOver {T = Unit {0}} view t step W.Everyone W.Everyone b olds news (Ok tt)
      asked =
          asked_over view t step W.Everyone W.Everyone b olds news fits
          (one_round view t b step later W.Everyone tt olds (λ k d w. (ready k d w).placed) (λ k d w h. (ready k d w).at)
          (fitting_by view step (b - t) W.Everyone W.Everyone olds fits (tested_all view step (b - t) olds)) news (Ok tt) sends)

      agreed : AgreedOver view (asked_first 0) t step b olds news (Ok b)
      agreed = agreed_all view 0 t step b olds news (Ok b) (not_one 0 refl) (none_meets view t step b later olds none news len asked)

      unfreed : Sends {T = Unit {0}} view (W.Saved 0) T.Free news news (Ok tt)
      unfreed = sends_none view (W.Saved 0) T.Free news (none_meant view 0 refl T.Free news)

      pub stepped_once : All (HasStepped view b step) news
      stepped_once = all_stepped view t b step 0 olds ready (sym none) may olds refl unsaved fits_at news len b agreed news refl unfreed

      pub done_once : (asks : Bool) → asks ≡ list_any (λ (s : Slot L g). asks_in s.answer) news → StepsOver view t step b olds news (Ok (record { point = b; asked = asks }))
      done_once asks is = done view t b step 0 olds ready (sym none) may olds refl unsaved fits_at news len b agreed news refl unfreed asks is

    bad_once : (bad : BadAnswer) → Sends {T = Unit {0}} view W.Everyone (T.Step t b) olds news (Err bad) → StepsOver view t step b olds news (Err (Bad bad))
    bad_once bad sends =
        agreement_stops view t b step 0 olds ready (sym none) may olds refl unsaved fits_at news (Bad bad)
        (agreed_all view 0 t step b olds news (Err (Bad bad)) (not_one 0 refl)
        (none_stops view t step b later olds none news (Bad bad)
        (fails_over view t step W.Everyone W.Everyone b olds news fits bad
        (one_round view t b step later W.Everyone tt olds (λ k d w. (ready k d w).placed) (λ k d w h. (ready k d w).at)
        (fitting_by view step (b - t) W.Everyone W.Everyone olds fits (tested_all view step (b - t) olds)) news (Err bad) sends))))

    -- one of the answers isn't good
    pub stops_once : (answer : Option BadAnswer) → Sends view W.Everyone (T.Step t b) olds news (told_by answer) → (o : Option Agreed) → o ≡ None → (end : StepEnd) → IsBadStep answer end → StepsOver view t step b olds news (or_unmade o end)
    stops_once answer sends (Some x) none end is = absurd (cc)
    stops_once answer sends None none end (bad, is, end_is) =
        subst (λ (e : StepEnd). StepsOver view t step b olds news (Err e)) (sym end_is)
        (bad_once bad (subst (λ (o : Option BadAnswer). Sends view W.Everyone (T.Step t b) olds news (told_by o)) is sends))
