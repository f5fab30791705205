-- One question for an interval or a shift, with the instance in a slot.
use Rattle.std.proofs.Common.{◌≡◌, ℕ, ◌<◌, true, List, [], ◌∷◌, Some, Ok, Err, refl, sym, ap, ◌∙◌, length, get_or, set, map}
use Rattle.std.specs.Prelude.{option_map}
use Rattle.std.proofs.Math.Seq.{map-set_same}
use Rattle.std.proofs.lemmas.List.{get_or_default, map-set}
use Rattle.std.proofs.lemmas.Option.{slice_get-map}
use Rattle.value_types.specs.declared.shape.Shape.{Shape}
use Rattle.fmi_calls.specs.declared.call.Call.{Call}
use Rattle.fmi_calls.specs.declared.call.Call.TheVariants as C
use Rattle.fmi_calls.specs.declared.call.Reply.{Reply}
use Rattle.fmi_calls.specs.declared.phase.Phase.{Phase}
use Rattle.fmi_calls.specs.Next.{counted, entered}
use Rattle.fmi_calls.specs.Permission.{Permitted}
use Rattle.fmu_peer.specs.CloseAll.{Instance}
use Rattle.system_model.proofs.CallerLemmas.{true_false}
use Rattle.slot_calls.specs.declared.bad_answer.BadAnswer.{BadAnswer}
use Rattle.slot_calls.specs.Carried.{reply_in}
use Rattle.slot_calls.specs.Log.{One}
use Rattle.slot_calls.specs.Slots.{keeps_mode}
use Rattle.slot_calls.specs.Stage.{Stage, shapes}
use Rattle.slot_calls.proofs.CallerLemmas.{answered_none, map_at, one_log, shape_of, Led, led, told_none, turn_answered, turn_stops, turn_told}
use Rattle.event_iteration.specs.Questions.{InstanceMode, MayTell, first_reply, may_tell, mode_of, modes}
use Rattle.event_iteration.proofs.Taking.{instance_at}

abbrev mode_in : Phase → InstanceMode
mode_in phase = record { state = phase.state; active = phase.active }

permitted_by : (call : Call) (shape : Shape) (phase : Phase) → may_tell call (mode_in phase) shape ≡ true → Permitted shape phase call
permitted_by (C.GetInterval reference) shape phase h = h
permitted_by (C.GetShift reference) shape phase h = h
permitted_by _ shape phase h = absurd (true_false (sym h))

sort_by : (call : Call) (mode : InstanceMode) (shape : Shape) → may_tell call mode shape ≡ true → keeps_mode call ≡ true
sort_by (C.GetInterval reference) mode shape h = refl
sort_by (C.GetShift reference) mode shape h = refl
sort_by _ mode shape h = absurd (true_false (sym h))

entered_stays : (call : Call) (mode : InstanceMode) (shape : Shape) (phase : Phase) (reply : Reply) → may_tell call mode shape ≡ true → mode_in (entered shape phase call reply) ≡ mode_in phase
entered_stays (C.GetInterval reference) mode shape phase reply h = refl
entered_stays (C.GetShift reference) mode shape phase reply h = refl
entered_stays _ mode shape phase reply h = absurd (true_false (sym h))

module _ {A : Type 0} (f : A → Instance) (xs : List A) (k : ℕ) (d : A) (within : k < length xs) (call : Call) where
  abbrev there : A
  there = get_or xs k d

  may_there : MayTell call k (map f xs) → may_tell call (mode_of (f there)) (f there).view.fixed.shape ≡ true
  may_there may =
      may (mode_of (f there)) (f there).view.fixed.shape
      (slice_get-map mode_of (map f xs) k ∙ ap (option_map mode_of) (instance_at f xs k d within))
      (slice_get-map shape_of (map f xs) k ∙ ap (option_map shape_of) (instance_at f xs k d within))

  pub may_send : MayTell call k (map f xs) → Permitted (f there).view.fixed.shape (f there).view.phase call
  may_send may = permitted_by call (f there).view.fixed.shape (f there).view.phase (may_there may)

  pub sort_of : MayTell call k (map f xs) → keeps_mode call ≡ true
  sort_of may = sort_by call (mode_of (f there)) (f there).view.fixed.shape (may_there may)

  there_is : f there ≡ get_or (map f xs) k (f there)
  there_is = map_at f xs k there (f there) within (get_or_default xs k d there within)

  module _ (y : A) (may : MayTell call k (map f xs)) where
    pub modes_after : (reply : Reply) → One call reply_in (f there) (f y) (Ok (Some reply)) → modes (map f (set xs k y)) ≡ modes (map f xs)
    modes_after reply o =
        let l : Led (f there).view o.exchange (f y).view = led (f there).view (f y).view o.exchange o.has.talks o.worth.0 in
        let may_own : may_tell o.exchange.call (mode_of (f there)) (f there).view.fixed.shape ≡ true = ap (λ (c : Call). may_tell c (mode_of (f there)) (f there).view.fixed.shape) o.is ∙ may_there may in
        let same : mode_of (f y) ≡ mode_of (f there) =
        ap mode_in l.phase ∙ entered_stays o.exchange.call (mode_of (f there)) (f there).view.fixed.shape (counted (f there).view.phase o.exchange.call) l.reply may_own in
        ap modes (map-set f xs k y) ∙ map-set_same mode_of (map f xs) k (f y) (f there) (same ∙ ap mode_of there_is)

    pub stage_good : (reply : Reply) → One call reply_in (f there) (f y) (Ok (Some reply)) → Stage (record { component = k; call = call } ∷ []) first_reply (map f xs) (map f (set xs k y)) (Ok (Some reply))
    stage_good reply o = record {
      log = one_log k o.exchange;
      told = turn_told f (map f xs) xs [] (told_none (map f xs)) k d y within call reply_in (Ok (Some reply)) o;
      says = (
        turn_answered f (map f xs) xs [] (told_none (map f xs)) k d y within call reply_in [] (answered_none (shapes (map f xs))) (Some reply) o,
        o.worth.1,
      );
    }

  pub stage_bad : (y : A) (bad : BadAnswer) → bad.component.0 ≡ k → One call reply_in (f there) (f y) (Err bad.why) → Stage (record { component = k; call = call } ∷ []) first_reply (map f xs) (map f (set xs k y)) (Err bad)
  stage_bad y bad at o = record {
    log = one_log k o.exchange;
    told = turn_told f (map f xs) xs [] (told_none (map f xs)) k d y within call reply_in (Err bad.why) o;
    says = turn_stops f (map f xs) xs [] (told_none (map f xs)) k d y within call reply_in [] (answered_none (shapes (map f xs))) bad at o;
  }
