-- The calls that keep the state of an FMU as bytes and that lead it back to one.
use Rattle.std.proofs.Common.{◌≡◌, ℕ, ◌≤◌, Bool, true, false, List, [], ◌∷◌, Option, Some, None, Ok, Err, Result, refl, sym, ap, ◌∙◌, subst, is_some, length}
use Rattle.std.specs.Prelude.{◌||◌, if◌then◌else◌}
use Rattle.std.proofs.lemmas.Option.{same_Some}
use Rattle.value_types.specs.declared.shape.Shape.{Shape}
use Rattle.fmi_calls.specs.declared.call.Call.{Call}
use Rattle.fmi_calls.specs.declared.call.Call.TheVariants as C
use Rattle.fmi_calls.specs.declared.call.Content.TheVariants as A
use Rattle.fmi_calls.specs.declared.call.Grade.{Grade}
use Rattle.fmi_calls.specs.declared.call.Grade.TheVariants as G
use Rattle.fmi_calls.specs.declared.call.Kind.TheVariants as K
use Rattle.fmi_calls.specs.declared.call.Reply.{Reply}
use Rattle.fmi_calls.specs.declared.call.Reply.TheVariants as R
use Rattle.fmi_calls.specs.declared.phase.InstanceState.{InstanceState}
use Rattle.fmi_calls.specs.declared.phase.InstanceState.TheVariants as P
use Rattle.fmi_calls.specs.declared.phase.Phase.{Phase}
use Rattle.fmi_calls.specs.KindFacts.{same_kind}
use Rattle.fmi_calls.specs.Next.{counted, entered, graded}
use Rattle.fmi_calls.specs.Permission.{Permitted}
use Rattle.fmi_calls.specs.Worth.{grade_of}
use Rattle.fmu_peer.specs.declared.ended.Why.{Why}
use Rattle.fmu_peer.specs.declared.slot.Slot.{Slot}
use Rattle.fmu_peer.specs.Answer.{Answered, AnsweredWith, Failed, FailedWith}
use Rattle.fmu_peer.specs.CloseAll.{Instance, instance_in, peer_in}
use Rattle.fmu_peer.specs.Machine.{Machine, MachineState, after}
use Rattle.fmu_peer.specs.View.{ArePacked, IsFollowedBy, View, without_machine}
use Rattle.fmu_peer.proofs.CallerLemmas.{answered_with_without, failed_with_without}
use Rattle.slot_calls.specs.Keeping.{AnswersUntil, IsPackedSlot, MayBeRestored, MayBeSent, Restores, Unfreed, Unrestored, WasSent, WasSentBytes, keeping_calls, no_value, restoring_calls, without_machine_in}
use Rattle.slot_calls.specs.Log.{One}
use Rattle.slot_calls.specs.Slots.{Called, IsLive, LiveSlot, Moves, is_fatal_result, state_of}
use Rattle.slot_calls.proofs.Chains.{one_answered, one_failed, one_without, until_bad, until_last, until_on}
use Rattle.slot_calls.proofs.Moving.{called_bad, called_good, fatal_one, grade_no, live_on, one_called, state_by_good}
use Rattle.slot_calls.proofs.Tokens.{saved_bad, saved_good, saved_is, saved_next}

-- ---- one call to what is held in Step Mode

module _ {L : Type 0} {g : _} (view : L → View) (old new : Slot L g) (call : Call) (may : MayBeSent view call old) (source : new.source.0 ≡ old.source.0) where
  abbrev before : View
  before = view (peer_in old.held)

  abbrev later : View
  later = view (peer_in new.held)

  one_by : (r : Result (Unit {0}) Why) → Called call no_value before later r → is_some new.saved ≡ saved_next (is_some old.saved) call r → new.is_fatal ≡ (old.is_fatal || is_fatal_result r) →
      One call no_value (instance_in view old) (instance_in view new) r
  one_by r called saved fatal =
      one_called view old new call no_value r called source
      (saved ∙ ap (λ (c : Call). saved_next (is_some old.saved) c r) (sym called.is) ∙ saved_is before.fixed.shape no_value (is_some old.saved) called.exchange r called.worth) fatal

  -- what is held is this peer
  module _ {T : Type 0} (r : Result T Why) (peer : L) (peer_is : peer_in old.held ≡ peer) (fatal : new.is_fatal ≡ (old.is_fatal || is_fatal_result r)) where
    pub sent_good : (x : T) → r ≡ Ok x → (reply : Reply) → Answered (view peer) call reply later → is_some new.saved ≡ saved_good (is_some old.saved) call → IsLive view new.held → WasSent view call old new (Ok tt)
    sent_good x is reply a saved held =
        let one = one_by (Ok tt) (called_good before later call no_value reply tt may.permitted (subst (λ (l : L). Answered (view l) call reply later) (sym peer_is) a) refl) saved
        (fatal ∙ ap (λ q. old.is_fatal || is_fatal_result q) is) in
        record { one = one; live = live_on view old new call no_value (Ok tt) one may.live held }

    pub sent_bad : (why : Why) → r ≡ Err why → Failed (view peer) call why later → is_some new.saved ≡ saved_bad (is_some old.saved) call → WasSent view call old new (Err why)
    sent_bad why is f saved = record {
      one = one_by (Err why) (called_bad before later call no_value why may.permitted (subst (λ (l : L). Failed (view l) call why later) (sym peer_is) f)) saved
          (fatal ∙ ap (λ q. old.is_fatal || is_fatal_result q) is);
      live = tt;
    }

-- the FMU stays in Step Mode
pub at_step : {L : Type 0} {g : _} (view : L → View) (slot : Slot L g) → LiveSlot view slot → state_of slot.held ≡ Some P.Step → (view (peer_in slot.held)).phase.state ≡ P.Step
at_step view slot live stepping = same_Some _ _ (sym live.held ∙ stepping)

pub stays_stepping : {L : Type 0} {g : _} (view : L → View) (call : Call) (old : Slot L g) (peer after : L) → peer_in old.held ≡ peer → (view (peer_in old.held)).phase.state ≡ P.Step → (reply : Reply) → Answered (view peer) call reply (view after) →
    (entered (view peer).fixed.shape (counted (view peer).phase call) call reply).state ≡ (view peer).phase.state → Some P.Step ≡ Some (view after).phase.state
stays_stepping view call old peer after peer_is stepping reply a same =
    ap (λ (s : InstanceState). Some s) (sym (state_by_good (view peer) (view after) call reply a ∙ same ∙ ap (λ l. (view l).phase.state) (sym peer_is) ∙ stepping))

-- ---- where a Deserialize leads

taken_phase : (v w : View) (call : Call) (bytes : List ℕ) (reply : Reply) → AnsweredWith v call bytes reply w → w.phase ≡ entered v.fixed.shape (counted v.phase call) call reply
taken_phase v w call bytes reply a = a.asked.phase ∙ ap (λ (g : Grade). graded v.fixed.shape (counted v.phase call) call reply g) a.good

-- ---- the bytes

-- those that follow a good reply are those of the slot
not_good : (b : Bool) → (if b then G.Refused else G.Misreply) ≡ G.Good → ⊥
not_good true e = cc
not_good false e = cc

pub packed_slot : (shape : Shape) (v : View) (reply : Reply) (bytes : List ℕ) → grade_of shape C.Serialize reply ≡ G.Good → IsFollowedBy v reply bytes → IsPackedSlot v.fixed.machine v.state bytes
packed_slot shape v (R.Done w (A.Serialize n)) bytes good f = by v.fixed.machine v.state f.packed where
  by : (m : Option Machine) (s : Option MachineState) → ArePacked m s (R.Done w (A.Serialize n)) bytes → IsPackedSlot m s bytes
  by (Some m) (Some s) h = h
  by (Some m) None h = tt
  by None s h = tt
packed_slot shape v (R.Done w content) bytes good f = absurd (grade_no shape false refl good)
packed_slot shape v (R.Refused kind status) bytes good f = absurd (not_good (same_kind kind K.Serialize) good)

-- ---- keeping

module _ {L : Type 0} {g : _} (view : L → View) where
  abbrev at : Slot L g → View
  at slot = view (peer_in slot.held)

  abbrev whole : Slot L g → Instance
  whole slot = instance_in view slot

  -- a state that wasn't saved
  pub keeps_unsaved : (old new : Slot L g) (why : Why) → WasSent view C.Save old new (Err why) → AnswersUntil {T = Unit {0}} keeping_calls (whole old) (whole new) (Err why)
  keeps_unsaved old new why first = until_bad C.Save (whole old) (whole new) (C.Serialize ∷ C.Free ∷ []) why first.one

  module _ (old saved : Slot L g) (x : Unit {0}) (first : WasSent view C.Save old saved (Ok x)) where
    pub keeps_unpacked : (new : Slot L g) (why : Why) → WasSent view C.Serialize saved new (Err why) → AnswersUntil {T = Unit {0}} keeping_calls (whole old) (whole new) (Err why)
    keeps_unpacked new why second =
        until_on C.Save (whole old) (whole saved) x first.one (C.Serialize ∷ C.Free ∷ []) (whole new) {T = Unit {0}} (Err why)
        (until_bad C.Serialize (whole saved) (whole new) (C.Free ∷ []) why second.one)

    pub keeps_by_free : (packed : Slot L g) (y : Unit {0}) → WasSent view C.Serialize saved packed (Ok y) → (new : Slot L g) (r : Result (Unit {0}) Why) → WasSent view C.Free packed new r →
        AnswersUntil keeping_calls (whole old) (whole new) r
    keeps_by_free packed y second new r third =
        until_on C.Save (whole old) (whole saved) x first.one (C.Serialize ∷ C.Free ∷ []) (whole new) r
        (until_on C.Serialize (whole saved) (whole packed) y second.one (C.Free ∷ []) (whole new) r (until_last C.Free (whole packed) (whole new) r third.one))

  -- ---- going back

  module _ (point stop : ℕ) (bytes : List ℕ) (old taken : Slot L g) (x : Unit {0}) (first : WasSentBytes view point stop bytes old taken (Ok x)) where
    abbrev taking : Call
    taking = C.Deserialize (length bytes) point stop

    abbrev reply : Reply
    reply = first.answer.0

    pub restores_unrestored : (new : Slot L g) (why : Why) → WasSent view C.Restore taken new (Err why) →
        AnswersUntil {T = Unit {0}} (restoring_calls (length bytes) point stop) (without_machine_in (whole old)) (without_machine_in (whole new)) (Err why) × Restores {T = Unit {0}} point stop bytes (at old) (at new) (Err why)
    restores_unrestored new why second = (
      until_on taking (without_machine_in (whole old)) (without_machine_in (whole taken)) x first.one (C.Restore ∷ C.Free ∷ []) (without_machine_in (whole new)) {T = Unit {0}} (Err why)
          (until_bad C.Restore (without_machine_in (whole taken)) (without_machine_in (whole new)) (C.Free ∷ []) why (one_without C.Restore no_value (whole taken) (whole new) (Err why) second.one)),
      Unrestored (at taken) reply first.answer.1 (one_failed C.Restore (whole taken) (whole new) why second.one),
    )

    module _ (back : Slot L g) (y : Unit {0}) (second : WasSent view C.Restore taken back (Ok y)) where
      by_restore : (reply : Reply) × Answered (at taken) C.Restore reply (at back)
      by_restore = one_answered C.Restore (whole taken) (whole back) y second.one

      pub restores_calls : (new : Slot L g) (r : Result (Unit {0}) Why) → WasSent view C.Free back new r → AnswersUntil (restoring_calls (length bytes) point stop) (without_machine_in (whole old)) (without_machine_in (whole new)) r
      restores_calls new r third =
          until_on taking (without_machine_in (whole old)) (without_machine_in (whole taken)) x first.one (C.Restore ∷ C.Free ∷ []) (without_machine_in (whole new)) r
          (until_on C.Restore (without_machine_in (whole taken)) (without_machine_in (whole back)) y (one_without C.Restore no_value (whole taken) (whole back) (Ok y) second.one) (C.Free ∷ []) (without_machine_in (whole new)) r
          (until_last C.Free (without_machine_in (whole back)) (without_machine_in (whole new)) r (one_without C.Free no_value (whole back) (whole new) r third.one)))

      pub restores_so : (new : Slot L g) (r : Result (Unit {0}) Why) → WasSent view C.Free back new r → Restores point stop bytes (at old) (at new) r
      restores_so new (Ok z) third =
          let f = one_answered C.Free (whole back) (whole new) z third.one in
          record { taken = at taken; back = at back; in_reply = reply; back_reply = by_restore.0; free_reply = f.0; deserialized = first.answer.1; restored = by_restore.1; freed = f.1 }
      restores_so new (Err why) third = Unfreed (at taken) (at back) reply by_restore.0 first.answer.1 by_restore.1 (one_failed C.Free (whole back) (whole new) why third.one)

  -- bytes that weren't taken in
  pub restores_untaken : (point stop : ℕ) (bytes : List ℕ) (old new : Slot L g) (why : Why) → WasSentBytes view point stop bytes old new (Err why) →
      AnswersUntil {T = Unit {0}} (restoring_calls (length bytes) point stop) (without_machine_in (whole old)) (without_machine_in (whole new)) (Err why)
  restores_untaken point stop bytes old new why first = until_bad (C.Deserialize (length bytes) point stop) (without_machine_in (whole old)) (without_machine_in (whole new)) (C.Restore ∷ C.Free ∷ []) why first.one

  -- ---- a Deserialize

  module _ (old new : Slot L g) (point stop : ℕ) (bytes : List ℕ) (live : LiveSlot view old) (m : MayBeRestored (at old)) (ordered : point ≤ stop) (source : new.source.0 ≡ old.source.0) where
    abbrev call : Call
    call = C.Deserialize (length bytes) point stop

    permitted : Permitted (at old).fixed.shape (at old).phase call
    permitted = (m.state, m.serializes, m.empty, ordered)

    with_one : (r : Result (Unit {0}) Why) → Called call no_value (without_machine (at old)) (without_machine (at new)) r → is_some new.saved ≡ saved_next (is_some old.saved) call r → new.is_fatal ≡ (old.is_fatal || is_fatal_result r) →
        One call no_value (without_machine_in (whole old)) (without_machine_in (whole new)) r
    with_one r called saved fatal = record {
      exchange = called.exchange;
      is = called.is;
      has = record {
        talks = called.talks;
        source = source;
        saved = saved ∙ ap (λ (c : Call). saved_next (is_some old.saved) c r) (sym called.is) ∙ saved_is (at old).fixed.shape no_value (is_some old.saved) called.exchange r called.worth;
        fatal = fatal ∙ ap (λ (b : Bool). old.is_fatal || b) (fatal_one (at old).fixed.shape no_value called.exchange r called.worth);
      };
      worth = called.worth;
    }

    module _ {T : Type 0} (r : Result T Why) (peer : L) (peer_is : peer_in old.held ≡ peer) (fatal : new.is_fatal ≡ (old.is_fatal || is_fatal_result r)) where
      pub with_good : (x : T) → r ≡ Ok x → (reply : Reply) → AnsweredWith (view peer) call bytes reply (at new) → is_some new.saved ≡ true → state_of new.held ≡ Some P.Instantiated → WasSentBytes view point stop bytes old new (Ok tt)
      with_good x is reply a saved held =
          let here : AnsweredWith (at old) call bytes reply (at new) = subst (λ (l : L). AnsweredWith (view l) call bytes reply (at new)) (sym peer_is) a in
          let phase = taken_phase (at old) (at new) call bytes reply here in
          record {
            one = with_one (Ok tt) (called_good (without_machine (at old)) (without_machine (at new)) call no_value reply tt permitted (answered_with_without (at old) (at new) call bytes reply here) refl) saved
                (fatal ∙ ap (λ q. old.is_fatal || is_fatal_result q) is);
            live = record {
              held = held ∙ ap (λ (s : InstanceState). Some s) (sym (ap (λ (q : Phase). q.state) phase ∙ m.state));
              token = saved ∙ ap (λ (q : Phase). q.slot.is_full) (sym phase);
            };
            answer = (reply, here);
          }

      pub with_bad : (why : Why) → r ≡ Err why → FailedWith (view peer) call bytes why (at new) → is_some new.saved ≡ is_some old.saved → WasSentBytes view point stop bytes old new (Err why)
      with_bad why is f saved =
          let here : FailedWith (at old) call bytes why (at new) = subst (λ (l : L). FailedWith (view l) call bytes why (at new)) (sym peer_is) f in
          record {
            one = with_one (Err why) (called_bad (without_machine (at old)) (without_machine (at new)) call no_value why permitted (failed_with_without (at old) (at new) call bytes why here)) saved
                (fatal ∙ ap (λ q. old.is_fatal || is_fatal_result q) is);
            live = tt;
            answer = here;
          }

-- ---- a Restore of what is held

restored_token : (saved : Bool) (r : Result (Unit {0}) Why) → saved_next saved C.Restore r ≡ saved
restored_token saved (Ok x) = refl
restored_token saved (Err why) = refl

pub resumed_one : {L : Type 0} {g : _} (view : L → View) (old new : Slot L g) (r : Result (Unit {0}) Why) → LiveSlot view old → Moves view old.held C.Restore no_value new.held r → new.source.0 ≡ old.source.0 → is_some new.saved ≡ is_some old.saved →
    new.is_fatal ≡ (old.is_fatal || is_fatal_result r) → WasSent view C.Restore old new r
resumed_one view old new r live moves source saved fatal =
    let called = moves.called in
    let one = one_called view old new C.Restore no_value r called source
    (saved ∙ sym (restored_token (is_some old.saved) r) ∙ ap (λ (c : Call). saved_next (is_some old.saved) c r) (sym called.is)
    ∙ saved_is (view (peer_in old.held)).fixed.shape no_value (is_some old.saved) called.exchange r called.worth) fatal in
    record { one = one; live = live_on view old new C.Restore no_value r one live moves.live }
