-- What one asking leaves of the FMU of a slot.
use Rattle.std.proofs.Common.{◌≡◌, ◌⊎◌, inl, inr, ℕ, ◌-◌, ◌<◌, ◌≤◌, ◌==◌, Bool, true, false, not, List, [], ◌++◌, Option, Some, None, Ok, refl, sym, ap, ap₂, ◌∙◌, subst, arith, is_some}
use Rattle.std.specs.Prelude.{IfSome, ◌&&◌, if◌then◌else◌}
use Rattle.std.proofs.lemmas.Bool.Decides.{nat_tests}
use Rattle.value_types.specs.declared.shape.Shape.{Shape}
use Rattle.fmi_calls.specs.declared.call.Call.{Call}
use Rattle.fmi_calls.specs.declared.call.Call.TheVariants as C
use Rattle.fmi_calls.specs.declared.phase.InstanceState.{InstanceState}
use Rattle.fmi_calls.specs.declared.phase.InstanceState.TheVariants as P
use Rattle.fmi_calls.specs.Permission.{Permitted}
use Rattle.fmu_peer.specs.declared.peer.Exchange.{Exchange}
use Rattle.fmu_peer.specs.declared.peer.Peer.{Ghosts}
use Rattle.fmu_peer.specs.declared.slot.Slot.{Slot}
use Rattle.fmu_peer.specs.CloseAll.{peer_in}
use Rattle.fmu_peer.specs.View.{Fixed, View}
use Rattle.slot_calls.specs.SavedStates.{saved_by}
use Rattle.slot_calls.specs.Slots.{state_of}
use Rattle.slot_calls.proofs.CallerLemmas.{Led, led}
use Rattle.step_agreement.specs.Agreement.{Stand, end_by, moved, stand_by}
use Rattle.step_agreement.specs.OverMachines.{asks_last, flagged}
use Rattle.step_agreement.proofs.CallerLemmas.{asks_on, other_number, stand_on}
use Rattle.parallel_step.specs.Round.{CanBeSent}
use Rattle.rollback.specs.Asked.{MayGoBack, StaysMeant, Moved}
use Rattle.rollback.specs.Places.{CanDo, GoodSent, SentTo, WasLeft, at_rest, call_of, is_sent, passes, stand_in, with_job}
use Rattle.rollback.specs.Standing.{InStep, Placed, TakesSize}
use Rattle.rollback.specs.declared.asking.Turn.{Turn}
use Rattle.rollback.specs.declared.asking.Turn.TheVariants as T
use Rattle.rollback.specs.declared.places.Who.{Who}
use Rattle.rollback.specs.declared.places.Who.TheVariants as W
use Rattle.rollback.proofs.Resting.{rest_by}
use Rattle.rollback.proofs.Sending.{job_call}
use Rattle.rollback.proofs.Standing.{may_be_freed, may_be_saved, may_go_back, may_step, restored, stepped}

both_true : (a b : Bool) → (a && b) ≡ true → (a ≡ true) × (b ≡ true)
both_true true b h = (refl, h)
both_true false b h = absurd (cc)

equal_by : (a b : ℕ) → not (a == b) ≡ false → a ≡ b
equal_by a b q = by (a == b) refl q where
  by : (x : Bool) → (a == b) ≡ x → not x ≡ false → a ≡ b
  by true e h = grind (arith, nat_tests)
  by false e h = absurd (cc)

second_false : (a b : Bool) → a ≡ true → (a && b) ≡ false → b ≡ false
second_false true b h k = k
second_false false b h k = absurd (cc)

first_false : (a b : Bool) → a ≡ false → (a && b) ≡ false
first_false true b h = absurd (cc)
first_false false b h = refl

-- one that is selected is selected still once it stands at t again
pub passes_stay : (t : ℕ) (asked : Who) → StaysMeant t asked → (s z : Stand) → s.shape ≡ z.shape → z.point ≡ t → passes asked s ≡ true → passes asked z ≡ true
passes_stay t W.Everyone stays s z shape at h = refl
passes_stay t (W.Saved early) stays s z shape at h = h
passes_stay t W.Early stays s z shape at h = ap (λ (x : Shape). x.might_return_early) (sym shape) ∙ h
passes_stay t (W.Elsewhere m) stays s z shape at h = ap not (other_number z.point m (λ e. absurd (omega (arith, e, at, stays))))
passes_stay t (W.EndElsewhere from bound m) stays s z shape at h = absurd stays

-- which are selected is told by the shape and the point
passes_by : (asked : Who) (s z : Stand) → s.shape ≡ z.shape → s.point ≡ z.point → passes asked s ≡ passes asked z
passes_by W.Everyone s z shape point = refl
passes_by (W.Saved early) s z shape point = refl
passes_by W.Early s z shape point = ap (λ (x : Shape). x.might_return_early) shape
passes_by (W.Elsewhere m) s z shape point = ap (λ (n : ℕ). not (n == m)) point
passes_by (W.EndElsewhere t b m) s z shape point = ap (λ (n : ℕ). not ((if n == t then b else n) == m)) point

pub shape_by : (v w : View) (x : Exchange) → Led v x w → w.fixed.shape ≡ v.fixed.shape
shape_by v w x l = ap (λ (f : Fixed). f.shape) l.fixed

lower_step : (t b c step : ℕ) (saves : Bool) (v : View) → c ≤ b → InStep t b step saves v → InStep t c step saves v
lower_step t b c step saves v h p = record { state = p.state; stop = (let stop = p.stop in omega (arith, h, stop)); sized = p.sized; full = p.full; saved = p.saved; may_save = p.may_save; unset = p.unset }

module _ {L : Type 0} {g : Ghosts L} (view : L → View) where
  abbrev seen : Slot L g → View
  seen s = view (peer_in s.held)

  pub led_of : (call : Call) (o n : Slot L g) (es : List Exchange) (s : GoodSent view call o es n) → Led (seen o) s.exchange (seen n)
  led_of call o n es s = led (seen o) (seen n) s.exchange s.has.talks s.good

  pub stepping : (t b step : ℕ) (s : Slot L g) → Placed view t b step s → state_of s.held ≡ Some P.Step
  stepping t b step s p = p.live ∙ ap (λ (x : InstanceState). Some x) p.stands.state

  pub lower : (t b c step : ℕ) → c ≤ b → (s : Slot L g) → Placed view t b step s → Placed view t c step s
  lower t b c step h s p = record { live = p.live; stands = lower_step t b c step (is_some s.saved) (view (peer_in s.held)) h p.stands }

  -- ---- what may be sent

  pub can_do : (who : Who) (turn : Turn) (s : Slot L g) → (is_sent who turn (stand_in view s) ≡ true → CanBeSent view (with_job view who turn s) (call_of turn)) → CanDo view who turn s
  can_do who turn s may = subst (λ (c : Option Call). IfSome c (CanBeSent view (with_job view who turn s))) (sym (job_call who turn (stand_in view s))) (by (is_sent who turn (stand_in view s)) refl) where
    by : (b : Bool) → is_sent who turn (stand_in view s) ≡ b → IfSome (if b then Some (call_of turn) else None) (CanBeSent view (with_job view who turn s))
    by true h = may h
    by false h = tt

  may_send : (t b step : ℕ) (who : Who) (turn : Turn) (s : Slot L g) → Placed view t b step s → Permitted (seen s).fixed.shape (seen s).phase (call_of turn) → CanBeSent view (with_job view who turn s) (call_of turn)
  may_send t b step who turn s p permitted = record { stepping = stepping t b step s p; in_step = p.stands.state; permitted = permitted; token = sym p.stands.full }

  pub can_go_back : (t b step : ℕ) (asked : Who) (s : Slot L g) → Placed view t b step s → MayGoBack view t asked s → CanDo view asked (T.Back t) s
  can_go_back t b step asked s p may =
      can_do asked (T.Back t) s (λ h. may_send t b step asked (T.Back t) s p (may_go_back t b step (is_some s.saved) (seen s) p.stands (may h)))

  pub can_step : (t e step : ℕ) → t < e → (asked : Who) (s : Slot L g) → Placed view t e step s → (passes asked (stand_in view s) ≡ true → TakesSize step (e - t) (seen s).fixed.shape × ((seen s).phase.point ≡ t)) → CanDo view asked (T.Step t e) s
  can_step t e step later asked s p may =
      can_do asked (T.Step t e) s (λ h. may_send t e step asked (T.Step t e) s p (may_step t e step (is_some s.saved) (seen s) p.stands e (may h).1 later (omega arith) (may h).0))

  pub can_be_saved : (t b step : ℕ) (who : Who) (s : Slot L g) → Placed view t b step s → is_some s.saved ≡ false → (passes who (stand_in view s) ≡ true → (seen s).fixed.shape.can_save_state ≡ true) → CanDo view who T.Save s
  can_be_saved t b step who s p none may =
      can_do who T.Save s (λ h. may_send t b step who T.Save s p (may_be_saved t b step (is_some s.saved) (seen s) p.stands none (may h)))

  pub can_be_freed : (t b step : ℕ) (who : Who) (s : Slot L g) → Placed view t b step s → (passes who (stand_in view s) ≡ true → is_some s.saved ≡ true) → CanDo view who T.Free s
  can_be_freed t b step who s p held =
      can_do who T.Free s (λ h. may_send t b step who T.Free s p (may_be_freed t b step (is_some s.saved) (seen s) p.stands (held h)))

  -- ---- what is saved after a good answer

  pub token_of : (call : Call) (o n : Slot L g) (es : List Exchange) (s : GoodSent view call o es n) → is_some n.saved ≡ saved_by (seen o).fixed.shape call s.exchange.result (is_some o.saved)
  token_of call o n es s = s.has.saved ∙ ap (λ (c : Call). saved_by (seen o).fixed.shape c s.exchange.result (is_some o.saved)) s.call_is

  pub placed_by : (t b step : ℕ) (saves : Bool) (n : Slot L g) → is_some n.saved ≡ saves → state_of n.held ≡ Some (seen n).phase.state → InStep t b step saves (seen n) → Placed view t b step n
  placed_by t b step saves n is live h = record { live = live; stands = subst (λ (x : Bool). InStep t b step x (seen n)) (sym is) h }

  pub left_placed : (t b step : ℕ) (o n : Slot L g) (es : List Exchange) → WasLeft o es n → Placed view t b step o → Placed view t b step n
  left_placed t b step o n es w p = subst (Placed view t b step) (sym w.new_is) (record { live = p.live; stands = p.stands })

  left_stand : (o n : Slot L g) (es : List Exchange) → WasLeft o es n → stand_in view n ≡ stand_in view o
  left_stand o n es w = ap (λ (s : Slot L g). stand_in view s) w.new_is

  stand_is : (n : Slot L g) (shape : Shape) (point : ℕ) → (seen n).fixed.shape ≡ shape → (seen n).phase.point ≡ point → stand_in view n ≡ record { shape = shape; point = point; ask = 0 }
  stand_is n shape point p q = ap₂ (λ (x : Shape) (y : ℕ). record { shape = x; point = y; ask = 0 }) p q

  -- ---- going back

  pub record WentBack (t b step : ℕ) (asked : Who) (o p : Slot L g) (es : List Exchange) : Type 0 where
    pub placed : Placed view t b step p
    pub saved : is_some p.saved ≡ is_some o.saved
    pub stand : stand_in view p ≡ at_rest (stand_by t (stand_in view o) es)
    pub same : passes asked (stand_in view p) ≡ passes asked (stand_in view o)
    pub home : passes asked (stand_in view o) ≡ true → (stand_in view p).point ≡ t
    pub left : passes asked (stand_in view o) ≡ false → (p.answer ≡ o.answer) × (es ≡ [])

  module _ (t b step : ℕ) (asked : Who) (means : StaysMeant t asked) (o p : Slot L g) (es : List Exchange) (placed : Placed view t b step o) (may : MayGoBack view t asked o) where
    back_sent : is_sent asked (T.Back t) (stand_in view o) ≡ true → GoodSent view C.Restore o es p → WentBack t b step asked o p es
    back_sent sent s =
        let l = led_of C.Restore o p es s in
        let held = may sent in
        let r = restored t b step (is_some o.saved) (seen o) placed.stands (seen p) s.exchange l s.call_is held in
        let token : is_some p.saved ≡ is_some o.saved = token_of C.Restore o p es s in
        let passed = both_true (passes asked (stand_in view o)) (not ((stand_in view o).point == t)) sent in
        record {
          placed = placed_by t b step (is_some o.saved) p token s.live r.0;
          saved = token;
          stand = stand_is p (seen o).fixed.shape t (shape_by (seen o) (seen p) s.exchange l) r.1
              ∙ sym (ap (λ (xs : List Exchange). at_rest (stand_by t (stand_in view o) xs)) s.is ∙ ap (λ (c : Call). at_rest (moved t (stand_in view o) c s.exchange.result)) s.call_is);
          same = passes_stay t asked means (stand_in view o) (stand_in view p) (sym (shape_by (seen o) (seen p) s.exchange l)) r.1 passed.0 ∙ sym passed.0;
          home = λ h. r.1;
          left = λ h. absurd (let q = passed.0 in let wrong : true ≡ false = sym q ∙ h in cc);
        }

    back_left : is_sent asked (T.Back t) (stand_in view o) ≡ false → WasLeft o es p → WentBack t b step asked o p es
    back_left unsent w = record {
      placed = left_placed t b step o p es w placed;
      saved = ap (λ (s : Slot L g). is_some s.saved) w.new_is;
      stand = left_stand o p es w ∙ sym (ap (λ (xs : List Exchange). at_rest (stand_by t (stand_in view o) xs)) w.is);
      same = ap (passes asked) (left_stand o p es w);
      home = λ h. ap (λ (s : Stand). s.point) (left_stand o p es w) ∙ equal_by (stand_in view o).point t (second_false (passes asked (stand_in view o)) (not ((stand_in view o).point == t)) h unsent);
      left = λ h. (ap (λ (s : Slot L g). s.answer) w.new_is, w.is);
    }

    pub went_back : SentTo view C.Restore (is_sent asked (T.Back t) (stand_in view o)) o es p → WentBack t b step asked o p es
    went_back s = by (is_sent asked (T.Back t) (stand_in view o)) refl s where
      by : (x : Bool) → is_sent asked (T.Back t) (stand_in view o) ≡ x → SentTo view C.Restore x o es p → WentBack t b step asked o p es
      by true h s = back_sent h s
      by false h s = back_left h s

  -- ---- a step

  pub record DidStep (t b step : ℕ) (asked : Bool) (p n : Slot L g) (fs : List Exchange) : Type 0 where
    pub placed : Placed view t b step n
    pub saved : is_some n.saved ≡ is_some p.saved
    pub stand : stand_in view n ≡ at_rest (stand_by t (stand_in view p) fs)
    pub tells : asked ≡ true → (a : Bool) → n.answer ≡ Some (Ok (asks_last a fs))
    pub left : asked ≡ false → (n.answer ≡ p.answer) × (fs ≡ [])

  module _ (t e step : ℕ) (later : t < e) (p n : Slot L g) (fs : List Exchange) (placed : Placed view t e step p) where
    step_sent : TakesSize step (e - t) (seen p).fixed.shape → (seen p).phase.point ≡ t → GoodSent view (C.DoStep t (e - t)) p fs n → DidStep t e step true p n fs
    step_sent takes at s =
        let l = led_of (C.DoStep t (e - t)) p n fs s in
        let r = stepped t e step (is_some p.saved) (seen p) placed.stands (seen n) s.exchange l e s.call_is takes at in
        let token : is_some n.saved ≡ is_some p.saved = token_of (C.DoStep t (e - t)) p n fs s in
        record {
          placed = placed_by t e step (is_some p.saved) n token s.live r.0;
          saved = token;
          stand = stand_is n (seen p).fixed.shape (end_by t s.exchange.result) (shape_by (seen p) (seen n) s.exchange l) r.1
              ∙ sym (ap (λ (xs : List Exchange). at_rest (stand_by t (stand_in view p) xs)) s.is ∙ ap (λ (c : Call). at_rest (moved t (stand_in view p) c s.exchange.result)) s.call_is);
          tells = λ h a. s.answer ∙ sym (ap (λ (xs : List Exchange). Some (Ok (asks_last a xs))) s.is ∙ ap (λ (c : Call). Some (Ok (flagged a c s.exchange.result))) s.call_is);
          left = λ h. absurd (cc);
        }

    step_left : WasLeft p fs n → DidStep t e step false p n fs
    step_left w = record {
      placed = left_placed t e step p n fs w placed;
      saved = ap (λ (s : Slot L g). is_some s.saved) w.new_is;
      stand = left_stand p n fs w ∙ sym (ap (λ (xs : List Exchange). at_rest (stand_by t (stand_in view p) xs)) w.is);
      tells = λ h. absurd (cc);
      left = λ h. (ap (λ (s : Slot L g). s.answer) w.new_is, w.is);
    }

    pub did_step : (x : Bool) → (x ≡ true → TakesSize step (e - t) (seen p).fixed.shape × ((seen p).phase.point ≡ t)) → SentTo view (C.DoStep t (e - t)) x p fs n → DidStep t e step x p n fs
    did_step true may s = step_sent (may refl).0 (may refl).1 s
    did_step false may s = step_left s

  -- ---- the two together

  module _ (t e step : ℕ) (asked : Who) (o p n : Slot L g) (es fs : List Exchange) (back : WentBack t e step asked o p es) (did : DidStep t e step (passes asked (stand_in view p)) p n fs) where
    stand_now : stand_in view n ≡ at_rest (stand_by t (stand_in view o) (es ++ fs))
    stand_now =
        did.stand ∙ ap (λ (z : Stand). at_rest (stand_by t z fs)) back.stand ∙ rest_by t (stand_by t (stand_in view o) es) fs ∙ ap at_rest (sym (stand_on t (stand_in view o) es fs))

    tells_now : passes asked (stand_in view o) ≡ true → (a : Bool) → n.answer ≡ Some (Ok (asks_last a (es ++ fs)))
    tells_now h a = did.tells (back.same ∙ h) (asks_last a es) ∙ ap (λ (x : Bool). Some (Ok x)) (sym (asks_on a es fs))

    keeps_now : (x : Bool) → passes asked (stand_in view o) ≡ x → (a : Bool) → o.answer ≡ Some (Ok a) → n.answer ≡ Some (Ok (asks_last a (es ++ fs)))
    keeps_now true h a was = tells_now h a
    keeps_now false h a was =
        let x = back.left h in
        let y = did.left (back.same ∙ h) in
        y.0 ∙ x.0 ∙ was ∙ sym (ap₂ (λ (u v : List Exchange). Some (Ok (asks_last a (u ++ v)))) x.1 y.1)

    pub moved_by : Moved view t e step (passes asked (stand_in view o)) o (es ++ fs) n
    moved_by = record {
      placed = did.placed;
      saved = did.saved ∙ back.saved;
      stand = stand_now;
      keeps = λ a was. keeps_now (passes asked (stand_in view o)) refl a was;
      tells = tells_now;
    }

  -- one asking after another, of which the first asked it
  pub moved_on : (t b e step : ℕ) (x : Bool) (o p n : Slot L g) (es fs : List Exchange) → Moved view t b step true o es p → Moved view t e step x p fs n → Moved view t e step true o (es ++ fs) n
  moved_on t b e step x o p n es fs m k = record {
    placed = k.placed;
    saved = k.saved ∙ m.saved;
    stand = k.stand ∙ ap (λ (z : Stand). at_rest (stand_by t z fs)) m.stand ∙ rest_by t (stand_by t (stand_in view o) es) fs ∙ ap at_rest (sym (stand_on t (stand_in view o) es fs));
    keeps = λ a was. k.keeps (asks_last a es) (m.keeps a was) ∙ ap (λ (y : Bool). Some (Ok y)) (sym (asks_on a es fs));
    tells = λ h a. k.keeps (asks_last a es) (m.tells refl a) ∙ ap (λ (y : Bool). Some (Ok y)) (sym (asks_on a es fs));
  }

  -- one asking after another, of which one asked it
  pub moved_both : (t b e step : ℕ) (x y : Bool) → (x ≡ true) ⊎ (y ≡ true) → (o p n : Slot L g) (es fs : List Exchange) → Moved view t b step x o es p → Moved view t e step y p fs n → Moved view t e step true o (es ++ fs) n
  moved_both t b e step true y either o p n es fs m k = moved_on t b e step y o p n es fs m k
  moved_both t b e step false y either o p n es fs m k = record {
    placed = k.placed;
    saved = k.saved ∙ m.saved;
    stand = k.stand ∙ ap (λ (z : Stand). at_rest (stand_by t z fs)) m.stand ∙ rest_by t (stand_by t (stand_in view o) es) fs ∙ ap at_rest (sym (stand_on t (stand_in view o) es fs));
    keeps = λ a was. k.keeps (asks_last a es) (m.keeps a was) ∙ ap (λ (z : Bool). Some (Ok z)) (sym (asks_on a es fs));
    tells = λ h a. k.tells (later_one either) (asks_last a es) ∙ ap (λ (z : Bool). Some (Ok z)) (sym (asks_on a es fs));
  } where
    later_one : (false ≡ true) ⊎ (y ≡ true) → y ≡ true
    later_one (inl wrong) = absurd (cc)
    later_one (inr h) = h

  pub moved_lower : (t b c step : ℕ) → c ≤ b → (x : Bool) (o n : Slot L g) (es : List Exchange) → Moved view t b step x o es n → Moved view t c step x o es n
  moved_lower t b c step h x o n es m = record { placed = lower t b c step h n m.placed; saved = m.saved; stand = m.stand; keeps = m.keeps; tells = m.tells }
