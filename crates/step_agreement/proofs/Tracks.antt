-- A told machine on the way to an agreement: it is in its state before the step, or that changed by the last ask alone.
use Rattle.std.proofs.Common.{◌≡◌, ◌≢◌, ℕ, zero, suc, ◌+◌, ◌-◌, ◌<◌, Bool, List, [], ◌∷◌, ◌++◌, Option, Some, Result, Ok, refl, sym, ap, ◌∙◌, subst, arith}
use Rattle.std.specs.Prelude.{All}
use Rattle.std.specs.List.{slice_get}
use Rattle.std.proofs.lemmas.List.Elements.{All-head, All-nil, All-cons, All-append}
use Rattle.std.proofs.lemmas.Option.{none-some as none_some, same_Some}
use Rattle.value_types.specs.declared.shape.Shape.{Shape}
use Rattle.fmi_calls.specs.declared.call.Call.{Call}
use Rattle.fmi_calls.specs.declared.call.Call.TheVariants as C
use Rattle.fmi_calls.specs.declared.call.Reply.{Reply}
use Rattle.fmu_peer.specs.declared.peer.Exchange.{Exchange}
use Rattle.fmu_peer.specs.declared.peer.PeerFault.{PeerFault}
use Rattle.fmu_peer.specs.Machine.{IgnoresSlot, Machine, MachineState, SavedMachine, after, kept, put_back}
use Rattle.fmu_peer.specs.Talk.{IsGood}
use Rattle.run_model.specs.Stepping.{end_in, is_terminating, step_to}
use Rattle.slot_calls.specs.Carried.{ends_by}
use Rattle.slot_calls.specs.Log.{Sent, part}
use Rattle.slot_calls.specs.Replies.{RepliesBy, state_by}
use Rattle.slot_calls.proofs.CallerLemmas.{replied_good, state_by_append}
use Rattle.step_agreement.specs.Agreement.{Fails, Meets, Outcome, Stand, Unfit, end_by, moved, stand_by, stands_by, stands_from}
use Rattle.step_agreement.specs.Ends.{EndsAs, EndsSo, Fmu}
use Rattle.step_agreement.specs.OverMachines.{asks_last, flagged, with_slot}
use Rattle.step_agreement.proofs.Agreed.{stand_on}
use Rattle.step_agreement.proofs.Moves.{IsEnd, FromAway, FromHere, Own, Skips, good_end}

abbrev pub IsGoodOutcome : Outcome → Type 0
IsGoodOutcome (Meets point) = Unit {0}
IsGoodOutcome (Unfit i e) = Unit {0}
IsGoodOutcome (Fails bad) = ⊥

stand_here_from : (t k : ℕ) (ss : List Stand) (log : List Sent) (i : ℕ) (s : Stand) → slice_get ss i ≡ Some s → slice_get (stands_from t k ss log) i ≡ Some (stand_by t s (part (k + i) log))
stand_here_from t k [] log i s at = absurd (none_some s at)
stand_here_from t k (x ∷ ss) log zero s at =
    let place : k ≡ k + 0 = omega arith in
    ap Some (ap (λ (y : Stand). stand_by t y (part k log)) (same_Some x s at) ∙ ap (λ (n : ℕ). stand_by t s (part n log)) place)
stand_here_from t k (x ∷ ss) log (suc i) s at =
    let place : suc k + i ≡ k + suc i = omega arith in
    stand_here_from t (suc k) ss log i s at ∙ ap (λ (n : ℕ). Some (stand_by t s (part n log))) place

pub stand_here : (t : ℕ) (ss : List Stand) (log : List Sent) (i : ℕ) (s : Stand) → slice_get ss i ≡ Some s → slice_get (stands_by t ss log) i ≡ Some (stand_by t s (part i log))
stand_here t ss log i s at = let place : 0 + i ≡ i = omega arith in stand_here_from t 0 ss log i s at ∙ ap (λ (n : ℕ). Some (stand_by t s (part n log))) place

moved_shape : (t : ℕ) (s : Stand) (call : Call) (result : Result Reply PeerFault) → (moved t s call result).shape ≡ s.shape
moved_shape t s (C.DoStep at size) result = refl
moved_shape t s C.Restore result = refl
moved_shape t s call result = refl

pub shape_kept : (t : ℕ) (s : Stand) (es : List Exchange) → (stand_by t s es).shape ≡ s.shape
shape_kept t s [] = refl
shape_kept t s (e ∷ es) = shape_kept t (moved t s e.call e.result) es ∙ moved_shape t s e.call e.result

pub asks_on : (b : Bool) (es fs : List Exchange) → asks_last b (es ++ fs) ≡ asks_last (asks_last b es) fs
asks_on b [] fs = refl
asks_on b (e ∷ es) fs = asks_on (flagged b e.call e.result) es fs

module _ (m : Machine) (ignores : IgnoresSlot m) (before : MachineState) (slot : Option SavedMachine) (t : ℕ) (f : Fmu) (f_is : (e : ℕ) → IsEnd f.shape t (e - t) (end_in m before t e) → f.end e ≡ end_in m before t e) where
  -- it is in its state before the step, or in that changed by the last ask, whose answer tells whether the end is asked for
  pub data IsHere (s : Stand) (state : MachineState) (asks : Bool) : Type 0 where
    Home : s.point ≡ t → state ≡ with_slot slot before → IsHere s state asks
    Away : s.point ≢ t → state ≡ with_slot slot (after m before (step_to t s.ask)) → asks ≡ is_terminating (m.look before (step_to t s.ask)) → IsHere s state asks

  -- only where its state was saved it is put back
  abbrev pub IsSaved : Exchange → Type 0
  IsSaved e = e.call ≡ C.Restore → slot ≡ Some (kept before)

  -- what exchanges from a place leave
  pub record Leads (s : Stand) (state : MachineState) (asks : Bool) (es : List Exchange) : Type 0 where
    pub ends : EndsAs t f es
    pub here : IsHere (stand_by t s es) (state_by m state es) (asks_last asks es)
    pub replies : (rest : List Exchange) → RepliesBy m state (es ++ rest) → RepliesBy m (state_by m state es) rest

  -- one step from home
  module _ (shape : Shape) (shape_is : shape ≡ f.shape) (s : Stand) (e : ℕ) (later : t < e) (asks : Bool) (x : Exchange) (call : x.call ≡ C.DoStep t (e - t)) (good : IsGood shape x) (rest : List Exchange) (by : RepliesBy m (with_slot slot before) (x ∷ rest)) where
    look_is : x.result ≡ Ok (m.look before (C.DoStep t (e - t)))
    look_is =
        (replied_good m shape (with_slot slot before) x rest good by).0 ∙ ap (λ (c : Call). Ok (m.look (with_slot slot before) c)) call
        ∙ ap Ok (ignores.looks (C.DoStep t (e - t)) before slot refl)

    end_is : end_by t x.result ≡ f.end e
    end_is =
        let looked = ap (end_by t) look_is in
        looked ∙ sym (f_is e (subst (λ (z : Shape). IsEnd z t (e - t) (end_in m before t e)) shape_is (subst (IsEnd shape t (e - t)) looked (good_end shape t (e - t) x good call))))

    ends_so : EndsSo t f x
    ends_so size is =
        let here : C.DoStep t (e - t) ≡ C.DoStep t size = sym call ∙ is in
        let same : e - t ≡ size = size_of (e - t) size here in
        let whole : t + size ≡ e = omega (arith, same, later) in
        end_is ∙ ap f.end (sym whole) where
          size_of : (a b : ℕ) → C.DoStep t a ≡ C.DoStep t b → a ≡ b
          size_of a b h = cc

    state_is : after m (with_slot slot before) x.call ≡ with_slot slot (after m before (step_to t e))
    state_is =
        ap (after m (with_slot slot before)) call
        ∙ ap (λ ns. record before { numbers = ns; slot = slot }) (ignores.changes (C.DoStep t (e - t)) before slot refl)

    stand_is : moved t s x.call x.result ≡ record s { point = end_by t x.result; ask = t + (e - t) }
    stand_is = ap (λ (c : Call). moved t s c x.result) call

    here_is : IsHere (moved t s x.call x.result) (after m (with_slot slot before) x.call) (flagged asks x.call x.result)
    here_is =
        subst (λ (y : Stand). IsHere y (after m (with_slot slot before) x.call) (flagged asks x.call x.result)) (sym stand_is)
        (Away (λ h. let l = (good_end shape t (e - t) x good call).later in omega (arith, l, h))
        (state_is ∙ ap (λ (n : ℕ). with_slot slot (after m before (step_to t n))) sized)
        (ap (λ (c : Call). flagged asks c x.result) call ∙ ap ends_by look_is ∙ ap (λ (n : ℕ). is_terminating (m.look before (step_to t n))) sized)) where
          sized : e ≡ t + (e - t)
          sized = omega (arith, later)

  pub restored : slot ≡ Some (kept before) → (state : MachineState) → state.slot ≡ slot → after m state C.Restore ≡ with_slot slot before
  restored is state same =
      ap (λ (o : Option SavedMachine). put_back o state) (same ∙ is) ∙ ap (λ (o : Option SavedMachine). record before { slot = o }) (same)

  -- after an asking
  pub leads_by : (e : ℕ) → t < e → (b : Bool) (s : Stand) → s.shape ≡ f.shape → (state : MachineState) (asks : Bool) (es : List Exchange) → Own t e b s es → IsHere s state asks → All IsSaved es → RepliesBy m state es → Leads s state asks es
  leads_by e later b s shape_is state asks es (Skips un is) here saved replies =
      subst (Leads s state asks) (sym is) (record { ends = All-nil (EndsSo t f); here = here; replies = λ rest h. h })
  leads_by e later b s shape_is state asks es (FromHere asked home x is call good) (Home p state_is) saved replies =
      subst (λ (y : MachineState). Leads s y asks es) (sym state_is) (subst (Leads s (with_slot slot before) asks) (sym is)
      (let by = subst (λ (y : MachineState). RepliesBy m y (x ∷ [])) state_is (subst (RepliesBy m state) is replies) in
      record {
        ends = All-cons (EndsSo t f) x [] (ends_so s.shape shape_is s e later asks x call good [] by) (All-nil (EndsSo t f));
        here = here_is s.shape shape_is s e later asks x call good [] by;
        replies = λ rest h. (replied_good m s.shape (with_slot slot before) x rest good h).1;
      }))
  leads_by e later b s shape_is state asks es (FromHere asked home x is call good) (Away p state_is asks_is) saved replies = absurd (p home)
  leads_by e later b s shape_is state asks es (FromAway asked away y x is back y_good call good) (Home p state_is) saved replies = absurd (away p)
  leads_by e later b s shape_is state asks es (FromAway asked away y x is back y_good call good) (Away p state_is asks_is) saved replies =
      let kept_is = All-head IsSaved y (x ∷ []) (subst (All IsSaved) is saved) back in
      let home : after m state y.call ≡ with_slot slot before = ap (after m state) back ∙ restored kept_is state (ap (λ (z : MachineState). z.slot) state_is) in
      let mine = subst (RepliesBy m state) is replies in
      let by = subst (λ (z : MachineState). RepliesBy m z (x ∷ [])) home (replied_good m s.shape state y (x ∷ []) y_good mine).1 in
      let put : moved t s y.call y.result ≡ record s { point = t } = ap (λ (c : Call). moved t s c y.result) back in
      let flag : flagged asks y.call y.result ≡ asks = ap (λ (c : Call). flagged asks c y.result) back in
      subst (Leads s state asks) (sym is)
      (record {
        ends = All-cons (EndsSo t f) y (x ∷ []) (λ size h. absurd (let c : C.Restore ≡ C.DoStep t size = sym back ∙ h in cc)) (All-cons (EndsSo t f) x [] (ends_so s.shape shape_is (record s { point = t }) e later asks x call good [] by) (All-nil (EndsSo t f)));
        here = subst (λ (z : Stand). IsHere (moved t z x.call x.result) (after m (after m state y.call) x.call) (flagged (flagged asks y.call y.result) x.call x.result)) (sym put)
            (subst (λ (z : MachineState). IsHere (moved t (record s { point = t }) x.call x.result) (after m z x.call) (flagged (flagged asks y.call y.result) x.call x.result)) (sym home)
            (subst (λ (a : Bool). IsHere (moved t (record s { point = t }) x.call x.result) (after m (with_slot slot before) x.call) (flagged a x.call x.result)) (sym flag)
            (here_is s.shape shape_is (record s { point = t }) e later asks x call good [] by)));
        replies = λ rest h.
            subst (λ (z : MachineState). RepliesBy m (after m z x.call) rest) (sym home)
            (replied_good m s.shape (with_slot slot before) x rest good (subst (λ (z : MachineState). RepliesBy m z (x ∷ rest)) home (replied_good m s.shape state y (x ∷ rest) y_good h).1)).1;
      })

  -- one list of exchanges after another
  pub leads_on : (s : Stand) (state : MachineState) (asks : Bool) (es fs : List Exchange) → Leads s state asks es → Leads (stand_by t s es) (state_by m state es) (asks_last asks es) fs → Leads s state asks (es ++ fs)
  leads_on s state asks es fs a b = record {
    ends = All-append (EndsSo t f) es fs a.ends b.ends;
    here = subst (λ (z : Stand). IsHere z (state_by m state (es ++ fs)) (asks_last asks (es ++ fs))) (sym (stand_on t s es fs))
        (subst (λ (z : MachineState). IsHere (stand_by t (stand_by t s es) fs) z (asks_last asks (es ++ fs))) (sym (state_by_append m state es fs))
        (subst (λ (z : Bool). IsHere (stand_by t (stand_by t s es) fs) (state_by m (state_by m state es) fs) z) (sym (asks_on asks es fs)) b.here));
    replies = λ rest h.
        subst (λ (z : MachineState). RepliesBy m z rest) (sym (state_by_append m state es fs))
        (b.replies rest (a.replies (fs ++ rest) (subst (RepliesBy m state) (append_is es fs rest) h)));
  } where
    append_is : (es fs rest : List Exchange) → (es ++ fs) ++ rest ≡ es ++ (fs ++ rest)
    append_is [] fs rest = refl
    append_is (e ∷ es) fs rest = ap (λ (xs : List Exchange). e ∷ xs) (append_is es fs rest)
