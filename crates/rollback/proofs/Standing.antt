-- What an instance may be asked between the rounds of an agreed step, and where that leaves it.
use Rattle.std.proofs.Common.{◌≡◌, ℕ, zero, suc, length, replicate, ◌-◌, ◌<◌, ◌≤◌, ◌==◌, Bool, true, false, not, Option, Some, None, refl, sym, ap, ◌∙◌, subst, arith}
use Rattle.std.specs.Prelude.{IfSome, IsTrue, ◌||◌, unwrap_or}
use Rattle.std.specs.List.{list_any}
use Rattle.std.proofs.lemmas.Bool.Decides.{nat_tests}
use Rattle.value_types.specs.declared.shape.Shape.{Shape}
use Rattle.fmi_calls.specs.declared.call.Call.{Call}
use Rattle.fmi_calls.specs.declared.call.Call.TheVariants as C
use Rattle.fmi_calls.specs.declared.phase.Phase.{Phase}
use Rattle.fmi_calls.specs.declared.phase.SavedPhase.{SavedPhase}
use Rattle.fmi_calls.specs.Next.{counted, end_of, entered, restored_state}
use Rattle.fmi_calls.specs.Permission.{Permitted, can_go_back, none_marked}
use Rattle.fmu_peer.specs.declared.peer.Exchange.{Exchange}
use Rattle.fmu_peer.specs.View.{Fixed, View}
use Rattle.slot_calls.proofs.CallerLemmas.{Led}
use Rattle.step_agreement.specs.Agreement.{end_by}
use Rattle.rollback.specs.Standing.{InStep, TakesSize}

-- no place of so many is marked
none_are : (n : ℕ) → none_marked (replicate n false) ≡ true
none_are n = ap not (by n) where
  by : (n : ℕ) → list_any (λ (flag : Bool). flag) (replicate n false) ≡ false
  by zero = refl
  by (suc n) = by n

-- ---- sizes

size_for : (step size : ℕ) (shape : Shape) (o : Option ℕ) → IfSome o (λ n. TakesSize step n shape) → TakesSize step size shape → IsTrue (shape.has_variable_steps || unwrap_or o size == size)
size_for step size shape o h takes = by shape.has_variable_steps o h takes where
  by : (b : Bool) (o : Option ℕ) → IfSome o (λ n. IsTrue (b || n == step)) → IsTrue (b || size == step) → IsTrue (b || unwrap_or o size == size)
  by true o h takes = takes
  by false None h takes = grind (arith, nat_tests)
  by false (Some n) h takes = grind (arith, nat_tests)

sized_next : (step size : ℕ) (shape : Shape) (o : Option ℕ) → IfSome o (λ n. TakesSize step n shape) → TakesSize step size shape → TakesSize step (unwrap_or o size) shape
sized_next step size shape None h takes = takes
sized_next step size shape (Some n) h takes = h

of_point : (b : Bool) (slot : SavedPhase) (t : ℕ) → slot.is_full ≡ b → (b ≡ true → slot.point ≡ t) → IsTrue (not slot.is_full || slot.point == t)
of_point true slot t full at = subst (λ (x : Bool). IsTrue (not x || slot.point == t)) (sym full) (subst (λ (n : ℕ). IsTrue (n == t)) (sym (at refl)) (same t)) where
  same : (t : ℕ) → IsTrue (t == t)
  same t = grind (arith, nat_tests)
of_point false slot t full at = subst (λ (x : Bool). IsTrue (not x || slot.point == t)) (sym full) refl

module _ (t b step : ℕ) (saves : Bool) (v : View) (h : InStep t b step saves v) where
  -- a step from t is permitted
  pub may_step : (e : ℕ) → v.phase.point ≡ t → t < e → e ≤ b → TakesSize step (e - t) v.fixed.shape → Permitted v.fixed.shape v.phase (C.DoStep t (e - t))
  may_step e at later within takes =
      let stop = h.stop in (
        h.state,
        sym at,
        omega (arith, later),
        omega (arith, later, within, stop),
        size_for step (e - t) v.fixed.shape v.phase.first_size h.sized takes,
        of_point saves v.phase.slot v.phase.point h.full (λ q. h.saved q ∙ sym at),
      )

  -- going back is, where the state is saved
  pub may_go_back : saves ≡ true → Permitted v.fixed.shape v.phase C.Restore
  may_go_back is = (ap can_go_back h.state, h.may_save is, h.full ∙ is)

  pub may_be_saved : saves ≡ false → v.fixed.shape.can_save_state ≡ true → Permitted v.fixed.shape v.phase C.Save
  may_be_saved is can = (h.state, can, h.full ∙ is)

  pub may_be_freed : saves ≡ true → Permitted v.fixed.shape v.phase C.Free
  may_be_freed is = (ap can_go_back h.state, h.may_save is, h.full ∙ is)

  module _ (w : View) (x : Exchange) (l : Led v x w) where
    fixed_shape : w.fixed.shape ≡ v.fixed.shape
    fixed_shape = ap (λ (f : Fixed). f.shape) l.fixed

    phase_by : (call : Call) → x.call ≡ call → w.phase ≡ entered v.fixed.shape (counted v.phase x.call) call l.reply
    phase_by call is = l.phase ∙ ap (λ (c : Call). entered v.fixed.shape (counted v.phase x.call) c l.reply) is

    -- after a step
    pub stepped : (e : ℕ) → x.call ≡ C.DoStep t (e - t) → TakesSize step (e - t) v.fixed.shape → v.phase.point ≡ t → InStep t b step saves w × (w.phase.point ≡ end_by t x.result)
    stepped e is takes at =
        let p = phase_by (C.DoStep t (e - t)) is in (
          record {
            state = ap (λ (q : Phase). q.state) p ∙ h.state;
            stop = subst (λ (n : ℕ). b ≤ n) (sym (ap (λ (q : Phase). q.stop) p)) h.stop;
            sized = subst (λ (o : Option ℕ). IfSome o (λ n. TakesSize step n w.fixed.shape)) (sym (ap (λ (q : Phase). q.first_size) p))
                (subst (TakesSize step (unwrap_or v.phase.first_size (e - t))) (sym fixed_shape) (sized_next step (e - t) v.fixed.shape v.phase.first_size h.sized takes));
            full = ap (λ (q : Phase). q.slot.is_full) p ∙ h.full;
            saved = λ q. ap (λ (z : Phase). z.slot.point) p ∙ h.saved q;
            may_save = λ q. ap (λ (s : Shape). s.can_save_state) fixed_shape ∙ h.may_save q;
            unset = λ away. ap (λ (z : Phase). none_marked z.marks) p ∙ none_are (length v.fixed.shape.variables);
          },
          ap (λ (q : Phase). q.point) p ∙ ap (end_of l.reply) at ∙ sym (ap (end_by t) l.is),
        )

    -- after a Restore
    pub restored : x.call ≡ C.Restore → saves ≡ true → InStep t b step saves w × (w.phase.point ≡ t)
    restored is held =
        let p = phase_by C.Restore is in (
          record {
            state = ap (λ (q : Phase). q.state) p ∙ ap restored_state h.state;
            stop = subst (λ (n : ℕ). b ≤ n) (sym (ap (λ (q : Phase). q.stop) p)) h.stop;
            sized = subst (λ (s : Shape). IfSome w.phase.first_size (λ n. TakesSize step n s)) (sym fixed_shape)
                (subst (λ (o : Option ℕ). IfSome o (λ n. TakesSize step n v.fixed.shape)) (sym (ap (λ (q : Phase). q.first_size) p)) h.sized);
            full = ap (λ (q : Phase). q.slot.is_full) p ∙ h.full;
            saved = λ q. ap (λ (z : Phase). z.slot.point) p ∙ h.saved q;
            may_save = λ q. ap (λ (s : Shape). s.can_save_state) fixed_shape ∙ h.may_save q;
            unset = λ away. absurd (away (ap (λ (q : Phase). q.point) p ∙ h.saved held));
          },
          ap (λ (q : Phase). q.point) p ∙ h.saved held,
        )

    -- after a Save at t
    pub now_saved : x.call ≡ C.Save → v.phase.point ≡ t → v.fixed.shape.can_save_state ≡ true → InStep t b step true w × (w.phase.point ≡ t)
    now_saved is at can =
        let p = phase_by C.Save is in (
          record {
            state = ap (λ (q : Phase). q.state) p ∙ h.state;
            stop = subst (λ (n : ℕ). b ≤ n) (sym (ap (λ (q : Phase). q.stop) p)) h.stop;
            sized = subst (λ (s : Shape). IfSome w.phase.first_size (λ n. TakesSize step n s)) (sym fixed_shape)
                (subst (λ (o : Option ℕ). IfSome o (λ n. TakesSize step n v.fixed.shape)) (sym (ap (λ (q : Phase). q.first_size) p)) h.sized);
            full = ap (λ (q : Phase). q.slot.is_full) p;
            saved = λ q. ap (λ (z : Phase). z.slot.point) p ∙ at;
            may_save = λ q. ap (λ (s : Shape). s.can_save_state) fixed_shape ∙ can;
            unset = λ away. absurd (away (ap (λ (q : Phase). q.point) p ∙ at));
          },
          ap (λ (q : Phase). q.point) p ∙ at,
        )

    -- after a Free
    pub now_freed : x.call ≡ C.Free → InStep t b step false w × (w.phase.point ≡ v.phase.point)
    now_freed is =
        let p = phase_by C.Free is in (
          record {
            state = ap (λ (q : Phase). q.state) p ∙ h.state;
            stop = subst (λ (n : ℕ). b ≤ n) (sym (ap (λ (q : Phase). q.stop) p)) h.stop;
            sized = subst (λ (s : Shape). IfSome w.phase.first_size (λ n. TakesSize step n s)) (sym fixed_shape)
                (subst (λ (o : Option ℕ). IfSome o (λ n. TakesSize step n v.fixed.shape)) (sym (ap (λ (q : Phase). q.first_size) p)) h.sized);
            full = ap (λ (q : Phase). q.slot.is_full) p;
            saved = λ q. absurd (cc);
            may_save = λ q. absurd (cc);
            unset = λ away. ap (λ (z : Phase). none_marked z.marks) p ∙ h.unset (λ same. away (ap (λ (q : Phase). q.point) p ∙ same));
          },
          ap (λ (q : Phase). q.point) p,
        )
