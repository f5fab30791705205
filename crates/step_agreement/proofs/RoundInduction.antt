-- What holds along an agreement, whatever is answered: what each of its rounds has.
use Rattle.std.proofs.Common.{◌≡◌, ℕ, ◌-◌, ◌⊎◌, inl, inr, Bool, List, [], ◌++◌, refl, sym, ap, ◌∙◌, subst}
use Rattle.value_types.specs.declared.shape.Shape.{Shape}
use Rattle.fmi_calls.specs.declared.call.Call.{Call}
use Rattle.fmi_calls.specs.declared.call.Call.TheVariants as C
use Rattle.slot_calls.specs.Log.{Sent}
use Rattle.slot_calls.specs.Stage.{FailsIn, IsAnswered}
use Rattle.slot_calls.specs.declared.bad_answer.BadAnswer.{BadAnswer}
use Rattle.step_agreement.specs.Agreement.{Agrees, Asks, Fails, FirstMeet, FirstStops, GoesAnew, InBack, InStep, IsUnfit, Meets, NextMeet, NextStops, Outcome, Stand, Stops, Unfit, comes_first, ends_elsewhere, everyone, is_away, is_elsewhere, shapes_in, to_some}
use Rattle.step_agreement.proofs.GoingBack.{same_shapes}

-- the call of a round: those that are asked go back, or step from t
abbrev pub IsOfRound : ℕ → Call → Type 0
IsOfRound t call = (call ≡ C.Restore) ⊎ ((size : ℕ) × (call ≡ C.DoStep t size))

-- what well answered rounds have, one after the other, and what one with a bad answer has after those
pub record IsAlong (t : ℕ) (shapes : List Shape) (Good : List Sent → Type 0) (Bad : BadAnswer → List Sent → Type 0) : Type 0 where
  pub none : Good []
  pub joined : (prefix back : List Sent) → Good prefix → Good back → Good (prefix ++ back)
  pub after : (bad : BadAnswer) (prefix back : List Sent) → Good prefix → Bad bad back → Bad bad (prefix ++ back)
  pub well : (test : Stand → Bool) (call : Call) (stands : List Stand) (log : List Sent) → IsOfRound t call → shapes_in stands ≡ shapes → IsAnswered shapes (to_some test call stands) log → Good log
  pub badly : (test : Stand → Bool) (call : Call) (stands : List Stand) (bad : BadAnswer) (log : List Sent) → IsOfRound t call → shapes_in stands ≡ shapes → FailsIn shapes (to_some test call stands) bad log → Bad bad log

-- the whole has the one, or the other where an answer is bad
abbrev pub HasAlong : (Good : List Sent → Type 0) (Bad : BadAnswer → List Sent → Type 0) → Outcome → List Sent → Type 0
HasAlong Good Bad (Meets point) log = Good log
HasAlong Good Bad (Unfit i e) log = Good log
HasAlong Good Bad (Fails bad) log = Bad bad log

module _ (t step : ℕ) (first : Shape → Bool) (shapes : List Shape) (Good : List Sent → Type 0) (Bad : BadAnswer → List Sent → Type 0) (h : IsAlong t shapes Good Bad) where
  abbrev Has : Outcome → List Sent → Type 0
  Has outcome log = HasAlong Good Bad outcome log

  back_call : IsOfRound t C.Restore
  back_call = inl refl

  step_call : (size : ℕ) → IsOfRound t (C.DoStep t size)
  step_call size = inr (size, refl)

  module _ (sized test : Stand → Bool) (e : ℕ) (stands : List Stand) (same : shapes_in stands ≡ shapes) where
    well : (test : Stand → Bool) (call : Call) (log : List Sent) → IsOfRound t call → IsAnswered (shapes_in stands) (to_some test call stands) log → Good log
    well test call log is a = h.well test call stands log is same (subst (λ (ss : List Shape). IsAnswered ss (to_some test call stands) log) same a)

    badly : (test : Stand → Bool) (call : Call) (bad : BadAnswer) (log : List Sent) → IsOfRound t call → FailsIn (shapes_in stands) (to_some test call stands) bad log → Bad bad log
    badly test call bad log is f = h.badly test call stands bad log is same (subst (λ (ss : List Shape). FailsIn ss (to_some test call stands) bad log) same f)

    pub asked : (log : List Sent) → Asks t step sized test e stands log → Good log
    asked log a = subst Good (sym a.log_is)
        (h.joined a.backs a.steps (well (is_away t test) C.Restore a.backs back_call a.back) (well test (C.DoStep t (e - t)) a.steps (step_call (e - t)) a.stepped))

    stopped : (log : List Sent) (outcome : Outcome) → Stops t step sized test e stands log outcome → Has outcome log
    stopped log outcome (IsUnfit i unfit none is) = subst (λ (o : Outcome). Has o log) (sym is) (subst Good (sym none) h.none)
    stopped log outcome (InBack bad fits fails is) = subst (λ (o : Outcome). Has o log) (sym is) (badly (is_away t test) C.Restore bad log back_call fails)
    stopped log outcome (InStep bad backs steps fits back fails log_is is) =
        subst (λ (o : Outcome). Has o log) (sym is)
        (subst (Bad bad) (sym log_is) (h.after bad backs steps (well (is_away t test) C.Restore backs back_call back) (badly test (C.DoStep t (e - t)) bad steps (step_call (e - t)) fails)))

  -- after well answered rounds
  on : (prefix back : List Sent) (outcome : Outcome) → Good prefix → Has outcome back → Has outcome (prefix ++ back)
  on prefix back (Meets point) f b = h.joined prefix back f b
  on prefix back (Unfit i e) f b = h.joined prefix back f b
  on prefix back (Fails bad) f b = h.after bad prefix back f b

  pub along_agreement : (b : ℕ) (stands : List Stand) (log : List Sent) (outcome : Outcome) → shapes_in stands ≡ shapes → Agrees t step first b stands log outcome → Has outcome log
  along_agreement _ _ _ _ same (FirstStops b stands log outcome stops) = stopped everyone (comes_first first) b stands same log outcome stops
  along_agreement _ _ _ _ same (FirstMeet b stands log outcome m asks m_is there is) = subst (λ (o : Outcome). Has o log) (sym is) (asked everyone (comes_first first) b stands same log asks)
  along_agreement _ _ _ _ same (NextStops b stands log outcome m prefix back mids asks mids_is m_is apart stops log_is) =
      subst (Has outcome) (sym log_is)
      (on prefix back outcome (asked everyone (comes_first first) b stands same prefix asks)
      (stopped (ends_elsewhere t b m) (is_elsewhere m) m mids (ap shapes_in mids_is ∙ same_shapes t step stands prefix ∙ same) back outcome stops))
  along_agreement _ _ _ _ same (NextMeet b stands log outcome m prefix back mids asks mids_is m_is apart next there is log_is) =
      subst (λ (o : Outcome). Has o log) (sym is)
      (subst Good (sym log_is)
      (h.joined prefix back (asked everyone (comes_first first) b stands same prefix asks)
      (asked (ends_elsewhere t b m) (is_elsewhere m) m mids (ap shapes_in mids_is ∙ same_shapes t step stands prefix ∙ same) back next)))
  along_agreement _ _ _ _ same (GoesAnew b stands log outcome m c prefix back rest mids ends asks mids_is m_is apart next ends_is after c_is more log_is) =
      let same_mids : shapes_in mids ≡ shapes = ap shapes_in mids_is ∙ same_shapes t step stands prefix ∙ same in
      let same_ends : shapes_in ends ≡ shapes = ap shapes_in ends_is ∙ same_shapes t step mids back ∙ same_mids in
      subst (Has outcome) (sym log_is)
      (on prefix (back ++ rest) outcome (asked everyone (comes_first first) b stands same prefix asks)
      (on back rest outcome (asked (ends_elsewhere t b m) (is_elsewhere m) m mids same_mids back next) (along_agreement c ends rest outcome same_ends more)))
