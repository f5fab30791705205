-- In an agreement a Restore of one FMU comes only after a step, whatever is answered.
use Rattle.std.proofs.Common.{◌≡◌, ℕ, ◌-◌, ◌<◌, ◌==◌, Bool, true, false, not, List, [], ◌∷◌, ◌++◌, Some, refl, sym, ap, ◌∙◌, subst, arith, append-nil}
use Rattle.std.specs.Prelude.{◌&&◌}
use Rattle.std.specs.List.{slice_get}
use Rattle.value_types.specs.declared.shape.Shape.{Shape}
use Rattle.fmi_calls.specs.declared.call.Call.{Call}
use Rattle.fmi_calls.specs.declared.call.Call.TheVariants as C
use Rattle.fmu_peer.specs.declared.peer.Exchange.{Exchange}
use Rattle.fmu_peer.specs.Talk.{IsGood, calls_in}
use Rattle.slot_calls.specs.Log.{Sent, part}
use Rattle.step_agreement.specs.Agreement.{Agrees, Asks, FirstMeet, FirstStops, GoesAnew, InBack, InStep, IsUnfit, NextMeet, NextStops, Outcome, Stand, Stops, comes_first, ends_elsewhere, everyone, is_away, is_elsewhere, moved, stand_by}
use Rattle.step_agreement.proofs.Falling.{OneCall, own_call, split_calls}
use Rattle.step_agreement.proofs.Moves.{FromAway, FromHere, Own, Skips, good_end, other_number, own, same_number}
use Rattle.step_agreement.proofs.Tracks.{stand_here}

-- steps from t, and Restores, each after a step; before these calls there was a step or not
abbrev pub Alternates : ℕ → Bool → List Call → Type 0
Alternates t stepped [] = Unit {0}
Alternates t stepped (C.DoStep at size ∷ cs) = (at ≡ t) × Alternates t true cs
Alternates t stepped (C.Restore ∷ cs) = (stepped ≡ true) × Alternates t false cs
Alternates t stepped (c ∷ cs) = ⊥

abbrev is_off : ℕ → Stand → Bool
is_off t s = not (s.point == t)

both : (x y : Bool) → (x && y) ≡ true → (x ≡ true) × (y ≡ true)
both true y h = (refl, h)
both false y h = absurd (cc)

module _ (t : ℕ) where
  on_off : (s : Stand) → t < s.point → is_off t s ≡ true
  on_off s after = ap not (other_number s.point t (λ same. absurd (omega (arith, same, after))))

  -- a good step ends after t
  after_step : (z : Stand) (shape : Shape) (x : Exchange) (e : ℕ) → x.call ≡ C.DoStep t (e - t) → IsGood shape x → t < (moved t z x.call x.result).point
  after_step z shape x e call good = let g = good_end shape t (e - t) x good call in let l = g.later in let there = ap (λ (c : Call). (moved t z c x.result).point) call in omega (arith, there, l)

  own_on : (e : ℕ) (b : Bool) (s : Stand) (es : List Exchange) (rest : List Call) → Own t e b s es → Alternates t (is_off t (stand_by t s es)) rest → Alternates t (is_off t s) (calls_in es ++ rest)
  own_on e b s es rest (Skips un is) h =
      subst (λ (xs : List Exchange). Alternates t (is_off t s) (calls_in xs ++ rest)) (sym is) (subst (λ (xs : List Exchange). Alternates t (is_off t (stand_by t s xs)) rest) is h)
  own_on e b s es rest (FromHere asked home x is call good) h =
      let off : is_off t (moved t s x.call x.result) ≡ true = on_off (moved t s x.call x.result) (after_step s s.shape x e call good) in
      let more : Alternates t true rest = subst (λ (o : Bool). Alternates t o rest) off (subst (λ (xs : List Exchange). Alternates t (is_off t (stand_by t s xs)) rest) is h) in
      subst (λ (xs : List Exchange). Alternates t (is_off t s) (calls_in xs ++ rest)) (sym is) (subst (λ (c : Call). Alternates t (is_off t s) (c ∷ rest)) (sym call) (refl, more))
  own_on e b s es rest (FromAway asked away y x is back y_good call good) h =
      let z = moved t s y.call y.result in
      let off : is_off t (moved t z x.call x.result) ≡ true = on_off (moved t z x.call x.result) (after_step z s.shape x e call good) in
      let more : Alternates t true rest = subst (λ (o : Bool). Alternates t o rest) off (subst (λ (xs : List Exchange). Alternates t (is_off t (stand_by t s xs)) rest) is h) in
      let here : is_off t s ≡ true = ap not (other_number s.point t away) in
      let steps : Alternates t false (x.call ∷ rest) = subst (λ (c : Call). Alternates t false (c ∷ rest)) (sym call) (refl, more) in
      subst (λ (xs : List Exchange). Alternates t (is_off t s) (calls_in xs ++ rest)) (sym is) (subst (λ (c : Call). Alternates t (is_off t s) (c ∷ x.call ∷ rest)) (sym back) (here, steps))

  -- a round of Restores, then one of steps, whatever is answered
  step_alone : (stepped b : Bool) (size : ℕ) (cs : List Call) → OneCall (C.DoStep t size) b cs → Alternates t stepped cs
  step_alone stepped true size cs is = subst (Alternates t stepped) (sym is) (refl, tt)
  step_alone stepped false size cs is = subst (Alternates t stepped) (sym is) tt

  back_alone : (stepped b : Bool) (cs rest : List Call) → (b ≡ true → stepped ≡ true) → OneCall C.Restore b cs → ((x : Bool) → Alternates t x rest) → Alternates t stepped (cs ++ rest)
  back_alone stepped true cs rest able is h = subst (λ (xs : List Call). Alternates t stepped (xs ++ rest)) (sym is) (able refl, h false)
  back_alone stepped false cs rest able is h = subst (λ (xs : List Call). Alternates t stepped (xs ++ rest)) (sym is) (h stepped)

module _ (t step : ℕ) (first : Shape → Bool) (i : ℕ) where
  asks_on : (sized test : Stand → Bool) (e : ℕ) (stands : List Stand) (log : List Sent) → Asks t step sized test e stands log → (s : Stand) → slice_get stands i ≡ Some s → (rest : List Call) → Alternates t (is_off t (stand_by t s (part i log))) rest → Alternates t (is_off t s) (calls_in (part i log) ++ rest)
  asks_on sized test e stands log asks s at rest h = own_on t e (test s) s (part i log) rest (own t step sized test e stands log asks i s at) h

  off_of : (test : Stand → Bool) (s : Stand) → is_away t test s ≡ true → is_off t s ≡ true
  off_of test s h = (both (test s) (not (s.point == t)) h).1

  stops_on : (sized test : Stand → Bool) (e : ℕ) (stands : List Stand) (log : List Sent) (outcome : Outcome) → Stops t step sized test e stands log outcome → (s : Stand) → slice_get stands i ≡ Some s → Alternates t (is_off t s) (calls_in (part i log))
  stops_on sized test e stands log outcome (IsUnfit k h none is) s at = subst (λ (l : List Sent). Alternates t (is_off t s) (calls_in (part i l))) (sym none) tt
  stops_on sized test e stands log outcome (InBack bad fits fails is) s at =
      subst (Alternates t (is_off t s)) (append-nil (calls_in (part i log)))
      (back_alone t (is_off t s) (is_away t test s) (calls_in (part i log)) [] (off_of test s) (own_call (is_away t test) C.Restore stands log fails.calls_are i s at) (λ x. tt))
  stops_on sized test e stands log outcome (InStep bad backs steps fits back fails log_is is) s at =
      subst (Alternates t (is_off t s)) (sym (ap (λ (l : List Sent). calls_in (part i l)) log_is ∙ split_calls i backs steps))
      (back_alone t (is_off t s) (is_away t test s) (calls_in (part i backs)) (calls_in (part i steps)) (off_of test s) (own_call (is_away t test) C.Restore stands backs back.calls_are i s at)
      (λ x. step_alone t x (test s) (e - t) (calls_in (part i steps)) (own_call test (C.DoStep t (e - t)) stands steps fails.calls_are i s at)))

  pub alternates : (b : ℕ) (stands : List Stand) (log : List Sent) (outcome : Outcome) → Agrees t step first b stands log outcome → (s : Stand) → slice_get stands i ≡ Some s → Alternates t (not (s.point == t)) (calls_in (part i log))
  alternates _ _ _ _ (FirstStops b stands log outcome stops) s at = stops_on everyone (comes_first first) b stands log outcome stops s at
  alternates _ _ _ _ (FirstMeet b stands log outcome m asks m_is there is) s at =
      subst (Alternates t (is_off t s)) (append-nil (calls_in (part i log))) (asks_on everyone (comes_first first) b stands log asks s at [] tt)
  alternates _ _ _ _ (NextStops b stands log outcome m prefix back mids asks mids_is m_is apart stops log_is) s at =
      let y_at = ap (λ (ss : List Stand). slice_get ss i) mids_is ∙ stand_here t stands prefix i s at in
      subst (Alternates t (is_off t s)) (sym (ap (λ (l : List Sent). calls_in (part i l)) log_is ∙ split_calls i prefix back))
      (asks_on everyone (comes_first first) b stands prefix asks s at (calls_in (part i back)) (stops_on (ends_elsewhere t b m) (is_elsewhere m) m mids back outcome stops (stand_by t s (part i prefix)) y_at))
  alternates _ _ _ _ (NextMeet b stands log outcome m prefix back mids asks mids_is m_is apart next there is log_is) s at =
      let y = stand_by t s (part i prefix) in
      let y_at = ap (λ (ss : List Stand). slice_get ss i) mids_is ∙ stand_here t stands prefix i s at in
      subst (Alternates t (is_off t s)) (sym (ap (λ (l : List Sent). calls_in (part i l)) log_is ∙ split_calls i prefix back))
      (asks_on everyone (comes_first first) b stands prefix asks s at (calls_in (part i back))
      (subst (Alternates t (is_off t y)) (append-nil (calls_in (part i back))) (asks_on (ends_elsewhere t b m) (is_elsewhere m) m mids back next y y_at [] tt)))
  alternates _ _ _ _ (GoesAnew b stands log outcome m c prefix back rest mids ends asks mids_is m_is apart next ends_is beyond c_is more log_is) s at =
      let y = stand_by t s (part i prefix) in
      let y_at = ap (λ (ss : List Stand). slice_get ss i) mids_is ∙ stand_here t stands prefix i s at in
      let z_at = ap (λ (ss : List Stand). slice_get ss i) ends_is ∙ stand_here t mids back i y y_at in
      subst (Alternates t (is_off t s)) (sym (ap (λ (l : List Sent). calls_in (part i l)) log_is ∙ split_calls i prefix (back ++ rest)))
      (asks_on everyone (comes_first first) b stands prefix asks s at (calls_in (part i (back ++ rest)))
      (subst (Alternates t (is_off t y)) (sym (split_calls i back rest)) (asks_on (ends_elsewhere t b m) (is_elsewhere m) m mids back next y y_at (calls_in (part i rest)) (alternates c ends rest outcome more (stand_by t y (part i back)) z_at))))

-- from t on the first is a step
pub alternates_from : (t step : ℕ) (first : Shape → Bool) (i b : ℕ) (stands : List Stand) (log : List Sent) (outcome : Outcome) → Agrees t step first b stands log outcome → (s : Stand) → slice_get stands i ≡ Some s → s.point ≡ t → Alternates t false (calls_in (part i log))
alternates_from t step first i b stands log outcome agrees s at home = subst (λ (x : Bool). Alternates t x (calls_in (part i log))) (ap not (same_number s.point t home)) (alternates t step first i b stands log outcome agrees s at)
