-- In an agreed step the sizes of one FMU's steps fall.
use Rattle.std.proofs.Common.{◌≡◌, ◌≢◌, ◌⊎◌, inl, inr, ℕ, zero, suc, ◌+◌, ◌-◌, ◌<◌, ◌≤◌, ◌==◌, Bool, true, false, not, List, [], ◌∷◌, ◌++◌, Option, Some, None, refl, sym, ap, ◌∙◌, subst, arith, map, append-nil}
use Rattle.std.specs.Prelude.{IfSome, if◌then◌else◌}
use Rattle.std.specs.List.{slice_get}
use Rattle.std.proofs.lemmas.Bool.Decides.{nat_tests}
use Rattle.std.proofs.lemmas.List.{map-append}
use Rattle.std.proofs.lemmas.Option.{none-some as none_some, same_Some}
use Rattle.value_types.specs.declared.shape.Shape.{Shape}
use Rattle.fmi_calls.specs.declared.call.Call.{Call}
use Rattle.fmi_calls.specs.declared.call.Call.TheVariants as C
use Rattle.fmu_peer.specs.declared.peer.Exchange.{Exchange}
use Rattle.fmu_peer.specs.Lean.{SizesFall}
use Rattle.run_model.specs.Steps.{least_or}
use Rattle.slot_calls.specs.Log.{ComponentCall, Sent, component_call, component_calls, part}
use Rattle.slot_calls.proofs.CallerLemmas.{part_append}
use Rattle.slot_calls.proofs.CallerLemmas.{first_same, other, rest_same, same, skips, takes}
use Rattle.step_agreement.specs.Agreement.{Agrees, Asks, FirstMeet, FirstStops, GoesAnew, InBack, InStep, IsUnfit, NextMeet, NextStops, Outcome, Stand, Stops, are_at, comes_first, end_at, ends_elsewhere, everyone, is_away, is_elsewhere, moved, reached, stand_by, stands_by, to_some, to_some_from}
use Rattle.fmu_peer.specs.Talk.{calls_in}
use Rattle.step_agreement.proofs.Lists.{Each, Holds, least_is, least_low, not_all}
use Rattle.step_agreement.proofs.Machines.{stood_from}
use Rattle.step_agreement.proofs.Moves.{FromAway, FromHere, Own, Skips, good_end, other_number, own}
use Rattle.step_agreement.proofs.Tracks.{shape_kept, stand_here}

equal : (a b : ℕ) → (a == b) ≡ true → a ≡ b
equal a b q = grind (arith, nat_tests)

unequal : (a b : ℕ) → (a == b) ≡ false → a ≢ b
unequal a b q = grind (arith, nat_tests)

-- ---- calls alone, whatever is answered

-- the calls of the i-th in a round: one or none
abbrev pub OneCall : Call → Bool → List Call → Type 0
OneCall call true cs = cs ≡ call ∷ []
OneCall call false cs = cs ≡ []

record Rest (a : ComponentCall) (cs : List ComponentCall) (log : List Sent) : Type 0 where
  rest : List Sent
  rest_is : component_calls rest ≡ cs
  others : (j : ℕ) → j ≢ a.component → part j log ≡ part j rest

rest_if : (b : Bool) (a : ComponentCall) (cs : List ComponentCall) (log : List Sent) → component_calls log ≡ (if b then a ∷ cs else cs) → Rest a cs log
rest_if true a cs [] is = absurd (cc)
rest_if true a cs (s ∷ log) is =
    let at : s.component ≡ a.component = ap (λ (x : ComponentCall). x.component) (first_same (component_call s) a (component_calls log) cs is) in
    record { rest = log; rest_is = rest_same (component_call s) a (component_calls log) cs is; others = λ j ne. skips (s.component == j) s.exchange (part j log) (other s.component j (λ e. ne (sym e ∙ at))) }
rest_if false a cs log is = record { rest = log; rest_is = is; others = λ j ne. refl }

part_nil : (j : ℕ) (log : List Sent) → component_calls log ≡ [] → part j log ≡ []
part_nil j [] is = refl
part_nil j (s ∷ log) is = absurd (cc)

module _ {A : Type 0} (test : A → Bool) (call : Call) where
  abbrev at_place : ℕ → ComponentCall
  at_place k = record { component = k; call = call }

  none_before : (k j : ℕ) (xs : List A) (log : List Sent) → component_calls log ≡ to_some_from k test call xs → j < k → part j log ≡ []
  none_before k j [] log is h = part_nil j log is
  none_before k j (x ∷ xs) log is h =
      let r = rest_if (test x) (at_place k) (to_some_from (k + 1) test call xs) log is in
      r.others j (λ e. absurd (omega (arith, e, h))) ∙ none_before (k + 1) j xs r.rest r.rest_is (omega (arith, h))

  here : (k : ℕ) (xs : List A) (b : Bool) (log : List Sent) → component_calls log ≡ (if b then at_place k ∷ to_some_from (k + 1) test call xs else to_some_from (k + 1) test call xs) → OneCall call b (calls_in (part k log))
  here k xs true [] is = absurd (cc)
  here k xs true (s ∷ log) is =
      let first = first_same (component_call s) (at_place k) (component_calls log) (to_some_from (k + 1) test call xs) is in
      let at : s.component ≡ k = ap (λ (x : ComponentCall). x.component) first in
      ap calls_in (takes (s.component == k) s.exchange (part k log) (same s.component k at) ∙ ap (λ (es : List Exchange). s.exchange ∷ es) (none_before (k + 1) k xs log (rest_same (component_call s) (at_place k) (component_calls log) (to_some_from (k + 1) test call xs) is) (omega arith)))
      ∙ ap (λ (x : ComponentCall). x.call ∷ []) first
  here k xs false log is = ap calls_in (none_before (k + 1) k xs log is (omega arith))

  from_k : (k : ℕ) (xs : List A) (log : List Sent) → component_calls log ≡ to_some_from k test call xs → (i : ℕ) (x : A) → slice_get xs i ≡ Some x → OneCall call (test x) (calls_in (part (k + i) log))
  from_k k [] log is i x at = absurd (none_some x at)
  from_k k (y ∷ xs) log is zero x at =
      let place : k ≡ k + 0 = omega arith in
      subst (λ (n : ℕ). OneCall call (test x) (calls_in (part n log))) place (subst (λ (z : A). OneCall call (test z) (calls_in (part k log))) (same_Some y x at) (here k xs (test y) log is))
  from_k k (y ∷ xs) log is (suc i) x at =
      let r = rest_if (test y) (at_place k) (to_some_from (k + 1) test call xs) log is in
      let place : k + 1 + i ≡ k + suc i = omega arith in
      subst (λ (es : List Exchange). OneCall call (test x) (calls_in es)) (sym (r.others (k + suc i) (λ e. absurd (omega (arith, e)))))
      (subst (λ (n : ℕ). OneCall call (test x) (calls_in (part n r.rest))) place (from_k (k + 1) xs r.rest r.rest_is i x at))

  pub own_call : (xs : List A) (log : List Sent) → component_calls log ≡ to_some test call xs → (i : ℕ) (x : A) → slice_get xs i ≡ Some x → OneCall call (test x) (calls_in (part i log))
  own_call xs log is i x at = let place : 0 + i ≡ i = omega arith in subst (λ (n : ℕ). OneCall call (test x) (calls_in (part n log))) place (from_k 0 xs log is i x at)

-- ---- sizes

-- a step of this size may follow
abbrev pub Below : Option ℕ → ℕ → Type 0
Below last size = IfSome last (λ n. size < n)

below_less : (last : Option ℕ) (a b : ℕ) → a ≤ b → Below last b → Below last a
below_less None a b h k = tt
below_less (Some n) a b h k = omega (arith, h, k)

back_falls : (b : Bool) (last : Option ℕ) (cs rest : List Call) → OneCall C.Restore b cs → SizesFall last rest → SizesFall last (cs ++ rest)
back_falls true last cs rest is h = subst (λ (xs : List Call). SizesFall last (xs ++ rest)) (sym is) h
back_falls false last cs rest is h = subst (λ (xs : List Call). SizesFall last (xs ++ rest)) (sym is) h

step_falls : (b : Bool) (last : Option ℕ) (t size : ℕ) (cs rest : List Call) → OneCall (C.DoStep t size) b cs → (b ≡ true → Below last size) → SizesFall (if b then Some size else last) rest → SizesFall last (cs ++ rest)
step_falls true last t size cs rest is below h = subst (λ (xs : List Call). SizesFall last (xs ++ rest)) (sym is) (below refl, h)
step_falls false last t size cs rest is below h = subst (λ (xs : List Call). SizesFall last (xs ++ rest)) (sym is) h

append_calls : (a b : List Exchange) → calls_in (a ++ b) ≡ calls_in a ++ calls_in b
append_calls a b = map-append (λ (e : Exchange). e.call) a b

pub split_calls : (i : ℕ) (a b : List Sent) → calls_in (part i (a ++ b)) ≡ calls_in (part i a) ++ calls_in (part i b)
split_calls i a b = ap calls_in (part_append i a b) ∙ append_calls (part i a) (part i b)

append_three : (a b c : List Call) → (a ++ b) ++ c ≡ a ++ (b ++ c)
append_three [] b c = refl
append_three (x ∷ a) b c = ap (λ (xs : List Call). x ∷ xs) (append_three a b c)

module _ (t step : ℕ) (first : Shape → Bool) (i : ℕ) where
  -- one asking, and what follows
  pub asks_fall : (sized test : Stand → Bool) (e : ℕ) (stands : List Stand) (log : List Sent) → Asks t step sized test e stands log → (s : Stand) → slice_get stands i ≡ Some s → (last : Option ℕ) → (test s ≡ true → Below last (e - t)) → (rest : List Call) →
      SizesFall (if test s then Some (e - t) else last) rest → SizesFall last (calls_in (part i log) ++ rest)
  asks_fall sized test e stands log asks s at last below rest h =
      let backs = own_call (is_away t test) C.Restore stands asks.backs asks.back.calls_are i s at in
      let steps = own_call test (C.DoStep t (e - t)) stands asks.steps asks.stepped.calls_are i s at in
      subst (λ (cs : List Call). SizesFall last (cs ++ rest)) (sym (ap (λ (l : List Sent). calls_in (part i l)) asks.log_is ∙ split_calls i asks.backs asks.steps))
      (subst (SizesFall last) (sym (append_three (calls_in (part i asks.backs)) (calls_in (part i asks.steps)) rest))
      (back_falls (is_away t test s) last (calls_in (part i asks.backs)) (calls_in (part i asks.steps) ++ rest) backs
      (step_falls (test s) last t (e - t) (calls_in (part i asks.steps)) rest steps below h)))

  pub whole : (last : Option ℕ) (cs : List Call) → SizesFall last (cs ++ []) → SizesFall last cs
  whole last cs h = subst (SizesFall last) (append-nil cs) h

  pub stops_fall : (sized test : Stand → Bool) (e : ℕ) (stands : List Stand) (log : List Sent) (outcome : Outcome) → Stops t step sized test e stands log outcome → (s : Stand) → slice_get stands i ≡ Some s → (last : Option ℕ) → (test s ≡ true → Below last (e - t)) →
      SizesFall last (calls_in (part i log))
  stops_fall sized test e stands log outcome (IsUnfit k h log_is is) s at last below = subst (λ (l : List Sent). SizesFall last (calls_in (part i l))) (sym log_is) tt
  stops_fall sized test e stands log outcome (InBack bad fits fails is) s at last below =
      whole last (calls_in (part i log)) (back_falls (is_away t test s) last (calls_in (part i log)) [] (own_call (is_away t test) C.Restore stands log fails.calls_are i s at) tt)
  stops_fall sized test e stands log outcome (InStep bad backs steps fits back fails log_is is) s at last below =
      subst (SizesFall last) (sym (ap (λ (l : List Sent). calls_in (part i l)) log_is ∙ split_calls i backs steps))
      (back_falls (is_away t test s) last (calls_in (part i backs)) (calls_in (part i steps)) (own_call (is_away t test) C.Restore stands backs back.calls_are i s at)
      (whole last (calls_in (part i steps)) (step_falls (test s) last t (e - t) (calls_in (part i steps)) [] (own_call test (C.DoStep t (e - t)) stands steps fails.calls_are i s at) below (end_of (test s)))))
    where
      end_of : (b : Bool) → SizesFall (if b then Some (e - t) else last) []
      end_of true = tt
      end_of false = tt

  -- ---- where they stand after an asking

  -- one that was asked is past t and at its bound at most
  own_within : (e : ℕ) → t < e → (b : Bool) (s : Stand) (es : List Exchange) → Own t e b s es → b ≡ true → (t < (stand_by t s es).point) × ((stand_by t s es).point ≤ e)
  own_within e later b s es (Skips un is) h = absurd (cc)
  own_within e later b s es (FromHere asked home x is call good) h =
      let g = good_end s.shape t (e - t) x good call in let l = g.later in let w = g.within in
      let there : (stand_by t s es).point ≡ _ = ap (λ (xs : List Exchange). (stand_by t s xs).point) is ∙ ap (λ (c : Call). (moved t s c x.result).point) call in
      (omega (arith, there, l), omega (arith, there, w, later))
  own_within e later b s es (FromAway asked away y x is back y_good call good) h =
      let g = good_end s.shape t (e - t) x good call in let l = g.later in let w = g.within in
      let there : (stand_by t s es).point ≡ _ = ap (λ (xs : List Exchange). (stand_by t s xs).point) is ∙ ap (λ (c : Call). (moved t (moved t s y.call y.result) c x.result).point) call in
      (omega (arith, there, l), omega (arith, there, w, later))

  pub own_stays : (e : ℕ) (b : Bool) (s : Stand) (es : List Exchange) → Own t e b s es → b ≡ false → stand_by t s es ≡ s
  own_stays e b s es (Skips un is) h = ap (stand_by t s) is
  own_stays e b s es (FromHere asked home x is call good) h = absurd (cc)
  own_stays e b s es (FromAway asked away y x is back y_good call good) h = absurd (cc)

  -- one after a log stood somewhere before it
  pub stood : (stands : List Stand) (log : List Sent) (j : ℕ) (y : Stand) → slice_get (stands_by t stands log) j ≡ Some y → (s : Stand) × (slice_get stands j ≡ Some s) × (y ≡ stand_by t s (part j log))
  stood stands log j y at =
      let was = stood_from t 0 stands log j y at in
      let place : 0 + j ≡ j = omega arith in
      (was.0, was.1, was.2 ∙ ap (λ (n : ℕ). stand_by t was.0 (part n log)) place)

  abbrev ComeFirst : List Stand → Type 0
  ComeFirst stands = Each (λ (s : Stand). first s.shape ≡ true) stands

  firsts_stay : (stands : List Stand) (log : List Sent) → ComeFirst stands → ComeFirst (stands_by t stands log)
  firsts_stay stands log h j y at =
      let was = stood stands log j y at in
      ap (λ (z : Stand). first z.shape) was.2 ∙ ap first (shape_kept t was.0 (part j log)) ∙ h j was.0 was.1

  -- after the first asking
  module _ (b : ℕ) (later : t < b) (stands : List Stand) (firsts : ComeFirst stands) (prefix : List Sent) (asks : Asks t step everyone (comes_first first) b stands prefix) (mids : List Stand) (mids_are : mids ≡ stands_by t stands prefix) (m : ℕ) (m_is : m ≡ reached t b mids) where
    mid_within : Each (λ (y : Stand). (t < y.point) × (y.point ≤ b)) mids
    mid_within j y at =
        let was = stood stands prefix j y (ap (λ (ss : List Stand). slice_get ss j) (sym mids_are) ∙ at) in
        let w = own_within b later (first was.0.shape) was.0 (part j prefix) (own t step everyone (comes_first first) b stands prefix asks j was.0 was.1) (firsts j was.0 was.1) in
        subst (λ (z : Stand). (t < z.point) × (z.point ≤ b)) (sym was.2) w

    end_is : (j : ℕ) (y : Stand) → slice_get mids j ≡ Some y → end_at t b y ≡ y.point
    end_is j y at = ap (λ (x : Bool). if x then b else y.point) (other_number y.point t (let l = (mid_within j y at).0 in omega (arith, l)))

    m_low : Each (λ (y : Stand). m ≤ y.point) mids
    m_low j y at = let l = least_low (end_at t b) b mids j y at in let e = end_is j y at in omega (arith, l, e, m_is)

    m_within : (t < m) × (m ≤ b)
    m_within = by (least_is (end_at t b) b mids) where
      by : ((least_or b (map (end_at t b) mids) ≡ b) × (mids ≡ [])) ⊎ ((x : Stand) × Holds mids x × (least_or b (map (end_at t b) mids) ≡ end_at t b x)) → (t < m) × (m ≤ b)
      by (inl none) = let e = none.0 in (omega (arith, e, m_is, later), omega (arith, e, m_is))
      by (inr one) =
          let w = mid_within one.1.0 one.0 one.1.1 in let l = w.0 in let h = w.1 in
          let e = one.2 in let d = end_is one.1.0 one.0 one.1.1 in
          (omega (arith, e, d, m_is, l), omega (arith, e, d, m_is, h))

    -- another asking of one falls
    next_below : (y : Stand) → slice_get mids i ≡ Some y → is_elsewhere m y ≡ true → Below (Some (b - t)) (m - t)
    next_below y at apart =
        let l = m_low i y at in let w = mid_within i y at in let h = w.1 in let n = unequal y.point m (unnot (y.point == m) apart) in let k = m_within.0 in
        omega (arith, l, h, n, k) where
          unnot : (x : Bool) → not x ≡ true → x ≡ false
          unnot true h = absurd (cc)
          unnot false h = refl

    -- after the second, where not all are there
    module _ (back : List Sent) (asks2 : Asks t step (ends_elsewhere t b m) (is_elsewhere m) m mids back) (lasts : List Stand) (lasts_are : lasts ≡ stands_by t mids back) (after : are_at m lasts ≡ false) (c : ℕ) (c_is : c ≡ reached t m lasts) where
      last_by : (j : ℕ) (y : Stand) → slice_get mids j ≡ Some y → (x : Bool) → is_elsewhere m y ≡ x → (t < (stand_by t y (part j back)).point) × ((stand_by t y (part j back)).point ≤ m)
      last_by j y at true is = own_within m m_within.0 (is_elsewhere m y) y (part j back) (own t step (ends_elsewhere t b m) (is_elsewhere m) m mids back asks2 j y at) is
      last_by j y at false is =
          let stays = own_stays m (is_elsewhere m y) y (part j back) (own t step (ends_elsewhere t b m) (is_elsewhere m) m mids back asks2 j y at) is in
          let e : (stand_by t y (part j back)).point ≡ m = ap (λ (z : Stand). z.point) stays ∙ equal y.point m (unnot (y.point == m) is) in
          let k = m_within.0 in (omega (arith, e, k), omega (arith, e)) where
            unnot : (x : Bool) → not x ≡ false → x ≡ true
            unnot true h = refl
            unnot false h = absurd (cc)

      last_within : Each (λ (z : Stand). (t < z.point) × (z.point ≤ m)) lasts
      last_within j z at =
          let was = stood mids back j z (ap (λ (ss : List Stand). slice_get ss j) (sym lasts_are) ∙ at) in
          subst (λ (x : Stand). (t < x.point) × (x.point ≤ m)) (sym was.2) (last_by j was.0 was.1 (is_elsewhere m was.0) refl)

      c_below : (t < c) × (c < m)
      c_below =
          let miss = not_all (λ (s : Stand). s.point == m) lasts after in
          let w = last_within miss.0 miss.1 miss.2 in
          let h = w.1 in
          let n = unequal miss.1.point m miss.3 in
          let d : end_at t m miss.1 ≡ miss.1.point = ap (λ (x : Bool). if x then m else miss.1.point) (other_number miss.1.point t (let l = w.0 in omega (arith, l))) in
          let low = least_low (end_at t m) m lasts miss.0 miss.1 miss.2 in
          (c_later (least_is (end_at t m) m lasts), omega (arith, h, n, d, low, c_is)) where
            c_later : ((least_or m (map (end_at t m) lasts) ≡ m) × (lasts ≡ [])) ⊎ ((x : Stand) × Holds lasts x × (least_or m (map (end_at t m) lasts) ≡ end_at t m x)) → t < c
            c_later (inl none) = let e = none.0 in let k = m_within.0 in omega (arith, e, c_is, k)
            c_later (inr one) =
                let w = last_within one.1.0 one.0 one.1.1 in let l = w.0 in
                let d : end_at t m one.0 ≡ one.0.point = ap (λ (x : Bool). if x then m else one.0.point) (other_number one.0.point t (omega (arith, l))) in
                let e = one.2 in omega (arith, e, d, c_is, l)

      anew_below : (x : Bool) → Below (if x then Some (m - t) else Some (b - t)) (c - t)
      anew_below true = let l = c_below.1 in let k = m_within.0 in omega (arith, l, k)
      anew_below false = let l = c_below.1 in let k = m_within.0 in let h = m_within.1 in omega (arith, l, k, h)

  falls : {b : ℕ} {stands : List Stand} {log : List Sent} {outcome : Outcome} → Agrees t step first b stands log outcome → t < b → ComeFirst stands → (s : Stand) → slice_get stands i ≡ Some s → (last : Option ℕ) → Below last (b - t) → SizesFall last (calls_in (part i log))
  falls (FirstStops b stands log outcome stops) later firsts s at last below = stops_fall everyone (comes_first first) b stands log outcome stops s at last (λ h. below)
  falls (FirstMeet b stands log outcome m asks m_is there is) later firsts s at last below =
      whole last (calls_in (part i log)) (asks_fall everyone (comes_first first) b stands log asks s at last (λ h. below) [] (none_left (first s.shape))) where
        none_left : (x : Bool) → SizesFall (if x then Some (b - t) else last) []
        none_left true = tt
        none_left false = tt
  falls (NextStops b stands log outcome m prefix back mids asks mids_are m_is apart stops is) later firsts s at last below =
      let y_at = ap (λ (ss : List Stand). slice_get ss i) mids_are ∙ stand_here t stands prefix i s at in
      subst (SizesFall last) (sym (ap (λ (l : List Sent). calls_in (part i l)) is ∙ split_calls i prefix back))
      (asks_fall everyone (comes_first first) b stands prefix asks s at last (λ h. below) (calls_in (part i back))
      (subst (λ (x : Bool). SizesFall (if x then Some (b - t) else last) (calls_in (part i back))) (sym (firsts i s at))
      (stops_fall (ends_elsewhere t b m) (is_elsewhere m) m mids back outcome stops (stand_by t s (part i prefix)) y_at (Some (b - t)) (λ h. next_below b later stands firsts prefix asks mids mids_are m m_is (stand_by t s (part i prefix)) y_at h))))
  falls (NextMeet b stands log outcome m prefix back mids asks mids_are m_is apart asks2 there is whole_is) later firsts s at last below =
      let y_at = ap (λ (ss : List Stand). slice_get ss i) mids_are ∙ stand_here t stands prefix i s at in
      subst (SizesFall last) (sym (ap (λ (l : List Sent). calls_in (part i l)) whole_is ∙ split_calls i prefix back))
      (asks_fall everyone (comes_first first) b stands prefix asks s at last (λ h. below) (calls_in (part i back))
      (subst (λ (x : Bool). SizesFall (if x then Some (b - t) else last) (calls_in (part i back))) (sym (firsts i s at))
      (whole (Some (b - t)) (calls_in (part i back)) (asks_fall (ends_elsewhere t b m) (is_elsewhere m) m mids back asks2 (stand_by t s (part i prefix)) y_at (Some (b - t)) (λ h. next_below b later stands firsts prefix asks mids mids_are m m_is (stand_by t s (part i prefix)) y_at h) []
      (none_left (is_elsewhere m (stand_by t s (part i prefix)))))))) where
        none_left : (x : Bool) → SizesFall (if x then Some (m - t) else Some (b - t)) []
        none_left true = tt
        none_left false = tt
  falls (GoesAnew b stands log outcome m c prefix back rest mids lasts asks mids_are m_is apart asks2 lasts_are after c_is more whole_is) later firsts s at last below =
      let y_at = ap (λ (ss : List Stand). slice_get ss i) mids_are ∙ stand_here t stands prefix i s at in
      let z_at = ap (λ (ss : List Stand). slice_get ss i) lasts_are ∙ stand_here t mids back i (stand_by t s (part i prefix)) y_at in
      let first_mids = subst ComeFirst (sym mids_are) (firsts_stay stands prefix firsts) in
      let first_lasts = subst ComeFirst (sym lasts_are) (firsts_stay mids back first_mids) in
      subst (SizesFall last) (sym (ap (λ (l : List Sent). calls_in (part i l)) whole_is ∙ split_calls i prefix (back ++ rest)))
      (asks_fall everyone (comes_first first) b stands prefix asks s at last (λ h. below) (calls_in (part i (back ++ rest)))
      (subst (λ (x : Bool). SizesFall (if x then Some (b - t) else last) (calls_in (part i (back ++ rest)))) (sym (firsts i s at))
      (subst (SizesFall (Some (b - t))) (sym (split_calls i back rest))
      (asks_fall (ends_elsewhere t b m) (is_elsewhere m) m mids back asks2 (stand_by t s (part i prefix)) y_at (Some (b - t)) (λ h. next_below b later stands firsts prefix asks mids mids_are m m_is (stand_by t s (part i prefix)) y_at h) (calls_in (part i rest))
      (falls more (c_below b later stands firsts prefix asks mids mids_are m m_is back asks2 lasts lasts_are after c c_is).0 first_lasts (stand_by t (stand_by t s (part i prefix)) (part i back)) z_at (if is_elsewhere m (stand_by t s (part i prefix)) then Some (m - t) else Some (b - t))
      (anew_below b later stands firsts prefix asks mids mids_are m m_is back asks2 lasts lasts_are after c c_is (is_elsewhere m (stand_by t s (part i prefix)))))))))

-- where all come first
pub all_fall : (t step : ℕ) (first : Shape → Bool) (i b : ℕ) (stands : List Stand) (log : List Sent) (outcome : Outcome) → t < b → ((j : ℕ) (s : Stand) → slice_get stands j ≡ Some s → first s.shape ≡ true) → Agrees t step first b stands log outcome → (s : Stand) → slice_get stands i ≡ Some s → SizesFall None (calls_in (part i log))
all_fall t step first i b stands log outcome later firsts agrees s at = falls t step first i agrees later firsts s at None tt
