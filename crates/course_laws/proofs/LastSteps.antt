-- The last steps of an agreement, by the talks of its FMUs: where they meet all end at one point, and where it stops they don't.
use Rattle.std.proofs.Common.{◌≡◌, ◌≢◌, inl, inr, ℕ, zero, suc, ◌+◌, ◌-◌, ◌<◌, ◌==◌, Bool, true, false, not, List, [], ◌∷◌, ◌++◌, Option, Some, None, Result, Ok, Err, refl, sym, ap, ap₂, ◌∙◌, subst, arith, append-nil}
use Rattle.std.specs.Prelude.{All, MatchResult, if◌then◌else◌}
use Rattle.std.specs.List.{slice_get}
use Rattle.std.proofs.lemmas.Bool.Decides.{nat_tests}
use Rattle.std.proofs.lemmas.List.Elements.{All-head, All-tail}
use Rattle.std.proofs.lemmas.Option.{none-some as none_some, same_Some}
use Rattle.value_types.specs.declared.shape.Shape.{Shape}
use Rattle.fmi_calls.specs.declared.call.Call.{Call}
use Rattle.fmi_calls.specs.declared.call.Call.TheVariants as C
use Rattle.fmi_calls.specs.declared.call.Content.TheVariants as A
use Rattle.fmi_calls.specs.declared.call.Grade.TheVariants as G
use Rattle.fmi_calls.specs.declared.call.Kind.{Kind}
use Rattle.fmi_calls.specs.declared.call.Kind.TheVariants as K
use Rattle.fmi_calls.specs.declared.call.BadStatus.{BadStatus}
use Rattle.fmi_calls.specs.declared.call.Reply.{Reply}
use Rattle.fmi_calls.specs.declared.call.Reply.TheVariants as R
use Rattle.fmi_calls.specs.Next.{end_of}
use Rattle.fmi_calls.specs.Worth.{grade_of}
use Rattle.fmu_peer.specs.declared.peer.Exchange.{Exchange}
use Rattle.fmu_peer.specs.declared.peer.PeerFault.{PeerFault}
use Rattle.fmu_peer.specs.Lean.{SizesFall}
use Rattle.fmu_peer.specs.Talk.{IsGood}
use Rattle.system_model.specs.EarlyReturn.{early_count}
use Rattle.run_model.specs.Stepping.{asked_first}
use Rattle.slot_calls.specs.Log.{ComponentCall, Sent, component_calls, part}
use Rattle.slot_calls.specs.SavedStates.{EndsAt, has_stepped, last_step, saved_after, saved_by, step_or, steps}
use Rattle.slot_calls.specs.Stage.{everyone, to_those, to_those_from}
use Rattle.slot_calls.specs.declared.bad_answer.BadAnswer.{BadAnswer}
use Rattle.step_agreement.specs.Agreement.{everyone as everyone_stands, Agrees, Asks, Fails, FirstMeet, FirstStops, GoesAnew, InBack, InStep, IsUnfit, NextMeet, NextStops, Stand, comes_first, end_by, Outcome, is_away, moved, stand_by, stands_by, stands_from, to_some, to_some_from}
use Rattle.fmu_peer.specs.Talk.{calls_in}
use Rattle.step_agreement.proofs.CallerLemmas.{EndsSo, IsOfRound, ends_so, first_all, only_saved_go_back, same_number, sizes_fall_along}
use Rattle.rollback.specs.StepsBy.{all_at}
use Rattle.calling_sequence.proofs.Sizes.{shapes_all}

-- ---- one FMU

refused_step : (shape : Shape) (at size : ℕ) (kind : Kind) (status : BadStatus) → grade_of shape (C.DoStep at size) (R.Refused kind status) ≡ G.Good → ⊥
refused_step shape at size K.DoStep status h = absurd (cc)
refused_step shape at size kind status h = absurd (cc)

reply_ends : (shape : Shape) (at size : ℕ) (reply : Reply) → grade_of shape (C.DoStep at size) reply ≡ G.Good → EndsAt (end_of reply at) (Ok reply)
reply_ends shape at size (R.Done w (A.DoStep event_needed terminate flag end)) good = refl
reply_ends shape at size (R.Done w content) good = absurd (cc)
reply_ends shape at size (R.Refused kind status) good = absurd (refused_step shape at size kind status good)

-- a good step tells where it ended
ends_own : (shape : Shape) (at size : ℕ) (e : Exchange) → IsGood shape e → e.call ≡ C.DoStep at size → EndsAt (end_by at e.result) e.result
ends_own shape at size e good is = by e.result (subst (λ (c : Call). MatchResult e.result (λ reply. grade_of shape c reply ≡ G.Good) (λ fault. ⊥)) is good) where
  by : (r : Result Reply PeerFault) → MatchResult r (λ reply. grade_of shape (C.DoStep at size) reply ≡ G.Good) (λ fault. ⊥) → EndsAt (end_by at r) r
  by (Ok reply) h = reply_ends shape at size reply h
  by (Err fault) h = absurd h

pub ends_same : (a b : ℕ) (r : Result Reply PeerFault) → EndsAt a r → EndsAt b r → a ≡ b
ends_same a b (Ok (R.Done w (A.DoStep event_needed terminate early end))) h k = sym h ∙ k
ends_same a b (Ok (R.Done w content)) h k = absurd h
ends_same a b (Ok (R.Refused kind status)) h k = absurd h
ends_same a b (Err fault) h k = absurd h

module _ (t : ℕ) (shape : Shape) where
  -- the last step ended there, and comes after the last Save
  pub record IsLast (point : ℕ) (o : Option Exchange) (has : Bool) : Type 0 where
    pub exchange : Exchange
    pub is : o ≡ Some exchange
    pub good : IsGood shape exchange
    pub end : EndsAt point exchange.result
    pub stepped : has ≡ true

  -- so it is where the FMU stands elsewhere than at t
  abbrev pub Tracks : Stand → Option Exchange → Bool → Type 0
  Tracks s o stepped = s.point ≢ t → IsLast s.point o stepped

  abbrev pub IsGoodRound : Exchange → Type 0
  IsGoodRound e = IsGood shape e × IsOfRound t e.call

  one_on : (e : Exchange) → IsGood shape e → (s : Stand) (o : Option Exchange) (b : Bool) → IsOfRound t e.call → Tracks (moved t s e.call e.result) (step_or e e.call o) (steps e.call b)
  one_on e good s o b (inl is) = subst (λ (c : Call). Tracks (moved t s c e.result) (step_or e c o) (steps c b)) (sym is) (λ away. absurd (away refl))
  one_on e good s o b (inr (size, is)) =
      subst (λ (c : Call). Tracks (moved t s c e.result) (step_or e c o) (steps c b)) (sym is) (λ away. record { exchange = e; is = refl; good = good; end = ends_own shape t size e good is; stepped = refl })

  pub tracks : (es : List Exchange) → All IsGoodRound es → (s : Stand) (o : Option Exchange) (b : Bool) → Tracks s o b → Tracks (stand_by t s es) (last_step o es) (has_stepped b es)
  tracks [] all s o b h = h
  tracks (e ∷ es) all s o b h =
      let own = All-head IsGoodRound e es all in
      tracks es (All-tail IsGoodRound e es all) (moved t s e.call e.result) (step_or e e.call o) (steps e.call b) (one_on e own.0 s o b own.1)

  -- a round saves and frees nothing
  round_saved : (c : Call) → IsOfRound t c → (r : Result Reply PeerFault) (saved : Bool) → saved_by shape c r saved ≡ saved
  round_saved c (inl is) r saved = ap (λ (x : Call). saved_by shape x r saved) is
  round_saved c (inr (size, is)) r saved = ap (λ (x : Call). saved_by shape x r saved) is

  pub rounds_saved : (es : List Exchange) → All (λ (e : Exchange). IsOfRound t e.call) es → (saved : Bool) → saved_after shape saved es ≡ saved
  rounds_saved [] all saved = refl
  rounds_saved (e ∷ es) all saved =
      ap (λ (b : Bool). saved_after shape b es) (round_saved e.call (All-head (λ (x : Exchange). IsOfRound t x.call) e es all) e.result saved) ∙ rounds_saved es (All-tail (λ (x : Exchange). IsOfRound t x.call) e es all) saved

-- ---- several

stand_in : (t : ℕ) (log : List Sent) (s : Stand) (i : ℕ) (ss : List Stand) (j : ℕ) → slice_get ss j ≡ Some s → slice_get (stands_from t i ss log) j ≡ Some (stand_by t s (part (i + j) log))
stand_in t log s i [] j is = absurd (none_some s is)
stand_in t log s i (x ∷ ss) zero is = let place : i ≡ i + 0 = omega arith in ap Some (ap₂ (λ (y : Stand) (n : ℕ). stand_by t y (part n log)) (same_Some x s is) place)
stand_in t log s i (x ∷ ss) (suc j) is = let place : suc i + j ≡ i + suc j = omega arith in stand_in t log s (suc i) ss j is ∙ ap (λ (n : ℕ). Some (stand_by t s (part n log))) place

-- one after a log
pub stand_after : (t : ℕ) (stands : List Stand) (log : List Sent) (k : ℕ) (s : Stand) → slice_get stands k ≡ Some s → slice_get (stands_by t stands log) k ≡ Some (stand_by t s (part k log))
stand_after t stands log k s is = let place : 0 + k ≡ k = omega arith in stand_in t log s 0 stands k is ∙ ap (λ (n : ℕ). Some (stand_by t s (part n log))) place

each_from : (P : Stand → Type 0) (t : ℕ) (log : List Sent) (i : ℕ) (ss : List Stand) → ((k : ℕ) (s : Stand) → slice_get ss k ≡ Some s → P (stand_by t s (part (i + k) log))) → (j : ℕ) (y : Stand) → slice_get (stands_from t i ss log) j ≡ Some y → P y
each_from P t log i [] h j y is = absurd (none_some y is)
each_from P t log i (s ∷ ss) h zero y is = let place : i + 0 ≡ i = omega arith in subst P (ap (λ (n : ℕ). stand_by t s (part n log)) place ∙ same_Some (stand_by t s (part i log)) y is) (h 0 s refl)
each_from P t log i (s ∷ ss) h (suc j) y is =
    each_from P t log (suc i) ss (λ k x at. let place : i + suc k ≡ suc i + k = omega arith in subst (λ (n : ℕ). P (stand_by t x (part n log))) place (h (suc k) x at)) j y is

-- what holds of each after a log
pub each_after : (P : Stand → Type 0) (t : ℕ) (stands : List Stand) (log : List Sent) → ((k : ℕ) (s : Stand) → slice_get stands k ≡ Some s → P (stand_by t s (part k log))) → (j : ℕ) (y : Stand) → slice_get (stands_by t stands log) j ≡ Some y → P y
each_after P t stands log h j y is = each_from P t log 0 stands (λ k s at. let place : k ≡ 0 + k = omega arith in subst (λ (n : ℕ). P (stand_by t s (part n log))) place (h k s at)) j y is

pub all_home : (t : ℕ) (ss : List Shape) (j : ℕ) (y : Stand) → slice_get (all_at t ss) j ≡ Some y → y.point ≡ t
all_home t [] j y is = absurd (none_some y is)
all_home t (s ∷ ss) zero y is = ap (λ (x : Stand). x.point) (sym (same_Some (record { shape = s; point = t; ask = t }) y is))
all_home t (s ∷ ss) (suc j) y is = all_home t ss j y is

-- a call to each of those that stand is one to each component
pub to_each_stand : (t k : ℕ) (call : Call) (ss : List Shape) → to_some_from k (comes_first (λ (shape : Shape). true)) call (all_at t ss) ≡ to_those_from k everyone (λ (shape : Shape). call) ss
to_each_stand t k call [] = refl
to_each_stand t k call (s ∷ ss) = ap (λ (cs : List ComponentCall). record { component = k; call = call } ∷ cs) (to_each_stand t (k + 1) call ss)

-- how an agreement ends, from where all stand at t
pub ends_from : (t step : ℕ) (ss : List Shape) (b : ℕ) → t < b → (log : List Sent) (outcome : Outcome) → Agrees t step (asked_first (early_count ss)) b (all_at t ss) log outcome → EndsSo t step ss (all_at t ss) log outcome
ends_from t step ss b later log outcome agrees =
    subst (λ (zs : List Shape). EndsSo t step zs (all_at t ss) log outcome) (shapes_all t ss)
    (ends_so t step b (all_at t ss) log outcome later (all_home t ss) (subst (λ (zs : List Shape). Agrees t step (asked_first (early_count zs)) b (all_at t ss) log outcome) (sym (shapes_all t ss)) agrees))

-- and the sizes of one's steps in it
pub falls_from : (t step : ℕ) (ss : List Shape) (b : ℕ) → t < b → (log : List Sent) (outcome : Outcome) → Agrees t step (asked_first (early_count ss)) b (all_at t ss) log outcome → (i : ℕ) (s : Stand) → slice_get (all_at t ss) i ≡ Some s → SizesFall None (calls_in (part i log))
falls_from t step ss b later log outcome agrees i s at =
    sizes_fall_along t step b (all_at t ss) log outcome later (all_home t ss) (subst (λ (zs : List Shape). Agrees t step (asked_first (early_count zs)) b (all_at t ss) log outcome) (sym (shapes_all t ss)) agrees) i s at

-- an FMU is put back in it where two or more might return early
pub back_from : (t step : ℕ) (ss : List Shape) (b : ℕ) → t < b → (log : List Sent) (outcome : Outcome) → Agrees t step (asked_first (early_count ss)) b (all_at t ss) log outcome → All (λ (s : Sent). s.exchange.call ≡ C.Restore → 1 < early_count ss) log
back_from t step ss b later log outcome agrees =
    subst (λ (zs : List Shape). All (λ (s : Sent). s.exchange.call ≡ C.Restore → 1 < early_count zs) log) (shapes_all t ss)
    (only_saved_go_back t step b (all_at t ss) log outcome later (all_home t ss) (subst (λ (zs : List Shape). Agrees t step (asked_first (early_count zs)) b (all_at t ss) log outcome) (sym (shapes_all t ss)) agrees))

-- where more than one might return early, or none, all come first
pub all_first_by : (t step : ℕ) (ss : List Shape) (b : ℕ) (stands : List Stand) (log : List Sent) (outcome : Outcome) → early_count ss ≢ 1 → Agrees t step (asked_first (early_count ss)) b stands log outcome → Agrees t step (λ (shape : Shape). true) b stands log outcome
all_first_by t step ss b stands log outcome several agrees = by (early_count ss == 1) refl where
  equal : (x y : ℕ) → (x == y) ≡ true → x ≡ y
  equal x y q = grind (arith, nat_tests)

  by : (x : Bool) → (early_count ss == 1) ≡ x → Agrees t step (λ (shape : Shape). true) b stands log outcome
  by true one = absurd (several (equal (early_count ss) 1 one))
  by false h = subst (λ (first : Shape → Bool). Agrees t step first b stands log outcome) (first_all (early_count ss) h) agrees

-- ---- the first asking

-- a log begins with a step of each, from where all stand at t
pub record BeginsAll (t : ℕ) (ss : List Shape) (log : List Sent) : Type 0 where
  pub size : ℕ
  pub backs : List Sent
  pub steps : List Sent
  pub rest : List Sent
  pub log_is : log ≡ (backs ++ steps) ++ rest
  pub asked : component_calls steps ≡ to_those everyone (λ (shape : Shape). C.DoStep t size) ss

module _ (t step : ℕ) (ss : List Shape) where
  abbrev home : List Stand
  home = all_at t ss

  by_asks : (sized : Stand → Bool) (e : ℕ) (prefix : List Sent) → Asks t step sized (comes_first (λ (shape : Shape). true)) e (all_at t ss) prefix → (rest log : List Sent) → log ≡ prefix ++ rest → BeginsAll t ss log
  by_asks sized e prefix asks rest log is = record {
    size = e - t;
    backs = asks.backs;
    steps = asks.steps;
    rest = rest;
    log_is = is ∙ ap (λ (l : List Sent). l ++ rest) asks.log_is;
    asked = asks.stepped.calls_are ∙ to_each_stand t 0 (C.DoStep t (e - t)) ss;
  }

  away_none : (k : ℕ) (xs : List Shape) → to_some_from k (is_away t (comes_first (λ (shape : Shape). true))) C.Restore (all_at t xs) ≡ []
  away_none k [] = refl
  away_none k (s ∷ xs) =
      ap (λ (b : Bool). if not b then record { component = k; call = C.Restore } ∷ to_some_from (k + 1) (is_away t (comes_first (λ (shape : Shape). true))) C.Restore (all_at t xs) else to_some_from (k + 1) (is_away t (comes_first (λ (shape : Shape). true))) C.Restore (all_at t xs)) (same_number t t refl)
      ∙ away_none (k + 1) xs

  never : (prefix : List Sent) (last : Sent) (back : List Sent) → [] ≡ component_calls (prefix ++ last ∷ back) → ⊥
  never [] last back e = absurd (cc)
  never (s ∷ prefix) last back e = absurd (cc)

  -- one with a bad answer does
  pub begins_all : (b : ℕ) (log : List Sent) (bad : BadAnswer) (stands : List Stand) → stands ≡ all_at t ss → Agrees t step (λ (shape : Shape). true) b stands log (Fails bad) → BeginsAll t ss log
  begins_all _ _ bad _ at (FirstStops b stands log _ (IsUnfit i unfit none is)) = absurd (cc)
  begins_all _ _ bad _ at (FirstStops b stands log _ (InBack other fits fails is)) =
      absurd (never fails.prefix fails.last fails.back (sym (away_none 0 ss) ∙ ap (λ (xs : List Stand). to_some (is_away t (comes_first (λ (shape : Shape). true))) C.Restore xs) (sym at) ∙ sym fails.calls_are ∙ ap component_calls fails.log_is))
  begins_all _ _ bad _ at (FirstStops b stands log _ (InStep other backs steps fits back fails log_is is)) = record {
    size = b - t;
    backs = backs;
    steps = steps;
    rest = [];
    log_is = log_is ∙ sym (append-nil (backs ++ steps));
    asked = fails.calls_are ∙ ap (λ (xs : List Stand). to_some (comes_first (λ (shape : Shape). true)) (C.DoStep t (b - t)) xs) at ∙ to_each_stand t 0 (C.DoStep t (b - t)) ss;
  }
  begins_all _ _ bad _ at (FirstMeet b stands log _ m asks m_is there is) = absurd (cc)
  begins_all _ _ bad _ at (NextStops b stands log _ m prefix back mids asks mids_is m_is apart stops log_is) = by_asks everyone_stands b prefix (subst (λ (xs : List Stand). Asks t step everyone_stands (comes_first (λ (shape : Shape). true)) b xs prefix) at asks) back log log_is
  begins_all _ _ bad _ at (NextMeet b stands log _ m prefix back mids asks mids_is m_is apart next there is log_is) = absurd (cc)
  begins_all _ _ bad _ at (GoesAnew b stands log _ m c prefix back rest mids ends asks mids_is m_is apart next ends_is after c_is more log_is) =
      by_asks everyone_stands b prefix (subst (λ (xs : List Stand). Asks t step everyone_stands (comes_first (λ (shape : Shape). true)) b xs prefix) at asks) (back ++ rest) log log_is

pub none_both : {X : Type 0} (a b : List X) → a ++ b ≡ [] → (a ≡ []) × (b ≡ [])
none_both [] b e = (refl, e)
none_both (x ∷ a) b e = absurd (cc)
