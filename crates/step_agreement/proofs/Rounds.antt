-- What each FMU has of a round of one call to some.
use Rattle.std.proofs.Common.{◌≡◌, ◌≢◌, ℕ, zero, suc, ◌+◌, ◌<◌, ◌==◌, Bool, true, false, List, [], ◌∷◌, Some, refl, sym, ap, ◌∙◌, subst, arith, get_or}
use Rattle.std.specs.Prelude.{All, if◌then◌else◌}
use Rattle.std.specs.List.{slice_get}
use Rattle.std.proofs.lemmas.List.Elements.{All-head, All-tail}
use Rattle.std.proofs.lemmas.Option.{none-some as none_some, same_Some}
use Rattle.value_types.specs.declared.shape.Shape.{Shape}
use Rattle.fmi_calls.specs.declared.call.Call.{Call}
use Rattle.fmu_peer.specs.declared.peer.Exchange.{Exchange}
use Rattle.fmu_peer.specs.Talk.{IsGood}
use Rattle.slot_calls.specs.Log.{Sent, ComponentCall, part, component_calls, component_call}
use Rattle.slot_calls.specs.Stage.{IsAnswered, IsGoodOf}
use Rattle.slot_calls.proofs.CallerLemmas.{first_same, rest_same, skips, takes, other, same}
use Rattle.step_agreement.specs.Agreement.{to_some, to_some_from}

-- the rest of a log after a call, if it was sent
record Rest (a : ComponentCall) (cs : List ComponentCall) (log : List Sent) : Type 0 where
  rest : List Sent
  rest_is : component_calls rest ≡ cs
  others : (j : ℕ) → j ≢ a.component → part j log ≡ part j rest
  good : (ss : List Shape) → All (IsGoodOf ss) log → All (IsGoodOf ss) rest

rest_if : (b : Bool) (a : ComponentCall) (cs : List ComponentCall) (log : List Sent) → component_calls log ≡ (if b then a ∷ cs else cs) → Rest a cs log
rest_if true a cs [] is = absurd (cc)
rest_if true a cs (s ∷ log) is =
    let at : s.component ≡ a.component = ap (λ (x : ComponentCall). x.component) (first_same (component_call s) a (component_calls log) cs is) in
    record {
      rest = log;
      rest_is = rest_same (component_call s) a (component_calls log) cs is;
      others = λ j ne. skips (s.component == j) s.exchange (part j log) (other s.component j (λ e. ne (sym e ∙ at)));
      good = λ ss all. All-tail (IsGoodOf ss) s log all;
    }
rest_if false a cs log is = record { rest = log; rest_is = is; others = λ j ne. refl; good = λ ss all. all }

part_nil : (j : ℕ) (log : List Sent) → component_calls log ≡ [] → part j log ≡ []
part_nil j [] is = refl
part_nil j (s ∷ log) is = absurd (cc)

-- one good exchange of this call
pub record OneOf (ss : List Shape) (n : ℕ) (call : Call) (es : List Exchange) : Type 0 where
  pub exchange : Exchange
  pub is : es ≡ exchange ∷ []
  pub call_is : exchange.call ≡ call
  pub good : (d : Shape) → IsGood (get_or ss n d) exchange

-- one, or none
abbrev pub OneIf : List Shape → ℕ → Call → Bool → List Exchange → Type 0
OneIf ss n call true es = OneOf ss n call es
OneIf ss n call false es = es ≡ []

part_first : (ss : List Shape) (a : ComponentCall) (cs : List ComponentCall) (log : List Sent) → component_calls log ≡ a ∷ cs → All (IsGoodOf ss) log → ((rest : List Sent) → component_calls rest ≡ cs → part a.component rest ≡ []) →
    OneOf ss a.component a.call (part a.component log)
part_first ss a cs [] is good none = absurd (cc)
part_first ss a cs (s ∷ log) is good none =
    let first = first_same (component_call s) a (component_calls log) cs is in
    let at : s.component ≡ a.component = ap (λ (x : ComponentCall). x.component) first in
    record {
      exchange = s.exchange;
      is = takes (s.component == a.component) s.exchange (part a.component log) (same s.component a.component at)
          ∙ ap (λ (es : List Exchange). s.exchange ∷ es) (none log (rest_same (component_call s) a (component_calls log) cs is));
      call_is = ap (λ (x : ComponentCall). x.call) first;
      good = λ e. subst (λ (n : ℕ). IsGood (get_or ss n e) s.exchange) at (All-head (IsGoodOf ss) s log good e);
    }

module _ {A : Type 0} (test : A → Bool) (call : Call) where
  abbrev asking_at : ℕ → ComponentCall
  asking_at k = record { component = k; call = call }

  abbrev after : ℕ → List A → List ComponentCall
  after k xs = to_some_from (k + 1) test call xs

  rest_after : (k : ℕ) (x : A) (xs : List A) (log : List Sent) → component_calls log ≡ to_some_from k test call (x ∷ xs) → Rest (asking_at k) (after k xs) log
  rest_after k x xs log is = rest_if (test x) (asking_at k) (after k xs) log is

  none_before : (k j : ℕ) (xs : List A) (log : List Sent) → component_calls log ≡ to_some_from k test call xs → j < k → part j log ≡ []
  none_before k j [] log is h = part_nil j log is
  none_before k j (x ∷ xs) log is h =
      let r = rest_after k x xs log is in
      r.others j (λ e. absurd (omega (arith, e, h))) ∙ none_before (k + 1) j xs r.rest r.rest_is (omega (arith, h))

  here : (ss : List Shape) (k : ℕ) (xs : List A) (log : List Sent) → All (IsGoodOf ss) log → (b : Bool) → component_calls log ≡ (if b then asking_at k ∷ after k xs else after k xs) → OneIf ss k call b (part k log)
  here ss k xs log good true is = part_first ss (asking_at k) (after k xs) log is good (λ rest rest_is. none_before (k + 1) k xs rest rest_is (omega arith))
  here ss k xs log good false is = none_before (k + 1) k xs log is (omega arith)

  -- of the i-th, from the k-th on
  some_part : (ss : List Shape) (k : ℕ) (xs : List A) (log : List Sent) → component_calls log ≡ to_some_from k test call xs → All (IsGoodOf ss) log →
      (i : ℕ) (x : A) → slice_get xs i ≡ Some x → OneIf ss (k + i) call (test x) (part (k + i) log)
  some_part ss k [] log is good i x at = absurd (none_some x at)
  some_part ss k (y ∷ xs) log is good zero x at =
      let place : k ≡ k + 0 = omega arith in
      subst (λ (n : ℕ). OneIf ss n call (test x) (part n log)) place
      (subst (λ (z : A). OneIf ss k call (test z) (part k log)) (same_Some y x at) (here ss k xs log good (test y) is))
  some_part ss k (y ∷ xs) log is good (suc i) x at =
      let r = rest_after k y xs log is in
      let place : k + 1 + i ≡ k + suc i = omega arith in
      let more = some_part ss (k + 1) xs r.rest r.rest_is (r.good ss good) i x at in
      subst (λ (es : List Exchange). OneIf ss (k + suc i) call (test x) es) (sym (r.others (k + suc i) (λ e. absurd (omega (arith, e)))))
      (subst (λ (n : ℕ). OneIf ss n call (test x) (part n r.rest)) place more)

  -- what the i-th has of a round where all answers are good
  pub part_of : (ss : List Shape) (xs : List A) (log : List Sent) → IsAnswered ss (to_some test call xs) log → (i : ℕ) (x : A) → slice_get xs i ≡ Some x → OneIf ss i call (test x) (part i log)
  part_of ss xs log answered i x at =
      subst (λ (n : ℕ). OneIf ss n call (test x) (part n log)) (omega arith) (some_part ss 0 xs log answered.calls_are answered.good i x at)
