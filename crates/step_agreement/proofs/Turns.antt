-- In one call to some of a list: to whom each goes, and the turn of one of them.
use Rattle.std.proofs.Common.{◌≡◌, ℕ, suc, ◌+◌, ◌==◌, Bool, true, false, List, [], ◌∷◌, ◌++◌, Some, refl, sym, ap, ◌∙◌, arith}
use Rattle.std.specs.Prelude.{All, if◌then◌else◌}
use Rattle.std.specs.List.{slice_get}
use Rattle.std.proofs.lemmas.List.Elements.{All-cons, All-nil, All-weaker}
use Rattle.fmi_calls.specs.declared.call.Call.{Call}
use Rattle.slot_calls.specs.Log.{ComponentCall, Sent, component_call, component_calls, part}
use Rattle.slot_calls.specs.Stage.{to_those_from}
use Rattle.slot_calls.proofs.CallerLemmas.{first_same, other, rest_same, skips}

-- the call goes to one that passes the test
pub record IsTo {A : Type 0} (test : A → Bool) (call : A → Call) (i : ℕ) (xs : List A) (a : ComponentCall) : Type 0 where
  pub place : ℕ
  pub one : A
  pub at : a.component ≡ i + place
  pub is : slice_get xs place ≡ Some one
  pub asked : test one ≡ true
  pub call_is : a.call ≡ call one

-- before this call nothing was sent to the same
pub record IsTurn {A : Type 0} (test : A → Bool) (call : A → Call) (i : ℕ) (xs : List A) (prefix : List Sent) (last : Sent) : Type 0 where
  pub to : IsTo test call i xs (component_call last)
  pub none : part last.component prefix ≡ []

module _ {A : Type 0} (test : A → Bool) (call : A → Call) where
  to_later : (i : ℕ) (x : A) (xs : List A) (a : ComponentCall) → IsTo test call (i + 1) xs a → IsTo test call i (x ∷ xs) a
  to_later i x xs a h = record { place = suc h.place; one = h.one; at = (let e = h.at in omega (arith, e)); is = h.is; asked = h.asked; call_is = h.call_is }

  abbrev asking_at : ℕ → A → ComponentCall
  asking_at i x = record { component = i; call = call x }

  to_first : (i : ℕ) (x : A) (xs : List A) → test x ≡ true → IsTo test call i (x ∷ xs) (asking_at i x)
  to_first i x xs h = record { place = 0; one = x; at = omega arith; is = refl; asked = h; call_is = refl }

  -- each does
  pub those_to : (i : ℕ) (xs : List A) → All (IsTo test call i xs) (to_those_from i test call xs)
  those_to i [] = All-nil (IsTo test call i [])
  those_to i (x ∷ xs) = by (test x) refl (All-weaker (IsTo test call (i + 1) xs) (IsTo test call i (x ∷ xs)) (λ a h. to_later i x xs a h) (to_those_from (i + 1) test call xs) (those_to (i + 1) xs)) where
    by : (b : Bool) → test x ≡ b → All (IsTo test call i (x ∷ xs)) (to_those_from (i + 1) test call xs) →
        All (IsTo test call i (x ∷ xs)) (if b then asking_at i x ∷ to_those_from (i + 1) test call xs else to_those_from (i + 1) test call xs)
    by true h rest = All-cons (IsTo test call i (x ∷ xs)) (asking_at i x) (to_those_from (i + 1) test call xs) (to_first i x xs h) rest
    by false h rest = rest

  module _ (last : Sent) (back : List Sent) (left : List ComponentCall) where
    abbrev after : List Sent → List ComponentCall
    after prefix = component_calls (prefix ++ last ∷ back) ++ left

    turn_first : (i : ℕ) (x : A) (xs : List A) (b : Bool) (prefix : List Sent) → test x ≡ b →
        (if b then asking_at i x ∷ to_those_from (i + 1) test call xs else to_those_from (i + 1) test call xs) ≡ after prefix →
        ((more : List Sent) → to_those_from (i + 1) test call xs ≡ after more → IsTurn test call (i + 1) xs more last) → IsTurn test call i (x ∷ xs) prefix last
    turn_first i x xs false prefix own is rest = let more = rest prefix is in record { to = to_later i x xs (component_call last) more.to; none = more.none }
    turn_first i x xs true [] own is rest =
        let first = first_same (asking_at i x) (component_call last) (to_those_from (i + 1) test call xs) (component_calls back ++ left) is in
        let at : i ≡ last.component = ap (λ (a : ComponentCall). a.component) first in
        record { to = record { place = 0; one = x; at = omega (arith, at); is = refl; asked = own; call_is = sym (ap (λ (a : ComponentCall). a.call) first) }; none = refl }
    turn_first i x xs true (f ∷ prefix) own is rest =
        let first = first_same (asking_at i x) (component_call f) (to_those_from (i + 1) test call xs) (after prefix) is in
        let at : i ≡ f.component = ap (λ (a : ComponentCall). a.component) first in
        let more = rest prefix (rest_same (asking_at i x) (component_call f) (to_those_from (i + 1) test call xs) (after prefix) is) in
        let more_at = more.to.at in
        record {
          to = to_later i x xs (component_call last) more.to;
          none = skips (f.component == last.component) f.exchange (part last.component prefix) (other f.component last.component (λ e. absurd (omega (arith, at, e, more_at)))) ∙ more.none;
        }

    pub turn : (i : ℕ) (xs : List A) (prefix : List Sent) → to_those_from i test call xs ≡ after prefix → IsTurn test call i xs prefix last
    turn i [] [] is = absurd (cc)
    turn i [] (f ∷ prefix) is = absurd (cc)
    turn i (x ∷ xs) prefix is = turn_first i x xs (test x) prefix refl is (λ more e. turn (i + 1) xs more e)
