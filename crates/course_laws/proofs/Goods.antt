-- The first bad answer of a log, and of each instance's part of it.
use Rattle.std.proofs.Common.{◌≡◌, ℕ, suc, ◌+◌, ◌<◌, ◌≤◌, ◌==◌, Bool, true, false, List, [], ◌∷◌, ◌++◌, refl, sym, ap, ◌∙◌, subst, append_assoc, append-nil, arith, length, get_or}
use Rattle.std.specs.Prelude.{All, if◌then◌else◌}
use Rattle.std.proofs.lemmas.Bool.Decides.{nat_tests}
use Rattle.std.proofs.lemmas.List.Elements.{All-append, All-cons, All-head, All-nil, All-tail}
use Rattle.value_types.specs.declared.shape.Shape.{Shape}
use Rattle.fmi_calls.specs.declared.call.Call.{Call}
use Rattle.fmu_peer.specs.declared.peer.Exchange.{Exchange}
use Rattle.fmu_peer.specs.Answer.{IsFirstBad}
use Rattle.fmu_peer.specs.Talk as T
use Rattle.slot_calls.specs.declared.bad_answer.BadAnswer.{BadAnswer}
use Rattle.slot_calls.specs.Log.{ComponentCall, Sent, component_calls, part}
use Rattle.slot_calls.specs.Stage.{FailsIn, IsFirst, IsGoodOf, StopsAt, to_those_from}
use Rattle.slot_calls.proofs.CallerLemmas.{part_append, other, same, skips, takes}
use Rattle.event_iteration.specs.WalkCalls.{LastIsBad}
use Rattle.calling_sequence.specs.Parts.{EndsBadly}
use Rattle.course_laws.specs.Laws.{IsFirstBadOf}

-- ---- the parts of a log

pub good_part : (ss : List Shape) (log : List Sent) → All (IsGoodOf ss) log → (k : ℕ) (d : Shape) → T.AllGood (get_or ss k d) (part k log)
good_part ss [] all k d = All-nil (T.IsGood (get_or ss k d))
good_part ss (s ∷ log) all k d = by (good_part ss log (All-tail (IsGoodOf ss) s log all) k d) (s.component == k) refl where
  by : T.AllGood (get_or ss k d) (part k log) → (b : Bool) → (s.component == k) ≡ b → T.AllGood (get_or ss k d) (if b then s.exchange ∷ part k log else part k log)
  by rest true here =
      All-cons (T.IsGood (get_or ss k d)) s.exchange (part k log) (subst (λ (n : ℕ). T.IsGood (get_or ss n d) s.exchange) (let e : s.component ≡ k = grind (arith, nat_tests) in e) (All-head (IsGoodOf ss) s log all d)) rest
  by rest false there = rest

module _ (ss : List Shape) (bad : BadAnswer) (log : List Sent) (b : EndsBadly ss bad log) where
  -- the part of its component ends with it
  part_here : part b.last.component log ≡ part b.last.component b.prefix ++ b.last.exchange ∷ []
  part_here =
      let k = b.last.component in
      ap (part k) b.log_is ∙ part_append k b.prefix (b.last ∷ b.back)
      ∙ ap (λ (es : List Exchange). part k b.prefix ++ es)
      (takes (k == k) b.last.exchange (part k b.back) (same k k refl) ∙ ap (λ (es : List Exchange). b.last.exchange ∷ es) (b.alone k (omega arith)))

  -- those of the components before it come before it
  part_before : (j : ℕ) → j < b.last.component → part j log ≡ part j b.prefix
  part_before j before =
      ap (part j) b.log_is ∙ part_append j b.prefix (b.last ∷ b.back)
      ∙ ap (λ (es : List Exchange). part j b.prefix ++ es)
      (skips (b.last.component == j) b.last.exchange (part j b.back) (other b.last.component j (λ e. absurd (omega (arith, e, before)))) ∙ b.alone j (omega (arith, before)))
      ∙ append-nil (part j b.prefix)

  pub first_of_parts : IsFirstBadOf ss bad log
  first_of_parts =
      let at = b.first.component in
      record {
        within = subst (λ (n : ℕ). n < length ss) at b.within;
        first = λ d. subst (λ (n : ℕ). IsFirstBad (get_or ss n d) bad.why (part n log)) at (record {
          prefix = part b.last.component b.prefix;
          last = b.last.exchange;
          is = part_here;
          good = good_part ss b.prefix b.first.good b.last.component d;
          bad = b.first.why d;
        });
        before = λ j d w. subst (T.AllGood (get_or ss j d)) (sym (part_before j (omega (arith, at, w)))) (good_part ss b.prefix b.first.good j d);
      }

-- ---- calls in the order of the components

-- each is to one of those from the i-th on, and after those before it
abbrev pub AreInOrder : ℕ → List ComponentCall → Type 0
AreInOrder i [] = Unit {0}
AreInOrder i (a ∷ calls) = (i ≤ a.component) × AreInOrder (suc a.component) calls

none_before : (i j : ℕ) (log : List Sent) → AreInOrder i (component_calls log) → j < i → part j log ≡ []
none_before i j [] order w = refl
none_before i j (s ∷ log) (at, order) w =
    skips (s.component == j) s.exchange (part j log) (other s.component j (λ e. absurd (omega (arith, e, at, w)))) ∙ none_before (suc s.component) j log order (omega (arith, at, w))

pub alone_after : (i : ℕ) (prefix : List Sent) (last : Sent) (back : List Sent) → AreInOrder i (component_calls (prefix ++ last ∷ back)) → (j : ℕ) → j ≤ last.component → part j back ≡ []
alone_after i [] last back (at, order) j w = none_before (suc last.component) j back order (omega (arith, w))
alone_after i (f ∷ prefix) last back (at, order) j w = alone_after (suc f.component) prefix last back order j w

pub in_order_from : {A : Type 0} (test : A → Bool) (call : A → Call) (i j : ℕ) (ss : List A) → i ≤ j → AreInOrder i (to_those_from j test call ss)
in_order_from test call i j [] w = tt
in_order_from test call i j (s ∷ ss) w = by (test s) (in_order_from test call (suc j) (j + 1) ss (omega arith)) (in_order_from test call i (j + 1) ss (omega (arith, w))) where
  by : (b : Bool) → AreInOrder (suc j) (to_those_from (j + 1) test call ss) → AreInOrder i (to_those_from (j + 1) test call ss) →
      AreInOrder i (if b then record { component = j; call = call s } ∷ to_those_from (j + 1) test call ss else to_those_from (j + 1) test call ss)
  by true one none = (w, one)
  by false one none = none

-- ---- a part of a run

-- the call is to one of so many
abbrev pub IsToOne : ℕ → ComponentCall → Type 0
IsToOne n a = a.component < n

pub to_ones : {A : Type 0} (test : A → Bool) (call : A → Call) (n k : ℕ) (xs : List A) → k + length xs ≤ n → All (IsToOne n) (to_those_from k test call xs)
to_ones test call n k [] w = All-nil (IsToOne n)
to_ones test call n k (x ∷ xs) w = by (test x) (to_ones test call n (k + 1) xs (omega (arith, w))) where
  by : (b : Bool) → All (IsToOne n) (to_those_from (k + 1) test call xs) → All (IsToOne n) (if b then record { component = k; call = call x } ∷ to_those_from (k + 1) test call xs else to_those_from (k + 1) test call xs)
  by true rest = All-cons (IsToOne n) (record { component = k; call = call x }) (to_those_from (k + 1) test call xs) (omega (arith, w)) rest
  by false rest = rest

-- so is one in their midst
pub amid : (n : ℕ) (prefix : List Sent) (last : Sent) (back : List Sent) (left : List ComponentCall) → All (IsToOne n) (component_calls (prefix ++ last ∷ back) ++ left) → last.component < n
amid n [] last back left all = All-head (IsToOne n) _ _ all
amid n (f ∷ prefix) last back left all = amid n prefix last back left (All-tail (IsToOne n) _ _ all)

module _ (ss : List Shape) (bad : BadAnswer) (before log : List Sent) (good : All (IsGoodOf ss) before) where
  -- after good answers
  after : (prefix : List Sent) (last : Sent) (back : List Sent) → log ≡ prefix ++ last ∷ back → IsFirst ss bad prefix last → last.component < length ss → ((j : ℕ) → j ≤ last.component → part j back ≡ []) → EndsBadly ss bad (before ++ log)
  after prefix last back is first within alone = record {
    prefix = before ++ prefix;
    last = last;
    back = back;
    log_is = ap (λ (l : List Sent). before ++ l) is ∙ sym (append_assoc before prefix (last ∷ back));
    first = record { good = All-append (IsGoodOf ss) before prefix good first.good; component = first.component; why = first.why };
    within = within;
    alone = alone;
  }

  pub stops_badly : (calls : List ComponentCall) → All (IsToOne (length ss)) calls → StopsAt ss calls bad log → EndsBadly ss bad (before ++ log)
  stops_badly calls to s = after s.prefix s.last [] s.log_is s.first
      (amid (length ss) s.prefix s.last [] s.left (subst (λ (l : List Sent). All (IsToOne (length ss)) (component_calls l ++ s.left)) s.log_is (subst (All (IsToOne (length ss))) s.calls_are to))) (λ j w. refl)

  pub fails_badly : (calls : List ComponentCall) → All (IsToOne (length ss)) calls → AreInOrder 0 calls → FailsIn ss calls bad log → EndsBadly ss bad (before ++ log)
  fails_badly calls to order f =
      let is : calls ≡ component_calls (f.prefix ++ f.last ∷ f.back) = sym f.calls_are ∙ ap component_calls f.log_is in
      after f.prefix f.last f.back f.log_is f.first
      (amid (length ss) f.prefix f.last f.back [] (subst (All (IsToOne (length ss))) (is ∙ sym (append-nil (component_calls (f.prefix ++ f.last ∷ f.back)))) to))
      (alone_after 0 f.prefix f.last f.back (subst (AreInOrder 0) is order))

  pub more_badly : EndsBadly ss bad log → EndsBadly ss bad (before ++ log)
  more_badly b = after b.prefix b.last b.back b.log_is b.first b.within b.alone

  pub walks_badly : LastIsBad ss bad log → EndsBadly ss bad (before ++ log)
  walks_badly l = after l.prefix l.last [] l.log_is l.first l.within (λ j w. refl)
