-- What each instance has of a log of one call to each, or to those whose shape passes a test.
use Rattle.std.proofs.Common.{◌≡◌, ◌≢◌, ℕ, zero, suc, ◌+◌, ◌<◌, ◌≤◌, ◌==◌, Bool, true, false, List, [], ◌∷◌, refl, sym, ap, ◌∙◌, subst, arith, length, get_or, map}
use Rattle.std.specs.Prelude.{All, if◌then◌else◌}
use Rattle.std.proofs.lemmas.List.{length-map, get_or_default}
use Rattle.std.proofs.lemmas.List.Elements.{All-head, All-tail, All-nil, All-cons}
use Rattle.value_types.specs.declared.shape.Shape.{Shape}
use Rattle.fmi_calls.specs.declared.call.Call.{Call}
use Rattle.fmu_peer.specs.declared.peer.Exchange.{Exchange}
use Rattle.fmu_peer.specs.CloseAll.{Instance}
use Rattle.fmu_peer.specs.Talk.{IsGood}
use Rattle.fmu_peer.specs.View.{View}
use Rattle.slot_calls.specs.Log.{Sent, ComponentCall, Has, Told, part, component_calls, component_call}
use Rattle.slot_calls.specs.Stage.{IsAnswered, IsGoodOf, everyone, shapes, to_each, to_those, to_those_from}
use Rattle.slot_calls.proofs.Answered.{map_at, shape_of}
use Rattle.slot_calls.proofs.Leading.{Led, led}

-- ---- lists

abbrev first_or : {A : Type 0} → A → List A → A
first_or d [] = d
first_or d (x ∷ xs) = x

abbrev rest_of : {A : Type 0} → List A → List A
rest_of [] = []
rest_of (x ∷ xs) = xs

pub first_same : {A : Type 0} (x y : A) (xs ys : List A) → x ∷ xs ≡ y ∷ ys → x ≡ y
first_same x y xs ys e = ap (first_or x) e

pub rest_same : {A : Type 0} (x y : A) (xs ys : List A) → x ∷ xs ≡ y ∷ ys → xs ≡ ys
rest_same x y xs ys e = ap rest_of e

pub skips : (b : Bool) (e : Exchange) (es : List Exchange) → b ≡ false → (if b then e ∷ es else es) ≡ es
skips true e es h = absurd (cc)
skips false e es h = refl

pub takes : (b : Bool) (e : Exchange) (es : List Exchange) → b ≡ true → (if b then e ∷ es else es) ≡ e ∷ es
takes true e es h = refl
takes false e es h = absurd (cc)

pub other : (i k : ℕ) → i ≢ k → (i == k) ≡ false
other i k h = grind (arith)

pub same : (i k : ℕ) → i ≡ k → (i == k) ≡ true
same i k h = grind (arith)

-- ---- one call that is sent or left out, and what is sent after it

-- the rest of a log after the call, if it was sent
record Rest (a : ComponentCall) (cs : List ComponentCall) (log : List Sent) : Type 0 where
  rest : List Sent
  rest_is : component_calls rest ≡ cs
  others : (j : ℕ) → j ≢ a.component → part j log ≡ part j rest
  good : (ss : List Shape) → All (IsGoodOf ss) log → All (IsGoodOf ss) rest

rest_if : (b : Bool) (a : ComponentCall) (cs : List ComponentCall) (log : List Sent) → component_calls log ≡ (if b then a ∷ cs else cs) → Rest a cs log
rest_if true a cs [] is = absurd (cc)
rest_if true a cs (s ∷ log) is =
    let at : s.component ≡ a.component = ap (λ (x : ComponentCall). x.component) (first_same (component_call s) a (component_calls log) cs is) in
    record {
      rest = log;
      rest_is = rest_same (component_call s) a (component_calls log) cs is;
      others = λ j ne. skips (s.component == j) s.exchange (part j log) (other s.component j (λ e. ne (sym e ∙ at)));
      good = λ ss all. All-tail (IsGoodOf ss) s log all;
    }
rest_if false a cs log is = record { rest = log; rest_is = is; others = λ j ne. refl; good = λ ss all. all }

-- one exchange, a good one of this call
pub record PartIs (ss : List Shape) (k : ℕ) (call : Call) (log : List Sent) : Type 0 where
  pub exchange : Exchange
  pub is : part k log ≡ exchange ∷ []
  pub call_is : exchange.call ≡ call
  pub good : (d : Shape) → IsGood (get_or ss k d) exchange

part_first : (ss : List Shape) (a : ComponentCall) (cs : List ComponentCall) (log : List Sent) → component_calls log ≡ a ∷ cs → All (IsGoodOf ss) log → ((rest : List Sent) → component_calls rest ≡ cs → part a.component rest ≡ []) →
    PartIs ss a.component a.call log
part_first ss a cs [] is good none = absurd (cc)
part_first ss a cs (s ∷ log) is good none =
    let first = first_same (component_call s) a (component_calls log) cs is in
    let at : s.component ≡ a.component = ap (λ (x : ComponentCall). x.component) first in
    record {
      exchange = s.exchange;
      is = takes (s.component == a.component) s.exchange (part a.component log) (same s.component a.component at)
          ∙ ap (λ (es : List Exchange). s.exchange ∷ es) (none log (rest_same (component_call s) a (component_calls log) cs is));
      call_is = ap (λ (x : ComponentCall). x.call) first;
      good = λ e. subst (λ (n : ℕ). IsGood (get_or ss n e) s.exchange) at (All-head (IsGoodOf ss) s log good e);
    }

part_nil : (j : ℕ) (log : List Sent) → component_calls log ≡ [] → part j log ≡ []
part_nil j [] is = refl
part_nil j (s ∷ log) is = absurd (cc)

-- ---- the parts, from the k-th component on

module _ (test : Shape → Bool) (call : Shape → Call) where
  abbrev asking_at : ℕ → Shape → ComponentCall
  asking_at k t = record { component = k; call = call t }

  rest_after : (k : ℕ) (t : Shape) (todo : List Shape) (log : List Sent) → component_calls log ≡ to_those_from k test call (t ∷ todo) → Rest (asking_at k t) (to_those_from (k + 1) test call todo) log
  rest_after k t todo log is = rest_if (test t) (asking_at k t) (to_those_from (k + 1) test call todo) log is

  pub none_before : (k j : ℕ) (todo : List Shape) (log : List Sent) → component_calls log ≡ to_those_from k test call todo → j < k → part j log ≡ []
  none_before k j [] log is h = part_nil j log is
  none_before k j (t ∷ todo) log is h =
      let r = rest_after k t todo log is in
      r.others j (λ e. absurd (omega (arith, e, h))) ∙ none_before (k + 1) j todo r.rest r.rest_is (omega (arith, h))

  pub none_after : (k j : ℕ) (todo : List Shape) (log : List Sent) → component_calls log ≡ to_those_from k test call todo → k + length todo ≤ j → part j log ≡ []
  none_after k j [] log is h = part_nil j log is
  none_after k j (t ∷ todo) log is h =
      let r = rest_after k t todo log is in
      r.others j (λ e. absurd (omega (arith, e, h))) ∙ none_after (k + 1) j todo r.rest r.rest_is (omega (arith, h))

  -- of one that isn't asked
  pub none_of : (k : ℕ) (todo : List Shape) (log : List Sent) → component_calls log ≡ to_those_from k test call todo → (i : ℕ) (d : Shape) → i < length todo → test (get_or todo i d) ≡ false → part (k + i) log ≡ []
  none_of k [] log is i d w unasked = absurd (omega (arith, w))
  none_of k (t ∷ todo) log is zero d w unasked =
      none_before (k + 1) (k + 0) todo log (is ∙ ap (λ (b : Bool). if b then asking_at k t ∷ to_those_from (k + 1) test call todo else to_those_from (k + 1) test call todo) unasked) (omega arith)
  none_of k (t ∷ todo) log is (suc i) d w unasked =
      let r = rest_after k t todo log is in
      let place : k + 1 + i ≡ k + suc i = omega arith in
      r.others (k + suc i) (λ e. absurd (omega (arith, e))) ∙ ap (λ (n : ℕ). part n r.rest) (sym place) ∙ none_of (k + 1) todo r.rest r.rest_is i d (omega (arith, w)) unasked

  -- of one that is asked
  pub one_of : (ss : List Shape) (k : ℕ) (todo : List Shape) (log : List Sent) → component_calls log ≡ to_those_from k test call todo → All (IsGoodOf ss) log →
      (i : ℕ) (d : Shape) → i < length todo → test (get_or todo i d) ≡ true → PartIs ss (k + i) (call (get_or todo i d)) log
  one_of ss k [] log is good i d w asked = absurd (omega (arith, w))
  one_of ss k (t ∷ todo) log is good zero d w asked =
      subst (λ (n : ℕ). PartIs ss n (call t) log) (omega arith)
      (part_first ss (asking_at k t) (to_those_from (k + 1) test call todo) log
      (is ∙ ap (λ (b : Bool). if b then asking_at k t ∷ to_those_from (k + 1) test call todo else to_those_from (k + 1) test call todo) asked) good
      (λ rest rest_is. none_before (k + 1) k todo rest rest_is (omega arith)))
  one_of ss k (t ∷ todo) log is good (suc i) d w asked =
      let r = rest_after k t todo log is in
      let more = one_of ss (k + 1) todo r.rest r.rest_is (r.good ss good) i d (omega (arith, w)) asked in
      let place : k + 1 + i ≡ k + suc i = omega arith in
      record {
        exchange = more.exchange;
        is = r.others (k + suc i) (λ e. absurd (omega (arith, e))) ∙ ap (λ (n : ℕ). part n r.rest) (sym place) ∙ more.is;
        call_is = more.call_is;
        good = λ e. subst (λ (n : ℕ). IsGood (get_or ss n e) more.exchange) place (more.good e);
      }

  -- ---- the calls themselves

  all_if : (P : ComponentCall → Type 0) (b : Bool) (a : ComponentCall) (cs : List ComponentCall) → (b ≡ true → P a) → All P cs → All P (if b then a ∷ cs else cs)
  all_if P true a cs h all = All-cons P a cs (h refl) all
  all_if P false a cs h all = all

  -- what holds of the call to each that is asked holds of each of the calls
  pub those_calls : (P : Call → Type 0) → ((s : Shape) → test s ≡ true → P (call s)) → (k : ℕ) (todo : List Shape) → All (λ (a : ComponentCall). P a.call) (to_those_from k test call todo)
  those_calls P h k [] = All-nil (λ (a : ComponentCall). P a.call)
  those_calls P h k (t ∷ todo) = all_if (λ (a : ComponentCall). P a.call) (test t) (asking_at k t) (to_those_from (k + 1) test call todo) (λ is. h t is) (those_calls P h (k + 1) todo)

  -- they are to components of the list
  pub those_within : (limit k : ℕ) (todo : List Shape) → k + length todo ≤ limit → All (λ (a : ComponentCall). a.component < limit) (to_those_from k test call todo)
  those_within limit k [] h = All-nil (λ (a : ComponentCall). a.component < limit)
  those_within limit k (t ∷ todo) h =
      all_if (λ (a : ComponentCall). a.component < limit) (test t) (asking_at k t) (to_those_from (k + 1) test call todo) (λ is. omega (arith, h)) (those_within limit (k + 1) todo (omega (arith, h)))

-- what holds of each of the calls holds of each exchange
pub sent_all : (P : ComponentCall → Type 0) (log : List Sent) (calls : List ComponentCall) → component_calls log ≡ calls → All P calls → All (λ (s : Sent). P (component_call s)) log
sent_all P log calls is all = by log (subst (All P) (sym is) all) where
  by : (log : List Sent) → All P (component_calls log) → All (λ (s : Sent). P (component_call s)) log
  by [] h = All-nil (λ (s : Sent). P (component_call s))
  by (s ∷ log) h = All-cons (λ (r : Sent). P (component_call r)) s log (All-head P (component_call s) (component_calls log) h) (by log (All-tail P (component_call s) (component_calls log) h))

-- ---- where all answers are good

module _ (ss : List Shape) (test : Shape → Bool) (call : Shape → Call) (log : List Sent) (answered : IsAnswered ss (to_those test call ss) log) where
  -- one that is asked has one exchange, a good one of its call
  pub part_asked : (k : ℕ) (d : Shape) → k < length ss → test (get_or ss k d) ≡ true → PartIs ss k (call (get_or ss k d)) log
  part_asked k d w asked = subst (λ (n : ℕ). PartIs ss n (call (get_or ss k d)) log) (omega arith) (one_of test call ss 0 ss log answered.calls_are answered.good k d w asked)

  -- one that isn't has none
  pub part_unasked : (k : ℕ) (d : Shape) → k < length ss → test (get_or ss k d) ≡ false → part k log ≡ []
  part_unasked k d w unasked = ap (λ (n : ℕ). part n log) (omega arith) ∙ none_of test call 0 ss log answered.calls_are k d w unasked

  -- and none is of another component
  pub part_beyond : (k : ℕ) → length ss ≤ k → part k log ≡ []
  part_beyond k h = none_after test call 0 k ss log answered.calls_are (omega (arith, h))

  pub askings_within : All (λ (a : ComponentCall). a.component < length ss) (component_calls log)
  askings_within = subst (All (λ (a : ComponentCall). a.component < length ss)) (sym answered.calls_are) (those_within test call (length ss) 0 ss (omega arith))

  pub sent_within : All (λ (s : Sent). s.component < length ss) log
  sent_within = sent_all (λ (a : ComponentCall). a.component < length ss) log (to_those test call ss) answered.calls_are (those_within test call (length ss) 0 ss (omega arith))

-- ---- what a stage leaves of each instance

-- this one exchange, a good one of the call
pub record HasOne (call : Call) (old new : Instance) : Type 0 where
  pub exchange : Exchange
  pub has : Has old (exchange ∷ []) new
  pub is : exchange.call ≡ call
  pub good : IsGood old.view.fixed.shape exchange

pub one_led : (call : Call) (old new : Instance) (o : HasOne call old new) → Led old.view o.exchange new.view
one_led call old new o = led old.view new.view o.exchange o.has.talks o.good

module _ {A : Type 0} (f : A → Instance) (test : Shape → Bool) (call : Shape → Call) (olds news : List A) (log : List Sent) (told : Told log (map f olds) (map f news))
    (answered : IsAnswered (shapes (map f olds)) (to_those test call (shapes (map f olds))) log) where
  abbrev old_shapes : List Shape
  old_shapes = shapes (map f olds)

  pub length_same : length news ≡ length olds
  length_same = let a = length-map news f in let b = length-map olds f in let c = told.len in omega (arith, a, b, c)

  module _ (k : ℕ) (d : A) (w : k < length olds) where
    abbrev x : Instance
    x = f (get_or olds k d)

    abbrev y : Instance
    y = f (get_or news k d)

    in_olds : k < length (map f olds)
    in_olds = let m = length-map olds f in omega (arith, m, w)

    in_shapes : k < length old_shapes
    in_shapes = let m = length-map (map f olds) shape_of in let n = in_olds in omega (arith, m, n)

    x_is : x ≡ get_or (map f olds) k x
    x_is = map_at f olds k (get_or olds k d) x w (get_or_default olds k d (get_or olds k d) w)

    y_is : y ≡ get_or (map f news) k x
    y_is = let l = length_same in let w_new : k < length news = omega (arith, l, w) in map_at f news k (get_or news k d) x w_new (get_or_default news k d (get_or news k d) w_new)

    shape_is : shape_of x ≡ get_or old_shapes k (shape_of x)
    shape_is = map_at shape_of (map f olds) k x (shape_of x) in_olds x_is

    has_part : Has x (part k log) y
    has_part = subst (λ (i : Instance). Has i (part k log) y) (sym x_is) (subst (λ (i : Instance). Has (get_or (map f olds) k x) (part k log) i) (sym y_is) (told.each k x in_olds))

    -- one that is asked has its exchange
    pub one_asked : test (shape_of x) ≡ true → HasOne (call (shape_of x)) x y
    one_asked asked =
        let own = part_asked old_shapes test call log answered k (shape_of x) in_shapes (ap test (sym shape_is) ∙ asked) in
        record {
          exchange = own.exchange;
          has = subst (λ (es : List Exchange). Has x es y) own.is has_part;
          is = own.call_is ∙ ap call (sym shape_is);
          good = subst (λ (t : Shape). IsGood t own.exchange) (sym shape_is) (own.good (shape_of x));
        }

    -- one that isn't stays
    pub one_unasked : test (shape_of x) ≡ false → Has x [] y
    one_unasked unasked = subst (λ (es : List Exchange). Has x es y) (part_unasked old_shapes test call log answered k (shape_of x) in_shapes (ap test (sym shape_is) ∙ unasked)) has_part

  -- what a good exchange leads from P to Q, and one that isn't asked has already
  module _ (P Q : View → Type 0) (leads : (v w : View) (e : Exchange) → P v → test v.fixed.shape ≡ true → Led v e w → e.call ≡ call v.fixed.shape → Q w)
      (stays : (v : View) → P v → test v.fixed.shape ≡ false → Q v) where
    one_by : (k : ℕ) (d : A) → k < length olds → (b : Bool) → test (shape_of (f (get_or olds k d))) ≡ b → P (f (get_or olds k d)).view → Q (f (get_or news k d)).view
    one_by k d w true is p =
        let o = one_asked k d w is in
        leads (f (get_or olds k d)).view (f (get_or news k d)).view o.exchange p is (one_led _ (f (get_or olds k d)) (f (get_or news k d)) o) o.is
    one_by k d w false is p = subst Q (sym (one_unasked k d w is).talks) (stays (f (get_or olds k d)).view p is)

    pub stage_those : All (λ (a : A). P (f a).view) olds → All (λ (a : A). Q (f a).view) news
    stage_those all = λ k d w. let l = length_same in one_by k d (omega (arith, l, w)) (test (shape_of (f (get_or olds k d)))) refl (all k d (omega (arith, l, w)))

-- what one call of each leads to
module _ {A : Type 0} (f : A → Instance) (call : Shape → Call) (P Q : View → Type 0) (leads : (v w : View) (e : Exchange) → P v → Led v e w → e.call ≡ call v.fixed.shape → Q w)
    (olds news : List A) (log : List Sent) (told : Told log (map f olds) (map f news)) (s : IsAnswered (shapes (map f olds)) (to_each call (shapes (map f olds))) log) where
  pub stage_all : All (λ (a : A). P (f a).view) olds → All (λ (a : A). Q (f a).view) news
  stage_all all = stage_those f everyone call olds news log told s P Q (λ v w e p is l c. leads v w e p l c) (λ v p is. absurd (cc)) all
