-- Lists of calls and their answers, one after the other.
use Rattle.std.proofs.Common.{◌≡◌, ℕ, zero, suc, ◌+◌, ◌<◌, ◌≤◌, Bool, true, false, List, [], ◌∷◌, ◌++◌, Ok, Err, Result, refl, sym, ap, ap₂, ◌∙◌, subst, append_assoc, arith, length, get_or, map, take, drop}
use Rattle.std.specs.Prelude.{All, if◌then◌else◌}
use Rattle.std.proofs.lemmas.List.{append-nil, length-take-le, take_more, take-append-drop}
use Rattle.std.proofs.lemmas.List.Elements.{All-nil, All-cons, All-append}
use Rattle.value_types.specs.declared.shape.Shape.{Shape}
use Rattle.fmi_calls.specs.declared.call.Call.{Call}
use Rattle.fmu_peer.specs.declared.peer.Exchange.{Exchange}
use Rattle.fmu_peer.specs.Answer.{IsWhy}
use Rattle.fmu_peer.specs.CloseAll.{Instance}
use Rattle.fmu_peer.specs.Talk.{IsGood}
use Rattle.fmu_peer.specs.View.{Fixed}
use Rattle.slot_calls.specs.Log.{Sent, ComponentCall, Told, part, component_calls}
use Rattle.slot_calls.specs.Stage.{IsAnswered, IsFirst, IsGoodOf, Stage, StopsAt, shapes, to_those, to_those_from}
use Rattle.slot_calls.specs.declared.bad_answer.BadAnswer.{BadAnswer}
use Rattle.slot_calls.proofs.Logs.{if_on, told_on, askings_append, talks_fixed}

abbrev pub shape_of : Instance → Shape
shape_of i = i.view.fixed.shape

module _ {A B : Type 0} (f : A → B) where
  pub map_same : (xs ys : List A) → length ys ≡ length xs → ((i : ℕ) (d : A) → i < length xs → f (get_or ys i d) ≡ f (get_or xs i d)) → map f ys ≡ map f xs
  map_same [] [] e h = refl
  map_same [] (y ∷ ys) e h = absurd (omega (arith, e))
  map_same (x ∷ xs) [] e h = absurd (omega (arith, e))
  map_same (x ∷ xs) (y ∷ ys) e h = ap₂ ◌∷◌ (h 0 x (omega arith)) (map_same xs ys (omega (arith, e)) (λ i d w. h (suc i) d (omega (arith, w))))

  pub map_at : (xs : List A) (i : ℕ) (x : A) (d : B) → i < length xs → x ≡ get_or xs i x → f x ≡ get_or (map f xs) i d
  map_at [] i x d w e = absurd (omega (arith, w))
  map_at (y ∷ xs) zero x d w e = ap f e
  map_at (y ∷ xs) (suc i) x d w e = map_at xs i x d (omega (arith, w)) e

-- a log leaves the shapes
pub shapes_same : (log : List Sent) (olds news : List Instance) → Told log olds news → shapes news ≡ shapes olds
shapes_same log olds news h = map_same shape_of olds news h.len (λ i d w. ap (λ (f : Fixed). f.shape) (talks_fixed _ (part i log) _ (h.each i d w).talks))

-- ---- lists of calls in a row

module _ (ss : List Shape) where
  pub answered_none : IsAnswered ss [] []
  answered_none = record { calls_are = refl; good = All-nil (IsGoodOf ss) }

  module _ (cs ds : List ComponentCall) (log more : List Sent) (a : IsAnswered ss cs log) where
    pub answered_on : IsAnswered ss ds more → IsAnswered ss (cs ++ ds) (log ++ more)
    answered_on b = record {
      calls_are = askings_append log more ∙ ap₂ ◌++◌ a.calls_are b.calls_are;
      good = All-append (IsGoodOf ss) log more a.good b.good;
    }

    pub stops_on : (bad : BadAnswer) → StopsAt ss ds bad more → StopsAt ss (cs ++ ds) bad (log ++ more)
    stops_on bad b = record {
      prefix = log ++ b.prefix;
      last = b.last;
      left = b.left;
      log_is = ap (λ (l : List Sent). log ++ l) b.log_is ∙ sym (append_assoc log b.prefix (b.last ∷ []));
      calls_are = ap₂ ◌++◌ (sym a.calls_are) b.calls_are ∙ sym (append_assoc (component_calls log) (component_calls more) b.left)
          ∙ ap (λ (xs : List ComponentCall). xs ++ b.left) (sym (askings_append log more));
      first = record { good = All-append (IsGoodOf ss) log b.prefix a.good b.first.good; component = b.first.component; why = b.first.why };
    }

  pub stops_prefix : (cs ds : List ComponentCall) (bad : BadAnswer) (log : List Sent) → StopsAt ss cs bad log → StopsAt ss (cs ++ ds) bad log
  stops_prefix cs ds bad log b = record {
    prefix = b.prefix;
    last = b.last;
    left = b.left ++ ds;
    log_is = b.log_is;
    calls_are = ap (λ (xs : List ComponentCall). xs ++ ds) b.calls_are ∙ append_assoc (component_calls log) b.left ds;
    first = b.first;
  }

-- ---- one call

abbrev pub one_log : ℕ → Exchange → List Sent
one_log k e = record { component = k; exchange = e } ∷ []

-- the shape at the component is that of the instance
abbrev pub IsShapeAt : List Shape → ℕ → Shape → Type 0
IsShapeAt ss k shape = (d : Shape) → shape ≡ get_or ss k d

module _ (ss : List Shape) (k : ℕ) (shape : Shape) (at : IsShapeAt ss k shape) (e : Exchange) where
  pub good_here : IsGood shape e → IsGoodOf ss (record { component = k; exchange = e })
  good_here g d = subst (λ (s : Shape). IsGood s e) (at d) g

  pub answered_one : IsGood shape e → IsAnswered ss (record { component = k; call = e.call } ∷ []) (one_log k e)
  answered_one g = record { calls_are = refl; good = All-cons (IsGoodOf ss) (record { component = k; exchange = e }) [] (good_here g) (All-nil (IsGoodOf ss)) }

  pub first_here : (bad : BadAnswer) (prefix : List Sent) → bad.component.0 ≡ k → All (IsGoodOf ss) prefix → IsWhy shape bad.why e → IsFirst ss bad prefix (record { component = k; exchange = e })
  first_here bad prefix place good why = record { good = good; component = sym place; why = λ d. subst (λ (s : Shape). IsWhy s bad.why e) (at d) why }

  pub stops_one : (bad : BadAnswer) → bad.component.0 ≡ k → IsWhy shape bad.why e → StopsAt ss (record { component = k; call = e.call } ∷ []) bad (one_log k e)
  stops_one bad place why = record {
    prefix = [];
    last = record { component = k; exchange = e };
    left = [];
    log_is = refl;
    calls_are = refl;
    first = first_here bad [] place (All-nil (IsGoodOf ss)) why;
  }

-- ---- one call to those whose shape passes a test

module _ (test : Shape → Bool) (call : Shape → Call) where
  those_append : (k : ℕ) (rs ts : List Shape) → to_those_from k test call (rs ++ ts) ≡ to_those_from k test call rs ++ to_those_from (k + length rs) test call ts
  those_append k [] ts = ap (λ (n : ℕ). to_those_from n test call ts) (omega arith)
  those_append k (s ∷ rs) ts =
      ap (λ (xs : List ComponentCall). if test s then record { component = k; call = call s } ∷ xs else xs)
      (those_append (k + 1) rs ts ∙ ap (λ (n : ℕ). to_those_from (k + 1) test call rs ++ to_those_from n test call ts) (omega arith))
      ∙ if_on (test s) (record { component = k; call = call s }) (to_those_from (k + 1) test call rs) (to_those_from (k + suc (length rs)) test call ts)

  those_one : (k : ℕ) (s : Shape) → test s ≡ true → to_those_from k test call (s ∷ []) ≡ record { component = k; call = call s } ∷ []
  those_one k s h = ap (λ (b : Bool). if b then record { component = k; call = call s } ∷ [] else []) h

  those_none : (k : ℕ) (s : Shape) → test s ≡ false → to_those_from k test call (s ∷ []) ≡ []
  those_none k s h = ap (λ (b : Bool). if b then record { component = k; call = call s } ∷ [] else []) h

  -- after the last of them nothing is left
  pub those_all : (ss : List Shape) (i : ℕ) → length ss ≤ i → to_those test call (take i ss) ≡ to_those test call ss
  those_all ss i h = ap (to_those test call) (take_whole ss i h) where
    take_whole : (xs : List Shape) (i : ℕ) → length xs ≤ i → take i xs ≡ xs
    take_whole [] zero h = refl
    take_whole [] (suc i) h = refl
    take_whole (y ∷ ys) zero h = absurd (omega (arith, h))
    take_whole (y ∷ ys) (suc i) h = ap (λ (zs : List Shape). y ∷ zs) (take_whole ys i (omega (arith, h)))

  -- the calls up to a place, and those after it
  module _ (ss : List Shape) (i : ℕ) (shape : Shape) (within : i < length ss) (at : IsShapeAt ss i shape) where
    abbrev pub asking : ComponentCall
    asking = record { component = i; call = call shape }

    prefix_is : take (i + 1) ss ≡ take i ss ++ shape ∷ []
    prefix_is = take_more ss i shape within ∙ ap (λ (s : Shape). take i ss ++ s ∷ []) (sym (at shape))

    in_prefix : (k : ℕ) → k + length (take i ss) ≡ k + i
    in_prefix k = ap (λ (n : ℕ). k + n) (length-take-le i ss (omega (arith, within)))

    up_to : to_those test call (take (i + 1) ss) ≡ to_those test call (take i ss) ++ to_those_from i test call (shape ∷ [])
    up_to = ap (to_those test call) prefix_is ∙ those_append 0 (take i ss) (shape ∷ [])
        ∙ ap (λ (n : ℕ). to_those test call (take i ss) ++ to_those_from n test call (shape ∷ [])) (in_prefix 0 ∙ omega arith)

    pub those_more : test shape ≡ true → to_those test call (take (i + 1) ss) ≡ to_those test call (take i ss) ++ asking ∷ []
    those_more asked = up_to ∙ ap (λ (xs : List ComponentCall). to_those test call (take i ss) ++ xs) (those_one i shape asked)

    pub those_same : test shape ≡ false → to_those test call (take (i + 1) ss) ≡ to_those test call (take i ss)
    those_same unasked = up_to ∙ ap (λ (xs : List ComponentCall). to_those test call (take i ss) ++ xs) (those_none i shape unasked) ∙ append-nil (to_those test call (take i ss))

    abbrev pub after : List ComponentCall
    after = to_those_from (length (take (i + 1) ss)) test call (drop (i + 1) ss)

    pub those_split : test shape ≡ true → to_those test call ss ≡ (to_those test call (take i ss) ++ asking ∷ []) ++ after
    those_split asked = ap (to_those test call) (sym (take-append-drop (i + 1) ss)) ∙ those_append 0 (take (i + 1) ss) (drop (i + 1) ss)
        ∙ ap (λ (n : ℕ). to_those test call (take (i + 1) ss) ++ to_those_from n test call (drop (i + 1) ss)) (omega arith)
        ∙ ap (λ (xs : List ComponentCall). xs ++ after) (those_more asked)

-- ---- stages in a row, by their results

module _ {S T : Type 0} (cs ds : List ComponentCall) (v : List Sent → S) (w : List Sent → T) (olds mids news : List Instance) (bad : BadAnswer) (r : Result T BadAnswer) (is : r ≡ Err bad) where
  pub stage_cut : Stage cs v olds news (Err bad) → Stage (cs ++ ds) w olds news r
  stage_cut s = subst (Stage (cs ++ ds) w olds news) (sym is) (record { log = s.log; told = s.told; says = stops_prefix (shapes olds) cs ds bad s.log s.says })

  pub stage_cut_later : (x : S) → Stage cs v olds mids (Ok x) → {U : Type 0} → (u : List Sent → U) → Stage ds u mids news (Err bad) → Stage (cs ++ ds) w olds news r
  stage_cut_later x s u t = subst (Stage (cs ++ ds) w olds news) (sym is) (record {
    log = s.log ++ t.log;
    told = told_on olds mids news s.log t.log s.told t.told;
    says = stops_on (shapes olds) cs ds s.log t.log s.says.0 bad (subst (λ (ss : List Shape). StopsAt ss ds bad t.log) (shapes_same s.log olds mids s.told) t.says);
  })

pub stage_on : {S T U : Type 0} (cs ds : List ComponentCall) (v : List Sent → S) (w : List Sent → T) (u : List Sent → U) (olds mids news : List Instance) (x : S) (y : T) (z : U) →
    (s : Stage cs v olds mids (Ok x)) → (t : Stage ds w mids news (Ok y)) → z ≡ u (s.log ++ t.log) → Stage (cs ++ ds) u olds news (Ok z)
stage_on cs ds v w u olds mids news x y z s t is = record {
  log = s.log ++ t.log;
  told = told_on olds mids news s.log t.log s.told t.told;
  says = (answered_on (shapes olds) cs ds s.log t.log s.says.0 (subst (λ (ss : List Shape). IsAnswered ss ds t.log) (shapes_same s.log olds mids s.told) t.says.0), is);
}
