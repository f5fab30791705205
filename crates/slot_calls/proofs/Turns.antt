-- A loop over slots: in each turn one instance has one exchange more.
use Rattle.std.proofs.Common.{◌≡◌, ◌≢◌, ℕ, ◌+◌, ◌<◌, ◌≤◌, Bool, true, false, List, [], ◌∷◌, ◌++◌, Ok, Err, Result, refl, sym, ap, ap₂, ◌∙◌, subst, append_assoc, arith, length, get_or, set, map, take, length-set, get_or-set_other}
use Rattle.std.specs.Prelude.{All, OnOk, ◌||◌}
use Rattle.std.proofs.lemmas.List.{get_or_default, map-set, length-map}
use Rattle.std.proofs.lemmas.List.Elements.{All-get_or, All-set}
use Rattle.std.proofs.lemmas.List.Folds.{list_any-append}
use Rattle.sim_base.specs.declared.numbers.CompId.{CompId}
use Rattle.value_types.specs.declared.shape.Shape.{Shape}
use Rattle.fmi_calls.specs.declared.call.Call.{Call}
use Rattle.fmu_peer.specs.declared.ended.Why.{Why}
use Rattle.fmu_peer.specs.declared.peer.Exchange.{Exchange}
use Rattle.fmu_peer.specs.CloseAll.{Instance}
use Rattle.slot_calls.specs.Carried.{any_asks_to_end, asks_to_end}
use Rattle.slot_calls.specs.Log.{One, ComponentCall, Sent, Told}
use Rattle.slot_calls.specs.Rounds.{joined}
use Rattle.slot_calls.specs.Stage.{FailsIn, IsAnswered, RoundSays, StopsAt, shapes, to_those}
use Rattle.slot_calls.specs.declared.bad_answer.BadAnswer.{BadAnswer}
use Rattle.slot_calls.proofs.Logs.{askings_append, told_on, told_one}
use Rattle.slot_calls.proofs.Answered.{IsShapeAt, answered_on, answered_one, first_here, map_at, one_log, shape_of, shapes_same, stops_on, stops_one, stops_prefix, those_more, those_same, those_split}

-- from this place on the lists are the same
pub record SameFrom {A : Type 0} (place : ℕ) (xs ys : List A) : Type 0 where
  pub len : length ys ≡ length xs
  pub rest : (k : ℕ) (d : A) → place ≤ k → get_or ys k d ≡ get_or xs k d

pub same_first : {A : Type 0} (xs : List A) → SameFrom 0 xs xs
same_first xs = record { len = refl; rest = λ k d h. refl }

pub same_more : {A : Type 0} (place : ℕ) (xs ys : List A) (y : A) → SameFrom place xs ys → SameFrom (place + 1) xs (set ys place y)
same_more place xs ys y s = record {
  len = length-set ys place y ∙ s.len;
  rest = λ k d h. let ne : k ≢ place = omega (arith, h) in rw get_or-set_other (s.rest k d (omega (arith, h)));
}

-- where one is left as it is
pub same_left : {A : Type 0} (place : ℕ) (xs ys : List A) → SameFrom place xs ys → SameFrom (place + 1) xs ys
same_left place xs ys s = record { len = s.len; rest = λ k d h. s.rest k d (omega (arith, h)) }

-- what holds of each holds of one that wasn't reached
pub at_rest : {A : Type 0} (P : A → Type 0) (place : ℕ) (xs ys : List A) (d : A) → SameFrom place xs ys → place < length xs → All P xs → P (get_or ys place d)
at_rest P place xs ys d s w all = subst P (sym (s.rest place d (omega arith))) (All-get_or P xs place d w all)

-- and of one that is there whatever stands for none
pub at_either : {A : Type 0} (P : A → Type 0) (place : ℕ) (xs ys : List A) (d e : A) → SameFrom place xs ys → place < length xs → P (get_or ys place d) → P (get_or ys place e)
at_either P place xs ys d e s w p = let l = s.len in subst P (get_or_default ys place d e (omega (arith, l, w))) p

or_swap : (a b : Bool) → (a || b) ≡ (a || (b || false))
or_swap true b = refl
or_swap false true = refl
or_swap false false = refl

-- whether one of the answers asks for the end
or_more : (log : List Sent) (k : ℕ) (e : Exchange) (was asks : Bool) → was ≡ any_asks_to_end log → asks ≡ asks_to_end e → (was || asks) ≡ any_asks_to_end (log ++ one_log k e)
or_more log k e was asks h i =
    or_swap was asks ∙ ap (λ (b : Bool). b || (asks || false)) h ∙ ap (λ (b : Bool). any_asks_to_end log || (b || false)) i
    ∙ sym (list_any-append (λ (s : Sent). asks_to_end s.exchange) log (one_log k e))

-- ---- one exchange more, with the instance in a slot

module _ {A : Type 0} (f : A → Instance) (olds : List Instance) (news : List A) (log : List Sent) (told : Told log olds (map f news)) (k : ℕ) (d y : A) (within : k < length news) where
  abbrev pub there : A
  there = get_or news k d

  within_map : k < length (map f news)
  within_map = let m = length-map news f in omega (arith, within, m)

  there_is : f there ≡ get_or (map f news) k (f there)
  there_is = map_at f news k there (f there) within (get_or_default news k d there within)

  -- the shape of the instance is that at its component
  pub shape_there : IsShapeAt (shapes olds) k (shape_of (f there))
  shape_there s =
      map_at shape_of (map f news) k (f there) s within_map there_is ∙ ap (λ (ss : List Shape). get_or ss k s) (shapes_same log olds (map f news) told)

  module _ {T : Type 0} (call : Call) (value : Exchange → T) (r : Result T Why) (o : One call value (f there) (f y) r) where
    pub turn_told : Told (log ++ one_log k o.exchange) olds (map f (set news k y))
    turn_told = subst (λ (l : List Instance). Told (log ++ one_log k o.exchange) olds l) (sym (map-set f news k y))
        (told_on olds (map f news) (set (map f news) k (f y)) log (one_log k o.exchange) told
        (told_one (map f news) k (f there) (f y) o.exchange within_map there_is o.has))

  module _ {T : Type 0} (call : Call) (value : Exchange → T) (cs : List ComponentCall) (answered : IsAnswered (shapes olds) cs log) where
    pub turn_answered : (v : T) (o : One call value (f there) (f y) (Ok v)) → IsAnswered (shapes olds) (cs ++ record { component = k; call = call } ∷ []) (log ++ one_log k o.exchange)
    turn_answered v o =
        answered_on (shapes olds) cs (record { component = k; call = call } ∷ []) log (one_log k o.exchange) answered
        (subst (λ (c : Call). IsAnswered (shapes olds) (record { component = k; call = c } ∷ []) (one_log k o.exchange)) o.is
        (answered_one (shapes olds) k (shape_of (f there)) shape_there o.exchange o.worth.0))

    pub turn_stops : (bad : BadAnswer) → bad.component.0 ≡ k → (o : One call value (f there) (f y) (Err bad.why)) → StopsAt (shapes olds) (cs ++ record { component = k; call = call } ∷ []) bad (log ++ one_log k o.exchange)
    turn_stops bad at o =
        stops_on (shapes olds) cs (record { component = k; call = call } ∷ []) log (one_log k o.exchange) answered bad
        (subst (λ (c : Call). StopsAt (shapes olds) (record { component = k; call = c } ∷ []) bad (one_log k o.exchange)) o.is
        (stops_one (shapes olds) k (shape_of (f there)) shape_there o.exchange bad at o.worth))

-- ---- one call to those whose shape passes a test, in turn

module _ {A : Type 0} (f : A → Instance) (call : Shape → Call) (olds news : List A) (log : List Sent) (told : Told log (map f olds) (map f news)) (place : ℕ) (d y : A) (s : SameFrom place olds news) (within : place < length olds) where
  new_within : place < length news
  new_within = let e = s.len in omega (arith, within, e)

  in_shapes : place < length (shapes (map f olds))
  in_shapes = let m = length-map olds f in let n = length-map (map f olds) shape_of in omega (arith, m, n, within)

  here : IsShapeAt (shapes (map f olds)) place (shape_of (f (get_or news place d)))
  here = shape_there f (map f olds) news log told place d y new_within

  pub each_told : {T : Type 0} (value : Exchange → T) (r : Result T Why) (o : One (call (shape_of (f (get_or news place d)))) value (f (get_or news place d)) (f y) r) →
      Told (log ++ one_log place o.exchange) (map f olds) (map f (set news place y))
  each_told value r o = turn_told f (map f olds) news log told place d y new_within (call (shape_of (f (get_or news place d)))) value r o

  module _ (test : Shape → Bool) where
    -- one that isn't asked
    pub each_left : test (shape_of (f (get_or news place d))) ≡ false → IsAnswered (shapes (map f olds)) (to_those test call (take place (shapes (map f olds)))) log →
        IsAnswered (shapes (map f olds)) (to_those test call (take (place + 1) (shapes (map f olds)))) log
    each_left unasked answered =
        subst (λ (cs : List ComponentCall). IsAnswered (shapes (map f olds)) cs log) (sym (those_same test call (shapes (map f olds)) place (shape_of (f (get_or news place d))) in_shapes here unasked)) answered

    -- the same in a round
    pub round_left : test (shape_of (f (get_or news place d))) ≡ false → (so_far : Result Bool BadAnswer) → RoundSays (shapes (map f olds)) (to_those test call (take place (shapes (map f olds)))) any_asks_to_end log so_far →
        RoundSays (shapes (map f olds)) (to_those test call (take (place + 1) (shapes (map f olds)))) any_asks_to_end log so_far
    round_left unasked so_far says =
        subst (λ (cs : List ComponentCall). RoundSays (shapes (map f olds)) cs any_asks_to_end log so_far) (sym (those_same test call (shapes (map f olds)) place (shape_of (f (get_or news place d))) in_shapes here unasked)) says

    -- one that is asked
    module _ (asked : test (shape_of (f (get_or news place d))) ≡ true) where
      pub calls_more : to_those test call (take (place + 1) (shapes (map f olds))) ≡ to_those test call (take place (shapes (map f olds))) ++ record { component = place; call = call (shape_of (f (get_or news place d))) } ∷ []
      calls_more = those_more test call (shapes (map f olds)) place (shape_of (f (get_or news place d))) in_shapes here asked

      module _ {T : Type 0} (value : Exchange → T) (answered : IsAnswered (shapes (map f olds)) (to_those test call (take place (shapes (map f olds)))) log) where
        pub each_sent : (v : T) (o : One (call (shape_of (f (get_or news place d)))) value (f (get_or news place d)) (f y) (Ok v)) →
            IsAnswered (shapes (map f olds)) (to_those test call (take (place + 1) (shapes (map f olds)))) (log ++ one_log place o.exchange)
        each_sent v o =
            subst (λ (cs : List ComponentCall). IsAnswered (shapes (map f olds)) cs (log ++ one_log place o.exchange)) (sym calls_more)
            (turn_answered f (map f olds) news log told place d y new_within (call (shape_of (f (get_or news place d)))) value _ answered v o)

        pub each_stops : (bad : BadAnswer) → bad.component.0 ≡ place → (o : One (call (shape_of (f (get_or news place d)))) value (f (get_or news place d)) (f y) (Err bad.why)) →
            StopsAt (shapes (map f olds)) (to_those test call (shapes (map f olds))) bad (log ++ one_log place o.exchange)
        each_stops bad at o =
            subst (λ (cs : List ComponentCall). StopsAt (shapes (map f olds)) cs bad (log ++ one_log place o.exchange))
            (sym (those_split test call (shapes (map f olds)) place (shape_of (f (get_or news place d))) in_shapes here asked))
            (stops_prefix (shapes (map f olds)) _ _ bad _ (turn_stops f (map f olds) news log told place d y new_within (call (shape_of (f (get_or news place d)))) value _ answered bad at o))

      -- the same in a round
      module _ (bad : BadAnswer) (fails : FailsIn (shapes (map f olds)) (to_those test call (take place (shapes (map f olds)))) bad log) where
        pub round_failed : (r : Result Bool Why) (o : One (call (shape_of (f (get_or news place d)))) asks_to_end (f (get_or news place d)) (f y) r) →
            FailsIn (shapes (map f olds)) (to_those test call (take (place + 1) (shapes (map f olds)))) bad (log ++ one_log place o.exchange)
        round_failed r o = record {
          prefix = fails.prefix;
          last = fails.last;
          back = fails.back ++ one_log place o.exchange;
          log_is = ap (λ (l : List Sent). l ++ one_log place o.exchange) fails.log_is ∙ append_assoc fails.prefix (fails.last ∷ fails.back) (one_log place o.exchange);
          calls_are = askings_append log (one_log place o.exchange)
              ∙ ap₂ (λ (cs : List ComponentCall) (c : Call). cs ++ record { component = place; call = c } ∷ []) fails.calls_are o.is ∙ sym (calls_more);
          first = fails.first;
        }

      round_fails : IsAnswered (shapes (map f olds)) (to_those test call (take place (shapes (map f olds)))) log → (bad : BadAnswer) → bad.component.0 ≡ place →
          (o : One (call (shape_of (f (get_or news place d)))) asks_to_end (f (get_or news place d)) (f y) (Err bad.why)) →
          FailsIn (shapes (map f olds)) (to_those test call (take (place + 1) (shapes (map f olds)))) bad (log ++ one_log place o.exchange)
      round_fails answered bad at o = record {
        prefix = log;
        last = record { component = place; exchange = o.exchange };
        back = [];
        log_is = refl;
        calls_are = askings_append log (one_log place o.exchange)
            ∙ ap₂ (λ (cs : List ComponentCall) (c : Call). cs ++ record { component = place; call = c } ∷ []) answered.calls_are o.is ∙ sym (calls_more);
        first = first_here (shapes (map f olds)) place (shape_of (f (get_or news place d))) here o.exchange bad log at answered.good o.worth;
      }

      round_joined : (so_far : Result Bool BadAnswer) (component : CompId) (r : Result Bool Why) → component.0 ≡ place →
          RoundSays (shapes (map f olds)) (to_those test call (take place (shapes (map f olds)))) any_asks_to_end log so_far →
          (o : One (call (shape_of (f (get_or news place d)))) asks_to_end (f (get_or news place d)) (f y) r) →
          RoundSays (shapes (map f olds)) (to_those test call (take (place + 1) (shapes (map f olds)))) any_asks_to_end (log ++ one_log place o.exchange) (joined so_far component r)
      round_joined (Ok was) component (Ok asks) at says o = (
        each_sent asks_to_end says.0 asks o,
        or_more log place o.exchange was asks says.1 o.worth.1,
      )
      round_joined (Ok was) component (Err why) at says o = round_fails says.0 (record { component = component; why = why }) at o
      round_joined (Err bad) component r at says o = round_failed bad says r o

      -- one more answer in a round
      pub round_more : (so_far now : Result Bool BadAnswer) (component : CompId) (r : Result Bool Why) → now ≡ joined so_far component r → component.0 ≡ place →
          RoundSays (shapes (map f olds)) (to_those test call (take place (shapes (map f olds)))) any_asks_to_end log so_far →
          (o : One (call (shape_of (f (get_or news place d)))) asks_to_end (f (get_or news place d)) (f y) r) →
          RoundSays (shapes (map f olds)) (to_those test call (take (place + 1) (shapes (map f olds)))) any_asks_to_end (log ++ one_log place o.exchange) now
      round_more so_far now component r is at says o =
          subst (RoundSays (shapes (map f olds)) (to_those test call (take (place + 1) (shapes (map f olds)))) any_asks_to_end (log ++ one_log place o.exchange)) (sym is) (round_joined so_far component r at says o)

good_joined : {A : Type 0} (P : A → Type 0) (xs : List A) (place : ℕ) (y : A) (so_far : Result Bool BadAnswer) (component : CompId) (r : Result Bool Why) →
    OnOk so_far (All P xs) → OnOk r (P y) → OnOk (joined so_far component r) (All P (set xs place y))
good_joined P xs place y (Ok was) component (Ok asks) all own = All-set P xs place y own all
good_joined P xs place y (Ok was) component (Err why) all own = tt
good_joined P xs place y (Err bad) component r all own = tt

-- what holds of each while all answers are good
pub good_more : {A : Type 0} (P : A → Type 0) (xs : List A) (place : ℕ) (y : A) (so_far now : Result Bool BadAnswer) (component : CompId) (r : Result Bool Why) → now ≡ joined so_far component r →
    OnOk so_far (All P xs) → OnOk r (P y) → OnOk now (All P (set xs place y))
good_more P xs place y so_far now component r is all own = subst (λ (z : Result Bool BadAnswer). OnOk z (All P (set xs place y))) (sym is) (good_joined P xs place y so_far component r all own)
