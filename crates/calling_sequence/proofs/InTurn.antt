-- Several calls to each instance in its turn, one instance after the other.
use Rattle.std.proofs.Common.{◌≡◌, ℕ, suc, zero, ◌+◌, ◌<◌, ◌≤◌, List, [], ◌∷◌, ◌++◌, Ok, Err, refl, sym, ap, ◌∙◌, subst, append_assoc, append-nil, arith, length, get_or, set, map, take, drop}
use Rattle.std.specs.Prelude.{All}
use Rattle.std.proofs.lemmas.List.{length-map, length-take, map-append, map-set, get_or_default, take_all, take_more, take-append-drop}
use Rattle.std.proofs.lemmas.List.Elements.{All-cons, All-head, All-nil, All-tail}
use Rattle.value_types.specs.declared.shape.Shape.{Shape}
use Rattle.fmi_calls.specs.declared.call.Call.{Call}
use Rattle.fmu_peer.specs.declared.peer.Exchange.{Exchange}
use Rattle.fmu_peer.specs.Answer.{IsWhy}
use Rattle.fmu_peer.specs.CloseAll.{Instance}
use Rattle.fmu_peer.specs.Talk.{AllGood, IsGood, calls_in}
use Rattle.slot_calls.specs.declared.bad_answer.BadAnswer.{BadAnswer}
use Rattle.slot_calls.specs.Keeping.{AnswersEach, keeping_calls, restoring_calls}
use Rattle.slot_calls.specs.Log.{ComponentCall, Sent, StopsAfter, component_calls}
use Rattle.slot_calls.specs.Stage.{IsGoodOf, Stage, nothing, shapes}
use Rattle.slot_calls.proofs.CallerLemmas.{SameFrom, map_at, shape_of, stage_cut, stage_cut_later, stage_on}
use Rattle.event_iteration.specs.Waits.{sents}
use Rattle.event_iteration.proofs.Hypothetical.{told_several}
use Rattle.calling_sequence.specs.Calls.{keeping_from, restoring_from}

-- these calls to one component
abbrev pub calls_to : ℕ → List Call → List ComponentCall
calls_to i calls = map (λ (call : Call). record { component = i; call = call }) calls

-- and lists of them, to the components from the i-th on
abbrev pub in_turn_from : ℕ → List (List Call) → List ComponentCall
in_turn_from i [] = []
in_turn_from i (calls ∷ lists) = calls_to i calls ++ in_turn_from (i + 1) lists

abbrev pub keeping_of : List Shape → List (List Call)
keeping_of ss = map (λ (s : Shape). keeping_calls) ss

abbrev pub restoring_of : ℕ → ℕ → List ℕ → List (List Call)
restoring_of point stop sizes = map (λ (size : ℕ). restoring_calls size point stop) sizes

pub keeping_lists : (i : ℕ) (ss : List Shape) → in_turn_from i (keeping_of ss) ≡ keeping_from i ss
keeping_lists i [] = refl
keeping_lists i (s ∷ ss) = ap (λ (cs : List ComponentCall). calls_to i keeping_calls ++ cs) (keeping_lists (i + 1) ss)

pub restoring_lists : (i point stop : ℕ) (sizes : List ℕ) → in_turn_from i (restoring_of point stop sizes) ≡ restoring_from i point stop sizes
restoring_lists i point stop [] = refl
restoring_lists i point stop (size ∷ sizes) = ap (λ (cs : List ComponentCall). calls_to i (restoring_calls size point stop) ++ cs) (restoring_lists (i + 1) point stop sizes)

-- the calls to the instance at a place
pub keeping_at : {A : Type 0} (f : A → Instance) (slots : List A) (k : ℕ) → k < length slots → (k < length (keeping_of (shapes (map f slots)))) × (keeping_calls ≡ get_or (keeping_of (shapes (map f slots))) k keeping_calls)
keeping_at f slots k within =
    let inside : k < length (shapes (map f slots)) = let m = length-map slots f in let n = length-map (map f slots) shape_of in omega (arith, m, n, within) in
    ((let l = length-map (shapes (map f slots)) (λ (s : Shape). keeping_calls) in omega (arith, l, inside)), const_at (shapes (map f slots)) k inside) where
      const_at : (ss : List Shape) (i : ℕ) → i < length ss → keeping_calls ≡ get_or (keeping_of ss) i keeping_calls
      const_at [] i w = absurd (omega (arith, w))
      const_at (s ∷ ss) zero w = refl
      const_at (s ∷ ss) (suc i) w = const_at ss i (omega (arith, w))

pub restoring_at : (point stop : ℕ) (states : List (List ℕ)) (k : ℕ) (state : List ℕ) → k < length states → state ≡ get_or states k state →
    (k < length (restoring_of point stop (map length states))) × (restoring_calls (length state) point stop ≡ get_or (restoring_of point stop (map length states)) k (restoring_calls (length state) point stop))
restoring_at point stop [] k state within is = absurd (omega (arith, within))
restoring_at point stop (x ∷ states) zero state within is = (omega arith, ap (λ (bs : List ℕ). restoring_calls (length bs) point stop) is)
restoring_at point stop (x ∷ states) (suc k) state within is = let rest = restoring_at point stop states k state (omega (arith, within)) is in ((let w = rest.0 in omega (arith, w)), rest.1)

-- ---- one list more

in_turn_append : (k : ℕ) (xs ys : List (List Call)) → in_turn_from k (xs ++ ys) ≡ in_turn_from k xs ++ in_turn_from (k + length xs) ys
in_turn_append k [] ys = ap (λ (n : ℕ). in_turn_from n ys) (omega arith)
in_turn_append k (calls ∷ xs) ys =
    let place : k + 1 + length xs ≡ k + length (calls ∷ xs) = omega arith in
    ap (λ (cs : List ComponentCall). calls_to k calls ++ cs) (in_turn_append (k + 1) xs ys ∙ ap (λ (n : ℕ). in_turn_from (k + 1) xs ++ in_turn_from n ys) place)
    ∙ sym (append_assoc (calls_to k calls) (in_turn_from (k + 1) xs) (in_turn_from (k + length (calls ∷ xs)) ys))

module _ (lists : List (List Call)) (i : ℕ) (calls : List Call) (within : i < length lists) (is : calls ≡ get_or lists i calls) where
  taken : length (take i lists) ≡ i
  taken = let l = length-take i lists in omega (arith, l, within)

  in_turn_more : in_turn_from 0 (take (i + 1) lists) ≡ in_turn_from 0 (take i lists) ++ calls_to i calls
  in_turn_more =
      ap (in_turn_from 0) (take_more lists i calls within) ∙ in_turn_append 0 (take i lists) (get_or lists i calls ∷ [])
      ∙ ap (λ (c : List Call). in_turn_from 0 (take i lists) ++ in_turn_from (0 + length (take i lists)) (c ∷ [])) (sym is)
      ∙ ap (λ (cs : List ComponentCall). in_turn_from 0 (take i lists) ++ cs) (append-nil (calls_to (0 + length (take i lists)) calls))
      ∙ ap (λ (n : ℕ). in_turn_from 0 (take i lists) ++ calls_to n calls) (let t = taken in omega (arith, t))

  in_turn_split : in_turn_from 0 lists ≡ (in_turn_from 0 (take i lists) ++ calls_to i calls) ++ in_turn_from (0 + length (take (i + 1) lists)) (drop (i + 1) lists)
  in_turn_split =
      ap (in_turn_from 0) (sym (take-append-drop (i + 1) lists)) ∙ in_turn_append 0 (take (i + 1) lists) (drop (i + 1) lists)
      ∙ ap (λ (cs : List ComponentCall). cs ++ in_turn_from (0 + length (take (i + 1) lists)) (drop (i + 1) lists)) in_turn_more

  module _ (olds mids news : List Instance) (s : Stage (in_turn_from 0 (take i lists)) nothing olds mids (Ok tt)) where
    -- one component more
    pub in_turn_on : Stage (calls_to i calls) nothing mids news (Ok tt) → Stage (in_turn_from 0 (take (i + 1) lists)) nothing olds news (Ok tt)
    in_turn_on t =
        subst (λ (cs : List ComponentCall). Stage cs nothing olds news (Ok tt)) (sym in_turn_more)
        (stage_on (in_turn_from 0 (take i lists)) (calls_to i calls) nothing nothing nothing olds mids news tt tt tt s t refl)

    -- or a bad answer
    pub in_turn_cut : (bad : BadAnswer) → Stage (calls_to i calls) nothing mids news (Err bad) → Stage (in_turn_from 0 lists) nothing olds news (Err bad)
    in_turn_cut bad t =
        subst (λ (cs : List ComponentCall). Stage cs nothing olds news (Err bad)) (sym in_turn_split)
        (stage_cut (in_turn_from 0 (take i lists) ++ calls_to i calls) _ nothing nothing olds mids news bad (Err bad) refl
        (stage_cut_later (in_turn_from 0 (take i lists)) (calls_to i calls) nothing nothing olds mids news bad (Err bad) refl tt s nothing t))

-- all of them
pub in_turn_all : (lists : List (List Call)) (i : ℕ) (olds news : List Instance) → length lists ≤ i → Stage (in_turn_from 0 (take i lists)) nothing olds news (Ok tt) → Stage (in_turn_from 0 lists) nothing olds news (Ok tt)
in_turn_all lists i olds news over s = subst (λ (ls : List (List Call)). Stage (in_turn_from 0 ls) nothing olds news (Ok tt)) (take_all i lists over) s

-- ---- the calls of one

asked_are : (k : ℕ) (es : List Exchange) → component_calls (sents k es) ≡ calls_to k (calls_in es)
asked_are k [] = refl
asked_are k (e ∷ es) = ap (λ (cs : List ComponentCall). record { component = k; call = e.call } ∷ cs) (asked_are k es)

module _ (xs : List Instance) (k : ℕ) (x y : Instance) (within : k < length xs) (is : x ≡ get_or xs k x) where
  good_all : (es : List Exchange) → AllGood x.view.fixed.shape es → All (IsGoodOf (shapes xs)) (sents k es)
  good_all [] all = All-nil (IsGoodOf (shapes xs))
  good_all (e ∷ es) all =
      All-cons (IsGoodOf (shapes xs)) (record { component = k; exchange = e }) (sents k es)
      (λ d. subst (λ (s : Shape). IsGood s e) (map_at shape_of xs k x d within is) (All-head (IsGood x.view.fixed.shape) e es all)) (good_all es (All-tail (IsGood x.view.fixed.shape) e es all))

  pub turn_well : (calls : List Call) → AnswersEach calls x y → Stage (calls_to k calls) nothing xs (set xs k y) (Ok tt)
  turn_well calls a = record {
    log = sents k a.exchanges;
    told = told_several xs k x y a.exchanges within is a.has;
    says = (record { calls_are = asked_are k a.exchanges ∙ ap (λ (cs : List Call). calls_to k cs) a.calls_are; good = good_all a.exchanges a.good }, refl);
  }

  pub turn_badly : (calls : List Call) (bad : BadAnswer) → bad.component.0 ≡ k → StopsAfter calls bad.why x y → Stage (calls_to k calls) nothing xs (set xs k y) (Err bad)
  turn_badly calls bad at s =
      let es = s.prefix ++ s.last ∷ [] in
      let last : Sent = record { component = k; exchange = s.last } in
      let all : calls_to k calls ≡ component_calls (sents k es) ++ calls_to k s.left =
      ap (λ (cs : List Call). calls_to k cs) s.calls_are ∙ map-append (λ (call : Call). record { component = k; call = call }) (calls_in es) s.left
      ∙ ap (λ (cs : List ComponentCall). cs ++ calls_to k s.left) (sym (asked_are k es)) in
      record {
        log = sents k es;
        told = told_several xs k x y es within is s.has;
        says = record {
          prefix = sents k s.prefix;
          last = last;
          left = calls_to k s.left;
          log_is = map-append (λ (e : Exchange). record { component = k; exchange = e }) s.prefix (s.last ∷ []);
          calls_are = all;
          first = record {
            good = good_all s.prefix s.good;
            component = sym at;
            why = λ d. subst (λ (z : Shape). IsWhy z bad.why s.last) (map_at shape_of xs k x d within is) s.bad;
          };
        };
      }

-- ---- in a loop over slots

module _ {A : Type 0} (f : A → Instance) (olds : List Instance) (news : List A) (lists : List (List Call)) (k : ℕ) (calls : List Call) (listed : k < length lists) (is : calls ≡ get_or lists k calls) (d y : A) (within : k < length news)
    (s : Stage (in_turn_from 0 (take k lists)) nothing olds (map f news) (Ok tt)) where
  there_is : f (get_or news k d) ≡ get_or (map f news) k (f (get_or news k d))
  there_is = map_at f news k (get_or news k d) (f (get_or news k d)) within (get_or_default news k d (get_or news k d) within)

  within_map : k < length (map f news)
  within_map = let m = length-map news f in omega (arith, within, m)

  pub loop_on : AnswersEach calls (f (get_or news k d)) (f y) → Stage (in_turn_from 0 (take (k + 1) lists)) nothing olds (map f (set news k y)) (Ok tt)
  loop_on a =
      subst (λ (l : List Instance). Stage (in_turn_from 0 (take (k + 1) lists)) nothing olds l (Ok tt)) (sym (map-set f news k y))
      (in_turn_on lists k calls listed is olds (map f news) (set (map f news) k (f y)) s (turn_well (map f news) k (f (get_or news k d)) (f y) within_map there_is calls a))

  pub loop_cut : (bad : BadAnswer) → bad.component.0 ≡ k → StopsAfter calls bad.why (f (get_or news k d)) (f y) → Stage (in_turn_from 0 lists) nothing olds (map f (set news k y)) (Err bad)
  loop_cut bad at b =
      subst (λ (l : List Instance). Stage (in_turn_from 0 lists) nothing olds l (Err bad)) (sym (map-set f news k y))
      (in_turn_cut lists k calls listed is olds (map f news) (set (map f news) k (f y)) s bad (turn_badly (map f news) k (f (get_or news k d)) (f y) within_map there_is calls bad at b))

-- the instance in a slot that wasn't reached is as it was
pub seat_at : {A : Type 0} (f : A → Instance) (olds news : List A) {place : ℕ} → SameFrom place olds news → (k : ℕ) → k < length olds → place ≤ k → (s : A) (d : Instance) → f (get_or news k s) ≡ get_or (map f olds) k d
seat_at f olds news rest k within reached s d = ap f (rest.rest k s reached) ∙ map_at f olds k (get_or olds k s) d within (get_or_default olds k s (get_or olds k s) within)
