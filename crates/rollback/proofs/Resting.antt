-- Stands whatever they were asked, and what is told of them by lists of slots.
use Rattle.std.proofs.Common.{◌≡◌, ◌≢◌, cond, nat_lt, ℕ, zero, suc, ◌+◌, ◌<◌, ◌==◌, Bool, true, false, not, List, [], ◌∷◌, Option, Some, None, Result, refl, sym, ap, ap₂, ◌∙◌, arith, length, get_or, map, position}
use Rattle.std.specs.Prelude.{◌&&◌, if◌then◌else◌, count_by}
use Rattle.std.specs.List.{list_all, position_or_len, slice_get}
use Rattle.std.proofs.lemmas.Bool.Decides.{nat_tests}
use Rattle.std.proofs.lemmas.List.Sums.{sum_by-cons}
use Rattle.value_types.proofs.CallerLemmas.{position-map}
use Rattle.fmi_calls.specs.declared.call.Call.{Call}
use Rattle.fmi_calls.specs.declared.call.Call.TheVariants as C
use Rattle.fmi_calls.specs.declared.call.Reply.{Reply}
use Rattle.fmu_peer.specs.declared.peer.Exchange.{Exchange}
use Rattle.fmu_peer.specs.declared.peer.Peer.{Ghosts}
use Rattle.fmu_peer.specs.declared.peer.PeerFault.{PeerFault}
use Rattle.fmu_peer.specs.declared.slot.Slot.{Slot}
use Rattle.fmu_peer.specs.CloseAll.{Instance, instance_in}
use Rattle.fmu_peer.specs.View.{View}
use Rattle.run_model.specs.Steps.{least_or}
use Rattle.slot_calls.specs.Log.{ComponentCall, Sent, part}
use Rattle.slot_calls.specs.Slots.{instances}
use Rattle.slot_calls.specs.Stage.{shapes}
use Rattle.slot_calls.proofs.CallerLemmas.{first_same, rest_same}
use Rattle.step_agreement.specs.Agreement.{Stand, are_at, end_at, is_away, moved, reached, shapes_in, stand_by, stands_by, stands_from, to_some, to_some_from, unfit}
use Rattle.step_agreement.proofs.CallerLemmas.{map_map, other_number}
use Rattle.rollback.specs.Places.{StandSo, at_rest, passes, stand_in, stands}
use Rattle.rollback.specs.declared.places.Who.{Who}
use Rattle.rollback.specs.declared.places.Who.TheVariants as W

-- ---- one stand

rest_moved : (t : ℕ) (s : Stand) (call : Call) (r : Result Reply PeerFault) → at_rest (moved t (at_rest s) call r) ≡ at_rest (moved t s call r)
rest_moved t s (C.DoStep at size) r = refl
rest_moved t s C.Restore r = refl
rest_moved t s call r = refl

pub rest_by : (t : ℕ) (s : Stand) (es : List Exchange) → at_rest (stand_by t (at_rest s) es) ≡ at_rest (stand_by t s es)
rest_by t s [] = refl
rest_by t s (x ∷ es) =
    sym (rest_by t (moved t (at_rest s) x.call x.result) es) ∙ ap (λ (z : Stand). at_rest (stand_by t z es)) (rest_moved t s x.call x.result) ∙ rest_by t (moved t s x.call x.result) es

-- ---- calls to some

pub some_map : {A B : Type 0} (f : A → B) (test : B → Bool) (call : Call) (k : ℕ) (xs : List A) → to_some_from k test call (map f xs) ≡ to_some_from k (λ x. test (f x)) call xs
some_map f test call k [] = refl
some_map f test call k (x ∷ xs) = ap (λ (rest : List ComponentCall). if test (f x) then record { component = k; call = call } ∷ rest else rest) (some_map f test call (k + 1) xs)

-- where the tests agree place by place
pub some_same : {A B : Type 0} (p : A → Bool) (q : B → Bool) (call : Call) (k : ℕ) (xs : List A) (ys : List B) → length ys ≡ length xs → ((i : ℕ) (d : A) (e : B) → i < length xs → q (get_or ys i e) ≡ p (get_or xs i d)) →
    to_some_from k q call ys ≡ to_some_from k p call xs
some_same p q call k [] [] len same = refl
some_same p q call k [] (y ∷ ys) len same = absurd (omega (arith, len))
some_same p q call k (x ∷ xs) [] len same = absurd (omega (arith, len))
some_same p q call k (x ∷ xs) (y ∷ ys) len same =
    ap₂ (λ (b : Bool) (rest : List ComponentCall). if b then record { component = k; call = call } ∷ rest else rest) (same 0 x y (omega arith))
    (some_same p q call (k + 1) xs ys (omega (arith, len)) (λ i d e w. same (suc i) d e (omega (arith, w))))

passes_rest : (who : Who) (call : Call) (ss : List Stand) → to_some (λ s. passes who (at_rest s)) call ss ≡ to_some (passes who) call ss
passes_rest W.Everyone call ss = refl
passes_rest (W.Saved early) call ss = refl
passes_rest W.Early call ss = refl
passes_rest (W.Elsewhere m) call ss = refl
passes_rest (W.EndElsewhere t bound m) call ss = refl

away_rest : (who : Who) (t : ℕ) (call : Call) (ss : List Stand) → to_some (λ s. is_away t (passes who) (at_rest s)) call ss ≡ to_some (is_away t (passes who)) call ss
away_rest W.Everyone t call ss = refl
away_rest (W.Saved early) t call ss = refl
away_rest W.Early t call ss = refl
away_rest (W.Elsewhere m) t call ss = refl
away_rest (W.EndElsewhere from bound m) t call ss = refl

unfit_rest : (who : Who) (step size : ℕ) (ss : List Stand) → unfit step size (passes who) (map at_rest ss) ≡ unfit step size (passes who) ss
unfit_rest W.Everyone step size ss = ap (λ (o : Option ℕ). if size == step then None else o) (position-map at_rest (λ (s : Stand). passes W.Everyone s && not s.shape.has_variable_steps) ss)
unfit_rest (W.Saved early) step size ss = ap (λ (o : Option ℕ). if size == step then None else o) (position-map at_rest (λ (s : Stand). passes (W.Saved early) s && not s.shape.has_variable_steps) ss)
unfit_rest W.Early step size ss = ap (λ (o : Option ℕ). if size == step then None else o) (position-map at_rest (λ (s : Stand). passes W.Early s && not s.shape.has_variable_steps) ss)
unfit_rest (W.Elsewhere m) step size ss = ap (λ (o : Option ℕ). if size == step then None else o) (position-map at_rest (λ (s : Stand). passes (W.Elsewhere m) s && not s.shape.has_variable_steps) ss)
unfit_rest (W.EndElsewhere t bound m) step size ss = ap (λ (o : Option ℕ). if size == step then None else o) (position-map at_rest (λ (s : Stand). passes (W.EndElsewhere t bound m) s && not s.shape.has_variable_steps) ss)

all_map : {A B : Type 0} (f : A → B) (test : B → Bool) (xs : List A) → list_all test (map f xs) ≡ list_all (λ x. test (f x)) xs
all_map f test [] = refl
all_map f test (x ∷ xs) = ap (λ (b : Bool). test (f x) && b) (all_map f test xs)

pub count_map : {A B : Type 0} (f : A → B) (p : B → Bool) (xs : List A) → count_by p (map f xs) ≡ count_by (λ x. p (f x)) xs
count_map f p [] = refl
count_map f p (x ∷ xs) = sum_by-cons (λ y. cond (p y) 1 0) (f x) (map f xs) ∙ ap (λ (n : ℕ). cond (p (f x)) 1 0 + n) (count_map f p xs) ∙ sym (sum_by-cons (λ y. cond (p (f y)) 1 0) x xs)

-- ---- stands of slots

module _ {L : Type 0} {g : Ghosts L} (view : L → View) where
  -- the slots' own
  pub stands_own : (slots : List (Slot L g)) → StandSo view (stands view slots) slots
  stands_own slots = map_map (λ (s : Slot L g). stand_in view s) at_rest slots

  pub shapes_own : (slots : List (Slot L g)) → shapes_in (stands view slots) ≡ shapes (instances view slots)
  shapes_own slots = map_map (λ (s : Slot L g). stand_in view s) (λ (s : Stand). s.shape) slots ∙ sym (map_map (λ (s : Slot L g). instance_in view s) (λ (i : Instance). i.view.fixed.shape) slots)

  module _ (ss : List Stand) (slots : List (Slot L g)) (so : StandSo view ss slots) where
    pub shapes_so : shapes_in ss ≡ shapes (instances view slots)
    shapes_so = sym (map_map at_rest (λ (s : Stand). s.shape) ss) ∙ ap shapes_in so ∙ shapes_own slots

    pub passes_so : (who : Who) (call : Call) → to_some (passes who) call ss ≡ to_some (passes who) call (stands view slots)
    passes_so who call = sym (passes_rest who call ss) ∙ sym (some_map at_rest (passes who) call 0 ss) ∙ ap (to_some (passes who) call) so

    pub away_so : (who : Who) (t : ℕ) (call : Call) → to_some (is_away t (passes who)) call ss ≡ to_some (is_away t (passes who)) call (stands view slots)
    away_so who t call = sym (away_rest who t call ss) ∙ sym (some_map at_rest (is_away t (passes who)) call 0 ss) ∙ ap (to_some (is_away t (passes who)) call) so

    pub unfit_so : (who : Who) (step size : ℕ) → unfit step size (passes who) ss ≡ unfit step size (passes who) (stands view slots)
    unfit_so who step size = sym (unfit_rest who step size ss) ∙ ap (unfit step size (passes who)) so

    pub reached_so : (t b : ℕ) → reached t b ss ≡ least_or b (map (λ (s : Slot L g). end_at t b (stand_in view s)) slots)
    reached_so t b = ap (least_or b) (sym (map_map at_rest (end_at t b) ss) ∙ ap (map (end_at t b)) so ∙ map_map (λ (s : Slot L g). stand_in view s) (end_at t b) slots)

    pub are_at_so : (m : ℕ) → are_at m ss ≡ list_all (λ (s : Slot L g). (stand_in view s).point == m) slots
    are_at_so m =
        sym (all_map at_rest (λ (s : Stand). s.point == m) ss) ∙ ap (list_all (λ (s : Stand). s.point == m)) so ∙ all_map (λ (s : Slot L g). stand_in view s) (λ (s : Stand). s.point == m) slots

  -- one of them
  pub stand_at : (ss : List Stand) (slots : List (Slot L g)) → StandSo view ss slots → (k : ℕ) (d : Slot L g) → k < length slots → (y : Stand) × (slice_get ss k ≡ Some y) × (at_rest y ≡ stand_in view (get_or slots k d))
  stand_at ss [] so k d w = absurd (omega (arith, w))
  stand_at [] (s ∷ slots) so k d w = absurd (cc)
  stand_at (y ∷ ss) (s ∷ slots) so zero d w = (y, refl, first_same (at_rest y) (stand_in view s) (map at_rest ss) (stands view slots) so)
  stand_at (y ∷ ss) (s ∷ slots) so (suc k) d w = stand_at ss slots (rest_same (at_rest y) (stand_in view s) (map at_rest ss) (stands view slots) so) k d (omega (arith, w))

  -- after a log
  module _ (t : ℕ) (log : List Sent) where
    so_from : (k : ℕ) (ss : List Stand) (olds news : List (Slot L g)) → StandSo view ss olds → length news ≡ length olds →
        ((i : ℕ) (d : Slot L g) → i < length olds → stand_in view (get_or news i d) ≡ at_rest (stand_by t (stand_in view (get_or olds i d)) (part (k + i) log))) → StandSo view (stands_from t k ss log) news
    so_from k [] [] [] so len each = refl
    so_from k [] [] (n ∷ ns) so len each = absurd (omega (arith, len))
    so_from k [] (o ∷ os) news so len each = absurd (cc)
    so_from k (s ∷ ss) [] news so len each = absurd (cc)
    so_from k (s ∷ ss) (o ∷ os) [] so len each = absurd (omega (arith, len))
    so_from k (s ∷ ss) (o ∷ os) (n ∷ ns) so len each =
        let place : k + 0 ≡ k = omega arith in
        let here : at_rest s ≡ stand_in view o = first_same (at_rest s) (stand_in view o) (map at_rest ss) (stands view os) so in
        ap₂ ◌∷◌
        (sym (rest_by t s (part k log)) ∙ ap (λ (z : Stand). at_rest (stand_by t z (part k log))) here ∙ ap (λ (i : ℕ). at_rest (stand_by t (stand_in view o) (part i log))) (sym place) ∙ sym (each 0 o (omega arith)))
        (so_from (suc k) ss os ns (rest_same (at_rest s) (stand_in view o) (map at_rest ss) (stands view os) so) (omega (arith, len))
        (λ i d w. let next : suc k + i ≡ k + suc i = omega arith in each (suc i) d (omega (arith, w)) ∙ ap (λ (j : ℕ). at_rest (stand_by t (stand_in view (get_or os i d)) (part j log))) (sym next)))

    pub after_part : (ss : List Stand) (olds news : List (Slot L g)) → StandSo view ss olds → length news ≡ length olds →
        ((i : ℕ) (d : Slot L g) → i < length olds → stand_in view (get_or news i d) ≡ at_rest (stand_by t (stand_in view (get_or olds i d)) (part i log))) → StandSo view (stands_by t ss log) news
    after_part ss olds news so len each =
        so_from 0 ss olds news so len (λ i d w. let place : 0 + i ≡ i = omega arith in each i d w ∙ ap (λ (j : ℕ). at_rest (stand_by t (stand_in view (get_or olds i d)) (part j log))) (sym place))

-- ---- the code's words

module _ {L : Type 0} {g : Ghosts L} (view : L → View) where
  pub unfit_counted : (who : Who) (step size : ℕ) (slots : List (Slot L g)) → size ≢ step → (o : Option ℕ) → o ≡ position (λ (s : Slot L g). passes who (stand_in view s) && not (stand_in view s).shape.has_variable_steps) slots → o ≡ unfit step size (passes who) (stands view slots)
  unfit_counted who step size slots ne o is =
      is ∙ sym (position-map (λ (s : Slot L g). stand_in view s) (λ (s : Stand). passes who s && not s.shape.has_variable_steps) slots)
      ∙ sym (ap (λ (x : Bool). if x then None else position (λ (s : Stand). passes who s && not s.shape.has_variable_steps) (stands view slots)) (other_number size step ne))

-- ---- sizes

found_step : {A : Type 0} (p : A → Bool) (x : A) (xs : List A) (d : A) → ((i : ℕ) → i < length xs → p (get_or xs i d) ≡ true → position_or_len p xs < length xs) → (b : Bool) → p x ≡ b →
    (i : ℕ) → i < length (x ∷ xs) → p (get_or (x ∷ xs) i d) ≡ true → position_or_len p (x ∷ xs) < length (x ∷ xs)
found_step p x xs d more true q i w h = let e : position_or_len p (x ∷ xs) ≡ 0 = ap (λ (b : Bool). cond (not b) (1 + position_or_len p xs) 0) q in omega (arith, e)
found_step p x xs d more false q zero w h = absurd (cc)
found_step p x xs d more false q (suc i) w h =
    let e : position_or_len p (x ∷ xs) ≡ 1 + position_or_len p xs = ap (λ (b : Bool). cond (not b) (1 + position_or_len p xs) 0) q in
    let rest : position_or_len p xs < length xs = more i (omega (arith, w)) h in
    omega (arith, e, rest)

found_len : {A : Type 0} (p : A → Bool) (xs : List A) (i : ℕ) (d : A) → i < length xs → p (get_or xs i d) ≡ true → position_or_len p xs < length xs
found_len p [] i d w h = absurd (omega (arith, w))
found_len p (x ∷ xs) i d w h = found_step p x xs d (λ k inside passed. found_len p xs k d inside passed) (p x) refl i w h

-- where none is found, none passes
pub none_passes : {A : Type 0} (p : A → Bool) (xs : List A) → position p xs ≡ None → (i : ℕ) (d : A) → i < length xs → p (get_or xs i d) ≡ false
none_passes p xs none i d w = by (p (get_or xs i d)) refl where
  by : (b : Bool) → p (get_or xs i d) ≡ b → b ≡ false
  by false h = refl
  by true h =
      let below : nat_lt (position_or_len p xs) (length xs) ≡ true = (let l = found_len p xs i d w h in grind (arith, nat_tests)) in
      absurd (let wrong : Some (position_or_len p xs) ≡ None = ap (λ (b : Bool). cond b (Some (position_or_len p xs)) None) (sym below) ∙ none in cc)
