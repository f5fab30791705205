-- What an agreed step comes to, where all are asked first and each step ends as a function of its bound says.
use Rattle.std.proofs.Common.{◌≡◌, ◌≢◌, ◌⊎◌, inl, inr, ℕ, zero, suc, ◌+◌, ◌-◌, ◌<◌, ◌≤◌, ◌==◌, Bool, true, false, not, cond, nat_lt, List, [], ◌∷◌, ◌++◌, Option, Some, None, refl, sym, ap, ap₂, ◌∙◌, subst, arith, length, get_or, map, position}
use Rattle.std.specs.Prelude.{All, ◌&&◌, if◌then◌else◌, filter}
use Rattle.std.specs.List.{list_all, prefix_len, position_or_len, slice_get}
use Rattle.std.specs.Option.{option_map}
use Rattle.std.proofs.lemmas.Bool.Decides.{nat_tests}
use Rattle.std.proofs.lemmas.List.Elements.{All-head, All-tail, All-nil, All-cons}
use Rattle.std.proofs.lemmas.Option.{none-some as none_some, same_Some, slice_get-map, slice_get-get_or, get_or_from_slice_get, slice_get_within}
use Rattle.value_types.specs.declared.shape.Shape.{Shape}
use Rattle.value_types.proofs.CallerLemmas.{position-map}
use Rattle.fmu_peer.specs.declared.peer.Exchange.{Exchange}
use Rattle.run_model.specs.Steps as M
use Rattle.run_model.specs.Steps.{Agree, FixedStep, MayAsk, MayAskAgain, OthersEnd, Stepper, StopsShort, fallen_bound, is_other, kept_ask, least_or, met, others}
use Rattle.slot_calls.specs.Log.{Sent, part}
use Rattle.slot_calls.proofs.CallerLemmas.{part_append}
use Rattle.step_agreement.specs.Agreement.{Agrees, Asks, Fails, FirstMeet, FirstStops, GoesAnew, InBack, InStep, IsUnfit, Meets, NextMeet, NextStops, Outcome, Stand, Unfit, are_at, comes_first, end_at, ends_elsewhere, everyone, is_elsewhere, moved, reached, stand_by, stands_by, stands_from, unfit}
use Rattle.step_agreement.specs.Ends.{AgreesByLog, AllOfThem, AreEnds, ComeFirst, OneAlone, ComesFrom, ResultAt, EndsAs, EndsSo, Fmu, asks_in, stepper_of}
use Rattle.step_agreement.proofs.Lists.{Each, Holds, Passes, all_each, filter_from, filter_in, least_is, least_low, least_of_some, map_each, map_map, not_all, position_none}
use Rattle.step_agreement.proofs.Moves.{IsEnd, all_ends, all_moved, other_number, same_number}

-- ---- lists

equal : (a b : ℕ) → (a == b) ≡ true → a ≡ b
equal a b q = grind (arith, nat_tests)

unequal : (a b : ℕ) → (a == b) ≡ false → a ≢ b
unequal a b q = grind (arith, nat_tests)

pub all_of_each : {A : Type 0} (P : A → Type 0) (xs : List A) → Each P xs → All P xs
all_of_each P xs h = λ k d w. h k (get_or xs k d) (slice_get-get_or xs k d w)

pub each_of_all : {A : Type 0} (P : A → Type 0) (xs : List A) → All P xs → Each P xs
each_of_all P xs h = λ i x at. subst P (get_or_from_slice_get xs i x x at) (h i x (slice_get_within xs i x at))

all_map : {A B : Type 0} (f : A → B) (p : B → Bool) (xs : List A) → list_all p (map f xs) ≡ list_all (λ x. p (f x)) xs
all_map f p [] = refl
all_map f p (x ∷ xs) = ap (λ b. p (f x) && b) (all_map f p xs)

pub at_map : {A B : Type 0} (f : A → B) (xs : List A) (i : ℕ) (x : A) → slice_get xs i ≡ Some x → slice_get (map f xs) i ≡ Some (f x)
at_map f xs i x at = slice_get-map f xs i ∙ ap (option_map f) at

unmap : {A B : Type 0} (f : A → B) (xs : List A) (i : ℕ) (y : B) → slice_get (map f xs) i ≡ Some y → (x : A) × (slice_get xs i ≡ Some x) × (y ≡ f x)
unmap f [] i y at = absurd (none_some y at)
unmap f (x ∷ xs) zero y at = (x, refl, sym (same_Some (f x) y at))
unmap f (x ∷ xs) (suc i) y at = unmap f xs i y at

each_map : {A B : Type 0} (f : A → B) (P : B → Type 0) (xs : List A) → Each (λ x. P (f x)) xs → Each P (map f xs)
each_map f P [] h i y at = absurd (none_some y at)
each_map f P (x ∷ xs) h zero y at = subst P (same_Some (f x) y at) (h 0 x refl)
each_map f P (x ∷ xs) h (suc i) y at = each_map f P xs (λ j z e. h (suc j) z e) i y at

prefix_same : {A : Type 0} (p q : A → Bool) (xs : List A) → Each (λ x. p x ≡ q x) xs → prefix_len p xs ≡ prefix_len q xs
prefix_same p q [] h = refl
prefix_same p q (x ∷ xs) h = ap₂ (λ b n. cond b (1 + n) 0) (h 0 x refl) (prefix_same p q xs (λ i y at. h (suc i) y at))

position_same : {A : Type 0} (p q : A → Bool) (xs : List A) → Each (λ x. p x ≡ q x) xs → position p xs ≡ position q xs
position_same p q xs h =
    let same : position_or_len p xs ≡ position_or_len q xs = prefix_same (λ x. not (p x)) (λ x. not (q x)) xs (λ i x at. ap not (h i x at)) in
    ap (λ n. cond (nat_lt n (length xs)) (Some n) None) same

-- ---- one log after another

pub stand_on : (t : ℕ) (s : Stand) (es fs : List Exchange) → stand_by t s (es ++ fs) ≡ stand_by t (stand_by t s es) fs
stand_on t s [] fs = refl
stand_on t s (e ∷ es) fs = stand_on t (moved t s e.call e.result) es fs

stands_on_from : (t k : ℕ) (ss : List Stand) (a b : List Sent) → stands_from t k ss (a ++ b) ≡ stands_from t k (stands_from t k ss a) b
stands_on_from t k [] a b = refl
stands_on_from t k (s ∷ ss) a b = ap₂ ◌∷◌ (ap (stand_by t s) (part_append k a b) ∙ stand_on t s (part k a) (part k b)) (stands_on_from t (suc k) ss a b)

pub stands_on : (t : ℕ) (ss : List Stand) (a b : List Sent) → stands_by t ss (a ++ b) ≡ stands_by t (stands_by t ss a) b
stands_on t ss a b = stands_on_from t 0 ss a b

pub all_prefix : (P : Exchange → Type 0) (es fs : List Exchange) → All P (es ++ fs) → All P es
all_prefix P [] fs h = All-nil P
all_prefix P (e ∷ es) fs h = All-cons P e es (All-head P e (es ++ fs) h) (all_prefix P es fs (All-tail P e (es ++ fs) h))

pub all_back : (P : Exchange → Type 0) (es fs : List Exchange) → All P (es ++ fs) → All P fs
all_back P [] fs h = h
all_back P (e ∷ es) fs h = all_back P es fs (All-tail P e (es ++ fs) h)

pub ends_prefix : (t : ℕ) (fmus : List Fmu) (a b : List Sent) → AreEnds t fmus (a ++ b) → AreEnds t fmus a
ends_prefix t fmus a b h i f at = all_prefix (EndsSo t f) (part i a) (part i b) (subst (EndsAs t f) (part_append i a b) (h i f at))

pub ends_back : (t : ℕ) (fmus : List Fmu) (a b : List Sent) → AreEnds t fmus (a ++ b) → AreEnds t fmus b
ends_back t fmus a b h i f at = all_back (EndsSo t f) (part i a) (part i b) (subst (EndsAs t f) (part_append i a b) (h i f at))

-- ---- sizes

unfit_none : (b : Bool) (size step i : ℕ) (o : Option ℕ) → (size == step) ≡ b → (if b then None else o) ≡ None → size ≢ step → o ≡ Some i → ⊥
unfit_none true size step i o e h differs is = absurd (differs (equal size step e))
unfit_none false size step i o e h differs is = absurd (none_some i (sym h ∙ is))

unfit_some : (b : Bool) (size step i : ℕ) (o : Option ℕ) → (size == step) ≡ b → (if b then None else o) ≡ Some i → (size ≢ step) × (o ≡ Some i)
unfit_some true size step i o e h = absurd (none_some i h)
unfit_some false size step i o e h = (unequal size step e, h)

module _ (t step : ℕ) (fmus : List Fmu) where
  abbrev pub steppers : List Stepper
  steppers = map stepper_of fmus

  module _ (stand : Fmu → Stand) (test : Stand → Bool) (is_asked : Stepper → Bool) (e : ℕ)
      (same : Each (λ (f : Fmu). (test (stand f) && not (stand f).shape.has_variable_steps) ≡ (is_asked (stepper_of f) && not f.shape.has_variable_steps)) fmus) where
    abbrev pub unvaried : Stand → Bool
    unvaried s = test s && not s.shape.has_variable_steps

    abbrev pub fixed : Stepper → Bool
    fixed x = is_asked x && not x.has_variable_steps

    places : position unvaried (map stand fmus) ≡ position fixed steppers
    places =
        position-map stand unvaried fmus ∙ position_same (λ f. unvaried (stand f)) (λ f. fixed (stepper_of f)) fmus same ∙ sym (position-map stepper_of fixed fmus)

    pub may : unfit step (e - t) test (map stand fmus) ≡ None → (i : ℕ) → FixedStep steppers is_asked t step i e → ⊥
    may fits i f = unfit_none ((e - t) == step) (e - t) step i (position unvaried (map stand fmus)) refl fits f.other_size (places ∙ f.least)

    lacks : (i : ℕ) → unfit step (e - t) test (map stand fmus) ≡ Some i → FixedStep steppers is_asked t step i e
    lacks i h =
        let so = unfit_some ((e - t) == step) (e - t) step i (position unvaried (map stand fmus)) refl h in
        record { other_size = so.0; least = sym places ∙ so.1 }

  -- ---- one FMU at its place

  abbrev pub stand_of : (Fmu → ℕ) → (Fmu → ℕ) → Fmu → Stand
  stand_of g q f = record { shape = f.shape; point = g f; ask = q f }

  module _ (first : Shape → Bool) (who : ComeFirst first t fmus) where
    -- one that doesn't come first ends where it is asked to
    pub whole : Each (λ (f : Fmu). first f.shape ≡ false → (e : ℕ) → t < e → f.end e ≡ e) fmus
    whole i f at un e later = by who where
      by : ComeFirst first t fmus → f.end e ≡ e
      by (AllOfThem all) = absurd (let h : true ≡ false = sym (all i f at) ∙ un in cc)
      by (OneAlone one others) = others i f e at un later

    -- ---- after the first asking, for the bound b
    module _ (g q : Fmu → ℕ) (waits : Each (λ (f : Fmu). first f.shape ≡ false → g f ≡ t) fmus) (b : ℕ) (later : t < b) (prefix : List Sent) (asks : Asks t step everyone (comes_first first) b (map (stand_of g q) fmus) prefix) (ends : AreEnds t fmus prefix) where
      abbrev pub first_points : Fmu → ℕ
      first_points f = if first f.shape then f.end b else g f

      abbrev pub first_asks : Fmu → ℕ
      first_asks f = if first f.shape then b else q f

      abbrev pub firsts : List Stand
      firsts = map (stand_of first_points first_asks) fmus

      pub firsts_are : stands_by t (map (stand_of g q) fmus) prefix ≡ firsts
      firsts_are = all_moved t step everyone (comes_first first) b fmus (stand_of g q) prefix asks ends later

      -- where one stands then
      pub asked_point : (f : Fmu) → first f.shape ≡ true → first_points f ≡ f.end b
      asked_point f is = ap (λ (x : Bool). if x then f.end b else g f) is

      pub waiting_point : (i : ℕ) (f : Fmu) → slice_get fmus i ≡ Some f → first f.shape ≡ false → first_points f ≡ t
      waiting_point i f at is = ap (λ (x : Bool). if x then f.end b else g f) is ∙ waits i f at is

      end_of_first : (i : ℕ) (f : Fmu) → slice_get fmus i ≡ Some f → (x : Bool) → first f.shape ≡ x → (t < f.end b) × (f.end b ≤ b)
      end_of_first i f at true is =
          let e = all_ends t step everyone (comes_first first) b fmus (stand_of g q) prefix asks ends later i f at is in
          let l = e.later in let w = e.within in (l, omega (arith, w, later))
      end_of_first i f at false is = let e = whole i f at is b later in (omega (arith, e, later), omega (arith, e))

      first_later : Each (λ (f : Fmu). t < f.end b) fmus
      first_later i f at = (end_of_first i f at (first f.shape) refl).0

      pub first_within : Each (λ (f : Fmu). f.end b ≤ b) fmus
      first_within i f at = (end_of_first i f at (first f.shape) refl).1

      -- one that wasn't asked counts as ending at the bound
      end_here : Each (λ (f : Fmu). end_at t b (stand_of first_points first_asks f) ≡ f.end b) fmus
      end_here i f at = by (first f.shape) refl where
        by : (x : Bool) → first f.shape ≡ x → end_at t b (stand_of first_points first_asks f) ≡ f.end b
        by true is =
            ap (λ (n : ℕ). if n == t then b else n) (asked_point f is)
            ∙ ap (λ (y : Bool). if y then b else f.end b) (other_number (f.end b) t (let l = first_later i f at in omega (arith, l)))
        by false is =
            let point = waiting_point i f at is in
            ap (λ (y : Bool). if y then b else first_points f) (same_number (first_points f) t point) ∙ sym (whole i f at is b later)

      ends_here : map (end_at t b) firsts ≡ map (λ (x : Stepper). x.end b) steppers
      ends_here =
          map_map (stand_of first_points first_asks) (end_at t b) fmus
          ∙ map_each (λ f. end_at t b (stand_of first_points first_asks f)) (λ f. f.end b) fmus end_here
          ∙ sym (map_map stepper_of (λ (x : Stepper). x.end b) fmus)

      met_is : reached t b firsts ≡ met steppers b
      met_is = ap (least_or b) ends_here

      pub may_first : MayAsk steppers t step b
      may_first = may (stand_of g q) everyone (λ x. true) b (λ i f at. refl) asks.fits

      -- the least end
      module _ (m : ℕ) (m_is : m ≡ reached t b firsts) where
        pub m_met : m ≡ met steppers b
        m_met = m_is ∙ met_is

        pub low : Each (λ (f : Fmu). m ≤ f.end b) fmus
        low i f at =
            let l = least_low (λ (x : Stepper). x.end b) b steppers i (stepper_of f) (at_map stepper_of fmus i f at) in
            let e = m_met in
            omega (arith, l, e)

        pub m_later : t < m
        m_later = by (least_is (λ (x : Stepper). x.end b) b steppers) where
          by : ((least_or b (map (λ (x : Stepper). x.end b) steppers) ≡ b) × (steppers ≡ [])) ⊎ ((x : Stepper) × Holds steppers x × (least_or b (map (λ (x : Stepper). x.end b) steppers) ≡ x.end b)) → t < m
          by (inl none) = let e = m_met in let n = none.0 in omega (arith, e, n, later)
          by (inr one) =
              let l = each_map stepper_of (λ (x : Stepper). t < x.end b) fmus first_later one.1.0 one.0 one.1.1 in
              let e = m_met in let n = one.2 in omega (arith, e, n, l)

        -- one that stands there was asked, and ended there
        at_end : (i : ℕ) (f : Fmu) → slice_get fmus i ≡ Some f → first_points f ≡ m → (first f.shape ≡ true) × (f.end b ≡ m)
        at_end i f at is = by (first f.shape) refl where
          by : (x : Bool) → first f.shape ≡ x → (first f.shape ≡ true) × (f.end b ≡ m)
          by true h = (h, sym (asked_point f h) ∙ is)
          by false h = absurd (let p = waiting_point i f at h in let l = m_later in omega (arith, p, l, is))

        -- one that doesn't ended elsewhere, where the bound is elsewhere
        not_end : (i : ℕ) (f : Fmu) → slice_get fmus i ≡ Some f → m ≢ b → first_points f ≢ m → f.end b ≢ m
        not_end i f at apart h = by (first f.shape) refl where
          by : (x : Bool) → first f.shape ≡ x → f.end b ≢ m
          by true is e = h (asked_point f is ∙ e)
          by false is e = apart (sym e ∙ whole i f at is b later)

        -- where all are there
        module _ (there : are_at m firsts ≡ true) where
          at_m : Each (λ (f : Fmu). first_points f ≡ m) fmus
          at_m i f at = equal (first_points f) m (all_each (λ (x : Fmu). first_points x == m) fmus (sym (all_map (stand_of first_points first_asks) (λ (s : Stand). s.point == m) fmus) ∙ there) i f at)

          ask_is : Each (λ (f : Fmu). first_asks f ≡ b) fmus
          ask_is i f at = ap (λ (x : Bool). if x then b else q f) (at_end i f at (at_m i f at)).0

          none_other : Each (λ (x : Stepper). is_other b m x ≡ false) steppers
          none_other = each_map stepper_of (λ (x : Stepper). is_other b m x ≡ false) fmus (λ i f at. ap not (same_number (f.end b) m (at_end i f at (at_m i f at)).1))

          first_agree_by : (n : Bool) → (m == b) ≡ n → Agree steppers t step b (asks_in firsts) m
          first_agree_by true is =
              let e = equal m b is in
              M.AllMeet b (asks_in firsts) m may_first (sym m_met ∙ e)
              (map_map (stand_of first_points first_asks) (λ (s : Stand). s.ask) fmus ∙ map_each first_asks (λ f. b) fmus ask_is ∙ sym (map_map stepper_of (λ (x : Stepper). b) fmus)) e
          first_agree_by false is =
              M.OthersMeet b (asks_in firsts) m may_first (λ (e : met steppers b ≡ b). unequal m b is (m_met ∙ e))
              (subst (λ (n : ℕ). (i : ℕ) → FixedStep steppers (is_other b n) t step i n → ⊥) m_met again)
              (subst (λ (n : ℕ). All (λ (f : Stepper). f.end n ≡ n) (filter (is_other b n) steppers)) m_met others_end)
              (map_map (stand_of first_points first_asks) (λ (s : Stand). s.ask) fmus
              ∙ map_each first_asks (λ f. kept_ask b (met steppers b) (stepper_of f)) fmus (λ i f at. ask_is i f at ∙ ap (λ (x : Bool). if x then b else met steppers b) (sym (same_number (f.end b) (met steppers b) ((at_end i f at (at_m i f at)).1 ∙ m_met))))
              ∙ sym (map_map stepper_of (kept_ask b (met steppers b)) fmus))
              m_met where
                again : (i : ℕ) → FixedStep steppers (is_other b m) t step i m → ⊥
                again i f = none_some i (sym (position_none (λ (x : Stepper). is_other b m x && not x.has_variable_steps) steppers (λ k x at. ap (λ (y : Bool). y && not x.has_variable_steps) (none_other k x at))) ∙ f.least)

                others_end : All (λ (f : Stepper). f.end m ≡ m) (filter (is_other b m) steppers)
                others_end = all_of_each (λ (f : Stepper). f.end m ≡ m) (filter (is_other b m) steppers) (λ j x at.
                    let from = filter_from (is_other b m) steppers j x at in
                    absurd (let c : true ≡ false = sym from.1 ∙ none_other from.0.0 x from.0.1 in cc))

          pub first_agree : Agree steppers t step b (asks_in firsts) m
          first_agree = first_agree_by (m == b) refl

        abbrev pub other_stand : Stand → Bool
        other_stand s = ends_elsewhere t b m s

        pub same_other : Each (λ (f : Fmu). (other_stand (stand_of first_points first_asks f) && not f.shape.has_variable_steps) ≡ (is_other b m (stepper_of f) && not f.shape.has_variable_steps)) fmus
        same_other i f at = ap (λ (n : ℕ). not (n == m) && not f.shape.has_variable_steps) (end_here i f at)

        -- one of the others takes no such step: then the bound is another
        differs : (i : ℕ) → unfit step (m - t) other_stand firsts ≡ Some i → met steppers b ≢ b
        differs i h e =
            let f = lacks (stand_of first_points first_asks) other_stand (is_other b m) m same_other i h in
            none_some i (sym (position_none (λ (x : Stepper). is_other b m x && not x.has_variable_steps) steppers (each_map stepper_of (λ (x : Stepper). (is_other b m x && not x.has_variable_steps) ≡ false) fmus (λ k x at.
            let l = low k x at in let w = first_within k x at in let d = m_met in
            ap (λ (y : Bool). not y && not x.shape.has_variable_steps) (same_number (x.end b) m (omega (arith, l, w, d, e)))))) ∙ f.least)

        lacks_again : (i : ℕ) → unfit step (m - t) other_stand firsts ≡ Some i → StopsShort steppers t step b i m
        lacks_again i h =
            M.StopsAgain b i m may_first (differs i h)
            (subst (λ (n : ℕ). FixedStep steppers (is_other b n) t step i n) m_met (lacks (stand_of first_points first_asks) other_stand (is_other b m) m same_other i h))
            m_met

        -- the others were asked for it
        module _ (back : List Sent) (asks2 : Asks t step other_stand (is_elsewhere m) m firsts back) (ends2 : AreEnds t fmus back) where
          pub may_again : MayAskAgain steppers t step b
          may_again = subst (λ (n : ℕ). (i : ℕ) → FixedStep steppers (is_other b n) t step i n → ⊥) m_met (may (stand_of first_points first_asks) other_stand (is_other b m) m same_other asks2.fits)

          abbrev pub next_points : Fmu → ℕ
          next_points f = if not (first_points f == m) then f.end m else first_points f

          abbrev pub next_asks : Fmu → ℕ
          next_asks f = if not (first_points f == m) then m else first_asks f

          abbrev pub nexts : List Stand
          nexts = map (stand_of next_points next_asks) fmus

          pub nexts_are : stands_by t firsts back ≡ nexts
          nexts_are = all_moved t step other_stand (is_elsewhere m) m fmus (stand_of first_points first_asks) back asks2 ends2 m_later

          next_ends : Each (λ (f : Fmu). not (first_points f == m) ≡ true → IsEnd f.shape t (m - t) (f.end m)) fmus
          next_ends = all_ends t step other_stand (is_elsewhere m) m fmus (stand_of first_points first_asks) back asks2 ends2 m_later

          there_ask : (i : ℕ) (f : Fmu) → slice_get fmus i ≡ Some f → (x : Bool) → (first_points f == m) ≡ x → next_asks f ≡ (if x then b else m)
          there_ask i f at true is =
              ap (λ (y : Bool). if not y then m else first_asks f) is ∙ ap (λ (y : Bool). if y then b else q f) (at_end i f at (equal (first_points f) m is)).0
          there_ask i f at false is = ap (λ (y : Bool). if not y then m else first_asks f) is

          -- they met there
          module _ (there : are_at m nexts ≡ true) where
            next_at : Each (λ (f : Fmu). next_points f ≡ m) fmus
            next_at i f at = equal (next_points f) m (all_each (λ (x : Fmu). next_points x == m) fmus (sym (all_map (stand_of next_points next_asks) (λ (s : Stand). s.point == m) fmus) ∙ there) i f at)

            other_ends : (i : ℕ) (f : Fmu) → slice_get fmus i ≡ Some f → f.end b ≢ m → f.end m ≡ m
            other_ends i f at h = by (first_points f == m) refl where
              by : (x : Bool) → (first_points f == m) ≡ x → f.end m ≡ m
              by true is = absurd (h (at_end i f at (equal (first_points f) m is)).1)
              by false is = sym (ap (λ (y : Bool). if not y then f.end m else first_points f) is) ∙ next_at i f at

            others_end : Each (λ (x : Stepper). is_other b m x ≡ true → x.end m ≡ m) steppers
            others_end = each_map stepper_of (λ (x : Stepper). is_other b m x ≡ true → x.end m ≡ m) fmus (λ i f at is. other_ends i f at (unequal (f.end b) m (unnot (f.end b == m) is))) where
              unnot : (x : Bool) → not x ≡ true → x ≡ false
              unnot true h = absurd (cc)
              unnot false h = refl

            next_agree_by : (n : Bool) → (m == b) ≡ n → Agree steppers t step b (asks_in nexts) m
            next_agree_by true is =
                let e = equal m b is in
                M.AllMeet b (asks_in nexts) m may_first (sym m_met ∙ e)
                (map_map (stand_of next_points next_asks) (λ (s : Stand). s.ask) fmus ∙ map_each next_asks (λ f. b) fmus (λ i f at. there_ask i f at (first_points f == m) refl ∙ either (first_points f == m) b m e) ∙ sym (map_map stepper_of (λ (x : Stepper). b) fmus)) e where
                  either : (x : Bool) (b m : ℕ) → m ≡ b → (if x then b else m) ≡ b
                  either true b m h = refl
                  either false b m h = h
            next_agree_by false is =
                M.OthersMeet b (asks_in nexts) m may_first (λ (e : met steppers b ≡ b). unequal m b is (m_met ∙ e)) may_again
                (subst (λ (n : ℕ). All (λ (f : Stepper). f.end n ≡ n) (filter (is_other b n) steppers)) m_met
                (all_of_each (λ (f : Stepper). f.end m ≡ m) (filter (is_other b m) steppers) (λ j x at.
                let from = filter_from (is_other b m) steppers j x at in others_end from.0.0 x from.0.1 from.1)))
                (map_map (stand_of next_points next_asks) (λ (s : Stand). s.ask) fmus
                ∙ map_each next_asks (λ f. kept_ask b (met steppers b) (stepper_of f)) fmus (λ i f at. kept_by i f at (first_points f == m) refl)
                ∙ sym (map_map stepper_of (kept_ask b (met steppers b)) fmus)) m_met where
                  kept_by : (i : ℕ) (f : Fmu) → slice_get fmus i ≡ Some f → (x : Bool) → (first_points f == m) ≡ x → next_asks f ≡ kept_ask b (met steppers b) (stepper_of f)
                  kept_by i f at true h =
                      there_ask i f at true h ∙ ap (λ (y : Bool). if y then b else met steppers b) (sym (same_number (f.end b) (met steppers b) ((at_end i f at (equal (first_points f) m h)).1 ∙ m_met)))
                  kept_by i f at false h =
                      there_ask i f at false h ∙ m_met
                      ∙ ap (λ (y : Bool). if y then b else met steppers b) (sym (other_number (f.end b) (met steppers b) (λ e. not_end i f at (unequal m b is) (unequal (first_points f) m h) (e ∙ sym m_met))))

            pub next_agree : Agree steppers t step b (asks_in nexts) m
            next_agree = next_agree_by (m == b) refl

          next_later : Each (λ (f : Fmu). t < next_points f) fmus
          next_later i f at = by (first_points f == m) refl where
            by : (x : Bool) → (first_points f == m) ≡ x → t < next_points f
            by true is = subst (λ (n : ℕ). t < n) (sym (ap (λ (y : Bool). if not y then f.end m else first_points f) is ∙ equal (first_points f) m is)) m_later
            by false is = subst (λ (n : ℕ). t < n) (sym (ap (λ (y : Bool). if not y then f.end m else first_points f) is)) (next_ends i f at (ap not is)).later

          -- one of them ended before it
          module _ (apart2 : are_at m nexts ≡ false) where
            none_there : Passes (λ (f : Fmu). next_points f == m) false fmus
            none_there = not_all (λ (f : Fmu). next_points f == m) fmus (sym (all_map (stand_of next_points next_asks) (λ (s : Stand). s.point == m) fmus) ∙ apart2)

            -- where one comes first alone, this doesn't come
            pub never : ((i j : ℕ) (f g : Fmu) → slice_get fmus i ≡ Some f → slice_get fmus j ≡ Some g → first f.shape ≡ true → first g.shape ≡ true → i ≡ j) → ⊥
            never alone = by (first_points f == m) refl where
              i : ℕ
              i = none_there.0

              f : Fmu
              f = none_there.1

              at : slice_get fmus i ≡ Some f
              at = none_there.2

              misses : next_points f ≢ m
              misses = unequal (next_points f) m none_there.3

              meets : (j : ℕ) (x : Fmu) → slice_get fmus j ≡ Some x → m ≡ x.end b → first f.shape ≡ true → (y : Bool) → first x.shape ≡ y → f.end b ≡ m
              meets j x x_at is f_first true x_first =
                  let place = alone i j f x at x_at f_first x_first in
                  ap (λ (z : Fmu). z.end b) (same_Some f x (sym at ∙ ap (slice_get fmus) place ∙ x_at)) ∙ sym is
              meets j x x_at is f_first false x_first =
                  let e = whole j x x_at x_first b later in
                  let l = low i f at in let w = first_within i f at in
                  omega (arith, e, is, l, w)

              ends_m : first f.shape ≡ true → f.end b ≡ m
              ends_m f_first = from (least_is (λ (x : Stepper). x.end b) b steppers) where
                from : ((least_or b (map (λ (x : Stepper). x.end b) steppers) ≡ b) × (steppers ≡ [])) ⊎ ((x : Stepper) × Holds steppers x × (least_or b (map (λ (x : Stepper). x.end b) steppers) ≡ x.end b)) → f.end b ≡ m
                from (inl none) = let e = m_met in let n = none.0 in let l = low i f at in let w = first_within i f at in omega (arith, e, n, l, w)
                from (inr one) =
                    let back = map_from one.1.0 one.0 one.1.1 in
                    meets one.1.0 back.0 back.1 (m_met ∙ one.2 ∙ ap (λ (z : Stepper). z.end b) back.2) f_first (first back.0.shape) refl where
                      map_from : (j : ℕ) (x : Stepper) → slice_get steppers j ≡ Some x → (y : Fmu) × (slice_get fmus j ≡ Some y) × (x ≡ stepper_of y)
                      map_from j x x_at = unmap stepper_of fmus j x x_at

              by : (x : Bool) → (first_points f == m) ≡ x → ⊥
              by true is = misses (ap (λ (y : Bool). if not y then f.end m else first_points f) is ∙ equal (first_points f) m is)
              by false is = which (first f.shape) refl where
                which : (y : Bool) → first f.shape ≡ y → ⊥
                which true h = unequal (first_points f) m is (asked_point f h ∙ ends_m h)
                which false h = misses (ap (λ (y : Bool). if not y then f.end m else first_points f) is ∙ whole i f at h m m_later)

            -- all come first
            module _ (all : Each (λ (f : Fmu). first f.shape ≡ true) fmus) where
              one_after : (f : Fmu) × Holds fmus f × (f.end b ≢ m)
              one_after = by (first_points none_there.1 == m) refl where
                by : (x : Bool) → (first_points none_there.1 == m) ≡ x → (f : Fmu) × Holds fmus f × (f.end b ≢ m)
                by true is = absurd (unequal (next_points none_there.1) m none_there.3 (ap (λ (y : Bool). if not y then none_there.1.end m else first_points none_there.1) is ∙ equal (first_points none_there.1) m is))
                by false is =
                    (none_there.1, (none_there.0, none_there.2), λ e. unequal (first_points none_there.1) m is (asked_point none_there.1 (all none_there.0 none_there.1 none_there.2) ∙ e))

              below : m < b
              below =
                  let l = low one_after.1.0 one_after.0 one_after.1.1 in
                  let w = first_within one_after.1.0 one_after.0 one_after.1.1 in
                  let n = one_after.2 in
                  omega (arith, l, w, n)

              pub not_bound : met steppers b ≢ b
              not_bound = λ e. let l = below in let k = m_met in omega (arith, l, k, e)

              pub others_apart : OthersEnd steppers b → ⊥
              others_apart ended = by (first_points none_there.1 == m) refl where
                here : All (λ (f : Stepper). f.end m ≡ m) (filter (is_other b m) steppers)
                here = subst (λ (n : ℕ). All (λ (f : Stepper). f.end n ≡ n) (filter (is_other b n) steppers)) (sym m_met) ended

                by : (x : Bool) → (first_points none_there.1 == m) ≡ x → ⊥
                by true is = unequal (next_points none_there.1) m none_there.3 (ap (λ (y : Bool). if not y then none_there.1.end m else first_points none_there.1) is ∙ equal (first_points none_there.1) m is)
                by false is =
                    let e : first_points none_there.1 ≡ none_there.1.end b = asked_point none_there.1 (all none_there.0 none_there.1 none_there.2) in
                    let there = filter_in (is_other b m) steppers none_there.0 (stepper_of none_there.1) (at_map stepper_of fmus none_there.0 none_there.1 none_there.2) (ap not (ap (λ (n : ℕ). n == m) (sym e) ∙ is)) in
                    unequal (next_points none_there.1) m none_there.3 (ap (λ (y : Bool). if not y then none_there.1.end m else first_points none_there.1) is ∙ each_of_all (λ (x : Stepper). x.end m ≡ m) (filter (is_other b m) steppers) here there.0 (stepper_of none_there.1) there.1)

              abbrev second : Stepper → ℕ
              second x = if not (x.end b == m) then x.end m else x.end b

              next_is : Each (λ (f : Fmu). next_points f ≡ second (stepper_of f)) fmus
              next_is i f at = ap (λ (n : ℕ). if not (n == m) then f.end m else n) (asked_point f (all i f at))

              seconds_here : map (end_at t m) nexts ≡ map second steppers
              seconds_here =
                  map_map (stand_of next_points next_asks) (end_at t m) fmus
                  ∙ map_each (λ f. end_at t m (stand_of next_points next_asks f)) (λ f. second (stepper_of f)) fmus
                  (λ i f at. ap (λ (x : Bool). if x then m else next_points f) (other_number (next_points f) t (let l = next_later i f at in omega (arith, l))) ∙ next_is i f at)
                  ∙ sym (map_map stepper_of second fmus)

              some_is : Each (λ (x : Stepper). is_other b m x ≡ true → (second x ≡ x.end m) × (x.end m ≤ m)) steppers
              some_is = each_map stepper_of (λ (x : Stepper). is_other b m x ≡ true → (second x ≡ x.end m) × (x.end m ≤ m)) fmus (λ i f at is.
                  let e : first_points f ≡ f.end b = asked_point f (all i f at) in
                  (ap (λ (y : Bool). if y then f.end m else f.end b) is, (let w = (next_ends i f at (ap (λ (n : ℕ). not (n == m)) e ∙ is)).within in let l = m_later in omega (arith, w, l))))

              rest_is : Each (λ (x : Stepper). is_other b m x ≡ false → second x ≡ m) steppers
              rest_is = each_map stepper_of (λ (x : Stepper). is_other b m x ≡ false → second x ≡ m) fmus (λ i f at is.
                  ap (λ (y : Bool). if y then f.end m else f.end b) is ∙ equal (f.end b) m (unnot (f.end b == m) is)) where
                    unnot : (x : Bool) → not x ≡ false → x ≡ true
                    unnot true h = refl
                    unnot false h = absurd (cc)

              pub fallen : (c : ℕ) → c ≡ reached t m nexts → c ≡ fallen_bound steppers b
              fallen c is =
                  is ∙ ap (least_or m) seconds_here
                  ∙ least_of_some second (λ (x : Stepper). x.end m) (is_other b m) m m b steppers some_is rest_is (stepper_of one_after.0) (one_after.1.0, at_map stepper_of fmus one_after.1.0 one_after.0 one_after.1.1) (ap not (other_number (one_after.0.end b) m one_after.2))
                  ∙ ap (λ (n : ℕ). least_or b (map (λ (x : Stepper). x.end n) (filter (is_other b n) steppers))) m_met

              pub c_later : (c : ℕ) → c ≡ reached t m nexts → t < c
              c_later c is = by (least_is second m steppers) where
                by : ((least_or m (map second steppers) ≡ m) × (steppers ≡ [])) ⊎ ((x : Stepper) × Holds steppers x × (least_or m (map second steppers) ≡ second x)) → t < c
                by (inl none) = let e = is ∙ ap (least_or m) seconds_here in let n = none.0 in let l = m_later in omega (arith, e, n, l)
                by (inr one) =
                    let l = each_map stepper_of (λ (x : Stepper). t < second x) fmus (λ i f at. subst (λ (n : ℕ). t < n) (next_is i f at) (next_later i f at)) one.1.0 one.0 one.1.1 in
                    let e = is ∙ ap (least_or m) seconds_here in let n = one.2 in omega (arith, e, n, l)

    -- ---- the agreement

    anew : (outcome : Outcome) (b c : ℕ) (xs ys : List Stand) → xs ≡ ys → c ≡ fallen_bound steppers b → MayAsk steppers t step b → met steppers b ≢ b → MayAskAgain steppers t step b → (OthersEnd steppers b → ⊥) →
        ResultAt t step c fmus ys outcome → ResultAt t step b fmus xs outcome
    anew (Meets p) b c xs ys same fell a n w e h =
        (M.Falls b (asks_in xs) p a n w e (subst (λ (k : ℕ). Agree steppers t step k (asks_in xs) p) fell (subst (λ (ss : List Stand). Agree steppers t step c (asks_in ss) p) (sym same) h.0)), h.1, ap (are_at p) same ∙ h.2)
    anew (Unfit i x) b c xs ys same fell a n w e h = M.StopsLater b i x a n w e (subst (λ (k : ℕ). StopsShort steppers t step k i x) fell h)
    anew (Fails bad) b c xs ys same fell a n w e h = tt

    Waits : (Fmu → ℕ) → Type 0
    Waits g = Each (λ (f : Fmu). first f.shape ≡ false → g f ≡ t) fmus

    comes : {b : ℕ} {stands : List Stand} {log : List Sent} {outcome : Outcome} → Agrees t step first b stands log outcome → t < b → (g q : Fmu → ℕ) → Each (λ (f : Fmu). first f.shape ≡ false → g f ≡ t) fmus → stands ≡ map (stand_of g q) fmus → AreEnds t fmus log →
        ComesFrom t step b fmus stands log outcome
    comes (FirstStops b stands log outcome (IsUnfit i h log_is is)) later g q waits from ends =
        subst (ComesFrom t step b fmus stands log) (sym is)
        (M.StopsFirst b i b (lacks (stand_of g q) everyone (λ x. true) b (λ k f at. refl) i (ap (unfit step (b - t) everyone) (sym from) ∙ h)) refl)
    comes (FirstStops b stands log outcome (InBack bad fits fails is)) later g q waits from ends = subst (ComesFrom t step b fmus stands log) (sym is) tt
    comes (FirstStops b stands log outcome (InStep bad backs steps fits back fails log_is is)) later g q waits from ends = subst (ComesFrom t step b fmus stands log) (sym is) tt
    comes (FirstMeet b stands log outcome m asks m_is there is) later g q waits from ends =
        let asks' : Asks t step everyone (comes_first first) b (map (stand_of g q) fmus) log = subst (λ (ss : List Stand). Asks t step everyone (comes_first first) b ss log) from asks in
        let to : stands_by t stands log ≡ firsts g q waits b later log asks' ends = ap (λ (ss : List Stand). stands_by t ss log) from ∙ firsts_are g q waits b later log asks' ends in
        subst (ComesFrom t step b fmus stands log) (sym is) (
          subst (λ (ss : List Stand). Agree steppers t step b (asks_in ss) m) (sym to)
              (first_agree g q waits b later log asks' ends m (m_is ∙ ap (reached t b) to) (ap (are_at m) (sym to) ∙ there)),
          m_later g q waits b later log asks' ends m (m_is ∙ ap (reached t b) to),
          there,
        )
    comes (NextStops b stands log outcome m prefix back mids asks mids_are m_is apart (IsUnfit i h log_is is) whole) later g q waits from ends =
        let asks' : Asks t step everyone (comes_first first) b (map (stand_of g q) fmus) prefix = subst (λ (ss : List Stand). Asks t step everyone (comes_first first) b ss prefix) from asks in
        let ends' = ends_prefix t fmus prefix back (subst (AreEnds t fmus) whole ends) in
        let to : mids ≡ firsts g q waits b later prefix asks' ends' = mids_are ∙ ap (λ (ss : List Stand). stands_by t ss prefix) from ∙ firsts_are g q waits b later prefix asks' ends' in
        subst (ComesFrom t step b fmus stands log) (sym is)
        (lacks_again g q waits b later prefix asks' ends' m (m_is ∙ ap (reached t b) to) i (ap (unfit step (m - t) (ends_elsewhere t b m)) (sym to) ∙ h))
    comes (NextStops b stands log outcome m prefix back mids asks mids_are m_is apart (InBack bad fits fails is) whole) later g q waits from ends = subst (ComesFrom t step b fmus stands log) (sym is) tt
    comes (NextStops b stands log outcome m prefix back mids asks mids_are m_is apart (InStep bad backs steps fits backed fails log_is is) whole) later g q waits from ends = subst (ComesFrom t step b fmus stands log) (sym is) tt
    comes (NextMeet b stands log outcome m prefix back mids asks mids_are m_is apart asks2 there is whole) later g q waits from ends =
        let asks' : Asks t step everyone (comes_first first) b (map (stand_of g q) fmus) prefix = subst (λ (ss : List Stand). Asks t step everyone (comes_first first) b ss prefix) from asks in
        let both = subst (AreEnds t fmus) whole ends in
        let ends' = ends_prefix t fmus prefix back both in
        let ends2 = ends_back t fmus prefix back both in
        let to : mids ≡ firsts g q waits b later prefix asks' ends' = mids_are ∙ ap (λ (ss : List Stand). stands_by t ss prefix) from ∙ firsts_are g q waits b later prefix asks' ends' in
        let m_here = m_is ∙ ap (reached t b) to in
        let asks2' = subst (λ (ss : List Stand). Asks t step (ends_elsewhere t b m) (is_elsewhere m) m ss back) to asks2 in
        let on : stands_by t mids back ≡ nexts g q waits b later prefix asks' ends' m m_here back asks2' ends2 = ap (λ (ss : List Stand). stands_by t ss back) to ∙ nexts_are g q waits b later prefix asks' ends' m m_here back asks2' ends2 in
        let last : stands_by t stands log ≡ stands_by t mids back = ap (stands_by t stands) whole ∙ stands_on t stands prefix back ∙ ap (λ (ss : List Stand). stands_by t ss back) (sym mids_are) in
        subst (ComesFrom t step b fmus stands log) (sym is) (
          subst (λ (ss : List Stand). Agree steppers t step b (asks_in ss) m) (sym (last ∙ on))
              (next_agree g q waits b later prefix asks' ends' m m_here back asks2' ends2 (ap (are_at m) (sym on) ∙ there)),
          m_later g q waits b later prefix asks' ends' m m_here,
          ap (are_at m) last ∙ there,
        )
    comes (GoesAnew b stands log outcome m c prefix back rest mids lasts asks mids_are m_is apart asks2 lasts_are after c_is more whole) later g q waits from ends =
        let asks' : Asks t step everyone (comes_first first) b (map (stand_of g q) fmus) prefix = subst (λ (ss : List Stand). Asks t step everyone (comes_first first) b ss prefix) from asks in
        let all = subst (AreEnds t fmus) whole ends in
        let ends' = ends_prefix t fmus prefix (back ++ rest) all in
        let ends_rest = ends_back t fmus prefix (back ++ rest) all in
        let ends2 = ends_prefix t fmus back rest ends_rest in
        let to : mids ≡ firsts g q waits b later prefix asks' ends' = mids_are ∙ ap (λ (ss : List Stand). stands_by t ss prefix) from ∙ firsts_are g q waits b later prefix asks' ends' in
        let m_here = m_is ∙ ap (reached t b) to in
        let asks2' = subst (λ (ss : List Stand). Asks t step (ends_elsewhere t b m) (is_elsewhere m) m ss back) to asks2 in
        let on : lasts ≡ nexts g q waits b later prefix asks' ends' m m_here back asks2' ends2 = lasts_are ∙ ap (λ (ss : List Stand). stands_by t ss back) to ∙ nexts_are g q waits b later prefix asks' ends' m m_here back asks2' ends2 in
        let last : stands_by t stands log ≡ stands_by t lasts rest =
        ap (stands_by t stands) whole ∙ stands_on t stands prefix (back ++ rest) ∙ stands_on t (stands_by t stands prefix) back rest
        ∙ ap (λ (ss : List Stand). stands_by t (stands_by t ss back) rest) (sym mids_are) ∙ ap (λ (ss : List Stand). stands_by t ss rest) (sym lasts_are) in
        let after' = ap (are_at m) (sym on) ∙ after in
        let c_here = c_is ∙ ap (reached t m) on in
        by who g q waits b later prefix asks' ends' m m_here back asks2' ends2 after' c c_here lasts rest outcome on (stands_by t stands log) last
        (λ l h. comes more l _ _ h on (ends_back t fmus back rest ends_rest)) where
          by : ComeFirst first t fmus → (g q : Fmu → ℕ) (waits : Each (λ (f : Fmu). first f.shape ≡ false → g f ≡ t) fmus) (b : ℕ) (later : t < b) (prefix : List Sent) (asks : Asks t step everyone (comes_first first) b (map (stand_of g q) fmus) prefix) (ends : AreEnds t fmus prefix)
              (m : ℕ) (m_is : m ≡ reached t b (firsts g q waits b later prefix asks ends)) (back : List Sent) (asks2 : Asks t step (ends_elsewhere t b m) (is_elsewhere m) m (firsts g q waits b later prefix asks ends) back) (ends2 : AreEnds t fmus back)
              (after : are_at m (nexts g q waits b later prefix asks ends m m_is back asks2 ends2) ≡ false) (c : ℕ) (c_is : c ≡ reached t m (nexts g q waits b later prefix asks ends m m_is back asks2 ends2)) (lasts : List Stand) (rest : List Sent) (outcome : Outcome) →
              lasts ≡ nexts g q waits b later prefix asks ends m m_is back asks2 ends2 → (xs : List Stand) → xs ≡ stands_by t lasts rest →
              (t < c → Each (λ (f : Fmu). first f.shape ≡ false → next_points g q waits b later prefix asks ends m m_is back asks2 ends2 f ≡ t) fmus → ComesFrom t step c fmus lasts rest outcome) → ResultAt t step b fmus xs outcome
          by (OneAlone one others) g q waits b later prefix asks ends m m_is back asks2 ends2 after c c_is lasts rest outcome on xs same go =
              absurd (never g q waits b later prefix asks ends m m_is back asks2 ends2 after one)
          by (AllOfThem all) g q waits b later prefix asks ends m m_is back asks2 ends2 after c c_is lasts rest outcome on xs same go =
              anew outcome b c xs (stands_by t lasts rest) same (fallen g q waits b later prefix asks ends m m_is back asks2 ends2 after all c c_is)
              (may_first g q waits b later prefix asks ends) (not_bound g q waits b later prefix asks ends m m_is back asks2 ends2 after all) (may_again g q waits b later prefix asks ends m m_is back asks2 ends2)
              (others_apart g q waits b later prefix asks ends m m_is back asks2 ends2 after all)
              (go (c_later g q waits b later prefix asks ends m m_is back asks2 ends2 after all c c_is) (λ i f at un. absurd (let h : true ≡ false = sym (all i f at) ∙ un in cc)))

pub agrees_by_log : AgreesByLog
agrees_by_log first t step b fmus log outcome later who agrees ends = comes t step fmus first who agrees later (λ f. t) (λ f. t) (λ i f at un. refl) refl ends
