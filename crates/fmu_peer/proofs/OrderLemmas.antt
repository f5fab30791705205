-- The closing of several instances: one more is closed, and those of a lost source are spared.
use Rattle.std.proofs.Common.{◌≡◌, ℕ, zero, suc, ◌<◌, ◌+◌, ◌==◌, Bool, true, false, List, [], ◌∷◌, ◌++◌, Some, refl, sym, ap, ◌∙◌, subst, append_assoc, arith, length, take, ◌≤◌}
use Rattle.std.specs.Prelude.{◌||◌, ◌&&◌, map, set, unwrap_or, All}
use Rattle.std.proofs.lemmas.List.{append-nil, length-append, map-append, length-map, take_all}
use Rattle.std.proofs.lemmas.List.Elements.{All-nil, All-cons, All-head, All-tail, All-map}
use Rattle.std.proofs.lemmas.List.Folds.{list_any-append, list_any_at, list_any_none}
use Rattle.std.proofs.lemmas.Option.{get_or_from_slice_get, slice_get-get_or}
use Rattle.std.proofs.Math.ListN.{get_or}
use Rattle.std.proofs.Math.Seq.{set-append_seam, get_or-append_seam}
use Rattle.fmu_peer.specs.Close.{any_fatal}
use Rattle.fmu_peer.specs.Siblings.{Member, Siblings, IsSpared, SparesLater}
use Rattle.fmu_peer.specs.CloseAll.{Instance, Closing, Closes, ClosesOne, ClosesAt, ClosesAll, InOrder, KnowsFatal, is_source_lost, member_of, befores, afters}

-- ---- those of a lost source

-- the instance is of this source, and answered by Fatal
abbrev is_lost_of : ℕ → Instance → Bool
is_lost_of source i = i.is_fatal && i.source == source

or_on : (a b d c : Bool) → (b ≡ true → d ≡ true) → (a || (b || c)) ≡ true → ((a || (d || false)) || c) ≡ true
or_on true b d c more h = refl
or_on false true d c more h = subst (λ (x : Bool). ((x || false) || c) ≡ true) (sym (more refl)) refl
or_on false false true c more h = refl
or_on false false false c more h = h

or_left : (a b c : Bool) → b ≡ true → ((a || (b || false)) || c) ≡ true
or_left true b c h = refl
or_left false b c h = subst (λ (x : Bool). ((x || false) || c) ≡ true) (sym h) refl

and_or : (a b c : Bool) → (a && c) ≡ true → ((a || b) && c) ≡ true
and_or true b c h = h
and_or false b c h = absurd (cc)

or_and : (a b c : Bool) → b ≡ true → c ≡ true → ((a || b) && c) ≡ true
or_and true b c h k = k
or_and false b c h k = subst (λ (x : Bool). (x && c) ≡ true) (sym h) k

-- closed, an instance is lost where it was
stays_lost : (spared : Bool) (source : ℕ) (c : Closing) → ClosesOne spared c → is_lost_of source c.old ≡ true → is_lost_of source c.new ≡ true
stays_lost spared source c one h =
    subst (λ (n : ℕ). (c.new.is_fatal && n == source) ≡ true) (sym one.source)
    (subst (λ (b : Bool). (b && c.old.source == source) ≡ true) (sym one.fatal) (and_or c.old.is_fatal (any_fatal c.old.view.fixed.shape c.sent) (c.old.source == source) h))

pub same_number : (n : ℕ) → (n == n) ≡ true
same_number n = grind (arith)

becomes_lost : (spared : Bool) (c : Closing) → ClosesOne spared c → any_fatal c.old.view.fixed.shape c.sent ≡ true → is_lost_of c.old.source c.new ≡ true
becomes_lost spared c one h =
    subst (λ (n : ℕ). (c.new.is_fatal && n == c.old.source) ≡ true) (sym one.source)
    (subst (λ (b : Bool). (b && c.old.source == c.old.source) ≡ true) (sym one.fatal)
    (or_and c.old.is_fatal (any_fatal c.old.view.fixed.shape c.sent) (c.old.source == c.old.source) h (same_number c.old.source)))

split : (source : ℕ) (xs ys : List Instance) → is_source_lost source (xs ++ ys) ≡ (is_source_lost source xs || is_source_lost source ys)
split source xs ys = list_any-append (is_lost_of source) xs ys

-- the same list, once the next instance is closed
lost_on : (source : ℕ) (closed : List Instance) (old new : Instance) (rest : List Instance) → (is_lost_of source old ≡ true → is_lost_of source new ≡ true) →
    is_source_lost source (closed ++ old ∷ rest) ≡ true → is_source_lost source ((closed ++ new ∷ []) ++ rest) ≡ true
lost_on source closed old new rest more h =
    split source (closed ++ new ∷ []) rest ∙ ap (λ (b : Bool). b || is_source_lost source rest) (split source closed (new ∷ []))
    ∙ or_on (is_source_lost source closed) (is_lost_of source old) (is_lost_of source new) (is_source_lost source rest) more (sym (split source closed (old ∷ rest)) ∙ h)

lost_by : (source : ℕ) (closed : List Instance) (new : Instance) (rest : List Instance) → is_lost_of source new ≡ true → is_source_lost source ((closed ++ new ∷ []) ++ rest) ≡ true
lost_by source closed new rest h =
    split source (closed ++ new ∷ []) rest ∙ ap (λ (b : Bool). b || is_source_lost source rest) (split source closed (new ∷ []))
    ∙ or_left (is_source_lost source closed) (is_lost_of source new) (is_source_lost source rest) h

sent_nothing : (spared : Bool) (c : Closing) → ClosesOne spared c → spared ≡ true → c.sent ≡ []
sent_nothing true c one h = one.turn.0
sent_nothing false c one h = absurd (cc)

-- an instance of a source that is lost is sent nothing
pub spared_from : (source : ℕ) (closed : List Instance) (cs : List Closing) → is_source_lost source (closed ++ befores cs) ≡ true → InOrder closed cs → All (IsSpared source) (map member_of cs)
spared_from source closed [] lost order = All-nil (IsSpared source)
spared_from source closed (c ∷ cs) lost order =
    All-cons (IsSpared source) (member_of c) (map member_of cs)
    (λ (same : c.old.source ≡ source). sent_nothing (is_source_lost c.old.source (closed ++ c.old ∷ befores cs)) c order.0
    (subst (λ (n : ℕ). is_source_lost n (closed ++ c.old ∷ befores cs) ≡ true) (sym same) lost))
    (spared_from source (closed ++ c.new ∷ []) cs
    (lost_on source closed c.old c.new (befores cs) (stays_lost (is_source_lost c.old.source (closed ++ c.old ∷ befores cs)) source c order.0) lost) order.1)

pub spares_later : (closed : List Instance) (cs : List Closing) → InOrder closed cs → SparesLater (map member_of cs)
spares_later closed [] order = tt
spares_later closed (c ∷ cs) order = (
  λ (h : any_fatal c.old.view.fixed.shape c.sent ≡ true). spared_from c.old.source (closed ++ c.new ∷ []) cs
      (lost_by c.old.source closed c.new (befores cs) (becomes_lost (is_source_lost c.old.source (closed ++ c.old ∷ befores cs)) c order.0 h)) order.1,
  spares_later (closed ++ c.new ∷ []) cs order.1,
)

or_first : (a b : Bool) → a ≡ true → (a || b) ≡ true
or_first a b h = subst (λ (x : Bool). (x || b) ≡ true) (sym h) refl

or_second : (a b : Bool) → b ≡ true → (a || b) ≡ true
or_second true b h = refl
or_second false b h = h

abbrev SparesAll : List Closing → Member → Type 0
SparesAll cs m = any_fatal m.shape m.run ≡ true → All (IsSpared m.source) (map member_of cs)

spares_after : (all : List Closing) → InOrder [] all → (cs : List Closing) → ((source : ℕ) → is_source_lost source (befores cs) ≡ true → is_source_lost source (befores all) ≡ true) →
    All KnowsFatal (befores cs) → All (SparesAll all) (map member_of cs)
spares_after all order [] among knows = All-nil (SparesAll all)
spares_after all order (c ∷ cs) among knows =
    All-cons (SparesAll all) (member_of c) (map member_of cs)
    (λ (h : any_fatal c.old.view.fixed.shape (unwrap_or c.old.view.talk []) ≡ true). spared_from c.old.source [] all
    (among c.old.source (or_first (is_lost_of c.old.source c.old) (is_source_lost c.old.source (befores cs))
    (subst (λ (b : Bool). (b && c.old.source == c.old.source) ≡ true) (sym (All-head KnowsFatal c.old (befores cs) knows h)) (same_number c.old.source)))) order)
    (spares_after all order cs (λ source h. among source (or_second (is_lost_of source c.old) (is_source_lost source (befores cs)) h)) (All-tail KnowsFatal c.old (befores cs) knows))

pub siblings_of : (cs : List Closing) → InOrder [] cs → All KnowsFatal (befores cs) → Siblings (map member_of cs)
siblings_of cs order knows = record {
  after_run = spares_after cs order cs (λ source h. h) knows;
  later = spares_later [] cs order;
}

-- ---- one more

-- so many of the instances are closed
pub record ClosedUpTo (first now : List Instance) (count : ℕ) : Type 0 where
  pub closings : List Closing
  pub left : List Instance
  pub first_is : first ≡ befores closings ++ left
  pub now_is : now ≡ afters closings ++ left
  pub count_is : length (afters closings) ≡ count
  pub onward : (rest : List Closing) → befores rest ≡ left → InOrder (afters closings) rest → InOrder [] (closings ++ rest)

pub none_closed : (first : List Instance) → ClosedUpTo first first 0
none_closed first = record { closings = []; left = first; first_is = refl; now_is = refl; count_is = refl; onward = λ rest e order. order }

befores_push : (cs : List Closing) (c : Closing) → befores (cs ++ c ∷ []) ≡ befores cs ++ c.old ∷ []
befores_push cs c = map-append (λ (d : Closing). d.old) cs (c ∷ [])

afters_push : (cs : List Closing) (c : Closing) → afters (cs ++ c ∷ []) ≡ afters cs ++ c.new ∷ []
afters_push cs c = map-append (λ (d : Closing). d.new) cs (c ∷ [])

module _ (first now later : List Instance) (count : ℕ) (h : ClosedUpTo first now count) (k : ClosesAt count now later) (within : count < length now) where
  more_closed : (left : List Instance) → h.left ≡ left → ClosedUpTo first later (count + 1)
  more_closed [] e = absurd (let l = ap length (h.now_is ∙ ap (λ (xs : List Instance). afters h.closings ++ xs) e ∙ append-nil (afters h.closings)) in let m = h.count_is in omega (arith, l, m))
  more_closed (x ∷ left) e =
      let there : now ≡ afters h.closings ++ x ∷ left = h.now_is ∙ ap (λ (xs : List Instance). afters h.closings ++ xs) e in
      let here : k.closing.old ≡ x =
      sym (get_or_from_slice_get now count k.closing.old x k.here)
      ∙ ap (λ (xs : List Instance). get_or xs count x) there ∙ ap (λ (n : ℕ). get_or (afters h.closings ++ x ∷ left) n x) (sym h.count_is) ∙ get_or-append_seam (afters h.closings) x left x in
      record {
        closings = h.closings ++ k.closing ∷ [];
        left = left;
        first_is = h.first_is ∙ ap (λ (xs : List Instance). befores h.closings ++ xs) (e ∙ ap (λ (i : Instance). i ∷ left) (sym here))
            ∙ sym (append_assoc (befores h.closings) (k.closing.old ∷ []) left) ∙ ap (λ (xs : List Instance). xs ++ left) (sym (befores_push h.closings k.closing));
        now_is = k.only ∙ ap (λ (xs : List Instance). set xs count k.closing.new) there
            ∙ ap (λ (n : ℕ). set (afters h.closings ++ x ∷ left) n k.closing.new) (sym h.count_is)
            ∙ set-append_seam (afters h.closings) x left k.closing.new
            ∙ sym (append_assoc (afters h.closings) (k.closing.new ∷ []) left) ∙ ap (λ (xs : List Instance). xs ++ left) (sym (afters_push h.closings k.closing));
        count_is = ap length (afters_push h.closings k.closing) ∙ length-append (afters h.closings) (k.closing.new ∷ []) ∙ ap (λ (n : ℕ). n + 1) h.count_is;
        onward = λ rest same order.
            subst (InOrder []) (sym (append_assoc h.closings (k.closing ∷ []) rest))
            (h.onward (k.closing ∷ rest) (ap (λ (xs : List Instance). k.closing.old ∷ xs) same ∙ ap (λ (i : Instance). i ∷ left) here ∙ sym e) (
              subst (λ (xs : List Instance). ClosesOne (is_source_lost k.closing.old.source xs) k.closing)
                  (there ∙ ap (λ (xs : List Instance). afters h.closings ++ xs) (ap (λ (i : Instance). i ∷ left) (sym here) ∙ ap (λ (xs : List Instance). k.closing.old ∷ xs) (sym same))) k.one,
              subst (λ (xs : List Instance). InOrder xs rest) (afters_push h.closings k.closing) order,
            ));
      }

  pub one_closed : ClosedUpTo first later (count + 1)
  one_closed = more_closed h.left refl

none_left : (first now : List Instance) (count : ℕ) → count ≡ length first → length now ≡ length first → (h : ClosedUpTo first now count) → (left : List Instance) → h.left ≡ left → left ≡ []
none_left first now count is same h [] e = refl
none_left first now count is same h (x ∷ left) e =
    let l : length now ≡ length (afters h.closings) + length (x ∷ left) =
    ap length (h.now_is ∙ ap (λ (xs : List Instance). afters h.closings ++ xs) e) ∙ length-append (afters h.closings) (x ∷ left) in
    let m = h.count_is in
    absurd (omega (arith, l, m, is, same))

-- what none is left of is closed
pub all_closed : (first now : List Instance) (count : ℕ) → count ≡ length first → length now ≡ length first → ClosedUpTo first now count → ClosesAll first now
all_closed first now count is same h =
    let none : h.left ≡ [] = none_left first now count is same h h.left refl in
    let whole : first ≡ befores h.closings = h.first_is ∙ ap (λ (xs : List Instance). befores h.closings ++ xs) none ∙ append-nil (befores h.closings) in
    let order : InOrder [] h.closings = subst (InOrder []) (append-nil h.closings) (h.onward [] (sym none) tt) in
    record {
      closings = h.closings;
      old_is = whole;
      new_is = h.now_is ∙ ap (λ (xs : List Instance). afters h.closings ++ xs) none ∙ append-nil (afters h.closings);
      order = order;
      siblings = λ knows. siblings_of h.closings order (subst (All KnowsFatal) whole knows);
    }

-- ---- a slot among others

module _ {A : Type 0} (f : A → Instance) where
  get_or-map : (xs : List A) (k : ℕ) (d : A) → get_or (map f xs) k (f d) ≡ f (get_or xs k d)
  get_or-map [] k d = refl
  get_or-map (x ∷ xs) zero d = refl
  get_or-map (x ∷ xs) (suc k) d = get_or-map xs k d

  map-set : (xs : List A) (k : ℕ) (y : A) → map f (set xs k y) ≡ set (map f xs) k (f y)
  map-set [] k y = refl
  map-set (x ∷ xs) zero y = refl
  map-set (x ∷ xs) (suc k) y = ap (λ (zs : List Instance). f x ∷ zs) (map-set xs k y)

  pub within_map : (xs : List A) (k : ℕ) → k < length xs → k < length (map f xs)
  within_map xs k h = subst (λ (n : ℕ). k < n) (sym (length-map xs f)) h

  pub length_is : (xs ys : List A) → length xs ≡ length ys → length (map f xs) ≡ length (map f ys)
  length_is xs ys e = length-map xs f ∙ e ∙ sym (length-map ys f)

  pub count_is_all : (xs : List A) (k : ℕ) → k ≡ length xs → k ≡ length (map f xs)
  count_is_all xs k e = e ∙ sym (length-map xs f)

  pub get_or_same : (xs : List A) (k : ℕ) (d e : A) → k < length xs → get_or xs k d ≡ get_or xs k e
  get_or_same xs k d e h = get_or_from_slice_get xs k (get_or xs k e) d (slice_get-get_or xs k e h)

  -- one of a lost source is found
  pub found_lost : (source : ℕ) (xs : List A) (k : ℕ) (x : A) → k < length xs → ((f (get_or xs k x)).is_fatal && (f (get_or xs k x)).source == source) ≡ true → true ≡ is_source_lost source (map f xs)
  found_lost source xs k x within h =
      sym (list_any_at (is_lost_of source) (map f xs) k (f x) (within_map xs k within) (ap (is_lost_of source) (get_or-map xs k x) ∙ h))

  -- none is found
  pub found_none : (source : ℕ) (xs : List A) → All (λ (x : A). ((f x).is_fatal && (f x).source == source) ≡ false) xs → false ≡ is_source_lost source (map f xs)
  found_none source xs h = sym (list_any_none (is_lost_of source) (map f xs) (All-map (λ (i : Instance). is_lost_of source i ≡ false) f xs h))

  pub closed_at : (xs : List A) (k : ℕ) (x y : A) (spared : Bool) → k < length xs → x ≡ get_or xs k x → spared ≡ is_source_lost (f x).source (map f xs) → Closes spared (f x) (f y) →
      ClosesAt k (map f xs) (map f (set xs k y))
  closed_at xs k x y spared within is lost h = record {
    closing = record { old = f x; sent = h.0; new = f y };
    here = slice_get-get_or (map f xs) k (f x) (within_map xs k within) ∙ ap Some (get_or-map xs k x ∙ ap f (sym is));
    only = map-set xs k y;
    one = subst (λ (b : Bool). ClosesOne b (record { old = f x; sent = h.0; new = f y })) lost h.1;
  }

pub all_taken : {A : Type 0} (P : A → Type 0) (xs : List A) (count : ℕ) → length xs ≤ count → All P (take count xs) → All P xs
all_taken P xs count all h = subst (All P) (take_all count xs all) h
