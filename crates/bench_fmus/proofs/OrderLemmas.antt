-- References with their places, in order.
use Rattle.std.proofs.Common.{◌≡◌, ◌⊎◌, inl, inr, ℕ, zero, suc, ◌+◌, ◌<◌, ◌≤◌, ◌==◌, Bool, true, false, ◌&&◌, List, [], ◌∷◌, ◌++◌, length, take, get_or, Some, if◌then◌else◌, refl, sym, ap, ap₂, ◌∙◌, subst, arith}
use Rattle.std.specs.List.{slice_get, sum_by}
use Rattle.std.specs.List.Sorted.{IsPermutation, IsSorted}
use Rattle.std.specs.Ordering.{is_lt}
use Rattle.std.specs.Cmp.{IsStrictWeakOrder}
use Rattle.std.proofs.lemmas.Bool.Decides.{nat_tests}
use Rattle.std.proofs.lemmas.Grind.{common_steps}
use Rattle.std.proofs.lemmas.List.Sorted.{ranks_by, sum_by-IsPermutation}
use Rattle.std.proofs.lemmas.List.Sums.{sum_by-cons}
use Rattle.std.proofs.lemmas.List.{length-take, take_more}
use Rattle.std.proofs.lemmas.Option.{same_Some, slice_get_within}
use Rattle.value_types.specs.Index.{pair_cmp}
use Rattle.value_types.specs.declared.shape.Variable.{Variable}
use Rattle.value_types.proofs.CallerLemmas.{not_before, pair_total}
use Rattle.bench_fmus.specs.Packed.{in_order, ordered, put_in_order, references_from}

-- ---- pairs

abbrev is_below : ℕ × ℕ → ℕ × ℕ → Bool
is_below e f = is_lt (pair_cmp e f)

order : IsStrictWeakOrder is_below
order = ranks_by pair_total (λ (x : ℕ × ℕ). x)

first_same : (e f : ℕ × ℕ) → is_below e f ≡ false → is_below f e ≡ false → e.0 ≡ f.0
first_same (a, b) (c, d) x y = grind (arith, nat_tests, common_steps)

second_same : (e f : ℕ × ℕ) → is_below e f ≡ false → is_below f e ≡ false → e.1 ≡ f.1
second_same (a, b) (c, d) x y = grind (arith, nat_tests, common_steps)

-- pairs of which neither is below the other are one
same_pair : (e f : ℕ × ℕ) → is_below e f ≡ false → is_below f e ≡ false → e ≡ f
same_pair e f x y = ap₂ (λ (a b : ℕ). (a, b)) (first_same e f x y) (second_same e f x y)

never_below : (e : ℕ × ℕ) → is_below e e ≡ false
never_below (a, b) = grind (arith, nat_tests, common_steps)

-- ---- what a list has

abbrev pub Has : ℕ × ℕ → List (ℕ × ℕ) → Type 0
Has x [] = ⊥
Has x (y ∷ ys) = (y ≡ x) ⊎ Has x ys

-- 1 at this pair, and 0 at each other
abbrev at_pair : ℕ × ℕ → ℕ × ℕ → ℕ
at_pair x e = if e.0 == x.0 && e.1 == x.1 then 1 else 0

is_pair : (x e : ℕ × ℕ) → (e.0 == x.0 && e.1 == x.1) ≡ true → e ≡ x
is_pair (a, b) (c, d) is =
    let first : c ≡ a = grind (arith, nat_tests) in
    let second : d ≡ b = grind (arith, nat_tests) in
    ap₂ (λ (x y : ℕ). (x, y)) first second

at_itself : (x : ℕ × ℕ) → at_pair x x ≡ 1
at_itself (a, b) =
    let is : (a == a && b == b) ≡ true = grind (arith, nat_tests) in
    ap (λ (q : Bool). if q then 1 else 0) is

has_from : (x : ℕ × ℕ) (ys : List (ℕ × ℕ)) → 0 < sum_by (at_pair x) ys → Has x ys
has_from x [] some = absurd (omega arith)
has_from x (y ∷ ys) some = by (y.0 == x.0 && y.1 == x.1) refl (has_from x ys)
  where
    by : (b : Bool) → (y.0 == x.0 && y.1 == x.1) ≡ b → (0 < sum_by (at_pair x) ys → Has x ys) → Has x (y ∷ ys)
    by true is rest = inl (is_pair x y is)
    by false other rest =
        let none : at_pair x y ≡ 0 = ap (λ (q : Bool). if q then 1 else 0) other in
        let more = sum_by-cons (at_pair x) y ys in
        inr (rest (omega arith))

-- ---- lists in order

abbrev NoneBelow : ℕ × ℕ → List (ℕ × ℕ) → Type 0
NoneBelow e [] = Unit {0}
NoneBelow e (f ∷ fs) = (is_below f e ≡ false) × NoneBelow e fs

abbrev Rising : List (ℕ × ℕ) → Type 0
Rising [] = Unit {0}
Rising (e ∷ es) = NoneBelow e es × Rising es

none_below_has : (e x : ℕ × ℕ) (es : List (ℕ × ℕ)) → NoneBelow e es → Has x es → is_below x e ≡ false
none_below_has e x [] none has = absurd has
none_below_has e x (f ∷ fs) none (inl is) = ap (λ (y : ℕ × ℕ). is_below y e) (sym is) ∙ none.0
none_below_has e x (f ∷ fs) none (inr has) = none_below_has e x fs none.1 has

-- the least of a list in order isn't above what the list has
least : (e x : ℕ × ℕ) (es : List (ℕ × ℕ)) → NoneBelow e es → Has x (e ∷ es) → is_below x e ≡ false
least e x es none (inl is) = ap (λ (y : ℕ × ℕ). is_below y e) (sym is) ∙ never_below e
least e x es none (inr has) = none_below_has e x es none has

none_below_by : (e : ℕ × ℕ) (es : List (ℕ × ℕ)) → ((j : ℕ) (f : ℕ × ℕ) → slice_get es j ≡ Some f → is_below f e ≡ false) → NoneBelow e es
none_below_by e [] each = tt
none_below_by e (f ∷ fs) each = (each 0 f refl, none_below_by e fs (λ j g at. each (suc j) g at))

rising_by : (es : List (ℕ × ℕ)) → ((i j : ℕ) (e f : ℕ × ℕ) → slice_get es i ≡ Some e → slice_get es j ≡ Some f → i ≤ j → is_below f e ≡ false) → Rising es
rising_by [] each = tt
rising_by (e ∷ es) each = (
  none_below_by e es (λ j f at. each 0 (suc j) e f refl at (omega arith)),
  rising_by es (λ i j x y at there le. each (suc i) (suc j) x y at there (omega arith)),
)

rising_sorted : (es : List (ℕ × ℕ)) → IsSorted pair_cmp es → Rising es
rising_sorted es sorted = rising_by es (λ i j e f at there le. not_before es i j e f sorted at there le)

none_below_chain : (e f : ℕ × ℕ) (fs : List (ℕ × ℕ)) → is_below f e ≡ false → NoneBelow f fs → NoneBelow e fs
none_below_chain e f [] above none = tt
none_below_chain e f (g ∷ gs) above none = (order.chain g f e none.0 above, none_below_chain e f gs above none.1)

-- ---- put in order

none_below_put : (e f : ℕ × ℕ) (fs : List (ℕ × ℕ)) → is_below e f ≡ false → NoneBelow f fs → NoneBelow f (put_in_order e fs)
none_below_put e f [] above none = (above, tt)
none_below_put e f (g ∷ gs) above none = by (is_below g e) (none_below_put e f gs above none.1)
  where
    by : (b : Bool) → NoneBelow f (put_in_order e gs) → NoneBelow f (if b then g ∷ put_in_order e gs else e ∷ (g ∷ gs))
    by true rest = (none.0, rest)
    by false rest = (above, none)

rising_put : (e : ℕ × ℕ) (es : List (ℕ × ℕ)) → Rising es → Rising (put_in_order e es)
rising_put e [] rising = (tt, tt)
rising_put e (f ∷ fs) rising = by (is_below f e) refl (rising_put e fs rising.1)
  where
    by : (b : Bool) → is_below f e ≡ b → Rising (put_in_order e fs) → Rising (if b then f ∷ put_in_order e fs else e ∷ (f ∷ fs))
    by true below rest = (none_below_put e f fs (order.one_way f e below) rising.0, rest)
    by false above rest = ((above, none_below_chain e f fs above rising.0), rising)

rising_in_order : (es : List (ℕ × ℕ)) → Rising (in_order es)
rising_in_order [] = tt
rising_in_order (e ∷ es) = rising_put e (in_order es) (rising_in_order es)

put_sum : (f : ℕ × ℕ → ℕ) (e : ℕ × ℕ) (es : List (ℕ × ℕ)) → sum_by f (put_in_order e es) ≡ f e + sum_by f es
put_sum f e [] = sum_by-cons f e []
put_sum f e (g ∷ gs) = by (is_below g e) (put_sum f e gs)
  where
    by : (b : Bool) → sum_by f (put_in_order e gs) ≡ f e + sum_by f gs → sum_by f (if b then g ∷ put_in_order e gs else e ∷ (g ∷ gs)) ≡ f e + sum_by f (g ∷ gs)
    by true rest =
        let one = sum_by-cons f g (put_in_order e gs) in
        let two = sum_by-cons f g gs in
        omega arith
    by false rest = sum_by-cons f e (g ∷ gs)

-- a sum stays as it is
pub in_order_sum : (f : ℕ × ℕ → ℕ) (es : List (ℕ × ℕ)) → sum_by f (in_order es) ≡ sum_by f es
in_order_sum f [] = refl
in_order_sum f (e ∷ es) = put_sum f e (in_order es) ∙ ap (λ (n : ℕ). f e + n) (in_order_sum f es) ∙ sym (sum_by-cons f e es)

has_put_itself : (e : ℕ × ℕ) (es : List (ℕ × ℕ)) → Has e (put_in_order e es)
has_put_itself e [] = inl refl
has_put_itself e (f ∷ fs) = by (is_below f e) (has_put_itself e fs)
  where
    by : (b : Bool) → Has e (put_in_order e fs) → Has e (if b then f ∷ put_in_order e fs else e ∷ (f ∷ fs))
    by true rest = inr rest
    by false rest = inl refl

has_put : (x e : ℕ × ℕ) (es : List (ℕ × ℕ)) → Has x es → Has x (put_in_order e es)
has_put x e [] has = absurd has
has_put x e (f ∷ fs) has = by (is_below f e) has (has_put x e fs)
  where
    by : (b : Bool) → Has x (f ∷ fs) → (Has x fs → Has x (put_in_order e fs)) → Has x (if b then f ∷ put_in_order e fs else e ∷ (f ∷ fs))
    by true (inl is) rest = inl is
    by true (inr has) rest = inr (rest has)
    by false has rest = inr has

has_in_order : (x : ℕ × ℕ) (es : List (ℕ × ℕ)) → Has x es → Has x (in_order es)
has_in_order x [] has = absurd has
has_in_order x (e ∷ es) (inl is) = subst (λ (y : ℕ × ℕ). Has y (put_in_order e (in_order es))) is (has_put_itself e (in_order es))
has_in_order x (e ∷ es) (inr has) = has_put x e (in_order es) (has_in_order x es has)

-- ---- lists in order with the same pairs

abbrev SameSums : List (ℕ × ℕ) → List (ℕ × ℕ) → Type 0
SameSums es fs = (f : ℕ × ℕ → ℕ) → sum_by f es ≡ sum_by f fs

has_by_sums : (x : ℕ × ℕ) (xs ys : List (ℕ × ℕ)) → SameSums (x ∷ xs) ys → Has x ys
has_by_sums x xs ys same =
    let one = at_itself x in
    let more = sum_by-cons (at_pair x) x xs in
    let all = same (at_pair x) in
    has_from x ys (omega arith)

one_order : (es fs : List (ℕ × ℕ)) → Rising es → Rising fs → SameSums es fs → es ≡ fs
one_order [] [] first second same = refl
one_order [] (f ∷ fs) first second same =
    let more = sum_by-cons (λ (x : ℕ × ℕ). 1) f fs in
    let all = same (λ x. 1) in
    absurd (omega arith)
one_order (e ∷ es) [] first second same =
    let more = sum_by-cons (λ (x : ℕ × ℕ). 1) e es in
    let all = same (λ x. 1) in
    absurd (omega arith)
one_order (e ∷ es) (f ∷ fs) first second same =
    let here : e ≡ f =
    same_pair e f (least f e fs second.0 (has_by_sums e es (f ∷ fs) same))
    (least e f es first.0 (has_by_sums f fs (e ∷ es) (λ g. sym (same g)))) in
    ap₂ (λ (x : ℕ × ℕ) (xs : List (ℕ × ℕ)). x ∷ xs) here
    (one_order es fs first.1 second.1 (λ g.
    let one = sum_by-cons g e es in
    let two = sum_by-cons g f fs in
    let all = same g in
    let heads : g e ≡ g f = ap g here in
    omega arith))

-- pairs that are sorted are those that are put in order
pub sorted_is : (es sorted : List (ℕ × ℕ)) → IsPermutation es sorted → IsSorted pair_cmp sorted → sorted ≡ in_order es
sorted_is es sorted moved is =
    one_order sorted (in_order es) (rising_sorted sorted is) (rising_in_order es)
    (λ f. sum_by-IsPermutation f es sorted moved ∙ sym (in_order_sum f es))

-- ---- the references of variables

-- one more variable
pub references_push : (place : ℕ) (vs : List Variable) (v : Variable) → references_from place (vs ++ v ∷ []) ≡ references_from place vs ++ (v.reference, place + length vs) ∷ []
references_push place [] v = ap (λ (n : ℕ). (v.reference, n) ∷ []) (omega arith)
references_push place (w ∷ ws) v =
    ap (λ (es : List (ℕ × ℕ)). (w.reference, place) ∷ es) (references_push (place + 1) ws v
    ∙ ap (λ (n : ℕ). references_from (place + 1) ws ++ (v.reference, n) ∷ []) (omega arith))

pub references_more : (vs : List Variable) (k : ℕ) (v : Variable) → k < length vs → v ≡ get_or vs k v → references_from 0 (take (k + 1) vs) ≡ references_from 0 (take k vs) ++ (v.reference, k) ∷ []
references_more vs k v within is =
    let len = length-take k vs in
    ap (references_from 0) (take_more vs k v within ∙ ap (λ (x : Variable). take k vs ++ x ∷ []) (sym is))
    ∙ references_push 0 (take k vs) v
    ∙ ap (λ (n : ℕ). references_from 0 (take k vs) ++ (v.reference, n) ∷ []) (omega arith)

-- each pair tells the reference of the variable at its place
pub record IsTold (variables : List Variable) (e : ℕ × ℕ) : Type 0 where
  pub variable : Variable
  pub at : slice_get variables e.1 ≡ Some variable
  pub has : variable.reference ≡ e.0

abbrev pub AreTold : List Variable → List (ℕ × ℕ) → Type 0
AreTold variables [] = Unit {0}
AreTold variables (e ∷ es) = IsTold variables e × AreTold variables es

told_put : (variables : List Variable) (e : ℕ × ℕ) (es : List (ℕ × ℕ)) → IsTold variables e → AreTold variables es → AreTold variables (put_in_order e es)
told_put variables e [] one more = (one, tt)
told_put variables e (f ∷ fs) one more = by (is_below f e) (told_put variables e fs one more.1)
  where
    by : (b : Bool) → AreTold variables (put_in_order e fs) → AreTold variables (if b then f ∷ put_in_order e fs else e ∷ (f ∷ fs))
    by true rest = (more.0, rest)
    by false rest = (one, more)

told_in_order : (variables : List Variable) (es : List (ℕ × ℕ)) → AreTold variables es → AreTold variables (in_order es)
told_in_order variables [] told = tt
told_in_order variables (e ∷ es) told = told_put variables e (in_order es) told.0 (told_in_order variables es told.1)

-- the variables from a place on stand there among all
abbrev StandsFrom : List Variable → ℕ → List Variable → Type 0
StandsFrom all place vs = (k : ℕ) (v : Variable) → slice_get vs k ≡ Some v → slice_get all (place + k) ≡ Some v

stands_next : (all : List Variable) (place : ℕ) (v : Variable) (vs : List Variable) → StandsFrom all place (v ∷ vs) → StandsFrom all (place + 1) vs
stands_next all place v vs stands k w at = ap (slice_get all) (omega arith) ∙ stands (suc k) w at

stands_here : (all : List Variable) (place : ℕ) (v : Variable) (vs : List Variable) → StandsFrom all place (v ∷ vs) → slice_get all place ≡ Some v
stands_here all place v vs stands = ap (slice_get all) (omega arith) ∙ stands 0 v refl

told_from : (all : List Variable) (place : ℕ) (vs : List Variable) → StandsFrom all place vs → AreTold all (references_from place vs)
told_from all place [] stands = tt
told_from all place (v ∷ vs) stands = (
  record { variable = v; at = stands_here all place v vs stands; has = refl },
  told_from all (place + 1) vs (stands_next all place v vs stands),
)

told_at : (variables : List Variable) (es : List (ℕ × ℕ)) (i : ℕ) (d : ℕ × ℕ) → AreTold variables es → i < length es → IsTold variables (get_or es i d)
told_at variables [] i d told within = absurd (omega arith)
told_at variables (e ∷ es) zero d told within = told.0
told_at variables (e ∷ es) (suc i) d told within = told_at variables es i d told.1 (omega arith)

stands_all : (variables : List Variable) → StandsFrom variables 0 variables
stands_all variables k v at = ap (slice_get variables) (omega arith) ∙ at

pub ordered_told : (variables : List Variable) → AreTold variables (ordered variables)
ordered_told variables = told_in_order variables (references_from 0 variables) (told_from variables 0 variables (stands_all variables))

-- the place of each is one of a variable
pub ordered_within : (variables : List Variable) (i : ℕ) (d : ℕ × ℕ) → i < length (ordered variables) → (get_or (ordered variables) i d).1 < length variables
ordered_within variables i d within =
    let told = told_at variables (ordered variables) i d (ordered_told variables) within in
    slice_get_within variables (get_or (ordered variables) i d).1 told.variable told.at

has_reference : (place : ℕ) (vs : List Variable) (k : ℕ) (v : Variable) → slice_get vs k ≡ Some v → Has (v.reference, place + k) (references_from place vs)
has_reference place [] k v at = cc
has_reference place (w ∷ ws) zero v at =
    inl (ap₂ (λ (a b : ℕ). (a, b)) (ap (λ (u : Variable). u.reference) (same_Some w v at)) (omega arith))
has_reference place (w ∷ ws) (suc k) v at =
    inr (subst (λ (n : ℕ). Has (v.reference, n) (references_from (place + 1) ws)) (omega arith) (has_reference (place + 1) ws k v at))

-- each variable is among them
pub ordered_has : (variables : List Variable) (k : ℕ) (v : Variable) → slice_get variables k ≡ Some v → Has (v.reference, k) (ordered variables)
ordered_has variables k v at =
    has_in_order (v.reference, k) (references_from 0 variables)
    (subst (λ (n : ℕ). Has (v.reference, n) (references_from 0 variables)) (omega arith) (has_reference 0 variables k v at))

-- a sum over them is one over the variables
pub ordered_sum : (all : List Variable) (f : ℕ × ℕ → ℕ) (g : Variable → ℕ) → ((e : ℕ × ℕ) (v : Variable) → slice_get all e.1 ≡ Some v → f e ≡ g v) → sum_by f (ordered all) ≡ sum_by g all
ordered_sum all f g each = in_order_sum f (references_from 0 all) ∙ from 0 all (stands_all all)
  where
    from : (place : ℕ) (vs : List Variable) → StandsFrom all place vs → sum_by f (references_from place vs) ≡ sum_by g vs
    from place [] stands = refl
    from place (v ∷ vs) stands =
        sum_by-cons f (v.reference, place) (references_from (place + 1) vs)
        ∙ ap₂ (λ (a b : ℕ). a + b) (each (v.reference, place) v (stands_here all place v vs stands)) (from (place + 1) vs (stands_next all place v vs stands))
        ∙ sym (sum_by-cons g v vs)
