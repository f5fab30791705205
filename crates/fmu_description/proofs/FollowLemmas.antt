-- Lists of the elements of some sort, one element after another.
use Rattle.std.proofs.Common.{◌≡◌, ◌⊎◌, ◌↔◌, ℕ, zero, suc, ◌+◌, ◌<◌, Bool, true, false, ◌==◌, cond, List, [], ◌∷◌, ◌++◌, length, take, get_or, Option, Some, None, refl, sym, ap, ◌∙◌, subst, inl, inr, arith, zero-add, eq-eqb}
use Rattle.std.specs.List.{Contains, slice_get}
use Rattle.std.specs.Option.{option_and_then}
use Rattle.std.proofs.lemmas.Bool.{cases_eq, eqb-true, eqb-false}
use Rattle.std.proofs.lemmas.List.{take_more, get_or_default}
use Rattle.std.proofs.lemmas.List.Elements.{Contains-append_left, Contains-append_right, Contains-append_cases, Contains-push, Contains-push_cases, Contains-get_or}
use Rattle.doc_grammar.specs.Nodes.{Node}
use Rattle.doc_tree.specs.Elements.{is_parent, child_if, children_from, children_of}
use Rattle.doc_tables.specs.Elements.{parent}
use Rattle.fmu_description.specs.Elements.{is_variable, is_dimension}
use Rattle.fmu_description.specs.Clocks.{clocks_of}
use Rattle.fmu_description.specs.Marks.{Follows, ListsBelow, ListsFollowers, PutsUnder}
use Rattle.fmu_description.proofs.TableLemmas.{is_variable_within}
use Rattle.fmu_description.proofs.MarkLemmas.{contains_none, contains_one}

-- ---- the numbers below n that have a property

abbrev pub ListsAllBelow : (ℕ → Type 0) → ℕ → List ℕ → Type 0
ListsAllBelow P n xs = (k : ℕ) → Contains xs k ↔ ((k < n) × P k)

pub all_none : (P : ℕ → Type 0) → ListsAllBelow P 0 []
all_none P k = (λ h. absurd (contains_none k h), λ h. absurd (omega (arith, h.0)))

next_cases : (k n : ℕ) → k < n + 1 → (k < n) ⊎ (k ≡ n)
next_cases k n h = at (cases_eq k n)
  where
    at : (k ≡ n) ⊎ (k ≡ n → ⊥) → (k < n) ⊎ (k ≡ n)
    at (inl e) = inr e
    at (inr ne) = inl (omega (arith, ne))

pub all_yes : (P : ℕ → Type 0) (n : ℕ) (xs : List ℕ) → ListsAllBelow P n xs → P n → ListsAllBelow P (n + 1) (xs ++ n ∷ [])
all_yes P n xs all here k = (λ h. to (Contains-push_cases xs n k h), λ h. from h.1 (next_cases k n h.0))
  where
    to : Contains xs k ⊎ (n ≡ k) → (k < n + 1) × P k
    to (inl h) = let p : (k < n) × P k = (all k).0 h in (omega (arith, p.0), p.1)
    to (inr e) = (omega (arith, e), subst P e here)

    from : P k → (k < n) ⊎ (k ≡ n) → Contains (xs ++ n ∷ []) k
    from p (inl h) = Contains-append_left xs (n ∷ []) k ((all k).1 (h, p))
    from p (inr e) = subst (λ z. Contains (xs ++ n ∷ []) z) (sym e) (Contains-push xs n)

pub all_no : (P : ℕ → Type 0) (n : ℕ) (xs : List ℕ) → ListsAllBelow P n xs → (P n → ⊥) → ListsAllBelow P (n + 1) xs
all_no P n xs all none k = (λ h. let p : (k < n) × P k = (all k).0 h in (omega (arith, p.0), p.1), λ h. from h.1 (next_cases k n h.0))
  where
    from : P k → (k < n) ⊎ (k ≡ n) → Contains xs k
    from p (inl h) = (all k).1 (h, p)
    from p (inr e) = absurd (none (subst P e p))

-- ---- the children

abbrev parent_in : List Node → ℕ → Option ℕ
parent_in t k = option_and_then (λ (n : Node). n.parent) (slice_get t k)

-- the element j is one of these, counted from i on, and its parent is k
abbrev IsChild : ℕ → List Node → ℕ → ℕ → Type 0
IsChild i ns k j = (m : ℕ) × (j ≡ i + m) × (parent_in ns m ≡ Some k)

parent_is : (o : Option ℕ) (k : ℕ) → is_parent o k ≡ true → o ≡ Some k
parent_is None k e = cc
parent_is (Some p) k e = ap Some (eqb-true p k e)

is_parent_of : (o : Option ℕ) (k : ℕ) → o ≡ Some k → is_parent o k ≡ true
is_parent_of o k e = ap (λ z. is_parent z k) e ∙ eq-eqb k k refl

child_later : (i : ℕ) (n : Node) (ns : List Node) (k j : ℕ) → IsChild (i + 1) ns k j → IsChild i (n ∷ ns) k j
child_later i n ns k j p = let e : j ≡ i + 1 + p.0 = p.1 in (suc p.0, omega (arith, e), p.2)

child_first : (i : ℕ) (n : Node) (ns : List Node) (k j : ℕ) → is_parent n.parent k ≡ true → Contains (i ∷ []) j ⊎ IsChild (i + 1) ns k j → IsChild i (n ∷ ns) k j
child_first i n ns k j e (inl h) = let same : i ≡ j = contains_one i j h in (0, omega (arith, same), parent_is n.parent k e)
child_first i n ns k j e (inr p) = child_later i n ns k j p

child_if_to : (b : Bool) (i : ℕ) (n : Node) (ns : List Node) (k j : ℕ) → is_parent n.parent k ≡ b → (Contains (children_from (i + 1) ns k) j → IsChild (i + 1) ns k j)
    → Contains (child_if b i (children_from (i + 1) ns k)) j → IsChild i (n ∷ ns) k j
child_if_to false i n ns k j e later g = child_later i n ns k j (later g)
child_if_to true i n ns k j e later g = child_first i n ns k j e (rest (Contains-append_cases (i ∷ []) (children_from (i + 1) ns k) j g))
  where
    rest : Contains (i ∷ []) j ⊎ Contains (children_from (i + 1) ns k) j → Contains (i ∷ []) j ⊎ IsChild (i + 1) ns k j
    rest (inl g) = inl g
    rest (inr g) = inr (later g)

child_to : (i : ℕ) (ns : List Node) (k j : ℕ) → Contains (children_from i ns k) j → IsChild i ns k j
child_to i [] k j h = absurd (contains_none j h)
child_to i (n ∷ ns) k j h = child_if_to (is_parent n.parent k) i n ns k j refl (λ g. child_to (i + 1) ns k j g) h

child_if_keeps : (b : Bool) (i : ℕ) (is : List ℕ) (j : ℕ) → Contains is j → Contains (child_if b i is) j
child_if_keeps true i is j h = Contains-append_right (i ∷ []) is j h
child_if_keeps false i is j h = h

child_from : (i : ℕ) (ns : List Node) (k m : ℕ) → parent_in ns m ≡ Some k → Contains (children_from i ns k) (i + m)
child_from i [] k m e = cc
child_from i (n ∷ ns) k zero e =
    let same : i ≡ i + 0 = omega arith in
    subst (λ b. Contains (child_if b i (children_from (i + 1) ns k)) (i + 0)) (sym (is_parent_of n.parent k e)) (0, omega arith, same)
child_from i (n ∷ ns) k (suc m) e =
    let same : i + 1 + m ≡ i + suc m = omega arith in
    child_if_keeps (is_parent n.parent k) i (children_from (i + 1) ns k) (i + suc m) (subst (λ z. Contains (children_from (i + 1) ns k) z) same (child_from (i + 1) ns k m e))

-- the children are the elements with this parent
pub children_are : (t : List Node) (k j : ℕ) → Contains (children_of t k) j ↔ (parent t j ≡ Some k)
children_are t k j = (λ h. to (child_to 0 t k j h), λ e. from e)
  where
    to : IsChild 0 t k j → parent t j ≡ Some k
    to p = let same : j ≡ p.0 = p.1 ∙ zero-add p.0 in ap (parent t) same ∙ p.2

    from : parent t j ≡ Some k → Contains (children_of t k) j
    from e = subst (λ z. Contains (children_of t k) z) (zero-add j) (child_from 0 t k j e)

-- ---- the elements that name a reference

pub puts_none : (node : ℕ) (old : ℕ → List ℕ) → PutsUnder [] node old old
puts_none node old k q = (λ h. inl h, back)
  where
    back : Contains (old q) k ⊎ ((k ≡ node) × Contains [] q) → Contains (old q) k
    back (inl h) = h
    back (inr h) = absurd (contains_none q h.1)

puts_one : (r node : ℕ) (old new : ℕ → List ℕ) → ((q : ℕ) → new q ≡ cond (q == r) (old q ++ node ∷ []) (old q)) → (k q : ℕ) → Contains (new q) k ↔ (Contains (old q) k ⊎ ((k ≡ node) × (q ≡ r)))
puts_one r node old new each k q = at (q == r) refl
  where
    to : q ≡ r → Contains (old q) k ⊎ (node ≡ k) → Contains (old q) k ⊎ ((k ≡ node) × (q ≡ r))
    to same (inl h) = inl h
    to same (inr e) = inr (sym e, same)

    back : Contains (old q) k ⊎ ((k ≡ node) × (q ≡ r)) → Contains (old q ++ node ∷ []) k
    back (inl h) = Contains-append_left (old q) (node ∷ []) k h
    back (inr h) = subst (λ z. Contains (old q ++ node ∷ []) z) (sym h.0) (Contains-push (old q) node)

    apart : (q ≡ r → ⊥) → Contains (old q) k ⊎ ((k ≡ node) × (q ≡ r)) → Contains (old q) k
    apart ne (inl h) = h
    apart ne (inr h) = absurd (ne h.1)

    at : (b : Bool) → (q == r) ≡ b → Contains (new q) k ↔ (Contains (old q) k ⊎ ((k ≡ node) × (q ≡ r)))
    at true e =
        let is : new q ≡ old q ++ node ∷ [] = each q ∙ ap (λ b. cond b (old q ++ node ∷ []) (old q)) e in
        (λ h. to (eqb-true q r e) (Contains-push_cases (old q) node k (subst (λ z. Contains z k) is h)), λ h. subst (λ z. Contains z k) (sym is) (back h))
    at false e =
        let is : new q ≡ old q = each q ∙ ap (λ b. cond b (old q ++ node ∷ []) (old q)) e in
        (λ h. inl (subst (λ z. Contains z k) is h), λ h. subst (λ z. Contains z k) (sym is) (apart (eqb-false q r e) h))

pub puts_more : (references : List ℕ) (i node : ℕ) (old mid new : ℕ → List ℕ) → i < length references → PutsUnder (take i references) node old mid
    → ((q : ℕ) → new q ≡ cond (q == get_or references i 0) (mid q ++ node ∷ []) (mid q)) → PutsUnder (take (i + 1) references) node old new
puts_more references i node old mid new within before each k q = (λ h. to (one.0 h), λ h. one.1 (back h))
  where
    r : ℕ
    r = get_or references i 0

    all : take (i + 1) references ≡ take i references ++ r ∷ []
    all = take_more references i 0 within

    one : Contains (new q) k ↔ (Contains (mid q) k ⊎ ((k ≡ node) × (q ≡ r)))
    one = puts_one r node mid new each k q

    first : Contains (old q) k ⊎ ((k ≡ node) × Contains (take i references) q) → Contains (old q) k ⊎ ((k ≡ node) × Contains (take (i + 1) references) q)
    first (inl h) = inl h
    first (inr h) = inr (h.0, subst (λ z. Contains z q) (sym all) (Contains-append_left (take i references) (r ∷ []) q h.1))

    to : Contains (mid q) k ⊎ ((k ≡ node) × (q ≡ r)) → Contains (old q) k ⊎ ((k ≡ node) × Contains (take (i + 1) references) q)
    to (inl h) = first ((before k q).0 h)
    to (inr h) = inr (h.0, subst (λ z. Contains z q) (sym all) (subst (λ z. Contains (take i references ++ r ∷ []) z) (sym h.1) (Contains-push (take i references) r)))

    last : k ≡ node → Contains (take i references) q ⊎ (r ≡ q) → Contains (mid q) k ⊎ ((k ≡ node) × (q ≡ r))
    last e (inl h) = inl ((before k q).1 (inr (e, h)))
    last e (inr same) = inr (e, sym same)

    back : Contains (old q) k ⊎ ((k ≡ node) × Contains (take (i + 1) references) q) → Contains (mid q) k ⊎ ((k ≡ node) × (q ≡ r))
    back (inl h) = inl ((before k q).1 (inl h))
    back (inr h) = last h.0 (Contains-push_cases (take i references) r q (subst (λ z. Contains z q) all h.1))

pub lists_none : (t : List Node) (listed : ℕ → List ℕ) → ((q : ℕ) → listed q ≡ []) → ListsBelow t 0 listed
lists_none t listed none k q = (λ h. absurd (contains_none k (subst (λ z. Contains z k) (none q) h)), λ h. absurd (omega (arith, h.0)))

-- the element is no variable
pub lists_past : (t : List Node) (n : ℕ) (listed : ℕ → List ℕ) → is_variable t n ≡ false → ListsBelow t n listed → ListsBelow t (n + 1) listed
lists_past t n listed none below k q = all_no (λ z. Follows t z q) n (listed q) (λ z. below z q) (λ f. let is : is_variable t n ≡ true = f.0 in cc) k

-- it is one
pub lists_more : (t : List Node) (n : ℕ) (old new : ℕ → List ℕ) → is_variable t n ≡ true → ListsBelow t n old → PutsUnder (clocks_of t n) n old new → ListsBelow t (n + 1) new
lists_more t n old new is below puts k q = (λ h. to ((puts k q).0 h), λ h. (puts k q).1 (back h.1 (next_cases k n h.0)))
  where
    to : Contains (old q) k ⊎ ((k ≡ n) × Contains (clocks_of t n) q) → (k < n + 1) × Follows t k q
    to (inl h) = let p : (k < n) × Follows t k q = (below k q).0 h in (omega (arith, p.0), p.1)
    to (inr h) = let e : k ≡ n = h.0 in (omega (arith, e), subst (λ z. Follows t z q) (sym e) (is, h.1))

    back : Follows t k q → (k < n) ⊎ (k ≡ n) → Contains (old q) k ⊎ ((k ≡ n) × Contains (clocks_of t n) q)
    back f (inl h) = inl ((below k q).1 (h, f))
    back f (inr e) = inr (e, (subst (λ z. Follows t z q) e f).1)

pub lists_whole : (t : List Node) (listed : ℕ → List ℕ) → ListsBelow t (length t) listed → ListsFollowers t listed
lists_whole t listed below k q = (λ h. ((below k q).0 h).1, λ f. (below k q).1 (is_variable_within t k f.0, f))

-- ---- Dimensions

-- no child is a Dimension
pub no_dimension : (t : List Node) (k : ℕ) → ((j : ℕ) → j < length (children_of t k) → is_dimension t (get_or (children_of t k) j 0) ≡ true → ⊥)
    → ((j : ℕ) × (is_dimension t j ≡ true) × (parent t j ≡ Some k)) → ⊥
no_dimension t k none has =
    let at : Contains (children_of t k) has.0 = (children_are t k has.0).1 has.2 in
    let same : get_or (children_of t k) at.0 0 ≡ has.0 = get_or_default (children_of t k) at.0 0 has.0 at.1 ∙ at.2 in
    none at.0 at.1 (ap (is_dimension t) same ∙ has.1)

-- this child is one
pub a_dimension : (t : List Node) (k i : ℕ) → i < length (children_of t k) → is_dimension t (get_or (children_of t k) i 0) ≡ true
    → (j : ℕ) × (is_dimension t j ≡ true) × (parent t j ≡ Some k)
a_dimension t k i within is = (get_or (children_of t k) i 0, is, (children_are t k (get_or (children_of t k) i 0)).0 (Contains-get_or (children_of t k) i 0 within))
