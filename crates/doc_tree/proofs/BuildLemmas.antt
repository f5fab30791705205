-- The numbers of the open elements.
use Rattle.std.proofs.Common.{◌≡◌, ℕ, zero, suc, ◌-◌, ◌<◌, ◌≤◌, List, [], ◌∷◌, ◌++◌, length, reverse, Option, Some, refl, sym, ap, ◌∙◌, subst, arith, slice_get, option_to_list, length-append}
use Rattle.std.proofs.lemmas.List.{reverse-append, reverse-reverse}
use Rattle.doc_grammar.specs.Nodes.{Node, innermost}
use Rattle.doc_tree.specs.Elements.{IsBelow}
use Rattle.doc_tree.specs.Building.{AllBelow}

pub below_more : (n m : ℕ) (ks : List ℕ) → n ≤ m → AllBelow n ks → AllBelow m ks
below_more n m [] h a = tt
below_more n m (k ∷ ks) h a = let f = a.0 in (omega (arith, h, f), below_more n m ks h a.1)

pub below_snoc : (n : ℕ) (ks : List ℕ) (k : ℕ) → AllBelow n ks → k < n → AllBelow n (ks ++ k ∷ [])
below_snoc n [] k a h = (h, tt)
below_snoc n (j ∷ ks) k a h = (a.0, below_snoc n ks k a.1 h)

pub below_prefix : (n : ℕ) (ks js : List ℕ) → AllBelow n (ks ++ js) → AllBelow n ks
below_prefix n [] js a = tt
below_prefix n (k ∷ ks) js a = (a.0, below_prefix n ks js a.1)

pub reverse_snoc : (ks : List ℕ) (k : ℕ) → reverse (ks ++ k ∷ []) ≡ k ∷ reverse ks
reverse_snoc ks k = reverse-append ks (k ∷ [])

-- the first of a list is the last of the reversed one
last_of : (rs : List ℕ) → slice_get (reverse rs) (length (reverse rs) - 1) ≡ innermost rs
last_of [] = refl
last_of (r ∷ rs) =
    let e = reverse-append (r ∷ []) rs in
    ap (λ z. slice_get z (length z - 1)) e ∙ seam (reverse rs)
  where
    at : (xs : List ℕ) → slice_get (xs ++ r ∷ []) (length xs) ≡ Some r
    at [] = refl
    at (x ∷ xs) = at xs

    seam : (xs : List ℕ) → slice_get (xs ++ r ∷ []) (length (xs ++ r ∷ []) - 1) ≡ Some r
    seam xs =
        let e : length (xs ++ r ∷ []) - 1 ≡ length xs = omega (arith, length-append xs (r ∷ [])) in
        ap (slice_get (xs ++ r ∷ [])) e ∙ at xs

pub last_is : (ks : List ℕ) → slice_get ks (length ks - 1) ≡ innermost (reverse ks)
last_is ks = ap (λ z. slice_get z (length z - 1)) (sym (reverse-reverse ks)) ∙ last_of (reverse ks)

below_get : (n : ℕ) (ks : List ℕ) (i : ℕ) → AllBelow n ks → IsBelow n (slice_get ks i)
below_get n [] i a = tt
below_get n (k ∷ ks) zero a = a.0
below_get n (k ∷ ks) (suc i) a = below_get n ks i a.1

pub last_below : (n : ℕ) (ks : List ℕ) (last : Option ℕ) → last ≡ slice_get ks (length ks - 1) → AllBelow n ks → IsBelow n last
last_below n ks last e a = subst (IsBelow n) (sym e) (below_get n ks (length ks - 1) a)

pub begun_below : (old new : List ℕ) (tree mid more : List Node) (x : Node) (k : ℕ) → AllBelow (length tree) old → tree ≡ mid → k ≡ length mid → new ≡ old ++ k ∷ [] → more ≡ mid ++ x ∷ [] → AllBelow (length more) new
begun_below old new tree mid more x k a e f g h =
    let s = ap length h in
    let t = ap length e in
    let few : length tree ≤ length more = omega (arith, s, t, length-append mid (x ∷ [])) in
    let less : k < length more = omega (arith, f, s, length-append mid (x ∷ [])) in
    subst (AllBelow (length more)) (sym g) (below_snoc (length more) old k (below_more (length tree) (length more) old few a) less)

abbrev pub two : List ℕ → List Node → List ℕ × List Node
two around nodes = (around, nodes)

pub begun_view : (self : List ℕ × List Node) (old new : List ℕ) (tree mid more : List Node) (x y : Node) (k : ℕ) → self ≡ two (reverse old) tree → tree ≡ mid → k ≡ length mid → new ≡ old ++ k ∷ [] → more ≡ mid ++ x ∷ [] → x ≡ y
    → two (reverse new) more ≡ two (length self.1 ∷ self.0) (self.1 ++ y ∷ [])
begun_view self old new tree mid more x y k v e f g h i =
    subst (λ (s : List ℕ × List Node). two (reverse new) more ≡ two (length s.1 ∷ s.0) (s.1 ++ y ∷ [])) (sym v)
    (ap (λ z. two (reverse z) more) g ∙ ap (λ z. two z more) (reverse_snoc old k) ∙ ap (two (k ∷ reverse old)) (h ∙ ap (λ z. mid ++ z ∷ []) i)
    ∙ ap (λ z. two (z ∷ reverse old) (mid ++ y ∷ [])) f ∙ ap (λ z. two (length z ∷ reverse old) (z ++ y ∷ [])) (sym e))

pub popped_below : (n : ℕ) (old new : List ℕ) (last : Option ℕ) → AllBelow n old → old ≡ new ++ option_to_list last → AllBelow n new
popped_below n old new last a e = below_prefix n new (option_to_list last) (subst (AllBelow n) e a)

pub starts_below : (old around : List ℕ) (tree mid : List Node) (p q : Option ℕ) → AllBelow (length tree) old → mid ≡ tree → around ≡ old → ((count : ℕ) → AllBelow count around → IsBelow count p) → q ≡ p → IsBelow (length mid) q
starts_below old around tree mid p q a e f h g =
    subst (λ z. IsBelow (length mid) z) (sym g) (h (length mid) (subst (λ z. AllBelow (length mid) z) (sym f) (subst (λ z. AllBelow (length z) old) (sym e) a)))
