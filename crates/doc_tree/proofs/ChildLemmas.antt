-- The children of nodes, where one more node follows.
use Rattle.std.proofs.Common.{◌≡◌, ℕ, zero, suc, ◌+◌, ◌<◌, Bool, true, false, ◌==◌, List, [], ◌∷◌, ◌++◌, length, map, get_or, set, Option, Some, None, IfSome, slice_get, refl, sym, ap, ◌∙◌, subst, arith, zero-add, length-append}
use Rattle.std.specs.Option.{option_and_then, option_map}
use Rattle.std.proofs.lemmas.Option.{slice_get-map, slice_get_read}
use Rattle.std.proofs.lemmas.List.{append-nil, map-append, get_or-set_same, get_or-set_other, length-map, map-set}
use Rattle.std.proofs.lemmas.Bool.{eqb-true, eqb-false}
use Rattle.std.specs.declared.vec.Vec.{Vec}
use Rattle.std.specs.declared.alloc.Global.{Global}
use Rattle.doc_grammar.specs.Nodes.{Node}
use Rattle.doc_tree.specs.declared.tree.Element.{Element}
use Rattle.doc_tree.specs.Elements.{is_parent, child_if, children_from, children_of, node_of, items_of, with_child, Adopts, IsBelow, IsInOrder, Keeps}
use Rattle.doc_tree.specs.Path.{parent_at}

child_if_append : (b : Bool) (i : ℕ) (xs ys : List ℕ) → child_if b i (xs ++ ys) ≡ child_if b i xs ++ ys
child_if_append true i xs ys = refl
child_if_append false i xs ys = refl

children_snoc : (i : ℕ) (ns : List Node) (n : Node) (k : ℕ) → children_from i (ns ++ n ∷ []) k ≡ children_from i ns k ++ child_if (is_parent n.parent k) (i + length ns) []
children_snoc i [] n k =
    let e : i ≡ i + length {A = Node} [] = omega arith in
    ap (λ z. child_if (is_parent n.parent k) z []) e
children_snoc i (m ∷ ns) n k =
    let e : i + 1 + length ns ≡ i + length (m ∷ ns) = omega arith in
    ap (child_if (is_parent m.parent k) i) (children_snoc (i + 1) ns n k)
    ∙ child_if_append (is_parent m.parent k) i (children_from (i + 1) ns k) (child_if (is_parent n.parent k) (i + 1 + length ns) [])
    ∙ ap (λ z. child_if (is_parent m.parent k) i (children_from (i + 1) ns k) ++ child_if (is_parent n.parent k) z []) e

-- a list more that is the default changes no look-up
get_or_snoc : (xs : List (List ℕ)) (k : ℕ) → get_or (xs ++ [] ∷ []) k [] ≡ get_or xs k []
get_or_snoc [] zero = refl
get_or_snoc [] (suc k) = refl
get_or_snoc (x ∷ xs) zero = refl
get_or_snoc (x ∷ xs) (suc k) = get_or_snoc xs k

pub adopts_none : (lists : List (List ℕ)) (child : ℕ) → Adopts lists lists None child
adopts_none lists child k = sym (append-nil (get_or lists k []))

pub adopts_some : (lists new : List (List ℕ)) (parent child : ℕ) → parent < length lists → new ≡ with_child lists parent child → Adopts lists new (Some parent) child
adopts_some lists new parent child h e k = ap (λ z. get_or z k []) e ∙ at (parent == k) refl
  where
    at : (b : Bool) → (parent == k) ≡ b → get_or (with_child lists parent child) k [] ≡ get_or lists k [] ++ child_if b child []
    at true f =
        subst (λ z. get_or (with_child lists parent child) z [] ≡ get_or lists z [] ++ child ∷ []) (eqb-true parent k f)
        (get_or-set_same lists parent (get_or lists parent [] ++ child ∷ []) [] h)
    at false f =
        get_or-set_other lists parent k (get_or lists parent [] ++ child ∷ []) [] (λ q. eqb-false parent k f (sym q)) ∙ sym (append-nil (get_or lists k []))

-- ---- each node after its parent

order_from : (i : ℕ) (ns : List Node) (n : Node) → ((k : ℕ) → IsBelow (i + k) (parent_at ns k)) → IsBelow (i + length ns) n.parent → (k : ℕ) → IsBelow (i + k) (parent_at (ns ++ n ∷ []) k)
order_from i [] n h b zero = b
order_from i [] n h b (suc k) = tt
order_from i (m ∷ ns) n h b zero = h 0
order_from i (m ∷ ns) n h b (suc k) =
    subst (λ z. IsBelow z (parent_at (ns ++ n ∷ []) k)) (next k)
    (order_from (i + 1) ns n (λ j. subst (λ z. IsBelow z (parent_at ns j)) (sym (next j)) (h (suc j))) (subst (λ z. IsBelow z n.parent) (sym (next (length ns))) b) k)
  where
    next : (j : ℕ) → i + 1 + j ≡ i + suc j
    next j = omega arith

order_snoc : (ns : List Node) (n : Node) → IsInOrder ns → IsBelow (length ns) n.parent → IsInOrder (ns ++ n ∷ [])
order_snoc ns n h b k =
    subst (λ z. IsBelow z (parent_at (ns ++ n ∷ []) k)) (zero-add k)
    (order_from 0 ns n (λ j. subst (λ z. IsBelow z (parent_at ns j)) (sym (zero-add j)) (h j)) (subst (λ z. IsBelow z n.parent) (sym (zero-add (length ns))) b) k)

pub parent_before : (elements : List Element) (k : ℕ) (e : Element) → IsInOrder (map node_of elements) → k < length elements → e ≡ get_or elements k e → IfSome e.parent (λ p. p < k)
parent_before elements k e order within at_k =
    let is : slice_get elements k ≡ Some e = slice_get_read elements (length elements) k e refl within at_k in
    at e.parent (subst (IsBelow k) (ap (option_and_then (λ (n : Node). n.parent)) (slice_get-map node_of elements k ∙ ap (option_map node_of) is)) (order k))
  where
    at : (o : Option ℕ) → IsBelow k o → IfSome o (λ p. p < k)
    at None b = tt
    at (Some p) b = b

pub keeps_more : (elements all : List Element) (children one two : List (Vec ℕ Global)) (element : Element) (fresh : Vec ℕ Global) (node : ℕ) → Keeps (map node_of elements) children
    → node ≡ length elements → Adopts (map items_of children) (map items_of one) element.parent node → length one ≡ length children → fresh.items ≡ [] → two ≡ one ++ fresh ∷ [] → all ≡ elements ++ element ∷ []
    → IsBelow (length (map node_of elements)) element.parent → Keeps (map node_of all) two
keeps_more elements all children one two element fresh node k m a n f g h b =
    let p = ap length g in
    let q = ap length h in
    let s = k.same in
    let whole : map node_of all ≡ map node_of elements ++ node_of element ∷ [] = ap (map node_of) h ∙ map-append node_of elements (element ∷ []) in
    let size : node ≡ 0 + length (map node_of elements) = omega (arith, m, length-map elements node_of) in
    record {
      same = omega (arith, p, q, s, n, length-map elements node_of, length-map all node_of, length-append one (fresh ∷ []), length-append elements (element ∷ []));
      each = λ i.
          ap (λ z. get_or (map items_of z) i []) g ∙ ap (λ z. get_or z i []) (map-append items_of one (fresh ∷ []))
          ∙ ap (λ z. get_or (map items_of one ++ z ∷ []) i []) f ∙ get_or_snoc (map items_of one) i ∙ a i
          ∙ ap (λ z. z ++ child_if (is_parent element.parent i) node []) (k.each i)
          ∙ ap (λ z. children_of (map node_of elements) i ++ child_if (is_parent element.parent i) z []) size
          ∙ sym (children_snoc 0 (map node_of elements) (node_of element) i) ∙ sym (ap (λ z. children_of z i) whole);
      in_order = subst IsInOrder (sym whole) (order_snoc (map node_of elements) (node_of element) k.in_order b);
    }

pub with_child_is : (lists : List (Vec ℕ Global)) (parent child : ℕ) (old new : Vec ℕ Global) → parent < length lists → old ≡ get_or lists parent old → new.items ≡ old.items ++ child ∷ [] → map items_of (set lists parent new) ≡ with_child (map items_of lists) parent child
with_child_is lists parent child old new h e f =
    map-set items_of lists parent new ∙ ap (set (map items_of lists) parent) (f ∙ ap (λ z. z ++ child ∷ []) (at lists parent h e))
  where
    at : (lists : List (Vec ℕ Global)) (parent : ℕ) → parent < length lists → old ≡ get_or lists parent old → old.items ≡ get_or (map items_of lists) parent []
    at [] parent h e = absurd (omega (arith, h))
    at (v ∷ lists) zero h e = ap items_of e
    at (v ∷ lists) (suc parent) h e = at lists parent (omega (arith, h)) e
