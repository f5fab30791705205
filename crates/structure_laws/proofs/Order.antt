-- The elements of a document come after the elements that they stand in.
use Rattle.std.proofs.Common.{◌≡◌, ℕ, zero, suc, ◌+◌, ◌≤◌, List, [], ◌∷◌, ◌++◌, length, Option, Some, None, inl, inr, refl, sym, subst, arith, length-append}
use Rattle.doc_grammar.specs.Grammar.{strict, Content, done, char, reference, comment, instruction, section, empty, element, Event, Body, Unmarked, Document}
use Rattle.doc_grammar.specs.Nodes.{Node, nodes_of, Denotes, count, nodes_under}
use Rattle.doc_grammar.specs.Laws.{Ordered}
use Rattle.doc_tree.specs.Elements.{IsBelow, IsInOrder}
use Rattle.doc_tree.specs.Path.{parent_at}

below_more : (p : Option ℕ) (m n : ℕ) → m ≤ n → IsBelow m p → IsBelow n p
below_more None m n le h = tt
below_more (Some p) m n le h = omega (arith, le, h)

-- each node, numbered from n on, comes after its parent
abbrev AreAfter : ℕ → List Node → Type 0
AreAfter n [] = Unit {0}
AreAfter n (x ∷ xs) = IsBelow n x.parent × AreAfter (n + 1) xs

after_append : (n m : ℕ) (xs ys : List Node) → m ≡ n + length xs → AreAfter n xs → AreAfter m ys → AreAfter n (xs ++ ys)
after_append n m [] ys e h k = subst (λ i. AreAfter i ys) same k
  where
    same : m ≡ n
    same = omega (arith, e)
after_append n m (x ∷ xs) ys e h k = (h.0, after_append (n + 1) m xs ys (omega (arith, e)) h.1 k)

under_length : (c : Content) (p : Option ℕ) (n : ℕ) → length (nodes_under c p n) ≡ count c
under_length done p n = refl
under_length (char b c) p n = under_length c p n
under_length (reference r c) p n = under_length c p n
under_length (comment t c) p n = under_length c p n
under_length (instruction y t c) p n = under_length c p n
under_length (section t c) p n = under_length c p n
under_length (empty t c) p n = let h = under_length c p (n + 1) in omega (arith, h)
under_length (element t kids gap c) p n =
    let h = under_length kids (Some n) (n + 1) in
    let k = under_length c p (n + 1 + count kids) in
    omega (arith, h, k, length-append (nodes_under kids (Some n) (n + 1)) (nodes_under c p (n + 1 + count kids)))

under_after : (c : Content) (p : Option ℕ) (n : ℕ) → IsBelow n p → AreAfter n (nodes_under c p n)
under_after done p n h = tt
under_after (char b c) p n h = under_after c p n h
under_after (reference r c) p n h = under_after c p n h
under_after (comment t c) p n h = under_after c p n h
under_after (instruction y t c) p n h = under_after c p n h
under_after (section t c) p n h = under_after c p n h
under_after (empty t c) p n h = (h, under_after c p (n + 1) (below_more p n (n + 1) (omega arith) h))
under_after (element t kids gap c) p n h =
    let below = nodes_under kids (Some n) (n + 1) in
    let next = n + 1 + count kids in
    (h, after_append (n + 1) next below (nodes_under c p next) (omega (arith, under_length kids (Some n) (n + 1))) (under_after kids (Some n) (n + 1) (omega arith)) (under_after c p next (below_more p n next (omega arith) h)))

at_each : (n : ℕ) (xs : List Node) → AreAfter n xs → (k : ℕ) → IsBelow (n + k) (parent_at xs k)
at_each n [] h k = tt
at_each n (x ∷ xs) h zero = below_more x.parent n (n + 0) (omega arith) h.0
at_each n (x ∷ xs) h (suc k) = below_more (parent_at xs k) (n + 1 + k) (n + suc k) (omega arith) (at_each (n + 1) xs h.1 k)

module _ (in_order : Ordered) where
  body_order : (text : List ℕ) (tree : List Event) → Body strict text tree → IsInOrder (nodes_of tree)
  body_order text tree (c, h, e, f) =
      subst (λ y. IsInOrder (nodes_of y)) (sym f) (subst IsInOrder (sym (in_order c)) whole)
    where
      whole : IsInOrder (nodes_under c None 0)
      whole k = below_more (parent_at (nodes_under c None 0) k) (0 + k) k (omega arith) (at_each 0 (nodes_under c None 0) (under_after c None 0 tt) k)

  unmarked_order : (text : List ℕ) (tree : List Event) → Unmarked strict text tree → IsInOrder (nodes_of tree)
  unmarked_order text tree (inl b) = body_order text tree b
  unmarked_order text tree (inr (d, rest, h, e, b)) = body_order rest tree b

  document_order : (text : List ℕ) (tree : List Event) → Document strict text tree → IsInOrder (nodes_of tree)
  document_order text tree (inl u) = unmarked_order text tree u
  document_order text tree (inr (rest, e, u)) = unmarked_order rest tree u

  pub order : (bytes : List ℕ) (nodes : List Node) → Denotes bytes nodes → IsInOrder nodes
  order bytes nodes (tree, (text, e, d), f) = subst IsInOrder (sym f) (document_order text tree d)
