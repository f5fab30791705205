-- Orders by prefixes of a list, and by what stands before an element.
use Rattle.std.proofs.Common.{◌≡◌, ℕ, ◌+◌, ◌<◌, List, [], ◌∷◌, ◌++◌, length, take, drop, get_or, refl, sym, ap, ◌∙◌, subst, arith}
use Rattle.std.specs.List.{Contains}
use Rattle.std.proofs.lemmas.List.{length-append, take-append-drop, drop_more}
use Rattle.std.proofs.Math.Seq.{take-append_seam}
use Rattle.dependency_order.specs.Graph as graph
use Rattle.system_model.specs.Orders.{IsOrder}

-- what stands at a place parts the list there
parted : (order : List ℕ) (i : ℕ) → i < length order → order ≡ take i order ++ get_or order i 0 ∷ drop (i + 1) order
parted order i within = sym (take-append-drop i order) ∙ ap (λ z. take i order ++ z) (drop_more order i 0 within)

pub by_prefixes : (IsAmong : ℕ → Type 0) (NeedsOf : ℕ → ℕ → Type 0) (order : List ℕ) → IsOrder IsAmong NeedsOf order → graph.IsOrder IsAmong NeedsOf order
by_prefixes IsAmong NeedsOf order o = record {
  each = o.each;
  only = o.only;
  once = λ i within h. o.once (take i order) (drop (i + 1) order) (get_or order i 0) (parted order i within) h;
  after = λ i q within r. o.after (take i order) (drop (i + 1) order) (get_or order i 0) q (parted order i within) r;
}

prefix_is : (order before later : List ℕ) (p : ℕ) → order ≡ before ++ p ∷ later → take (length before) order ≡ before
prefix_is order before later p e = ap (take (length before)) e ∙ take-append_seam before (p ∷ later)

within_is : (order before later : List ℕ) (p : ℕ) → order ≡ before ++ p ∷ later → length before < length order
within_is order before later p e = let n = ap length e in let m = length-append before (p ∷ later) in omega (arith, n, m)

element_is : (order before later : List ℕ) (p : ℕ) → order ≡ before ++ p ∷ later → get_or order (length before) 0 ≡ p
element_is order before later p e = ap (λ z. get_or z (length before) 0) e ∙ seam before
  where
    seam : (xs : List ℕ) → get_or (xs ++ p ∷ later) (length xs) 0 ≡ p
    seam [] = refl
    seam (x ∷ xs) = seam xs

pub by_parts : (IsAmong : ℕ → Type 0) (NeedsOf : ℕ → ℕ → Type 0) (order : List ℕ) → graph.IsOrder IsAmong NeedsOf order → IsOrder IsAmong NeedsOf order
by_parts IsAmong NeedsOf order o = record {
  each = o.each;
  only = o.only;
  once = λ before later p e h.
      o.once (length before) (within_is order before later p e) (subst (λ z. Contains z (get_or order (length before) 0)) (sym (prefix_is order before later p e)) (subst (Contains before) (sym (element_is order before later p e)) h));
  after = λ before later p q e r.
      subst (λ z. Contains z q) (prefix_is order before later p e) (o.after (length before) q (within_is order before later p e) (subst (λ z. NeedsOf z q) (sym (element_is order before later p e)) r));
}

-- ---- another relation and other nodes that are the same

pub leads_as : (R S : ℕ → ℕ → Type 0) → ((p q : ℕ) → R p q → S p q) → (a : ℕ) (xs : List ℕ) (b : ℕ) → graph.Leads R a xs b → graph.Leads S a xs b
leads_as R S on a [] b l = on a b l
leads_as R S on a (x ∷ xs) b l = (on a x l.0, leads_as R S on x xs b l.1)

pub loop_as : (R S : ℕ → ℕ → Type 0) → ((p q : ℕ) → R p q → S p q) → (nodes : List ℕ) → graph.IsLoop R nodes → graph.IsLoop S nodes
loop_as R S on [] l = l
loop_as R S on (x ∷ xs) l = leads_as R S on x xs x l

pub order_as : (A B : ℕ → Type 0) (R S : ℕ → ℕ → Type 0) (order : List ℕ) → ((p : ℕ) → A p → B p) → ((p : ℕ) → B p → A p) → ((p q : ℕ) → S p q → R p q) → graph.IsOrder A R order → graph.IsOrder B S order
order_as A B R S order on back needs o = record {
  each = λ p b. o.each p (back p b);
  only = λ p h. on p (o.only p h);
  once = o.once;
  after = λ i q within r. o.after i q within (needs (get_or order i 0) q r);
}
