-- A document without violations has an outermost System.
use Rattle.std.proofs.Common.{◌≡◌, ℕ, zero, suc, ◌+◌, ◌<◌, Bool, true, false, cond, List, [], ◌∷◌, find, length, refl, ◌∙◌, ap, inl, inr, arith}
use Rattle.std.specs.Prelude.{Option, Some, None, slice_get, count_by, codes}
use Rattle.std.specs.Option.{option_map_or, option_and_then}
use Rattle.std.proofs.lemmas.Bool.{both_ways, cases_order, eqb-true}
use Rattle.std.proofs.lemmas.List.Sums.{sum_by-cons}
use Rattle.std.proofs.lemmas.Option.{none-some as none_some, same_Some, slice_get_within}
use Rattle.doc_grammar.specs.Nodes.{Node}
use Rattle.doc_tree.specs.Elements.{child_if, children_from, is_parent}
use Rattle.doc_tree.specs.declared.rule.SystemRule.TheVariants as r
use Rattle.doc_tables.specs.Elements.{children, is_named, parent}
use Rattle.ssd_tree.specs.Elements.{IsSystem, Outermost, first_child}
use Rattle.ssd_tree.specs.Rules.{IsSoundStructure, system_count}

count_cons : {X : Type 0} (p : X → Bool) (x : X) (xs : List X) → count_by p (x ∷ xs) ≡ cond (p x) 1 0 + count_by p xs
count_cons p x xs = sum_by-cons (λ y. cond (p y) 1 0) x xs

counted : {X : Type 0} (p : X → Bool) (xs : List X) → 0 < count_by p xs → (k : ℕ) × ((x : X) × (slice_get xs k ≡ Some x) × (p x ≡ true))
counted p [] some = absurd (let e : count_by p [] ≡ 0 = refl in omega (arith, e, some))
counted {X} p (y ∷ xs) some =
    (elim (p y) as (λ b. p y ≡ b → (k : ℕ) × ((x : X) × (slice_get (y ∷ xs) k ≡ Some x) × (p x ≡ true))) [
      | true ↦ λ e. (0, (y, refl, e))
      | false ↦ λ e.
          let none : ◌≡◌ {A = ℕ} (cond (p y) 1 0) 0 = ap (λ b. cond {A = ℕ} b 1 0) e in
          let more = counted p xs (omega (arith, some, count_cons p y xs, none)) in
          (suc more.0, more.1)
    ]) refl

record IsChild (i : ℕ) (nodes : List Node) (k c : ℕ) : Type 0 where
  pub place : ℕ
  pub node : Node
  pub number : c ≡ i + place
  pub at : slice_get nodes place ≡ Some node
  pub in_it : is_parent node.parent k ≡ true

child_at : (i : ℕ) (nodes : List Node) (k place c : ℕ) → slice_get (children_from i nodes k) place ≡ Some c → IsChild i nodes k c
child_at i [] k place c at = absurd (none_some _ at)
child_at i (n ∷ nodes) k place c at =
    (elim (is_parent n.parent k) as (λ b. is_parent n.parent k ≡ b → slice_get (child_if b i (children_from (i + 1) nodes k)) place ≡ Some c → IsChild i (n ∷ nodes) k c) [
      | true ↦ λ e. here (λ m there. child_at (i + 1) nodes k m c there) e place
      | false ↦ λ e there. later (child_at (i + 1) nodes k place c there)
    ]) refl at
  where
    later : IsChild (i + 1) nodes k c → IsChild i (n ∷ nodes) k c
    later more = let number : c ≡ i + suc more.place = (let e : c ≡ (i + 1) + more.place = more.number in omega (arith, e)) in
        record { place = suc more.place; node = more.node; number = number; at = more.at; in_it = more.in_it }

    here : ((m : ℕ) → slice_get (children_from (i + 1) nodes k) m ≡ Some c → IsChild (i + 1) nodes k c) → is_parent n.parent k ≡ true → (m : ℕ) → slice_get (i ∷ children_from (i + 1) nodes k) m ≡ Some c → IsChild i (n ∷ nodes) k c
    here more e zero there = let number : c ≡ i + 0 = (let same : i ≡ c = same_Some _ _ there in omega (arith, same)) in
        record { place = 0; node = n; number = number; at = refl; in_it = e }
    here more e (suc m) there = later (more m there)

parent_is : (o : Option ℕ) (k : ℕ) → is_parent o k ≡ true → o ≡ Some k
parent_is None k is = absurd (both_ways false refl is)
parent_is (Some p) k is = ap Some (eqb-true p k is)

pub outermost_system : (t : List Node) → IsSoundStructure t → (k : ℕ) × IsSystem t k
outermost_system t sound =
    let one : system_count t 0 ≡ 1 = elim (cases_order (system_count t 0) 1) [
      | inl e ↦ e
      | inr (inl lower) ↦ absurd (sound.1 r.Structure 0 (refl, inr (inr (λ e. omega (arith, e, lower)))))
      | inr (inr higher) ↦ absurd (sound.1 r.Structure 0 (refl, inr (inr (λ e. omega (arith, e, higher)))))
    ] in
    let found = counted (λ c. is_named t c (codes "System")) (children t 0) (omega (arith, one)) in
    let child : IsChild 0 t 0 found.1.0 = in_root (slice_get t 0) found.0 found.1.0 found.1.1 in
    let number : found.1.0 ≡ child.place = (let e : found.1.0 ≡ 0 + child.place = child.number in omega (arith, e)) in
    (found.1.0, Outermost found.1.0 found.1.2 (ap (parent t) number ∙ ap (option_and_then (λ (n : Node). n.parent)) child.at ∙ parent_is child.node.parent 0 child.in_it))
  where
    in_root : (o : Option Node) (m c : ℕ) → slice_get (option_map_or (λ (n : Node). children_from 0 t 0) o []) m ≡ Some c → IsChild 0 t 0 c
    in_root None m c at = absurd (none_some _ at)
    in_root (Some n) m c at = child_at 0 t 0 m c at

-- ---- the first child with a name

found_at : {X : Type 0} (p : X → Bool) (xs : List X) (x : X) → find p xs ≡ Some x → (m : ℕ) × (slice_get xs m ≡ Some x)
found_at p [] x e = absurd (none_some x e)
found_at p (y ∷ ys) x e =
    (elim (p y) as (λ b. cond b (Some y) (find p ys) ≡ Some x → (m : ℕ) × (slice_get (y ∷ ys) m ≡ Some x)) [
      | true ↦ λ h. (0, h)
      | false ↦ λ h. let more = found_at p ys x h in (suc more.0, more.1)
    ]) e

pub first_child_within : (t : List Node) (k : ℕ) (name : List ℕ) (c : ℕ) → first_child t k name ≡ Some c → c < length t
first_child_within t k name c e = let found = found_at (λ m. is_named t m name) (children t k) c e in in_all (slice_get t k) found.0 found.1
  where
    in_all : (o : Option Node) (m : ℕ) → slice_get (option_map_or (λ (n : Node). children_from 0 t k) o []) m ≡ Some c → c < length t
    in_all None m at = absurd (none_some _ at)
    in_all (Some n) m at =
        let child = child_at 0 t k m c at in
        let number = child.number in
        omega (arith, number, slice_get_within t child.place child.node child.at)
