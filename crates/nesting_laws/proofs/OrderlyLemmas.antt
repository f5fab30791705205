-- Two documents put together stand in order where each does.
use Rattle.std.proofs.Common.{◌≡◌, ◌∙◌, ◌⊎◌, inl, inr, ℕ, zero, suc, ◌+◌, ◌-◌, ◌<◌, ◌≤◌, nat_lt, Bool, true, false, cond, List, [], ◌∷◌, length, map, Option, Some, None, refl, sym, ap, subst, arith, slice_get}
use Rattle.std.specs.Option.{option_map}
use Rattle.std.proofs.lemmas.Bool.{cases_lt}
use Rattle.std.proofs.lemmas.Bool.Decides.{nat_tests}
use Rattle.std.proofs.lemmas.Option.{none-some, same_Some, slice_get_within}
use Rattle.std.proofs.lemmas.List.{length-map}
use Rattle.std.proofs.lemmas.List.Sums.{count_by-le-length, sum_by-cons}
use Rattle.ssd_tree.specs.declared.tree.SystemPart.{SystemPart}
use Rattle.ssd_tree.specs.declared.tree.ComponentPart.{ComponentPart}
use Rattle.ssd_tree.specs.declared.tree.SystemTree.{SystemTree}
use Rattle.nested_documents.specs.declared.seam.Frame.{Frame}
use Rattle.nested_documents.specs.declared.seam.Seam.{Seam}
use Rattle.nested_documents.specs.declared.seam.Side.TheVariants.{Outer, Inner}
use Rattle.nested_documents.specs.Inlining.{inlined, seam_of, systems_before}
use Rattle.nested_documents.specs.Moves.{after, moved_component_part, moved_parent, moved_system, moved_system_part}
use Rattle.structure_laws.specs.Orderly.{AreRising, IsOrderly, StandsAfter}
use Rattle.nesting_laws.proofs.PlaceLemmas.{Prefix, Inside, Back, put_back, put_cases, put_prefix, put_inside}

-- ---- places that move on

pub prefix : (before more place : ℕ) → place < before → after before more place ≡ place
prefix before more place less = let e : nat_lt place before ≡ true = grind (arith, nat_tests) in rw e refl

pub back : (before more place : ℕ) → before ≤ place → after before more place ≡ place + more
back before more place le = let e : nat_lt place before ≡ false = grind (arith, nat_tests) in rw e refl

pub either : (place before : ℕ) → (place < before) ⊎ (before ≤ place)
either place before = cases_lt place before

-- what moves on keeps its order
pub after_less : (before more i j : ℕ) → i < j → after before more i < after before more j
after_less before more i j less = elim (either i before) [
  | inl a ↦ elim (either j before) [
    | inl b ↦ let e = prefix before more i a in let f = prefix before more j b in omega (arith, e, f)
    | inr b ↦ let e = prefix before more i a in let f = back before more j b in omega (arith, e, f)
  ]
  | inr a ↦ let h : before ≤ j = omega arith in let e = back before more i a in let f = back before more j h in omega (arith, e, f)
]

-- ---- how many Systems stand before an element

one_most : (b : Bool) → cond {A = ℕ} b 1 0 ≤ 1
one_most true = omega arith
one_most false = omega arith

module _ (n : ℕ) where
  before_cons : (x : SystemPart) (xs : List SystemPart) → systems_before n (x ∷ xs) ≡ cond (nat_lt x.node n) 1 0 + systems_before n xs
  before_cons x xs = sum_by-cons (λ (y : SystemPart). cond (nat_lt y.node n) 1 0) x xs

  tail_rises : (x : SystemPart) (xs : List SystemPart) → AreRising (x ∷ xs) → AreRising xs
  tail_rises x xs rising i j y z at there less = rising (suc i) (suc j) y z at there (omega arith)

  none_before : (xs : List SystemPart) → ((i : ℕ) (y : SystemPart) → slice_get xs i ≡ Some y → n ≤ y.node) → systems_before n xs ≡ 0
  none_before [] all = refl
  none_before (x ∷ xs) all =
      let h = all 0 x refl in
      let e : nat_lt x.node n ≡ false = grind (arith, nat_tests) in
      rw e (none_before xs (λ i y at. all (suc i) y at))

  pub counted_prefix : (xs : List SystemPart) → AreRising xs → (i : ℕ) (x : SystemPart) → slice_get xs i ≡ Some x → x.node < n → i < systems_before n xs
  counted_prefix [] rising i x at less = absurd (none-some x at)
  counted_prefix (y ∷ xs) rising zero x at less =
      let e : nat_lt y.node n ≡ true = rw (same_Some y x at) (grind (arith, nat_tests)) in
      let one : ◌≡◌ {A = ℕ} (cond (nat_lt y.node n) 1 0) 1 = ap (λ b. cond {A = ℕ} b 1 0) e in
      let all = before_cons y xs in
      omega (arith, all, one)
  counted_prefix (y ∷ xs) rising (suc i) x at less =
      let h = rising 0 (suc i) y x refl at (omega arith) in
      let e : nat_lt y.node n ≡ true = grind (arith, nat_tests) in
      let one : ◌≡◌ {A = ℕ} (cond (nat_lt y.node n) 1 0) 1 = ap (λ b. cond {A = ℕ} b 1 0) e in
      let all = before_cons y xs in
      let more = counted_prefix xs (tail_rises y xs rising) i x at less in
      omega (arith, all, one, more)

  pub counted_back : (xs : List SystemPart) → AreRising xs → (i : ℕ) (x : SystemPart) → slice_get xs i ≡ Some x → n ≤ x.node → systems_before n xs ≤ i
  counted_back [] rising i x at le = absurd (none-some x at)
  counted_back (y ∷ xs) rising zero x at le =
      let same : y ≡ x = same_Some y x at in
      let here : n ≤ y.node = rw same le in
      let none = none_before (y ∷ xs) (λ i z there. at_least i z there here) in
      omega (arith, none)
    where
      at_least : (i : ℕ) (z : SystemPart) → slice_get (y ∷ xs) i ≡ Some z → n ≤ y.node → n ≤ z.node
      at_least zero z there here = rw (← same_Some y z there) here
      at_least (suc i) z there here = let h = rising 0 (suc i) y z refl there (omega arith) in omega (arith, h, here)
  counted_back (y ∷ xs) rising (suc i) x at le =
      let more = counted_back xs (tail_rises y xs rising) i x at le in
      let one = one_most (nat_lt y.node n) in
      let all = before_cons y xs in
      omega (arith, all, one, more)

-- ---- the Systems of the whole

unmap : {A B : Type 0} (g : A → B) (xs : List A) (i : ℕ) (z : B) → slice_get (map g xs) i ≡ Some z → (x : A) × (slice_get xs i ≡ Some x) × (z ≡ g x)
unmap g [] i z at = absurd (none-some z at)
unmap g (x ∷ xs) zero z at = (x, refl, sym (same_Some (g x) z at))
unmap g (x ∷ xs) (suc i) z at = unmap g xs i z at

pub remap : {A B : Type 0} (g : A → B) (xs : List A) (i : ℕ) (x : A) → slice_get xs i ≡ Some x → slice_get (map g xs) i ≡ Some (g x)
remap g [] i x at = absurd (none-some x at)
remap g (y ∷ xs) zero x at = ap (λ z. Some (g z)) (same_Some y x at)
remap g (y ∷ xs) (suc i) x at = remap g xs i x at

module _ (outer inner : SystemTree) (k : ℕ) (c : ComponentPart) (f : Frame) (elements count : ℕ) where
  abbrev s : Seam
  s = seam_of outer k c inner elements

  abbrev p : ℕ
  p = systems_before c.node outer.systems

  abbrev whole : SystemTree
  whole = inlined outer k c f inner elements

  abbrev ours : SystemPart → SystemPart
  ours x = moved_system_part s f Outer x

  abbrev theirs : SystemPart → SystemPart
  theirs x = moved_system_part s f Inner x

  fits : p ≤ length (map ours outer.systems)
  fits = let n = count_by-le-length (λ (x : SystemPart). nat_lt x.node c.node) outer.systems in rw (length-map outer.systems ours) n

  pub outer_at : (i : ℕ) (x : SystemPart) → slice_get outer.systems i ≡ Some x → slice_get whole.systems (moved_system s Outer i) ≡ Some (ours x)
  outer_at i x at = elim (either i p) [
    | inl a ↦
        let e = prefix p (length inner.systems) i a in
        rw e (put_prefix p 0 (map theirs inner.systems) (map ours outer.systems) i (ours x) a (remap ours outer.systems i x at))
    | inr b ↦
        let e = back p (length inner.systems) i b in
        let n = length-map inner.systems theirs in
        let g : (i - 0) + length (map theirs inner.systems) ≡ i + length inner.systems = omega (arith, n) in
        rw (e, ← g) (put_back p 0 (map theirs inner.systems) (map ours outer.systems) i (ours x) fits (omega arith) (remap ours outer.systems i x at))
  ]

  pub inner_at : (i : ℕ) (x : SystemPart) → slice_get inner.systems i ≡ Some x → slice_get whole.systems (i + p) ≡ Some (theirs x)
  inner_at i x at = put_inside p 0 (map theirs inner.systems) (map ours outer.systems) i (theirs x) fits (remap theirs inner.systems i x at)

  -- a System of the whole is one of either document
  pub data IsFrom (j : ℕ) (z : SystemPart) : Type 0 where
    FromOuter : (i : ℕ) (x : SystemPart) → j ≡ moved_system s Outer i → slice_get outer.systems i ≡ Some x → z ≡ ours x → IsFrom j z
    FromInner : (i : ℕ) (x : SystemPart) → j ≡ i + p → slice_get inner.systems i ≡ Some x → z ≡ theirs x → IsFrom j z

  pub from : (j : ℕ) (z : SystemPart) → slice_get whole.systems j ≡ Some z → IsFrom j z
  from j z there = elim (put_cases p 0 (map theirs inner.systems) (map ours outer.systems) j z fits there) [
    | Prefix less at ↦
        let x = unmap ours outer.systems j z at in
        let e = prefix p (length inner.systems) j less in
        FromOuter j x.0 (sym e) x.1 x.2
    | Inside i e at ↦ let x = unmap theirs inner.systems i z at in FromInner i x.0 e x.1 x.2
    | Back i e past at ↦
        let x = unmap ours outer.systems i z at in
        let n = length-map inner.systems theirs in
        let g = back p (length inner.systems) i (omega arith) in
        FromOuter i x.0 (omega (arith, e, n, g)) x.1 x.2
  ]

  module _ (out : IsOrderly count outer) (within : IsOrderly elements inner) where
    -- a System before the Component's element stands before its place, and one after it after
    place_before : (i : ℕ) (x : SystemPart) → slice_get outer.systems i ≡ Some x → i < p → x.node < c.node
    place_before i x at less = elim (either x.node c.node) [
      | inl a ↦ a
      | inr b ↦ let h = counted_back c.node outer.systems out.rising i x at b in absurd (omega (arith, h, less))
    ]

    place_after : (i : ℕ) (x : SystemPart) → slice_get outer.systems i ≡ Some x → p ≤ i → c.node ≤ x.node
    place_after i x at le = elim (either x.node c.node) [
      | inl a ↦ let h = counted_prefix c.node outer.systems out.rising i x at a in absurd (omega (arith, h, le))
      | inr b ↦ b
    ]

    both_outer : (i j : ℕ) (x y : SystemPart) → slice_get outer.systems i ≡ Some x → slice_get outer.systems j ≡ Some y → moved_system s Outer i < moved_system s Outer j → (ours x).node < (ours y).node
    both_outer i j x y at there less = elim (either i j) [
      | inl a ↦ let h = out.rising i j x y at there a in after_less c.node elements x.node y.node h
      | inr b ↦ absurd (not_less b)
    ]
      where
        not_less : j ≤ i → ⊥
        not_less le = elim (either j i) [
          | inl a ↦ let h = after_less p (length inner.systems) j i a in omega (arith, h, less)
          | inr b ↦ let e : i ≡ j = omega arith in let g : moved_system s Outer i ≡ moved_system s Outer j = ap (moved_system s Outer) e in omega (arith, g, less)
        ]

    outer_first : (i j : ℕ) (x y : SystemPart) → slice_get outer.systems i ≡ Some x → slice_get inner.systems j ≡ Some y → moved_system s Outer i < j + p → (ours x).node < (theirs y).node
    outer_first i j x y at there less = elim (either i p) [
      | inl a ↦
          let h = place_before i x at a in
          let e = prefix c.node elements x.node h in
          rw e (omega (arith, h))
      | inr b ↦
          let e = back p (length inner.systems) i b in
          let h = slice_get_within inner.systems j y there in
          absurd (omega (arith, e, h, less))
    ]

    inner_first : (i j : ℕ) (x y : SystemPart) → slice_get inner.systems i ≡ Some x → slice_get outer.systems j ≡ Some y → i + p < moved_system s Outer j → (theirs x).node < (ours y).node
    inner_first i j x y at there less = elim (either j p) [
      | inl a ↦ let e = prefix p (length inner.systems) j a in absurd (omega (arith, e, a, less))
      | inr b ↦
          let h = place_after j y there b in
          let e = back c.node elements y.node h in
          let n = within.below i x at in
          rw e (omega (arith, h, n))
    ]

    pub whole_rises : AreRising whole.systems
    whole_rises i j z w at there less = elim (from i z at) [
      | FromOuter a x e ax xe ↦ elim (from j w there) [
        | FromOuter b y g by ye ↦ rw (xe, ye) (both_outer a b x y ax by (subst (λ (m : ℕ). m < moved_system s Outer b) e (subst (λ (m : ℕ). i < m) g less)))
        | FromInner b y g by ye ↦ rw (xe, ye) (outer_first a b x y ax by (subst (λ (m : ℕ). m < b + p) e (subst (λ (m : ℕ). i < m) g less)))
      ]
      | FromInner a x e ax xe ↦ elim (from j w there) [
        | FromOuter b y g by ye ↦ rw (xe, ye) (inner_first a b x y ax by (subst (λ (m : ℕ). m < moved_system s Outer b) e (subst (λ (m : ℕ). i < m) g less)))
        | FromInner b y g by ye ↦ let h = within.rising a b x y ax by (omega (arith, e, g, less)) in rw (xe, ye) (omega (arith, h))
      ]
    ]

    module _ (at : slice_get outer.components k ≡ Some c) where
      stands : StandsAfter outer c
      stands = out.within k c at

      -- the System that the Component stands in stands before its place
      pub system_before : c.system < p
      system_before = let h = stands.2 in counted_prefix c.node outer.systems out.rising c.system stands.0 stands.1 h

      ends_below : c.node < count
      ends_below = out.ends k c at

      whole_below : (j : ℕ) (z : SystemPart) → slice_get whole.systems j ≡ Some z → z.node < count + elements
      whole_below j z there = elim (from j z there) [
        | FromOuter i x e ix xe ↦ elim (either x.node c.node) [
          | inl a ↦ let h = out.below i x ix in let g = prefix c.node elements x.node a in rw xe (rw g (omega (arith, h)))
          | inr b ↦ let h = out.below i x ix in let g = back c.node elements x.node b in rw xe (rw g (omega (arith, h)))
        ]
        | FromInner i x e ix xe ↦ let h = within.below i x ix in let g = ends_below in rw xe (omega (arith, h, g))
      ]

      whole_root : (x : SystemPart) × (slice_get whole.systems 0 ≡ Some x) × (x.parent ≡ None)
      whole_root =
          let h = system_before in
          let e = prefix p (length inner.systems) 0 (omega (arith, h)) in
          let x = out.root.0 in (
            ours x,
            subst (λ (m : ℕ). slice_get whole.systems m ≡ Some (ours x)) e (outer_at 0 x out.root.1),
            ap (option_map (moved_system s Outer)) out.root.2,
          )

      parent_outer : (i above : ℕ) (x : SystemPart) (parent : Option ℕ) → slice_get outer.systems i ≡ Some x → x.parent ≡ parent → option_map (moved_system s Outer) parent ≡ Some above → above < moved_system s Outer i
      parent_outer i above x None ix e there = absurd (none-some above there)
      parent_outer i above x (Some a) ix e there =
          let h = out.outer i a x ix e in
          let same : moved_system s Outer a ≡ above = same_Some (moved_system s Outer a) above there in
          subst (λ (m : ℕ). m < moved_system s Outer i) same (after_less p (length inner.systems) a i h)

      parent_inner : (i above : ℕ) (x : SystemPart) (parent : Option ℕ) → slice_get inner.systems i ≡ Some x → x.parent ≡ parent → moved_parent s Inner parent ≡ Some above → above < i + p
      parent_inner i above x None ix e there = let h = system_before in let same = same_Some c.system above there in omega (arith, h, same)
      parent_inner i above x (Some a) ix e there =
          let h = within.outer i a x ix e in
          let same = same_Some (a + p) above there in
          omega (arith, h, same)

      pub whole_outer : (j above : ℕ) (z : SystemPart) → slice_get whole.systems j ≡ Some z → z.parent ≡ Some above → above < j
      whole_outer j above z there up = elim (from j z there) [
        | FromOuter i x e ix xe ↦ rw e (parent_outer i above x x.parent ix refl (ap (λ (y : SystemPart). y.parent) (sym xe) ∙ up))
        | FromInner i x e ix xe ↦ rw e (parent_inner i above x x.parent ix refl (ap (λ (y : SystemPart). y.parent) (sym xe) ∙ up))
      ]

      -- ---- Components

      our_component : (i : ℕ) (x : ComponentPart) → slice_get outer.components i ≡ Some x → StandsAfter whole (moved_component_part s f Outer x)
      our_component i x there =
          let h = out.within i x there in
          let less = h.2 in
          (ours h.0, outer_at x.system h.0 h.1, after_less c.node elements h.0.node x.node less)

      their_component : (i : ℕ) (x : ComponentPart) → slice_get inner.components i ≡ Some x → StandsAfter whole (moved_component_part s f Inner x)
      their_component i x there =
          let h = within.within i x there in
          let less = h.2 in
          (theirs h.0, inner_at x.system h.0 h.1, omega (arith, less))

      abbrev our : ComponentPart → ComponentPart
      our x = moved_component_part s f Outer x

      abbrev their : ComponentPart → ComponentPart
      their x = moved_component_part s f Inner x

      room : k ≤ length (map our outer.components)
      room = let h = slice_get_within outer.components k c at in let n = length-map outer.components our in omega (arith, h, n)

      whole_within : (j : ℕ) (z : ComponentPart) → slice_get whole.components j ≡ Some z → StandsAfter whole z
      whole_within j z there = elim (put_cases k 1 (map their inner.components) (map our outer.components) j z room there) [
        | Prefix less ix ↦ let x = unmap our outer.components j z ix in subst (StandsAfter whole) (sym x.2) (our_component j x.0 x.1)
        | Inside i e ix ↦ let x = unmap their inner.components i z ix in subst (StandsAfter whole) (sym x.2) (their_component i x.0 x.1)
        | Back i e past ix ↦ let x = unmap our outer.components i z ix in subst (StandsAfter whole) (sym x.2) (our_component i x.0 x.1)
      ]

      our_end : (i : ℕ) (x : ComponentPart) → slice_get outer.components i ≡ Some x → (our x).node < count + elements
      our_end i x there =
          let h = out.ends i x there in
          elim (either x.node c.node) [
            | inl a ↦ let g = prefix c.node elements x.node a in rw g (omega (arith, h))
            | inr b ↦ let g = back c.node elements x.node b in rw g (omega (arith, h))
          ]

      whole_ends : (j : ℕ) (z : ComponentPart) → slice_get whole.components j ≡ Some z → z.node < count + elements
      whole_ends j z there = elim (put_cases k 1 (map their inner.components) (map our outer.components) j z room there) [
        | Prefix less ix ↦ let x = unmap our outer.components j z ix in rw x.2 (our_end j x.0 x.1)
        | Inside i e ix ↦
            let x = unmap their inner.components i z ix in
            let h = within.ends i x.0 x.1 in
            let g = ends_below in
            rw x.2 (omega (arith, h, g))
        | Back i e past ix ↦ let x = unmap our outer.components i z ix in rw x.2 (our_end i x.0 x.1)
      ]

      pub whole_orderly : IsOrderly (count + elements) whole
      whole_orderly = record {
        rising = whole_rises;
        below = whole_below;
        root = whole_root;
        outer = whole_outer;
        within = whole_within;
        ends = whole_ends;
      }
