-- Names in order, and the elements that come after one of their name.
use Rattle.std.proofs.Common.{◌≡◌, ◌↔◌, ◌⊎◌, ℕ, zero, suc, ◌+◌, ◌-◌, ◌<◌, ◌≤◌, Bool, true, false, List, length, Option, Some, get_or, set, refl, sym, ap, ◌∙◌, subst, inl, inr, arith, All, IsTrue}
use Rattle.std.specs.List.{slice_get}
use Rattle.std.specs.List.Sorted.{IsSorted, IsPermutation}
use Rattle.std.specs.Ordering.{is_lt, is_eq, nat_cmp, ordering_then, ordering_reverse}
use Rattle.std.specs.Cmp.{IsTotalOrder}
use Rattle.std.specs.Cmp.Lexicographic.{slice_cmp}
use Rattle.std.specs.declared.cmp.Ordering.{Ordering}
use Rattle.std.specs.declared.cmp.Ordering.TheVariants.{Less, Equal, Greater}
use Rattle.std.proofs.lemmas.Cmp.{nat_cmp_total, nat_list_cmp_total, on_total, then_total, tied_itself}
use Rattle.std.proofs.lemmas.Bool.{cases_lt, cases_eq}
use Rattle.std.proofs.lemmas.Bool.Decides.{nat_tests}
use Rattle.std.proofs.lemmas.List.{get_or-set_same, get_or-set_other}
use Rattle.std.proofs.lemmas.List.Sorted.{sorted_far, ranks_by, All-permutation, Contains-permutation}
use Rattle.std.proofs.lemmas.Option.{slice_get_within, slice_get-get_or, get_or_from_slice_get, same_Some}
use Rattle.std.proofs.lemmas.Map.Text.{is_eq-slice_cmp}
use Rattle.std.proofs.lemmas.Slice.Eq.{bytes_eq-Decides}
use Rattle.std.proofs.lemmas.Grind.{common_steps}
use Rattle.doc_tables.specs.Tables.{IsRepeated}
use Rattle.doc_tables.proofs.CallerLemmas.{IsWithin}
use Rattle.fmu_description.specs.Names.{AreNamed, AreNamedBelow, IsAfter, IsAfterAt, Named, StandsAfter, named_cmp}

-- ---- the list

-- all elements, in another order
pub all_named : (key : ℕ → Option (List ℕ)) (n : ℕ) (named ordered : List Named) → AreNamedBelow key n named → IsWithin key n → IsPermutation named ordered → AreNamed key ordered
all_named key n named ordered below within moved = record {
  told = All-permutation (λ (x : Named). key x.1 ≡ Some x.0.now) named ordered moved below.told;
  whole = λ k name some.
      let is = below.whole k name (within k name some) some in
      (is.0, Contains-permutation named ordered is.0 moved is.1, is.2, is.3);
}

pub named_within : (key : ℕ → Option (List ℕ)) (n : ℕ) (named : List Named) → IsWithin key n → AreNamed key named → All (λ (e : Named). e.1 < n) named
named_within key n named within is = λ i d less. within (get_or named i d).1 (get_or named i d).0.now (is.told i d less)

-- ---- the order

named_total : IsTotalOrder named_cmp
named_total = then_total (on_total (λ (e : Named). e.0.now) nat_list_cmp_total) (on_total (λ (e : Named). e.1) nat_cmp_total)

first_not : (o p : Ordering) → is_lt (ordering_then o p) ≡ false → is_lt o ≡ false
first_not Less p h = h
first_not Equal p h = refl
first_not Greater p h = refl

neither : (o p : Ordering) → o ≡ ordering_reverse p → is_lt o ≡ false → is_lt p ≡ false → is_eq o ≡ true
neither Less p e h i = cc
neither Equal p e h i = refl
neither Greater Less e h i = cc
neither Greater Equal e h i = cc
neither Greater Greater e h i = cc

not_less : (a b : ℕ) → is_lt (nat_cmp a b) ≡ false → b ≤ a
not_less a b h = grind (arith, nat_tests, common_steps)

second_not : (o p : Ordering) → o ≡ Equal → is_lt (ordering_then o p) ≡ false → is_lt p ≡ false
second_not o p e h = subst (λ (z : Ordering). is_lt (ordering_then z p) ≡ false) e h

-- of two of one name the one that isn't before the other has no lower element
no_lower : (e f : Named) → e.0.now ≡ f.0.now → is_lt (named_cmp f e) ≡ false → e.1 ≤ f.1
no_lower e f same h =
    let tied : slice_cmp nat_cmp f.0.now e.0.now ≡ Equal = ap (slice_cmp nat_cmp f.0.now) same ∙ tied_itself nat_list_cmp_total f.0.now in
    not_less f.1 e.1 (second_not (slice_cmp nat_cmp f.0.now e.0.now) (nat_cmp f.1 e.1) tied h)

-- what stands between two of one name has the name
between : (e g f : Named) → e.0.now ≡ f.0.now → is_lt (named_cmp g e) ≡ false → is_lt (named_cmp f g) ≡ false → g.0.now ≡ f.0.now
between e g f same after before =
    let not_after : is_lt (slice_cmp nat_cmp g.0.now f.0.now) ≡ false = subst (λ (s : List ℕ). is_lt (slice_cmp nat_cmp g.0.now s) ≡ false) same (first_not (slice_cmp nat_cmp g.0.now e.0.now) (nat_cmp g.1 e.1) after) in
    let not_before : is_lt (slice_cmp nat_cmp f.0.now g.0.now) ≡ false = first_not (slice_cmp nat_cmp f.0.now g.0.now) (nat_cmp f.1 g.1) before in
    let tied : is_eq (slice_cmp nat_cmp g.0.now f.0.now) ≡ true = neither (slice_cmp nat_cmp g.0.now f.0.now) (slice_cmp nat_cmp f.0.now g.0.now) (nat_list_cmp_total.antisymm g.0.now f.0.now) not_after not_before in
    (bytes_eq-Decides g.0.now f.0.now).0 (sym (is_eq-slice_cmp g.0.now f.0.now) ∙ tied)

-- ---- repeated names

module _ (key : ℕ → Option (List ℕ)) (named : List Named) (is : AreNamed key named) (sorted : IsSorted named_cmp named) where
  told_at : (i : ℕ) (e : Named) → slice_get named i ≡ Some e → key e.1 ≡ Some e.0.now
  told_at i e at = subst (λ (x : Named). key x.1 ≡ Some x.0.now) (get_or_from_slice_get named i e e at) (is.told i e (slice_get_within named i e at))

  not_before : (i j : ℕ) (e f : Named) → slice_get named i ≡ Some e → slice_get named j ≡ Some f → i ≤ j → is_lt (named_cmp f e) ≡ false
  not_before i j e f at_i at_j le =
      rw (← get_or_from_slice_get named i e e at_i, ← get_or_from_slice_get named j f e at_j)
      (sorted_far _ (ranks_by named_total (λ (x : Named). x)) named sorted i j e le (slice_get_within named j f at_j))

  repeated_from : (k : ℕ) → StandsAfter named k → IsRepeated key k
  repeated_from k stands =
      let b = stands.1 in
      let one : key b.one.1 ≡ Some b.other.0.now = told_at stands.0 b.one b.before ∙ ap Some b.after.0 in
      let other : key k ≡ Some b.other.0.now = ap key (sym b.is) ∙ told_at (stands.0 + 1) b.other b.here in
      (b.other.0.now, other, (b.one.1, subst (λ (m : ℕ). b.one.1 < m) b.is b.after.1, one))

  -- one place back from an element of the name: it comes after the one there, or that is the same element
  module _ (k p : ℕ) (e : Named) (at_p : slice_get named p ≡ Some e) (low : e.1 < k) where
    step : (r : ℕ) (f : Named) → slice_get named (suc r) ≡ Some f → e.0.now ≡ f.0.now → f.1 ≡ k → p < suc r
        → ((g : Named) → slice_get named r ≡ Some g → e.0.now ≡ g.0.now → g.1 ≡ k → p < r → StandsAfter named k) → StandsAfter named k
    step r f at same is_k less further = by (cases_lt g.1 k) (cases_eq p r)
      where
        within : r < length named
        within = let w = slice_get_within named (suc r) f at in omega arith

        g : Named
        g = get_or named r e

        at_r : slice_get named r ≡ Some g
        at_r = slice_get-get_or named r e within

        alike : g.0.now ≡ f.0.now
        alike = between e g f same (not_before p r e g at_p at_r (omega arith)) (not_before r (suc r) g f at_r at (omega arith))

        no_more : g.1 ≤ f.1
        no_more = no_lower g f alike (not_before r (suc r) g f at_r at (omega arith))

        by : (g.1 < k) ⊎ (k ≤ g.1) → (p ≡ r) ⊎ (p ≡ r → ⊥) → StandsAfter named k
        by (inl lower) c = (
          r,
          record {
            one = g;
            other = f;
            before = at_r;
            here = ap (slice_get named) (omega arith) ∙ at;
            after = (alike, omega arith);
            is = is_k;
          },
        )
        by (inr higher) (inl here) =
            let same_place : e ≡ g = same_Some e g (sym at_p ∙ ap (slice_get named) here ∙ at_r) in
            let same_element : e.1 ≡ g.1 = ap (λ (x : Named). x.1) same_place in
            absurd (omega arith)
        by (inr higher) (inr apart) = further g at_r (same ∙ sym alike) (let le : g.1 ≤ f.1 = no_more in omega arith) (let other : p ≡ r → ⊥ = apart in omega arith)

    back : (q : ℕ) (f : Named) → slice_get named q ≡ Some f → e.0.now ≡ f.0.now → f.1 ≡ k → p < q → StandsAfter named k
    back zero f at same is_k less = absurd (omega (arith, less))
    back (suc r) f at same is_k less = step r f at same is_k less (λ g at_r alike is lower. back r g at_r alike is lower)

  stands_from : (k : ℕ) → IsRepeated key k → StandsAfter named k
  stands_from k repeated =
      let lower = repeated.2 in
      let one = is.whole lower.0 repeated.0 lower.2 in
      let other = is.whole k repeated.0 repeated.1 in
      let at_one : slice_get named one.1.0 ≡ Some one.0 = slice_get-get_or named one.1.0 one.0 one.1.1 ∙ ap Some one.1.2 in
      let at_other : slice_get named other.1.0 ≡ Some other.0 = slice_get-get_or named other.1.0 other.0 other.1.1 ∙ ap Some other.1.2 in
      let same : one.0.0.now ≡ other.0.0.now = one.2 ∙ sym other.2 in
      let less : one.0.1 < other.0.1 = let h = lower.1 in let e = one.3 in let f = other.3 in omega arith in
      elim (cases_lt one.1.0 other.1.0) [
        | inl before ↦ back k one.1.0 one.0 at_one (let f = other.3 in omega arith) other.1.0 other.0 at_other same other.3 before
        | inr later ↦ absurd (let le = no_lower other.0 one.0 (sym same) (not_before other.1.0 one.1.0 other.0 one.0 at_other at_one later) in omega arith)
      ]

  -- the elements after one of their name are those that repeat a name
  pub stands_repeated : (k : ℕ) → StandsAfter named k ↔ IsRepeated key k
  stands_repeated k = (repeated_from k, stands_from k)

-- ---- marks, one place after another

-- what is marked repeats a name, and what repeats one at the places below n is marked
pub record HasMarked (named : List Named) (n : ℕ) (marks : List Bool) : Type 0 where
  pub sound : (k : ℕ) → get_or marks k false ≡ true → StandsAfter named k
  pub whole : (i k : ℕ) → i + 1 < n → IsAfterAt named i k → get_or marks k false ≡ true

module _ (named : List Named) (place : ℕ) (marks : List Bool) (one other : Named) (above : 1 ≤ place) (at_one : slice_get named (place - 1) ≡ Some one) (at_other : slice_get named place ≡ Some other)
    (has : HasMarked named place marks)
  where
    -- it comes after the one before it
    pub marked_more : IsAfter one other → other.1 < length marks → HasMarked named (place + 1) (set marks other.1 true)
    marked_more later within = record { sound = sound; whole = whole }
      where
        here : StandsAfter named other.1
        here = (
          place - 1,
          record {
            one = one;
            other = other;
            before = at_one;
            here = ap (slice_get named) (omega arith) ∙ at_other;
            after = later;
            is = refl;
          },
        )

        sound : (k : ℕ) → get_or (set marks other.1 true) k false ≡ true → StandsAfter named k
        sound k h = elim (cases_eq k other.1) [
          | inl same ↦ subst (StandsAfter named) (sym same) here
          | inr apart ↦ has.sound k (sym (get_or-set_other marks other.1 k true false apart) ∙ h)
        ]

        kept : (k : ℕ) → get_or marks k false ≡ true → get_or (set marks other.1 true) k false ≡ true
        kept k h = elim (cases_eq k other.1) [
          | inl same ↦ ap (λ m. get_or (set marks other.1 true) m false) same ∙ get_or-set_same marks other.1 true false within
          | inr apart ↦ get_or-set_other marks other.1 k true false apart ∙ h
        ]

        whole : (i k : ℕ) → i + 1 < place + 1 → IsAfterAt named i k → get_or (set marks other.1 true) k false ≡ true
        whole i k less is = elim (cases_lt (i + 1) place) [
          | inl lower ↦ kept k (has.whole i k lower is)
          | inr later ↦
              let at : i + 1 ≡ place = omega arith in
              let same : is.other ≡ other = same_Some is.other other (sym is.here ∙ ap (slice_get named) at ∙ at_other) in
              let element : k ≡ other.1 = sym is.is ∙ ap (λ (x : Named). x.1) same in
              ap (λ m. get_or (set marks other.1 true) m false) element ∙ get_or-set_same marks other.1 true false within
        ]

    -- it doesn't
    pub marked_still : (IsAfter one other → ⊥) → HasMarked named (place + 1) marks
    marked_still never_after = record {
      sound = has.sound;
      whole = λ i k less is. elim (cases_lt (i + 1) place) [
        | inl lower ↦ has.whole i k lower is
        | inr later ↦
            let at : i + 1 ≡ place = omega arith in
            let before : i ≡ place - 1 = omega arith in
            let same : is.other ≡ other = same_Some is.other other (sym is.here ∙ ap (slice_get named) at ∙ at_other) in
            let same_one : is.one ≡ one = same_Some is.one one (sym is.before ∙ ap (slice_get named) before ∙ at_one) in
            absurd (never_after (subst (λ (x : Named). IsAfter one x) same (subst (λ (x : Named). IsAfter x is.other) same_one is.after)))
      ];
    }

pub marked_all : (named : List Named) (n : ℕ) (marks : List Bool) → length named ≤ n → HasMarked named n marks → (k : ℕ) → IsTrue (get_or marks k false) ↔ StandsAfter named k
marked_all named n marks past has k = (has.sound k, λ stands. has.whole stands.0 k (let w = slice_get_within named (stands.0 + 1) stands.1.other stands.1.here in omega arith) stands.1)
