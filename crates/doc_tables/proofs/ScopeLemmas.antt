-- A table by a scope and a name, after an insertion.
use Rattle.std.proofs.Common.{◌≡◌, ◌⊎◌, ℕ, Bool, true, false, cond, List, Option, Some, refl, sym, ap, ◌∙◌, subst, inl, inr, arith, Bor, eqb, ltb}
use Rattle.std.specs.BTreeMap.{BTreeMap, get_by, UpdatesBy}
use Rattle.std.specs.Ordering.{is_eq, nat_cmp, ordering_then}
use Rattle.std.specs.Cmp.Lexicographic.{slice_cmp}
use Rattle.std.specs.declared.cmp.Ordering.{Ordering}
use Rattle.std.specs.declared.cmp.Ordering.TheVariants.{Less, Equal, Greater}
use Rattle.std.proofs.lemmas.Map.Text.{is_eq-slice_cmp}
use Rattle.std.proofs.lemmas.Slice.Eq.{bytes_eq-Decides}
use Rattle.std.proofs.lemmas.Bool.{eqb-true, eq-eqb, le-ltb, false≢true}

abbrev pub Pair : Type 0
Pair = ℕ × Bor (List ℕ)

abbrev pub pair_cmp : Pair → Pair → Ordering
pair_cmp x y = ordering_then (nat_cmp x.0 y.0) (slice_cmp nat_cmp x.1.now y.1.now)

then_same : (a b : ℕ) (s t : List ℕ) → is_eq (ordering_then (nat_cmp a b) (slice_cmp nat_cmp s t)) ≡ true → (a ≡ b) × (s ≡ t)
then_same a b s t e = by (ltb a b) (eqb a b) refl e
  where
    by : (l c : Bool) → eqb a b ≡ c → is_eq (ordering_then (cond l Less (cond c Equal Greater)) (slice_cmp nat_cmp s t)) ≡ true → (a ≡ b) × (s ≡ t)
    by true c h e' = absurd (false≢true e')
    by false true h e' = (eqb-true a b h, (bytes_eq-Decides s t).0 (sym (is_eq-slice_cmp s t) ∙ e'))
    by false false h e' = absurd (false≢true e')

then_is : (a : ℕ) (s : List ℕ) → is_eq (ordering_then (nat_cmp a a) (slice_cmp nat_cmp s s)) ≡ true
then_is a s = goes (ltb a a) (eqb a a) (le-ltb a a (omega arith)) (eq-eqb a a refl)
  where
    goes : (l c : Bool) → l ≡ false → c ≡ true → is_eq (ordering_then (cond l Less (cond c Equal Greater)) (slice_cmp nat_cmp s s)) ≡ true
    goes true c e f = absurd (false≢true (sym e))
    goes false true e f = is_eq-slice_cmp s s ∙ (bytes_eq-Decides s s).1 refl
    goes false false e f = absurd (false≢true f)

then_equal : (a b : ℕ) (s t : List ℕ) → a ≡ b → s ≡ t → is_eq (ordering_then (nat_cmp a b) (slice_cmp nat_cmp s t)) ≡ true
then_equal a b s t e f = subst (λ z. is_eq (ordering_then (nat_cmp a z) (slice_cmp nat_cmp s t)) ≡ true) e (subst (λ z. is_eq (ordering_then (nat_cmp a a) (slice_cmp nat_cmp s z)) ≡ true) f (then_is a s))

pub pair_each : (y : ℕ × List ℕ) (key : Pair) (n : ℕ) (old new : BTreeMap Pair ℕ) → UpdatesBy pair_cmp (pair_cmp key) old new (Some n) → key.0 ≡ y.0 → key.1.now ≡ y.1
    → (x : ℕ × List ℕ) → ((x ≡ y) × (get_by (λ k. ordering_then (nat_cmp x.0 k.0) (slice_cmp nat_cmp x.1 k.1.now)) new ≡ Some n))
    ⊎ ((x ≡ y → ⊥) × (get_by (λ k. ordering_then (nat_cmp x.0 k.0) (slice_cmp nat_cmp x.1 k.1.now)) new ≡ get_by (λ k. ordering_then (nat_cmp x.0 k.0) (slice_cmp nat_cmp x.1 k.1.now)) old))
pair_each y key n old new u e0 e1 x = by (is_eq (pair_cmp key q)) refl
  where
    q : Pair
    q = (x.0, record key.1 { now = x.1 })

    at : Option ℕ
    at = get_by (λ k. ordering_then (nat_cmp x.0 k.0) (slice_cmp nat_cmp x.1 k.1.now)) new

    was : Option ℕ
    was = get_by (λ k. ordering_then (nat_cmp x.0 k.0) (slice_cmp nat_cmp x.1 k.1.now)) old

    says : get_by (λ k. ordering_then (nat_cmp x.0 k.0) (slice_cmp nat_cmp x.1 k.1.now)) new ≡ cond (is_eq (pair_cmp key q)) (Some n) (get_by (λ k. ordering_then (nat_cmp x.0 k.0) (slice_cmp nat_cmp x.1 k.1.now)) old)
    says = u.0 q

    by : (b : Bool) → is_eq (pair_cmp key q) ≡ b → ((x ≡ y) × (get_by (λ k. ordering_then (nat_cmp x.0 k.0) (slice_cmp nat_cmp x.1 k.1.now)) new ≡ Some n))
        ⊎ ((x ≡ y → ⊥) × (get_by (λ k. ordering_then (nat_cmp x.0 k.0) (slice_cmp nat_cmp x.1 k.1.now)) new ≡ get_by (λ k. ordering_then (nat_cmp x.0 k.0) (slice_cmp nat_cmp x.1 k.1.now)) old))
    by true e =
        let s = then_same key.0 x.0 key.1.now x.1 e in
        inl (ap (λ a. (a, x.1)) (sym s.0 ∙ e0) ∙ ap (λ t. (y.0, t)) (sym s.1 ∙ e1), says ∙ ap (λ b. cond b (Some n) (get_by (λ k. ordering_then (nat_cmp x.0 k.0) (slice_cmp nat_cmp x.1 k.1.now)) old)) e)
    by false e = inr (λ same. false≢true (sym e ∙ then_equal key.0 x.0 key.1.now x.1 (e0 ∙ ap (λ (z : ℕ × List ℕ). z.0) (sym same)) (e1 ∙ ap (λ (z : ℕ × List ℕ). z.1) (sym same))), says ∙ ap (λ b. cond b (Some n) (get_by (λ k. ordering_then (nat_cmp x.0 k.0) (slice_cmp nat_cmp x.1 k.1.now)) old)) e)
