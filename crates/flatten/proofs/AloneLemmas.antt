-- Where no two connections have one end, one output leads to a point, along one path.
use Rattle.std.proofs.Common.{◌≡◌, ◌⊎◌, ℕ, ◌<◌, List, [], ◌∷◌, ◌++◌, Some, refl, sym, ap, ◌∙◌, subst, inl, inr}
use Rattle.std.specs.List.{slice_get}
use Rattle.std.specs.Option.{option_and_then}
use Rattle.std.proofs.lemmas.Bool.{cases_order}
use Rattle.std.proofs.lemmas.Option.{slice_get-get_or, same_Some}
use Rattle.value_types.specs.declared.shape.Causality.TheVariants.{Output}
use Rattle.value_types.specs.declared.shape.Variable.{Variable}
use Rattle.value_types.specs.declared.shape.Shape.{Shape}
use Rattle.doc_tree.specs.declared.rule.Rule.TheVariants.{Flattening}
use Rattle.doc_tree.specs.declared.rule.FlatteningRule.TheVariants.{EndTwice}
use Rattle.dependency_order.proofs.CallerLemmas.{source_alone}
use Rattle.ssd_tree.specs.declared.tree.Connection.{Connection}
use Rattle.ssd_tree.specs.declared.tree.SystemTree.{SystemTree}
use Rattle.flatten.specs.Points.{Point, IsOfSystem, IsVariable, point_of}
use Rattle.flatten.specs.Paths.{Joins, JoinsBy, Leads, LeadsBy}
use Rattle.flatten.specs.Rules.{IsFitting, end_at}
use Rattle.flatten.proofs.PathLemmas.{no_system}

-- ---- one output alone

-- where no connection ends where one before it does, one connection ends there
end_once : (t : SystemTree) (shapes : List Shape) (i h : ℕ) (j k : Connection) (x : Point) → IsFitting t shapes → slice_get t.connections i ≡ Some j → slice_get t.connections h ≡ Some k → point_of t shapes j.end ≡ Some x → point_of t shapes k.end ≡ Some x → j ≡ k
end_once t shapes i h j k x fitting at_i at_h ends_i ends_h = by (cases_order i h)
  where
    end_i : end_at t shapes i ≡ Some x
    end_i = ap (option_and_then (λ (z : Connection). point_of t shapes z.end)) at_i ∙ ends_i

    end_h : end_at t shapes h ≡ Some x
    end_h = ap (option_and_then (λ (z : Connection). point_of t shapes z.end)) at_h ∙ ends_h

    by : (i ≡ h) ⊎ ((i < h) ⊎ (h < i)) → j ≡ k
    by (inl e) = same_Some j k (sym at_i ∙ ap (slice_get t.connections) e ∙ at_h)
    by (inr (inl l)) = absurd (fitting (Flattening EndTwice) k.node (h, (k, at_h, refl, (x, end_h, (i, l, end_i)))))
    by (inr (inr l)) = absurd (fitting (Flattening EndTwice) j.node (i, (j, at_i, refl, (x, end_i, (h, l, end_h)))))

pub one_end : (t : SystemTree) (shapes : List Shape) (p q x : Point) → IsFitting t shapes → Joins t shapes p x → Joins t shapes q x → p ≡ q
one_end t shapes p q x fitting j k =
    let at_i : slice_get t.connections j.1.is.0 ≡ Some j.0 = slice_get-get_or t.connections j.1.is.0 j.0 j.1.is.1 ∙ ap Some j.1.is.2 in
    let at_h : slice_get t.connections k.1.is.0 ≡ Some k.0 = slice_get-get_or t.connections k.1.is.0 k.0 k.1.is.1 ∙ ap Some k.1.is.2 in
    let same : j.0 ≡ k.0 = end_once t shapes j.1.is.0 k.1.is.0 j.0 k.0 x fitting at_i at_h j.1.end k.1.end in
    same_Some p q (sym j.1.start ∙ ap (λ (z : Connection). point_of t shapes z.start) same ∙ k.1.start)

pub output_alone : (t : SystemTree) (shapes : List Shape) (p q x : Point) (a b : Variable) → IsFitting t shapes → IsVariable shapes Output p a → IsVariable shapes Output q b → Leads t shapes p x → Leads t shapes q x → p ≡ q
output_alone t shapes p q x a b fitting is are = source_alone (Joins t shapes) (IsOfSystem t) p q x (λ y z w j k. one_end t shapes y z w fitting j k) (no_system t shapes Output p a is) (no_system t shapes Output q b are)

-- ---- one path alone

-- the same as LeadsBy, with the connections the last first
abbrev pub EndsWith : SystemTree → List Shape → Point → List Connection → Point → Type 0
EndsWith t shapes p [] q = ⊥
EndsWith t shapes p (k ∷ []) q = JoinsBy t shapes k p q
EndsWith t shapes p (k ∷ (l ∷ ks)) q =
    (s : Point) × JoinsBy t shapes k s q × IsOfSystem t s × EndsWith t shapes p (l ∷ ks) s

abbrev pub backward : List Connection → List Connection
backward [] = []
backward (k ∷ ks) = backward ks ++ k ∷ []

backward_more : (ks : List Connection) (k : Connection) → backward (ks ++ k ∷ []) ≡ k ∷ backward ks
backward_more [] k = refl
backward_more (l ∷ ks) k = ap (λ zs. zs ++ l ∷ []) (backward_more ks k)

backward_twice : (ks : List Connection) → backward (backward ks) ≡ ks
backward_twice [] = refl
backward_twice (k ∷ ks) = backward_more (backward ks) k ∙ ap (λ zs. k ∷ zs) (backward_twice ks)

module _ (t : SystemTree) (shapes : List Shape) where
  -- one connection before a path
  before_it : (p s q : Point) (k : Connection) (ls : List Connection) → JoinsBy t shapes k p s → IsOfSystem t s → EndsWith t shapes s ls q → EndsWith t shapes p (ls ++ k ∷ []) q
  before_it p s q k [] joins at h = absurd h
  before_it p s q k (l ∷ []) joins at h = (s, h, at, joins)
  before_it p s q k (l ∷ (m ∷ ls)) joins at h = (h.0, h.1, h.2, before_it p s h.0 k (m ∷ ls) joins at h.3)

  turned_back : (p : Point) (ks : List Connection) (q : Point) → LeadsBy t shapes p ks q → EndsWith t shapes p (backward ks) q
  turned_back p [] q h = absurd h
  turned_back p (k ∷ []) q h = h
  turned_back p (k ∷ (l ∷ ks)) q h = before_it p h.0 q k (backward (l ∷ ks)) h.1 h.2 (turned_back h.0 (l ∷ ks) q h.3)

  -- two connections that end at one point are one
  one_joins : (k l : Connection) (s r q : Point) → IsFitting t shapes → JoinsBy t shapes k s q → JoinsBy t shapes l r q → k ≡ l
  one_joins k l s r q fitting j h =
      end_once t shapes j.is.0 h.is.0 k l q fitting (slice_get-get_or t.connections j.is.0 k j.is.1 ∙ ap Some j.is.2) (slice_get-get_or t.connections h.is.0 l h.is.1 ∙ ap Some h.is.2) j.end h.end

  one_start : (k l : Connection) (s r q : Point) → IsFitting t shapes → JoinsBy t shapes k s q → JoinsBy t shapes l r q → s ≡ r
  one_start k l s r q fitting j h = one_end t shapes s r q fitting (k, j) (l, h)

  -- from the end, two paths from outputs to one point go over the same connections
  module _ (fitting : IsFitting t shapes) (p r : Point) (a b : Variable) (is : IsVariable shapes Output p a) (are : IsVariable shapes Output r b) where
    one_back : (ks ls : List Connection) (q : Point) → EndsWith t shapes p ks q → EndsWith t shapes r ls q → ks ≡ ls
    one_back [] ls q h g = absurd h
    one_back (k ∷ []) [] q h g = absurd g
    one_back (k ∷ (m ∷ ks)) [] q h g = absurd g
    one_back (k ∷ []) (l ∷ []) q h g = ap (λ z. z ∷ []) (one_joins k l p r q fitting h g)
    one_back (k ∷ []) (l ∷ (n ∷ ls)) q h g =
        absurd (no_system t shapes Output p a is (subst (IsOfSystem t) (sym (one_start k l p g.0 q fitting h g.1)) g.2))
    one_back (k ∷ (m ∷ ks)) (l ∷ []) q h g =
        absurd (no_system t shapes Output r b are (subst (IsOfSystem t) (one_start k l h.0 r q fitting h.1 g) h.2))
    one_back (k ∷ (m ∷ ks)) (l ∷ (n ∷ ls)) q h g =
        let same : h.0 ≡ g.0 = one_start k l h.0 g.0 q fitting h.1 g.1 in
        let more : m ∷ ks ≡ n ∷ ls = one_back (m ∷ ks) (n ∷ ls) g.0 (subst (EndsWith t shapes p (m ∷ ks)) same h.3) g.3 in
        ap (λ z. z ∷ (m ∷ ks)) (one_joins k l h.0 g.0 q fitting h.1 g.1) ∙ ap (λ zs. l ∷ zs) more

    -- one path leads there
    pub one_path : (ks ls : List Connection) (q : Point) → LeadsBy t shapes p ks q → LeadsBy t shapes r ls q → ks ≡ ls
    one_path ks ls q h g =
        sym (backward_twice ks) ∙ ap backward (one_back (backward ks) (backward ls) q (turned_back p ks q h) (turned_back r ls q g)) ∙ backward_twice ls
