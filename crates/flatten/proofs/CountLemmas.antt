-- Where no rule is broken, the ports are few.
use Rattle.std.proofs.Common.{◌≡◌, ℕ, zero, suc, ◌+◌, ◌<◌, ◌≤◌, List, [], ◌∷◌, map, length, take, refl, sym, ◌∙◌, ap, subst, inl, inr, arith}
use Rattle.std.specs.Prelude.{count_by, sum}
use Rattle.std.proofs.lemmas.Bool.{cases_lt}
use Rattle.std.proofs.lemmas.List.{take_all}
use Rattle.std.proofs.lemmas.List.Sums.{sum_by-cons}
use Rattle.value_types.specs.Shape.{is_port}
use Rattle.value_types.specs.declared.shape.Shape.{Shape}
use Rattle.doc_tree.specs.declared.rule.Rule.TheVariants.{TooManyPorts}
use Rattle.ssd_tree.specs.declared.tree.SystemTree.{SystemTree}
use Rattle.flatten.specs.Rules.{IsFitting, ports_in}
use Rattle.flatten.specs.Given.{AreShapesOf}
use Rattle.flatten.specs.Indexed.{all_variables}
use Rattle.flatten.proofs.LabelLemmas.{count_append, element_there}

sum_ports : (shapes : List Shape) → sum (map ports_in shapes) ≡ count_by is_port (all_variables shapes)
sum_ports [] = refl
sum_ports (s ∷ ss) =
    let a : sum (map ports_in (s ∷ ss)) ≡ ports_in s + sum (map ports_in ss) = sum_by-cons (λ n. n) (ports_in s) (map ports_in ss) in
    let b : sum (map ports_in ss) ≡ count_by is_port (all_variables ss) = sum_ports ss in
    let c : count_by is_port (all_variables (s ∷ ss)) ≡ count_by is_port s.variables + count_by is_port (all_variables ss) = count_append is_port s.variables (all_variables ss) in
    omega (arith, a, b, c)

pub few_ports : (t : SystemTree) (shapes : List Shape) → AreShapesOf t shapes → IsFitting t shapes → count_by is_port (all_variables shapes) ≤ 65536
few_ports t shapes given fitting = by (length shapes) refl
  where
    by : (n : ℕ) → length shapes ≡ n → count_by is_port (all_variables shapes) ≤ 65536
    by zero len = none shapes len
      where
        none : (ss : List Shape) → length ss ≡ 0 → count_by is_port (all_variables ss) ≤ 65536
        none [] e = omega arith
        none (s ∷ ss) e = absurd (omega (arith, e))
    by (suc n) len = elim (cases_lt 65536 (count_by is_port (all_variables shapes))) [
      | inl many ↦
          let last = element_there t.components n (omega (arith, len, given.len)) in
          let all : take (n + 1) shapes ≡ shapes = take_all (n + 1) shapes (omega (arith, len)) in
          absurd (fitting TooManyPorts last.0.node (n, (last.0, last.1, refl, subst (λ k. 65536 < k) (sym (ap (λ ss. sum (map ports_in ss)) all ∙ sum_ports shapes)) many)))
      | inr few ↦ few
    ]
