-- The order of faults.
use Rattle.std.proofs.Common.{◌≡◌, ◌⊎◌, ◌<◌, ◌≤◌, ℕ, Option, Some, None, ◌∙◌, subst, inl, inr, arith}
use Rattle.doc_tree.specs.declared.rule.ParameterRule.{ParameterRule}
use Rattle.doc_tree.specs.Rules.{parameter_number}
use Rattle.parameter_binding.specs.declared.fault.Fault.{Fault}
use Rattle.parameter_binding.specs.Rules.{Place}
use Rattle.parameter_binding.specs.Walk.{CoveredBy, IsUpTo, place_of, part_number}

lex : (a b c : ℕ) (P Q R : Type 0) → (P → Q → R) → (a < b) ⊎ ((a ≡ b) × P) → (b < c) ⊎ ((b ≡ c) × Q) → (a < c) ⊎ ((a ≡ c) × R)
lex a b c P Q R f (inl x) (inl y) = inl (omega (arith, x, y))
lex a b c P Q R f (inl x) (inr y) = let e = y.0 in inl (omega (arith, x, e))
lex a b c P Q R f (inr x) (inl y) = let e = x.0 in inl (omega (arith, y, e))
lex a b c P Q R f (inr x) (inr y) = inr (x.0 ∙ y.0, f x.1 y.1)

pub up_to_trans : (p q u : Place) (r s w : ParameterRule) → IsUpTo p r q s → IsUpTo q s u w → IsUpTo p r u w
up_to_trans p q u r s w =
    lex p.binding q.binding u.binding _ _ _
    (lex (part_number p.in_mapping) (part_number q.in_mapping) (part_number u.in_mapping) _ _ _
    (lex p.node q.node u.node _ _ _ (λ (x : parameter_number r ≤ parameter_number s) (y : parameter_number s ≤ parameter_number w). omega (arith, x, y))))

-- the first of two covers what either covers
pub covers_more : (a f : Fault) (p : Place) (rule : ParameterRule) (o : Option Fault) → o ≡ Some f → IsUpTo (place_of a) a.rule (place_of f) f.rule → CoveredBy o p rule → IsUpTo (place_of a) a.rule p rule
covers_more a f p rule None e u c = absurd c
covers_more a f p rule (Some g) e u c = up_to_trans (place_of a) (place_of f) p a.rule f.rule rule u (subst (λ o. CoveredBy o p rule) e c)

pub covers_own : (a : Fault) (p : Place) (rule : ParameterRule) (o : Option Fault) → o ≡ Some a → CoveredBy o p rule → IsUpTo (place_of a) a.rule p rule
covers_own a p rule o e c = subst (λ o. CoveredBy o p rule) e c
