-- Changes along a path, and the last pair with a source.
use Rattle.std.proofs.Common.{◌≡◌, ℕ, suc, ◌+◌, ◌<◌, ℤ, List, [], ◌∷◌, ◌++◌, drop, length, get_or, refl, sym, ap, ◌∙◌, arith, to_z, of_z}
use Rattle.std.specs.Prelude.{Option, Some, None, option_and_then}
use Rattle.std.specs.Int.{w128}
use Rattle.std.proofs.lemmas.Int.{ints, to_z-of_z}
use Rattle.std.proofs.Math.Seq.{drop-cons}
use Rattle.value_types.specs.declared.values.PortType.{PortType}
use Rattle.parameter_values.specs.declared.change.BooleanPair.{BooleanPair}
use Rattle.parameter_values.specs.declared.change.Change.{Change}
use Rattle.parameter_values.specs.declared.change.IntegerPair.{IntegerPair}
use Rattle.system_model.specs.Carried.{IsWide, changed, fitting, or_else, target_by, target_of, through, truth_by, truth_of}

or_none : (o : Option ℤ) → or_else o None ≡ o
or_none None = refl
or_none (Some x) = refl

or_assoc : (a b c : Option ℤ) → or_else (or_else a b) c ≡ or_else a (or_else b c)
or_assoc None b c = refl
or_assoc (Some x) b c = refl

pub target_push : (ps : List IntegerPair) (p : IntegerPair) (x : ℤ) → target_of (ps ++ p ∷ []) x ≡ or_else (target_by p x) (target_of ps x)
target_push [] p x = sym (or_none _)
target_push (q ∷ ps) p x = ap (λ o. or_else o (target_by q x)) (target_push ps p x) ∙ or_assoc _ (target_of ps x) _

pub truth_push : (ps : List BooleanPair) (p : BooleanPair) (x : ℤ) → truth_of (ps ++ p ∷ []) x ≡ or_else (truth_by p x) (truth_of ps x)
truth_push [] p x = sym (or_none _)
truth_push (q ∷ ps) p x = ap (λ o. or_else o (truth_by q x)) (truth_push ps p x) ∙ or_assoc _ (truth_of ps x) _

pub through_next : (cs : List Change) (i : ℕ) (d : Change) (x : ℤ) → i < length cs → through (drop i cs) x ≡ option_and_then (through (drop (i + 1) cs)) (changed (get_or cs i d) x)
through_next cs i d x lt =
    let one : suc i ≡ i + 1 = omega arith in
    ap (λ (xs : List Change). through xs x) (drop-cons cs i d lt) ∙ ap (λ (n : ℕ). option_and_then (through (drop n cs)) (changed (get_or cs i d) x)) one

-- ---- along a path

-- a number of 64 bits is one of the program's
pub wide_kept : (x : ℤ) → IsWide x → to_z w128 (of_z w128 x) ≡ x
wide_kept x wide = let low = wide.0 in let high = wide.1 in to_z-of_z w128 x (omega (arith, ints, low, high))

-- after one more change
pub carried_next : (cs : List Change) (i : ℕ) (d : Change) (kind : PortType) (x y : ℤ) → i < length cs → changed (get_or cs i d) x ≡ Some y →
    option_and_then (fitting kind) (through (drop i cs) x) ≡ option_and_then (fitting kind) (through (drop (i + 1) cs) y)
carried_next cs i d kind x y lt e = ap (option_and_then (fitting kind)) (through_next cs i d x lt ∙ ap (option_and_then (through (drop (i + 1) cs))) e)
