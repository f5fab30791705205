-- A transformation changes values in one way.
use Rattle.std.proofs.Common.{◌≡◌, ℕ, ℤ, pos, negsuc, Bool, true, false, ◌||◌, ◌==◌, List, Option, Some, None, codes, bytes_eq, refl, sym, ap, ◌∙◌, subst, inl, inr}
use Rattle.std.proofs.lemmas.Bool.{both_ways}
use Rattle.std.proofs.lemmas.Option.{same_Some}
use Rattle.value_types.specs.Reading.{Reads, Writes}
use Rattle.value_types.specs.declared.values.PortType.TheVariants.{Boolean}
use Rattle.parameter_values.specs.Values.{bit}
use Rattle.parameter_values.specs.declared.change.BooleanPair.{BooleanPair}
use Rattle.parameter_values.specs.declared.change.IntegerPair.{IntegerPair}
use Rattle.parameter_values.specs.declared.change.Change.{Change}
use Rattle.parameter_values.specs.declared.change.Change.TheVariants as change
use Rattle.doc_grammar.specs.Nodes.{Node}
use Rattle.doc_tables.specs.Elements.{attribute}
use Rattle.transformations.specs.Changes.{IsBooleanPair, IsChange, IsIntegerPair}
use Rattle.transformations.specs.Elements.{children_named}
use Rattle.transformations.specs.Numbers.{IsBoolean, IsWholeNumber, WritesOr, WritesWhole}
use Rattle.transformations.proofs.FactorLemmas.{one_factor}
use Rattle.transformations.proofs.ListLemmas.{zip_same}
use Rattle.transformations.proofs.ReadLemmas.{named_once}

-- ---- numbers

written : (text : List ℕ) (x : ℤ) → WritesWhole text x → Writes text x
written text x (inl is) = is.0
written text x (inr is) = is.0

pub one_number : (text : List ℕ) (x y : ℤ) → Writes text x → Writes text y → x ≡ y
one_number text x y p q = p.number ∙ sym q.number

pub one_whole : (t : List Node) (k : ℕ) (name : List ℕ) (x y : ℤ) → IsWholeNumber t k name x → IsWholeNumber t k name y → x ≡ y
one_whole t k name x y p q =
    one_number p.0 x y (written p.0 x p.2) (subst (λ (text : List ℕ). Writes text y) (same_Some q.0 p.0 (sym q.1 ∙ p.1)) (written q.0 y q.2))

-- ---- Booleans

is_truth : List ℕ → Bool
is_truth text = bytes_eq text (codes "true") || bytes_eq text (codes "1")

is_one : ℤ → Bool
is_one (pos n) = n == 1
is_one (negsuc n) = false

truth_is : (text : List ℕ) (x : Bool) → Reads Boolean text (bit x) → is_truth text ≡ x
unfolding is_truth is_one
truth_is text true (inl (e, inl same)) = ap is_truth same
truth_is text true (inl (e, inr same)) = ap is_truth same
truth_is text true (inr (e, same)) = absurd (both_ways false refl (sym (ap is_one e)))
truth_is text false (inl (e, same)) = absurd (both_ways false refl (ap is_one e))
truth_is text false (inr (e, inl same)) = ap is_truth same
truth_is text false (inr (e, inr same)) = ap is_truth same

pub one_boolean : (t : List Node) (k : ℕ) (name : List ℕ) (x y : Bool) → IsBoolean t k name x → IsBoolean t k name y → x ≡ y
one_boolean t k name x y p q = sym (truth_is p.0 x p.2) ∙ ap is_truth (same_Some p.0 q.0 (sym p.1 ∙ q.1)) ∙ truth_is q.0 y q.2

-- ---- changes

one_factor_or : (default : ℤ) (o : Option (List ℕ)) (x y : ℤ) → WritesOr default o x → WritesOr default o y → x ≡ y
one_factor_or default None x y p q = p ∙ sym q
one_factor_or default (Some text) x y p q = one_factor text x y p q

one_integer_pair : (t : List Node) (k : ℕ) (x y : IntegerPair) → IsIntegerPair t k x → IsIntegerPair t k y → x ≡ y
one_integer_pair t k x y p q =
    let source : x.source ≡ y.source = one_whole t k (codes "source") x.source y.source p.0 q.0 in
    let target : x.target ≡ y.target = one_whole t k (codes "target") x.target y.target p.1 q.1 in
    λ i. record { source = source i; target = target i }

one_boolean_pair : (t : List Node) (k : ℕ) (x y : BooleanPair) → IsBooleanPair t k x → IsBooleanPair t k y → x ≡ y
one_boolean_pair t k x y p q =
    let source : x.source ≡ y.source = one_boolean t k (codes "source") x.source y.source p.0 q.0 in
    let target : x.target ≡ y.target = one_boolean t k (codes "target") x.target y.target p.1 q.1 in
    λ i. record { source = source i; target = target i }

pub one_change : (t : List Node) (k : ℕ) (x y : Change) → IsChange t k x → IsChange t k y → x ≡ y
one_change t k (change.Linear a b) (change.Linear a' b') p q =
    ap (λ (z : ℤ). change.Linear z b) (one_factor_or (pos 1) (attribute t k (codes "factor")) a a' p.1 q.1)
    ∙ ap (λ (z : ℤ). change.Linear a' z) (one_factor_or (pos 0) (attribute t k (codes "offset")) b b' p.2 q.2)
one_change t k (change.Linear a b) (change.Integers ys) p q = absurd (named_once t k (codes "LinearTransformation") (codes "IntegerMappingTransformation") refl p.0 q.0)
one_change t k (change.Linear a b) (change.Booleans ys) p q = absurd (named_once t k (codes "LinearTransformation") (codes "BooleanMappingTransformation") refl p.0 q.0)
one_change t k (change.Integers xs) (change.Linear a b) p q = absurd (named_once t k (codes "LinearTransformation") (codes "IntegerMappingTransformation") refl q.0 p.0)
one_change t k (change.Integers xs) (change.Integers ys) p q =
    ap (λ (zs : List IntegerPair). change.Integers zs) (zip_same (IsIntegerPair t) (one_integer_pair t) (children_named t (codes "MapEntry") k) xs ys p.1 q.1)
one_change t k (change.Integers xs) (change.Booleans ys) p q = absurd (named_once t k (codes "IntegerMappingTransformation") (codes "BooleanMappingTransformation") refl p.0 q.0)
one_change t k (change.Booleans xs) (change.Linear a b) p q = absurd (named_once t k (codes "LinearTransformation") (codes "BooleanMappingTransformation") refl q.0 p.0)
one_change t k (change.Booleans xs) (change.Integers ys) p q = absurd (named_once t k (codes "IntegerMappingTransformation") (codes "BooleanMappingTransformation") refl q.0 p.0)
one_change t k (change.Booleans xs) (change.Booleans ys) p q =
    ap (λ (zs : List BooleanPair). change.Booleans zs) (zip_same (IsBooleanPair t) (one_boolean_pair t) (children_named t (codes "MapEntry") k) xs ys p.1 q.1)
