-- A document has one set of parameters and one mapping at a place, and values are in range.
use Rattle.std.proofs.Common.{◌≡◌, ℕ, ℤ, Bool, List, [], ◌∷◌, Option, Some, None, codes, refl, sym, ap, ◌∙◌, inl, inr, arith, All}
use Rattle.std.specs.List.{AllZip}
use Rattle.std.proofs.lemmas.Bool.{both_ways}
use Rattle.std.proofs.lemmas.Int.{ints}
use Rattle.std.proofs.lemmas.List.Elements.{All-cons, All-nil}
use Rattle.std.proofs.lemmas.Option.{same_Some}
use Rattle.parameter_values.specs.Ranges.{AreInRange, IsInRange}
use Rattle.parameter_values.specs.declared.set.Mapping.{Mapping}
use Rattle.parameter_values.specs.declared.set.MappingEntry.{MappingEntry}
use Rattle.parameter_values.specs.declared.set.Parameter.{Parameter}
use Rattle.parameter_values.specs.declared.set.ParameterSet.{ParameterSet}
use Rattle.parameter_values.specs.declared.set.ParameterValue.{ParameterValue}
use Rattle.parameter_values.specs.declared.set.ParameterValue.TheVariants as value
use Rattle.parameter_values.specs.declared.set.Transformation.{Transformation}
use Rattle.doc_grammar.specs.Nodes.{Node}
use Rattle.doc_tables.specs.Elements.{is_named}
use Rattle.transformations.specs.Elements.{first_transformation}
use Rattle.transformations.specs.Numbers.{WritesWhole}
use Rattle.parameter_sets.specs.Elements.{entries, first_value, parameters}
use Rattle.parameter_sets.specs.Sets.{DescribesMapping, DescribesSet, IsEntry, IsParameter, IsTransformation, IsValue}
use Rattle.transformations.proofs.CallerLemmas.{named_once, one_boolean, one_change, one_whole, zip_same}

-- ---- entries

one_transformation : (t : List Node) (o : Option ℕ) (x y : Option Transformation) → IsTransformation t o x → IsTransformation t o y → x ≡ y
one_transformation t None None None p q = refl
one_transformation t None (Some x) y p q = absurd p
one_transformation t None None (Some y) p q = absurd q
one_transformation t (Some k) None y p q = absurd p
one_transformation t (Some k) (Some x) None p q = absurd q
one_transformation t (Some k) (Some x) (Some y) p q =
    let node : x.node ≡ y.node = p.0 ∙ sym q.0 in
    let changes : x.change ≡ y.change = one_change t k x.change y.change p.1 q.1 in
    ap (λ (z : Transformation). Some z) (λ i. record { node = node i; change = changes i })

one_entry : (t : List Node) (k : ℕ) (x y : MappingEntry) → IsEntry t k x → IsEntry t k y → x ≡ y
one_entry t k x y p q =
    let node : x.node ≡ y.node = p.node ∙ sym q.node in
    let source : x.source ≡ y.source = same_Some x.source y.source (sym p.source ∙ q.source) in
    let target : x.target ≡ y.target = same_Some x.target y.target (sym p.target ∙ q.target) in
    let transformation : x.transformation ≡ y.transformation = one_transformation t (first_transformation t k) x.transformation y.transformation p.transformation q.transformation in
    λ i. record { node = node i; source = source i; target = target i; transformation = transformation i }

-- ---- values

one_value : (t : List Node) (o : Option ℕ) (x y : ParameterValue) → IsValue t o x → IsValue t o y → x ≡ y
one_value t None (value.Integer x) y p q = absurd p
one_value t None (value.Boolean x) y p q = absurd p
one_value t None value.Other (value.Integer y) p q = absurd q
one_value t None value.Other (value.Boolean y) p q = absurd q
one_value t None value.Other value.Other p q = refl
one_value t (Some c) (value.Integer x) (value.Integer y) p q = ap (λ (z : ℤ). value.Integer z) (one_whole t c (codes "value") x y p.1 q.1)
one_value t (Some c) (value.Integer x) (value.Boolean y) p q = absurd (named_once t c (codes "Integer") (codes "Boolean") refl p.0 q.0)
one_value t (Some c) (value.Integer x) value.Other p q = absurd (both_ways (is_named t c (codes "Integer")) q.0 p.0)
one_value t (Some c) (value.Boolean x) (value.Integer y) p q = absurd (named_once t c (codes "Integer") (codes "Boolean") refl q.0 p.0)
one_value t (Some c) (value.Boolean x) (value.Boolean y) p q = ap (λ (z : Bool). value.Boolean z) (one_boolean t c (codes "value") x y p.1 q.1)
one_value t (Some c) (value.Boolean x) value.Other p q = absurd (both_ways (is_named t c (codes "Boolean")) q.1 p.0)
one_value t (Some c) value.Other (value.Integer y) p q = absurd (both_ways (is_named t c (codes "Integer")) p.0 q.0)
one_value t (Some c) value.Other (value.Boolean y) p q = absurd (both_ways (is_named t c (codes "Boolean")) p.1 q.0)
one_value t (Some c) value.Other value.Other p q = refl

one_parameter : (t : List Node) (k : ℕ) (x y : Parameter) → IsParameter t k x → IsParameter t k y → x ≡ y
one_parameter t k x y p q =
    let node : x.node ≡ y.node = p.node ∙ sym q.node in
    let name : x.name ≡ y.name = same_Some x.name y.name (sym p.name ∙ q.name) in
    let values : x.value ≡ y.value = one_value t (first_value t k) x.value y.value p.value q.value in
    λ i. record { node = node i; name = name i; value = values i }

-- ---- the whole

pub one_set : (t : List Node) (at : Option ℕ) (a b : ParameterSet) → DescribesSet t at a → DescribesSet t at b → a ≡ b
one_set t at a b p q =
    let same : a.parameters ≡ b.parameters = zip_same (IsParameter t) (one_parameter t) (parameters t at) a.parameters b.parameters p q in
    λ i. record { parameters = same i }

pub one_mapping : (t : List Node) (at : Option ℕ) (a b : Mapping) → DescribesMapping t at a → DescribesMapping t at b → a ≡ b
one_mapping t at a b p q =
    let same : a.entries ≡ b.entries = zip_same (IsEntry t) (one_entry t) (entries t at) a.entries b.entries p q in
    λ i. record { entries = same i }

-- ---- ranges

whole_in_range : (text : List ℕ) (x : ℤ) → WritesWhole text x → IsInRange (value.Integer x)
whole_in_range text x (inl is) = let low = is.1.0 in let high = is.1.1 in (omega (arith, ints, low), omega (arith, ints, high))
whole_in_range text x (inr is) = let low = is.1.0 in let high = is.1.1 in (omega (arith, ints, low), omega (arith, ints, high))

value_in_range : (t : List Node) (o : Option ℕ) (x : ParameterValue) → IsValue t o x → IsInRange x
value_in_range t None (value.Integer x) is = absurd is
value_in_range t (Some c) (value.Integer x) is = whole_in_range is.1.0 x is.1.2
value_in_range t o (value.Boolean x) is = tt
value_in_range t o value.Other is = tt

each_in_range : (t : List Node) (ks : List ℕ) (xs : List Parameter) → AllZip (IsParameter t) ks xs → All (λ (p : Parameter). IsInRange p.value) xs
each_in_range t [] [] all = All-nil (λ (p : Parameter). IsInRange p.value)
each_in_range t [] (x ∷ xs) all = absurd all
each_in_range t (k ∷ ks) [] all = absurd all
each_in_range t (k ∷ ks) (x ∷ xs) all = All-cons (λ (p : Parameter). IsInRange p.value) x xs (value_in_range t (first_value t k) x.value all.0.value) (each_in_range t ks xs all.1)

pub in_range : (t : List Node) (at : Option ℕ) (set : ParameterSet) → DescribesSet t at set → AreInRange set
in_range t at set describes = each_in_range t (parameters t at) set.parameters describes
