-- What no element gives as a value.
use Rattle.std.proofs.Common.{◌≡◌, ℕ, ℤ, Bool, true, List, Some, codes, refl}
use Rattle.std.proofs.lemmas.Bool.{both_ways}
use Rattle.doc_grammar.specs.Nodes.{Node}
use Rattle.doc_tables.specs.Elements.{is_named}
use Rattle.parameter_values.specs.declared.set.ParameterValue.{ParameterValue}
use Rattle.parameter_values.specs.declared.set.ParameterValue.TheVariants as value
use Rattle.transformations.specs.Numbers.{IsBoolean, IsWholeNumber}
use Rattle.transformations.proofs.CallerLemmas.{named_once}
use Rattle.parameter_sets.specs.Sets.{IsValue}

pub no_integer : (t : List Node) (k : ℕ) → is_named t k (codes "Integer") ≡ true → ((x : ℤ) → IsWholeNumber t k (codes "value") x → ⊥) → (x : ParameterValue) → IsValue t (Some k) x → ⊥
no_integer t k named none (value.Integer x) is = none x is.1
no_integer t k named none (value.Boolean x) is = named_once t k (codes "Integer") (codes "Boolean") refl named is.0
no_integer t k named none value.Other is = both_ways (is_named t k (codes "Integer")) is.0 named

pub no_boolean : (t : List Node) (k : ℕ) → is_named t k (codes "Boolean") ≡ true → ((x : Bool) → IsBoolean t k (codes "value") x → ⊥) → (x : ParameterValue) → IsValue t (Some k) x → ⊥
no_boolean t k named none (value.Integer x) is = named_once t k (codes "Integer") (codes "Boolean") refl is.0 named
no_boolean t k named none (value.Boolean x) is = none x is.1
no_boolean t k named none value.Other is = both_ways (is_named t k (codes "Boolean")) is.1 named
