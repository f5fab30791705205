-- What a transformation says of values (SSP 1.0: LinearTransformation, BooleanMappingTransformation, IntegerMappingTransformation).
use Rattle.std.specs.Prelude.{◌≡◌, ℕ, true, pos, List, codes}
use Rattle.std.specs.List.{AllZip}
use Rattle.parameter_values.specs.declared.change.BooleanPair.{BooleanPair}
use Rattle.parameter_values.specs.declared.change.IntegerPair.{IntegerPair}
use Rattle.parameter_values.specs.declared.change.Change.{Change}
use Rattle.parameter_values.specs.declared.change.Change.TheVariants as change
use Rattle.doc_grammar.specs.Nodes.{Node}
use Rattle.doc_tables.specs.Elements.{attribute, is_named}
use Rattle.transformations.specs.Elements.{children_named}
use Rattle.transformations.specs.Numbers.{IsBoolean, IsWholeNumber, WritesOr}

abbrev pub IsIntegerPair : List Node → ℕ → IntegerPair → Type 0
IsIntegerPair t k x = IsWholeNumber t k (codes "source") x.source × IsWholeNumber t k (codes "target") x.target

abbrev pub IsBooleanPair : List Node → ℕ → BooleanPair → Type 0
IsBooleanPair t k x =
    IsBoolean t k (codes "source") x.source × IsBoolean t k (codes "target") x.target

-- the transformation changes values so; a mapping of enumerations is unsupported
abbrev pub IsChange : List Node → ℕ → Change → Type 0
IsChange t k (change.Linear factor offset) =
    (is_named t k (codes "LinearTransformation") ≡ true)
    × WritesOr (pos 1) (attribute t k (codes "factor")) factor
    × WritesOr (pos 0) (attribute t k (codes "offset")) offset
IsChange t k (change.Integers pairs) =
    (is_named t k (codes "IntegerMappingTransformation") ≡ true) ×
    AllZip (IsIntegerPair t) (children_named t (codes "MapEntry") k) pairs
IsChange t k (change.Booleans pairs) =
    (is_named t k (codes "BooleanMappingTransformation") ≡ true) ×
    AllZip (IsBooleanPair t) (children_named t (codes "MapEntry") k) pairs

-- its factor, its offset or an entry of it doesn't read, or it maps enumerations
abbrev pub IsMisread : List Node → ℕ → Type 0
IsMisread t k = (x : Change) → IsChange t k x → ⊥
