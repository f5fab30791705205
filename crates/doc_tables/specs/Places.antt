-- What the tables have for a name, and for a name in a scope.
use Rattle.std.specs.Prelude.{ℕ, List, Option}
use Rattle.std.specs.Borrow.{Bor}
use Rattle.std.specs.Option.{option_map}
use Rattle.std.specs.Ordering.{nat_cmp, ordering_then}
use Rattle.std.specs.Cmp.Lexicographic.{slice_cmp}
use Rattle.std.specs.BTreeMap.{get_by}
use Rattle.doc_tables.specs.declared.names.NamePlaces.{NamePlaces}
use Rattle.doc_tables.specs.declared.scopes.ScopedPlaces.{ScopedPlaces}

-- the place that a table has for a name
abbrev pub found_name : NamePlaces → List ℕ → Option ℕ
found_name places name = get_by (λ text. slice_cmp nat_cmp name text.now) places.first

-- the place that a table has for a name in a scope
abbrev pub found_in : ScopedPlaces → ℕ × List ℕ → Option ℕ
found_in places key =
    get_by (λ k. ordering_then (nat_cmp key.0 k.0) (slice_cmp nat_cmp key.1 k.1.now)) places.first

-- a name in a scope, as its text
abbrev pub scoped : Option (ℕ × Bor (List ℕ)) → Option (ℕ × List ℕ)
scoped key = option_map (λ (k : ℕ × Bor (List ℕ)). (k.0, k.1.now)) key
