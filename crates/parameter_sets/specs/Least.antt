-- The least element of a document of which something holds.
use Rattle.std.specs.Prelude.{ℕ, Bool, Option, Some, min, if◌then◌else◌}
use Rattle.std.specs.Option.{option_map_or}
use Rattle.doc_tree.specs.declared.rule.ParameterRule.{ParameterRule}

-- the lesser of two elements, where the first is there
abbrev pub lesser : Option ℕ → ℕ → ℕ
lesser first node = option_map_or (λ f. min f node) first node

-- the least so far, where this one counts or doesn't
abbrev pub least_with : Option ℕ → ℕ → Bool → Option ℕ
least_with first node counts = if counts then Some (lesser first node) else first

-- a rule that an element breaks
abbrev pub Breach : Type 0
Breach = ℕ × ParameterRule
