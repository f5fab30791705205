-- Elements past the end, which are of no sort and have no key.
use Rattle.std.proofs.Common.{◌≡◌, ◌⊎◌, ℕ, ◌<◌, true, List, length, inl, inr}
use Rattle.doc_grammar.specs.Nodes.{Node}
use Rattle.doc_tables.proofs.CallerLemmas.{IsWithin, is_in_within, and_right, or_cases, key_if_true}
use Rattle.fmu_description.specs.Elements.{is_variable_list, is_structure, is_variable, is_alias, is_co_simulation, variable_key, clock_key, output_key, initial_key, name_key}
use Rattle.doc_tables.specs.Elements.{is_root}

pub is_variable_within : (t : List Node) (k : ℕ) → is_variable t k ≡ true → k < length t
is_variable_within t k h = is_in_within is_variable_list t k (and_right _ _ h)

pub is_alias_within : (t : List Node) (k : ℕ) → is_alias t k ≡ true → k < length t
is_alias_within t k h = is_in_within is_variable t k (and_right _ _ h)

pub is_co_simulation_within : (t : List Node) (k : ℕ) → is_co_simulation t k ≡ true → k < length t
is_co_simulation_within t k h = is_in_within is_root t k (and_right _ _ h)

pub variable_key_within : (t : List Node) → IsWithin (variable_key t) (length t)
variable_key_within t k x h = is_variable_within t k (key_if_true _ _ x h)

pub clock_key_within : (t : List Node) → IsWithin (clock_key t) (length t)
clock_key_within t k x h = is_variable_within t k (and_right _ _ (key_if_true _ _ x h))

pub output_key_within : (t : List Node) → IsWithin (output_key t) (length t)
output_key_within t k x h = is_in_within is_structure t k (and_right _ _ (key_if_true _ _ x h))

pub initial_key_within : (t : List Node) → IsWithin (initial_key t) (length t)
initial_key_within t k x h = is_in_within is_structure t k (and_right _ _ (key_if_true _ _ x h))

pub name_key_within : (t : List Node) → IsWithin (name_key t) (length t)
name_key_within t k x h = at (or_cases _ _ (key_if_true _ _ x h))
  where
    at : (is_variable t k ≡ true) ⊎ (is_alias t k ≡ true) → k < length t
    at (inl e) = is_variable_within t k e
    at (inr e) = is_alias_within t k e
