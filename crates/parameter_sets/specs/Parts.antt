-- A set or a mapping with the lists of its parts.
use Rattle.std.specs.Prelude.{◌≡◌, ℕ, List, Option}
use Rattle.doc_grammar.specs.Nodes.{Node}
use Rattle.parameter_sets.specs.declared.reader.MappingParts.{MappingParts}
use Rattle.parameter_sets.specs.declared.reader.SetParts.{SetParts}
use Rattle.parameter_sets.specs.Elements.{entries, mappings, parameters, sets, transformations}

-- the lists are those of the tree
pub record IsSetOf (t : List Node) (at : Option ℕ) (parts : SetParts) : Type 0 where
  pub sets : parts.sets.items ≡ sets t at
  pub parameters : parts.parameters.items ≡ parameters t at

pub record IsMappingOf (t : List Node) (at : Option ℕ) (parts : MappingParts) : Type 0 where
  pub mappings : parts.mappings.items ≡ mappings t at
  pub entries : parts.entries.items ≡ entries t at
  pub transformations : parts.transformations.items ≡ transformations t at
