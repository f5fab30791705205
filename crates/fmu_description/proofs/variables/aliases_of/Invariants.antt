use Rattle.std.proofs.Common.{◌≡◌, ℕ, map, filter, take, codes}
use Rattle.fmu_description.specs.Elements.{is_alias}
use Rattle.doc_tables.specs.Elements.{text_of}
use Rattle.fmu_description.proofs.variables.aliases_of.Given as goal

abbrev pub invariant-loop-child : goal.invariant-loop-child
invariant-loop-child l = l.names.items ≡ map (λ (a : ℕ). text_of l.tree a (codes "name")) (filter (is_alias l.tree) (take l.child-index l.child-items))
