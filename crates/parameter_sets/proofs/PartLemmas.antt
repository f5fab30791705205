-- The first violation of a set, and of a mapping, by the first of each rule.
use Rattle.std.proofs.Common.{◌≡◌, ℕ, ◌<◌, ◌≤◌, List, Option, None, MatchOption, arith}
use Rattle.doc_grammar.specs.Nodes.{Node}
use Rattle.doc_tree.specs.declared.rule.ParameterRule.{ParameterRule}
use Rattle.doc_tree.specs.declared.rule.ParameterRule.TheVariants as r
use Rattle.doc_tree.specs.Rules.{parameter_number}
use Rattle.doc_tables.specs.Violations.{FindsLeast, earlier_violation}
use Rattle.parameter_sets.specs.Least.{Breach}
use Rattle.parameter_sets.specs.Rules.{IsFirstInMapping, IsFirstInSet, IsSoundMapping, IsSoundSet, MappingViolates, SetViolates}
use Rattle.parameter_sets.proofs.FirstLemmas.{none_yet, skip, step, whole}

-- the rules that neither breaks
set_rest : (t : List Node) (at : Option ℕ) (rule : ParameterRule) (k : ℕ) → 52 ≤ parameter_number rule → parameter_number rule < 57 → SetViolates t at rule k → ⊥
set_rest t at r.Structure k low high broken = absurd (omega (arith, low))
set_rest t at r.Incomplete k low high broken = absurd (omega (arith, low))
set_rest t at r.OtherClass k low high broken = broken
set_rest t at r.OutOfRange k low high broken = broken
set_rest t at r.Transformation k low high broken = broken
set_rest t at r.NoMapEntry k low high broken = broken
set_rest t at r.NamesTwo k low high broken = broken

mapping_between : (t : List Node) (at : Option ℕ) (rule : ParameterRule) (k : ℕ) → 52 ≤ parameter_number rule → parameter_number rule < 54 → MappingViolates t at rule k → ⊥
mapping_between t at r.Structure k low high broken = absurd (omega (arith, low))
mapping_between t at r.Incomplete k low high broken = absurd (omega (arith, low))
mapping_between t at r.OtherClass k low high broken = broken
mapping_between t at r.OutOfRange k low high broken = broken
mapping_between t at r.Transformation k low high broken = absurd (omega (arith, high))
mapping_between t at r.NoMapEntry k low high broken = broken
mapping_between t at r.NamesTwo k low high broken = broken

mapping_rest : (t : List Node) (at : Option ℕ) (rule : ParameterRule) (k : ℕ) → 55 ≤ parameter_number rule → parameter_number rule < 57 → MappingViolates t at rule k → ⊥
mapping_rest t at r.Structure k low high broken = absurd (omega (arith, low))
mapping_rest t at r.Incomplete k low high broken = absurd (omega (arith, low))
mapping_rest t at r.OtherClass k low high broken = broken
mapping_rest t at r.OutOfRange k low high broken = broken
mapping_rest t at r.Transformation k low high broken = absurd (omega (arith, low))
mapping_rest t at r.NoMapEntry k low high broken = broken
mapping_rest t at r.NamesTwo k low high broken = broken

pub first_in_set : (t : List Node) (at : Option ℕ) (x y : Option ℕ) (first made : Option Breach) → FindsLeast (SetViolates t at r.Structure) x → FindsLeast (SetViolates t at r.Incomplete) y
    → first ≡ earlier_violation None x r.Structure → made ≡ earlier_violation first y r.Incomplete → MatchOption made (IsSoundSet t at) (λ v. IsFirstInSet t at v.0 v.1)
first_in_set t at x y first made structure incomplete one two =
    let after = step (SetViolates t at) r.Structure None x first (none_yet (SetViolates t at)) structure one in
    whole (SetViolates t at) made (skip (SetViolates t at) 52 57 made (step (SetViolates t at) r.Incomplete first y made after incomplete two) (set_rest t at))

pub first_in_mapping : (t : List Node) (at : Option ℕ) (x y z : Option ℕ) (first second made : Option Breach) → FindsLeast (MappingViolates t at r.Structure) x → FindsLeast (MappingViolates t at r.Incomplete) y
    → FindsLeast (MappingViolates t at r.Transformation) z → first ≡ earlier_violation None x r.Structure → second ≡ earlier_violation first y r.Incomplete → made ≡ earlier_violation second z r.Transformation
    → MatchOption made (IsSoundMapping t at) (λ v. IsFirstInMapping t at v.0 v.1)
first_in_mapping t at x y z first second made structure incomplete misread one two three =
    let after = step (MappingViolates t at) r.Structure None x first (none_yet (MappingViolates t at)) structure one in
    let later = skip (MappingViolates t at) 52 54 second (step (MappingViolates t at) r.Incomplete first y second after incomplete two) (mapping_between t at) in
    whole (MappingViolates t at) made (skip (MappingViolates t at) 55 57 made (step (MappingViolates t at) r.Transformation second z made later misread three) (mapping_rest t at))
