-- The parts of a variable.
use Rattle.std.proofs.Common.{◌≡◌, ◌↔◌, ℕ, ℤ, Bool, true, false, IsTrue, List, Option, Some, None, codes, refl, inl, inr}
use Rattle.value_types.specs.declared.values.PortType.{PortType}
use Rattle.doc_grammar.specs.Nodes.{Node}
use Rattle.fmu_description.specs.Texts.{port_type}
use Rattle.doc_tables.specs.Elements.{name_of, attribute}
use Rattle.fmu_description.specs.Clocks.{IsIgnored}
use Rattle.fmu_description.specs.Description.{IsKind, IsStart}

pub no_start : (kind : Option PortType) (text : Option (List ℕ)) (start : Option ℤ) → kind ≡ None → IsStart kind text start → start ≡ None
no_start None text start e is = is
no_start (Some k) text start e is = cc

not_true : IsTrue false → ⊥
not_true e = cc

pub is_kind : (t : List Node) (k : ℕ) (is_ignored : Bool) (kind : Option PortType) (start : Option ℤ) → (IsTrue is_ignored ↔ IsIgnored t k) → (IsTrue is_ignored → kind ≡ None) → ((IsTrue is_ignored → ⊥) → kind ≡ port_type (name_of t k)) → IsStart kind (attribute t k (codes "start")) start → IsKind t k kind start
is_kind t k true kind start tells ignored own is =
    inl (tells.0 refl, ignored refl, no_start kind (attribute t k (codes "start")) start (ignored refl) is)
is_kind t k false kind start tells ignored own is = inr (λ f. not_true (tells.1 f), own not_true, is)
