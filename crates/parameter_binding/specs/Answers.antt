-- What a binding of parameters answers.
use Rattle.std.specs.Prelude.{Result, Ok, Err, ◌≡◌, ℕ, Bool, true, false, List, [], Option, Some, None, IsSomeAnd, slice_get, ⊤}
use Rattle.std.specs.Option.{option_map_or}
use Rattle.value_types.specs.declared.shape.Shape.{Shape}
use Rattle.doc_tree.specs.declared.refusal.Refusal.{Refusal}
use Rattle.doc_tree.specs.declared.refusal.Refusal.TheVariants.{At, Memory}
use Rattle.doc_tree.specs.declared.rule.ParameterRule.{ParameterRule}
use Rattle.doc_tree.specs.declared.rule.Rule.TheVariants.{Parameters}
use Rattle.ssd_tree.specs.declared.tree.SystemTree.{SystemTree}
use Rattle.parameter_binding.specs.declared.sets.BindingSets.{BindingSets}
use Rattle.parameter_binding.specs.declared.sets.MappingOf.{MappingOf}
use Rattle.parameter_binding.specs.Rules.{Place, IsFirstParameterViolation}

-- the file of a binding's set, or of its mapping
abbrev pub file_in : Bool → BindingSets → Option ℕ
file_in false sets = Some sets.values.file
file_in true sets = option_map_or (λ (m : MappingOf). Some m.file) sets.mapping None

-- the file in which the place is told
abbrev pub IsToldIn : List BindingSets → Place → ℕ → Type 0
IsToldIn sets p file =
    IsSomeAnd (slice_get sets p.binding) (λ given. file_in p.in_mapping given ≡ Some file)

-- the refusal is the first violation, unless memory ran out
pub record IsTold (t : SystemTree) (shapes : List Shape) (sets : List BindingSets) (file node : ℕ)
    (broken : ParameterRule) : Type 0 where
  pub place : Place
  pub first : IsFirstParameterViolation t shapes sets place broken
  pub node_is : place.node ≡ node
  pub file_is : IsToldIn sets place file

abbrev pub Faults : SystemTree → List Shape → List BindingSets → Refusal → Type 0
Faults t shapes sets (At file node rule ports) =
    (broken : ParameterRule) × IsTold t shapes sets file node broken ×
    (rule ≡ Parameters broken) × (ports ≡ [])
Faults t shapes sets Memory = ⊤

-- the answer is this rule at this element, unless memory ran out
abbrev pub Refuses : {A : Type 0} → Result A Refusal → ℕ → ℕ → ParameterRule → Type 0
Refuses (Ok bound) file node broken = ⊥
Refuses (Err (At f k rule ports)) file node broken =
    (f ≡ file) × (k ≡ node) × (rule ≡ Parameters broken) × (ports ≡ [])
Refuses (Err Memory) file node broken = ⊤
