-- The shape that a sound description says is sound.
use Rattle.std.proofs.Common.{◌≡◌, ℕ, true, false, List, filter, refl, sym, ◌∙◌}
use Rattle.value_types.specs.declared.shape.Shape.{Shape}
use Rattle.value_types.specs.Shape.{is_output_port}
use Rattle.doc_grammar.specs.Nodes.{Node}
use Rattle.doc_tree.specs.declared.rule.DescriptionRule.TheVariants as r
use Rattle.fmu_description.specs.Rules.{IsSoundDescription}
use Rattle.fmu_description.specs.Description.{Describes, IsDependency, IsInitialDependency}
use Rattle.system_model.specs.Shapes.{IsSoundShape, IsSoundDependency}
use Rattle.description_laws.proofs.Zips.{each_pair}
use Rattle.description_laws.proofs.VariableLemmas.{variables_sound}
use Rattle.description_laws.proofs.ClockLemmas.{clocks_sound}
use Rattle.description_laws.proofs.DependencyLemmas.{depends_on_ports, depends_initially_on_ports}

module _ (t : List Node) (per_second : ℕ) (sound : IsSoundDescription t per_second) (shape : Shape) (describes : Describes t per_second shape) where
  serialized : shape.can_serialize_state ≡ true → shape.can_save_state ≡ true
  serialized serializes =
      (elim (shape.can_save_state) as (λ b. shape.can_save_state ≡ b → b ≡ true) [
        | true ↦ λ saves. refl
        | false ↦ λ saves. absurd (sound r.SerializesUnsaved describes.element (describes.is, sym describes.says.serializes ∙ serializes, sym describes.says.saves ∙ saves))
      ]) refl

  pub shape_sound : IsSoundShape shape
  shape_sound = record {
    variables = variables_sound t per_second sound shape describes;
    clocks = clocks_sound t per_second sound shape describes;
    dependencies = each_pair (IsDependency t shape.variables) (IsSoundDependency shape) (λ v d h. record { output = h.0; on = depends_on_ports t shape v.reference d.on h.1 })
        (filter is_output_port shape.variables) shape.dependencies describes.dependencies;
    initial_dependencies = each_pair (IsInitialDependency t shape.variables) (IsSoundDependency shape) (λ v d h. record { output = h.0; on = depends_initially_on_ports t shape v.reference d.on h.1 })
        (filter is_output_port shape.variables) shape.initial_dependencies describes.initial;
    serialized = serialized;
  }
