-- What the outputs of a description depend on are ports.
use Rattle.std.proofs.Common.{◌≡◌, inl, inr, ℕ, true, List, [], Option, Some, None, sym, subst, codes}
use Rattle.std.specs.Prelude.{unwrap_or}
use Rattle.std.proofs.lemmas.List.Elements.{All-nil, filter_passes}
use Rattle.value_types.specs.declared.shape.Knowns.{Knowns}
use Rattle.value_types.specs.declared.shape.Shape.{Shape}
use Rattle.value_types.specs.Shape.{is_at, is_port}
use Rattle.doc_grammar.specs.Nodes.{Node}
use Rattle.doc_tables.specs.Elements.{attribute}
use Rattle.fmu_description.specs.Texts.{references}
use Rattle.fmu_description.specs.Description.{DependsOn, DependsInitiallyOn, is_port_at, listed}
use Rattle.system_model.specs.Shapes.{KnowsPorts}

module _ (t : List Node) (shape : Shape) where
  -- of what is listed the ports are kept
  listed_ports : (text : Option (List ℕ)) → KnowsPorts shape (listed shape.variables text)
  listed_ports None = tt
  listed_ports (Some text) = filter_passes (is_port_at shape.variables) (unwrap_or (references text) [])

  pub depends_on_ports : (reference : ℕ) (on : Knowns) → DependsOn t shape.variables reference on → KnowsPorts shape on
  depends_on_ports reference on (inl says) = subst (KnowsPorts shape) (sym says.2) (listed_ports (attribute t says.0 (codes "dependencies")))
  depends_on_ports reference on (inr none) = subst (KnowsPorts shape) (sym none.1) tt

  pub depends_initially_on_ports : (reference : ℕ) (on : Knowns) → DependsInitiallyOn t shape.variables reference on → KnowsPorts shape on
  depends_initially_on_ports reference on (inl says) = subst (KnowsPorts shape) (sym says.2) (listed_ports (attribute t says.0 (codes "dependencies")))
  depends_initially_on_ports reference on (inr (none, inl exact)) = subst (KnowsPorts shape) (sym exact.1) (All-nil (λ r. is_at is_port shape.variables r ≡ true))
  depends_initially_on_ports reference on (inr (none, inr same)) = depends_on_ports reference on same.1
