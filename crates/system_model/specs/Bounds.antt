-- The values that the parameters of a system's components are bound to (SSP 1.0: parameter bindings; FMI 3.0, 2.4.7: causality parameter).
use Rattle.std.specs.Prelude.{◌≡◌, false, List, map, Some, nat_eq, All}
use Rattle.std.specs.List.{AllZip, IsDistinct}
use Rattle.value_types.specs.Shape.{is_clock, variable_at}
use Rattle.value_types.specs.Values.{Fits}
use Rattle.value_types.specs.declared.shape.Causality.TheVariants.{Parameter}
use Rattle.value_types.specs.declared.shape.Variable.{Variable}
use Rattle.value_types.specs.declared.shape.Shape.{Shape}
use Rattle.system_model.specs.declared.bound.Bound.{Bound}
use Rattle.system_model.specs.declared.bound.BoundValue.{BoundValue}
use Rattle.system_model.specs.declared.system.Component.{Component}
use Rattle.system_model.specs.declared.system.System.{System}

-- it is a value for the parameter under its reference, which is of its type and no Clock
pub record IsParameterValue (shape : Shape) (b : BoundValue) : Type 0 where
  pub variable : Variable
  pub at : variable_at shape.variables b.reference ≡ Some variable
  pub parameter : variable.causality ≡ Parameter
  pub kind : variable.kind ≡ Some b.kind
  pub no_clock : is_clock variable ≡ false
  pub fits : Fits b.kind b.value

-- each is one for a parameter of the shape, and no parameter has two
pub record AreParameterValues (shape : Shape) (values : List BoundValue) : Type 0 where
  pub each : All (IsParameterValue shape) values
  pub once : IsDistinct nat_eq (map (λ (b : BoundValue). b.reference) values)

-- there is a list for each component, in their order, and it has values for parameters of that component
abbrev pub BindsParameters : System → Bound → Type 0
BindsParameters system bound =
    AllZip (λ (c : Component) (values : List BoundValue). AreParameterValues c.shape values)
    system.components bound.components
