use Rattle.std.proofs.Common.{◌≡◌, ℕ, length}
use Rattle.std.specs.Prelude.{Some, slice_get}
use Rattle.system_model.specs.declared.system.Component.{Component}
use Rattle.flatten.specs.Flat.{IsComponentOf}
use Rattle.flatten.proofs.components.components.Given as goal

abbrev pub invariant-loop-number : goal.invariant-loop-number
invariant-loop-number l = record {
  len : length l.components.items ≡ l.number;
  each : (i : ℕ) (c : Component) → slice_get l.components.items i ≡ Some c → IsComponentOf l.parts l.shapes i c;
}
