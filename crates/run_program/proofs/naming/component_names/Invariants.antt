use Rattle.std.proofs.Common.{◌≡◌, ◌≤◌, ℕ, List, length, map, take, vec_capacity}
use Rattle.std.specs.Prelude.{All}
use Rattle.system_model.specs.declared.system.Component.{Component}
use Rattle.run_program.proofs.naming.component_names.Given as goal

abbrev pub invariant-loop-component : goal.invariant-loop-component
invariant-loop-component l = record {
  given : l.names.items ≡ map (λ (c : Component). c.name) (take l.component-index l.fn.components);
  within : l.component-index ≤ length l.fn.components;
  room : length l.fn.components ≤ vec_capacity l.names;
  longest : All (λ (name : List ℕ). length name ≤ l.longest) l.names.items;
}
