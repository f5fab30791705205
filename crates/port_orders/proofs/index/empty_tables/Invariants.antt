use Rattle.std.proofs.Common.{◌≡◌, [], map, take}
use Rattle.system_model.specs.declared.system.Component.{Component}
use Rattle.port_orders.proofs.index.empty_tables.Given as goal

abbrev pub invariant-loop-component : goal.invariant-loop-component
invariant-loop-component l = l.tables.items ≡ map (λ (c : Component). []) (take l._component-index l.components)
