-- The stored orders of a system, or a loop of its ports.
use Rattle.std.specs.Prelude.{◌≡◌, ℕ, ◌<◌, Bool, true, false, List, [], length, ⊤}
use Rattle.sim_base.specs.declared.numbers.PortId.{PortId}
use Rattle.system_model.specs.declared.system.Component.{Component}
use Rattle.system_model.specs.declared.system.Port.{Port}
use Rattle.system_model.specs.declared.system.System.{System}
use Rattle.system_model.specs.Ports.{port_numbers}
use Rattle.system_model.specs.Needs.{Needs, NeedsInitially, is_unclocked_at}
use Rattle.system_model.specs.Orders.{IsOrder}
use Rattle.dependency_order.specs.Graph.{IsLoop, BeginsLeast}
use Rattle.port_orders.specs.declared.orders.Orders.{Orders}
use Rattle.port_orders.specs.declared.orders.OrderFault.{OrderFault}
use Rattle.port_orders.specs.declared.orders.OrderFault.TheVariants.{Loop, Memory}

-- a system of these components and ports in these orders; what ports need is the same in all of them
abbrev pub in_orders : List Component → List Port → List PortId → List PortId → System
in_orders components ports instant_order initial_order =
    record {
      components = components;
      ports = ports;
      instant_order = instant_order;
      initial_order = initial_order;
    }

abbrev pub unordered : List Component → List Port → System
unordered components ports = in_orders components ports [] []

-- the orders are what a sound system has
pub record HasOrders (system : System) : Type 0 where
  pub instant_order : IsOrder (λ p. p < length system.ports) (Needs system)
      (port_numbers system.instant_order)
  pub initial_order : IsOrder (λ p. is_unclocked_at system.ports p ≡ true) (NeedsInitially system)
      (port_numbers system.initial_order)

abbrev pub AreOrders : List Component → List Port → Orders → Type 0
AreOrders components ports orders =
    HasOrders (in_orders components ports orders.instant_order orders.initial_order)

-- each of these ports needs the next, the last the first, and the least is told first; there is no order then
pub record IsPortLoop (IsAmong : ℕ → Type 0) (NeedsOf : ℕ → ℕ → Type 0)
    (nodes : List ℕ) : Type 0 where
  pub loop : IsLoop NeedsOf nodes
  pub least : BeginsLeast nodes
  pub no_order : (order : List ℕ) → IsOrder IsAmong NeedsOf order → ⊥

-- for instants, or for Initialization Mode
abbrev pub IsOrderIn : Bool → System → List ℕ → Type 0
IsOrderIn false system order = IsOrder (λ p. p < length system.ports) (Needs system) order
IsOrderIn true system order =
    IsOrder (λ p. is_unclocked_at system.ports p ≡ true) (NeedsInitially system) order

abbrev pub IsLoopIn : Bool → System → List ℕ → Type 0
IsLoopIn false system nodes = IsPortLoop (λ p. p < length system.ports) (Needs system) nodes
IsLoopIn true system nodes =
    IsPortLoop (λ p. is_unclocked_at system.ports p ≡ true) (NeedsInitially system) nodes

-- a loop of the instants; of Initialization Mode only where the instants have an order
pub data HasLoop (system : System) (nodes : List ℕ) : Type 0 where
  OfInstants : IsLoopIn false system nodes → HasLoop system nodes
  OfInitialization : (order : List ℕ) → IsOrderIn false system order → IsLoopIn true system nodes →
      HasLoop system nodes

abbrev pub HasCauseIn : Bool → System → OrderFault → Type 0
HasCauseIn initializing system (Loop nodes) = IsLoopIn initializing system (port_numbers nodes)
HasCauseIn initializing system Memory = ⊤

abbrev pub HasCause : List Component → List Port → OrderFault → Type 0
HasCause components ports (Loop nodes) = HasLoop (unordered components ports) (port_numbers nodes)
HasCause components ports Memory = ⊤
