-- What ports need is the same in any orders; and which fault is told.
use Rattle.std.proofs.Common.{ℕ, Bool, true, false, List}
use Rattle.sim_base.specs.declared.numbers.PortId.{PortId}
use Rattle.system_model.specs.declared.system.Component.{Component}
use Rattle.system_model.specs.declared.system.Port.{Port}
use Rattle.system_model.specs.Needs.{DependsOn, Needs, NeedsInitially, ByFeed, ByClock, ByDependency, InitiallyByFeed, InitiallyByDependency}
use Rattle.system_model.specs.Ports.{port_numbers}
use Rattle.port_orders.specs.declared.orders.OrderFault.{OrderFault}
use Rattle.port_orders.specs.declared.orders.OrderFault.TheVariants.{Loop, Memory}
use Rattle.port_orders.specs.Outcome.{HasCause, HasCauseIn, OfInitialization, HasOrders, IsOrderIn, in_orders, unordered}

module _ (components : List Component) (ports : List Port) (a b : List PortId) where
  depends_same : (initializing : Bool) (p q : ℕ) → DependsOn (in_orders components ports a b) initializing p q → DependsOn (unordered components ports) initializing p q
  depends_same initializing p q d = record { port = d.port; on = d.on; component = d.component; at = d.at; there = d.there; of = d.of; same = d.same; output = d.output; declared = d.declared }

  needs_same : (p q : ℕ) → Needs (in_orders components ports a b) p q → Needs (unordered components ports) p q
  needs_same p q (ByFeed port at e) = ByFeed port at e
  needs_same p q (ByClock port at c) = ByClock port at c
  needs_same p q (ByDependency d events) = ByDependency (record { port = d.port; on = d.on; component = d.component; at = d.at; there = d.there; of = d.of; same = d.same; output = d.output; declared = d.declared }) events

  initially_same : (p q : ℕ) → NeedsInitially (in_orders components ports a b) p q → NeedsInitially (unordered components ports) p q
  initially_same p q (InitiallyByFeed u v port at e) = InitiallyByFeed u v port at e
  initially_same p q (InitiallyByDependency u v d) = InitiallyByDependency u v (depends_same true p q d)

  pub has_orders : IsOrderIn false (unordered components ports) (port_numbers a) → IsOrderIn true (unordered components ports) (port_numbers b) → HasOrders (in_orders components ports a b)
  has_orders o i = record {
    instant_order = record { each = o.each; only = o.only; once = o.once; after = λ before later p q e h. o.after before later p q e (needs_same p q h) };
    initial_order = record { each = i.each; only = i.only; once = i.once; after = λ before later p q e h. i.after before later p q e (initially_same p q h) };
  }

pub second_cause : (components : List Component) (ports : List Port) (order : List ℕ) → IsOrderIn false (unordered components ports) order → (fault : OrderFault) → HasCauseIn true (unordered components ports) fault → HasCause components ports fault
second_cause components ports order o (Loop nodes) l = OfInitialization order o l
second_cause components ports order o Memory l = l
