use Rattle.port_orders.proofs.OutcomeLemmas.{has_orders, second_cause}
use Rattle.system_model.specs.Ports.{port_numbers}
use Rattle.port_orders.proofs.orders.order_system.Goals as goal

pub returns-in-Ok-clause-orders : goal.returns-in-Ok-clause-orders
returns-in-Ok-clause-orders c = has_orders c.args.components.now c.args.ports.now c.in_ok-instant_order.instant_order c.in-Ok.initial_order c.in_ok-instant_order.ensures.order c.in-Ok.ensures.order

pub returns-in-Err-clause-cause : goal.returns-in-Err-clause-cause
returns-in-Err-clause-cause c = second_cause c.args.components.now c.args.ports.now (port_numbers c.in_ok-instant_order.instant_order) c.in_ok-instant_order.ensures.order c.in-Err.fault c.in-Err.ensures.cause
