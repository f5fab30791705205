use Rattle.std.proofs.Common.{◌≡◌, false, subst}
use Rattle.std.specs.List.{Contains}
use Rattle.system_model.specs.Ports.{port_numbers}
use Rattle.port_orders.specs.Gathered.{Adds}
use Rattle.port_orders.proofs.GatherLemmas.{adds_concerns}
use Rattle.port_orders.proofs.gathering.Gathering.add_port.Goals as goal

pub returns-clause-adds : goal.returns-clause-adds
returns-clause-adds c =
    adds_concerns c.add_knowns.result c.args.taken.now c.args.number c.args.components.now c.args.initializing c.args.port.now c.args.table.now c.args.self.now.lists c.add_source.new.self.lists c.add_clocks.new.self.lists c.add_knowns.new.self.lists
    c.in_ok-add_source.ensures.adds
    (subst (λ z. Adds c.args.taken.now c.args.number (λ q. (c.args.initializing ≡ false) × Contains (port_numbers z) q) c.add_source.new.self.lists c.add_clocks.new.self.lists) c.as_slice.ensures c.in_ok-add_clocks.ensures.adds) c.add_knowns.ensures.adds
