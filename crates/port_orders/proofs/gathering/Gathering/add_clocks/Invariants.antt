use Rattle.std.proofs.Common.{◌≡◌, false, length, take, Contains}
use Rattle.system_model.specs.Ports.{port_numbers}
use Rattle.port_orders.specs.Gathered.{IsGathering, Adds}
use Rattle.port_orders.proofs.gathering.Gathering.add_clocks.Given as goal

abbrev pub invariant-loop-clock : goal.invariant-loop-clock
invariant-loop-clock l = record {
  held : IsGathering (length l.taken) l.self.stamps.items l.self.lists;
  adds : Adds l.taken l.port (λ q. (l.initializing ≡ false) × Contains (port_numbers (take l.clock-index l.clocks)) q) l.initial.self.lists l.self.lists;
}
