use Rattle.std.proofs.Common.{length, take, Contains}
use Rattle.port_orders.specs.Gathered.{IsGathering, Adds}
use Rattle.port_orders.proofs.gathering.Gathering.add_all.Given as goal

abbrev pub invariant-loop-need : goal.invariant-loop-need
invariant-loop-need l = record {
  held : IsGathering (length l.taken) l.self.stamps.items l.self.lists;
  adds : Adds l.taken l.port (Contains (take l.need-index l.needs)) l.initial.self.lists l.self.lists;
}
