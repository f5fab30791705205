use Rattle.std.proofs.Common.{length, take}
use Rattle.port_orders.specs.Gathered.{IsGathering, Adds, IsReferred}
use Rattle.port_orders.proofs.gathering.Gathering.add_referred.Given as goal

abbrev pub invariant-loop-reference : goal.invariant-loop-reference
invariant-loop-reference l = record {
  held : IsGathering (length l.taken) l.self.stamps.items l.self.lists;
  adds : Adds l.taken l.number (IsReferred l.components l.port (take l.reference-index l.on) l.table) l.initial.self.lists l.self.lists;
}
