use Rattle.std.proofs.Common.{◌≡◌, length, take}
use Rattle.connection_paths.specs.Firsts.{AreLinks}
use Rattle.connection_paths.proofs.links.links.Given as goal

abbrev pub invariant-loop-connection : goal.invariant-loop-connection
invariant-loop-connection l = record {
  len : length l.links ≡ length l.firsts;
  links : AreLinks l.firsts (take l.connection-index l.connections) l.links;
}
