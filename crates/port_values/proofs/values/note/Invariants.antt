use Rattle.std.proofs.Common.{◌≡◌, ◌≤◌, take, length}
use Rattle.port_values.specs.Valued.{valued_ports}
use Rattle.port_values.proofs.values.note.Given as goal

abbrev pub invariant-loop-port : goal.invariant-loop-port
invariant-loop-port l = record {
  room : length l.there ≡ length l.fn.there;
  within : l.count ≤ l.port;
  noted : take l.count l.there ≡ valued_ports (take l.port l.values);
}
