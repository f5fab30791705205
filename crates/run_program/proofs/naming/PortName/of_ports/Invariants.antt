use Rattle.std.proofs.Common.{◌≡◌, ◌≤◌, length, map, take, vec_capacity}
use Rattle.std.specs.Prelude.{All}
use Rattle.run_program.specs.declared.naming.PortName.{PortName}
use Rattle.run_program.specs.Runs.{port_name}
use Rattle.run_program.proofs.naming.PortName.of_ports.Given as goal

abbrev pub invariant-loop-port : goal.invariant-loop-port
invariant-loop-port l = record {
  given : l.names.items ≡ map port_name (take l.port-index l.fn.ports);
  within : l.port-index ≤ length l.fn.ports;
  room : length l.fn.ports ≤ vec_capacity l.names;
  longest : All (λ (p : PortName). length p.name ≤ l.longest) l.names.items;
}
