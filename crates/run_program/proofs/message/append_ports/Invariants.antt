use Rattle.std.proofs.Common.{◌≡◌, ◌+◌, ◌*◌, ◌≤◌, ◌++◌, length, take}
use Rattle.run_program.specs.Message.{numbers_text}
use Rattle.run_program.proofs.message.append_ports.Given as goal

abbrev pub invariant-loop-port : goal.invariant-loop-port
invariant-loop-port l = record {
  within : l.port-index ≤ length l.ports;
  room : length l.text ≡ length l.fn.text;
  end : l.end ≤ l.at + 21 * l.port-index;
  text : take l.end l.text ≡ take l.at l.fn.text ++ numbers_text (take l.port-index l.ports);
}
