use Rattle.std.proofs.Common.{◌≡◌, ◌+◌, ◌*◌, ◌≤◌, ◌++◌, length, take}
use Rattle.sim_base.specs.Escape.{escaped}
use Rattle.run_program.proofs.message.append_parts.Given as goal

-- what stands, with the parts that are left after it, is the whole; and there is room for these
abbrev pub invariant-loop-part : goal.invariant-loop-part
invariant-loop-part l = record {
  text : take l.end l.text ++ escaped l.parts.0 ≡ take l.fn.at l.fn.text ++ escaped l.name;
  room : l.end + 3 * length l.parts.0 ≤ l.fn.at + 3 * length l.name;
}

abbrev pub decreases-loop-part : goal.decreases-loop-part
decreases-loop-part l = l.parts.1
