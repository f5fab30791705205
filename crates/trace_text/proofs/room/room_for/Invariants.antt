use Rattle.std.proofs.Common.{drop, sum_by}
use Rattle.trace_text.specs.Room.{port_room, room_of}
use Rattle.trace_text.proofs.RoomLemmas.{SumsUp}
use Rattle.trace_text.proofs.room.room_for.Given as goal

abbrev pub invariant-loop-port : goal.invariant-loop-port
invariant-loop-port l = SumsUp l.room (sum_by (port_room l.components) (drop l.port-index l.port-items)) (room_of l.system)
