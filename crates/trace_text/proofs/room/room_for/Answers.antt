use Rattle.std.proofs.Common.{arith}
use Rattle.std.proofs.lemmas.Grind.{common_steps}
use Rattle.trace_text.proofs.RoomLemmas.{room_holds}
use Rattle.trace_text.proofs.room.room_for.Goals as goal

pub returns-clause-holds : goal.returns-clause-holds
returns-clause-holds c = room_holds c.args.system.now c.loop-port.room (grind (arith, common_steps)) c.loop-port.invariant.fits
