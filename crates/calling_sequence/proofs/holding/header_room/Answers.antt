use Rattle.std.proofs.Common.{◌≤◌, ℕ, Option, None, Some, length}
use Rattle.std.specs.Prelude.{IfSome}
use Rattle.system_model.specs.declared.system.System.{System}
use Rattle.system_model.specs.Text.{header_text}
use Rattle.trace_text.specs.Room.{HoldsEach, IsCount}
use Rattle.calling_sequence.proofs.holding.header_room.Goals as goal

fits : (system : System) (resolution start stop : ℕ) → IsCount resolution → IsCount start → IsCount stop → (room : Option ℕ) → IfSome room (HoldsEach system) → IfSome room (λ n. length (header_text system resolution start stop) ≤ n)
fits system resolution start stop r a o None holds = tt
fits system resolution start stop r a o (Some n) holds = holds.header resolution start stop r a o

pub returns : goal.returns
returns c = fits c.args.system.now c.args.resolution c.args.start c.args.stop c.ranges.resolution.fits c.ranges.start.fits c.ranges.stop.fits c.room_for.result c.room_for.ensures.holds
