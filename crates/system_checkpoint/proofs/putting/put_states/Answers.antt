use Rattle.std.proofs.Common.{ap, arith, length}
use Rattle.system_checkpoint.specs.Spelling.{sized}
use Rattle.system_checkpoint.proofs.LengthLemmas.{sized_len}
use Rattle.system_checkpoint.proofs.PutLemmas.{next_room}
use Rattle.system_checkpoint.proofs.putting.put_states.Goals as goal

pub put_sized-requires-clause-room : goal.put_sized-requires-clause-room
put_sized-requires-clause-room c =
    let inv = c.loop-state.invariant in
    let state = c.state-item.result in
    let fits = next_room sized c.args.states.now c.loop-state.state-index state state c.args.out.now.items c.loop-state.out.items _ _ _ c.state-item.is c.loop-state-test.true inv.text c.args.out.now.ok.0 c.loop-state.out.ok.0 c.requires.room in
    let size = sized_len state in
    let given = ap length c.as_slice.ensures in
    omega (arith, fits, inv.room, size, given)
