use Rattle.std.proofs.Common.{arith}
use Rattle.fmu_link.proofs.StateLemmas.{few_after}
use Rattle.fmu_link.proofs.piped.state_over.Goals as goal

pub state_after-requires-clause-room : goal.state_after-requires-clause-room
state_after-requires-clause-room g c =
    let few = few_after _ _ _ _ c.answer_over-answer.ensures in
    let room = c.requires.room in
    omega (arith, few, room)

pub returns-clause-noted : goal.returns-clause-noted
returns-clause-noted g c = record { answer = _; mid = _; called = c.answer_over-answer.ensures; after = c.state_after.ensures.noted }
