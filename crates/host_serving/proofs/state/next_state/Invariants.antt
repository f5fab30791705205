-- The bytes that were taken are those of the state, of which there are no more than are wanted.
use Rattle.std.proofs.Common.{◌-◌, ◌≤◌, length, vec_len}
use Rattle.host_serving.specs.Frames.{Takes}
use Rattle.host_serving.proofs.state.next_state.Given as goal

abbrev pub invariant-parts : goal.invariant-parts
invariant-parts g l = Takes (g.I.Source.view l.initial.input) (g.I.Source.view l.input) l.state.items × (length l.state.items ≤ l.wanted)

abbrev pub decreases-parts : goal.decreases-parts
decreases-parts g l = l.wanted - vec_len l.state
