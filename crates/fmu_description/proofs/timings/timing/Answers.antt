use Rattle.std.proofs.lemmas.Option.{MatchOption-at_some}
use Rattle.fmu_description.specs.Clocks.{IsInterval}
use Rattle.fmu_description.proofs.SoundLemmas.{has_reference, has_variability, has_shift, is_variable_from_clock}
use Rattle.fmu_description.proofs.timings.timing.Goals as goal

pub unwrap-requires : goal.unwrap-requires
unwrap-requires c =
    rw c.reference_of.ensures
    (has_reference c.args.tree.now c.args.node c.requires.sound (is_variable_from_clock c.args.tree.now c.args.node c.requires.timed.0))

pub unwrap-requires-2 : goal.unwrap-requires-2
unwrap-requires-2 c = rw c.variability_of.ensures (has_variability c.args.tree.now c.args.node c.requires.sound c.requires.timed)

pub shift_beside-requires : goal.shift_beside-requires
shift_beside-requires c = λ f told.
    has_shift c.args.tree.now c.args.node c.requires.sound c.requires.timed.0 f
    (MatchOption-at_some (Unit {0}) (IsInterval c.args.tree.now c.args.node) f told c.interval-interval.ensures.value)
