use Rattle.fmu_description.specs.Elements.{clock_key, initial_key, output_key, variable_key}
use Rattle.fmu_description.specs.Places.{AreListedBelow}
use Rattle.fmu_description.proofs.places.kind_places.Given as goal

abbrev pub invariant-loop-node : goal.invariant-loop-node
invariant-loop-node l =
    AreListedBelow (variable_key l.tree) l.node l.variables.items × AreListedBelow (clock_key l.tree) l.node l.clocks.items
    × AreListedBelow (output_key l.tree) l.node l.outputs.items × AreListedBelow (initial_key l.tree) l.node l.unknowns.items
