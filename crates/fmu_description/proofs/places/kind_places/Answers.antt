use Rattle.std.proofs.Common.{arith}
use Rattle.fmu_description.specs.Elements.{clock_key, initial_key, output_key, variable_key}
use Rattle.fmu_description.proofs.PlaceLemmas.{all_listed}
use Rattle.fmu_description.proofs.TableLemmas.{clock_key_within, initial_key_within, output_key_within, variable_key_within}
use Rattle.fmu_description.proofs.places.kind_places.Goals as goal

pub loop-node-preserved : goal.loop-node-preserved
loop-node-preserved c =
    let tree = c.args.tree.now in
    let i = c.loop-node.invariant in (
      c.in_ok-add.ensures (variable_key tree) c.variable_key.ensures i.0,
      c.in_ok-add-2.ensures (clock_key tree) c.clock_key.ensures i.1,
      c.in_ok-add-3.ensures (output_key tree) c.output_key.ensures i.2,
      c.in_ok-add-4.ensures (initial_key tree) c.initial_key.ensures i.3,
    )

pub returns-clause-variables : goal.returns-clause-variables
returns-clause-variables c =
    let key = variable_key c.args.tree.now in
    c.new.ensures key (all_listed key c.loop-node.node c.loop-node.variables.items (λ k x is. let within = variable_key_within c.args.tree.now k x is in omega arith) c.loop-node.invariant.0)

pub returns-clause-clocks : goal.returns-clause-clocks
returns-clause-clocks c =
    let key = clock_key c.args.tree.now in
    c.new-2.ensures key (all_listed key c.loop-node.node c.loop-node.clocks.items (λ k x is. let within = clock_key_within c.args.tree.now k x is in omega arith) c.loop-node.invariant.1)

pub returns-clause-outputs : goal.returns-clause-outputs
returns-clause-outputs c =
    let key = output_key c.args.tree.now in
    c.new-3.ensures key (all_listed key c.loop-node.node c.loop-node.outputs.items (λ k x is. let within = output_key_within c.args.tree.now k x is in omega arith) c.loop-node.invariant.2)

pub returns-clause-initial_unknowns : goal.returns-clause-initial_unknowns
returns-clause-initial_unknowns c =
    let key = initial_key c.args.tree.now in
    c.new-4.ensures key (all_listed key c.loop-node.node c.loop-node.unknowns.items (λ k x is. let within = initial_key_within c.args.tree.now k x is in omega arith) c.loop-node.invariant.3)
