use Rattle.std.proofs.Common.{◌≤◌, length, arith}
use Rattle.fmu_description.specs.Elements.{name_key}
use Rattle.fmu_description.proofs.NameLemmas.{all_named}
use Rattle.fmu_description.proofs.TableLemmas.{name_key_within}
use Rattle.fmu_description.proofs.names.named_in_order.Goals as goal

pub returns-clause-named : goal.returns-clause-named
returns-clause-named c =
    let t = c.args.tree.now in
    let past : length t ≤ c.loop-node.node = omega arith in
    all_named (name_key t) c.loop-node.node c.loop-node.named.items c.sort_unstable.new.self.items c.loop-node.invariant
    (λ k x some. let within = name_key_within t k x some in omega arith) c.sort_unstable.ensures.permutation
