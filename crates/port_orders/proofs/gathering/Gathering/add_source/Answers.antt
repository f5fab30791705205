use Rattle.std.proofs.Common.{◌∙◌, sym}
use Rattle.port_orders.proofs.GatherLemmas.{adds_source}
use Rattle.port_orders.proofs.gathering.Gathering.add_source.Goals as goal

pub returns-in-Some-clause-adds : goal.returns-in-Some-clause-adds
returns-in-Some-clause-adds c = adds_source c.add.result c.args.taken.now c.args.port c.args.role.now c.in-Some.source _ _ (sym c.source_of.ensures ∙ c.in-Some.is) c.add.ensures.adds
