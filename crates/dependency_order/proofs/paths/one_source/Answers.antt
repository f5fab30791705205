use Rattle.dependency_order.proofs.SourceLemmas.{sources_exact}
use Rattle.dependency_order.proofs.paths.one_source.Goals as goal

pub returns-clause-exact : goal.returns-clause-exact
returns-clause-exact c = sources_exact c.reached_from.result c.args.links.now c.args.through.now c.args.starts.now c.requires.single c.requires.apart c.reached_from.ensures.spread
