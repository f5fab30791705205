use Rattle.structure_laws.proofs.NamedLemmas.{orderly_tree}
use Rattle.structure_laws.proofs.NestedLemmas.{own_names, placed_among}
use Rattle.structure_laws.proofs.Order.{order}
use Rattle.structure_laws.proofs.laws.orderly_trees.Goals as goal

pub returns-clause-orderly : goal.returns-clause-orderly
returns-clause-orderly c = λ bytes document tree denotes sound describes. orderly_tree document (order c.document_laws.ensures.ordered bytes document denotes) tree sound describes

pub returns-clause-placed : goal.returns-clause-placed
returns-clause-placed c = λ bytes document tree s nested denotes sound describes says.
    placed_among document (order c.document_laws.ensures.ordered bytes document denotes) tree sound describes s nested says

pub returns-clause-named : goal.returns-clause-named
returns-clause-named c = λ bytes document tree s nested denotes sound describes says.
    own_names document (order c.document_laws.ensures.ordered bytes document denotes) tree sound describes s nested says
