use Rattle.structure_laws.proofs.NamedLemmas.{named_tree}
use Rattle.structure_laws.proofs.Order.{order}
use Rattle.structure_laws.proofs.laws.named_trees.Goals as goal

pub returns : goal.returns
returns c = λ bytes document tree denotes sound describes. named_tree document (order c.document_laws.ensures.ordered bytes document denotes) tree sound describes
