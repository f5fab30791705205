use Rattle.doc_tree.proofs.ChildLemmas.{with_child_is}
use Rattle.doc_tree.proofs.tree.adopt.Goals as goal

pub returns-clause-lists : goal.returns-clause-lists
returns-clause-lists c = with_child_is c.args.children.now.items c.args.parent c.args.node c.index_mut.result.now c.push.new.self c.requires c.index_mut.ensures.value c.in_ok-push.ensures.items
