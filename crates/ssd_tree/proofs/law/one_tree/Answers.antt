use Rattle.ssd_tree.proofs.OneLemmas as lemmas
use Rattle.ssd_tree.proofs.law.one_tree.Goals as goal

pub returns : goal.returns
returns c = lemmas.one_tree
