use Rattle.ssd_tree.proofs.NestedLemmas as lemmas
use Rattle.ssd_tree.proofs.law.one_nested.Goals as goal

pub returns : goal.returns
returns c = lemmas.one_nested
