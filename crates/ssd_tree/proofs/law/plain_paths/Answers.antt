use Rattle.ssd_tree.proofs.PlainLemmas as lemmas
use Rattle.ssd_tree.proofs.law.plain_paths.Goals as goal

pub returns : goal.returns
returns c = lemmas.plain_paths
