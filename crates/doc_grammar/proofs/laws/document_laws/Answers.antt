use Rattle.doc_grammar.specs.Grammar.{strict}
use Rattle.doc_grammar.specs.Machine.{start}
use Rattle.doc_grammar.proofs.Backward.{run_sound}
use Rattle.doc_grammar.proofs.Forward.{run_complete}
use Rattle.doc_grammar.proofs.Judging.{one_tree, judged_fault, end_fault}
use Rattle.doc_grammar.proofs.OneFault.{one_fault}
use Rattle.doc_grammar.proofs.Encoded.{document_utf8}
use Rattle.doc_grammar.proofs.Built.{ordered}
use Rattle.doc_grammar.proofs.Bounded.{bounded}
use Rattle.doc_grammar.proofs.laws.document_laws.Goals as goal

pub returns-clause-one_tree : goal.returns-clause-one_tree
returns-clause-one_tree c = λ bytes first second h k. one_tree bytes first second h k

pub returns-clause-one_fault : goal.returns-clause-one_fault
returns-clause-one_fault c = λ bytes first second a b h k. one_fault bytes first second a b h k

pub returns-clause-encoded : goal.returns-clause-encoded
returns-clause-encoded c = λ bytes tree h. document_utf8 strict bytes tree h

pub returns-clause-sound : goal.returns-clause-sound
returns-clause-sound c = λ text tree h. run_sound strict text start tree h

pub returns-clause-complete : goal.returns-clause-complete
returns-clause-complete c = λ text tree h. run_complete strict text tree h

pub returns-clause-judged : goal.returns-clause-judged
returns-clause-judged c = λ prefix x rest s out why i u h e. judged_fault prefix x rest s out why i u h e

pub returns-clause-cut : goal.returns-clause-cut
returns-clause-cut c = λ text s out u h f. end_fault text s out u h f

pub returns-clause-ordered : goal.returns-clause-ordered
returns-clause-ordered c = λ c. ordered c

pub returns-clause-bounded : goal.returns-clause-bounded
returns-clause-bounded c = λ bytes nodes h. bounded bytes nodes h
