use Rattle.nesting_laws.proofs.NameLemmas as names
use Rattle.nesting_laws.proofs.OrderlyLemmas as orderly
use Rattle.nesting_laws.proofs.laws.inlined_laws.Goals as goal

pub returns-clause-orderly : goal.returns-clause-orderly
returns-clause-orderly c = λ outer inner place component f elements count out within at. orderly.whole_orderly outer inner place component f elements count out within at

pub returns-clause-named : goal.returns-clause-named
returns-clause-named c = λ outer inner place component f elements count scope out within at stands name_is ours theirs.
    names.whole_named outer inner place component f elements count out within at ours theirs scope stands name_is
