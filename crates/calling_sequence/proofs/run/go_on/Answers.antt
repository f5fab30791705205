use Rattle.calling_sequence.proofs.run.go_on.Goals as goal

pub returns-clause-breaks : goal.returns-clause-breaks
returns-clause-breaks g c olds past goes h = c.in-Err.ensures.comes olds past goes h
