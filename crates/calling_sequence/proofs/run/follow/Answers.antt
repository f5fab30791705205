use Rattle.calling_sequence.proofs.run.follow.Goals as goal

pub returns-in-Err-clause-breaks : goal.returns-in-Err-clause-breaks
returns-in-Err-clause-breaks g c olds past goes h = c.in-Err.ensures.crosses _ olds past h

pub returns-clause-breaks : goal.returns-clause-breaks
returns-clause-breaks g c olds past goes h = c.go_on.ensures.breaks olds past goes (c.in-Ok.ensures.crosses _ olds past h)
