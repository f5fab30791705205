use Rattle.calling_sequence.proofs.resuming.follow.Goals as goal

pub returns-in-None-clause-breaks : goal.returns-in-None-clause-breaks
returns-in-None-clause-breaks g c olds past goes h = c.in-None.ensures.steps _ _ olds past (goes.leaves c.args.point c.requires.before) h

pub returns-in-Some-clause-breaks : goal.returns-in-Some-clause-breaks
returns-in-Some-clause-breaks g c olds past goes h = c.go_on.ensures.breaks olds past goes (c.in-Some.ensures.steps _ _ olds past (goes.leaves c.args.point c.requires.before) h)
